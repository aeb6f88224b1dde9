-- Laws of holes: the test and the facts, the code's walk over them, frames outside them, and words that keep them.
-- Assumes nothing.
use Prim.Native.Nat.{ℕ, zero, suc, ◌+◌, ◌-◌, ◌*◌, ◌<◌, ◌≤◌, zero-le}
use mathlib.Core.Path.{◌≡◌, refl, sym, ap, ap₂, subst, ◌∙◌}
use mathlib.Core.List.{List, ◌++◌}
use mathlib.Core.Bool.{Bool, true, false, not, ◌&&◌, false≢true}
use native.Mathlib.Numerals.{add-one}
use native.Mathlib.Omega.{arith}
use borrow.Author.Tests.{leb-true, leb-false, ltb-true, ltb-false, le-leb, lt-ltb}
use lib.Dec.{eqb, leb, ltb}
use lib.ListN.{length, get_or, take, drop, length-drop}
use lib.Seq.{get_or-drop}
use Rattle.std.proofs.lemmas.List.{length-append, length-take-le, get_or-take, get_or_append_left, get_or-append_right}
use Rattle.layout.specs.Bounded.{all}
use Rattle.board.specs.CodeHoles.{hole_fits}
use Rattle.board.specs.Holes.{hole_first, hole_length, hole_end, at_most_eight, ascending, disjoint, not_empty, end_below, holes_fit, HolesFit, lies_in, outside_all, hole_count, hole_words, holes_as_laid_out, outside}
use Rattle.layout.proofs.BoundedLaws.{and_both, and_of, is_false, all_at, all_of, all_fails, all_cong}

-- Below a number or not; and up to it, below it or at it.
either_side : {P : Type 0} (a b : ℕ) → (a < b → P) → (b ≤ a → P) → P
either_side {P} a b below above = go (ltb a b) refl
  where
    go : (t : Bool) → ltb a b ≡ t → P
    go true e = below (ltb-true a b e)
    go false e = above (ltb-false a b e)

pub up_to : {P : Type 0} (a b : ℕ) → a ≤ b → (a < b → P) → (a ≡ b → P) → P
up_to a b most below at = either_side a b below (λ above. at (omega arith))

-- ---- The test and the facts
module _ (p n : ℕ) (hs : List ℕ) where
  pub fit_facts : holes_fit p n hs ≡ true → HolesFit p n hs
  unfolding holes_fit
  fit_facts h =
      let e = and_both (at_most_eight n && ascending n hs && disjoint n hs && not_empty n hs) (end_below p n hs) h in
      let d = and_both (at_most_eight n && ascending n hs && disjoint n hs) (not_empty n hs) e.0 in
      let c = and_both (at_most_eight n && ascending n hs) (disjoint n hs) d.0 in
      let b = and_both (at_most_eight n) (ascending n hs) c.0 in
      record {
        at_most = leb-true n 8 b.0;
        ascend = λ i l. ltb-true (hole_first hs i) (hole_first hs (suc i)) (all_at (n - 1) (λ k. ltb (hole_first hs k) (hole_first hs (suc k))) b.1 i (omega arith));
        apart = λ i l. leb-true (hole_end hs i) (hole_first hs (suc i)) (all_at (n - 1) (λ k. leb (hole_end hs k) (hole_first hs (suc k))) c.1 i (omega arith));
        some = λ i l. ltb-true 0 (hole_length hs i) (all_at n (λ k. ltb 0 (hole_length hs k)) d.1 i l);
        below = λ i l. leb-true (hole_end hs i) p (all_at n (λ k. leb (hole_end hs k) p) e.1 i l);
      }

  pub fit_test : HolesFit p n hs → holes_fit p n hs ≡ true
  unfolding holes_fit
  fit_test h =
      and_of
      (and_of
      (and_of
      (and_of
      (le-leb n 8 h.at_most)
      (all_of (n - 1) (λ i. ltb (hole_first hs i) (hole_first hs (suc i))) (λ i l. lt-ltb (hole_first hs i) (hole_first hs (suc i)) (h.ascend i (omega arith)))))
      (all_of (n - 1) (λ i. leb (hole_end hs i) (hole_first hs (suc i))) (λ i l. le-leb (hole_end hs i) (hole_first hs (suc i)) (h.apart i (omega arith)))))
      (all_of n (λ i. ltb 0 (hole_length hs i)) (λ i l. lt-ltb 0 (hole_length hs i) (h.some i l))))
      (all_of n (λ i. leb (hole_end hs i) p) (λ i l. le-leb (hole_end hs i) p (h.below i l)))

-- No holes fit.
pub fit_none : (p : ℕ) (hs : List ℕ) → HolesFit p 0 hs
fit_none p hs =
    record { at_most = omega arith; ascend = λ i l. absurd (omega arith); apart = λ i l. absurd (omega arith); some = λ i l. absurd (omega arith); below = λ i l. absurd (omega arith) }

-- The words of the holes are all that matters.
pub fit_same : (p n : ℕ) (hs ks : List ℕ) → ((j : ℕ) → j < 2 * n → get_or ks j 0 ≡ get_or hs j 0) → HolesFit p n hs → HolesFit p n ks
fit_same p n hs ks same h =
    record {
      at_most = h.at_most;
      ascend = λ i l. omega (arith, h.ascend i l, same (2 * i) (omega arith), same (2 * suc i) (omega arith));
      apart = λ i l. omega (arith, h.apart i l, same (2 * i) (omega arith), same (2 * i + 1) (omega arith), same (2 * suc i) (omega arith));
      some = λ i l. omega (arith, h.some i l, same (2 * i + 1) (omega arith));
      below = λ i l. omega (arith, h.below i l, same (2 * i) (omega arith), same (2 * i + 1) (omega arith));
    }

-- ---- One hole after the other
-- The words left: those of n holes from hole i on.
pub record Left (n i : ℕ) (hs rest : List ℕ) : Type 0 where
  pub within : i ≤ n
  pub long : length rest ≡ 2 * (n - i)
  pub same : (k : ℕ) → k < 2 * (n - i) → get_or rest k 0 ≡ get_or hs (2 * i + k) 0

pub all_left : (w : List ℕ) (at n : ℕ) → at + 2 * n ≤ length w → Left n 0 (drop at w) (take (2 * n) (drop at w))
all_left w at n l =
    record {
      within = zero-le;
      long = let d = length-drop at w in omega (arith, length-take-le (2 * n) (drop at w) (omega arith));
      same = λ k m. let there : k ≡ 2 * 0 + k = omega arith in get_or-take (2 * n) (drop at w) k 0 (omega arith) ∙ ap (λ (j : ℕ). get_or (drop at w) j 0) there;
    }

-- A pair taken off them is hole i, and the rest is left.
pub record Taken (n i : ℕ) (hs pair more : List ℕ) : Type 0 where
  pub some : i < n
  pub first_is : get_or pair 0 0 ≡ hole_first hs i
  pub length_is : get_or pair 1 0 ≡ hole_length hs i
  pub left : Left n (i + 1) hs more

pub pair_taken : (n i : ℕ) (hs rest pair more : List ℕ) → Left n i hs rest → rest ≡ pair ++ more → length pair ≡ 2 → Taken n i hs pair more
pair_taken n i hs rest pair more h parts two =
    record {
      some = some;
      first_is = let here : 2 * i + 0 ≡ 2 * i = omega arith in word 0 (omega arith) ∙ ap (λ (j : ℕ). get_or hs j 0) here;
      length_is = word 1 (omega arith);
      left =
          record {
            within = omega (arith, some);
            long = omega (arith, all, h.long, some);
            same = λ k l.
                let there : 2 * i + (2 + k) ≡ 2 * (i + 1) + k = omega arith in
                let past : 2 + k - 2 ≡ k = omega arith in
                sym (get_or-append_right pair more 2 (2 + k) 0 two (omega arith) ∙ ap (λ (j : ℕ). get_or more j 0) past)
                ∙ ap (λ (ws : List ℕ). get_or ws (2 + k) 0) (sym parts) ∙ h.same (2 + k) (omega (arith, some)) ∙ ap (λ (j : ℕ). get_or hs j 0) there;
          };
    }
  where
    all : length rest ≡ 2 + length more
    all = ap length parts ∙ length-append pair more ∙ ap (λ (k : ℕ). k + length more) two

    some : i < n
    some = omega (arith, all, h.long)

    word : (k : ℕ) → k < 2 → get_or pair k 0 ≡ get_or hs (2 * i + k) 0
    word k l = sym (get_or_append_left pair more 0 k (omega arith)) ∙ ap (λ (ws : List ℕ). get_or ws k 0) (sym parts) ∙ h.same k (omega (arith, some))

-- Where the hole before hole i ends, 0 before the first.
unfoldable pub end_before : List ℕ → ℕ → ℕ
end_before hs zero = 0
end_before hs (suc i) = hole_end hs i

-- What the code asks of a hole.
module _ (p from first len : ℕ) where
  pub fits_facts : hole_fits p from first len ≡ true → (from ≤ first) × (0 < len) × (first + len ≤ p)
  fits_facts h =
      let b = and_both (leb from first && ltb 0 len) (leb (first + len) p) h in
      let a = and_both (leb from first) (ltb 0 len) b.0 in
      (leb-true from first a.0, ltb-true 0 len a.1, leb-true (first + len) p b.1)

module _ (p : ℕ) (hs : List ℕ) where
  -- The first i holes fit, and the next one may begin here.
  pub record Passed (i from : ℕ) : Type 0 where
    pub fit : HolesFit p i hs
    pub from_is : from ≡ end_before hs i

  pub passed_none : Passed 0 0
  unfolding end_before
  passed_none = record { fit = fit_none p hs; from_is = refl }

  -- The tests of hole i, as facts.
  tested : (i from first len : ℕ) → first ≡ hole_first hs i → len ≡ hole_length hs i → hole_fits p from first len ≡ true → (from ≤ hole_first hs i) × (0 < hole_length hs i) × (hole_end hs i ≤ p)
  tested i from first len f l h =
      let t = fits_facts p from first len h in
      (omega (arith, t.0, f), omega (arith, t.1, l), omega (arith, t.2, f, l))

  pub passed_next : (i from first len : ℕ) → i < 8 → Passed i from → first ≡ hole_first hs i → len ≡ hole_length hs i → hole_fits p from first len ≡ true → Passed (i + 1) (first + len)
  unfolding end_before
  passed_next i from first len small h f l fits =
      record {
        fit =
            record {
              at_most = omega arith;
              ascend = λ k m. omega (arith, joined k m, each (λ x. 0 < hole_length hs x) h.fit.some t.1 k (omega arith));
              apart = joined;
              some = each (λ x. 0 < hole_length hs x) h.fit.some t.1;
              below = each (λ x. hole_end hs x ≤ p) h.fit.below t.2;
            };
        from_is = ap₂ ◌+◌ f l ∙ sym (ap (end_before hs) (add-one i));
      }
    where
      t : (from ≤ hole_first hs i) × (0 < hole_length hs i) × (hole_end hs i ≤ p)
      t = tested i from first len f l fits

      -- What holds of the holes before and of this one.
      each : (P : ℕ → Type 0) → ((k : ℕ) → k < i → P k) → P i → (k : ℕ) → k < i + 1 → P k
      each P before here k m = up_to k i (omega arith) (before k) (λ e. subst P (sym e) here)

      begins : end_before hs i ≤ hole_first hs i
      begins = omega (arith, h.from_is, t.0)

      joined : (k : ℕ) → suc k < i + 1 → hole_end hs k ≤ hole_first hs (suc k)
      joined k m =
          up_to (suc k) i (omega arith) (h.fit.apart k) (λ e. subst (λ (x : ℕ). end_before hs x ≤ hole_first hs x) (sym e) begins)

  -- A hole that does not fit: the holes do not.
  begins_after : (n i : ℕ) → HolesFit p n hs → i < n → end_before hs i ≤ hole_first hs i
  unfolding end_before
  begins_after n zero h l = zero-le
  begins_after n (suc i) h l = h.apart i l

  pub passed_stops : (n i from first len : ℕ) → i < n → Passed i from → first ≡ hole_first hs i → len ≡ hole_length hs i → hole_fits p from first len ≡ false → false ≡ holes_fit p n hs
  passed_stops n i from first len l h f e fits =
      sym (is_false (holes_fit p n hs) λ test.
      let all_fit = fit_facts p n hs test in
      false≢true (sym fits ∙ and_of
      (and_of
      (le-leb from first (omega (arith, begins_after n i all_fit l, h.from_is, f)))
      (lt-ltb 0 len (omega (arith, all_fit.some i l, e))))
      (le-leb (first + len) p (omega (arith, all_fit.below i l, f, e)))))

  pub passed_all : (n i from : ℕ) → i ≤ n → n ≤ i → Passed i from → true ≡ holes_fit p n hs
  passed_all n i from least most h =
      let same : i ≡ n = omega arith in
      sym (fit_test p n hs (subst (λ (x : ℕ). HolesFit p x hs) same h.fit))

-- More than eight.
pub too_many : (p n : ℕ) (hs : List ℕ) → 8 < n → false ≡ holes_fit p n hs
too_many p n hs m = sym (is_false (holes_fit p n hs) (λ h. omega (arith, (fit_facts p n hs h).at_most)))

-- ---- What the code asks of all
module _ (p : ℕ) (s : List ℕ) where
  pub unfit_refused : holes_fit p (hole_count s) (hole_words s) ≡ false → false ≡ holes_as_laid_out p s
  unfolding holes_as_laid_out
  unfit_refused e = rw e

  pub unused_decided : (b : Bool) → holes_fit p (hole_count s) (hole_words s) ≡ true → b ≡ all (16 - 2 * hole_count s) (λ j. eqb (get_or s (9 + 2 * hole_count s + j) 0) 0) → b ≡ holes_as_laid_out p s
  unfolding holes_as_laid_out
  unused_decided b fit is =
      is
      ∙ all_cong (16 - 2 * hole_count s) (λ j. eqb (get_or s (9 + 2 * hole_count s + j) 0) 0) (λ j. eqb (get_or (hole_words s) (2 * hole_count s + j) 0) 0)
      (λ j l.
      let same : 9 + 2 * hole_count s + j ≡ 9 + (2 * hole_count s + j) = omega arith in
      ap (λ (k : ℕ). eqb (get_or s k 0) 0) same ∙ ap (λ (w : ℕ). eqb w 0) (sym (get_or-drop 9 s (2 * hole_count s + j) 0)))
      ∙ rw fit

-- ---- Frames outside
-- A frame that lies in a hole, and one that does not.
module _ (n : ℕ) (hs : List ℕ) where
  pub lies_in_lem : (f i : ℕ) → i < n → hole_first hs i ≤ f → f < hole_end hs i → outside_all n hs f ≡ false
  unfolding outside_all
  lies_in_lem f i l low high =
      all_fails n (λ k. not (lies_in hs f k)) i l (ap not (and_of (le-leb (hole_first hs i) f low) (lt-ltb f (hole_end hs i) high)))

  pub lies_out : (f : ℕ) → ((i : ℕ) → i < n → hole_first hs i ≤ f → f < hole_end hs i → ⊥) → outside_all n hs f ≡ true
  unfolding outside_all
  lies_out f none =
      all_of n (λ k. not (lies_in hs f k)) λ i l.
      ap not (is_false (lies_in hs f i) λ e.
      let both = and_both (leb (hole_first hs i) f) (ltb f (hole_end hs i)) e in
      none i l (leb-true (hole_first hs i) f both.0) (ltb-true f (hole_end hs i) both.1))

-- Without holes every frame is outside.
pub none_inside : (s : List ℕ) → hole_count s ≡ 0 → (f : ℕ) → outside s f ≡ true
none_inside s none f = lies_out (hole_count s) (hole_words s) f (λ i l _ _. absurd (omega arith))

module _ (p n : ℕ) (hs : List ℕ) (h : HolesFit p n hs) where
  -- Holes ascend, near and far.
  first_most : (i k : ℕ) → i ≤ k → k < n → hole_first hs i ≤ hole_first hs k
  first_most i zero l m = let is : i ≡ 0 = omega arith in subst (λ (x : ℕ). hole_first hs x ≤ hole_first hs 0) (sym is) (omega arith)
  first_most i (suc k) l m = go (first_most i k)
    where
      go : (i ≤ k → k < n → hole_first hs i ≤ hole_first hs k) → hole_first hs i ≤ hole_first hs (suc k)
      go before =
          up_to i (suc k) l
          (λ less. omega (arith, before (omega arith) (omega arith), h.ascend k m))
          (λ same. subst (λ (x : ℕ). hole_first hs x ≤ hole_first hs (suc k)) (sym same) (omega arith))

  -- No two share a frame.
  pub none_shared : (i k f : ℕ) → i < k → k < n → f < hole_end hs i → hole_first hs k ≤ f → ⊥
  none_shared i k f l m inside also =
      omega (arith, h.apart i (omega arith), first_most (suc i) k (omega arith) m)

  -- Every hole before hole i ends at frame f or before, and hole i after it: it decides on the m frames from f on.
  pub decided : (f m i : ℕ) → 1 ≤ m → i < n → ((k : ℕ) → k < i → hole_end hs k ≤ f) → f < hole_end hs i → leb (f + m) (hole_first hs i) ≡ all m (λ j. outside_all n hs (f + j))
  decided f m i some l before after = go (leb (f + m) (hole_first hs i)) refl
    where
      -- The frame of the run that lies in it.
      inside : hole_first hs i < f + m → all m (λ j. outside_all n hs (f + j)) ≡ false
      inside begins =
          let j = hole_first hs i - f in
          all_fails m (λ k. outside_all n hs (f + k)) j (omega arith) (lies_in_lem n hs (f + j) i l (omega arith) (omega (arith, h.some i l)))

      go : (b : Bool) → leb (f + m) (hole_first hs i) ≡ b → b ≡ all m (λ j. outside_all n hs (f + j))
      go true e =
          sym (all_of m (λ j. outside_all n hs (f + j)) λ j lj.
          lies_out n hs (f + j) λ k lk low high.
          either_side k i (λ earlier. omega (arith, before k earlier)) (λ later. omega (arith, leb-true (f + m) (hole_first hs i) e, first_most i k later lk)))
      go false e = sym (inside (leb-false (f + m) (hole_first hs i) e))

  -- Every hole does: no hole is in the way.
  pub all-before : (f m i : ℕ) → n ≤ i → ((k : ℕ) → k < i → hole_end hs k ≤ f) → true ≡ all m (λ j. outside_all n hs (f + j))
  all-before f m i most before =
      sym (all_of m (λ j. outside_all n hs (f + j)) λ j lj.
      lies_out n hs (f + j) λ k lk low high. omega (arith, before k (omega arith)))

-- ---- Words that keep the holes
-- Words r have the hole words of words s.
abbrev pub HolesKept : List ℕ → List ℕ → Type 0
HolesKept s r = (j : ℕ) → 8 ≤ j → j < 25 → get_or r j 0 ≡ get_or s j 0

module _ (s r : List ℕ) (k : HolesKept s r) where
  pub word_kept : (j : ℕ) → j < 16 → get_or (hole_words r) j 0 ≡ get_or (hole_words s) j 0
  word_kept j l = get_or-drop 9 r j 0 ∙ k (9 + j) (omega arith) (omega arith) ∙ sym (get_or-drop 9 s j 0)

  pub fit_kept : (p : ℕ) → HolesFit p (hole_count s) (hole_words s) → HolesFit p (hole_count r) (hole_words r)
  fit_kept p h =
      subst (λ (n : ℕ). HolesFit p n (hole_words r)) (sym (k 8 (omega arith) (omega arith)))
      (fit_same p (hole_count s) (hole_words s) (hole_words r) (λ j l. word_kept j (omega (arith, h.at_most))) h)

  pub outside_kept : hole_count s ≤ 8 → (f : ℕ) → outside r f ≡ outside s f
  unfolding outside_all
  outside_kept most f =
      ap (λ (n : ℕ). all n (λ i. not (lies_in (hole_words r) f i))) (k 8 (omega arith) (omega arith))
      ∙ all_cong (hole_count s) (λ i. not (lies_in (hole_words r) f i)) (λ i. not (lies_in (hole_words s) f i))
      (λ i l. ap₂ (λ (a b : ℕ). not (leb a f && ltb f (a + b))) (word_kept (2 * i) (omega arith)) (word_kept (2 * i + 1) (omega arith)))
