-- Laws of words that are gathered where they are not 0.
-- Assumes nothing.
use Prim.Native.Nat.{ℕ, zero, suc, ◌+◌, ◌<◌, zero-le}
use mathlib.Core.Path.{◌≡◌, refl, sym, ap, ap₂, ◌∙◌, subst}
use mathlib.Core.List.{List}
use mathlib.Core.Bool.{Bool, cond, not}
use mathlib.Core.Logic.{⊎_elim}
use native.Mathlib.Nat.{add-zero, not-suc-le-zero, eq-or-lt_of_le, le_of_suc-le-suc}
use native.Mathlib.Numerals.{add-one}
use native.Mathlib.Omega.{arith}
use lib.Dec.{eqb}
use lib.ListN.{length, get_or, set, take}
use Rattle.std.proofs.lemmas.List.{get_or-take}
use lib.Seq.{get_or-set_same, get_or-set_other}
use mir.Val.{bool_byte}
use borrow.Author.Tests.{ne_eqb}
use Rattle.layout.specs.Bounded.{count}
use Rattle.layout.specs.CodeWords.{Gathered}
use Rattle.layout.proofs.BoundedLaws.{count_none, count_next, count_cong}

-- Of no word.
pub none_gathered : (s : List ℕ) (at : ℕ) (words : List ℕ) → Gathered s at 0 words 0
none_gathered s at words =
    record { most = zero-le; some = λ k l. absurd (not-suc-le-zero l); same = λ p h. count_none _ ∙ sym (count_none _) }

-- Of one word more: it is written after the m words so far, and is one of them where it is not 0.
pub one_gathered : (s : List ℕ) (at n : ℕ) (words : List ℕ) (m x : ℕ) → x ≡ get_or s (at + n) 0 → m < length words → Gathered s at n words m
    → Gathered s at (n + 1) (set words m x) (m + bool_byte (not (eqb x 0)))
one_gathered s at n words m x word room h = by_word x refl
  where
    kept : (k : ℕ) → k < m → get_or (set words m x) k 0 ≡ get_or words k 0
    kept k l = get_or-set_other words m k x 0 (λ e. omega arith)

    kept_count : (p : ℕ → Bool) → count m (λ k. p (get_or (set words m x) k 0)) ≡ count m (λ k. p (get_or words k 0))
    kept_count p = count_cong m _ _ (λ k l. ap p (kept k l))

    next-count : (p : ℕ → Bool) → count (n + 1) (λ k. p (get_or s (at + k) 0)) ≡ count n (λ k. p (get_or s (at + k) 0)) + cond (p x) 1 0
    next-count p =
        count_next n (λ k. p (get_or s (at + k) 0))
        ∙ ap (λ (w : ℕ). count n (λ k. p (get_or s (at + k) 0)) + cond (p w) 1 0) (sym word)

    by_word : (w : ℕ) → x ≡ w → Gathered s at (n + 1) (set words m x) (m + bool_byte (not (eqb w 0)))
    by_word zero e =
        record {
          most = omega (arith, h.most);
          some = λ k l. let below : k < m = omega arith in subst (λ (w : ℕ). 0 < w) (sym (kept k below)) (h.some k below);
          same = λ p out. ap (λ (k : ℕ). count k (λ i. p (get_or (set words m x) i 0))) (add-zero m) ∙ kept_count p ∙ h.same p out
              ∙ sym (next-count p ∙ ap (λ (b : Bool). count n (λ k. p (get_or s (at + k) 0)) + cond b 1 0) (ap p e ∙ out) ∙ add-zero _);
        }
    by_word (suc w) e =
        let one : bool_byte (not (eqb (suc w) 0)) ≡ 1 = ap (λ (b : Bool). bool_byte (not b)) (ne_eqb (suc w) 0 (λ e. omega arith)) in
        let here = get_or-set_same words m x 0 room in
        subst (Gathered s at (n + 1) (set words m x)) (ap (λ (k : ℕ). m + k) (sym one))
        (record {
          most = omega (arith, h.most);
          some = λ k l. ⊎_elim (λ is. omega (arith, ap (λ (i : ℕ). get_or (set words m x) i 0) is, here)) (λ below. omega (arith, kept k below, h.some k below)) (eq-or-lt_of_le (le_of_suc-le-suc (rw (add-one m) at l)));
          same = λ p out. count_next m (λ k. p (get_or (set words m x) k 0))
              ∙ ap₂ (λ (k v : ℕ). k + cond (p v) 1 0) (kept_count p ∙ h.same p out) here
              ∙ sym (next-count p);
        })

-- The words gathered, without what stands behind them.
pub taken_gathered : (s : List ℕ) (at n : ℕ) (words : List ℕ) (m : ℕ) → Gathered s at n words m → Gathered s at n (take m words) m
taken_gathered s at n words m h =
    record {
      most = h.most;
      some = λ k l. subst (λ (w : ℕ). 0 < w) (sym (get_or-take m words k 0 l)) (h.some k l);
      same = λ p out. count_cong m _ _ (λ k l. ap p (get_or-take m words k 0 l)) ∙ h.same p out;
    }
