-- Laws of the pass over the leaf map: of some frames, those words that are not 0 are gathered and marked, in the place of all.
-- Assumes nothing.
use Prim.Native.Nat.{ℕ, suc, ◌+◌, ◌*◌, ◌/◌, ◌%◌, ◌^◌, ◌<◌, ◌≤◌}
use mathlib.Core.Path.{◌≡◌, refl, sym, ap, ap₂, ◌∙◌, subst}
use mathlib.Core.List.{List, [], ◌∷◌}
use mathlib.Core.Bool.{Bool, true, false, cond, not, ◌&&◌, false≢true}
use native.Mathlib.Nat.{add-zero}
use native.Mathlib.Omega.{arith}
use lib.Bits.{bit_and}
use lib.Dec.{eqb}
use lib.ListN.{get_or, set, length}
use Rattle.std.proofs.lemmas.List.{get_or-map}
use lib.Pow.{pow-lt}
use borrow.Author.Tests.{eqb-true, eqb-false, eq-eqb, ne_eqb, not-false}
use Rattle.layout.specs.declared.Sizes.{Sizes}
use Rattle.leaf_map.specs.declared.LeafId.{LeafId}
use Rattle.leaf_map.specs.GatheredIds.{words_of}
use Rattle.leaf_map.specs.LeafIds.{LeafFits, leaf_fits, node_of_leaf, position_of_leaf, slot_number}
use Rattle.layout.specs.Places.{address, get, leaf}
use Rattle.layout.specs.Bounded.{all, count}
use Rattle.layout.specs.CodeWords.{Gathered}
use Rattle.sound.specs.Sentences.{leaf_in_range}
use Rattle.sound.specs.Sound.{Sound}
use Rattle.slots.specs.CodeMarks.{LeavesMarked, Marked, WordsClash, WordsMarked, times_in, times_marked}
use Rattle.leaf_map.proofs.LeafIdLaws.{SlotId, names, fits_slot, none_fits, position_below}
use Rattle.layout.proofs.BoundedLaws.{and_both, and_of, all_none, all_at, all_of, all-next, all_plus, count_none, count_next, count_cong, count_no, count_le, count_plus, count_zero}
use Rattle.sound.proofs.TestLaws.{same_test}
use Rattle.sound.proofs.BitLaws.{single_bit}
use Rattle.slots.proofs.MarkLaws.{covers, clash, marked, times_most, unmarked}

-- ---- frames passed
-- The word of frame f + k, by the address of frame f.
frame_word : (z : Sizes) (s : List ℕ) (f k : ℕ) → get_or s (address z (leaf f) + k) 0 ≡ get z s (leaf (f + k))
frame_word z s f k = ap (λ (i : ℕ). get_or s i 0) (omega arith)

module _ (z : Sizes) (s : List ℕ) (f n : ℕ) where
  -- What n more words add to the times that a slot is marked.
  times_plus : (e y : ℕ) → times_marked z s e (f + n) y ≡ times_marked z s e f y + count n (λ k. eqb (get z s (leaf (f + k))) (suc y))
  times_plus e y = omega (arith, count_plus f n (λ i. eqb (get z s (leaf i)) (suc y)))

  -- Words that are 0 name no slot.
  pub zeros_marked : (marks : List ℕ) → all n (λ k. eqb (get_or s (address z (leaf f) + k) 0) 0) ≡ true → LeavesMarked z s f marks → LeavesMarked z s (f + n) marks
  zeros_marked marks zeros h = (
    all_plus f n (leaf_in_range z s) h.0 (all_of n _ (λ k l. ap (leaf_fits z.treelings) (none k l) ∙ none_fits z.treelings)),
    unmarked z (times_marked z s (512 * z.treelings) f) (times_marked z s (512 * z.treelings) (f + n)) marks h.1
        (λ y. times_plus (512 * z.treelings) y ∙ ap (λ (k : ℕ). times_marked z s (512 * z.treelings) f y + k) (count_no n _ (λ k l. ne_eqb (get z s (leaf (f + k))) (suc y) (λ e. omega (arith, none k l)))) ∙ add-zero _),
  )
    where
      none : (k : ℕ) → k < n → get z s (leaf (f + k)) ≡ 0
      none k l = sym (frame_word z s f k) ∙ eqb-true (get_or s (address z (leaf f) + k) 0) 0 (all_at n _ zeros k l)

-- ---- words marked
-- What counts one is true.
one_is : (b : Bool) → eqb (cond b 1 0) 1 ≡ b
one_is true = refl
one_is false = refl

-- A leaf ID covers the one slot that it names.
leaf_covers : (w y : ℕ) → covers (w / 8) (2 ^ (w % 8)) y ≡ eqb (suc w) (suc y)
leaf_covers w y =
    ap (λ (k : ℕ). eqb (w / 8) (y / 8) && eqb k 1) (single_bit (y % 8) (w % 8) (omega arith) (omega arith))
    ∙ ap (λ (b : Bool). eqb (w / 8) (y / 8) && b) (one_is (eqb (y % 8) (w % 8)))
    ∙ same_test (eqb (w / 8) (y / 8) && eqb (y % 8) (w % 8)) (eqb (suc w) (suc y)) there back
  where
    there : (eqb (w / 8) (y / 8) && eqb (y % 8) (w % 8)) ≡ true → eqb (suc w) (suc y) ≡ true
    there e =
        let both = and_both (eqb (w / 8) (y / 8)) (eqb (y % 8) (w % 8)) e in
        eq-eqb (suc w) (suc y) (omega (arith, eqb-true (w / 8) (y / 8) both.0, eqb-true (y % 8) (w % 8) both.1))

    back : eqb (suc w) (suc y) ≡ true → (eqb (w / 8) (y / 8) && eqb (y % 8) (w % 8)) ≡ true
    back e =
        let same = eqb-true (suc w) (suc y) e in
        and_of (eq-eqb (w / 8) (y / 8) (omega arith)) (eq-eqb (y % 8) (w % 8) (omega arith))

-- The mark of each position, as the code has it.
abbrev pub positions : List ℕ
positions = 1 ∷ 2 ∷ 4 ∷ 8 ∷ 16 ∷ 32 ∷ 64 ∷ 128 ∷ []

pub position_is : (i : ℕ) → i < 8 → get_or positions i 0 ≡ 2 ^ i
unfolding all
position_is i l = eqb-true _ _ (all_at 8 (λ k. eqb (get_or positions k 0) (2 ^ k)) refl i l)

module _ (z : Sizes) (words : List ℕ) where
  abbrev in_range : ℕ → Bool
  in_range k = leaf_fits z.treelings (get_or words k 0)

  -- No word is marked yet.
  pub words_none : (marks : List ℕ) → WordsMarked z words 0 marks marks
  words_none marks =
      record {
        in_range_lem = all_none in_range;
        added = λ times h. unmarked z times (λ y. times y + times_in words 0 y) marks h (λ y. ap (λ (k : ℕ). times y + k) (count_none _) ∙ add-zero _);
      }

  -- Word x, the k-th of m.
  module _ (m k x : ℕ) (l : k < m) (word : x ≡ get_or words k 0) (before : List ℕ) where
    -- It is out of range.
    pub word_out : leaf_fits z.treelings x ≡ false → WordsClash z words m before
    word_out out times h inside most =
        false≢true (sym out ∙ ap (leaf_fits z.treelings) word ∙ all_at m in_range inside k l)

    -- It is in range, of node q and mark p: adding its mark gave r and last.
    module _ (id : SlotId x) (range : LeafFits z.treelings x) (q : ℕ) (node_is : q ≡ node_of_leaf x) where
      pub node : q < 512 * z.treelings
      node = omega (arith, node_is, (names x id).node_is, fits_slot z.treelings x id range)

      module _ (p : ℕ) (mark : p ≡ 2 ^ position_of_leaf x) (marks : List ℕ) (h : WordsMarked z words k before marks) (r : Bool) (last : List ℕ) (result : r ≡ eqb (bit_and (get_or marks q 0) p) 0) (after : last ≡ cond r (set marks q (get_or marks q 0 + p)) marks) where
        byte : p < 256
        byte = omega (arith, mark, pow-lt {j = 8} (position_below x))

        word_more : (times : ℕ → ℕ) (y : ℕ) → times y + times_in words (k + 1) y ≡ times y + times_in words k y + cond (covers q p y) 1 0
        word_more times y =
            let is = names x id in
            let covered = ap₂ (λ (u v : ℕ). covers u v y) (node_is ∙ is.node_is) (mark ∙ ap (λ (j : ℕ). 2 ^ j) is.position_is) ∙ leaf_covers (slot_number x) y ∙ ap (λ (v : ℕ). eqb v (suc y)) (sym is.number_is ∙ word) in
            omega (arith, count_next k (λ j. eqb (get_or words j 0) (suc y)), ap {B = ℕ} (λ (b : Bool). cond b 1 0) covered)

        word_marked : r ≡ true → WordsMarked z words (k + 1) before last
        word_marked free =
            let none = eqb-true (bit_and (get_or marks q 0) p) 0 (sym result ∙ free) in
            let last_is = after ∙ ap (λ (b : Bool). cond b (set marks q (get_or marks q 0 + p)) marks) free in
            record {
              in_range_lem = all-next k in_range h.in_range_lem (ap (leaf_fits z.treelings) (sym word) ∙ range);
              added = λ times old. subst (Marked z (λ y. times y + times_in words (k + 1) y)) (sym last_is) (marked z (λ y. times y + times_in words k y) (λ y. times y + times_in words (k + 1) y) marks (h.added times old) q p node (word_more times) byte none);
            }

        word_clash : r ≡ false → WordsClash z words m before
        word_clash clashes times old inside most =
            clash z (λ y. times y + times_in words k y) (λ y. times y + times_in words (k + 1) y) marks (h.added times old) q p node (word_more times)
            (λ y hy. omega (arith, count_le (k + 1) m (λ j. eqb (get_or words j 0) (suc y)) (omega arith), most y hy))
            (eqb-false (bit_and (get_or marks q 0) p) 0 (sym result ∙ clashes))

        pub word_judged : (r ≡ true → WordsMarked z words (k + 1) before last) × (r ≡ false → WordsClash z words m before)
        word_judged = (word_marked, word_clash)

-- A leaf ID's word among the words of all.
pub id_word : (ids : List LeafId) (k : ℕ) (d : LeafId) → k < length ids → (get_or ids k d).0 ≡ get_or (words_of ids) k 0
id_word ids k d l = sym (get_or-map (λ (id : LeafId). id.0) ids k d 0 l)

-- ---- the words of n frames from f on, gathered
module _ (z : Sizes) (s : List ℕ) (f n : ℕ) (words : List ℕ) (m : ℕ) (mapped : Gathered s (address z (leaf f)) n words m) (before : List ℕ) (h : LeavesMarked z s f before) where
  -- A test that 0 fails holds of as many words as frames.
  as_frames : (p : ℕ → Bool) → p 0 ≡ false → count m (λ k. p (get_or words k 0)) ≡ count n (λ k. p (get z s (leaf (f + k))))
  as_frames p out =
      mapped.same p out ∙ count_cong n (λ k. p (get_or s (address z (leaf f) + k) 0)) (λ k. p (get z s (leaf (f + k)))) (λ k _. ap p (frame_word z s f k))

  times_all : (y : ℕ) → times_marked z s (512 * z.treelings) f y + times_in words m y ≡ times_marked z s (512 * z.treelings) (f + n) y
  times_all y =
      omega (arith, times_plus z s f n (512 * z.treelings) y, as_frames (λ w. eqb w (suc y)) (ne_eqb 0 (suc y) (λ e. omega arith)))

  frames_out : count m (λ k. not (leaf_fits z.treelings (get_or words k 0))) ≡ count n (λ k. not (leaf_fits z.treelings (get z s (leaf (f + k)))))
  frames_out = as_frames (λ w. not (leaf_fits z.treelings w)) (ap not (none_fits z.treelings))

  -- All are marked: so are the frames.
  pub words-all : (after : List ℕ) → WordsMarked z words m before after → LeavesMarked z s (f + n) after
  words-all after marked = (
    all_plus f n (leaf_in_range z s) h.0 (all_of n _ (λ k l. not-false (leaf_fits z.treelings (get z s (leaf (f + k)))) (count_zero n _ (sym frames_out ∙ none) k l))),
    unmarked z (λ y. times_marked z s (512 * z.treelings) f y + times_in words m y) (times_marked z s (512 * z.treelings) (f + n)) after (marked.added (times_marked z s (512 * z.treelings) f) h.1) (λ y. sym (times_all y)),
  )
    where
      none : count m (λ k. not (leaf_fits z.treelings (get_or words k 0))) ≡ 0
      none = count_no m (λ k. not (leaf_fits z.treelings (get_or words k 0))) (λ k l. ap not (all_at m (in_range z words) marked.in_range_lem k l))

  -- In a sound state none is out of range or marked twice.
  pub words_sound : f + n ≤ z.frames → WordsClash z words m before → Sound z s → ⊥
  words_sound inside clash sound =
      clash (times_marked z s (512 * z.treelings) f) h.1 range
      (λ y hy. omega (arith, times_all y, times_most z s (512 * z.treelings) (f + n) y sound (omega arith) inside hy))
    where
      none : count n (λ k. not (leaf_fits z.treelings (get z s (leaf (f + k))))) ≡ 0
      none = count_no n _ (λ k l. ap not (sound.leaf_range (f + k) (omega arith)))

      range : all m (in_range z words) ≡ true
      range =
          all_of m (in_range z words)
          (λ k l. not-false (leaf_fits z.treelings (get_or words k 0)) (count_zero m _ (frames_out ∙ none) k l))
