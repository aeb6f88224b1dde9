-- Double counting of slots: free positions and mapped pages of a domain are all the slots of its TreeLings.
-- Assumes nothing.
use Prim.Native.Nat.{ℕ, zero, suc, ◌+◌, ◌-◌, ◌*◌, ◌/◌, ◌%◌, ◌<◌, ◌≤◌}
use mathlib.Core.Path.{◌≡◌, refl, sym, ap, ap₂, subst, ◌∙◌}
use mathlib.Core.List.{List}
use mathlib.Core.Bool.{Bool, true, false, cond, ◌&&◌, false≢true}
use native.Mathlib.Omega.{arith}
use borrow.Author.Tests.{eqb-true, lt-ltb}
use lib.Dec.{eqb, ltb, eqb-zero-suc, eqb-suc-suc}
use lib.ListN.{get_or}
use Rattle.layout.specs.declared.Sizes.{Sizes}
use Rattle.geometry.specs.Tables.{bit, free_below, number_free}
use Rattle.leaf_map.specs.LeafIds.{LeafFits, treeling_of}
use Rattle.geometry.specs.Entries.{tag_of, availability_of}
use Rattle.layout.specs.Places.{get, entry, leaf, owner}
use Rattle.layout.specs.Bounded.{count, sum}
use Rattle.sound.specs.Sentences.{is_ordinary, is_mapped_by, marks_free, times_free, times_named, true_number}
use Rattle.sound.specs.Sound.{LeavesFit, Sound, Ordinary}
use Rattle.sound.specs.CodeCounting.{free_in, pages_left}
use Rattle.sound.proofs.BitLaws.{bit_most}
use Rattle.sound.proofs.TestLaws.{ordinary_test, an_ordinary}
use Rattle.leaf_map.proofs.LeafIdLaws.{fits_id, fits_slot, slot_number_lem, slot_treeling}
use Rattle.layout.proofs.BoundedLaws.{is_false, sum_zero, sum_cong, sum_cond, sum_const, sum_le, sum_add, sum_at, sum_rows, sum_rows_where, sum_parts, count-sum, count_twice}

-- ---- Bits
-- The number free is the sum of the bits, so it is at most 8.
free_sum : (n a : ℕ) → free_below n a ≡ sum n (λ i. bit i a)
unfolding free_below sum
free_sum zero a = refl
free_sum (suc n) a = ap (λ (k : ℕ). k + bit n a) (free_sum n a)

pub number_free_lem : (a : ℕ) → number_free a ≡ sum 8 (λ i. bit i a)
number_free_lem a = free_sum 8 a

pub number_most : (a : ℕ) → number_free a ≤ 8
number_most a =
    let most = sum_le 8 (λ i. bit i a) (λ _. 1) (λ i _. bit_most i a) in
    let eight = sum_const 8 1 in
    let bits = number_free_lem a in
    omega arith

-- No bit of 0 is set.
pub none_free : number_free 0 ≡ 0
unfolding free_below
none_free = refl

-- A bit as a test.
bit_test : (b : ℕ) → b ≤ 1 → cond (eqb b 1) 1 0 ≡ b
bit_test zero h = refl
bit_test (suc zero) h = refl
bit_test (suc (suc n)) h = absurd (omega arith)

-- A TreeLing has at most eight free positions for each entry.
pub free_most : (z : Sizes) (s : List ℕ) (t n : ℕ) → free_in z s t n ≤ 8 * n
unfolding free_in
free_most z s t n =
    let most = sum_le n (λ k. number_free (availability_of (get z s (entry t k)))) (λ _. 8) (λ k _. number_most (availability_of (get z s (entry t k)))) in
    let eights = sum_const n 8 in
    omega arith

-- ---- Conditions
-- Two conditions, in either order.
cond_swap : (a b : Bool) (n : ℕ) → cond a (cond b n 0) 0 ≡ cond b (cond a n 0) 0
cond_swap true b n = refl
cond_swap false true n = refl
cond_swap false false n = refl

-- Two tests are two conditions.
cond_and : (a b : Bool) (n : ℕ) → cond (a && b) n 0 ≡ cond a (cond b n 0) 0
cond_and true b n = refl
cond_and false b n = refl

-- ---- Words and slots
-- A leaf map word names precisely one slot, or none where it is 0; q is a test of TreeLings.
word_names : (n : ℕ) (q : ℕ → Bool) (x : ℕ) → n ≤ 4096 → LeafFits n x → cond (ltb 0 x && q (treeling_of x)) 1 0 ≡ sum (4096 * n) (λ y. cond (q (y / 4096)) (cond (eqb x (suc y)) 1 0) 0)
word_names n q x few h =
    only x h ∙ sum_cong (4096 * n) (λ y. cond (eqb x (suc y)) (one y) 0) (λ y. cond (q (y / 4096)) (cond (eqb x (suc y)) 1 0) 0) (λ y _. cond_swap (eqb x (suc y)) (q (y / 4096)) 1)
  where
    one : ℕ → ℕ
    one y = cond (q (y / 4096)) 1 0

    only : (x : ℕ) → LeafFits n x → cond (ltb 0 x && q (treeling_of x)) 1 0 ≡ sum (4096 * n) (λ y. cond (eqb x (suc y)) (one y) 0)
    only zero h =
        sym
        (sum_cong (4096 * n) (λ y. cond (eqb zero (suc y)) (one y) 0) (λ _. 0) (λ y _. ap (λ (b : Bool). cond b (one y) 0) (eqb-zero-suc y))
        ∙ sum_zero (4096 * n))
    only (suc x) h =
        let id = fits_id n (suc x) few (omega arith) h in
        ap₂ (λ (b : Bool) (k : ℕ). cond {A = ℕ} (b && q k) 1 0) (lt-ltb 0 (suc x) (omega arith)) (slot_treeling x id.most)
        ∙ sym (sum_at (4096 * n) x one (rw slot_number_lem at (fits_slot n (suc x) id h)))
        ∙ sum_cong (4096 * n) (λ y. cond (eqb x y) (one y) 0) (λ y. cond (eqb (suc x) (suc y)) (one y) 0)
        (λ y _. ap (λ (b : Bool). cond b (one y) 0) (sym (eqb-suc-suc x y)))

-- An entry marks as many slots free as its availability has bits set, all of the node that is its tag; q is a test of TreeLings.
word_frees : (n : ℕ) (q : ℕ → Bool) (g a : ℕ) → g < 512 * n
    → cond (q (g / 512)) (number_free a) 0 ≡ sum (4096 * n) (λ y. cond (q (y / 4096)) (cond (eqb g (y / 8) && eqb (bit (y % 8) a) 1) 1 0) 0)
word_frees n q g a h =
    sym
    (ap (λ (k : ℕ). sum k marked) nodes
    ∙ sum_rows 8 (512 * n) marked
    ∙ sum_cong (512 * n) (λ m. sum 8 (λ i. marked (8 * m + i))) (λ m. cond (eqb g m) (cond (q (m / 512)) (number_free a) 0) 0) (λ m _. of_node m)
    ∙ sum_at (512 * n) g (λ m. cond (q (m / 512)) (number_free a) 0) h)
  where
    marked : ℕ → ℕ
    marked y = cond (q (y / 4096)) (cond (eqb g (y / 8) && eqb (bit (y % 8) a) 1) 1 0) 0

    nodes : 4096 * n ≡ 8 * (512 * n)
    nodes = omega arith

    of_slot : (m i : ℕ) → i < 8 → marked (8 * m + i) ≡ cond (eqb g m) (cond (q (m / 512)) (bit i a) 0) 0
    of_slot m i l =
        let treeling : (8 * m + i) / 4096 ≡ m / 512 = omega arith in
        let node : (8 * m + i) / 8 ≡ m = omega arith in
        let position : (8 * m + i) % 8 ≡ i = omega arith in
        rw (treeling, node, position)
        (ap (λ (k : ℕ). cond (q (m / 512)) k 0) (cond_and (eqb g m) (eqb (bit i a) 1) 1)
        ∙ cond_swap (q (m / 512)) (eqb g m) (cond (eqb (bit i a) 1) 1 0)
        ∙ ap (λ (k : ℕ). cond (eqb g m) (cond (q (m / 512)) k 0) 0) (bit_test (bit i a) (bit_most i a)))

    of_node : (m : ℕ) → sum 8 (λ i. marked (8 * m + i)) ≡ cond (eqb g m) (cond (q (m / 512)) (number_free a) 0) 0
    of_node m =
        sum_cong 8 (λ i. marked (8 * m + i)) (λ i. cond (eqb g m) (cond (q (m / 512)) (bit i a) 0) 0) (of_slot m)
        ∙ sum_cond 8 (eqb g m) (λ i. cond (q (m / 512)) (bit i a) 0)
        ∙ ap (λ (k : ℕ). cond (eqb g m) k 0) (sum_cond 8 (q (m / 512)) (λ i. bit i a) ∙ ap (λ (k : ℕ). cond (q (m / 512)) k 0) (sym (number_free_lem a)))

-- ---- The counting
zero_both : (b : Bool) → cond {A = ℕ} b 0 0 ≡ 0
zero_both true = refl
zero_both false = refl

-- The facts of a sound state that the counting goes by.
pub record Placed (z : Sizes) (s : List ℕ) : Type 0 where
  pub max_treelings : z.treelings ≤ 4096
  pub tag_range : (d t k : ℕ) → t < z.treelings → k < 512 → get z s (owner t) ≡ suc d → Ordinary z s d → tag_of (get z s (entry t k)) < 512 * z.treelings
  pub leaf_range : LeavesFit z s
  pub unowned_entry : (t k : ℕ) → t < z.treelings → k < 512 → get z s (owner t) ≡ 0 → get z s (entry t k) ≡ 0
  pub tag_own : (d t k : ℕ) → t < z.treelings → k < 512 → get z s (owner t) ≡ suc d → Ordinary z s d → get z s (owner (tag_of (get z s (entry t k)) / 512)) ≡ suc d
  pub slot_once : (y : ℕ) → y < 4096 * z.treelings → times_free z s y + times_named z s y ≡ cond (is_ordinary z s (y / 4096)) 1 0

-- A sound state has them.
pub sound_placed : (z : Sizes) (s : List ℕ) → Sound z s → Placed z s
sound_placed z s h =
    record { max_treelings = h.laid_out.laid.sizes.max_treelings; tag_range = h.tag_range; leaf_range = h.leaf_range; unowned_entry = h.unowned_entry; tag_own = h.tag_own; slot_once = h.slot_once }

module _ (z : Sizes) (s : List ℕ) (d : ℕ) where
  -- TreeLing t is of domain d.
  abbrev pub own : ℕ → Bool
  own t = eqb (get z s (owner t)) (suc d)

  -- The free positions of domain d.
  abbrev pub free_of : ℕ
  free_of = sum z.treelings (λ t. cond (own t) (free_in z s t 512) 0)

  -- The free positions of entry k of TreeLing t.
  abbrev free_at : ℕ → ℕ → ℕ
  free_at t k = number_free (availability_of (get z s (entry t k)))

  -- Entry k of TreeLing t, numbered through.
  entry_through : (t k j : ℕ) → 512 * t + k ≡ j → get z s (entry t k) ≡ get z s (entry 0 j)
  entry_through t k j e = ap (λ (a : ℕ). get_or s a 0) (omega arith)

  module _ (h : Placed z s) where
    -- The pages of domain d are the slots of its TreeLings that leaf map words name.
    pub mapped_slots : true_number z s d ≡ sum z.treelings (λ t. cond (own t) (sum 4096 (λ i. times_named z s (4096 * t + i))) 0)
    unfolding true_number times_named
    mapped_slots =
        count-sum z.frames (is_mapped_by z s d)
        ∙ count_twice z.frames (4096 * z.treelings) (λ f. cond (is_mapped_by z s d f) 1 0) (λ y. own (y / 4096)) (λ f y. eqb (get z s (leaf f)) (suc y))
        (λ f l. word_names z.treelings own (get z s (leaf f)) h.max_treelings (h.leaf_range f l))
        ∙ sum_rows_where 4096 z.treelings own (times_named z s) (omega arith)

    -- An entry of an ordinary domain with a free position is of domain d where its tag is.
    tag_as_entry : (t k o : ℕ) → t < z.treelings → k < 512 → get z s (owner t) ≡ suc o → Ordinary z s o
        → cond (own t) (free_at t k) 0 ≡ cond (own (tag_of (get z s (entry t k)) / 512)) (free_at t k) 0
    tag_as_entry t k o lt lk e live_one =
        ap (λ (x : ℕ). cond (eqb x (suc d)) (free_at t k) 0) (e ∙ sym (h.tag_own o t k lt lk e live_one))

    -- Of the slots of its TreeLings, an entry marks as many free as it has free positions.
    entry_frees : (t k o : ℕ) → t < z.treelings → k < 512 → get z s (owner t) ≡ suc o → Ordinary z s o
        → cond (own t) (free_at t k) 0 ≡ sum (4096 * z.treelings) (λ y. cond (own (y / 4096)) (cond (marks_free z s y (get z s (entry t k))) 1 0) 0)
    entry_frees t k o lt lk e live_one =
        tag_as_entry t k o lt lk e live_one ∙ word_frees z.treelings own (tag_of (get z s (entry t k))) (availability_of (get z s (entry t k))) (h.tag_range o t k lt lk e live_one)

    -- Where domain d is ordinary, if it has TreeLings.
    module _ (ordinary : (t : ℕ) → t < z.treelings → get z s (owner t) ≡ suc d → Ordinary z s d) where
      not_own : (t : ℕ) → t < z.treelings → is_ordinary z s t ≡ false → own t ≡ false
      not_own t l other =
          is_false (own t) λ o.
          let owned = eqb-true (get z s (owner t)) (suc d) o in
          false≢true (sym other ∙ ordinary_test z s t d owned (ordinary t l owned))

      -- The free positions of domain d are the slots of its TreeLings that entries mark free.
      pub free_slots : free_of ≡ sum z.treelings (λ t. cond (own t) (sum 4096 (λ i. times_free z s (4096 * t + i))) 0)
      unfolding free_in times_free
      free_slots =
          sum_cong z.treelings (λ t. cond (own t) (free_in z s t 512) 0) (λ t. cond (own t) (sum 512 (λ k. free_at 0 (512 * t + k))) 0)
          (λ t _. ap (λ (n : ℕ). cond (own t) n 0)
          (sum_cong 512 (free_at t) (λ k. free_at 0 (512 * t + k))
          (λ k _. ap (λ (w : ℕ). number_free (availability_of w)) (entry_through t k (512 * t + k) refl))))
          ∙ sym (sum_rows_where 512 z.treelings own (free_at 0) (omega arith))
          ∙ count_twice (512 * z.treelings) (4096 * z.treelings) (λ j. cond (own (j / 512)) (free_at 0 j) 0) (λ y. own (y / 4096)) (λ j y. is_ordinary z s (j / 512) && marks_free z s y (get z s (entry 0 j))) each
          ∙ sum_rows_where 4096 z.treelings own (times_free z s) (omega arith)
        where
          none : (w : ℕ) → sum (4096 * z.treelings) (λ y. cond (own (y / 4096)) 0 0) ≡ 0
          none w = sum_cong (4096 * z.treelings) (λ y. cond (own (y / 4096)) 0 0) (λ _. 0) (λ y _. zero_both (own (y / 4096))) ∙ sum_zero (4096 * z.treelings)

          by_kind : (j : ℕ) → j < 512 * z.treelings → (b : Bool) → is_ordinary z s (j / 512) ≡ b
              → cond (own (j / 512)) (free_at 0 j) 0 ≡ sum (4096 * z.treelings) (λ y. cond (own (y / 4096)) (cond (b && marks_free z s y (get z s (entry 0 j))) 1 0) 0)
          by_kind j l true e =
              let o = an_ordinary z s (j / 512) e in
              subst (λ (w : ℕ). cond (own (j / 512)) (number_free (availability_of w)) 0 ≡ sum (4096 * z.treelings) (λ y. cond (own (y / 4096)) (cond (marks_free z s y w) 1 0) 0))
              (entry_through (j / 512) (j % 512) j (omega arith))
              (entry_frees (j / 512) (j % 512) o.0 (omega arith) (omega arith) o.1 o.2)
          by_kind j l false e = ap (λ (b : Bool). cond b (free_at 0 j) 0) (not_own (j / 512) (omega arith) e) ∙ sym (none j)

          each : (j : ℕ) → j < 512 * z.treelings → cond (own (j / 512)) (free_at 0 j) 0 ≡ sum (4096 * z.treelings) (λ y. cond (own (y / 4096)) (cond (is_ordinary z s (j / 512) && marks_free z s y (get z s (entry 0 j))) 1 0) 0)
          each j l = by_kind j l (is_ordinary z s (j / 512)) refl

      -- Each slot of its TreeLings is marked free or named, once.
      pub all_slots : (t : ℕ) → t < z.treelings → own t ≡ true → sum 4096 (λ i. times_free z s (4096 * t + i) + times_named z s (4096 * t + i)) ≡ 4096
      all_slots t l o =
          sum_cong 4096 (λ i. times_free z s (4096 * t + i) + times_named z s (4096 * t + i)) (λ _. 1) once
          ∙ sum_const 4096 1
        where
          once : (i : ℕ) → i < 4096 → times_free z s (4096 * t + i) + times_named z s (4096 * t + i) ≡ 1
          once i li =
              let own_slot : (4096 * t + i) / 4096 ≡ t = omega arith in
              let owned : get z s (owner t) ≡ suc d = eqb-true (get z s (owner t)) (suc d) o in
              h.slot_once (4096 * t + i) (omega arith)
              ∙ ap (λ (k : ℕ). cond {A = ℕ} (is_ordinary z s k) 1 0) own_slot
              ∙ ap (λ (b : Bool). cond {A = ℕ} b 1 0) (ordinary_test z s t d owned (ordinary t l owned))

      -- The free positions and the mapped pages of a domain are 4,096 for each of its TreeLings.
      pub domain_slots : free_of + true_number z s d ≡ 4096 * count z.treelings own
      domain_slots =
          ap₂ ◌+◌ free_slots mapped_slots
          ∙ sum_parts z.treelings 4096 own (λ t. sum 4096 (λ i. times_free z s (4096 * t + i))) (λ t. sum 4096 (λ i. times_named z s (4096 * t + i)))
          (λ t l o. sym (sum_add 4096 (λ i. times_free z s (4096 * t + i)) (λ i. times_named z s (4096 * t + i))) ∙ all_slots t l o)

      -- So the pages that the free positions leave are the true number.
      pub pages_left_lem : pages_left z s d z.treelings ≡ true_number z s d
      unfolding pages_left
      pages_left_lem =
          let left = sum_parts z.treelings 4096 own (λ t. 4096 - free_in z s t 512) (λ t. free_in z s t 512) (λ t _ _. let most = free_most z s t 512 in omega arith) in
          let slots = domain_slots in
          omega arith
