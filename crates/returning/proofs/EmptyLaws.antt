-- A TreeLing of a domain is without a mapped page where each position of its leaf nodes is free: where their availabilities add up to 512 times 255 over the domain's entries.
-- Assumes nothing.
use Prim.Native.Nat.{ℕ, suc, ◌+◌, ◌-◌, ◌*◌, ◌/◌, ◌%◌, ◌<◌, ◌≤◌}
use mathlib.Core.Path.{◌≡◌, sym, ap, ◌∙◌}
use mathlib.Core.List.{List}
use mathlib.Core.Bool.{Bool, true, cond, false≢true}
use native.Mathlib.Omega.{arith}
use borrow.Author.Tests.{ltb-true, lt-ltb, eqb-true, eqb-false, eq-eqb, ne_eqb}
use lib.Dec.{eqb, ltb}
use Rattle.layout.specs.declared.Sizes.{Sizes}
use Rattle.leaf_map.specs.LeafIds.{slot_number, treeling_of}
use Rattle.geometry.specs.Tables.{bit}
use Rattle.layout.specs.Places.{get, leaf, owner, rank}
use Rattle.layout.specs.Bounded.{count, sum}
use Rattle.leaf_map.proofs.LeafIdLaws.{names, slot_treeling}
use Rattle.layout.proofs.BoundedLaws.{and_both, and_of, is_false, sum_cong, sum_add, sum_zero, sum_swap, sum_const, sum_at, sum_term, count_no, count_zero}
use Rattle.sound.specs.Sentences.{times_free, times_named, of_rank}
use Rattle.sound.specs.Sound.{Sound, Ordinary}
use Rattle.sound.proofs.MappedLaws.{MappedBy, mapped_id}
use Rattle.sound.proofs.BitLaws.{same_bits, full_bits}
use Rattle.sound.proofs.TestLaws.{same_test}
use Rattle.world.specs.World.{world, owned}
use Rattle.world.proofs.WorldLaws.{of_rank_lem, of_rank_back}
use Rattle.world.proofs.FrameLaws.{either}
use Rattle.placing.proofs.NoPlace.{once}
use Rattle.gathering.specs.Regathering.{whole_of}
use Rattle.releasing.proofs.WholeBits.{whole_byte, whole_bit}
use Rattle.returning.specs.Returning.{lies_in, is_empty}
use Rattle.clearing.specs.CodeKept.{free_in, all_free}

-- ---- Sums
-- Terms of at most c that make c times their number are c each.
sum_full : (n c : ℕ) (f : ℕ → ℕ) → ((i : ℕ) → i < n → f i ≤ c) → sum n f ≡ c * n → (i : ℕ) → i < n → f i ≡ c
sum_full n c f most full i less =
    let both : sum n (λ k. f k + (c - f k)) ≡ c * n = sum_cong n (λ k. f k + (c - f k)) (λ _. c) (λ k lk. omega (arith, most k lk)) ∙ sum_const n c in
    omega (arith, most i less, sum_add n f (λ k. c - f k), sum_term n (λ k. c - f k) i less)

-- What is had of a leaf node, looked for among the 512 of TreeLing t.
node_among : (g t a : ℕ) → sum 512 (λ k. cond (eqb g (512 * t + k)) a 0) ≡ cond (eqb (g / 512) t) a 0
node_among g t a =
    either (g / 512) t
    (λ is.
    sum_cong 512 (λ k. cond (eqb g (512 * t + k)) a 0) (λ k. cond (eqb (g % 512) k) a 0) (λ k lk. ap (λ (b : Bool). cond b a 0) (here is k lk))
    ∙ sum_at 512 (g % 512) (λ _. a) (omega arith)
    ∙ sym (ap (λ (b : Bool). cond b a 0) (eq-eqb (g / 512) t is)))
    (λ other.
    sum_cong 512 (λ k. cond (eqb g (512 * t + k)) a 0) (λ _. 0) (λ k lk. ap (λ (b : Bool). cond b a 0) (ne_eqb g (512 * t + k) (λ is. other (omega arith))))
    ∙ sum_zero 512
    ∙ sym (ap (λ (b : Bool). cond b a 0) (ne_eqb (g / 512) t other)))
  where
    here : g / 512 ≡ t → (k : ℕ) → k < 512 → eqb g (512 * t + k) ≡ eqb (g % 512) k
    here is k lk =
        same_test (eqb g (512 * t + k)) (eqb (g % 512) k)
        (λ e. eq-eqb (g % 512) k (omega (arith, eqb-true g (512 * t + k) e)))
        (λ e. eq-eqb g (512 * t + k) (omega (arith, eqb-true (g % 512) k e)))

-- ---- What is added up
module _ (z : Sizes) (s : List ℕ) (d : ℕ) where
  -- What entry j has of TreeLing t.
  abbrev part : ℕ → ℕ → ℕ
  part t j = cond (eqb ((world z s d).nfl.tag j / 512) t) ((world z s d).nfl.free j) 0

  -- Over all entries it is the whole availability of each leaf node.
  free_wholes : (t : ℕ) → free_in z s d (512 * owned z s d) t ≡ sum 512 (λ k. whole_of (world z s d) (512 * t + k))
  unfolding free_in whole_of
  free_wholes t =
      let w = world z s d in
      let total = 512 * owned z s d in
      sym
      (sum_swap 512 total (λ k j. cond (eqb (w.nfl.tag j) (512 * t + k)) (w.nfl.free j) 0)
      ∙ sum_cong total (λ j. sum 512 (λ k. cond (eqb (w.nfl.tag j) (512 * t + k)) (w.nfl.free j) 0)) (part t) (λ j _. node_among (w.nfl.tag j) t (w.nfl.free j)))

-- ---- Where a TreeLing is without a mapped page no leaf map word names a slot of it
module _ (z : Sizes) (s : List ℕ) (t : ℕ) where
  pub empty_named : is_empty z s t ≡ true → t < 4096 → (y : ℕ) → y / 4096 ≡ t → times_named z s y ≡ 0
  unfolding is_empty times_named
  empty_named empty few y is =
      count_no z.frames (λ f. eqb (get z s (leaf f)) (suc y)) λ f less.
      let x = get z s (leaf f) in
      ne_eqb x (suc y) λ named.
      false≢true
      (sym (count_zero z.frames (lies_in z s t) (eqb-true (count z.frames (lies_in z s t)) 0 empty) f less)
      ∙ and_of (lt-ltb 0 x (omega arith)) (eq-eqb (treeling_of x) t (ap treeling_of named ∙ slot_treeling y (omega arith) ∙ is)))

module _ (z : Sizes) (s : List ℕ) (h : Sound z s) (d : ℕ) (l : d < z.domains) (o : Ordinary z s d) where
  -- ---- A TreeLing of the domain's own
  module _ (t : ℕ) (below : t < z.treelings) (own : get z s (owner t) ≡ suc d) where
    -- A slot of it is free or named, once,
    slot : (y : ℕ) → y / 4096 ≡ t → times_free z s y + times_named z s y ≡ 1
    slot y is = once z s d h l o y (omega arith) (ap (λ (u : ℕ). get z s (owner u)) is ∙ own)

    -- and leaf node k of it has a byte, with a bit for each that is free.
    abbrev whole : ℕ → ℕ
    whole k = whole_of (world z s d) (512 * t + k)

    node_byte : (k : ℕ) → k < 512 → whole k < 256
    node_byte k less = whole_byte z s h d l o (512 * t + k) (omega arith)

    node_bit : (k c : ℕ) → k < 512 → c < 8 → bit c (whole k) ≡ times_free z s (8 * (512 * t + k) + c)
    node_bit k c less lc =
        let home : (512 * t + k) / 512 ≡ t = omega arith in
        whole_bit z s h d l o (512 * t + k) c (omega arith) lc (ap (λ (u : ℕ). get z s (owner u)) home ∙ own)

    -- Where no leaf map word names a slot of it, it is without a mapped page.
    named_empty : ((y : ℕ) → y / 4096 ≡ t → times_named z s y ≡ 0) → is_empty z s t ≡ true
    unfolding is_empty times_named
    named_empty none =
        eq-eqb (count z.frames (lies_in z s t)) 0
        (count_no z.frames (lies_in z s t) λ f less.
        is_false (lies_in z s t f) λ lies.
        let x = get z s (leaf f) in
        let both = and_both (ltb 0 x) (eqb (treeling_of x) t) lies in
        let in_t = eqb-true (treeling_of x) t both.1 in
        let mine : MappedBy z s d f = record { some = ltb-true 0 x both.0; own = ap (λ (u : ℕ). get z s (owner u)) in_t ∙ own } in
        let is = names x (mapped_id z s d f h less mine o) in
        let y = slot_number x in
        eqb-false x (suc y) (count_zero z.frames (λ g. eqb (get z s (leaf g)) (suc y)) (none y (sym is.treeling_is ∙ in_t)) f less) is.number_is)

    abbrev free : ℕ
    free = free_in z s d (512 * owned z s d) t

    -- Where all is free no slot is named,
    full_empty : free ≡ all_free → is_empty z s t ≡ true
    full_empty is =
        named_empty λ y in_t.
        let k = y / 8 % 512 in
        let c = y % 8 in
        let full : whole k ≡ 255 = sum_full 512 255 whole (λ n less. omega (arith, node_byte n less)) (sym (free_wholes z s d t) ∙ is) k (omega arith) in
        let at : 8 * (512 * t + k) + c ≡ y = omega arith in
        let bits : times_free z s (8 * (512 * t + k) + c) ≡ 1 = sym (node_bit k c (omega arith) (omega arith)) ∙ ap (bit c) full ∙ full_bits true c (omega arith) in
        omega (arith, slot y in_t, ap (times_free z s) at, bits)

    -- and where no slot is named all is free.
    empty_full : is_empty z s t ≡ true → free ≡ all_free
    empty_full empty =
        free_wholes z s d t ∙ sum_cong 512 whole (λ _. 255) (λ k less. same_bits 8 (whole k) 255 (node_byte k less) (omega arith) (each k less)) ∙ sum_const 512 255
      where
        each : (k : ℕ) → k < 512 → (c : ℕ) → c < 8 → bit c (whole k) ≡ bit c 255
        each k less c lc =
            let y = 8 * (512 * t + k) + c in
            let in_t : y / 4096 ≡ t = omega arith in
            let one : times_free z s y ≡ 1 = omega (arith, slot y in_t, empty_named z s t empty (omega (arith, h.laid_out.laid.sizes.max_treelings)) y in_t) in
            node_bit k c less lc ∙ one ∙ sym (full_bits true c lc)

    -- So the sum tells whether it is without a mapped page.
    pub all_free_lem : eqb (free_in z s d (512 * owned z s d) t) all_free ≡ is_empty z s t
    all_free_lem =
        same_test (eqb free all_free) (is_empty z s t) (λ e. full_empty (eqb-true free all_free e)) (λ e. eq-eqb free all_free (empty_full e))

  -- ---- By rank
  -- The tags of the domain's entries are of its own TreeLings.
  own_tag : (j : ℕ) → j < 512 * owned z s d → ((world z s d).nfl.tag j / 512 < z.treelings) × (get z s (owner ((world z s d).nfl.tag j / 512)) ≡ suc d)
  own_tag j less =
      let t = of_rank z s d (j / 512) in
      let a = of_rank_lem z s h d l (j / 512) (omega arith) in
      (omega (arith, h.tag_range d t (j % 512) a.below (omega arith) a.owner_is o), h.tag_own d t (j % 512) a.below (omega arith) a.owner_is o)

  -- So the sum by rank is the sum of the TreeLing of that rank.
  pub rank_free : (r : ℕ) → r < owned z s d → sum (512 * owned z s d) (λ j. cond (eqb (get z s (rank ((world z s d).nfl.tag j / 512))) r) ((world z s d).nfl.free j) 0) ≡ free_in z s d (512 * owned z s d) (of_rank z s d r)
  unfolding free_in
  rank_free r below =
      sum_cong (512 * owned z s d) (λ j. cond (eqb (get z s (rank ((world z s d).nfl.tag j / 512))) r) ((world z s d).nfl.free j) 0) (part z s d (of_rank z s d r))
      (λ j less. ap (λ (b : Bool). cond b ((world z s d).nfl.free j) 0) (same ((world z s d).nfl.tag j / 512) (own_tag j less).0 (own_tag j less).1))
    where
      same : (u : ℕ) → u < z.treelings → get z s (owner u) ≡ suc d → eqb (get z s (rank u)) r ≡ eqb u (of_rank z s d r)
      same u lu own =
          same_test (eqb (get z s (rank u)) r) (eqb u (of_rank z s d r))
          (λ e. eq-eqb u (of_rank z s d r) (sym (of_rank_back z s h d l u lu own) ∙ ap (of_rank z s d) (eqb-true (get z s (rank u)) r e)))
          (λ e. eq-eqb (get z s (rank u)) r (ap (λ (t : ℕ). get z s (rank t)) (eqb-true u (of_rank z s d r) e) ∙ (of_rank_lem z s h d l r below).rank_is))

  -- So the domain's own view tells which of its ranks go.
  pub rank_empty : (r : ℕ) → r < owned z s d → eqb (sum (512 * owned z s d) (λ j. cond (eqb (get z s (rank ((world z s d).nfl.tag j / 512))) r) ((world z s d).nfl.free j) 0)) all_free ≡ is_empty z s (of_rank z s d r)
  rank_empty r below =
      let a = of_rank_lem z s h d l r below in
      ap (λ (k : ℕ). eqb k all_free) (rank_free r below) ∙ all_free_lem (of_rank z s d r) a.below a.owner_is
