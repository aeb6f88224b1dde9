-- The view of a domain after a call that leaves the records of the TreeLings, and the first TreeLing of the domain, as they are.
-- Assumes nothing.
use Prim.Native.Nat.{ℕ, suc, ◌+◌, ◌*◌, ◌/◌, ◌%◌, ◌<◌}
use mathlib.Core.Path.{◌≡◌, refl, ap, ◌∙◌}
use mathlib.Core.List.{List}
use mathlib.Core.Bool.{cond, ◌&&◌}
use native.Mathlib.Omega.{arith}
use borrow.Author.Tests.{ltb-true}
use lib.Dec.{eqb, ltb}
use Rattle.layout.specs.declared.Sizes.{Sizes}
use Rattle.leaf_map.specs.LeafIds.{slot_of, treeling_of}
use Rattle.leaf_map.proofs.LeafIdLaws.{treeling_below}
use Rattle.geometry.specs.Entries.{tag_of, availability_of}
use Rattle.layout.specs.Places.{get, treeling, entry, leaf, first, owner}
use Rattle.sound.specs.Sound.{Sound}
use Rattle.world.specs.World.{owned, entry_of}
use Rattle.histories.proofs.View.{view_of, rank_node, rank_slot}
use Rattle.histories.proofs.ViewLaws.{SameChain, owned_same, of_rank_same, when_same, place_same}

-- Numbers that are there below m alone.
pub below_cong : (j m x y : ℕ) → (j < m → x ≡ y) → cond (ltb j m) x 0 ≡ cond (ltb j m) y 0
below_cong j m x y same = when_same (ltb j m) (ltb j m) x y refl (λ e. same (ltb-true j m e))

module _ (z : Sizes) (s r : List ℕ) (d : ℕ) (h : Sound z s) (l : d < z.domains) (same_first : get z r (first d) ≡ get z s (first d))
    (tree : (t j : ℕ) → t < z.treelings → j < 5 → get z r (treeling t j) ≡ get z s (treeling t j)) where
  -- It has the same TreeLings in the same order,
  chain : SameChain z s r d
  chain =
      record {
        same_first = same_first;
        same_owner = λ t below. ap (λ (o : ℕ). eqb o (suc d)) (tree t 0 below (omega arith));
        same_next = λ t below _. tree t 2 below (omega arith);
      }

  pub kept_owned : owned z r d ≡ owned z s d
  kept_owned = owned_same z s r d chain

  -- so its entries are in the same places,
  kept_word : (j : ℕ) → j < 512 * owned z s d → get z r (entry_of z r d j) ≡ get z r (entry_of z s d j)
  kept_word j less =
      ap (λ (t : ℕ). get z r (entry t (j % 512))) (of_rank_same z s r d chain h l (j / 512) (omega arith))

  pub kept_free : (j : ℕ) → (view_of z r d).nfl.free j ≡ cond (ltb j (512 * owned z s d)) (availability_of (get z r (entry_of z s d j))) 0
  unfolding view_of
  kept_free j =
      ap (λ (n : ℕ). cond (ltb j (512 * n)) (availability_of (get z r (entry_of z r d j))) 0) kept_owned
      ∙ below_cong j (512 * owned z s d) (availability_of (get z r (entry_of z r d j))) (availability_of (get z r (entry_of z s d j))) (λ less. ap availability_of (kept_word j less))

  -- its tags have the same ranks,
  pub kept_tag : (j : ℕ) → (j < 512 * owned z s d → tag_of (get z r (entry_of z s d j)) < 512 * z.treelings)
      → (view_of z r d).nfl.tag j ≡ cond (ltb j (512 * owned z s d)) (rank_node z s (tag_of (get z r (entry_of z s d j)))) 0
  unfolding view_of
  kept_tag j range =
      let g = tag_of (get z r (entry_of z s d j)) in
      ap (λ (n : ℕ). cond (ltb j (512 * n)) (rank_node z r (tag_of (get z r (entry_of z r d j)))) 0) kept_owned
      ∙ below_cong j (512 * owned z s d) (rank_node z r (tag_of (get z r (entry_of z r d j)))) (rank_node z s g)
      (λ less.
      ap (λ (w : ℕ). rank_node z r (tag_of w)) (kept_word j less)
      ∙ ap (λ (x : ℕ). 512 * x + g % 512) (tree (g / 512) 3 (omega (arith, range less)) (omega arith)))

  -- and a page whose leaf ID is kept has its place.
  pub kept_place : (f : ℕ) → (f < z.frames → get z r (leaf f) ≡ get z s (leaf f)) → (view_of z r d).place f ≡ (view_of z s d).place f
  kept_place f same =
      let x = get z s (leaf f) in
      let below : f < z.frames → treeling_of x < z.treelings = λ k. treeling_below z.treelings x h.laid_out.laid.sizes.some_treelings (h.leaf_range f k) in
      place_same z s r d f
      (λ k.
      ap (λ (w : ℕ). ltb 0 w && eqb (get z r (owner (treeling_of w))) (suc d)) (same k)
      ∙ ap (λ (o : ℕ). ltb 0 x && eqb o (suc d)) (tree (treeling_of x) 0 (below k) (omega arith)))
      (λ k _.
      ap (λ (w : ℕ). rank_slot z r w) (same k)
      ∙ ap (λ (n : ℕ). 4096 * n + slot_of x) (tree (treeling_of x) 3 (below k) (omega arith)))
