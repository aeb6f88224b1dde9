-- A release goes by availabilities and by which tags are the released node's, so it goes the same way in a view, where a TreeLing's number is its rank.
-- Assumes nothing.
use Prim.Native.Nat.{ℕ, zero, suc, ◌+◌, ◌*◌, ◌/◌, ◌%◌, ◌^◌, ◌<◌}
use mathlib.Core.Path.{◌≡◌, refl, sym, ap, ap₂, ◌∙◌}
use mathlib.Core.List.{List}
use mathlib.Core.Bool.{Bool, true, false, cond}
use native.Mathlib.Omega.{arith}
use borrow.Author.Tests.{eqb-true, eq-eqb, ltb-true}
use lib.Dec.{eqb, ltb}
use Rattle.layout.specs.declared.Sizes.{Sizes}
use Rattle.leaf_map.specs.LeafIds.{node_of_leaf}
use Rattle.leaf_map.proofs.LeafIdLaws.{names, node_treeling}
use Rattle.layout.specs.Places.{get, leaf, owner, rank}
use Rattle.sound.proofs.MappedLaws.{MappedBy, mapped_ordinary, mapped_id, mapped_slot}
use Rattle.geometry.proofs.FirstLaws.{first_cong}
use Rattle.layout.specs.Bounded.{sum}
use Rattle.sound.specs.Sound.{Sound, Ordinary}
use Rattle.layout.proofs.BoundedLaws.{sum_cong}
use Rattle.sound.specs.Sentences.{of_rank}
use Rattle.world.specs.World.{World, world, owned, node_of}
use Rattle.gathering.specs.Regathering.{whole_of, whole_with}
use Rattle.releasing.specs.Releasing.{Step, mark, tagged, spent, in_block, back_from, release_step}
use Rattle.sound.proofs.TestLaws.{same_test}
use Rattle.sound.proofs.RecordLaws.{sound_ordinary}
use Rattle.world.proofs.WorldLaws.{of_rank_lem, of_rank_back}
use Rattle.histories.proofs.View.{view_of, world_of, rank_node}
use Rattle.histories.proofs.ViewLaws.{tag_at, free_at_lem}

-- ---- Two worlds
-- World v has the TreeLings, the head and the availabilities of world w.
pub record Alike (w v : World) : Type 0 where
  pub same_treelings : v.treelings ≡ w.treelings
  pub same_head : v.nfl.head ≡ w.nfl.head
  pub same_free : (j : ℕ) → j < 512 * w.treelings → v.nfl.free j ≡ w.nfl.free j

-- Its tags are m where those of w are n.
abbrev pub SameTest : World → World → ℕ → ℕ → Type 0
SameTest w v n m = (j : ℕ) → j < 512 * w.treelings → eqb (v.nfl.tag j) m ≡ eqb (w.nfl.tag j) n

-- A node's whole availability is the same,
pub whole_same : (w v : World) → Alike w v → (g k : ℕ) → SameTest w v g k → whole_of v k ≡ whole_of w g
unfolding whole_of
whole_same w v a g k t =
    ap (λ (c : ℕ). sum (512 * c) (λ j. cond (eqb (v.nfl.tag j) k) (v.nfl.free j) 0)) a.same_treelings
    ∙ sum_cong (512 * w.treelings) (λ j. cond (eqb (v.nfl.tag j) k) (v.nfl.free j) 0) (λ j. cond (eqb (w.nfl.tag j) g) (w.nfl.free j) 0)
    (λ j l. ap₂ (λ (b : Bool) (c : ℕ). cond b c 0) (t j l) (a.same_free j l))

module _ (w v : World) (a : Alike w v) (n m i : ℕ) where
  -- and so it is with a position released,
  pub with_same : (g k : ℕ) → SameTest w v g k → eqb k m ≡ eqb g n → whole_with v m i k ≡ whole_with w n i g
  unfolding whole_with
  with_same g k t e = ap₂ ◌+◌ (whole_same w v a g k t) (ap (λ (b : Bool). cond b (2 ^ i) 0) e)

  module _ (t : SameTest w v n m) where
    -- what is found in a block is,
    module _ (q : ℕ) (l : q < 64 * w.treelings) where
      tagged_same : tagged v m i q ≡ tagged w n i q
      tagged_same =
          first_cong (λ k. eqb (v.nfl.tag (8 * q + k)) m) (λ k. eqb (w.nfl.tag (8 * q + k)) n) 0 8 (λ k _ less. t (8 * q + k) (omega arith))

      spent_same : spent v m i q ≡ spent w n i q
      spent_same =
          first_cong (λ k. eqb (v.nfl.free (8 * q + k)) 0) (λ k. eqb (w.nfl.free (8 * q + k)) 0) 0 8
          (λ k _ less. ap (λ (x : ℕ). eqb x 0) (a.same_free (8 * q + k) (omega arith)))

      block_same : (x y : Step) → x ≡ y → in_block v m i q x ≡ in_block w n i q y
      block_same x y e =
          ap (λ (c : ℕ). cond (ltb c 8) (mark (8 * q + c) (v.nfl.free (8 * q + c) + 2 ^ i)) (cond (ltb (spent v m i q) 8) (mark (8 * q + spent v m i q) (2 ^ i)) x)) tagged_same
          ∙ ap₂ (λ (c : ℕ) (o : Step). cond (ltb (tagged w n i q) 8) (mark (8 * q + tagged w n i q) (v.nfl.free (8 * q + tagged w n i q) + 2 ^ i)) (cond (ltb c 8) (mark (8 * q + c) (2 ^ i)) o)) spent_same e
          ∙ by_test (ltb (tagged w n i q) 8) refl
        where
          by_test : (b : Bool) → ltb (tagged w n i q) 8 ≡ b
              → cond b (mark (8 * q + tagged w n i q) (v.nfl.free (8 * q + tagged w n i q) + 2 ^ i)) (cond (ltb (spent w n i q) 8) (mark (8 * q + spent w n i q) (2 ^ i)) y)
              ≡ cond b (mark (8 * q + tagged w n i q) (w.nfl.free (8 * q + tagged w n i q) + 2 ^ i)) (cond (ltb (spent w n i q) 8) (mark (8 * q + spent w n i q) (2 ^ i)) y)
          by_test true h =
              let less = ltb-true (tagged w n i q) 8 h in
              ap (λ (c : ℕ). mark (8 * q + tagged w n i q) (c + 2 ^ i)) (a.same_free (8 * q + tagged w n i q) (omega arith))
          by_test false h = refl

    -- and so is the step.
    back_same : (q : ℕ) → q < 64 * w.treelings → back_from v m i q ≡ back_from w n i q
    unfolding back_from
    back_same zero l = refl
    back_same (suc q) l =
        block_same q (omega arith) (back_from v m i q) (back_from w n i q) (back_same q (omega arith))

    pub step_same : w.nfl.head < 64 * w.treelings → release_step v m i ≡ release_step w n i
    unfolding release_step
    step_same l =
        ap (λ (q : ℕ). in_block v m i q (back_from v m i q)) a.same_head
        ∙ block_same w.nfl.head l (back_from v m i w.nfl.head) (back_from w n i w.nfl.head) (back_same w.nfl.head l)

-- ---- Leaf nodes by rank
-- Leaf node g is in a TreeLing of domain d.
pub record OwnNode (z : Sizes) (s : List ℕ) (d g : ℕ) : Type 0 where
  pub below : g < 512 * z.treelings
  pub owner_is : get z s (owner (g / 512)) ≡ suc d

module _ (z : Sizes) (s : List ℕ) (h : Sound z s) (d : ℕ) (l : d < z.domains) where
  -- Its leaf nodes in rank order, its tags, and the node of a page that it maps.
  pub node_own : (p : ℕ) → p < 512 * owned z s d → OwnNode z s d (node_of z s d p)
  node_own p less =
      let a = of_rank_lem z s h d l (p / 512) (omega arith) in
      let is : node_of z s d p / 512 ≡ of_rank z s d (p / 512) = omega arith in
      record { below = omega (arith, a.below); owner_is = ap (λ (t : ℕ). get z s (owner t)) is ∙ a.owner_is }

  -- A domain with TreeLings is ordinary.
  pub owned_ordinary : (q : ℕ) → q < owned z s d → Ordinary z s d
  owned_ordinary q less =
      let a = of_rank_lem z s h d l q less in
      sound_ordinary z s h d (of_rank z s d q) a.below a.owner_is

  pub tag_own : Ordinary z s d → (j : ℕ) → j < 512 * owned z s d → OwnNode z s d ((world z s d).nfl.tag j)
  tag_own o j less =
      let a = of_rank_lem z s h d l (j / 512) (omega arith) in
      record {
        below = h.tag_range d (of_rank z s d (j / 512)) (j % 512) a.below (omega arith) a.owner_is o;
        owner_is = h.tag_own d (of_rank z s d (j / 512)) (j % 512) a.below (omega arith) a.owner_is o;
      }

  pub leaf_own : (f : ℕ) → f < z.frames → MappedBy z s d f → OwnNode z s d (node_of_leaf (get z s (leaf f)))
  leaf_own f k m =
      let o = mapped_ordinary z s d f h k m in
      let id = mapped_id z s d f h k m o in
      record { below = omega (arith, (names (get z s (leaf f)) id).node_is, mapped_slot z s d f h k m o); owner_is = ap (λ (t : ℕ). get z s (owner t)) (node_treeling (get z s (leaf f)) id) ∙ m.own }

  -- The rank in the place of the TreeLing tells them apart,
  rank_node_one : (g k : ℕ) → OwnNode z s d g → OwnNode z s d k → rank_node z s g ≡ rank_node z s k → g ≡ k
  rank_node_one g k a b e =
      let r : get z s (rank (g / 512)) ≡ get z s (rank (k / 512)) = omega arith in
      let t : g / 512 ≡ k / 512 = sym (of_rank_back z s h d l (g / 512) (omega (arith, a.below)) a.owner_is) ∙ ap (of_rank z s d) r ∙ of_rank_back z s h d l (k / 512) (omega (arith, b.below)) b.owner_is in
      omega arith

  pub rank_node_test : (g k : ℕ) → OwnNode z s d g → OwnNode z s d k → eqb (rank_node z s g) (rank_node z s k) ≡ eqb g k
  rank_node_test g k a b =
      same_test (eqb (rank_node z s g) (rank_node z s k)) (eqb g k)
      (λ e. eq-eqb g k (rank_node_one g k a b (eqb-true (rank_node z s g) (rank_node z s k) e)))
      (λ e. eq-eqb (rank_node z s g) (rank_node z s k) (ap (rank_node z s) (eqb-true g k e)))

  -- and is that of rank order.
  pub rank_node_of : (p : ℕ) → p < 512 * owned z s d → rank_node z s (node_of z s d p) ≡ p
  rank_node_of p less =
      let t : node_of z s d p / 512 ≡ of_rank z s d (p / 512) = omega arith in
      omega (arith, ap (λ (u : ℕ). get z s (rank u)) t, (of_rank_lem z s h d l (p / 512) (omega arith)).rank_is)

  -- ---- The domain's view
  -- Its world and that of its view are alike,
  pub view_alike : Alike (world z s d) (world_of (view_of z s d))
  unfolding view_of
  view_alike =
      record {
        same_treelings = refl;
        same_head = refl;
        same_free = free_at_lem z s d;
      }

  -- with the tags by rank.
  pub view_test : Ordinary z s d → (g : ℕ) → OwnNode z s d g → SameTest (world z s d) (world_of (view_of z s d)) g (rank_node z s g)
  view_test o g a j less =
      ap (λ (x : ℕ). eqb x (rank_node z s g)) (tag_at z s d j less)
      ∙ rank_node_test ((world z s d).nfl.tag j) g (tag_own o j less) a
