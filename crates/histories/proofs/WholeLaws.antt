-- A leaf node's whole availability, with the released position included, is a byte, so an entry of the released node has room for the position.
-- Assumes nothing.
use Prim.Native.Nat.{ℕ, ◌+◌, ◌*◌, ◌^◌, ◌<◌}
use mathlib.Core.Path.{◌≡◌, refl, ap}
use mathlib.Core.List.{List}
use mathlib.Core.Bool.{Bool, cond}
use native.Mathlib.Omega.{arith}
use borrow.Author.Tests.{eq-eqb}
use lib.Dec.{eqb}
use Rattle.layout.specs.declared.Sizes.{Sizes}
use Rattle.leaf_map.specs.LeafIds.{node_of_leaf, position_of_leaf, slot_number}
use Rattle.leaf_map.proofs.LeafIdLaws.{Names, names}
use Rattle.layout.specs.Places.{get, leaf}
use Rattle.layout.proofs.BoundedLaws.{sum_term}
use Rattle.sound.specs.Sound.{Sound, Ordinary}
use Rattle.sound.proofs.MappedLaws.{MappedBy, mapped_id, mapped_slot}
use Rattle.world.specs.World.{world, owned}
use Rattle.gathering.specs.Regathering.{whole_of, whole_with}
use Rattle.releasing.proofs.RefillLaws.{slot_not_free}
use Rattle.releasing.proofs.WholeBits.{with_byte_lem}

module _ (z : Sizes) (s : List ℕ) (h : Sound z s) (d : ℕ) (l : d < z.domains) (o : Ordinary z s d) (f : ℕ) (k : f < z.frames) (m : MappedBy z s d f) where
  -- The page's node and its position.
  abbrev n : ℕ
  n = node_of_leaf (get z s (leaf f))

  abbrev i : ℕ
  i = position_of_leaf (get z s (leaf f))

  named : Names (get z s (leaf f))
  named = names (get z s (leaf f)) (mapped_id z s d f h k m o)

  pub whole_byte : (g : ℕ) → g < 512 * z.treelings → whole_with (world z s d) n i g < 256
  whole_byte g lg = rw (named.node_is, named.position_is) (with_byte_lem z s h d l o (slot_number (get z s (leaf f))) (slot_not_free z s h d l o f k m) g lg)

  -- What the released position is to its node.
  released_part : cond (eqb n n) (2 ^ i) 0 ≡ 2 ^ i
  released_part = ap (λ (b : Bool). cond b (2 ^ i) 0) (eq-eqb n n refl)

  -- An entry of the released node has room for the position.
  pub tagged_byte : (c : ℕ) → c < 512 * owned z s d → (world z s d).nfl.tag c ≡ n → (world z s d).nfl.free c + 2 ^ i < 256
  unfolding whole_of whole_with
  tagged_byte c less tag =
      omega (
        arith,
        whole_byte n (omega (arith, named.node_is, mapped_slot z s d f h k m o)),
        sum_term (512 * owned z s d) (λ j. cond (eqb ((world z s d).nfl.tag j) n) ((world z s d).nfl.free j) 0) c less,
        ap (λ (b : Bool). cond b ((world z s d).nfl.free c) 0) (eq-eqb ((world z s d).nfl.tag c) n tag),
        released_part,
      )
