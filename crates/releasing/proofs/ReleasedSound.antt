-- What a release leaves: the words of either step, and that they are sound.
-- Assumes nothing.
use Prim.Native.Nat.{ℕ, ◌+◌, ◌*◌, ◌<◌}
use mathlib.Core.List.{List}
use native.Mathlib.Omega.{arith}
use Rattle.layout.specs.declared.Sizes.{Sizes}
use Rattle.leaf_map.specs.LeafIds.{node_of_leaf, position_of_leaf}
use Rattle.layout.specs.Places.{get, leaf}
use Rattle.board.proofs.HoleLaws.{HolesKept}
use Rattle.sound.specs.Sound.{Sound, Ordinary}
use Rattle.sound.proofs.FormersKept.{StillUnowned, still_same}
use Rattle.world.specs.World.{world, owned}
use Rattle.gathering.specs.Regathering.{head_gathered, head_at, whole_with}
use Rattle.releasing.specs.Releasing.{unmapped, after_step, releasing}
use Rattle.sound.proofs.MappedLaws.{MappedBy}
use Rattle.releasing.proofs.NeverStuck.{release_cases, head_fits, mapped_some}
use Rattle.releasing.proofs.RefillLaws.{Rewritten, content_left, tree_left}
use Rattle.releasing.proofs.MarkedSound.{one_rewritten, tagged_sound, spent_sound}
use Rattle.releasing.proofs.RegatheredSound.{gathered_rewritten, regathered_sound}

module _ (z : Sizes) (s : List ℕ) (d f : ℕ) (h : Sound z s) (l : d < z.domains) (o : Ordinary z s d) (k : f < z.frames) (m : MappedBy z s d f) where
  -- The page's node and position.
  abbrev n : ℕ
  n = node_of_leaf (get z s (leaf f))

  abbrev i : ℕ
  i = position_of_leaf (get z s (leaf f))

  -- Entries of the domain have other words, a block is its head and frame f is unmapped.
  pub released_as : (P : List ℕ → Type 0) → ((e : List ℕ) → Rewritten z s d e → (q : ℕ) → P (unmapped z s d f (head_at z s d q e))) → P (releasing z s d f)
  unfolding releasing after_step
  released_as P left =
      release_cases (world z s d) n i (λ x. P (unmapped z s d f (after_step z s d n i x)))
      (λ q c fits less _. left _ (one_rewritten z s h d l (8 * q + c) _ (omega (arith, fits.below))) _)
      (λ q c fits less _. left _ (one_rewritten z s h d l (8 * q + c) _ (omega (arith, fits.below))) _)
      (left _ (gathered_rewritten z s h d l (whole_with (world z s d) n i) (512 * owned z s d) (omega arith)) (head_gathered z s d (owned z s d) (whole_with (world z s d) n i)))
      (head_fits z s h d l o (mapped_some z s h d l f k m))

  -- The holes are kept.
  pub released_holes : HolesKept s (releasing z s d f)
  released_holes = released_as (HolesKept s) (λ e re q j low high. content_left z s h d l f k e re q j high)

  -- TreeLings keep their owners, and their last ones.
  pub released_formers : StillUnowned z s (releasing z s d f)
  released_formers = released_as (StillUnowned z s) (λ e re q. still_same z s (unmapped z s d f (head_at z s d q e)) (tree_left z s h d l f k e re q))

  -- A sound state stays sound.
  pub released_sound : Sound z (releasing z s d f)
  unfolding releasing after_step
  released_sound =
      release_cases (world z s d) n i (λ x. Sound z (unmapped z s d f (after_step z s d n i x)))
      (tagged_sound z s h d l o f k m)
      (spent_sound z s h d l o f k m)
      (regathered_sound z s h d l o f k m)
      (head_fits z s h d l o (mapped_some z s h d l f k m))
