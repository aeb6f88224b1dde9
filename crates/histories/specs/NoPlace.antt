-- When there is no place for a frame; and, since "the first frame refused gives the number", what it is that a run reaches a frame.
use Rattle.std.specs.Prelude.{ℕ, ◌+◌, ◌<◌, ◌≡◌, List}
use Rattle.layout.specs.declared.Sizes.{Sizes}
use Rattle.layout.specs.Places.{get, leaf}
use Rattle.world.specs.Full.{AllInUse, AllOwned}
use Rattle.pages.specs.Answers.{Outcome}
use Rattle.pages.specs.Mapping.{map_call}
use Rattle.runs.specs.Runs.{going, run_of}

-- The single calls of the frames before it are done, and of the words that they leave P holds with this frame.
pub record Reaches (single : List ℕ → ℕ → Outcome) (s : List ℕ) (f n : ℕ) (P : List ℕ → ℕ → Type 0) : Type 0 where
  pub index : ℕ
  pub index_below : index < n
  pub words : List ℕ
  pub reached : run_of single s f index ≡ going words
  pub there : P words (f + index)

-- No place for frame f of domain d: it is unmapped, every slot of the domain's TreeLings is in use and every TreeLing is owned.
pub record NoPlaceFor (z : Sizes) (d : ℕ) (s : List ℕ) (f : ℕ) : Type 0 where
  pub unmapped : get z s (leaf f) ≡ 0
  pub all_in_use : AllInUse z s d
  pub all-owned : AllOwned z s

-- A run of maps reaches a frame for which there is no place.
abbrev pub ReachesNoPlace : Sizes → List ℕ → ℕ → ℕ → ℕ → Type 0
ReachesNoPlace z s d f n = Reaches (λ r. map_call z r d) s f n (NoPlaceFor z d)
