-- Document 01: "For T = D = P = 1 it has 531 words and begins 1, 1, 1, 0, 8, 14, 18, 530."; request M-101 moves the bodies by 17 words,
-- and request M-104 what follows the TreeLings by T.
-- Assumes nothing.
use mathlib.Core.Path.{◌≡◌, refl}
use mathlib.Core.Bool.{true, false}
use mathlib.Core.List.{[], ◌∷◌}
use lib.ListN.{length, take}
use Rattle.layout.specs.Bounded.{all}
use Rattle.board.specs.Holes.{holes_fit, outside_all}
use Rattle.layout.specs.Places.{sizes_of}
use Rattle.board.specs.NewState.{new_state}

pub smallest_length : length (new_state (sizes_of 1 1 1) []) ≡ 549
unfolding new_state
smallest_length = refl

pub smallest_begins : take 9 (new_state (sizes_of 1 1 1) []) ≡ 1 ∷ 1 ∷ 1 ∷ 0 ∷ 25 ∷ 31 ∷ 36 ∷ 548 ∷ 0 ∷ []
unfolding new_state
smallest_begins = refl

-- Holes below P = 16: side by side they fit; where they overlap, descend, are empty or pass P they do not.
pub side_by_side : holes_fit 16 2 (0 ∷ 4 ∷ 4 ∷ 12 ∷ []) ≡ true
unfolding holes_fit all
side_by_side = refl

pub no_holes : (holes_fit 16 2 (0 ∷ 5 ∷ 4 ∷ 1 ∷ []) ≡ false) × (holes_fit 16 2 (9 ∷ 1 ∷ 4 ∷ 1 ∷ []) ≡ false) × (holes_fit 16 1 (3 ∷ 0 ∷ []) ≡ false) × (holes_fit 16 1 (15 ∷ 2 ∷ []) ≡ false)
unfolding holes_fit all
no_holes = (refl, refl, refl, refl)

-- The hole of frames 4 and 5: its first and last frame, and those before and after it.
pub edges : (outside_all 1 (4 ∷ 2 ∷ []) 4 ≡ false) × (outside_all 1 (4 ∷ 2 ∷ []) 5 ≡ false) × (outside_all 1 (4 ∷ 2 ∷ []) 3 ≡ true) × (outside_all 1 (4 ∷ 2 ∷ []) 6 ≡ true)
unfolding outside_all all
edges = (refl, refl, refl, refl)
