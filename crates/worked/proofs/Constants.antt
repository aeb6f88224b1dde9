-- The papers' constants, as closed facts of the definitions: the largest that is taken, and the first that is not.
-- Assumes nothing.
use Prim.Native.Nat.{ℕ, ◌+◌, ◌%◌}
use mathlib.Core.Path.{◌≡◌, refl, ap}
use mathlib.Core.List.{List, [], ◌∷◌}
use mathlib.Core.Bool.{true, false, ◌&&◌}
use lib.Dec.{eqb, leb}
use lib.ListN.{length}
use Rattle.layout.specs.Bounded.{all}
use Rattle.board.specs.Holes.{holes_allowed, holes_fit}
use Rattle.layout.specs.Places.{allowed, sizes_of, word_count}
use Rattle.calls.specs.Table.{FrameAndCount}
use Rattle.questions.specs.Questions.{frames_fit}
use Rattle.batch.specs.Batch.{requests_fit}

-- Document 01: "T TreeLings (1 to 4,096), D domains (1 to 4,096), P page frames (1 to 8,388,608)."
pub record SizesTaken : Type 0 where
  smallest : allowed (sizes_of 1 1 1) ≡ true
  largest : allowed (sizes_of 4096 4096 8388608) ≡ true
  no_treelings : allowed (sizes_of 0 1 1) ≡ false
  no_domains : allowed (sizes_of 1 0 1) ≡ false
  no_frames : allowed (sizes_of 1 1 0) ≡ false
  treelings_past : allowed (sizes_of 4097 1 1) ≡ false
  domains_past : allowed (sizes_of 1 4097 1) ≡ false
  frames_past : allowed (sizes_of 1 1 8388609) ≡ false

pub sizes_taken : SizesTaken
unfolding allowed
sizes_taken =
    record {
      smallest = refl;
      largest = refl;
      no_treelings = refl;
      no_domains = refl;
      no_frames = refl;
      treelings_past = refl;
      domains_past = refl;
      frames_past = refl;
    }

-- Request M-101: "a hole count (0 to 8)". Eight holes of a frame each, and nine; an odd number of words; a hole up to P, and one past it.
pub record HolesTaken : Type 0 where
  eight : holes_allowed (sizes_of 1 1 18) (0 ∷ 1 ∷ 2 ∷ 1 ∷ 4 ∷ 1 ∷ 6 ∷ 1 ∷ 8 ∷ 1 ∷ 10 ∷ 1 ∷ 12 ∷ 1 ∷ 14 ∷ 1 ∷ []) ≡ true
  nine : holes_allowed (sizes_of 1 1 18) (0 ∷ 1 ∷ 2 ∷ 1 ∷ 4 ∷ 1 ∷ 6 ∷ 1 ∷ 8 ∷ 1 ∷ 10 ∷ 1 ∷ 12 ∷ 1 ∷ 14 ∷ 1 ∷ 16 ∷ 1 ∷ []) ≡ false
  odd : holes_allowed (sizes_of 1 1 18) (0 ∷ []) ≡ false
  up_to_P : holes_allowed (sizes_of 1 1 18) (17 ∷ 1 ∷ []) ≡ true
  past_P : holes_allowed (sizes_of 1 1 18) (17 ∷ 2 ∷ []) ≡ false

pub holes_taken : HolesTaken
unfolding holes_fit all
holes_taken = record { eight = refl; nine = refl; odd = refl; up_to_P = refl; past_P = refl }

-- Document 01's length for T = D = P = 1, 531, and 17 more by M-101 and one by M-104; and the largest.
pub smallest_length : word_count (sizes_of 1 1 1) ≡ 531 + 17 + 1
smallest_length = refl

pub largest_length : word_count (sizes_of 4096 4096 8388608) ≡ 10530841
largest_length = refl

-- Request M-109: "The count limit becomes 2,048."
pub longest_run_lem : frames_fit (sizes_of 1 1 8388608) FrameAndCount 0 2048 ≡ true
longest_run_lem = refl

pub longer_run : frames_fit (sizes_of 1 1 8388608) FrameAndCount 0 2049 ≡ false
longer_run = refl

-- "Request words a multiple of 4, at most 262,144"
fits_by : (q : List ℕ) (n : ℕ) → length q ≡ n → requests_fit q ≡ eqb (n % 4) 0 && leb n 262144
fits_by q n long = ap (λ (k : ℕ). eqb (k % 4) 0 && leb k 262144) long

pub longest_batch : (q : List ℕ) → length q ≡ 262144 → requests_fit q ≡ true
longest_batch q long = fits_by q 262144 long

pub longer_batch : (q : List ℕ) → length q ≡ 262148 → requests_fit q ≡ false
longer_batch q long = fits_by q 262148 long
