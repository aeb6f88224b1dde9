-- Request M-113: "A program serves each from a new state and prints its answer numbers on a line".
use Rattle.std.specs.Prelude.{ℕ, ◌*◌, length, get_or, take, replicate}
use mathlib.Core.List.{List, [], ◌∷◌, flatten}
use Rattle.board.specs.NewState.{new_state}
use Rattle.batch.specs.Batch.{Served, serving}
use Rattle.every_list.specs.SmallRequests.{small_sizes}

-- Request words served as one batch from a new state.
abbrev pub served_new : List ℕ → Served
served_new q = serving (new_state small_sizes []) q (replicate (2 * length q) 0)

-- The first word of each of three answers, 0 where there are fewer.
abbrev pub first_words : List ℕ → List ℕ
first_words a = get_or a 0 0 ∷ get_or a 8 0 ∷ get_or a 16 0 ∷ []

-- The numbers on a list's line.
abbrev pub numbers_of : List (List ℕ) → List ℕ
numbers_of l = take (length l) (first_words (served_new (flatten l)).answers)
