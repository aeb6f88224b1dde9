-- A search of numbers in turn, which may find none.
use Rattle.std.specs.Prelude.{ℕ, ◌+◌, Bool, Option, Some, None, cond, ltb}
use Rattle.geometry.specs.Tables.{first_from}

-- The first number of which p holds among the n numbers from i on, if there is one.
abbrev pub find_from : (ℕ → Bool) → ℕ → ℕ → Option ℕ
find_from p i n = cond (ltb (first_from p i n) (i + n)) (Some (first_from p i n)) None
