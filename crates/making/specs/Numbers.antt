-- Document 01, "Making a state": the number of what making a state answers.
use Rattle.std.specs.Prelude.{ℕ, Result, Ok, Err}
use Rattle.making.specs.declared.Refusal.{Refusal}
use Rattle.making.specs.declared.Refusal.TheVariants.{Board, Length}

-- "No: 1. Length exact? No: 2."
abbrev pub refusal_number : Refusal → ℕ
refusal_number Board = 1
refusal_number Length = 2

-- 0 for a state that was made.
abbrev pub number_of : Result (Unit {0}) Refusal → ℕ
number_of (Ok made) = 0
number_of (Err refusal) = refusal_number refusal
