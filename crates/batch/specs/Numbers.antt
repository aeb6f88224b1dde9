-- The number of what the code answers to a batch: 0 where it is served.
use Rattle.std.specs.Prelude.{ℕ, Result, Ok, Err}
use Rattle.audit.specs.Numbers.{unsound_number}
use Rattle.batch.specs.declared.Refusal.{Refusal}
use Rattle.batch.specs.declared.Refusal.TheVariants.{Unsound, Requests, Answers}

abbrev pub refusal_number : Refusal → ℕ
refusal_number (Unsound u) = unsound_number u
refusal_number Requests = 5
refusal_number Answers = 6

abbrev pub number_of : Result (Unit {0}) Refusal → ℕ
number_of (Ok _) = 0
number_of (Err refusal) = refusal_number refusal
