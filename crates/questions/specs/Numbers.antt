-- The number of what the code answers to questions: 0 where all are passed.
use Rattle.std.specs.Prelude.{ℕ, Result, Ok, Err}
use Rattle.pages.specs.declared.Refusal.{Refusal}
use Rattle.pages.specs.Answers.{refusal_number}

abbrev pub number_of : {T : Type 0} → Result T Refusal → ℕ
number_of (Ok passed) = 0
number_of (Err refusal) = refusal_number refusal
