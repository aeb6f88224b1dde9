-- The numbers of the audit's answers: 0 for a sound state, 3 and 4 by what is not as it should be.
use Rattle.std.specs.Prelude.{ℕ, Result, Ok, Err}
use Rattle.audit.specs.declared.Unsound.{Unsound}
use Rattle.audit.specs.declared.Unsound.TheVariants.{Contents, Bodies}

abbrev pub unsound_number : Unsound → ℕ
unsound_number Contents = 3
unsound_number Bodies = 4

abbrev pub number_of : Result (Unit {0}) Unsound → ℕ
number_of (Ok _) = 0
number_of (Err u) = unsound_number u
