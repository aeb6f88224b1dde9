-- What is read from standard input has room in the words.
use Rattle.std.specs.Prelude.{ℕ, ◌/◌, ◌≤◌, Result, Ok, Err}
use Rattle.lines.specs.declared.input.InputError.{InputError}

abbrev pub CountWithin : Result ℕ InputError → ℕ → Type 0
CountWithin (Ok k) n = k ≤ n / 4
CountWithin (Err error) n = Unit
