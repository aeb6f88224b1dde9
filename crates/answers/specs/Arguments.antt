-- Sizes that the arguments may give.
use Rattle.std.specs.Prelude.{ℕ, ◌≤◌, Option, Some, None, Result, Ok, Err}
use Rattle.layout.specs.declared.Sizes.{Sizes}
use Rattle.layout.specs.Places.{Allowed, word_count}
use Rattle.answers.specs.declared.sizes.SizesError.{SizesError}

abbrev pub UpTo : Option ℕ → ℕ → Type 0
UpTo (Some n) most = (1 ≤ n) × (n ≤ most)
UpTo None most = Unit

-- The state has at most 524,288 words.
abbrev pub Fits : Result Sizes SizesError → Type 0
Fits (Ok z) = Allowed z × (word_count z ≤ 524288)
Fits (Err error) = Unit
