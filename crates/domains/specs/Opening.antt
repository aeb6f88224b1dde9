-- Document 01, "Calls": "1 open".
use Rattle.std.specs.Prelude.{ℕ, List}
use Rattle.layout.specs.declared.Sizes.{Sizes}
use Rattle.layout.specs.Outcomes.{outcome}
use Rattle.layout.specs.Places.{put, live}
use Rattle.pages.specs.Answers.{Finished, Outcome}

-- Domain d is live.
unfoldable pub open_call : Sizes → List ℕ → ℕ → Outcome
open_call z s d = outcome (Finished 0) (put z s (live d) 1)
