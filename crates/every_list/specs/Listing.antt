-- The list that a number stands for, written to the front of words.
use Rattle.std.specs.Prelude.{ℕ, ◌*◌, cond, leb, length}
use Rattle.std.proofs.Math.Option.{Option, none, some}
use mathlib.Core.List.{List, flatten}
use Rattle.std.proofs.lemmas.List.Edits.{sets}
use Rattle.layout.specs.Outcomes.{OutcomeOf, outcome}
use Rattle.std.specs.Prelude.{Some, None}
use Rattle.std.specs.Prelude.{Option as Listing}

-- How many requests the list has, where there is one and room for it.
abbrev pub Listed : Type 0
Listed = Listing ℕ

-- Nothing is written where there is no such list or no room for it.
unfoldable pub listed : Option (List (List ℕ)) → List ℕ → OutcomeOf Listed
listed none ws = outcome None ws
listed (some l) ws =
    cond (leb (4 * length l) (length ws)) (outcome (Some (length l)) (sets ws 0 (flatten l))) (outcome None ws)

-- For hosts, a number: how many requests, and 4 for none.
abbrev pub count_of : Listed → ℕ
count_of (Some n) = n
count_of None = 4
