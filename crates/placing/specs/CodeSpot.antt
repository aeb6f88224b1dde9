-- The code's search of the domain's own blocks, whose answer may be none. Readers may pass over this.
use Rattle.std.specs.Prelude.{ℕ, List, Option, Some, None, cond}
use Rattle.layout.specs.declared.Sizes.{Sizes}
use Rattle.placing.specs.declared.Spot.{Spot}
use Rattle.placing.specs.Placing.{has_own_entry, own_treeling, own_entry, spot_at}

-- The entry that the next page of domain d goes to, if it is in its own blocks.
abbrev pub own_spot : Sizes → List ℕ → ℕ → Option Spot
own_spot z s d = cond (has_own_entry z s d) (Some (spot_at (own_treeling z s d) (own_entry z s d))) None
