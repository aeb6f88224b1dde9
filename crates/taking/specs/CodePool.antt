-- The code's search of the pool, whose answer may be none. Readers may pass over this.
use Rattle.std.specs.Prelude.{ℕ, List, Bool, Option, Some, None, cond, eqb}
use Rattle.layout.specs.declared.Sizes.{Sizes}
use Rattle.layout.specs.Places.{get, owner}
use Rattle.taking.specs.Taking.{has_unowned, unowned}

-- TreeLing t is unowned.
abbrev pub is_unowned : Sizes → List ℕ → ℕ → Bool
is_unowned z s t = eqb (get z s (owner t)) 0

-- The first unowned TreeLing.
abbrev pub pool : Sizes → List ℕ → Option ℕ
pool z s = cond (has_unowned z s) (Some (unowned z s)) None
