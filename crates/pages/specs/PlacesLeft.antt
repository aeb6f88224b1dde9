-- Request M-106: "4,096 times the domain's own and unowned TreeLings, less its mapped pages", so many more pages domain d can map.
-- A run of maps is compared with the same number.
use Rattle.std.specs.Prelude.{ℕ, ◌+◌, ◌-◌, ◌*◌, List, eqb}
use Rattle.layout.specs.declared.Sizes.{Sizes}
use Rattle.layout.specs.Places.{get, owner, pages_mapped}
use Rattle.layout.specs.Bounded.{count}
use Rattle.world.specs.World.{owned}

module _ (z : Sizes) (s : List ℕ) where
  -- The number of unowned TreeLings.
  unfoldable pub in_pool : ℕ
  in_pool = count z.treelings (λ t. eqb (get z s (owner t)) 0)

  unfoldable pub places : ℕ → ℕ
  places d = 4096 * (owned z s d + in_pool) - get z s (pages_mapped d)
