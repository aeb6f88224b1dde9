-- When there is no place: "If no place is found the request ends there with 13."
use Rattle.std.specs.Prelude.{ℕ, suc, ◌*◌, ◌/◌, ◌<◌, ◌≡◌, List}
use Rattle.layout.specs.declared.Sizes.{Sizes}
use Rattle.layout.specs.Places.{get, owner}
use Rattle.sound.specs.Sentences.{times_named}

-- Every slot of every TreeLing of domain d is in use: a leaf map word names it.
pub record AllInUse (z : Sizes) (s : List ℕ) (d : ℕ) : Type 0 where
  pub in_use : (y : ℕ) → y < 4096 * z.treelings → get z s (owner (y / 4096)) ≡ suc d → times_named z s y ≡ 1

-- Every TreeLing is owned: the pool is empty.
pub record AllOwned (z : Sizes) (s : List ℕ) : Type 0 where
  pub some_owner : (t : ℕ) → t < z.treelings → 0 < get z s (owner t)
