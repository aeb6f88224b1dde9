-- The sizes of the lists.
use Rattle.std.specs.Prelude.{◌≤◌}
use Rattle.layout.specs.declared.Sizes.{Sizes}

pub record Small (z : Sizes) : Type 0 where
  pub some_treelings : 1 ≤ z.treelings
  pub max_treelings : z.treelings ≤ 3
  pub some_domains : 1 ≤ z.domains
  pub max_domains : z.domains ≤ 4
  pub some_frames : 1 ≤ z.frames
  pub max_frames : z.frames ≤ 9000
