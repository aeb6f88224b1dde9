-- A leaf ID is of one of at most 4,096 TreeLings: what the code that writes an answer asks of it. Readers may pass over this.
use Rattle.std.specs.Prelude.{◌≤◌}
use Rattle.leaf_map.specs.LeafIds.{LeafFits}
use Rattle.pages.specs.Answers.{Answer, Refused, Finished, Page, Fill}

-- A page's leaf ID names a slot.
abbrev pub PageFits : Answer → Type 0
PageFits (Refused n) = Unit
PageFits (Finished pages) = Unit
PageFits (Page id rank pages) = (1 ≤ id.0) × LeafFits 4096 id.0
PageFits (Fill quotient remainder slots) = Unit
