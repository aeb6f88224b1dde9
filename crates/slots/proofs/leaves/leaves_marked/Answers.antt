-- `slots::leaves::leaves_marked` meets its contract.
use Rattle.layout.proofs.BoundedLaws.{all_none}
use Rattle.slots.proofs.leaves.leaves_marked.Goals as goal

pub loop-b-init : goal.loop-b-init
loop-b-init c = (all_none _, c.requires.marks)
