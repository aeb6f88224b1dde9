-- `slots::leaves::leaves_marked` meets its contract.
-- Assumes nothing.
use Prim.Native.Nat.{◌*◌}
use Rattle.slots.specs.CodeMarks.{LeavesMarked}
use Rattle.slots.proofs.leaves.leaves_marked.Given as goal

abbrev pub invariant-loop-b : goal.invariant-loop-b
invariant-loop-b l = LeavesMarked l.sizes l.state (64 * l.b) l.marks
