-- `returning::trim::add_entries` meets its contract. The loop's invariant: the entries so far are added, four at a time.
-- Assumes nothing.
use Prim.Native.Nat.{◌*◌}
use Rattle.clearing.specs.CodeKept.{Added}
use Rattle.returning.proofs.trim.add_entries.Given as goal

abbrev pub invariant-loop-k : goal.invariant-loop-k
invariant-loop-k l = Added l.state l.at (4 * l.k) l.initial.sums l.sums
