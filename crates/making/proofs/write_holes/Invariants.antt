-- `making::write_holes` meets its contract. The loop's invariant: the first k words are written.
-- Assumes nothing.
use mathlib.Core.Path.{◌≡◌}
use lib.Seq.{paste}
use Rattle.making.proofs.write_holes.Given as goal

abbrev pub invariant-loop-k : goal.invariant-loop-k
invariant-loop-k l = l.state ≡ paste l.initial.state 9 l.holes l.k
