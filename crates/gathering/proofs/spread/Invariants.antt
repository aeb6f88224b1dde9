-- `gathering::spread` meets its contract. The loop's invariant: the pass has come to the entry that the loop counts.
-- Assumes nothing.
use mathlib.Core.Path.{◌≡◌}
use Rattle.gathering.specs.CodeGathering.{Spreading}
use Rattle.gathering.proofs.spread.Given as goal

abbrev pub invariant-loop : goal.invariant-loop
invariant-loop l =
    Spreading l.sizes l.initial.state l.d l.treelings l.spent l.initial.to.at l.state l.walk l.to × (l.walk.at ≡ l.counter)
