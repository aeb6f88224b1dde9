-- `taking::write_fresh` meets its contract. The loop's invariant: the first k entries are fresh, the others as they were.
-- Assumes nothing.
use mathlib.Core.Path.{◌≡◌}
use Rattle.taking.specs.Taking.{fresh_entries}
use Rattle.taking.proofs.write_fresh.Given as goal

abbrev pub invariant-loop-k : goal.invariant-loop-k
invariant-loop-k l = l.state ≡ fresh_entries l.fn.sizes l.fn.state l.fn.t l.k
