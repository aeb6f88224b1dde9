-- `domains::closing::clear_leaves` meets its contract. The loop's invariant: the leaf IDs of the frames so far are done.
-- Assumes nothing.
use mathlib.Core.Path.{◌≡◌}
use Rattle.domains.specs.Closing.{leaves_cleared}
use Rattle.domains.proofs.closing.clear_leaves.Given as goal

abbrev pub invariant-loop-f : goal.invariant-loop-f
invariant-loop-f l = l.state ≡ leaves_cleared l.sizes l.initial.state l.d l.f
