-- `random_lists::drawn_requests::fill_last` meets its contract. The loops' invariants: the board stays.
-- Assumes nothing.
use mathlib.Core.Path.{◌≡◌}
use Rattle.random_lists.proofs.drawn_requests.fill_last.Given as goal

abbrev pub invariant-loop-domain : goal.invariant-loop-domain
invariant-loop-domain l = l.draws.sizes ≡ l.fn.draws.sizes

abbrev pub invariant-loop-request : goal.invariant-loop-request
invariant-loop-request l = l.draws.sizes ≡ l.fn.draws.sizes
