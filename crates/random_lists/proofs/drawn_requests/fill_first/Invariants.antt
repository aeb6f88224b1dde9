-- `random_lists::drawn_requests::fill_first` meets its contract. The loops' invariants: the board stays.
-- Assumes nothing.
use mathlib.Core.Path.{◌≡◌}
use Rattle.random_lists.proofs.drawn_requests.fill_first.Given as goal

abbrev pub invariant-loop-domain : goal.invariant-loop-domain
invariant-loop-domain l = l.draws.sizes ≡ l.fn.draws.sizes

abbrev pub invariant-loop-run : goal.invariant-loop-run
invariant-loop-run l = l.draws.sizes ≡ l.fn.draws.sizes
