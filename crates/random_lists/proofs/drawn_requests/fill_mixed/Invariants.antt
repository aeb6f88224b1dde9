-- `random_lists::drawn_requests::fill_mixed` meets its contract. The loop's invariant: the board stays.
-- Assumes nothing.
use mathlib.Core.Path.{◌≡◌}
use Rattle.random_lists.proofs.drawn_requests.fill_mixed.Given as goal

abbrev pub invariant-loop-request : goal.invariant-loop-request
invariant-loop-request l = l.draws.sizes ≡ l.fn.draws.sizes
