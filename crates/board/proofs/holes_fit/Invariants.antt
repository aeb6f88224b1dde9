-- `board::holes_fit` meets its contract. The loop's invariant: the holes so far fit, and the words left are those of the others.
-- Assumes nothing.
use mathlib.Core.Path.{◌≡◌}
use lib.ListN.{length, drop}
use Rattle.board.proofs.HoleLaws.{Left, Passed}
use Rattle.board.proofs.holes_fit.Given as goal

abbrev pub invariant-loop-pair : goal.invariant-loop-pair
invariant-loop-pair l =
    (l.pair-iterator.size ≡ 2)
    × Left l.n (length l.yielded) (drop l.at l.words) l.pair-iterator.rest.now
    × Passed l.frames (drop l.at l.words) (length l.yielded) l.from
