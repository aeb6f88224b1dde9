-- `board::all_outside` meets its contract. The loop's invariant: every hole so far ends before f.
-- Assumes nothing.
use Prim.Native.Nat.{ℕ, ◌<◌, ◌≤◌}
use Rattle.board.specs.Holes.{hole_end, hole_words}
use Rattle.board.proofs.all_outside.Given as goal

abbrev pub invariant-loop-i : goal.invariant-loop-i
invariant-loop-i l = (k : ℕ) → k < l.i → hole_end (hole_words l.state) k ≤ l.f
