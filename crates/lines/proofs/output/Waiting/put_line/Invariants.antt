-- `lines::output::Waiting::put_line` meets its contract. The loop's invariant: each number so far has at most 21 bytes.
-- Assumes nothing.
use Prim.Native.Nat.{◌+◌, ◌*◌, ◌≤◌}
use lib.ListN.{length}
use Rattle.lines.proofs.output.Waiting.put_line.Given as goal

abbrev pub invariant-loop-number : goal.invariant-loop-number
invariant-loop-number l = length l.self ≤ length l.initial.self + 21 * l.number-index
