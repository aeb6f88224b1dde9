-- `lines::input::read_requests` meets its contract. The loop's invariant: the requests read so far have room.
-- Assumes nothing.
use Prim.Native.Nat.{◌/◌, ◌≤◌}
use mathlib.Core.Path.{◌≡◌}
use lib.ListN.{length}
use Rattle.lines.proofs.input.read_requests.Given as goal

abbrev pub invariant-loop : goal.invariant-loop
invariant-loop g l = (l.place.requests ≤ length l.initial.words / 4) × (length l.words ≡ length l.initial.words)
