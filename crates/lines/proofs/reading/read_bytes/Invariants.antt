-- `lines::reading::read_bytes` meets its contract. The loop's invariant: what is left of the text gives the whole answer.
-- Assumes nothing.
use Prim.Native.Nat.{◌/◌, ◌≤◌}
use mathlib.Core.Path.{◌≡◌}
use lib.ListN.{length, drop}
use Rattle.lines.specs.Reading.{read_bytes}
use Rattle.lines.proofs.reading.read_bytes.Given as goal

abbrev pub invariant-loop-byte : goal.invariant-loop-byte
invariant-loop-byte l =
    (l.at.requests ≤ length l.initial.words / 4)
    × (length l.words ≡ length l.initial.words)
    × (read_bytes l.at (drop l.byte-index l.text) l.words ≡ read_bytes l.initial.at l.text l.initial.words)
