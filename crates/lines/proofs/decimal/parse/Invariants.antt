-- `lines::decimal::parse` meets its contract. The loop's invariant: what is left of the text gives the whole answer.
-- Assumes nothing.
use mathlib.Core.Path.{◌≡◌}
use lib.ListN.{drop}
use Rattle.std.specs.Prelude.{Some}
use Rattle.lines.specs.Decimal.{with_bytes}
use Rattle.lines.proofs.decimal.parse.Given as goal

abbrev pub invariant-loop-byte : goal.invariant-loop-byte
invariant-loop-byte l = with_bytes (Some l.value) (drop l.byte-index l.text) ≡ with_bytes (Some 0) l.text
