-- `lines::reading::read_bytes` meets its contract.
-- Assumes nothing.
use mathlib.Core.Path.{◌∙◌}
use native.Mathlib.Omega.{arith}
use Rattle.std.proofs.lemmas.Result.{err_from_is_err_and}
use Rattle.lines.proofs.ReadingLaws.{ends}
use Rattle.lines.proofs.reading.read_bytes.Goals as goal

pub returns-in_err-at-clause-words_after : goal.returns-in_err-at-clause-words_after
returns-in_err-at-clause-words_after c =
    let p = err_from_is_err_and c.from_residual.result c.from_residual.ensures.1 in
    rw (p.1, p.2) (ends c.args.text.now c.loop-byte.byte-index c.loop-byte.at c.loop-byte.words _ _ (omega arith) c.read_byte.ensures.words_after _ c.in_err-at.was ∙ c.loop-byte.invariant.2)
