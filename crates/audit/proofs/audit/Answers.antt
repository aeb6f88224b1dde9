-- `audit::audit` meets its contract. Past the first question the words are laid out as they should be, so they are at least 25.
-- Assumes nothing.
use mathlib.Core.Path.{sym, ◌∙◌}
use native.Mathlib.Omega.{arith}
use Rattle.sound.proofs.ContentsLaws.{laid_out}
use Rattle.audit.proofs.PassLaws.{laid_long}
use Rattle.audit.proofs.audit.Goals as goal

pub read-requires : goal.read-requires
read-requires c = omega (arith, laid_long c.args.state.now (sym c.laid_out.ensures ∙ c.if-not-laid_out.false))

pub passes-requires : goal.passes-requires
passes-requires c =
    rw (c.read.ensures) (laid_out c.args.state.now (sym c.laid_out.ensures ∙ c.if-not-laid_out.false))
