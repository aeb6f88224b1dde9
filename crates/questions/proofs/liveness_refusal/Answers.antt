-- `questions::liveness_refusal` meets its contract.
use mathlib.Core.Path.{sym, ◌∙◌}
use Rattle.questions.proofs.RequestCodeLaws.{opened_twice, never_opened}
use Rattle.questions.proofs.liveness_refusal.Goals as goal

pub returns-then-opening : goal.returns-then-opening
returns-then-opening c =
    let a = c.args in
    opened_twice a.opening a.alive c.if-opening.true (sym c.liveness_fits.ensures ∙ c.if-liveness_fits.false)

pub returns : goal.returns
returns c =
    let a = c.args in
    never_opened a.opening a.alive c.if-opening.false (sym c.liveness_fits.ensures ∙ c.if-liveness_fits.false)
