-- `questions::frame_outside` meets its contract.
-- Assumes nothing.
use mathlib.Core.Path.{◌∙◌}
use Rattle.questions.proofs.RequestCodeLaws.{one_outside}
use Rattle.questions.proofs.frame_outside.Goals as goal

pub returns : goal.returns
returns c =
    let a = c.args in
    c.all_outside.ensures ∙ one_outside a.state.now a.f
