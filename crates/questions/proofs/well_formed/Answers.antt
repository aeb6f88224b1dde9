-- `questions::well_formed` meets its contract.
use mathlib.Core.Path.{ap}
use Rattle.calls.specs.Numbers.{uses_of}
use Rattle.questions.proofs.RequestCodeLaws.{one_decides}
use Rattle.questions.proofs.well_formed.Goals as goal

pub returns-in-OneFrame : goal.returns-in-OneFrame
returns-in-OneFrame c =
    let a = c.args in
    one_decides (uses_of a.u) a.q.frame a.q.count (ap uses_of c.in-OneFrame.is)
