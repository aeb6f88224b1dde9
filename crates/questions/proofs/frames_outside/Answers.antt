-- `questions::frames_outside` meets its contract.
use mathlib.Core.Path.{ap}
use Rattle.calls.specs.Numbers.{uses_of}
use Rattle.questions.proofs.RequestCodeLaws.{frame_clear, run_clear}
use Rattle.questions.proofs.frames_outside.Goals as goal

pub returns-in-OneFrame : goal.returns-in-OneFrame
returns-in-OneFrame c =
    let a = c.args in
    frame_clear a.state.now (uses_of a.u) a.q.frame a.q.count c.frame_outside.result (ap uses_of c.in-OneFrame.is) c.frame_outside.ensures

pub returns-in-FrameAndCount : goal.returns-in-FrameAndCount
returns-in-FrameAndCount c =
    let a = c.args in
    run_clear a.state.now (uses_of a.u) a.q.frame a.q.count c.run_outside.result (ap uses_of c.in-FrameAndCount.is) c.run_outside.ensures
