-- `questions::frames_fit` meets its contract.
use mathlib.Core.Path.{ap}
use Rattle.calls.specs.Numbers.{uses_of}
use Rattle.questions.proofs.RequestCodeLaws.{one_fits, run_fits_lem}
use Rattle.questions.proofs.frames_fit.Goals as goal

pub returns-in-OneFrame : goal.returns-in-OneFrame
returns-in-OneFrame c =
    let a = c.args in
    one_fits a.sizes (uses_of a.u) a.q.frame a.q.count c.frame_fits.result (ap uses_of c.in-OneFrame.is) c.frame_fits.ensures

pub returns-in-FrameAndCount : goal.returns-in-FrameAndCount
returns-in-FrameAndCount c =
    let a = c.args in
    run_fits_lem a.sizes (uses_of a.u) a.q.frame a.q.count c.run_fits.result (ap uses_of c.in-FrameAndCount.is) c.run_fits.ensures
