-- `audit::passes::sized` meets its contract: cleared marks and counts are those of no words.
use native.Mathlib.Omega.{arith}
use Rattle.audit.proofs.PassLaws.{marks_none, counted_none}
use Rattle.audit.proofs.passes.sized.Goals as goal

pub bodies_pass-requires-clause-marks : goal.bodies_pass-requires-clause-marks
bodies_pass-requires-clause-marks g c =
    (marks_none c.args.sizes c.args.state.now _ (omega arith), counted_none c.args.sizes c.args.state.now _ (omega arith))
