-- `calls::Call::try_from` meets its contract: a number that no arm has is no call's.
-- Assumes nothing.
use mathlib.Core.Path.{refl}
use native.Mathlib.Omega.{arith}
use Rattle.calls.proofs.TableLaws.{no_call}
use Rattle.calls.proofs.CallTryFromU64.try_from.Goals as goal

pub returns-in_default : goal.returns-in_default
returns-in_default c =
    (refl, no_call c.args.number (omega arith) (omega arith) (omega arith) (omega arith) (omega arith) (omega arith) (omega arith) (omega arith) (omega arith))
