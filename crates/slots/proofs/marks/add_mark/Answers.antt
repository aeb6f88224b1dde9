-- `slots::marks::add_mark` meets its contract: where the mark and the positions share no bit, their sum is a byte.
-- Assumes nothing.
use native.Mathlib.Omega.{arith}
use borrow.Author.Rules.{rules}
use Rattle.sound.proofs.BitLaws.{disjoint_below}
use Rattle.slots.proofs.marks.add_mark.Goals as goal

pub overflow_add-marks : goal.overflow_add-marks
overflow_add-marks c =
    record { fits = disjoint_below _ _ (search rules) (omega arith) c.if-mark-positions-ne0.false }
