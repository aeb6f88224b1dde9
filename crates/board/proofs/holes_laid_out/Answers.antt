-- `board::holes_laid_out` meets its contract.
-- Assumes nothing.
use Prim.Native.Nat.{ℕ}
use mathlib.Core.Path.{sym, ap, ◌∙◌}
use Rattle.board.specs.Holes.{holes_fit, hole_words}
use Rattle.board.proofs.HoleLaws.{unfit_refused, unused_decided}
use Rattle.board.proofs.holes_laid_out.Goals as goal

pub returns-then-not-holes_fit : goal.returns-then-not-holes_fit
returns-then-not-holes_fit c =
    let a = c.args in
    unfit_refused a.frames a.state.now
    (ap (λ (n : ℕ). holes_fit a.frames n (hole_words a.state.now)) (sym c.hole_count-n.ensures) ∙ sym c.if-not-holes_fit.ensures.value)

pub returns : goal.returns
returns c =
    let a = c.args in
    unused_decided a.frames a.state.now c.all_zero.result
    (ap (λ (n : ℕ). holes_fit a.frames n (hole_words a.state.now)) (sym c.hole_count-n.ensures) ∙ sym c.if-not-holes_fit.ensures.value)
    (rw c.hole_count-n.ensures at c.all_zero.ensures)
