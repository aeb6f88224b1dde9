-- `board::all_outside` meets its contract.
-- Assumes nothing.
use Prim.Native.Nat.{ℕ, ◌+◌, ◌<◌}
use native.Mathlib.Omega.{arith}
use mathlib.Core.Path.{ap, ◌∙◌}
use lib.Dec.{leb}
use Rattle.board.specs.Holes.{hole_count, hole_words}
use Rattle.board.proofs.HoleLaws.{decided, all-before}
use Rattle.board.proofs.all_outside.Goals as goal

pub overflow_add-last : goal.overflow_add-last
overflow_add-last c =
    omega (arith, c.hole_first-first.ensures, c.hole_length.ensures, c.requires.holes_fit.below c.loop-i.i (omega (arith, c.hole_count-i-end.ensures)), c.requires.in_bounds.1)

pub returns-then-f-last : goal.returns-then-f-last
returns-then-f-last c =
    let a = c.args in
    let i-below : c.loop-i.i < hole_count a.state.now = omega (arith, c.hole_count-i-end.ensures) in
    ap (λ (k : ℕ). leb (a.f + a.n) k) c.hole_first-first.ensures
    ∙ decided a.frames (hole_count a.state.now) (hole_words a.state.now) c.requires.holes_fit a.f a.n c.loop-i.i c.requires.le_n.0 i-below c.loop-i.invariant (omega (arith, c.if-f-last.true, c.hole_first-first.ensures, c.hole_length.ensures, c.requires.holes_fit.some c.loop-i.i i-below))

pub returns : goal.returns
returns c =
    let a = c.args in
    all-before a.frames (hole_count a.state.now) (hole_words a.state.now) c.requires.holes_fit a.f a.n c.loop-i.i (omega (arith, c.hole_count-i-end.ensures)) c.loop-i.invariant
