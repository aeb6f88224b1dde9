-- `gathering::lower` meets its contract.
use mathlib.Core.Path.{◌≡◌, ap, ap₂, ◌∙◌}
use native.Mathlib.Omega.{arith}
use borrow.Rule.Slice.PartMut.{mid_of, put_mid}
use Prim.Native.Nat.{ℕ, ◌+◌, ◌-◌}
use Rattle.gathering.specs.CodeGathering.{lowered}
use Rattle.gathering.proofs.GatherLaws.{lowered_none, lowered_alone, lowered_part}
use Rattle.gathering.proofs.lower.Goals as goal

pub loop-word-init : goal.loop-word-init
loop-word-init c = lowered_none _ 0

pub loop-word-preserved : goal.loop-word-preserved
loop-word-preserved c = lowered_alone _ _ c.loop-word.word-index c.loop-word.invariant

pub returns : goal.returns
returns c =
    let s = c.args.state.now in
    let at = c.entry-at.result in
    let long : at + 512 - at ≡ 512 = omega arith in
    let all : c.loop-word.word-index ≡ 512 = omega arith in
    ap (put_mid at (at + 512 - at) s) c.loop-word.invariant
    ∙ ap₂ (λ (k n : ℕ). put_mid at k s (lowered (mid_of at k s) 0 n)) long all
    ∙ lowered_part s at 512 512 (omega arith) (omega arith)
    ∙ ap (λ (a : ℕ). lowered s a 512) c.entry-at.ensures
