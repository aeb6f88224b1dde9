-- `making::write_holes` meets its contract.
-- Assumes nothing.
use Prim.Native.Nat.{ℕ, ◌+◌}
use mathlib.Core.Path.{◌≡◌, ap, ◌∙◌}
use mathlib.Core.List.{List}
use native.Mathlib.Omega.{arith}
use lib.ListN.{length, set, get_or}
use lib.Seq.{paste}
use Rattle.std.proofs.lemmas.List.Edits.{paste_none, paste_more}
use Rattle.making.proofs.write_holes.Goals as goal

pub loop-k-init : goal.loop-k-init
loop-k-init c = paste_none c.args.state.now 9 c.args.holes.now

pub loop-k-preserved : goal.loop-k-preserved
loop-k-preserved c =
    let a = c.args in
    let k = c.loop-k.k in
    ap (λ (l : List ℕ). set l (9 + k) (get_or a.holes.now k 0)) c.loop-k.invariant
    ∙ paste_more a.state.now 9 a.holes.now k 0 (omega arith) (omega arith)

pub returns : goal.returns
returns c =
    let a = c.args in
    let all : c.loop-k.k ≡ length a.holes.now = omega arith in
    c.loop-k.invariant ∙ ap (paste a.state.now 9 a.holes.now) all
