-- `layout::words::gather_nonzero` meets its contract.
-- Assumes nothing.
use Prim.Native.Nat.{◌+◌, ◌-◌}
use mathlib.Core.Path.{◌≡◌, ◌∙◌}
use native.Mathlib.Omega.{arith}
use lib.ListN.{get_or, take, drop, length}
use Rattle.std.proofs.Common.{rules}
use Rattle.std.proofs.lemmas.List.{get_or-take, get_or-drop}
use Rattle.layout.proofs.GatherLaws.{none_gathered, one_gathered}
use Rattle.layout.proofs.words.gather_nonzero.Goals as goal

pub loop-x-init : goal.loop-x-init
loop-x-init c = none_gathered _ _ _

pub loop-x-preserved : goal.loop-x-preserved
loop-x-preserved c =
    let a = c.args in
    let m = c.loop-x in
    let long : length (take (a.at + a.n - a.at) (drop a.at a.state.now)) ≡ a.n = search rules in
    let word : get_or (take (a.at + a.n - a.at) (drop a.at a.state.now)) m.x-index 0 ≡ get_or a.state.now (a.at + m.x-index) 0 =
    get_or-take (a.at + a.n - a.at) (drop a.at a.state.now) m.x-index 0 (omega arith) ∙ get_or-drop a.at a.state.now m.x-index 0 in
    rw c.from-m.ensures (one_gathered _ _ _ _ _ _ word (omega (arith, m.invariant.most)) m.invariant)
