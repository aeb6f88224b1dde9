-- `leaf_map::mapped_ids` meets its contract.
-- Assumes nothing.
use Prim.Native.Nat.{◌+◌, ◌-◌}
use mathlib.Core.Path.{◌≡◌, ◌∙◌}
use native.Mathlib.Omega.{arith}
use lib.ListN.{get_or, take, drop, length}
use Rattle.std.proofs.Common.{rules}
use Rattle.std.proofs.lemmas.List.{get_or-take, get_or-drop}
use Rattle.layout.proofs.GatherLaws.{none_gathered}
use Rattle.leaf_map.proofs.GatheredLaws.{id_gathered, ids_gathered}
use Rattle.leaf_map.proofs.mapped_ids.Goals as goal

pub loop-word-init : goal.loop-word-init
loop-word-init c = none_gathered _ _ _

pub loop-word-preserved : goal.loop-word-preserved
loop-word-preserved c =
    let s = c.args.state.now in
    let at = c.leaf-at.result in
    let m = c.loop-word in
    let long : length (take (at + c.args.n - at) (drop at s)) ≡ c.args.n = search rules in
    let word : get_or (take (at + c.args.n - at) (drop at s)) m.word-index 0 ≡ get_or s (at + m.word-index) 0 =
    get_or-take (at + c.args.n - at) (drop at s) m.word-index 0 (omega arith) ∙ get_or-drop at s m.word-index 0 in
    rw c.from-m.ensures (id_gathered _ _ _ _ _ m.invariant _ word (omega (arith, m.invariant.most)))

pub returns : goal.returns
returns c =
    let s = c.args.state.now in
    let at = c.leaf-at.result in
    let m = c.loop-word in
    let long : length (take (at + c.args.n - at) (drop at s)) ≡ c.args.n = search rules in
    let whole : m.word-index ≡ c.args.n = omega arith in
    let ids = ids_gathered s at m.word-index m.ids m.m m.invariant (omega (arith, m.invariant.most)) in
    rw c.leaf-at.ensures at (rw whole at ids)
