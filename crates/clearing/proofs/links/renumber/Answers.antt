-- `clearing::links::renumber` meets its contract.
use mathlib.Core.Path.{◌≡◌, ◌∙◌}
use native.Mathlib.Omega.{arith}
use Rattle.clearing.proofs.ClearCodeLaws.{linked_none, last_none, last-next, linked_more}
use Rattle.clearing.proofs.links.renumber.Goals as goal

pub loop-q-init : goal.loop-q-init
loop-q-init c = (last_none c.args.kept.now, linked_none c.args.sizes c.args.kept.now c.args.state.now)

pub loop-q-preserved : goal.loop-q-preserved
loop-q-preserved c =
    let m = c.loop-q in
    (c.from-link.ensures ∙ last-next c.args.kept.now m.q, rw c.from.ensures (linked_more c.args.sizes c.args.kept.now c.args.state.now m.state m.q c.treeling-at.result m.before (rw c.from-link.ensures at c.treeling-at.ensures) m.invariant.0 m.invariant.1))

pub returns : goal.returns
returns c =
    let m = c.loop-q in
    let all : m.q ≡ c.args.n = omega arith in
    rw all at m.invariant
