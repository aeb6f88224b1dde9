-- `chains::follows_chain` meets its contract.
use Prim.Native.Nat.{ℕ, ◌-◌, ◌≤◌, zero-le}
use mathlib.Core.Path.{refl, ap, sym, ◌∙◌}
use native.Mathlib.Omega.{arith}
use lib.ListN.{get_or}
use lib.Dec.{eqb}
use Rattle.records.proofs.ChainCodeLaws.{follows_start, link_in, follows_end, follows_out, follows_stop, follows_step}
use Rattle.records.proofs.RecordCodeLaws.{bound_at, word_at, domain_facts, treeling_facts}
use Rattle.chains.proofs.follows_chain.Goals as goal

pub loop-x-init : goal.loop-x-init
loop-x-init c =
    let a = c.args in
    let w = word_at a.state.now c.domain.ensures in
    let f = domain_facts a.sizes a.state.now c.requires.state_value a.d c.requires.d_lt_domains in
    (zero-le, refl, bound_at a.state.now _ c.domain.ensures f.first_range, follows_start a.sizes a.state.now a.d (get_or a.state.now c.domain.result 0) w)

pub returns-in_default : goal.returns-in_default
returns-in_default c =
    let a = c.args in
    let none : a.sizes.treelings ≤ c.loop-x.ranks.start = omega (arith, c.in_default.ensures.steps) in
    follows_out a.sizes a.state.now a.d c.loop-x.ranks.start c.loop-x.before c.loop-x.x none c.loop-x-test.true
    ∙ c.loop-x.invariant.3

pub returns-then-not-is_linked : goal.returns-then-not-is_linked
returns-then-not-is_linked c =
    let a = c.args in
    let next = c.in-Some.ensures.steps in
    let linked = rw next.1.1 at c.is_linked.ensures in
    follows_stop a.sizes a.state.now a.d c.loop-x.ranks.start c.loop-x.before c.loop-x.x (omega arith) c.loop-x-test.true
    (sym linked ∙ c.if-not-is_linked.true)
    ∙ c.loop-x.invariant.3

pub loop-x-preserved : goal.loop-x-preserved
loop-x-preserved c =
    let a = c.args in
    let next = c.in-Some.ensures.steps in
    let linked = rw next.1.1 at c.is_linked.ensures in
    let f = treeling_facts a.sizes a.state.now c.requires.state_value_2 (c.loop-x.x - 1) (link_in _ _ c.loop-x.invariant.2 c.loop-x-test.true) in
    let step = follows_step a.sizes a.state.now a.d c.loop-x.ranks.start c.loop-x.before c.loop-x.x (omega arith) c.loop-x-test.true
    (get_or a.state.now c.treeling.result 0) (sym linked ∙ c.if-not-is_linked.false) (word_at a.state.now c.treeling.ensures) in
    (omega arith, omega arith, bound_at a.state.now _ c.treeling.ensures f.next_range, rw next.1.2 (step ∙ c.loop-x.invariant.3))

pub returns : goal.returns
returns c =
    let a = c.args in
    ap (λ (k : ℕ). eqb k c.loop-x.before) (word_at a.state.now c.domain-2.ensures)
    ∙ follows_end a.sizes a.state.now a.d (a.sizes.treelings - c.loop-x.ranks.start) c.loop-x.ranks.start c.loop-x.before c.loop-x.x c.loop-x-test.false
    ∙ c.loop-x.invariant.3
