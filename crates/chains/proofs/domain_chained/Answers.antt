-- `chains::domain_chained` meets its contract: a head is in range.
use Prim.Native.Nat.{◌+◌, ◌≤◌}
use mathlib.Core.Path.{sym, ◌∙◌}
use native.Mathlib.Omega.{arith}
use borrow.Author.Tests.{eq-eqb}
use lib.ListN.{get_or}
use Rattle.records.proofs.RecordCodeLaws.{bound_at, domain_facts}
use Rattle.records.proofs.ChainCodeLaws.{chained_headless, chained_head}
use Rattle.chains.proofs.domain_chained.Goals as goal

pub treeling-requires-clause-t_le_treelings : goal.treeling-requires-clause-t_le_treelings
treeling-requires-clause-t_le_treelings c =
    let f = domain_facts c.args.sizes c.args.state.now c.requires.state_value c.args.d c.requires.d_lt_domains in
    let h : get_or c.args.state.now (c.domain-at.result + 2) 0 ≤ c.args.sizes.treelings = bound_at c.args.state.now _ (omega arith) f.head_range in
    (omega arith, omega arith)

pub offset_bounds-state-treeling : goal.offset_bounds-state-treeling
offset_bounds-state-treeling c =
    let f = domain_facts c.args.sizes c.args.state.now c.requires.state_value c.args.d c.requires.d_lt_domains in
    let h : get_or c.args.state.now (c.domain-at.result + 2) 0 ≤ c.args.sizes.treelings = bound_at c.args.state.now _ (omega arith) f.head_range in
    omega arith

pub bounds-state-treeling : goal.bounds-state-treeling
bounds-state-treeling c =
    let f = domain_facts c.args.sizes c.args.state.now c.requires.state_value c.args.d c.requires.d_lt_domains in
    let h : get_or c.args.state.now (c.domain-at.result + 2) 0 ≤ c.args.sizes.treelings = bound_at c.args.state.now _ (omega arith) f.head_range in
    omega arith

pub returns-then-head-ne0 : goal.returns-then-head-ne0
returns-then-head-ne0 c =
    chained_head _ _ _ c.domain-at.result (sym c.dead_is_zero.ensures ∙ c.if-not-dead_is_zero.false) (sym c.follows_chain.ensures ∙ c.if-not-follows_chain.false) c.domain-at.ensures
    c.if-state-at-eq0.false c.treeling.result c.if-head-ne0.true c.treeling.ensures

pub returns-else-head-ne0 : goal.returns-else-head-ne0
returns-else-head-ne0 c =
    rw (eq-eqb _ _ c.if-head-ne0.false)
    (chained_headless _ _ _ c.domain-at.result (sym c.dead_is_zero.ensures ∙ c.if-not-dead_is_zero.false) (sym c.follows_chain.ensures ∙ c.if-not-follows_chain.false) c.domain-at.ensures
    c.if-state-at-eq0.false c.if-head-ne0.false)
