-- `slots::entries::span_of` meets its contract: the owner is a domain, its head names a TreeLing and one of its blocks.
use native.Mathlib.Omega.{arith}
use Rattle.slots.proofs.EntryLaws.{owner_read, head_read_range, span_read}
use Rattle.slots.proofs.entries.span_of.Goals as goal

pub domain-head-requires-clause-d_le_domains : goal.domain-head-requires-clause-d_le_domains
domain-head-requires-clause-d_le_domains c =
    (omega (arith, owner_read c.args.sizes c.args.state.now c.args.t c.treeling-at.result c.requires.records c.requires.t_lt_treelings.0 c.requires.t_lt_treelings.1 c.treeling-at.ensures), omega arith)

pub bounds-state-head : goal.bounds-state-head
bounds-state-head c = omega (arith, owner_read c.args.sizes c.args.state.now c.args.t c.treeling-at.result c.requires.records c.requires.t_lt_treelings.0 c.requires.t_lt_treelings.1 c.treeling-at.ensures)

pub bounds-state-head-2 : goal.bounds-state-head-2
bounds-state-head-2 c = omega (arith, owner_read c.args.sizes c.args.state.now c.args.t c.treeling-at.result c.requires.records c.requires.t_lt_treelings.0 c.requires.t_lt_treelings.1 c.treeling-at.ensures)

pub overflow_sub-state-2 : goal.overflow_sub-state-2
overflow_sub-state-2 c = omega (arith, head_read_range c.args.sizes c.args.state.now c.args.t c.treeling-at.result c.requires.records c.requires.t_lt_treelings.0 c.requires.t_lt_treelings.1 c.treeling-at.ensures c.domain-head.result c.domain-head.ensures)

pub treeling-requires-clause-t_le_treelings : goal.treeling-requires-clause-t_le_treelings
treeling-requires-clause-t_le_treelings c =
    (omega (arith, head_read_range c.args.sizes c.args.state.now c.args.t c.treeling-at.result c.requires.records c.requires.t_lt_treelings.0 c.requires.t_lt_treelings.1 c.treeling-at.ensures c.domain-head.result c.domain-head.ensures), omega arith)

pub offset_bounds-state-treeling : goal.offset_bounds-state-treeling
offset_bounds-state-treeling c = omega (arith, head_read_range c.args.sizes c.args.state.now c.args.t c.treeling-at.result c.requires.records c.requires.t_lt_treelings.0 c.requires.t_lt_treelings.1 c.treeling-at.ensures c.domain-head.result c.domain-head.ensures)

pub bounds-state-treeling : goal.bounds-state-treeling
bounds-state-treeling c = omega (arith, head_read_range c.args.sizes c.args.state.now c.args.t c.treeling-at.result c.requires.records c.requires.t_lt_treelings.0 c.requires.t_lt_treelings.1 c.treeling-at.ensures c.domain-head.result c.domain-head.ensures)

pub span_at-requires : goal.span_at-requires
span_at-requires c =
    (head_read_range c.args.sizes c.args.state.now c.args.t c.treeling-at.result c.requires.records c.requires.t_lt_treelings.0 c.requires.t_lt_treelings.1 c.treeling-at.ensures c.domain-head.result c.domain-head.ensures).2

pub returns : goal.returns
returns c =
    span_read c.args.sizes c.args.state.now c.args.t c.treeling-at.result c.requires.records c.requires.t_lt_treelings.0 c.requires.t_lt_treelings.1 c.treeling-at.ensures c.domain-head.result c.domain-head.ensures c.treeling.result c.span_at.result.start c.span_at.result.end c.treeling.ensures c.span_at.ensures.0 c.span_at.ensures.1
