-- `records::links::is_followed` meets its contract: the owner and the previous TreeLing are in range.
use Rattle.std.proofs.Common.{◌+◌, ◌≤◌, get_or}
use native.Mathlib.Omega.{arith}
use Rattle.records.proofs.RecordCodeLaws.{bound_at, treeling_facts}
use Rattle.records.proofs.links.is_followed.Goals as goal

pub domain-requires-clause-d_le_domains : goal.domain-requires-clause-d_le_domains
domain-requires-clause-d_le_domains c =
    let f = treeling_facts c.args.sizes c.args.state.now c.requires.state_value c.args.t c.requires.t_lt_treelings in
    (omega (arith, bound_at c.args.state.now _ c.treeling-at.ensures f.owner_range), omega arith)

pub offset_bounds-state-domain : goal.offset_bounds-state-domain
offset_bounds-state-domain c =
    let f = treeling_facts c.args.sizes c.args.state.now c.requires.state_value c.args.t c.requires.t_lt_treelings in
    omega (arith, bound_at c.args.state.now _ c.treeling-at.ensures f.owner_range)

pub bounds-state-domain : goal.bounds-state-domain
bounds-state-domain c =
    let f = treeling_facts c.args.sizes c.args.state.now c.requires.state_value c.args.t c.requires.t_lt_treelings in
    omega (arith, bound_at c.args.state.now _ c.treeling-at.ensures f.owner_range)

pub is_next_of-requires-clause-t_lt_treelings : goal.is_next_of-requires-clause-t_lt_treelings
is_next_of-requires-clause-t_lt_treelings c =
    let f = treeling_facts c.args.sizes c.args.state.now c.requires.state_value c.args.t c.requires.t_lt_treelings in
    let p : get_or c.args.state.now (c.treeling-at.result + 1) 0 ≤ c.args.sizes.treelings = bound_at c.args.state.now _ (omega arith) f.previous_range in
    (c.requires.t_lt_treelings, omega arith)
