-- `gathering::settle` meets its contract.
-- Assumes nothing.
use native.Mathlib.Nat.{le_trans}
use Rattle.gathering.proofs.SettleLaws.{first-asks, then_asks, clear_asks, cleared_chain, settled}
use Rattle.gathering.proofs.settle.Goals as goal

pub spread-end-requires : goal.spread-end-requires
spread-end-requires c =
    let both = first-asks c.args.sizes c.args.state.now c.args.d c.args.treelings c.requires.chain c.requires.by_index c.begin-start.result c.begin-start.ensures in
    record { chain = both.0; link_value = both.1.0; spent_bound = both.1.1.0; by_index = both.1.1.1 }

pub spread-requires : goal.spread-requires
spread-requires c =
    let both = then_asks c.args.sizes c.args.state.now c.args.d c.args.treelings c.requires.chain c.requires.by_index c.begin-start.result c.begin-start.ensures
    c.spread-end.result c.spread-end.ensures in
    record { chain = both.0; link_value = both.1.0; spent_bound = both.1.1.0; by_index = both.1.1.1 }

pub clear_above-requires : goal.clear_above-requires
clear_above-requires c =
    clear_asks c.args.sizes c.args.state.now c.args.d c.args.treelings c.requires.chain c.requires.by_index c.begin-start.result c.begin-start.ensures
    c.spread-end.result c.spread-end.ensures c.spread.ensures

pub head_of-head-requires : goal.head_of-head-requires
head_of-head-requires c =
    let v =
    cleared_chain c.args.sizes c.args.state.now c.args.d c.args.treelings c.requires.chain c.requires.by_index c.begin-start.result c.begin-start.ensures
    c.spread-end.result c.spread-end.ensures c.spread.ensures c.clear_above.ensures in
    record { laid = v.laid; d_lt_domains = (v.domain_below, c.requires.treelings_nonzero.0, le_trans v.most v.laid.sizes.max_treelings) }

pub set_head-requires : goal.set_head-requires
set_head-requires c =
    let v =
    cleared_chain c.args.sizes c.args.state.now c.args.d c.args.treelings c.requires.chain c.requires.by_index c.begin-start.result c.begin-start.ensures
    c.spread-end.result c.spread-end.ensures c.spread.ensures c.clear_above.ensures in
    record { laid = v.laid; d_lt_domains = v.domain_below }

pub returns : goal.returns
returns c =
    settled c.args.sizes c.args.state.now c.args.d c.args.treelings c.requires.chain c.requires.by_index c.begin-start.result c.begin-start.ensures
    c.spread-end.result c.spread-end.ensures c.spread.ensures c.clear_above.ensures
    c.requires.treelings_nonzero.0 c.requires.treelings_nonzero.1 c.head_of-head.result c.head_of-head.ensures c.set_head.new.state c.set_head.ensures
