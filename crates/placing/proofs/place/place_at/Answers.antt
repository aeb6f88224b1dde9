-- `placing::place::place_at` meets its contract.
-- Assumes nothing.
use native.Mathlib.Omega.{arith}
use lib.ListN.{get_or}
use Rattle.placing.proofs.PlaceCodeLaws.{Given, given, Written, written}
use Rattle.placing.proofs.place.place_at.Goals as goal

-- g: the entry's word and the position that it gives. w: once the entry, the head and the leaf ID are written, the pages are left to write.
pub overflow_shl-i : goal.overflow_shl-i
overflow_shl-i c =
    let g : Given c.args.sizes c.args.state.now c.args.spot.treeling c.args.spot.entry (get_or c.args.state.now c.entry.result 0) c.lowest-i.result =
    given c.args.sizes c.args.state.now c.args.spot.treeling c.args.spot.entry c.entry.result c.lowest-i.result c.entry.ensures c.lowest-i.ensures c.requires.nonzero.0 in
    omega arith

pub overflow_sub-w : goal.overflow_sub-w
overflow_sub-w c =
    let g : Given c.args.sizes c.args.state.now c.args.spot.treeling c.args.spot.entry (get_or c.args.state.now c.entry.result 0) c.lowest-i.result =
    given c.args.sizes c.args.state.now c.args.spot.treeling c.args.spot.entry c.entry.result c.lowest-i.result c.entry.ensures c.lowest-i.ensures c.requires.nonzero.0 in
    omega arith

pub at-id-requires : goal.at-id-requires
at-id-requires c =
    let g : Given c.args.sizes c.args.state.now c.args.spot.treeling c.args.spot.entry (get_or c.args.state.now c.entry.result 0) c.lowest-i.result =
    given c.args.sizes c.args.state.now c.args.spot.treeling c.args.spot.entry c.entry.result c.lowest-i.result c.entry.ensures c.lowest-i.ensures c.requires.nonzero.0 in
    (omega arith, g.position_below)

pub returns : goal.returns
returns c =
    let g : Given c.args.sizes c.args.state.now c.args.spot.treeling c.args.spot.entry (get_or c.args.state.now c.entry.result 0) c.lowest-i.result =
    given c.args.sizes c.args.state.now c.args.spot.treeling c.args.spot.entry c.entry.result c.lowest-i.result c.entry.ensures c.lowest-i.ensures c.requires.nonzero.0 in
    let w : Written c.args.sizes c.args.state.now c.args.d c.args.frame.0 c.args.spot.treeling c.args.spot.entry c.at-id.result.0 c.domain-pages.result c.write_leaf.new.state =
    written c.args.sizes c.args.state.now c.args.d c.args.frame.0 c.args.spot.treeling c.args.spot.entry (get_or c.args.state.now c.entry.result 0) c.lowest-i.result g c.at-id.result.0 c.domain-pages.result c.at-id.ensures c.domain-pages.ensures
    c.mark.new.state c.write_leaf.new.state c.mark.ensures c.write_leaf.ensures c.requires.d_lt_domains.0 c.requires.d_lt_domains.2 in
    (w.leaf_is, w.placed_is)
