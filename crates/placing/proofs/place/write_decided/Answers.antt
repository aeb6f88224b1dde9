-- `placing::place::write_decided` meets its contract.
-- Assumes nothing.
use mathlib.Core.Path.{sym, ◌∙◌}
use Rattle.placing.proofs.PlacingLaws.{own_ready, sought_below, taken_ready, own_written, taken_written, nowhere_written}
use Rattle.placing.proofs.place.write_decided.Goals as goal

pub place_at-requires : goal.place_at-requires
place_at-requires c =
    let within = c.requires.d_lt_domains in
    let asked = c.requires.ordinary in
    let r = own_ready c.args.sizes c.args.state.now c.args.d c.requires.sound within.0 asked.0 c.in-Own.spot (sym asked.1 ∙ c.in-Own.is) in
    record { laid = r.laid; d_lt_domains = (within.0, within.1, r.below, r.small); nonzero = (r.free, r.tag_small, r.pages_most) }

pub take-requires : goal.take-requires
take-requires c =
    let within = c.requires.d_lt_domains in
    let asked = c.requires.ordinary in
    record { sound = c.requires.sound; d_lt_domains = (within.0, sought_below c.args.sizes c.args.state.now c.args.d c.requires.sound within.0 c.in-Take.t (sym asked.1 ∙ c.in-Take.is)) }

pub place_at-requires-in-Take : goal.place_at-requires-in-Take
place_at-requires-in-Take c =
    let took = c.take in
    let within = c.requires.d_lt_domains in
    let asked = c.requires.ordinary in
    let r = taken_ready c.args.sizes c.args.state.now c.args.d c.requires.sound within.0 c.in-Take.t (sym asked.1 ∙ c.in-Take.is) took.new.state took.ensures c.at.result c.at.ensures in
    record { laid = r.laid; d_lt_domains = (within.0, within.1, r.below, r.small); nonzero = (r.free, r.tag_small, r.pages_most) }

pub returns-in-Own : goal.returns-in-Own
returns-in-Own c =
    let g = c.place_at in
    own_written c.args.sizes c.args.state.now c.args.d c.args.frame.0 c.args.to c.in-Own.spot c.in-Own.is g.result g.new.state g.ensures.0 g.ensures.1

pub returns-in-Take : goal.returns-in-Take
returns-in-Take c =
    let g = c.place_at-in-Take in
    let took = c.take in
    taken_written c.args.sizes c.args.state.now c.args.d c.args.frame.0 c.args.to c.in-Take.t c.in-Take.is took.new.state took.ensures c.at.result c.at.ensures g.result g.new.state g.ensures.0 g.ensures.1

pub returns-in-Nowhere : goal.returns-in-Nowhere
returns-in-Nowhere c = nowhere_written c.args.sizes c.args.state.now c.args.d c.args.frame.0 c.args.to c.in-Nowhere.is
