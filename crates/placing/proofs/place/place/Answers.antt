-- `placing::place::place` meets its contract.
-- Assumes nothing.
use Rattle.placing.proofs.PlacingLaws.{placed_right}
use Rattle.placing.proofs.place.place.Goals as goal

pub returns : goal.returns
returns c =
    let in_range_lem = c.requires.d_lt_domains in
    let asked = c.requires.ordinary in
    let both = placed_right c.args.sizes c.args.state.now c.args.d c.args.frame.0 c.requires.sound in_range_lem.0 in_range_lem.1 in_range_lem.2 asked.0 asked.1
    c.decide-to.result c.decide-to.ensures c.write_decided.result c.write_decided.new.state c.write_decided.ensures in
    record { state_after = both.0; sound_2 = both.1 }
