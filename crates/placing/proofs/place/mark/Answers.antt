-- `placing::place::mark` meets its contract.
-- Assumes nothing.
use Rattle.world.proofs.BlockCodeLaws.{marked}
use Rattle.placing.proofs.place.mark.Goals as goal

pub returns : goal.returns
returns c =
    marked c.args.sizes c.args.state.now c.change_block.new.s c.args.d c.args.spot.treeling c.args.spot.entry c.args.word c.domain-head.result
    c.requires.laid c.requires.d_lt_domains.1 c.requires.d_lt_domains.2 c.change_block.ensures c.domain-head.ensures
