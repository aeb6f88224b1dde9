-- `placing::place::from_pool` meets its contract.
-- Assumes nothing.
use mathlib.Core.Path.{sym, ◌∙◌}
use Rattle.placing.proofs.PlacingLaws.{pool_takes, pool_none}
use Rattle.placing.proofs.place.from_pool.Goals as goal

pub returns-in_default : goal.returns-in_default
returns-in_default c =
    pool_none c.args.sizes c.args.state.now c.args.d c.requires.sound c.requires.d_lt_domains (sym c.find_unowned.ensures ∙ c.in_default.is)

pub returns : goal.returns
returns c =
    pool_takes c.args.sizes c.args.state.now c.args.d c.requires.sound c.requires.d_lt_domains c.in-Some.unowned c.prefer_former.result (sym c.find_unowned.ensures ∙ c.in-Some.is) c.prefer_former.ensures
