-- `placing::place::decide` meets its contract.
use mathlib.Core.Path.{sym, ◌∙◌}
use Rattle.placing.proofs.PlaceCodeLaws.{own_decided, pool_decided}
use Rattle.placing.proofs.place.decide.Goals as goal

pub returns-in-Some : goal.returns-in-Some
returns-in-Some c = own_decided c.args.sizes c.args.state.now c.args.d c.in-Some.spot (sym c.own_spot.ensures ∙ c.in-Some.is)

pub returns-in-None : goal.returns-in-None
returns-in-None c =
    pool_decided c.args.sizes c.args.state.now c.args.d (sym c.own_spot.ensures ∙ c.in-None.is) c.from_pool.result c.from_pool.ensures
