-- `pages::mapping::map_page` meets its contract.
use mathlib.Core.Path.{◌≡◌, sym, ◌∙◌}
use mathlib.Core.Bool.{true}
use borrow.Author.Tests.{eqb-true}
use lib.Dec.{eqb}
use Rattle.layout.specs.Places.{get, leaf}
use Rattle.pages.proofs.CallCodeLaws.{map_none}
use Rattle.pages.proofs.mapping.map_page.Goals as goal

pub returns-in_default-clause-state_after : goal.returns-in_default-clause-state_after
returns-in_default-clause-state_after c =
    let a = c.args in
    let none : eqb c.read_leaf-id.result.0 0 ≡ true = cc in
    let unmapped : get a.sizes a.state.now (leaf a.frame.0) ≡ 0 = sym c.read_leaf-id.ensures ∙ eqb-true c.read_leaf-id.result.0 0 none in
    map_none a.sizes a.state.now a.d a.frame.0 unmapped c.place.result c.place.new.state c.place.ensures.state_after c.in_default.is
