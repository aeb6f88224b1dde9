-- `runs::map_runs::has_places` meets its contract.
-- Assumes nothing.
use mathlib.Core.Path.{◌∙◌}
use native.Mathlib.Omega.{arith}
use borrow.Author.Tests.{le-leb}
use Rattle.pages.proofs.SlotsInUse.{pages_read}
use Rattle.runs.proofs.RunCodeLaws.{own_enough, pool_tells}
use Rattle.runs.proofs.map_runs.has_places.Goals as goal

pub overflow_mul-own : goal.overflow_mul-own
overflow_mul-own c =
    let a = c.args in
    let at = c.domain in
    omega (arith, (pages_read a.sizes a.state.now c.requires.sound a.d c.requires.d_lt_domains.0 at.result c.number_owned.result at.ensures c.number_owned.ensures).1)

pub overflow_sub-own : goal.overflow_sub-own
overflow_sub-own c =
    let a = c.args in
    let at = c.domain in
    omega (arith, (pages_read a.sizes a.state.now c.requires.sound a.d c.requires.d_lt_domains.0 at.result c.number_owned.result at.ensures c.number_owned.ensures).0)

pub returns-then-n-own : goal.returns-then-n-own
returns-then-n-own c =
    let a = c.args in
    let at = c.domain in
    le-leb a.n _ c.if-n-own.true
    ∙ own_enough a.sizes a.state.now c.requires.sound a.d c.requires.d_lt_domains.0 at.result c.number_owned.result at.ensures c.number_owned.ensures a.n c.if-n-own.true

pub returns-else-n-own : goal.returns-else-n-own
returns-else-n-own c =
    let a = c.args in
    let at = c.domain in
    c.is_some.ensures
    ∙ pool_tells a.sizes a.state.now c.requires.sound a.d c.requires.d_lt_domains.0 at.result c.number_owned.result at.ensures c.number_owned.ensures
    a.n c.requires.d_lt_domains.1 c.if-n-own.false c.find_unowned.result c.find_unowned.ensures
