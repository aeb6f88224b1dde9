-- `taking::find_unowned` meets its contract.
use Rattle.std.proofs.Common.{rules}
use borrow.Author.Tests.{tests}
use Rattle.taking.proofs.TakeCodeLaws.{pool_searched}
use Rattle.taking.proofs.find_unowned.Goals as goal

pub returns : goal.returns
returns c =
    let a = c.args in
    pool_searched a.sizes a.state.now c.requires c.first_unowned.result c.or_else.result c.first_unowned.ensures (λ e. search (rules, tests)) (λ t e. search (rules, tests))
