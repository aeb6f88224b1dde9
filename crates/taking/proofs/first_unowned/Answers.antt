-- `taking::first_unowned` meets its contract.
use Rattle.std.proofs.Common.{rules}
use native.Mathlib.Omega.{arith}
use borrow.Author.Tests.{tests}
use Rattle.taking.specs.CodePool.{is_unowned}
use Rattle.world.proofs.FindLaws.{find_of_range}
use Rattle.taking.proofs.first_unowned.Goals as goal

pub returns : goal.returns
returns c =
    let a = c.args in
    find_of_range (is_unowned a.sizes a.state.now) a.from a.end _ (omega arith) _ c.find.ensures.ran (λ x b q k. search (rules, tests))
