-- `taking::first_held` meets its contract.
use Rattle.std.proofs.Common.{rules}
use native.Mathlib.Omega.{arith}
use borrow.Author.Tests.{tests}
use Rattle.taking.specs.Taking.{was_held}
use Rattle.world.proofs.FindLaws.{find_of_range}
use Rattle.taking.proofs.first_held.Goals as goal

pub returns : goal.returns
returns c =
    let a = c.args in
    find_of_range (was_held a.sizes a.state.now a.d) a.from _ _ (omega arith) _ c.find.ensures.ran (λ x b q k. search (rules, tests))
