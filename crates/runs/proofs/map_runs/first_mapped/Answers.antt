-- `runs::map_runs::first_mapped` meets its contract.
-- Assumes nothing.
use Rattle.std.proofs.Common.{rules}
use native.Mathlib.Omega.{arith}
use borrow.Author.Tests.{tests}
use Rattle.world.proofs.FindLaws.{find_of_range}
use Rattle.runs.proofs.RunCodeLaws.{is_mapped, some_leaf}
use Rattle.runs.proofs.map_runs.first_mapped.Goals as goal

pub returns : goal.returns
returns c =
    let a = c.args in
    find_of_range (is_mapped a.sizes a.state.now a.frame.0) 0 a.count _ (omega arith) _ c.find.ensures.ran (λ x b q k. search (rules, tests, some_leaf))
