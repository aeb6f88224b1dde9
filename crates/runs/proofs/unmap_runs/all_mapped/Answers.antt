-- `runs::unmap_runs::all_mapped` meets its contract.
-- Assumes nothing.
use Rattle.std.proofs.Common.{rules}
use borrow.Author.Tests.{tests}
use Rattle.layout.proofs.RangeLaws.{all_of_range}
use Rattle.runs.proofs.RunCodeLaws.{mine}
use Rattle.runs.proofs.unmap_runs.all_mapped.Goals as goal

pub returns : goal.returns
returns c =
    let a = c.args in
    all_of_range a.count (mine a.sizes a.state.now a.d a.frame.0) c.all.ensures.ran (λ x b q k. search (rules, tests))
