-- `returning::trim::clear_full` meets its contract.
use borrow.Author.Rules.{rules}
use Rattle.clearing.specs.CodeKept.{full_in}
use Rattle.clearing.proofs.ClearCodeLaws.{cleared_by}
use Rattle.returning.proofs.trim.clear_full.Goals as goal

pub returns : goal.returns
returns c =
    cleared_by (full_in c.args.sizes c.args.state.now c.args.d c.args.sums.now) c.clear_treelings.ensures (λ q b l given. search rules)
