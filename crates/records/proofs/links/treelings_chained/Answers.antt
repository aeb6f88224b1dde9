-- `records::links::treelings_chained` meets its contract.
use Rattle.std.proofs.Common.{rules}
use borrow.Author.Tests.{tests}
use Rattle.sound.specs.CodeChained.{treeling_chained}
use Rattle.layout.proofs.RangeLaws.{all_of_range}
use Rattle.records.proofs.links.treelings_chained.Goals as goal

pub returns : goal.returns
returns c =
    all_of_range c.args.sizes.treelings (treeling_chained c.args.sizes c.args.state.now) c.all.ensures.ran (λ x b q k. search (rules, tests))
