-- `records::ranges::treelings_in_range` meets its contract.
use Rattle.std.proofs.Common.{rules}
use borrow.Author.Tests.{tests}
use Rattle.sound.specs.Sentences.{treeling_in_range}
use Rattle.layout.proofs.RangeLaws.{all_of_range}
use Rattle.records.proofs.ranges.treelings_in_range.Goals as goal

pub returns : goal.returns
returns c =
    all_of_range c.args.sizes.treelings (treeling_in_range c.args.sizes c.args.state.now) c.all.ensures.ran (λ x b q k. search (rules, tests))
