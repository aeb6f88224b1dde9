-- `slots::leaves::pages_true` meets its contract.
use Rattle.std.proofs.Common.{rules}
use borrow.Author.Tests.{tests}
use lib.Dec.{eqb}
use lib.ListN.{get_or}
use Rattle.layout.specs.Places.{get, pages_mapped}
use Rattle.layout.proofs.RangeLaws.{all_of_range}
use Rattle.slots.proofs.leaves.pages_true.Goals as goal

pub returns : goal.returns
returns c =
    all_of_range c.args.sizes.domains (λ d. eqb (get c.args.sizes c.args.state.now (pages_mapped d)) (get_or c.args.pages.now d 0)) c.all.ensures.ran
    (λ x b q k. search (rules, tests))
