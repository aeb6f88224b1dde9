-- `releasing::release::first_spent` meets its contract.
use Rattle.std.proofs.Common.{rules}
use borrow.Author.Tests.{tests}
use lib.Dec.{eqb}
use Rattle.geometry.specs.Entries.{availability_of}
use Rattle.world.proofs.FindLaws.{position_of_words}
use Rattle.releasing.proofs.release.first_spent.Goals as goal

pub returns : goal.returns
returns c =
    position_of_words (λ w. eqb (availability_of w) 0) c.args.words 8 (search rules) c.iter.ensures.rest c.position.ensures.ran (λ x b q k. search (rules, tests))
