-- `placing::place::first_free` meets its contract.
use Rattle.std.proofs.Common.{rules}
use borrow.Author.Tests.{tests}
use lib.Dec.{ltb}
use Rattle.geometry.specs.Entries.{availability_of}
use Rattle.world.proofs.FindLaws.{position_of_words}
use Rattle.placing.proofs.place.first_free.Goals as goal

pub returns : goal.returns
returns c =
    position_of_words (λ w. ltb 0 (availability_of w)) c.args.words 8 (search rules) c.iter.ensures.rest c.position.ensures.ran (λ x b q k. search (rules, tests))
