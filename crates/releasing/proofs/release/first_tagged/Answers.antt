-- `releasing::release::first_tagged` meets its contract.
use Rattle.std.proofs.Common.{rules}
use borrow.Author.Tests.{tests}
use lib.Dec.{eqb}
use Rattle.geometry.specs.Entries.{tag_of}
use Rattle.world.proofs.FindLaws.{position_of_words}
use Rattle.releasing.proofs.release.first_tagged.Goals as goal

pub returns : goal.returns
returns c =
    position_of_words (λ w. eqb (tag_of w) c.args.node) c.args.words 8 (search rules) c.iter.ensures.rest c.position.ensures.ran (λ x b q k. search (rules, tests))
