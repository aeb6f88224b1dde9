-- `releasing::release::taker` meets its contract.
use Rattle.std.proofs.Common.{rules}
use borrow.Author.Tests.{tests}
use Rattle.releasing.proofs.ReleaseCodeLaws.{found_or}
use Rattle.releasing.proofs.release.taker.Goals as goal

pub returns : goal.returns
returns c = found_or c.first_tagged.result c.or_else.result _ _ c.first_tagged.ensures (λ e. search (rules, tests)) (λ k e. search (rules, tests))
