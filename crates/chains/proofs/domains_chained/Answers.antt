-- `chains::domains_chained` meets its contract.
use Rattle.std.proofs.Common.{rules}
use borrow.Author.Tests.{tests}
use Rattle.sound.specs.CodeChained.{domain_chained}
use Rattle.layout.proofs.RangeLaws.{all_of_range}
use Rattle.chains.proofs.domains_chained.Goals as goal

pub returns : goal.returns
returns c =
    all_of_range c.args.sizes.domains (domain_chained c.args.sizes c.args.state.now) c.all.ensures.ran (λ x b q k. search (rules, tests))
