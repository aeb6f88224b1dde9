-- `audit::holes::holes_unmapped` meets its contract.
use Prim.Native.Nat.{ℕ}
use mathlib.Core.Path.{ap, ◌∙◌}
use Rattle.std.proofs.Common.{rules}
use borrow.Author.Tests.{tests}
use Rattle.layout.specs.Bounded.{all}
use Rattle.sound.specs.Sentences.{hole_is_unmapped, holes_unmapped}
use Rattle.layout.proofs.RangeLaws.{all_of_range}
use Rattle.audit.proofs.holes.holes_unmapped.Goals as goal

pub returns : goal.returns
unfolding holes_unmapped
returns c =
    let test = hole_is_unmapped c.args.sizes c.args.state.now in
    all_of_range c.hole_count-n.result test c.all.ensures.ran (λ x b q k. search (rules, tests))
    ∙ ap (λ (n : ℕ). all n test) c.hole_count-n.ensures
