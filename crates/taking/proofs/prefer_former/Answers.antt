-- `taking::prefer_former` meets its contract.
use mathlib.Core.Path.{◌∙◌}
use Rattle.std.proofs.Common.{rules}
use borrow.Author.Tests.{tests}
use Rattle.taking.proofs.FormerCodeLaws.{told_below, told_around}
use Rattle.taking.proofs.prefer_former.Goals as goal

pub returns-then-unowned-hand : goal.returns-then-unowned-hand
returns-then-unowned-hand c =
    let a = c.args in
    c.unwrap_or.ensures
    ∙ told_below a.sizes a.state.now c.requires.sound a.d a.unowned c.requires.state_value c.if-unowned-hand.true c.first_held.result c.first_held.ensures

pub returns : goal.returns
returns c =
    let a = c.args in
    c.unwrap_or-2.ensures
    ∙ told_around a.sizes a.state.now c.requires.sound a.d a.unowned c.requires.state_value c.if-unowned-hand.false c.first_held-2.result c.or_else.result c.first_held-2.ensures (λ e. search (rules, tests)) (λ t e. search (rules, tests))
