-- `slots::marks::marks_full` meets its contract.
use Prim.Native.Nat.{◌+◌, ◌*◌}
use mathlib.Core.Bool.{cond}
use Rattle.std.proofs.Common.{rules}
use borrow.Author.Tests.{tests}
use lib.Dec.{eqb}
use lib.ListN.{get_or}
use Rattle.layout.specs.Bounded.{all}
use Rattle.sound.specs.Sentences.{is_owned}
use Rattle.layout.proofs.RangeLaws.{all_of_range}
use Rattle.slots.proofs.marks.marks_full.Goals as goal

pub returns : goal.returns
returns c =
    all_of_range c.args.sizes.treelings (λ t. all 512 (λ k. eqb (get_or c.args.marks.now (512 * t + k) 0) (cond (is_owned c.args.sizes c.args.state.now t) 255 0))) c.all.ensures.ran
    (λ x b q k. search (rules, tests))
