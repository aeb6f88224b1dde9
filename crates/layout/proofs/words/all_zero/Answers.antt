-- `layout::words::all_zero` meets its contract.
-- Assumes nothing.
use mathlib.Core.Path.{◌≡◌, ap, ◌∙◌}
use lib.Dec.{eqb}
use lib.ListN.{take, drop}
use Prim.Native.Nat.{ℕ, ◌+◌, ◌-◌}
use native.Mathlib.Omega.{arith}
use Rattle.std.proofs.Common.{rules}
use borrow.Author.Tests.{tests}
use Rattle.layout.proofs.FoldLaws.{all_of_fold, list_all-part}
use Rattle.layout.proofs.words.all_zero.Goals as goal

pub returns : goal.returns
returns c =
    let a = c.args in
    let long : a.at + a.n - a.at ≡ a.n = omega arith in
    all_of_fold (λ w. eqb w 0) (take a.n (drop a.at a.state.now))
    (c.iter.ensures.rest ∙ ap (λ (k : ℕ). take k (drop a.at a.state.now)) long)
    c.fold.ensures.ran (λ b x r q k. search (rules, tests))
    ∙ list_all-part (λ w. eqb w 0) a.state.now a.at a.n c.requires
