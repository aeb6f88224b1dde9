-- `slots::marks::treeling_full` meets its contract: what is wanted of the marks goes by the owner.
use Prim.Native.Nat.{ℕ, ◌+◌, ◌-◌, ◌*◌}
use mathlib.Core.Path.{◌≡◌, sym, ap, ◌∙◌}
use mathlib.Core.Bool.{Bool, cond}
use native.Mathlib.Omega.{arith}
use lib.Dec.{eqb}
use lib.ListN.{get_or, take, drop}
use Rattle.std.proofs.Common.{rules}
use borrow.Author.Tests.{tests, le-ltb, lt-ltb}
use Rattle.layout.specs.Bounded.{all}
use Rattle.layout.specs.Places.{get, owner}
use Rattle.sound.specs.Sentences.{is_owned}
use Rattle.layout.proofs.FoldLaws.{all_of_fold, list_all-part}
use Rattle.slots.proofs.marks.treeling_full.Goals as goal
use Rattle.slots.proofs.marks.treeling_full.Goals.{then-owned, else-owned}

pub returns : goal.returns
returns c =
    let a = c.args in
    let word : get_or a.state.now c.treeling.result 0 ≡ get a.sizes a.state.now (owner a.t) = ap (λ (k : ℕ). get_or a.state.now k 0) c.treeling.ensures in
    let wanted : c.if-owned.want ≡ cond (is_owned a.sizes a.state.now a.t) 255 0 =
    elim c.if-owned.branch [
      | then-owned w ↦ w.want-is ∙ ap {B = ℕ} (λ (b : Bool). cond b 255 0) (sym (lt-ltb 0 _ (omega (arith, w.if-owned.true))))
      | else-owned w ↦ w.want-is ∙ ap {B = ℕ} (λ (b : Bool). cond b 255 0) (sym (le-ltb 0 _ (omega (arith, w.if-owned.false))))
    ]
    in
    let long : 512 * a.t + 512 - 512 * a.t ≡ 512 = omega arith in
    all_of_fold (λ m. eqb m c.if-owned.want) (take 512 (drop (512 * a.t) a.marks.now))
    (c.iter.ensures.rest ∙ ap (λ (k : ℕ). take k (drop (512 * a.t) a.marks.now)) long)
    c.fold.ensures.ran (λ b x r q k. search (rules, tests))
    ∙ list_all-part (λ m. eqb m c.if-owned.want) a.marks.now (512 * a.t) 512 (omega arith)
    ∙ ap (λ (v : ℕ). all 512 (λ k. eqb (get_or a.marks.now (512 * a.t + k) 0) v)) wanted
