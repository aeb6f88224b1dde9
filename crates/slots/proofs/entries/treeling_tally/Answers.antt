-- `slots::entries::treeling_tally` meets its contract.
use Prim.Native.Nat.{ℕ, ◌+◌, ◌*◌}
use mathlib.Core.Path.{◌≡◌, sym, ap, subst, ◌∙◌}
use mathlib.Core.Bool.{true}
use mathlib.Core.List.{List}
use native.Mathlib.Omega.{arith}
use lib.ListN.{get_or}
use Rattle.layout.specs.Places.{get, entry}
use Rattle.layout.specs.Bounded.{all}
use Rattle.slots.specs.CodeMarks.{Marks, TallyIs, entry_fits}
use Rattle.sound.specs.CodeCounting.{free_in}
use Rattle.layout.proofs.BoundedLaws.{all_none, all-next}
use Rattle.slots.proofs.EntryLaws.{not_fitting, free_none, free_next, free_next_most, free_skip, tally_next, tally_skip, tally_clash}
use Rattle.slots.proofs.entries.treeling_tally.Goals as goal
use Rattle.slots.proofs.entries.treeling_tally.Goals.{then-w-ne0+else-not-add_mark, else-w-ne0}

pub loop-k-init : goal.loop-k-init
loop-k-init c =
    let a = c.args in
    let n : 512 * a.t ≡ 512 * a.t + 0 = omega arith in
    (all_none _, subst (λ (i : ℕ). Marks a.sizes a.state.now i 0 a.marks.now) n c.requires.marks, sym (free_none a.sizes a.state.now a.t))

pub returns-then-not-entry_fits : goal.returns-then-not-entry_fits
unfolding TallyIs
returns-then-not-entry_fits c =
    let a = c.args in
    not_fitting a.sizes a.state.now a.t c.loop-k.k c.entry_fits.result c.entry_fits.ensures c.requires.t_lt_treelings.0 (omega arith) c.if-not-entry_fits.true

pub returns-then-not-add_mark : goal.returns-then-not-add_mark
unfolding TallyIs
returns-then-not-add_mark c =
    let a = c.args in
    let word : get_or a.state.now (c.entry-at.result + c.loop-k.k) 0 ≡ get a.sizes a.state.now (entry a.t c.loop-k.k) = ap (λ (i : ℕ). get_or a.state.now i 0) (omega arith) in
    let fits : entry_fits a.sizes a.state.now a.t c.loop-k.k ≡ true = sym c.entry_fits.ensures ∙ c.if-not-entry_fits.false in
    tally_clash a.sizes a.state.now a.t c.loop-k.k c.loop-k.marks _ word c.loop-k.invariant.1 (omega arith) c.requires.t_lt_treelings.1 fits c.add_mark.result c.add_mark.ensures.value c.requires.t_lt_treelings.0 c.if-not-add_mark.true

pub overflow_add-free : goal.overflow_add-free
overflow_add-free c =
    let a = c.args in
    omega (arith, free_next_most a.sizes a.state.now a.t c.loop-k.k _ _ _ c.loop-k.invariant.2 c.number-free.ensures)

pub loop-k-preserved : goal.loop-k-preserved
loop-k-preserved c =
    let a = c.args in
    let word : get_or a.state.now (c.entry-at.result + c.loop-k.k) 0 ≡ get a.sizes a.state.now (entry a.t c.loop-k.k) = ap (λ (i : ℕ). get_or a.state.now i 0) (omega arith) in
    let fits : entry_fits a.sizes a.state.now a.t c.loop-k.k ≡ true = sym c.entry_fits.ensures ∙ c.if-not-entry_fits.false in
    -- What the entry leaves: marked and counted, or passed over.
    let left : Marks a.sizes a.state.now (512 * a.t + (c.loop-k.k + 1)) 0 c.if-w-ne0.marks × (c.if-w-ne0.free ≡ free_in a.sizes a.state.now a.t (c.loop-k.k + 1)) =
    elim c.if-w-ne0.branch [
      | then-w-ne0+else-not-add_mark w ↦ (
        tally_next a.sizes a.state.now a.t c.loop-k.k c.loop-k.marks _ word c.loop-k.invariant.1 (omega arith) c.requires.t_lt_treelings.1 fits w.add_mark.result w.add_mark.ensures.value c.if-w-ne0.marks (w.marks-is ∙ w.add_mark.ensures.marks_after) w.if-not-add_mark.false,
        w.free-is ∙ free_next a.sizes a.state.now a.t c.loop-k.k _ _ _ word c.loop-k.invariant.2 w.number-free.ensures,
      )
      | else-w-ne0 w ↦ (
        subst (λ (m : List ℕ). Marks a.sizes a.state.now (512 * a.t + (c.loop-k.k + 1)) 0 m) (sym w.marks-is) (tally_skip a.sizes a.state.now a.t c.loop-k.k c.loop-k.marks _ word c.loop-k.invariant.1 w.if-w-ne0.false),
        w.free-is ∙ free_skip a.sizes a.state.now a.t c.loop-k.k _ _ word w.if-w-ne0.false c.loop-k.invariant.2,
      )
    ]
    in
    (all-next c.loop-k.k (entry_fits a.sizes a.state.now a.t) c.loop-k.invariant.0 fits, left.0, left.1)

pub returns : goal.returns
unfolding TallyIs
returns c =
    let a = c.args in
    let end : c.loop-k.k ≡ 512 = omega arith in
    let n : 512 * a.t + c.loop-k.k ≡ 512 * (a.t + 1) = omega arith in (
      ap (λ (i : ℕ). all i (entry_fits a.sizes a.state.now a.t)) (sym end) ∙ c.loop-k.invariant.0,
      subst (λ (i : ℕ). Marks a.sizes a.state.now i 0 c.loop-k.marks) n c.loop-k.invariant.1,
      c.loop-k.invariant.2 ∙ ap (λ (i : ℕ). free_in a.sizes a.state.now a.t i) end,
    )
