-- `audit::passes::bodies_pass` meets its contract: a sound state passes each test in turn, and where all but the last pass the pages decide.
-- Assumes nothing.
use mathlib.Core.Path.{◌≡◌, sym, subst, ◌∙◌}
use mathlib.Core.Bool.{true, false≢true}
use mathlib.Core.List.{List}
use Prim.Native.Nat.{ℕ, ◌*◌}
use Rattle.layout.specs.Bounded.{all}
use Rattle.sound.specs.Sentences.{leaf_in_range, holes_unmapped}
use Rattle.slots.specs.CodeMarks.{Counted, Marks, treeling_entries}
use Rattle.sound.proofs.HoleZeroLaws.{hole_test}
use Rattle.slots.proofs.MarkLaws.{is_full, marks_once, once_marks}
use Rattle.audit.proofs.PassLaws.{is_true, refused, pages_decide}
use Rattle.audit.proofs.passes.bodies_pass.Goals as goal
use Rattle.audit.proofs.passes.bodies_pass.Goals.{then-entries_counted, else-entries_counted, then-leaves_marked, else-leaves_marked, then-marks_full, else-marks_full}

pub returns-then-holes_unmapped : goal.returns-then-holes_unmapped
returns-then-holes_unmapped c =
    let z = c.args.sizes in
    let s = c.args.state.now in
    let holes : (c.if-leaves_marked.value ≡ true) × (holes_unmapped z s ≡ true) =
    elim c.if-marks_full.branch [
      | then-marks_full w ↦ (w.if-marks_full.true, sym w.holes_unmapped.ensures ∙ sym w.value-is ∙ c.if-holes_unmapped.true)
      | else-marks_full w ↦ absurd (false≢true (sym w.if-marks_full.false ∙ sym w.value-is ∙ c.if-holes_unmapped.true))
    ]
    in
    let full : (c.if-entries_counted.value ≡ true) × (all z.treelings (λ t. all 512 (is_full z s c.if-entries_counted.marks t)) ≡ true) =
    elim c.if-leaves_marked.branch [
      | then-leaves_marked w ↦ (w.if-leaves_marked.true, sym w.marks_full.ensures ∙ sym w.value-is ∙ holes.0)
      | else-leaves_marked w ↦ absurd (false≢true (sym w.if-leaves_marked.false ∙ sym w.value-is ∙ holes.0))
    ]
    in
    let counted : (all z.treelings (treeling_entries z s) ≡ true) × Counted z s z.treelings c.entries_counted.new.pages × (all z.frames (leaf_in_range z s) ≡ true) × Marks z s (512 * z.treelings) z.frames c.if-entries_counted.marks =
    elim c.if-entries_counted.branch [
      | then-entries_counted w ↦
          let entries = c.entries_counted.ensures.state_value w.if-entries_counted.true in
          let leaves = w.leaves_marked.ensures.state_value (sym w.value-is ∙ full.0) in
          (entries.0, entries.2, leaves.0, subst (λ (m : List ℕ). Marks z s (512 * z.treelings) z.frames m) (sym w.marks-is) leaves.1)
      | else-entries_counted w ↦ absurd (false≢true (sym w.if-entries_counted.false ∙ sym w.value-is ∙ full.0))
    ]
    in
    pages_decide z s c.requires.laid_out c.requires.records counted.0 counted.2
    (marks_once z s _ counted.3 c.requires.records full.1)
    holes.1 _ counted.1 c.pages_true.result c.pages_true.ensures

pub returns-else-holes_unmapped : goal.returns-else-holes_unmapped
returns-else-holes_unmapped c =
    let z = c.args.sizes in
    let s = c.args.state.now in
    c.if-holes_unmapped.false
    ∙ refused z s c.if-marks_full.value c.requires.laid_out
    (λ snd.
    let entries = c.entries_counted.ensures.state_value (is_true _ (λ e. c.entries_counted.ensures.fact e snd)) in
    let leaves : (c.if-entries_counted.value ≡ true) × Marks z s (512 * z.treelings) z.frames c.if-entries_counted.marks =
    elim c.if-entries_counted.branch [
      | then-entries_counted w ↦
          let passed = is_true _ (λ e. w.leaves_marked.ensures.fact e snd) in
          (w.value-is ∙ passed, subst (λ (m : List ℕ). Marks z s (512 * z.treelings) z.frames m) (sym w.marks-is) (w.leaves_marked.ensures.state_value passed).1)
      | else-entries_counted w ↦ absurd (c.entries_counted.ensures.fact w.if-entries_counted.false snd)
    ]
    in
    let full : c.if-leaves_marked.value ≡ true =
    elim c.if-leaves_marked.branch [
      | then-leaves_marked w ↦ w.value-is ∙ w.marks_full.ensures ∙ once_marks z s _ leaves.1 snd
      | else-leaves_marked w ↦ absurd (false≢true (sym w.if-leaves_marked.false ∙ leaves.0))
    ]
    in
    elim c.if-marks_full.branch [
      | then-marks_full w ↦ w.value-is ∙ w.holes_unmapped.ensures ∙ hole_test z s snd.hole_zero
      | else-marks_full w ↦ absurd (false≢true (sym w.if-marks_full.false ∙ full))
    ])
    c.if-holes_unmapped.false
