-- `making::make` meets its contract.
-- Assumes nothing.
use mathlib.Core.Path.{sym, ap, ◌∙◌}
use mathlib.Core.List.{List}
use Prim.Native.Nat.{ℕ}
use borrow.Author.Tests.{ne_eqb, eq-eqb}
use Rattle.layout.specs.Outcomes.{outcome}
use Rattle.layout.specs.Places.{sizes_of}
use Rattle.making.proofs.MakingLaws.{not_allowed, wrong_length, right_length}
use Rattle.making.proofs.make.Goals as goal

pub returns-then-not-board_allowed : goal.returns-then-not-board_allowed
returns-then-not-board_allowed c =
    let a = c.args in
    not_allowed (sizes_of a.treelings a.domains a.frames) a.holes.now a.state.now (sym c.if-not-board_allowed.ensures.value)

pub returns-then-state-word_count : goal.returns-then-state-word_count
returns-then-state-word_count c =
    let a = c.args in
    wrong_length (sizes_of a.treelings a.domains a.frames) a.holes.now a.state.now (sym c.if-not-board_allowed.ensures.value)
    (ne_eqb _ _ (λ e. c.if-state-word_count.true (e ∙ sym c.word_count.ensures)))

pub returns : goal.returns
returns c =
    let a = c.args in
    ap (λ (l : List ℕ). outcome 0 l) c.write_new.ensures
    ∙ right_length (sizes_of a.treelings a.domains a.frames) a.holes.now a.state.now (sym c.if-not-board_allowed.ensures.value)
    (eq-eqb _ _ (c.if-state-word_count.false ∙ c.word_count.ensures))
