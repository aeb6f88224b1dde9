-- `slots::entries::treeling_counted` meets its contract.
-- Assumes nothing.
use Prim.Native.Nat.{ℕ, ◌-◌, ◌<◌, ◌≤◌}
use mathlib.Core.Path.{◌≡◌, sym, ap, ◌∙◌}
use mathlib.Core.Bool.{true}
use mathlib.Core.List.{List}
use native.Mathlib.Omega.{arith}
use lib.ListN.{get_or}
use borrow.Author.Tests.{lt-ltb}
use Rattle.layout.specs.declared.Sizes.{Sizes}
use Rattle.layout.specs.Places.{address, get, owner}
use Rattle.sound.specs.Sentences.{is_ordinary}
use Rattle.sound.specs.CodeChained.{Records}
use Rattle.sound.proofs.RecordLaws.{records_kind}
use Rattle.slots.proofs.EntryLaws.{owner_read, unowned_entries, unowned_not_sound, tally_free, tally_fault, owned_entries, counted_next, pages_most}
use Rattle.sound.proofs.CountingLaws.{free_most}
use Rattle.slots.proofs.entries.treeling_counted.Goals as goal

-- The owner as it is read, of an ordinary domain.
record Owned (z : Sizes) (s : List ℕ) (t word : ℕ) : Type 0 where
  read : word ≡ get z s (owner t)
  kind : is_ordinary z s t ≡ true
  low : 0 < word
  high : word ≤ z.domains

owned : (z : Sizes) (s : List ℕ) (t at : ℕ) → Records z s → t < z.treelings → at ≡ address z (owner t) → (get_or s at 0 ≡ 0 → ⊥) → Owned z s t (get_or s at 0)
owned z s t at records below at_is some =
    let read : get_or s at 0 ≡ get z s (owner t) = ap (λ (i : ℕ). get_or s i 0) at_is in
    let kind : is_ordinary z s t ≡ true = records_kind z s records t below ∙ lt-ltb 0 (get z s (owner t)) (omega arith) in
    let range = owner_read z s t at records below kind at_is in
    record { read = read; kind = kind; low = range.0; high = range.1 }

pub returns-then-owner-eq0 : goal.returns-then-owner-eq0
returns-then-owner-eq0 c =
    let a = c.args in
    let none : get a.sizes a.state.now (owner a.t) ≡ 0 = sym (ap (λ (i : ℕ). get_or a.state.now i 0) c.treeling.ensures) ∙ c.if-owner-eq0.true in
    record {
      t_value = unowned_entries a.sizes a.state.now a.t c.entry.result c.all_zero.result c.entry.ensures none c.all_zero.ensures a.marks.now a.pages.now c.requires.marks.0 c.requires.marks.1;
      fact = unowned_not_sound a.sizes a.state.now a.t c.entry.result c.all_zero.result c.entry.ensures none c.all_zero.ensures c.requires.t_lt_treelings;
    }

pub treeling_tally-requires-clause-t_lt_treelings : goal.treeling_tally-requires-clause-t_lt_treelings
treeling_tally-requires-clause-t_lt_treelings c =
    let o = owned c.args.sizes c.args.state.now c.args.t c.treeling.result c.requires.records c.requires.t_lt_treelings c.treeling.ensures c.if-owner-eq0.false in
    (c.requires.t_lt_treelings, o.kind)

pub returns-in_default-clause-fact : goal.returns-in_default-clause-fact
returns-in_default-clause-fact c _ =
    tally_fault c.args.sizes c.args.state.now c.args.t _ c.treeling_tally.result c.treeling_tally.ensures c.in_default.is

pub offset_bounds-pages-d : goal.offset_bounds-pages-d
offset_bounds-pages-d c =
    let o = owned c.args.sizes c.args.state.now c.args.t c.treeling.result c.requires.records c.requires.t_lt_treelings c.treeling.ensures c.if-owner-eq0.false in
    omega arith

pub bounds-pages-d : goal.bounds-pages-d
bounds-pages-d c =
    let o = owned c.args.sizes c.args.state.now c.args.t c.treeling.result c.requires.records c.requires.t_lt_treelings c.treeling.ensures c.if-owner-eq0.false in
    omega (arith, c.requires.marks.1.room)

pub overflow_sub-pages : goal.overflow_sub-pages
overflow_sub-pages c =
    let a = c.args in
    let told = tally_free a.sizes a.state.now a.t c.treeling_tally.new.marks c.treeling_tally.result c.in-Some.free c.treeling_tally.ensures c.in-Some.is in
    omega (arith, told.2, free_most a.sizes a.state.now a.t 512)

pub overflow_add-pages : goal.overflow_add-pages
overflow_add-pages c =
    let a = c.args in
    let o = owned c.args.sizes c.args.state.now c.args.t c.treeling.result c.requires.records c.requires.t_lt_treelings c.treeling.ensures c.if-owner-eq0.false in
    omega (arith, c.requires.laid.sizes.max_treelings, pages_most a.sizes a.state.now a.t a.pages.now c.requires.marks.1 (get_or a.state.now c.treeling.result 0 - 1) (omega arith))

pub bounds-pages-d-2 : goal.bounds-pages-d-2
bounds-pages-d-2 c =
    let o = owned c.args.sizes c.args.state.now c.args.t c.treeling.result c.requires.records c.requires.t_lt_treelings c.treeling.ensures c.if-owner-eq0.false in
    omega (arith, c.requires.marks.1.room)

pub returns-clause-t_value : goal.returns-clause-t_value
returns-clause-t_value c _ =
    let a = c.args in
    let o = owned c.args.sizes c.args.state.now c.args.t c.treeling.result c.requires.records c.requires.t_lt_treelings c.treeling.ensures c.if-owner-eq0.false in
    let told = tally_free a.sizes a.state.now a.t c.treeling_tally.new.marks c.treeling_tally.result c.in-Some.free c.treeling_tally.ensures c.in-Some.is in (
      owned_entries a.sizes a.state.now a.t (omega arith) told.0,
      told.1,
      counted_next a.sizes a.state.now a.t a.pages.now c.requires.marks.1 (get_or a.state.now c.treeling.result 0 - 1) c.in-Some.free (omega arith) (omega arith) told.2,
    )
