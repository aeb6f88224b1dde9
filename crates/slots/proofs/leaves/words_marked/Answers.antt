-- `slots::leaves::words_marked` meets its contract.
use Prim.Native.Nat.{ℕ, ◌^◌, ◌<◌}
use mathlib.Core.Path.{◌≡◌, sym, ap, ◌∙◌}
use native.Mathlib.Omega.{arith}
use lib.ListN.{length, get_or}
use Rattle.leaf_map.specs.GatheredIds.{words_of}
use Rattle.leaf_map.proofs.LeafIdLaws.{fits_id, position_below}
use Rattle.slots.proofs.LeafLaws.{id_word, position_is, words_none, word_out, node, word_judged}
use Rattle.slots.proofs.leaves.words_marked.Goals as goal

pub loop-id-init : goal.loop-id-init
loop-id-init c = words_none c.args.sizes (words_of c.args.ids.now) c.args.marks.now

pub returns-then-not-in_range-clause-words_clash : goal.returns-then-not-in_range-clause-words_clash
returns-then-not-in_range-clause-words_clash c _ =
    let a = c.args in
    word_out a.sizes (words_of a.ids.now) (length a.ids.now) c.loop-id.id-index _ (omega arith) (id_word a.ids.now c.loop-id.id-index _ (omega arith)) a.marks.now
    (sym c.in_range.ensures ∙ c.if-not-in_range.true)

-- No leaf ID is none.
pub position-requires : goal.position-requires
position-requires c =
    let k = c.loop-id.id-index in
    omega (arith, id_word c.args.ids.now k (record { 0 = 0 }) (omega arith), c.requires.by_index k (omega arith))

pub node-requires : goal.node-requires
node-requires c =
    let k = c.loop-id.id-index in
    omega (arith, id_word c.args.ids.now k (record { 0 = 0 }) (omega arith), c.requires.by_index k (omega arith))

-- The leaf ID names a slot, of T TreeLings.
pub bounds-position_marks-position : goal.bounds-position_marks-position
bounds-position_marks-position c = omega (arith, c.position.ensures, position_below (get_or c.args.ids.now c.loop-id.id-index (record { 0 = 0 })).0)

pub add_mark-requires : goal.add_mark-requires
add_mark-requires c =
    let a = c.args in
    let k = c.loop-id.id-index in
    let word = id_word a.ids.now k (record { 0 = 0 }) (omega arith) in
    let ranged = sym c.in_range.ensures ∙ c.if-not-in_range.false in
    omega (arith, c.requires.treelings_bound.1, node a.sizes (words_of a.ids.now) (length a.ids.now) k _ (omega arith) word a.marks.now (fits_id a.sizes.treelings _ c.requires.treelings_bound.0 (omega (arith, word, c.requires.by_index k (omega arith))) ranged) ranged c.node.result c.node.ensures)

pub returns-then-not-add_mark-clause-words_clash : goal.returns-then-not-add_mark-clause-words_clash
returns-then-not-add_mark-clause-words_clash c _ =
    let a = c.args in
    let k = c.loop-id.id-index in
    let word = id_word a.ids.now k (record { 0 = 0 }) (omega arith) in
    let ranged = sym c.in_range.ensures ∙ c.if-not-in_range.false in
    let below : c.position.result < 8 = omega (arith, c.position.ensures, position_below (get_or a.ids.now k (record { 0 = 0 })).0) in
    let judged = word_judged a.sizes (words_of a.ids.now) (length a.ids.now) k _ (omega arith) word a.marks.now (fits_id a.sizes.treelings _ c.requires.treelings_bound.0 (omega (arith, word, c.requires.by_index k (omega arith))) ranged) ranged
    c.node.result c.node.ensures _ (position_is c.position.result below ∙ ap (λ (j : ℕ). 2 ^ j) c.position.ensures) c.loop-id.marks c.loop-id.invariant c.add_mark.result c.add_mark.new.marks c.add_mark.ensures.value c.add_mark.ensures.marks_after in
    judged.1 c.if-not-add_mark.true

pub loop-id-preserved : goal.loop-id-preserved
loop-id-preserved c =
    let a = c.args in
    let k = c.loop-id.id-index in
    let word = id_word a.ids.now k (record { 0 = 0 }) (omega arith) in
    let ranged = sym c.in_range.ensures ∙ c.if-not-in_range.false in
    let below : c.position.result < 8 = omega (arith, c.position.ensures, position_below (get_or a.ids.now k (record { 0 = 0 })).0) in
    let judged = word_judged a.sizes (words_of a.ids.now) (length a.ids.now) k _ (omega arith) word a.marks.now (fits_id a.sizes.treelings _ c.requires.treelings_bound.0 (omega (arith, word, c.requires.by_index k (omega arith))) ranged) ranged
    c.node.result c.node.ensures _ (position_is c.position.result below ∙ ap (λ (j : ℕ). 2 ^ j) c.position.ensures) c.loop-id.marks c.loop-id.invariant c.add_mark.result c.add_mark.new.marks c.add_mark.ensures.value c.add_mark.ensures.marks_after in
    judged.0 c.if-not-add_mark.false

pub returns-clause-words_marked : goal.returns-clause-words_marked
returns-clause-words_marked c _ =
    let whole : c.loop-id.id-index ≡ length c.args.ids.now = omega arith in
    rw whole at c.loop-id.invariant
