-- `returning::trim::add_each` meets its contract.
use Prim.Native.Nat.{ℕ, ◌+◌, ◌-◌, ◌/◌, ◌<◌, ◌≤◌}
use mathlib.Core.Path.{◌≡◌, refl, ◌∙◌}
use mathlib.Core.List.{List}
use native.Mathlib.Omega.{arith}
use lib.ListN.{length, get_or, take, drop}
use Rattle.std.proofs.lemmas.List.{get_or-take, get_or-drop}
use Rattle.clearing.specs.CodeKept.{Added, Room}
use Rattle.returning.proofs.SumLaws.{added_none, added_most, added_next}
use Rattle.returning.proofs.trim.add_each.Goals as goal

-- An entry of the four.
entry_is : (s : List ℕ) (at k : ℕ) → k < 4 → get_or (take (at + 4 - at) (drop at s)) k 0 ≡ get_or s (at + k) 0
entry_is s at k few = get_or-take (at + 4 - at) (drop at s) k 0 (omega arith) ∙ get_or-drop at s k 0

-- What the entry after the first k names has a sum, with room.
room : (s : List ℕ) (at k : ℕ) (before sums : List ℕ) → k < 4 → Added s at k before sums → Room before (get_or s (at + k) 0)
    → (get_or s (at + k) 0 / 131072 < length sums) × (get_or sums (get_or s (at + k) 0 / 131072) 0 ≤ 4294967040)
room s at k before sums l a r =
    let n = get_or s (at + k) 0 / 131072 in
    (omega (arith, r.0, a.long), omega (arith, r.1, a.sum_is n r.0, added_most s at k n))

pub loop-word-init : goal.loop-word-init
loop-word-init c = added_none c.args.state.now c.args.at c.args.sums.now

pub overflow_add-sums : goal.overflow_add-sums
overflow_add-sums c =
    let m = c.loop-word in
    let few : m.word-index < 4 = omega arith in
    let is = entry_is c.args.state.now c.args.at m.word-index few in
    rw is (omega (arith, (room c.args.state.now c.args.at m.word-index c.args.sums.now m.sums few m.invariant (c.requires.by_index m.word-index few)).1))

pub loop-word-preserved : goal.loop-word-preserved
loop-word-preserved c =
    let m = c.loop-word in
    let few : m.word-index < 4 = omega arith in
    let is = entry_is c.args.state.now c.args.at m.word-index few in
    rw is (added_next c.args.state.now c.args.at m.word-index _ _ c.args.sums.now m.sums m.invariant refl (c.requires.by_index m.word-index few).0 refl)
