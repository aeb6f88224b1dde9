-- `returning::trim::add_entries` meets its contract.
use Prim.Native.Nat.{ℕ, ◌+◌, ◌*◌, ◌/◌, ◌<◌}
use mathlib.Core.Path.{◌≡◌, subst}
use native.Mathlib.Omega.{arith}
use native.Mathlib.Nat.{lt_of_lt_of_le}
use lib.ListN.{get_or}
use Rattle.layout.specs.Places.{address, entry}
use Rattle.clearing.specs.CodeKept.{Added}
use Rattle.returning.proofs.SumLaws.{named_few, added_none, added_most, added_then}
use Rattle.returning.proofs.trim.add_entries.Goals as goal

pub loop-k-init : goal.loop-k-init
loop-k-init c = added_none c.args.state.now c.entry-at.result c.args.sums.now

-- Each of the next four entries names a TreeLing of the board, whose sum has room.
pub add_four-requires-clause-by_index : goal.add_four-requires-clause-by_index
add_four-requires-clause-by_index c = λ i l.
    let m = c.loop-k in
    let at = c.entry-at.result in
    let n = get_or c.args.state.now (at + 4 * m.k + i) 0 / 131072 in
    let inside : 4 * m.k + i < 512 = omega arith in
    let named : n < c.args.sizes.treelings =
    subst (λ (j : ℕ). get_or c.args.state.now j 0 / 131072 < c.args.sizes.treelings) (omega arith)
    (named_few c.args.sizes c.args.state.now c.args.t (4 * m.k + i) at c.requires.sound c.requires.t_lt_treelings.0 c.requires.t_lt_treelings.2 inside c.entry-at.ensures) in
    let low = lt_of_lt_of_le named c.requires.t_lt_treelings.1 in
    (omega (arith, low, m.invariant.long), omega (arith, m.invariant.sum_is n low, c.requires.by_index n named, added_most c.args.state.now at (4 * m.k) n))

pub loop-k-preserved : goal.loop-k-preserved
loop-k-preserved c =
    let m = c.loop-k in
    let more : 4 * (m.k + 1) ≡ 4 * m.k + 4 = omega arith in
    rw more (added_then c.args.state.now c.entry-at.result (4 * m.k) 4 c.args.sums.now m.sums _ m.invariant c.add_four.ensures)

pub returns : goal.returns
returns c =
    let m = c.loop-k in
    let all : m.k ≡ 128 = omega arith in
    subst (λ (k : ℕ). Added c.args.state.now (address c.args.sizes (entry c.args.t 0)) (4 * k) c.args.sums.now m.sums) all
    (subst (λ (i : ℕ). Added c.args.state.now i (4 * m.k) c.args.sums.now m.sums) c.entry-at.ensures m.invariant)
