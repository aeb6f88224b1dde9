-- `returning::trim::add_four` meets its contract, whether the four entries name one TreeLing or not.
-- Assumes nothing.
use Prim.Native.Nat.{ℕ, ◌+◌, ◌/◌, ◌<◌}
use mathlib.Core.Path.{sym, subst, ◌∙◌}
use mathlib.Core.List.{List}
use native.Mathlib.Nat.{add-zero}
use native.Mathlib.Omega.{arith}
use lib.ListN.{get_or}
use borrow.Author.Rules.{rules}
use Rattle.clearing.specs.CodeKept.{Room}
use Rattle.returning.proofs.SumLaws.{added_four}
use Rattle.returning.proofs.trim.add_four.Goals as goal

-- The TreeLing that the first entry names has a sum, with room.
room : (s : List ℕ) (at : ℕ) (sums : List ℕ) → ((i : ℕ) → i < 4 → Room sums (get_or s (at + i) 0)) → Room sums (get_or s at 0)
room s at sums each = subst (λ (i : ℕ). Room sums (get_or s i 0)) (add-zero at) (each 0 (omega arith))

pub offset_bounds-sums-t : goal.offset_bounds-sums-t
offset_bounds-sums-t c = search (rules, (room c.args.state.now c.args.at c.args.sums.now c.requires.by_index).0)

pub bounds-sums-t : goal.bounds-sums-t
bounds-sums-t c = omega (arith, (room c.args.state.now c.args.at c.args.sums.now c.requires.by_index).0)

pub overflow_add-sums : goal.overflow_add-sums
overflow_add-sums c = omega (arith, (room c.args.state.now c.args.at c.args.sums.now c.requires.by_index).1, c.free_of_four.ensures)

pub bounds-sums-t-then-all_name : goal.bounds-sums-t-then-all_name
bounds-sums-t-then-all_name c = omega (arith, (room c.args.state.now c.args.at c.args.sums.now c.requires.by_index).0)

pub returns-then-all_name : goal.returns-then-all_name
returns-then-all_name c =
    added_four c.args.state.now c.args.at (get_or c.args.state.now c.args.at 0 / 131072) _ c.args.sums.now (sym c.all_name.ensures ∙ c.if-all_name.true) (room c.args.state.now c.args.at c.args.sums.now c.requires.by_index).0 (omega (arith, c.free_of_four.ensures))
