-- A trim on a domain's view: which TreeLings go, by rank; the others get their new ranks, and their leaf nodes are regathered.
-- Assumes nothing.
use Prim.Native.Nat.{ℕ, suc, ◌+◌, ◌-◌, ◌*◌, ◌/◌, ◌%◌}
use mathlib.Core.Bool.{Bool, cond, not}
use lib.Dec.{eqb, ltb}
use lib.ListN.{get_or}
use Rattle.layout.specs.Bounded.{count, sum}
use Rattle.gathering.specs.Regathering.{whole_of, select}
use Rattle.clearing.specs.CodeKept.{all_free}
use Rattle.histories.proofs.View.{View, Look, look, world_of, with_treelings, order_seen, head_seen, seen_done}

module _ (v : View) where
  -- The TreeLing of rank r goes, where each of its positions is free, or stays; and how many do.
  unfoldable pub goes_view : ℕ → Bool
  goes_view r =
      eqb (sum (512 * v.treelings) (λ j. cond (eqb (v.nfl.tag j / 512) r) (v.nfl.free j) 0)) all_free

  abbrev pub stays_view : ℕ → Bool
  stays_view r = not (goes_view r)

  unfoldable pub returned_view : ℕ
  returned_view = count v.treelings goes_view

  unfoldable pub kept_view : ℕ
  kept_view = count v.treelings stays_view

  -- The rank before of the one that gets rank q, and the new rank of the one of rank r.
  unfoldable pub old_rank : ℕ → ℕ
  old_rank q = get_or (select stays_view v.treelings) q 0

  unfoldable pub new_rank : ℕ → ℕ
  new_rank r = count r stays_view

  -- The whole availability of leaf node p by new rank, the order of the entries, and the head.
  unfoldable pub whole_kept : ℕ → ℕ
  whole_kept p = whole_of (world_of v) (512 * old_rank (p / 512) + p % 512)

  unfoldable pub order_kept : ℕ → ℕ
  order_kept j = get_or (order_seen kept_view whole_kept) j 0

  unfoldable pub head_kept : ℕ
  head_kept = head_seen kept_view whole_kept

  -- A page stays in its slot, under the new rank.
  unfoldable pub place_kept : ℕ → ℕ
  place_kept y = cond (eqb y 0) 0 (suc (4096 * new_rank ((y - 1) / 4096) + (y - 1) % 4096))

  unfoldable pub trimmed_view : View
  trimmed_view =
      with_treelings v kept_view
      (record {
        head = head_kept;
        tag = λ j. cond (ltb j (512 * kept_view)) (order_kept j) 0;
        free = λ j. cond (ltb j (512 * kept_view)) (whole_kept (order_kept j)) 0;
      })
      (λ f. place_kept (v.place f))

  -- 8 trim.
  unfoldable pub trim_view : Look
  trim_view =
      cond (eqb returned_view 0) (look (seen_done 0) v) (look (seen_done returned_view) trimmed_view)
