-- What a trim leaves, word by word: the TreeLings that stay, and the words after it.
-- Assumes nothing.
use Prim.Native.Nat.{ℕ, suc, ◌+◌, ◌-◌, ◌*◌, ◌/◌, ◌%◌, ◌<◌}
use mathlib.Core.Path.{◌≡◌}
use mathlib.Core.List.{List}
use mathlib.Core.Bool.{Bool, true, false, cond}
use lib.Dec.{eqb, ltb}
use lib.ListN.{length, get_or}
use Rattle.layout.specs.declared.Sizes.{Sizes}
use Rattle.geometry.specs.Entries.{entry_word}
use Rattle.layout.specs.Places.{get, content, domain, treeling, entry, leaf, live, first, last, head_treeling, head_block, pages_mapped, owner, previous, next, rank, former}
use Rattle.layout.specs.Bounded.{count}
use Rattle.world.specs.World.{world, owned}
use Rattle.gathering.specs.Regathering.{whole_of}
use Rattle.gathering.proofs.SelectLaws.{parted}
use Rattle.returning.specs.Returning.{is_empty, number_returned, number_kept, kept_of, kept_link, kept_before}

-- The TreeLings of domain d that stay, by their new ranks.
pub record Kept (z : Sizes) (s : List ℕ) (d : ℕ) : Type 0 where
  pub all : number_returned z s d + number_kept z s d ≡ owned z s d
  pub below : (q : ℕ) → q < number_kept z s d → kept_of z s d q < z.treelings
  pub own : (q : ℕ) → q < number_kept z s d → get z s (owner (kept_of z s d q)) ≡ suc d
  pub not_empty_lem : (q : ℕ) → q < number_kept z s d → is_empty z s (kept_of z s d q) ≡ false
  pub one : (p q : ℕ) → p < number_kept z s d → q < number_kept z s d → kept_of z s d p ≡ kept_of z s d q → p ≡ q
  pub found : (t : ℕ) → t < z.treelings → get z s (owner t) ≡ suc d → is_empty z s t ≡ false → (q : ℕ) × (q < number_kept z s d) × (kept_of z s d q ≡ t)

-- The leaf nodes that stay, by new rank then node, and their order in the NFL: the spent ones first.
module _ (z : Sizes) (s : List ℕ) (d : ℕ) where
  abbrev pub kept_node : ℕ → ℕ
  kept_node p = 512 * kept_of z s d (p / 512) + p % 512

  abbrev pub kept_whole : ℕ → ℕ
  kept_whole p = whole_of (world z s d) (kept_node p)

  abbrev pub kept_spent : ℕ → Bool
  kept_spent p = eqb (kept_whole p) 0

  abbrev pub kept_order : ℕ → ℕ
  kept_order j = get_or (parted kept_spent (512 * number_kept z s d)) j 0

  -- The head block in rank order.
  abbrev pub spent_number : ℕ
  spent_number = count (512 * number_kept z s d) kept_spent

  abbrev pub kept_head : ℕ
  kept_head = cond (ltb spent_number (512 * number_kept z s d)) (spent_number / 8) (64 * number_kept z s d - 1)

-- Words r after domain d is trimmed in words s.
pub record Trimmed (z : Sizes) (s r : List ℕ) (d : ℕ) : Type 0 where
  pub long : length r ≡ length s
  pub same_content : (i : ℕ) → i < 25 → get z r (content i) ≡ get z s (content i)
  pub same_leaf : (f : ℕ) → f < z.frames → get z r (leaf f) ≡ get z s (leaf f)
  -- The records of the other domains; of its own, live and pages mapped stay.
  pub same_domain : (e j : ℕ) → e < z.domains → j < 6 → (e ≡ d → ⊥) → get z r (domain e j) ≡ get z s (domain e j)
  pub same_live : get z r (live d) ≡ get z s (live d)
  pub same_pages : get z r (pages_mapped d) ≡ get z s (pages_mapped d)
  pub first_is : get z r (first d) ≡ kept_link z s d 0
  pub last_is : get z r (last d) ≡ kept_before z s d (number_kept z s d)
  pub head_none : number_kept z s d ≡ 0 → (get z r (head_treeling d) ≡ 0) × (get z r (head_block d) ≡ 0)
  pub head_is : 0 < number_kept z s d → (get z r (head_treeling d) ≡ suc (kept_of z s d (kept_head z s d / 64))) × (get z r (head_block d) ≡ kept_head z s d % 64)
  -- The TreeLings that are not its own, and the last owners of all.
  pub same_treeling : (t j : ℕ) → t < z.treelings → j < 5 → (get z s (owner t) ≡ suc d → ⊥) → get z r (treeling t j) ≡ get z s (treeling t j)
  pub same_entry : (t k : ℕ) → t < z.treelings → k < 512 → (get z s (owner t) ≡ suc d → ⊥) → get z r (entry t k) ≡ get z s (entry t k)
  pub same_former : (t : ℕ) → t < z.treelings → get z r (former t) ≡ get z s (former t)
  -- Its own: those that go,
  pub gone_zero : (t j : ℕ) → t < z.treelings → j < 4 → get z s (owner t) ≡ suc d → is_empty z s t ≡ true → get z r (treeling t j) ≡ 0
  pub gone_entry : (t k : ℕ) → t < z.treelings → k < 512 → get z s (owner t) ≡ suc d → is_empty z s t ≡ true → get z r (entry t k) ≡ 0
  -- and those that stay.
  pub kept_owner : (q : ℕ) → q < number_kept z s d → get z r (owner (kept_of z s d q)) ≡ suc d
  pub kept_previous : (q : ℕ) → q < number_kept z s d → get z r (previous (kept_of z s d q)) ≡ kept_before z s d q
  pub kept_next : (q : ℕ) → q < number_kept z s d → get z r (next (kept_of z s d q)) ≡ kept_link z s d (suc q)
  pub kept_rank : (q : ℕ) → q < number_kept z s d → get z r (rank (kept_of z s d q)) ≡ q
  pub kept_entry : (j : ℕ) → j < 512 * number_kept z s d → get z r (entry (kept_of z s d (j / 512)) (j % 512)) ≡ entry_word (kept_node z s d (kept_order z s d j)) (kept_whole z s d (kept_order z s d j))
