-- The TreeLings of a domain that stay when it is trimmed, by their new ranks.
-- Assumes nothing.
use Prim.Native.Nat.{ℕ, suc, ◌+◌, ◌<◌, ◌≤◌}
use mathlib.Core.Path.{◌≡◌, refl, sym, ap, ◌∙◌}
use mathlib.Core.List.{List}
use mathlib.Core.Bool.{Bool, true, false, cond, not}
use native.Mathlib.Omega.{arith}
use borrow.Author.Tests.{lt-ltb, le-ltb, not-true}
use lib.ListN.{get_or}
use Rattle.layout.specs.declared.Sizes.{Sizes}
use Rattle.layout.specs.Places.{get, owner, rank}
use Rattle.layout.specs.Bounded.{count}
use Rattle.sound.specs.Sentences.{of_rank}
use Rattle.sound.specs.Sound.{Sound}
use Rattle.world.specs.World.{owned}
use Rattle.world.proofs.WorldLaws.{OfRank, of_rank_lem, of_rank_back, rank_below_owned, rank_one, owned_most}
use Rattle.gathering.specs.Regathering.{select}
use Rattle.gathering.proofs.GatherListLaws.{count_both}
use Rattle.gathering.proofs.SelectLaws.{count_less, select_is, select_at}
use Rattle.returning.specs.Returning.{is_empty, goes, stays, number_returned, number_kept, kept_of, kept_link, kept_before}
use Rattle.returning.proofs.TrimFacts.{Kept}

-- ---- Links
module _ (z : Sizes) (s : List ℕ) (d : ℕ) where
  -- A link names the TreeLing, and is 0 past the last.
  pub kept_link_lem : (q : ℕ) → q < number_kept z s d → kept_link z s d q ≡ suc (kept_of z s d q)
  unfolding kept_link
  kept_link_lem q k = ap (λ (b : Bool). cond b (suc (kept_of z s d q)) 0) (lt-ltb q (number_kept z s d) k)

  pub link_none : (q : ℕ) → number_kept z s d ≤ q → kept_link z s d q ≡ 0
  unfolding kept_link
  link_none q k = ap (λ (b : Bool). cond b (suc (kept_of z s d q)) 0) (le-ltb q (number_kept z s d) k)

  -- The link before the first, and before another.
  pub before-first : kept_before z s d 0 ≡ 0
  unfolding kept_before
  before-first = refl

  pub before-next : (q : ℕ) → kept_before z s d (suc q) ≡ kept_link z s d q
  unfolding kept_before
  before-next q = refl

-- ---- The TreeLings
module _ (z : Sizes) (s : List ℕ) (h : Sound z s) (d : ℕ) (l : d < z.domains) where
  -- The old rank of the one that gets rank q.
  abbrev pub old_rank : ℕ → ℕ
  old_rank q = get_or (select (stays z s d) (owned z s d)) q 0

  pub old_rank_lem : (q : ℕ) → q < number_kept z s d → (old_rank q < owned z s d) × (stays z s d (old_rank q) ≡ true) × (count (old_rank q) (stays z s d) ≡ q)
  unfolding number_kept
  old_rank_lem q k = select_is (stays z s d) (owned z s d) q k

  pub kept_rank : (q : ℕ) → q < number_kept z s d → OfRank z s d (old_rank q) (kept_of z s d q)
  unfolding kept_of
  kept_rank q k = of_rank_lem z s h d l (old_rank q) (old_rank_lem q k).0

  -- Those that go and those that stay are all,
  kept_all : number_returned z s d + number_kept z s d ≡ owned z s d
  unfolding number_returned number_kept
  kept_all = count_both (goes z s d) (owned z s d)

  pub kept_most : number_kept z s d ≤ z.treelings
  kept_most = omega (arith, kept_all, owned_most z s h d l)

  -- those that stay have pages,
  kept_pages : (q : ℕ) → q < number_kept z s d → is_empty z s (kept_of z s d q) ≡ false
  unfolding kept_of
  kept_pages q k = not-true (goes z s d (old_rank q)) (old_rank_lem q k).1

  -- each has one rank,
  kept_one : (p q : ℕ) → p < number_kept z s d → q < number_kept z s d → kept_of z s d p ≡ kept_of z s d q → p ≡ q
  unfolding kept_of
  kept_one p q hp hq e =
      sym (old_rank_lem p hp).2
      ∙ ap (λ (r : ℕ). count r (stays z s d)) (rank_one z s h d l (old_rank p) (old_rank q) (old_rank_lem p hp).0 (old_rank_lem q hq).0 e)
      ∙ (old_rank_lem q hq).2

  -- one of rank r with pages gets as its rank the number of those before it that stay,
  pub kept_at : (r : ℕ) → r < owned z s d → is_empty z s (of_rank z s d r) ≡ false
      → (count r (stays z s d) < number_kept z s d) × (kept_of z s d (count r (stays z s d)) ≡ of_rank z s d r)
  unfolding number_kept kept_of
  kept_at r below used =
      let stay : stays z s d r ≡ true = ap not used in
      (count_less (owned z s d) (stays z s d) r below stay, ap (of_rank z s d) (select_at (stays z s d) (owned z s d) r below stay))

  -- and each of the domain's with pages stays.
  kept_found : (t : ℕ) → t < z.treelings → get z s (owner t) ≡ suc d → is_empty z s t ≡ false → (q : ℕ) × (q < number_kept z s d) × (kept_of z s d q ≡ t)
  kept_found t m o e =
      let back = of_rank_back z s h d l t m o in
      let at = kept_at (get z s (rank t)) (rank_below_owned z s h d l t m o) (ap (is_empty z s) back ∙ e) in
      (count (get z s (rank t)) (stays z s d), at.0, at.1 ∙ back)

  pub kept_facts : Kept z s d
  kept_facts =
      record {
        all = kept_all;
        below = λ q k. (kept_rank q k).below;
        own = λ q k. (kept_rank q k).owner_is;
        not_empty_lem = kept_pages;
        one = kept_one;
        found = kept_found;
      }
