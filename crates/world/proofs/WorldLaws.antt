-- Laws of a domain's world in a sound state: its TreeLings by rank, and its NFL entries in rank order.
-- Assumes nothing.
use Prim.Native.Nat.{ℕ, zero, suc, ◌+◌, ◌-◌, ◌*◌, ◌/◌, ◌%◌, ◌<◌, ◌≤◌}
use mathlib.Core.Path.{◌≡◌, refl, sym, ap, ap₂, subst, ◌∙◌}
use mathlib.Core.List.{List}
use mathlib.Core.Bool.{Bool, cond}
use mathlib.Core.Logic.{⊎_elim}
use native.Mathlib.Nat.{lt_of_not-le}
use native.Mathlib.Omega.{arith}
use borrow.Author.Tests.{eqb-true, eq-eqb, ne_eqb}
use lib.Dec.{eqb}
use Rattle.layout.specs.declared.Sizes.{Sizes}
use Rattle.layout.specs.Places.{entry, get, first, last, head_treeling, head_block, owner, previous, next, rank}
use Rattle.sound.specs.Sentences.{head_in_order, of_rank, link_of}
use Rattle.sound.specs.Sound.{Sound, Ordinary}
use Rattle.layout.proofs.BoundedLaws.{count_no}
use Rattle.sound.proofs.ChainLaws.{has_first, sound_followed, rank_below, one_rank, last-rank}
use Rattle.sound.proofs.TestLaws.{one_more}
use Rattle.world.specs.World.{world, owned, entry_of, node_of}
use Rattle.world.proofs.MatchingLaws.{count_most, count_matched}

-- TreeLing t is domain d's TreeLing of rank r.
pub record OfRank (z : Sizes) (s : List ℕ) (d r t : ℕ) : Type 0 where
  pub below : t < z.treelings
  pub owner_is : get z s (owner t) ≡ suc d
  pub rank_is : get z s (rank t) ≡ r

module _ (z : Sizes) (s : List ℕ) (h : Sound z s) (d : ℕ) (l : d < z.domains) where
  -- ---- The chain
  -- A TreeLing that d owns is of its own rank.
  own_rank : (t : ℕ) → t < z.treelings → get z s (owner t) ≡ suc d → OfRank z s d (get z s (rank t)) t
  own_rank t below o = record { below = below; owner_is = o; rank_is = refl }

  -- One TreeLing of a rank.
  one_of : (r t u : ℕ) → OfRank z s d r t → OfRank z s d r u → t ≡ u
  one_of r t u a b = one_rank z s h d t u l a.below b.below a.owner_is b.owner_is (a.rank_is ∙ sym b.rank_is)

  -- The first TreeLing, and the next of a TreeLing.
  pub first_some : (u : ℕ) → get z s (first d) ≡ suc u → OfRank z s d 0 u
  first_some u e =
      let k = h.at_first d u l e in
      record { below = omega (arith, h.first_range d l); owner_is = k.owner_is; rank_is = k.rank_is }

  next_of : (r t u : ℕ) → OfRank z s d r t → get z s (next t) ≡ suc u → OfRank z s d (suc r) u
  next_of r t u a e =
      let k = h.at_next d t u l a.below a.owner_is e in
      record { below = omega (arith, h.next_range t a.below); owner_is = k.owner_is; rank_is = k.rank_is ∙ ap suc a.rank_is }

  -- A domain that owns a TreeLing has a first.
  a_first : (t : ℕ) → t < z.treelings → get z s (owner t) ≡ suc d → (u : ℕ) × (get z s (first d) ≡ suc u)
  a_first t below o = has_first z s (sound_followed z s h) h.previous_range d t below o

  -- A TreeLing of d whose next is none.
  abbrev Ending : Type 0
  Ending = (u : ℕ) × (OfRank z s d (get z s (rank u)) u) × (get z s (next u) ≡ 0)

  -- Following next from a TreeLing of rank r, with at most n more ranks, ends at one.
  ends : (n r t : ℕ) → r + n ≡ z.treelings → OfRank z s d r t → Ending
  ends zero r t e a = let k = rank_below z s h d t l a.below a.owner_is in absurd (omega arith)
  ends (suc n) r t e a = by_next (λ u k. ends n (suc r) u (omega arith) (next_of r t u a k)) (get z s (next t)) refl
    where
      by_next : ((u : ℕ) → get z s (next t) ≡ suc u → Ending) → (x : ℕ) → get z s (next t) ≡ x → Ending
      by_next on zero k = (t, own_rank t a.below a.owner_is, k)
      by_next on (suc u) k = on u k

  an_end : (v : ℕ) → get z s (first d) ≡ suc v → Ending
  an_end v e = ends z.treelings 0 v (omega arith) (first_some v e)

  -- Where the next of TreeLing u is none:
  module _ (u : ℕ) (a : OfRank z s d (get z s (rank u)) u) (none : get z s (next u) ≡ 0) where
    -- following next from first goes through each rank up to its own,
    reached : (r : ℕ) → r ≤ get z s (rank u) → OfRank z s d r (of_rank z s d r)
    unfolding link_of of_rank
    reached zero k =
        let w = a_first u a.below a.owner_is in
        subst (λ (t : ℕ). OfRank z s d 0 t) (omega arith) (first_some w.0 w.1)
    reached (suc r) k = on (of_rank z s d r) (reached r (omega arith)) (get z s (next (of_rank z s d r))) refl
      where
        on : (t : ℕ) → OfRank z s d r t → (x : ℕ) → get z s (next t) ≡ x → OfRank z s d (suc r) (get z s (next t) - 1)
        on t b zero e = absurd (omega (arith, b.rank_is, last-rank z s h d t u l b.below a.below b.owner_is a.owner_is e))
        on t b (suc v) e = subst (λ (w : ℕ). OfRank z s d (suc r) w) (omega arith) (next_of r t v b e)

    -- no TreeLing of d has a larger rank,
    at_most : (t : ℕ) → t < z.treelings → get z s (owner t) ≡ suc d → get z s (rank t) ≤ get z s (rank u)
    at_most t below o = last-rank z s h d u t l a.below below a.owner_is o none

    -- so the number owned is one more than its rank.
    owned_is : owned z s d ≡ suc (get z s (rank u))
    unfolding owned
    owned_is =
        count_matched z.treelings (suc (get z s (rank u))) (λ t. eqb (get z s (owner t)) (suc d)) (λ t. get z s (rank t)) (of_rank z s d)
        (record {
          there_below = λ t below o. omega (arith, at_most t below (eqb-true (get z s (owner t)) (suc d) o));
          there_back = λ t below o. back t below (eqb-true (get z s (owner t)) (suc d) o);
          back_below = λ r k. (reached r (omega arith)).below;
          back_holds = λ r k. eq-eqb (get z s (owner (of_rank z s d r))) (suc d) (reached r (omega arith)).owner_is;
          back_there = λ r k. (reached r (omega arith)).rank_is;
        })
      where
        back : (t : ℕ) → t < z.treelings → get z s (owner t) ≡ suc d → of_rank z s d (get z s (rank t)) ≡ t
        back t below o =
            let r = get z s (rank t) in
            one_of r (of_rank z s d r) t (reached r (at_most t below o)) (own_rank t below o)

  -- ---- Ranks
  -- A TreeLing that d owns is that of its rank, which is below the number owned.
  pub rank_below_owned : (t : ℕ) → t < z.treelings → get z s (owner t) ≡ suc d → get z s (rank t) < owned z s d
  rank_below_owned t below o =
      let v = a_first t below o in
      let w = an_end v.0 v.1 in
      omega (arith, at_most w.0 w.1 w.2 t below o, owned_is w.0 w.1 w.2)

  -- No TreeLings: first is none, and where first or last is none there are none.
  pub none_first : owned z s d ≡ 0 → get z s (first d) ≡ 0
  none_first e =
      let no : 0 < get z s (first d) → ⊥ =
      λ some.
      let v = one_more (get z s (first d)) some in
      let a = first_some v.0 v.1 in
      omega (arith, rank_below_owned v.0 a.below a.owner_is) in
      omega arith

  pub first_none : get z s (first d) ≡ 0 → owned z s d ≡ 0
  unfolding owned
  first_none e =
      count_no z.treelings (λ t. eqb (get z s (owner t)) (suc d)) λ t below.
      ne_eqb (get z s (owner t)) (suc d) (λ o. let w = a_first t below o in omega arith)

  -- Some: there is a first, and so an end.
  some_first : 0 < owned z s d → (u : ℕ) × (get z s (first d) ≡ suc u)
  some_first some =
      one_more (get z s (first d)) (lt_of_not-le λ none. omega (arith, first_none (omega arith)))

  -- And each rank below the number owned has its TreeLing.
  pub of_rank_lem : (r : ℕ) → r < owned z s d → OfRank z s d r (of_rank z s d r)
  of_rank_lem r below =
      let v = some_first (omega arith) in
      let w = an_end v.0 v.1 in
      reached w.0 w.1 w.2 r (omega (arith, owned_is w.0 w.1 w.2))

  pub of_rank_back : (t : ℕ) → t < z.treelings → get z s (owner t) ≡ suc d → of_rank z s d (get z s (rank t)) ≡ t
  of_rank_back t below o =
      let r = get z s (rank t) in
      one_of r (of_rank z s d r) t (of_rank_lem r (rank_below_owned t below o)) (own_rank t below o)

  pub owned_most : owned z s d ≤ z.treelings
  unfolding owned
  owned_most = count_most z.treelings (λ t. eqb (get z s (owner t)) (suc d))

  pub last_none : get z s (last d) ≡ 0 → owned z s d ≡ 0
  last_none e =
      let no : 0 < owned z s d → ⊥ =
      λ some.
      let v = some_first some in
      let w = an_end v.0 v.1 in
      omega (arith, h.at_last d w.0 l w.1.below w.1.owner_is w.2) in
      omega arith

  pub last_some : (u : ℕ) → get z s (last d) ≡ suc u → (OfRank z s d (get z s (rank u)) u) × (owned z s d ≡ suc (get z s (rank u))) × (get z s (next u) ≡ 0)
  last_some u e =
      let v = one_more (get z s (first d)) (lt_of_not-le λ none. omega (arith, h.empty_zero d 1 l (omega arith) (omega arith))) in
      let w = an_end v.0 v.1 in
      let is : w.0 ≡ u = omega (arith, h.at_last d w.0 l w.1.below w.1.owner_is w.2) in
      subst (λ (t : ℕ). (OfRank z s d (get z s (rank t)) t) × (owned z s d ≡ suc (get z s (rank t))) × (get z s (next t) ≡ 0)) is
      (w.1, owned_is w.0 w.1 w.2, w.2)

  pub head_some : Ordinary z s d → 0 < owned z s d → (u : ℕ) × (get z s (head_treeling d) ≡ suc u) × (OfRank z s d (get z s (rank u)) u) × ((world z s d).nfl.head ≡ 64 * get z s (rank u) + get z s (head_block d)) × ((world z s d).nfl.head < 64 * owned z s d)
  head_some ordinary some =
      let v = some_first some in
      let w = h.head_own d v.0 l ordinary v.1 in
      let u = w.0 in
      let a = own_rank u (omega (arith, h.head_range d l)) w.2 in
      let named : get z s (head_treeling d) - 1 ≡ u = omega arith in
      let head : (world z s d).nfl.head ≡ 64 * get z s (rank u) + get z s (head_block d) =
      ap (λ (b : Bool). cond b 0 (head_in_order z s d)) (ne_eqb (get z s (head_treeling d)) 0 (λ e. omega arith))
      ∙ ap (λ (t : ℕ). 64 * get z s (rank t) + get z s (head_block d)) named in
      (u, w.1, a, head, omega (arith, head, h.block_range d l, rank_below_owned u a.below a.owner_is))

  -- The neighbours in the chain.
  pub next_some : (t u : ℕ) → t < z.treelings → get z s (owner t) ≡ suc d → get z s (next t) ≡ suc u → (of_rank z s d (suc (get z s (rank t))) ≡ u) × (suc (get z s (rank t)) < owned z s d)
  next_some t u below o e =
      let r = suc (get z s (rank t)) in
      let a = next_of (get z s (rank t)) t u (own_rank t below o) e in
      let less : r < owned z s d = omega (arith, rank_below_owned u a.below a.owner_is, a.rank_is) in
      (one_of r (of_rank z s d r) u (of_rank_lem r less) a, less)

  pub next_none : (t : ℕ) → t < z.treelings → get z s (owner t) ≡ suc d → get z s (next t) ≡ 0 → owned z s d ≡ suc (get z s (rank t))
  next_none t below o e = owned_is t (own_rank t below o) e

  pub previous_some : (t p : ℕ) → t < z.treelings → get z s (owner t) ≡ suc d → get z s (previous t) ≡ suc p → (of_rank z s d (get z s (rank t) - 1) ≡ p) × (OfRank z s d (get z s (rank t) - 1) p) × (0 < get z s (rank t))
  previous_some t p below o e =
      ⊎_elim
      (λ is. absurd (omega (arith, (h.at_first d t l is).previous_is)))
      (λ w.
      let f = w.2 in
      let is : w.0 ≡ p = omega arith in
      let r : get z s (rank p) ≡ get z s (rank t) - 1 = omega (arith, f.rank_is, ap (λ (q : ℕ). get z s (rank q)) is) in
      let a = own_rank p (omega (arith, h.previous_range t below)) (ap (λ (q : ℕ). get z s (owner q)) (sym is) ∙ f.owner_is) in
      (ap (of_rank z s d) (sym r) ∙ of_rank_back p a.below a.owner_is, subst (λ (q : ℕ). OfRank z s d q p) r a, omega (arith, f.rank_is)))
      (h.followed d t l below o)

  pub previous_none : (t : ℕ) → t < z.treelings → get z s (owner t) ≡ suc d → get z s (previous t) ≡ 0 → get z s (rank t) ≡ 0
  previous_none t below o e =
      ⊎_elim
      (λ is. (h.at_first d t l is).rank_is)
      (λ w. absurd (omega (arith, w.1)))
      (h.followed d t l below o)

  -- The TreeLings of two ranks are different.
  pub rank_one : (q r : ℕ) → q < owned z s d → r < owned z s d → of_rank z s d q ≡ of_rank z s d r → q ≡ r
  rank_one q r hq hr e =
      sym (of_rank_lem q hq).rank_is ∙ ap (λ (t : ℕ). get z s (rank t)) e ∙ (of_rank_lem r hr).rank_is

  -- ---- Entries and leaf nodes
  -- Entries in rank order are all different, and each entry of an owned TreeLing is one of them.
  pub entry_one : (i j : ℕ) → i < 512 * owned z s d → j < 512 * owned z s d → entry_of z s d i ≡ entry_of z s d j → i ≡ j
  entry_one i j hi hj e =
      let same : of_rank z s d (i / 512) ≡ of_rank z s d (j / 512) = cc in
      let rest : i % 512 ≡ j % 512 = cc in
      let q = rank_one (i / 512) (j / 512) (omega arith) (omega arith) same in
      omega arith

  pub entry_back : (t k : ℕ) → t < z.treelings → get z s (owner t) ≡ suc d → k < 512 → entry_of z s d (512 * get z s (rank t) + k) ≡ entry t k
  entry_back t k below o small =
      let q : (512 * get z s (rank t) + k) / 512 ≡ get z s (rank t) = omega arith in
      let m : (512 * get z s (rank t) + k) % 512 ≡ k = omega arith in
      ap₂ entry (ap (of_rank z s d) q ∙ of_rank_back t below o) m

  -- And so are its leaf nodes.
  pub node_one : (i j : ℕ) → i < 512 * owned z s d → j < 512 * owned z s d → node_of z s d i ≡ node_of z s d j → i ≡ j
  node_one i j hi hj e =
      let same : of_rank z s d (i / 512) ≡ of_rank z s d (j / 512) = omega arith in
      let q = rank_one (i / 512) (j / 512) (omega arith) (omega arith) same in
      omega arith
