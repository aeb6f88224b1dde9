-- What the passes over the records decide, each record by one test. Readers may pass over this.
use Rattle.std.specs.Prelude.{ℕ, zero, suc, ◌-◌, ◌≡◌, List, Bool, true, cond, not, ◌&&◌, ◌||◌, eqb, ltb}
use Rattle.layout.specs.declared.Sizes.{Sizes}
use Rattle.layout.specs.Bounded.{all}
use Rattle.layout.specs.Places.{get, treeling, first, last, owner, previous, next, rank}
use Rattle.sound.specs.Sentences.{domain_in_range, treeling_in_range, is_owned, dead_is_zero, former_is_owner, empty_is_zero, head_is_own}

module _ (z : Sizes) (s : List ℕ) where
  -- By what the code decides the sentence on chains: proofs/FollowLaws `chained-follows` and `follows-chained` say that it is the same.
  -- TreeLing t is domain d's of rank r, and before is the link to the one before it.
  abbrev pub is_linked : ℕ → ℕ → ℕ → ℕ → Bool
  is_linked d r before t =
      eqb (get z s (owner t)) (suc d) && eqb (get z s (previous t)) before && eqb (get z s (rank t)) r

  -- Domain d from link x on: r of its TreeLings are passed, the link of the last one passed is before, at most n are left.
  unfoldable pub follows : ℕ → ℕ → ℕ → ℕ → ℕ → Bool
  follows d zero r before x = eqb x 0 && eqb (get z s (last d)) before
  follows d (suc n) r before x =
      cond (eqb x 0)
      (eqb (get z s (last d)) before)
      (is_linked d r before (x - 1) && follows d n (suc r) x (get z s (next (x - 1))))

  -- An owned TreeLing is its owner's first, or it is the next of a TreeLing of the same owner, of a rank one less.
  abbrev pub is_first : ℕ → Bool
  is_first t = eqb (get z s (first (get z s (owner t) - 1))) (suc t)

  abbrev pub is_next_of : ℕ → ℕ → Bool
  is_next_of t p =
      eqb (get z s (owner p)) (get z s (owner t))
      && eqb (get z s (next p)) (suc t)
      && eqb (suc (get z s (rank p))) (get z s (rank t))

  abbrev pub is_followed : ℕ → Bool
  is_followed t =
      not (is_owned z s t) || is_first t || ltb 0 (get z s (previous t)) && is_next_of t (get z s (previous t) - 1)

  -- The records of a domain and of a TreeLing, each by one test.
  abbrev pub domain_chained : ℕ → Bool
  domain_chained d =
      dead_is_zero z s d && follows d z.treelings 0 0 (get z s (first d)) && empty_is_zero z s d && head_is_own z s d

  abbrev pub treeling_chained : ℕ → Bool
  treeling_chained t =
      (is_owned z s t || all 4 (λ j. eqb (get z s (treeling t j)) 0)) && former_is_owner z s t && is_followed t

  -- Every record is in range and chained: what the passes over entries and leaves go by.
  pub record Records : Type 0 where
    pub domains_range : all z.domains (domain_in_range z s) ≡ true
    pub treelings_range : all z.treelings (treeling_in_range z s) ≡ true
    pub domains-chained : all z.domains domain_chained ≡ true
    pub treelings_chained : all z.treelings treeling_chained ≡ true
