-- "Following next from first gives a live domain's TreeLings ..; no other TreeLing is owned": the tests and the facts of a sound state.
-- Assumes nothing.
use Prim.Native.Nat.{ℕ, zero, suc, ◌<◌, ◌≤◌, zero-le}
use mathlib.Core.Path.{◌≡◌, sym, ap, refl, ◌∙◌}
use mathlib.Core.List.{List}
use mathlib.Core.Bool.{true}
use mathlib.Core.Logic.{⊎_elim}
use native.Mathlib.Nat.{suc_inj, eq-or-lt_of_le, le_of_lt, le_refl}
use native.Mathlib.Omega.{arith}
use borrow.Author.Tests.{eqb-true}
use lib.Dec.{eqb}
use Rattle.layout.specs.declared.Sizes.{Sizes}
use Rattle.layout.specs.Places.{get, first, last, owner, previous, next, rank}
use Rattle.sound.specs.Sentences.{link_of, of_rank, chain_length, link_before}
use Rattle.sound.specs.CodeChained.{follows, is_followed}
use Rattle.sound.specs.Sound.{Linked, Sound}
use Rattle.geometry.proofs.FirstLaws.{first_most, first_holds}
use Rattle.sound.proofs.TestLaws.{one_more}
use Rattle.sound.proofs.Pigeonhole.{pigeonhole}
use Rattle.sound.proofs.LinkLaws.{Chain, chain_follows, link_names, link_some, link_next, link_linked}
use Rattle.sound.proofs.FollowLaws.{Led, is_followed_lem, led, led_below}

-- A domain that owns a TreeLing has a first one.
pub has_first : (z : Sizes) (s : List ℕ)
    → ((t : ℕ) → t < z.treelings → is_followed z s t ≡ true) → ((t : ℕ) → t < z.treelings → get z s (previous t) ≤ z.treelings)
    → (d t : ℕ) → t < z.treelings → get z s (owner t) ≡ suc d → (u : ℕ) × (get z s (first d) ≡ suc u)
unfolding link_of
has_first z s others ranges d t tl own = one_more (get z s (first d)) ((led z s others ranges d t tl own).some 0 zero-le)

-- ---- from a chain to the facts of its TreeLings
module _ (z : Sizes) (s : List ℕ) (d : ℕ) (c : Chain z s d) where
  -- No step leads to the first.
  pub first_linked : (u : ℕ) → get z s (first d) ≡ suc u → Linked z s d u 0 0
  unfolding link_of link_before
  first_linked u e = link_linked z s d c 0 u zero-le e

  module _ (t : ℕ) (w : Led z s d t) where
    -- The rank of a TreeLing is the number of steps that lead to it.
    rank_steps : get z s (rank t) ≡ w.steps
    rank_steps = (link_linked z s d c w.steps t (le_of_lt (led_below z s d t c w)) w.named).rank_is

    -- One step more leads to its next.
    pub next_linked : (u : ℕ) → get z s (next t) ≡ suc u → Linked z s d u (suc t) (suc (get z s (rank t)))
    unfolding link_before
    next_linked u e =
        let k = link_linked z s d c (suc w.steps) u (led_below z s d t c w) (link_next z s d w.steps t w.named ∙ e) in
        record { owner_is = k.owner_is; previous_is = k.previous_is ∙ w.named; rank_is = k.rank_is ∙ ap suc (sym rank_steps) }

    -- Without a next it is the last.
    last_steps : get z s (next t) ≡ 0 → chain_length z s d ≡ suc w.steps
    last_steps e =
        ⊎_elim sym
        (λ more. absurd (omega (arith, link_next z s d w.steps t w.named, link_some z s d (suc w.steps) more)))
        (eq-or-lt_of_le (led_below z s d t c w))

    pub last_linked : get z s (next t) ≡ 0 → get z s (last d) ≡ suc t
    unfolding link_before
    last_linked e = c.last_is ∙ ap (link_before z s d) (last_steps e) ∙ w.named

module _ (z : Sizes) (s : List ℕ) (h : Sound z s) where
  -- ---- from the facts to the tests
  -- Each TreeLing followed.
  pub sound_followed : (t : ℕ) → t < z.treelings → is_followed z s t ≡ true
  sound_followed t tl =
      is_followed_lem z s t (λ d own. h.followed d t (omega (arith, h.owner_range t tl)) tl own)

  module _ (d : ℕ) (dl : d < z.domains) where
    -- Over links that are not 0, each TreeLing is linked as the steps to it say.
    abbrev Reached : ℕ → Type 0
    Reached r = (of_rank z s d r < z.treelings) × Linked z s d (of_rank z s d r) (link_before z s d r) r

    reached : (r : ℕ) → ((j : ℕ) → j ≤ r → 0 < link_of z s d j) → Reached r
    unfolding link_of link_before
    reached zero some =
        let link = link_names z s d 0 (some 0 zero-le) in
        (omega (arith, h.first_range d dl), h.at_first d (of_rank z s d 0) dl link)
    reached (suc r) some =
        let p = of_rank z s d r in
        let link = link_names z s d r (some r (omega arith)) in
        let before = reached r (λ j l. some j (omega arith)) in
        let is : get z s (next p) ≡ suc (of_rank z s d (suc r)) = sym (link_next z s d r p link) ∙ link_names z s d (suc r) (some (suc r) (le_refl (suc r))) in
        let k = h.at_next d p (of_rank z s d (suc r)) dl before.0 before.1.owner_is is in (
          omega (arith, h.next_range p before.0),
          record { owner_is = k.owner_is; previous_is = k.previous_is ∙ sym link; rank_is = k.rank_is ∙ ap suc before.1.rank_is },
        )

    chain_reached : (r : ℕ) → r < chain_length z s d → Reached r
    chain_reached r l = reached r (λ j m. omega (arith, link_some z s d j (omega arith)))

    -- A chain ends before its TreeLings are more than there are.
    chain_most : chain_length z s d ≤ z.treelings
    unfolding chain_length
    chain_most = omega (arith, first_most (λ r. eqb (link_of z s d r) 0) 0 z.treelings)

    too_many : ((j : ℕ) → j ≤ z.treelings → 0 < link_of z s d j) → ⊥
    too_many some =
        let at : (i : ℕ) → i ≤ z.treelings → Reached i = λ i l. reached i (λ j m. some j (omega arith)) in
        pigeonhole z.treelings (of_rank z s d)
        (λ i l. (at i l).0)
        (λ i j l k same. sym (at i l).1.rank_is ∙ ap (λ (t : ℕ). get z s (rank t)) same ∙ (at j k).1.rank_is)

    chain_ends : link_of z s d (chain_length z s d) ≡ 0
    unfolding chain_length
    chain_ends =
        ⊎_elim
        (λ all.
        let no : 0 < link_of z s d (chain_length z s d) → ⊥ =
        λ more. too_many (λ j l.
        ⊎_elim (λ same. omega (arith, ap (link_of z s d) (same ∙ sym all))) (λ less. omega (arith, link_some z s d j (omega arith))) (eq-or-lt_of_le l)) in
        omega arith)
        (λ less. eqb-true (link_of z s d (chain_length z s d)) 0 (first_holds (λ r. eqb (link_of z s d r) 0) 0 z.treelings (omega arith)))
        (eq-or-lt_of_le chain_most)

    chain_last : (k : ℕ) → chain_length z s d ≡ k → get z s (last d) ≡ link_before z s d k
    unfolding link_of link_before
    chain_last zero e = h.empty_zero d 1 dl (omega arith) (ap (link_of z s d) (sym e) ∙ chain_ends)
    chain_last (suc r) e =
        let p = of_rank z s d r in
        let link = link_some z s d r (omega arith) in
        let w = chain_reached r (omega arith) in
        h.at_last d p dl w.0 w.1.owner_is (sym (link_next z s d r p link) ∙ ap (link_of z s d) (sym e) ∙ chain_ends) ∙ sym link

    pub sound_chain : Chain z s d
    sound_chain =
        record { linked = λ r _ l. (chain_reached r l).1; last_is = chain_last (chain_length z s d) refl; ends = chain_ends }

    pub sound_follows : follows z s d z.treelings 0 0 (get z s (first d)) ≡ true
    sound_follows = chain_follows z s d sound_chain

  -- ---- ranks
  -- A rank is a number of steps.
  sound_steps : (d t : ℕ) → d < z.domains → t < z.treelings → get z s (owner t) ≡ suc d → (w : Led z s d t) × (get z s (rank t) ≡ w.steps)
  sound_steps d t dl tl own =
      let w = led z s sound_followed h.previous_range d t tl own in
      (w, rank_steps z s d (sound_chain d dl) t w)

  pub rank_below : (d t : ℕ) → d < z.domains → t < z.treelings → get z s (owner t) ≡ suc d → get z s (rank t) < z.treelings
  rank_below d t dl tl own =
      let w = sound_steps d t dl tl own in
      omega (arith, led_below z s d t (sound_chain d dl) w.0, chain_most d dl)

  -- Two TreeLings of one owner and of one rank are one.
  pub one_rank : (d t u : ℕ) → d < z.domains → t < z.treelings → u < z.treelings → get z s (owner t) ≡ suc d → get z s (owner u) ≡ suc d
      → get z s (rank t) ≡ get z s (rank u) → t ≡ u
  one_rank d t u dl tl ul own own' same =
      let w = sound_steps d t dl tl own in
      let v = sound_steps d u dl ul own' in
      suc_inj (sym w.0.named ∙ ap (link_of z s d) (sym w.1 ∙ same ∙ v.1) ∙ v.0.named)

  -- The TreeLing whose next is 0 has the largest rank.
  pub last-rank : (d t u : ℕ) → d < z.domains → t < z.treelings → u < z.treelings → get z s (owner t) ≡ suc d → get z s (owner u) ≡ suc d
      → get z s (next t) ≡ 0 → get z s (rank u) ≤ get z s (rank t)
  last-rank d t u dl tl ul own own' e =
      let w = sound_steps d t dl tl own in
      let v = sound_steps d u dl ul own' in
      let c = sound_chain d dl in
      omega (arith, led_below z s d u c v.0, last_steps z s d c t w.0 e)
