-- "Following next from first gives a live domain's TreeLings ..; no other TreeLing is owned": the sentence is what the code's tests decide.
-- Assumes nothing.
use Prim.Native.Nat.{ℕ, zero, suc, ◌-◌, ◌<◌, ◌≤◌, zero-le}
use mathlib.Core.Path.{◌≡◌, refl, sym, ap, ap₂, ◌∙◌}
use mathlib.Core.List.{List}
use mathlib.Core.Bool.{Bool, true, false, not, ◌&&◌, ◌||◌}
use mathlib.Core.Logic.{◌⊎◌, inl, inr, ⊎_elim}
use native.Mathlib.Nat.{lt_of_not-le, eq-or-lt_of_le, le_of_lt}
use native.Mathlib.Omega.{arith}
use borrow.Author.Tests.{eqb-true, eqb-false, eq-eqb, ltb-true, lt-ltb, not-false}
use lib.Dec.{eqb, ltb}
use Rattle.layout.specs.declared.Sizes.{Sizes}
use Rattle.layout.specs.Bounded.{all, count}
use Rattle.layout.specs.Places.{get, first, owner, previous, next, rank}
use Rattle.sound.specs.Sentences.{is_owned, link_of, of_rank, chain_length, link_before, is_chain, is_one_of, is_listed, chained}
use Rattle.sound.specs.CodeChained.{follows, is_first, is_next_of, is_followed}
use Rattle.sound.specs.Sound.{Follows}
use Rattle.layout.proofs.BoundedLaws.{and_both, and_of, all_at, all_of, count_some, count_found}
use Rattle.sound.proofs.TestLaws.{and_left, and_right, or_rest, or_no, or_of, one_more, owned, an_owner}
use Rattle.sound.proofs.RangeLaws.{TreelingRanges}
use Rattle.sound.proofs.LinkLaws.{Chain, chain_facts, chain_test, follows_chain, chain_follows, named_of, link_some, link_next, link_linked}

module _ (z : Sizes) (s : List ℕ) where
  -- ---- the TreeLing before an owned one
  -- TreeLing t of domain d is its first, or follows another.
  abbrev pub Followed : ℕ → ℕ → Type 0
  Followed d t = (get z s (first d) ≡ suc t) ⊎ ((p : ℕ) × (get z s (previous t) ≡ suc p) × Follows z s d t p)

  -- What is tested of a TreeLing followed.
  next_facts : (d t p : ℕ) → get z s (owner t) ≡ suc d → is_next_of z s t p ≡ true → Follows z s d t p
  next_facts d t p own h =
      record {
        owner_is = eqb-true (get z s (owner p)) (get z s (owner t)) (search (and_left, and_right)) ∙ own;
        next_is = eqb-true (get z s (next p)) (suc t) (search (and_left, and_right));
        rank_is = eqb-true (suc (get z s (rank p))) (get z s (rank t)) (search (and_left, and_right));
      }

  next_test : (d t p : ℕ) → get z s (owner t) ≡ suc d → Follows z s d t p → is_next_of z s t p ≡ true
  next_test d t p own h =
      and_of
      (and_of
      (eq-eqb (get z s (owner p)) (get z s (owner t)) (h.owner_is ∙ sym own))
      (eq-eqb (get z s (next p)) (suc t) h.next_is))
      (eq-eqb (suc (get z s (rank p))) (get z s (rank t)) h.rank_is)

  -- The code's test of an owned TreeLing, as facts, and back.
  pub follower : (d t : ℕ) → is_followed z s t ≡ true → get z s (owner t) ≡ suc d → Followed d t
  follower d t h e = go (is_first z s t) refl
    where
      own : get z s (owner t) - 1 ≡ d
      own = omega arith

      go : (b : Bool) → is_first z s t ≡ b → Followed d t
      go true is = inl (ap (λ (k : ℕ). get z s (first k)) (sym own) ∙ eqb-true (get z s (first (get z s (owner t) - 1))) (suc t) is)
      go false is =
          let rest =
          or_rest
          (not (is_owned z s t) || is_first z s t)
          (ltb 0 (get z s (previous t)) && is_next_of z s t (get z s (previous t) - 1))
          h
          (ap₂ ◌||◌ (ap not (owned z s t d e)) is) in
          let both = and_both (ltb 0 (get z s (previous t))) (is_next_of z s t (get z s (previous t) - 1)) rest in
          let p = one_more (get z s (previous t)) (ltb-true 0 (get z s (previous t)) both.0) in
          let named : get z s (previous t) - 1 ≡ p.0 = omega arith in
          inr (p.0, p.1, next_facts d t p.0 e (ap (λ (k : ℕ). is_next_of z s t k) (sym named) ∙ both.1))

  later_followed : (d t : ℕ) → get z s (owner t) ≡ suc d → is_first z s t ≡ false → Followed d t
      → (ltb 0 (get z s (previous t)) && is_next_of z s t (get z s (previous t) - 1)) ≡ true
  later_followed d t own later =
      ⊎_elim
      (λ e.
      let named : get z s (owner t) - 1 ≡ d = omega arith in
      absurd (eqb-false (get z s (first (get z s (owner t) - 1))) (suc t) later (ap (λ (k : ℕ). get z s (first k)) named ∙ e)))
      (λ w.
      let named : get z s (previous t) - 1 ≡ w.0 = omega arith in
      and_of
      (lt-ltb 0 (get z s (previous t)) (omega arith))
      (ap (λ (k : ℕ). is_next_of z s t k) named ∙ next_test d t w.0 own w.2))

  pub is_followed_lem : (t : ℕ) → ((d : ℕ) → get z s (owner t) ≡ suc d → Followed d t) → is_followed z s t ≡ true
  is_followed_lem t followed =
      or_of (not (is_owned z s t) || is_first z s t) (ltb 0 (get z s (previous t)) && is_next_of z s t (get z s (previous t) - 1)) λ no.
      let later = or_no (not (is_owned z s t)) (is_first z s t) no in
      let d = an_owner z s t (not-false (is_owned z s t) later.0) in
      later_followed d.0 t d.1 later.1 (followed d.0 d.1)

  -- ---- an owned TreeLing
  -- Following next from first leads to TreeLing t, over links that are not 0.
  pub record Led (d t : ℕ) : Type 0 where
    pub steps : ℕ
    pub named : link_of z s d steps ≡ suc t
    pub some : (j : ℕ) → j ≤ steps → 0 < link_of z s d j

  led_first : (d t : ℕ) → get z s (first d) ≡ suc t → Led d t
  unfolding link_of
  led_first d t e =
      record {
        steps = 0;
        named = e;
        some = λ j l. let none : j ≡ 0 = omega arith in omega (arith, ap (link_of z s d) none);
      }

  led_next : (d p t : ℕ) → Led d p → get z s (next p) ≡ suc t → Led d t
  led_next d p t w e =
      let link : link_of z s d (suc w.steps) ≡ suc t = link_next z s d w.steps p w.named ∙ e in
      record {
        steps = suc w.steps;
        named = link;
        some = λ j l. ⊎_elim (λ same. omega (arith, ap (link_of z s d) same)) (λ less. w.some j (omega arith)) (eq-or-lt_of_le l);
      }

  -- Where every owned TreeLing is followed, it leads to each, by its rank.
  module _ (others : (t : ℕ) → t < z.treelings → is_followed z s t ≡ true)
      (ranges : (t : ℕ) → t < z.treelings → get z s (previous t) ≤ z.treelings) where
    led_at : (r d t : ℕ) → t < z.treelings → get z s (owner t) ≡ suc d → get z s (rank t) ≡ r → Led d t
    led_at zero d t tl own is =
        ⊎_elim (led_first d t) (λ w. let f = w.2 in absurd (omega arith)) (follower d t (others t tl) own)
    led_at (suc r) d t tl own is =
        ⊎_elim (led_first d t)
        (λ w.
        let f = w.2 in
        led_next d w.0 t (led_at r d w.0 (omega (arith, ranges t tl)) f.owner_is (omega arith)) f.next_is)
        (follower d t (others t tl) own)

    pub led : (d t : ℕ) → t < z.treelings → get z s (owner t) ≡ suc d → Led d t
    led d t tl own = led_at (get z s (rank t)) d t tl own refl

  -- It leads to the TreeLings of the chain alone,
  pub led_below : (d t : ℕ) → Chain z s d → (w : Led d t) → w.steps < chain_length z s d
  led_below d t c w = lt_of_not-le λ m. omega (arith, c.ends, w.some (chain_length z s d) m)

  -- and each of these is the first, or follows the one before it.
  led_followed : (d t : ℕ) → Chain z s d → Led d t → Followed d t
  unfolding link_of link_before
  led_followed d t c w = go w.steps (led_below d t c w) w.named
    where
      go : (r : ℕ) → r < chain_length z s d → link_of z s d r ≡ suc t → Followed d t
      go zero l e = inl e
      go (suc q) l e =
          let p = of_rank z s d q in
          let k = link_linked z s d c (suc q) t (le_of_lt l) e in
          let link = link_some z s d q (omega arith) in
          let before = c.linked q zero-le (omega arith) in
          inr (p, k.previous_is ∙ link, record { owner_is = before.owner_is; next_is = sym (link_next z s d q p link) ∙ e; rank_is = omega arith })

  -- The sentence on an owned TreeLing, as facts, and back.
  listed_led : (d t : ℕ) → is_listed z s t ≡ true → get z s (owner t) ≡ suc d → Led d t
  listed_led d t h own =
      let is : get z s (owner t) - 1 ≡ d = omega arith in
      let one = or_rest (not (is_owned z s t)) (is_one_of z s (get z s (owner t) - 1) t) h (ap not (owned z s t d own)) in
      let some = ltb-true 0 (count (chain_length z s d) (λ r. eqb (of_rank z s d r) t)) (ap (λ (e : ℕ). is_one_of z s e t) (sym is) ∙ one) in
      let r = count_found (chain_length z s d) (λ r. eqb (of_rank z s d r) t) some in
      record {
        steps = r.0;
        named = link_some z s d r.0 r.1 ∙ ap suc (eqb-true (of_rank z s d r.0) t r.2);
        some = λ j l. omega (arith, link_some z s d j (omega arith));
      }

  led_listed : (t : ℕ) → ((d : ℕ) → get z s (owner t) ≡ suc d → Chain z s d × Led d t) → is_listed z s t ≡ true
  led_listed t one =
      or_of (not (is_owned z s t)) (is_one_of z s (get z s (owner t) - 1) t) λ is.
      let o = an_owner z s t (not-false (is_owned z s t) is) in
      let d = o.0 in
      let w = one d o.1 in
      let k = w.1.steps in
      let named : d ≡ get z s (owner t) - 1 = omega arith in
      let found = count_some (chain_length z s d) (λ r. eqb (of_rank z s d r) t) k (led_below d t w.0 w.1) (eq-eqb (of_rank z s d k) t (named_of z s d k t w.1.named)) in
      ap (λ (e : ℕ). is_one_of z s e t) (sym named) ∙ lt-ltb 0 _ found

  -- ---- the law
  -- With every word in range, the sentence on chains holds where the code's tests hold of all domains and of all TreeLings, and only there.
  module _ (ranges : (t : ℕ) → t < z.treelings → TreelingRanges z s t) where
    pub follows-chained : ((d : ℕ) → d < z.domains → follows z s d z.treelings 0 0 (get z s (first d)) ≡ true)
        → ((t : ℕ) → t < z.treelings → is_followed z s t ≡ true)
        → chained z s ≡ true
    unfolding chained
    follows-chained firsts others =
        and_of
        (all_of z.domains (is_chain z s) (λ d l. chain_test z s d (follows_chain z s d (firsts d l))))
        (all_of z.treelings (is_listed z s) (λ t l.
        led_listed t (λ d own. (
          follows_chain z s d (firsts d (omega (arith, (ranges t l).owner_range))),
          led others (λ u m. (ranges u m).previous_range) d t l own,
        ))))

    pub chained-follows : chained z s ≡ true
        → ((d : ℕ) → d < z.domains → follows z s d z.treelings 0 0 (get z s (first d)) ≡ true)
        × ((t : ℕ) → t < z.treelings → is_followed z s t ≡ true)
    unfolding chained
    chained-follows h =
        let both = and_both (all z.domains (is_chain z s)) (all z.treelings (is_listed z s)) h in
        let chain : (d : ℕ) → d < z.domains → Chain z s d = λ d l. chain_facts z s d (all_at z.domains (is_chain z s) both.0 d l) in
        let listed : (t : ℕ) → t < z.treelings → is_listed z s t ≡ true = all_at z.treelings (is_listed z s) both.1 in (
          λ d l. chain_follows z s d (chain d l),
          λ t l. is_followed_lem t (λ d own. led_followed d t (chain d (omega (arith, (ranges t l).owner_range))) (listed_led d t (listed t l) own)),
        )
