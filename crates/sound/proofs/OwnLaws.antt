-- "Its head block is in a TreeLing of its own. Its NFL tags name its own leaf nodes. In rank order, ..", and the last owner while owned: the tests and the facts.
-- Assumes nothing.
use Prim.Native.Nat.{ℕ, suc, ◌-◌, ◌*◌, ◌/◌, ◌<◌}
use mathlib.Core.Path.{◌≡◌, sym, ap, ap₂, ◌∙◌}
use mathlib.Core.List.{List}
use mathlib.Core.Bool.{Bool, true, false, not, ◌&&◌, ◌||◌}
use native.Mathlib.Omega.{arith}
use borrow.Author.Tests.{eqb-true, eqb-false, eq-eqb, ne_eqb, leb-false, lt-leb, ltb-true, lt-ltb, not-false}
use lib.Dec.{eqb, ltb, leb}
use Rattle.layout.specs.declared.Sizes.{Sizes}
use Rattle.geometry.specs.Entries.{tag_of, availability_of}
use Rattle.layout.specs.Places.{get, entry, live, first, head_treeling, owner, former}
use Rattle.sound.specs.Sentences.{is_owned, is_ordinary, entry_in_range, former_is_owner, head_is_own, tag_is_own, block_in_order, head_in_order, fits_order, is_in_order}
use Rattle.sound.specs.Sound.{Sound, Ordinary}
use Rattle.layout.proofs.BoundedLaws.{and_both, and_of}
use Rattle.sound.proofs.TestLaws.{or_rest, or_no, or_of, one_more, owned, an_owner, ordinary_test, an_ordinary}

module _ (z : Sizes) (s : List ℕ) where
  -- What is tested of an owned TreeLing alone.
  of_owned : (d t : ℕ) (b : Bool) → (not (is_owned z s t) || b) ≡ true → get z s (owner t) ≡ suc d → b ≡ true
  of_owned d t b h e = or_rest (not (is_owned z s t)) b h (ap not (owned z s t d e))

  for_owned : (t : ℕ) (b : Bool) → ((d : ℕ) → get z s (owner t) ≡ suc d → b ≡ true) → (not (is_owned z s t) || b) ≡ true
  for_owned t b h =
      or_of (not (is_owned z s t)) b λ e.
      let d = an_owner z s t (not-false (is_owned z s t) e) in
      h d.0 d.1

  of_ordinary : (d t : ℕ) (b : Bool) → (not (is_ordinary z s t) || b) ≡ true → get z s (owner t) ≡ suc d → Ordinary z s d → b ≡ true
  of_ordinary d t b h e o = or_rest (not (is_ordinary z s t)) b h (ap not (ordinary_test z s t d e o))

  pub for_ordinary : (t : ℕ) (b : Bool) → ((d : ℕ) → get z s (owner t) ≡ suc d → Ordinary z s d → b ≡ true) → (not (is_ordinary z s t) || b) ≡ true
  for_ordinary t b h =
      or_of (not (is_ordinary z s t)) b λ e.
      let d = an_ordinary z s t (not-false (is_ordinary z s t) e) in
      h d.0 d.1 d.2

  -- ---- from the tests to the facts
  pub tag_ranged : (d t k : ℕ) → entry_in_range z s t k ≡ true → get z s (owner t) ≡ suc d → Ordinary z s d → tag_of (get z s (entry t k)) < 512 * z.treelings
  tag_ranged d t k h e o =
      ltb-true (tag_of (get z s (entry t k))) (512 * z.treelings) (of_ordinary d t (ltb (tag_of (get z s (entry t k))) (512 * z.treelings)) h e o)

  -- The last owner.
  pub last-owner : (d t : ℕ) → former_is_owner z s t ≡ true → get z s (owner t) ≡ suc d → get z s (former t) ≡ suc d
  last-owner d t h e =
      eqb-true (get z s (former t)) (get z s (owner t)) (of_owned d t (eqb (get z s (former t)) (get z s (owner t))) h e) ∙ e

  -- The head block.
  pub head_owner : (d u : ℕ) → head_is_own z s d ≡ true → Ordinary z s d → get z s (first d) ≡ suc u
      → (k : ℕ) × (get z s (head_treeling d) ≡ suc k) × (get z s (owner k) ≡ suc d)
  head_owner d u h o e =
      let some : eqb (get z s (first d)) 0 ≡ false = ne_eqb (get z s (first d)) 0 (omega arith) in
      let own = get z s (owner (get z s (head_treeling d) - 1)) in
      let both =
      and_both
      (ltb 0 (get z s (head_treeling d)))
      (eqb own (suc d))
      (or_rest (eqb (get z s (first d)) 0 || not (eqb (get z s (live d)) 1)) (ltb 0 (get z s (head_treeling d)) && eqb own (suc d)) h
      (ap₂ ◌||◌ some (ap not (eq-eqb (get z s (live d)) 1 o)))) in
      let k = one_more (get z s (head_treeling d)) (ltb-true 0 (get z s (head_treeling d)) both.0) in
      let named : k.0 ≡ get z s (head_treeling d) - 1 = omega arith in
      (k.0, k.1, ap (λ (t : ℕ). get z s (owner t)) named ∙ eqb-true own (suc d) both.1)

  -- The NFL tags.
  pub tag_owner : (d t k : ℕ) → tag_is_own z s t k ≡ true → get z s (owner t) ≡ suc d → Ordinary z s d
      → get z s (owner (tag_of (get z s (entry t k)) / 512)) ≡ suc d
  tag_owner d t k h e o =
      let own = get z s (owner (tag_of (get z s (entry t k)) / 512)) in
      eqb-true own (get z s (owner t)) (of_ordinary d t (eqb own (get z s (owner t))) h e o) ∙ e

  -- Before the head nothing is free, after it something is.
  order_facts : (here head a : ℕ) → fits_order here head a ≡ true → (here < head → a ≡ 0) × (head < here → 0 < a)
  order_facts here head a h =
      let both = and_both (leb head here || eqb a 0) (leb here head || ltb 0 a) h in (
        λ l. eqb-true a 0 (or_rest (leb head here) (eqb a 0) both.0 (lt-leb head here l)),
        λ l. ltb-true 0 a (or_rest (leb here head) (ltb 0 a) both.1 (lt-leb here head l)),
      )

  order_test : (here head a : ℕ) → (here < head → a ≡ 0) → (head < here → 0 < a) → fits_order here head a ≡ true
  order_test here head a before after =
      and_of
      (or_of (leb head here) (eqb a 0) (λ e. eq-eqb a 0 (before (leb-false head here e))))
      (or_of (leb here head) (ltb 0 a) (λ e. lt-ltb 0 a (after (leb-false here head e))))

  -- The entries in rank order.
  pub in_order_lem : (d t k : ℕ) → is_in_order z s t k ≡ true → get z s (owner t) ≡ suc d → Ordinary z s d
      → (block_in_order z s t (k / 8) < head_in_order z s d → availability_of (get z s (entry t k)) ≡ 0)
      × (head_in_order z s d < block_in_order z s t (k / 8) → 0 < availability_of (get z s (entry t k)))
  in_order_lem d t k h e o =
      let a = availability_of (get z s (entry t k)) in
      let named : d ≡ get z s (owner t) - 1 = omega arith in
      order_facts (block_in_order z s t (k / 8)) (head_in_order z s d) a
      (ap (λ (n : ℕ). fits_order (block_in_order z s t (k / 8)) (head_in_order z s n) a) named
      ∙ of_ordinary d t (fits_order (block_in_order z s t (k / 8)) (head_in_order z s (get z s (owner t) - 1)) a) h e o)

-- ---- from the facts to the tests
module _ (z : Sizes) (s : List ℕ) (h : Sound z s) where
  -- The last owner, the head block, the NFL tags, and the entries in rank order.
  pub sound_former : (t : ℕ) → t < z.treelings → former_is_owner z s t ≡ true
  sound_former t l =
      for_owned z s t (eqb (get z s (former t)) (get z s (owner t))) λ d e.
      eq-eqb (get z s (former t)) (get z s (owner t)) (h.former-owner d t l e ∙ sym e)

  pub sound_head : (d : ℕ) → d < z.domains → head_is_own z s d ≡ true
  sound_head d l =
      let own = get z s (owner (get z s (head_treeling d) - 1)) in
      or_of (eqb (get z s (first d)) 0 || not (eqb (get z s (live d)) 1)) (ltb 0 (get z s (head_treeling d)) && eqb own (suc d)) λ no.
      let e = or_no (eqb (get z s (first d)) 0) (not (eqb (get z s (live d)) 1)) no in
      let u = one_more (get z s (first d)) (omega (arith, eqb-false (get z s (first d)) 0 e.0)) in
      let w = h.head_own d u.0 l (eqb-true (get z s (live d)) 1 (not-false (eqb (get z s (live d)) 1) e.1)) u.1 in
      let named : get z s (head_treeling d) - 1 ≡ w.0 = omega arith in
      and_of
      (lt-ltb 0 (get z s (head_treeling d)) (omega arith))
      (eq-eqb own (suc d) (ap (λ (t : ℕ). get z s (owner t)) named ∙ w.2))

  pub sound_tag : (t k : ℕ) → t < z.treelings → k < 512 → tag_is_own z s t k ≡ true
  sound_tag t k l m =
      let own = get z s (owner (tag_of (get z s (entry t k)) / 512)) in
      for_ordinary z s t (eqb own (get z s (owner t))) λ d e o.
      eq-eqb own (get z s (owner t)) (h.tag_own d t k l m e o ∙ sym e)

  pub sound_order : (t k : ℕ) → t < z.treelings → k < 512 → is_in_order z s t k ≡ true
  sound_order t k l m =
      let a = availability_of (get z s (entry t k)) in
      let here = block_in_order z s t (k / 8) in
      for_ordinary z s t (fits_order here (head_in_order z s (get z s (owner t) - 1)) a) λ d e o.
      let named : get z s (owner t) - 1 ≡ d = omega arith in
      ap (λ (n : ℕ). fits_order here (head_in_order z s n) a) named
      ∙ order_test z s here (head_in_order z s d) a (h.before_head_lem d t k l m e o) (h.after_head_lem d t k l m e o)
