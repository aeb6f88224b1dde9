-- Laws of the code that prefers a former TreeLing: the search goes on from the first unowned one, upward and around to the hand.
-- Assumes nothing.
use Prim.Native.Nat.{ℕ, ◌+◌, ◌-◌, ◌<◌, ◌≤◌, zero-le}
use mathlib.Core.Path.{◌≡◌, refl, sym, ap, subst, ◌∙◌}
use mathlib.Core.List.{List}
use mathlib.Core.Bool.{Bool, true, false, cond, false≢true}
use mathlib.Core.Logic.{◌⊎◌, inl, inr, ⊎_elim}
use native.Mathlib.Nat.{mod-lt, mod-eq_of_lt}
use native.Mathlib.Omega.{arith}
use borrow.Author.Tests.{ltb-true, ltb-false, lt-ltb, le-ltb}
use lib.Dec.{eqb, ltb}
use Rattle.layout.specs.declared.Sizes.{Sizes}
use Rattle.layout.specs.Places.{get, hand, owner}
use Rattle.geometry.proofs.FirstLaws.{first_most, first_holds, first-before}
use Rattle.sound.specs.Sound.{Sound}
use Rattle.sound.proofs.ScanLaws.{and_left}
use Rattle.taking.specs.Taking.{pooled, pool_steps, unowned, was_held, former_steps, to_take}
use Rattle.taking.specs.CodePool.{pool}
use Rattle.std.specs.Prelude.{Option, Some, None}
use Rattle.std.specs.Option.{unwrap_or}
use Rattle.world.specs.Find.{find_from}
use Rattle.world.proofs.FindLaws.{NoneIn, Found, first_is, found_told}
use Rattle.taking.proofs.TakeCodeLaws.{some_unowned, upward, around}

-- ---- The search of the pool
module _ (z : Sizes) (s : List ℕ) (h : Sound z s) (d : ℕ) where
  abbrev at_hand : ℕ
  at_hand = get z s hand

  abbrev held : ℕ → Bool
  held i = was_held z s d (pooled z s i)

  -- Among the first n steps from the hand, none leads to one that domain d held last.
  abbrev NoneWithin : ℕ → Type 0
  NoneWithin n = (i : ℕ) → i < n → held i ≡ false

  -- A search of numbers is one of steps.
  none_upward : (a b : ℕ) → at_hand ≤ a → b ≤ z.treelings → NoneWithin (a - at_hand) → NoneIn (was_held z s d) a b → NoneWithin (b - at_hand)
  none_upward a b low high before none i l = by_step (ltb i (a - at_hand)) refl
    where
      by_step : (x : Bool) → ltb i (a - at_hand) ≡ x → held i ≡ false
      by_step true e = before i (ltb-true i (a - at_hand) e)
      by_step false e =
          let past = ltb-false i (a - at_hand) e in
          ap (was_held z s d) (upward z s h i (at_hand + i) refl (omega arith)) ∙ none (at_hand + i) (omega arith) (omega arith)

  none_around : (a b : ℕ) → b ≤ at_hand → NoneWithin (a + z.treelings - at_hand) → NoneIn (was_held z s d) a b → NoneWithin (b + z.treelings - at_hand)
  none_around a b high before none i l = by_step (ltb i (a + z.treelings - at_hand)) refl
    where
      by_step : (x : Bool) → ltb i (a + z.treelings - at_hand) ≡ x → held i ≡ false
      by_step true e = before i (ltb-true i (a + z.treelings - at_hand) e)
      by_step false e =
          let past = ltb-false i (a + z.treelings - at_hand) e in
          let t = at_hand + i - z.treelings in
          let most = h.laid_out.hand_range in
          ap (was_held z s d) (around z s h i t (omega arith) (omega arith)) ∙ none t (omega arith) (omega arith)

  -- The one that some steps lead to is the one to take, where it is the first.
  sought : (i t : ℕ) → i < z.treelings → pooled z s i ≡ t → was_held z s d t ≡ true → NoneWithin i → t ≡ to_take z s d
  sought i t l is holds none =
      let first : former_steps z s d ≡ i = first_is held 0 z.treelings i zero-le (omega arith) (ap (was_held z s d) is ∙ holds) (λ k _. none k) in
      sym is
      ∙ ap (pooled z s) (sym first)
      ∙ sym (ap (λ (b : Bool). cond b (pooled z s (former_steps z s d)) (unowned z s)) (lt-ltb (former_steps z s d) z.treelings (omega arith)))

  sought_upward : (t : ℕ) → at_hand ≤ t → t < z.treelings → was_held z s d t ≡ true → NoneWithin (t - at_hand) → t ≡ to_take z s d
  sought_upward t low high = sought (t - at_hand) t (omega arith) (upward z s h (t - at_hand) t (omega arith) high)

  sought_around : (t : ℕ) → t < at_hand → was_held z s d t ≡ true → NoneWithin (t + z.treelings - at_hand) → t ≡ to_take z s d
  sought_around t l =
      let most = h.laid_out.hand_range in
      sought (t + z.treelings - at_hand) t (omega arith) (around z s h (t + z.treelings - at_hand) t (omega arith) (omega arith))

  module _ (u : ℕ) (p : pool z s ≡ Some u) where
    -- The first unowned one.
    low : pool_steps z s < z.treelings
    low = ltb-true (pool_steps z s) z.treelings (some_unowned z s u p).0

    is_first_lem : pooled z s (pool_steps z s) ≡ u
    is_first_lem = (some_unowned z s u p).1

    pub first_below : u < z.treelings
    first_below = subst (λ (v : ℕ). v < z.treelings) is_first_lem (mod-lt (at_hand + pool_steps z s) (omega (arith, low)))

    -- Those before it are owned, and no domain seeks them.
    before-first : NoneWithin (pool_steps z s)
    before-first i l =
        and_left _ (first-before (λ j. eqb (get z s (owner (pooled z s j))) 0) 0 z.treelings i zero-le l)

    steps_to_first : ((at_hand ≤ u) × (pool_steps z s ≡ u - at_hand)) ⊎ ((u < at_hand) × (pool_steps z s ≡ u + z.treelings - at_hand))
    steps_to_first = by_side (ltb (at_hand + pool_steps z s) z.treelings) refl
      where
        by_side : (b : Bool) → ltb (at_hand + pool_steps z s) z.treelings ≡ b → ((at_hand ≤ u) × (pool_steps z s ≡ u - at_hand)) ⊎ ((u < at_hand) × (pool_steps z s ≡ u + z.treelings - at_hand))
        by_side true e =
            let is : u ≡ at_hand + pool_steps z s = sym is_first_lem ∙ mod-eq_of_lt (ltb-true (at_hand + pool_steps z s) z.treelings e) in
            inl (omega arith, omega arith)
        by_side false e =
            let past = ltb-false (at_hand + pool_steps z s) z.treelings e in
            let t = at_hand + pool_steps z s - z.treelings in
            let is : u ≡ t = sym is_first_lem ∙ around z s h (pool_steps z s) t (omega arith) (omega (arith, low, h.laid_out.hand_range)) in
            inr (omega (arith, low), omega (arith, low))

    begins_upward : at_hand ≤ u → NoneWithin (u - at_hand)
    begins_upward l =
        ⊎_elim (λ w. subst NoneWithin w.1 before-first) (λ w. absurd (omega (arith, w.0))) steps_to_first

    begins_around : u < at_hand → NoneWithin (u + z.treelings - at_hand)
    begins_around l =
        ⊎_elim (λ w. absurd (omega (arith, w.0))) (λ w. subst NoneWithin w.1 before-first) steps_to_first

    -- Domain d held none of them last, and the first unowned one is taken.
    sought_none : NoneWithin (at_hand + z.treelings - at_hand) → u ≡ to_take z s d
    sought_none none =
        let most = first_most held 0 z.treelings in
        let not_less : former_steps z s d < z.treelings → ⊥ = λ l.
        false≢true (sym (none (former_steps z s d) (omega arith)) ∙ first_holds held 0 z.treelings (omega arith)) in
        sym is_first_lem
        ∙ sym (ap (λ (b : Bool). cond b (pooled z s (former_steps z s d)) (unowned z s)) (le-ltb (former_steps z s d) z.treelings (omega arith)))

    -- ---- What the searches of numbers say
    -- The numbers from v to the hand are left.
    last_told : (v : ℕ) → v ≤ at_hand → NoneWithin (v + z.treelings - at_hand) → (r : Option ℕ) → r ≡ find_from (was_held z s d) v (at_hand - v) → unwrap_or r u ≡ to_take z s d
    last_told v low before r is = by_case r (found_told (was_held z s d) v (at_hand - v) r is)
      where
        by_case : (r : Option ℕ) → Found (was_held z s d) v (at_hand - v) r → unwrap_or r u ≡ to_take z s d
        by_case (Some t) w = sought_around t (omega (arith, w.1)) w.2 (none_around v t (omega (arith, w.1)) before w.3)
        by_case None none = sought_none (none_around v at_hand (omega arith) before (λ x from less. none x from (omega arith)))

    -- From the first unowned one on, where the hand lies above it;
    pub told_below : u < at_hand → (r : Option ℕ) → r ≡ find_from (was_held z s d) u (at_hand - u) → unwrap_or r u ≡ to_take z s d
    told_below l = last_told u (omega arith) (begins_around l)

    -- else upward from there, and then from 0.
    pub told_around : at_hand ≤ u → (r q : Option ℕ) → r ≡ find_from (was_held z s d) u (z.treelings - u) → (r ≡ None → q ≡ find_from (was_held z s d) 0 (at_hand - 0)) → ((t : ℕ) → r ≡ Some t → q ≡ Some t) → unwrap_or q u ≡ to_take z s d
    told_around l r q is = by_case r (found_told (was_held z s d) u (z.treelings - u) r is)
      where
        by_case : (r : Option ℕ) → Found (was_held z s d) u (z.treelings - u) r → (r ≡ None → q ≡ find_from (was_held z s d) 0 (at_hand - 0)) → ((t : ℕ) → r ≡ Some t → q ≡ Some t) → unwrap_or q u ≡ to_take z s d
        by_case (Some t) w none some =
            ap (λ (o : Option ℕ). unwrap_or o u) (some t refl)
            ∙ sought_upward t (omega (arith, w.0)) (omega (arith, first_below, w.1)) w.2 (none_upward u t l (omega (arith, first_below, w.1)) (begins_upward l) w.3)
        by_case None w none some =
            last_told 0 zero-le
            (subst NoneWithin (omega arith) (none_upward u z.treelings l (omega arith) (begins_upward l) (λ v low less. w v low (omega (arith, first_below)))))
            q (none refl)
