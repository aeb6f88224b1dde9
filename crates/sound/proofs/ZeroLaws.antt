-- "Records of dead domains, and the record and NFL words of unowned TreeLings, are zero", "A domain without TreeLings has zeros after live": the tests and the facts.
-- Assumes nothing.
use Prim.Native.Nat.{ℕ, zero, suc, ◌<◌}
use mathlib.Core.Path.{◌≡◌, refl}
use mathlib.Core.List.{List}
use mathlib.Core.Bool.{Bool, true, false, ◌&&◌}
use native.Mathlib.Nat.{le_of_eq}
use native.Mathlib.Omega.{arith}
use borrow.Author.Tests.{eqb-true, eqb-false, eq-eqb, ne_eqb, ltb-false, le-ltb}
use lib.Dec.{eqb, ltb}
use lib.ListN.{get_or, replicate}
use Rattle.layout.specs.declared.Sizes.{Sizes}
use Rattle.layout.specs.Places.{get, domain, treeling, entry, live, first, owner}
use Rattle.layout.specs.Bounded.{all}
use Rattle.sound.specs.Sentences.{is_live, is_owned, dead_is_zero, unowned_is_zero, empty_is_zero}
use Rattle.sound.specs.Sound.{Sound, Live}
use Rattle.layout.proofs.BoundedLaws.{all_at, all_of, and_both, and_of}
use Rattle.sound.proofs.TestLaws.{or_rest, or_of, unowned, no_owner}

-- Zeros, read anywhere.
pub zero_at : (n i : ℕ) → ◌≡◌ {A = ℕ} (get_or (replicate n 0) i 0) 0
zero_at zero i = refl
zero_at (suc n) zero = refl
zero_at (suc n) (suc i) = zero_at n i

-- n words are zero, by the test.
pub zeros_at : (n : ℕ) (f : ℕ → ℕ) → all n (λ j. eqb (f j) 0) ≡ true → (j : ℕ) → j < n → f j ≡ 0
zeros_at n f h j l = eqb-true (f j) 0 (all_at n (λ i. eqb (f i) 0) h j l)

pub zeros_of : (n : ℕ) (f : ℕ → ℕ) → ((j : ℕ) → j < n → f j ≡ 0) → all n (λ j. eqb (f j) 0) ≡ true
zeros_of n f h = all_of n (λ i. eqb (f i) 0) (λ j l. eq-eqb (f j) 0 (h j l))

module _ (z : Sizes) (s : List ℕ) where
  -- ---- from the tests to the facts
  -- The record of a dead domain.
  pub dead_zeros : (d j : ℕ) → dead_is_zero z s d ≡ true → j < 6 → get z s (live d) ≡ 0 → get z s (domain d j) ≡ 0
  dead_zeros d j h l e =
      let dead : is_live z s d ≡ false = ne_eqb (get z s (live d)) 1 (omega arith) in
      zeros_at 6 (λ i. get z s (domain d i)) (or_rest (is_live z s d) (all 6 (λ i. eqb (get z s (domain d i)) 0)) h dead) j l

  -- So a domain with TreeLings is live.
  pub first_live : (d : ℕ) → dead_is_zero z s d ≡ true → (get z s (first d) ≡ 0 → ⊥) → Live z s d
  first_live d h some = go (is_live z s d) refl
    where
      go : (b : Bool) → is_live z s d ≡ b → Live z s d
      go true e = eqb-true (get z s (live d)) 1 e
      go false e =
          absurd (some (zeros_at 6 (λ i. get z s (domain d i)) (or_rest (is_live z s d) (all 6 (λ i. eqb (get z s (domain d i)) 0)) h e) 1 (omega arith)))

  -- The record and the NFL words of an unowned TreeLing.
  pub unowned_both : (t : ℕ) → unowned_is_zero z s t ≡ true → get z s (owner t) ≡ 0
      → (all 4 (λ j. eqb (get z s (treeling t j)) 0) ≡ true) × (all 512 (λ k. eqb (get z s (entry t k)) 0) ≡ true)
  unowned_both t h e =
      let words = all 4 (λ j. eqb (get z s (treeling t j)) 0) in
      let entries = all 512 (λ k. eqb (get z s (entry t k)) 0) in
      and_both words entries (or_rest (is_owned z s t) (words && entries) h (unowned z s t e))

  -- The record of a domain without TreeLings.
  pub empty_zeros : (d j : ℕ) → empty_is_zero z s d ≡ true → j < 5 → get z s (first d) ≡ 0 → get z s (domain d (suc j)) ≡ 0
  empty_zeros d j h l e =
      let none = le-ltb 0 (get z s (first d)) (le_of_eq e) in
      zeros_at 5 (λ i. get z s (domain d (suc i)))
      (or_rest (ltb 0 (get z s (first d))) (all 5 (λ i. eqb (get z s (domain d (suc i))) 0)) h none)
      j l

-- ---- from the facts to the tests
module _ (z : Sizes) (s : List ℕ) (h : Sound z s) where
  -- A dead domain.
  pub sound_dead : (d : ℕ) → d < z.domains → dead_is_zero z s d ≡ true
  sound_dead d l =
      or_of (is_live z s d) (all 6 (λ j. eqb (get z s (domain d j)) 0)) λ dead.
      let e : get z s (live d) ≡ 0 = omega (arith, eqb-false (get z s (live d)) 1 dead, h.live_range d l) in
      zeros_of 6 (λ j. get z s (domain d j)) (λ j m. h.dead_zero d j l m e)

  -- An unowned TreeLing: its record, its NFL words, and both.
  pub sound_record : (t : ℕ) → t < z.treelings → is_owned z s t ≡ false → all 4 (λ j. eqb (get z s (treeling t j)) 0) ≡ true
  sound_record t l e = zeros_of 4 (λ j. get z s (treeling t j)) (λ j m. h.unowned_zero t j l m (no_owner z s t e))

  pub sound_entries_zero : (t : ℕ) → t < z.treelings → is_owned z s t ≡ false → all 512 (λ k. eqb (get z s (entry t k)) 0) ≡ true
  sound_entries_zero t l e = zeros_of 512 (λ k. get z s (entry t k)) (λ k m. h.unowned_entry t k l m (no_owner z s t e))

  pub sound_unowned : (t : ℕ) → t < z.treelings → unowned_is_zero z s t ≡ true
  sound_unowned t l =
      let words = all 4 (λ j. eqb (get z s (treeling t j)) 0) in
      let entries = all 512 (λ k. eqb (get z s (entry t k)) 0) in
      or_of (is_owned z s t) (words && entries) (λ e. and_of (sound_record t l e) (sound_entries_zero t l e))

  -- A domain without TreeLings.
  pub sound_empty : (d : ℕ) → d < z.domains → empty_is_zero z s d ≡ true
  sound_empty d l =
      or_of (ltb 0 (get z s (first d))) (all 5 (λ j. eqb (get z s (domain d (suc j))) 0)) λ none.
      let e : get z s (first d) ≡ 0 = omega (arith, ltb-false 0 (get z s (first d)) none) in
      zeros_of 5 (λ j. get z s (domain d (suc j))) (λ j m. h.empty_zero d j l m e)
