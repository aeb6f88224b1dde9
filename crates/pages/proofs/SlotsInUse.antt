-- The pages of a domain beside the slots of its TreeLings: as many precisely where every slot is in use.
-- Assumes nothing.
use Prim.Native.Nat.{ℕ, suc, ◌+◌, ◌*◌, ◌/◌, ◌%◌, ◌<◌, ◌≤◌}
use mathlib.Core.Path.{◌≡◌, refl, ap, ◌∙◌}
use mathlib.Core.List.{List}
use mathlib.Core.Bool.{Bool, true, false, cond}
use native.Mathlib.Nat.{add-zero}
use native.Mathlib.Omega.{arith}
use borrow.Author.Tests.{eqb-true, eq-eqb}
use lib.ListN.{get_or}
use Rattle.layout.specs.declared.Sizes.{Sizes}
use Rattle.layout.specs.Places.{address, get, owner, pages_mapped}
use Rattle.layout.specs.Bounded.{sum}
use Rattle.layout.proofs.BoundedLaws.{sum_cong, sum_const, sum_parts, sum_zero, sum_term}
use Rattle.sound.specs.Sentences.{times_free, times_named}
use Rattle.sound.specs.Sound.{Sound}
use Rattle.sound.proofs.CountingLaws.{own, domain_slots, free_slots, mapped_slots, sound_placed}
use Rattle.sound.proofs.RecordLaws.{sound_ordinary}
use Rattle.world.specs.World.{owned}
use Rattle.world.specs.Full.{AllInUse}
use Rattle.placing.proofs.NoPlace.{once}
use Rattle.world.proofs.WorldLaws.{owned_most}

-- A number that is 0 in both cases.
cond_zero : (b : Bool) → cond {A = ℕ} b 0 0 ≡ 0
cond_zero true = refl
cond_zero false = refl

module _ (z : Sizes) (s : List ℕ) (h : Sound z s) (d : ℕ) (l : d < z.domains) where
  -- A domain has at most 4,096 pages for each of its TreeLings.
  pub pages_most : get z s (pages_mapped d) ≤ 4096 * owned z s d
  unfolding owned
  pages_most = omega (arith, h.pages_true_lem d l, domain_slots z s d (sound_placed z s h) (sound_ordinary z s h d))

  -- Where every slot is in use, it has as many,
  pub full_pages : AllInUse z s d → get z s (pages_mapped d) ≡ 4096 * owned z s d
  unfolding owned
  full_pages full =
      h.pages_true_lem d l
      ∙ mapped_slots z s d (sound_placed z s h)
      ∙ omega (
        arith,
        sum_parts z.treelings 4096 (own z s d) (λ t. sum 4096 (λ i. times_named z s (4096 * t + i))) (λ _. 0) whole,
        sum_cong z.treelings (λ t. cond {A = ℕ} (own z s d t) 0 0) (λ _. 0) (λ t _. cond_zero (own z s d t)) ∙ sum_zero z.treelings,
      )
    where
      whole : (t : ℕ) → t < z.treelings → own z s d t ≡ true → sum 4096 (λ i. times_named z s (4096 * t + i)) + 0 ≡ 4096
      whole t below is =
          add-zero (sum 4096 (λ i. times_named z s (4096 * t + i)))
          ∙ sum_cong 4096 (λ i. times_named z s (4096 * t + i)) (λ _. 1) (λ i less.
          let slot : (4096 * t + i) / 4096 ≡ t = omega arith in
          full.in_use (4096 * t + i) (omega arith) (ap (λ (u : ℕ). get z s (owner u)) slot ∙ eqb-true (get z s (owner t)) (suc d) is))
          ∙ sum_const 4096 1

  -- and where it has as many, no slot of its TreeLings is free.
  none_free : get z s (pages_mapped d) ≡ 4096 * owned z s d → (y : ℕ) → y < 4096 * z.treelings → get z s (owner (y / 4096)) ≡ suc d → times_free z s y ≡ 0
  unfolding owned
  none_free as_many y below mine =
      let t = y / 4096 in
      let is : own z s d t ≡ true = eq-eqb (get z s (owner t)) (suc d) mine in
      let slot : 4096 * t + y % 4096 ≡ y = omega arith in
      omega (
        arith,
        h.pages_true_lem d l,
        domain_slots z s d (sound_placed z s h) (sound_ordinary z s h d),
        free_slots z s d (sound_placed z s h) (sound_ordinary z s h d),
        rw is at (sum_term z.treelings (λ u. cond (own z s d u) (sum 4096 (λ i. times_free z s (4096 * u + i))) 0) t (omega arith)),
        sum_term 4096 (λ i. times_free z s (4096 * t + i)) (y % 4096) (omega arith),
        ap (times_free z s) slot,
      )

  pub pages_full : get z s (pages_mapped d) ≡ 4096 * owned z s d → AllInUse z s d
  pages_full as_many =
      record { in_use = λ y below mine. omega (arith, once z s d h l (sound_ordinary z s h d (y / 4096) (omega arith) mine) y below mine, none_free as_many y below mine) }

  -- The same, with the pages read at i and the TreeLings counted: both are few.
  pub pages_read : (i o : ℕ) → i ≡ address z (pages_mapped d) → o ≡ owned z s d → (get_or s i 0 ≤ 4096 * o) × (o ≤ 4096)
  pages_read i o at is =
      let read = ap (λ (k : ℕ). get_or s k 0) at in
      (omega (arith, pages_most), omega (arith, owned_most z s h d l, h.laid_out.laid.sizes.max_treelings))
