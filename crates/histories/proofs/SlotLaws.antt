-- Slots and pages of a sound state agree, in both directions, and a TreeLing has one owner.
-- Assumes nothing.
use Prim.Native.Nat.{ℕ, zero, suc, ◌+◌, ◌*◌, ◌/◌, ◌%◌, ◌<◌}
use mathlib.Core.Path.{◌≡◌, refl, sym, ap, ap₂, ◌∙◌}
use mathlib.Core.List.{List}
use mathlib.Core.Bool.{Bool, true, false, cond, ◌&&◌, false≢true}
use mathlib.Core.Logic.{◌⊎◌, ⊎_elim, inl, inr}
use native.Mathlib.Omega.{arith}
use borrow.Author.Tests.{eqb-true, eq-eqb}
use lib.Dec.{eqb}
use Rattle.layout.specs.declared.Sizes.{Sizes}
use Rattle.leaf_map.specs.LeafIds.{slot_number, treeling_of}
use Rattle.leaf_map.proofs.LeafIdLaws.{Names, names}
use Rattle.sound.proofs.MappedLaws.{page_below, page_id, page_slot, page_owned}
use Rattle.layout.specs.Places.{get, entry, leaf, owner, rank}
use Rattle.layout.specs.Bounded.{count}
use Rattle.sound.specs.Sentences.{is_ordinary, marks_free, times_free, times_named}
use Rattle.sound.specs.Sound.{Sound, Live, Ordinary}
use Rattle.sound.proofs.TestLaws.{live_ordinary, ordinary_test}
use Rattle.sound.proofs.RecordLaws.{sound_live}
use Rattle.histories.specs.Slots.{IsFree, InUse, Agreeing}
use Rattle.world.proofs.WorldLaws.{of_rank_lem, of_rank_back, rank_below_owned}
use Rattle.world.proofs.FrameLaws.{either}
use Rattle.world.proofs.ChangeLaws.{count_zero}
use Rattle.taking.proofs.TakenSlots.{entry_through}

-- Where one is counted there is one, and no other.
count_one : (n : ℕ) (p : ℕ → Bool) → count n p ≡ 1 → (i : ℕ) × (i < n) × (p i ≡ true) × ((j : ℕ) → j < n → p j ≡ true → j ≡ i)
unfolding count
count_one zero p e = absurd (omega arith)
count_one (suc n) p e = by_last (p n) refl (count_one n p)
  where
    by_last : (b : Bool) → p n ≡ b → (count n p ≡ 1 → (i : ℕ) × (i < n) × (p i ≡ true) × ((j : ℕ) → j < n → p j ≡ true → j ≡ i))
        → (i : ℕ) × (i < suc n) × (p i ≡ true) × ((j : ℕ) → j < suc n → p j ≡ true → j ≡ i)
    by_last true is rest =
        let none : count n p ≡ 0 = omega (arith, ap (λ (b : Bool). cond {A = ℕ} b 1 0) is) in
        (n, omega arith, is, λ j l holds. either j n (λ same. same) (λ apart. absurd (false≢true (sym (count_zero n p none j (omega arith)) ∙ holds))))
    by_last false is rest =
        let w = rest (omega (arith, ap (λ (b : Bool). cond {A = ℕ} b 1 0) is)) in
        (w.0, omega (arith, w.1), w.2, λ j l holds. either j n (λ same. absurd (false≢true (sym is ∙ ap p (sym same) ∙ holds))) (λ apart. w.3 j (omega arith) holds))

module _ (z : Sizes) (s : List ℕ) where
  -- Entry k of TreeLing t, numbered through.
  numbered : (y t k : ℕ) → k < 512
      → (is_ordinary z s ((512 * t + k) / 512) && marks_free z s y (get z s (entry 0 (512 * t + k)))) ≡ (is_ordinary z s t && marks_free z s y (get z s (entry t k)))
  numbered y t k less =
      let row : (512 * t + k) / 512 ≡ t = omega arith in
      ap₂ (λ (u x : ℕ). is_ordinary z s u && marks_free z s y x) row (sym (entry_through z s t k (512 * t + k) refl))

  -- How often a slot is free, as entries; how often it is named, as frames.
  free_once : (y : ℕ) → times_free z s y ≡ 1 → times_named z s y ≡ 0 → IsFree z s y
  unfolding times_free times_named
  free_once y one none =
      let w = count_one (512 * z.treelings) (λ j. is_ordinary z s (j / 512) && marks_free z s y (get z s (entry 0 j))) one in
      let j = w.0 in
      record {
        treeling = j / 512;
        index = j % 512;
        treeling_below = omega (arith, w.1);
        index_below = omega arith;
        free = ap (λ (x : ℕ). is_ordinary z s (j / 512) && marks_free z s y x) (entry_through z s (j / 512) (j % 512) j (omega arith)) ∙ w.2;
        only = λ t k m n free.
            let is = w.3 (512 * t + k) (omega arith) (numbered y t k n ∙ free) in
            (omega arith, omega arith);
        unnamed = λ f m named. false≢true (sym (count_zero z.frames (λ g. eqb (get z s (leaf g)) (suc y)) none f m) ∙ eq-eqb (get z s (leaf f)) (suc y) named);
      }

  in_use_once : (y : ℕ) → times_free z s y ≡ 0 → times_named z s y ≡ 1 → InUse z s y
  unfolding times_free times_named
  in_use_once y none one =
      let w = count_one z.frames (λ f. eqb (get z s (leaf f)) (suc y)) one in
      record {
        frame = w.0;
        frame_below = w.1;
        named = eqb-true (get z s (leaf w.0)) (suc y) w.2;
        only = λ f m named. w.3 f m (eq-eqb (get z s (leaf f)) (suc y) named);
        not_free = λ t k m n free.
            false≢true
            (sym (count_zero (512 * z.treelings) (λ j. is_ordinary z s (j / 512) && marks_free z s y (get z s (entry 0 j))) none (512 * t + k) (omega arith))
            ∙ numbered y t k n
            ∙ free);
      }

  module _ (h : Sound z s) where
    slot_agrees : (y d : ℕ) → y < 4096 * z.treelings → get z s (owner (y / 4096)) ≡ suc d → Ordinary z s d → IsFree z s y ⊎ InUse z s y
    slot_agrees y d m o ordinary = by_times (times_free z s y) refl (h.slot_once y m ∙ ap (λ (b : Bool). cond b 1 0) (ordinary_test z s (y / 4096) d o ordinary))
      where
        by_times : (n : ℕ) → times_free z s y ≡ n → times_free z s y + times_named z s y ≡ 1 → IsFree z s y ⊎ InUse z s y
        by_times zero e once = inr (in_use_once y e (omega arith))
        by_times (suc n) e once = inl (free_once y (omega arith) (omega arith))

    page_agrees : (f : ℕ) → f < z.frames → 0 < get z s (leaf f)
        → (d : ℕ) × (d < z.domains) × Live z s d × (get z s (owner (treeling_of (get z s (leaf f)))) ≡ suc d) × InUse z s (slot_number (get z s (leaf f)))
    page_agrees f m some = by_owner (get z s (owner t)) refl
      where
        t : ℕ
        t = treeling_of (get z s (leaf f))

        y : ℕ
        y = slot_number (get z s (leaf f))

        is : Names (get z s (leaf f))
        is = names (get z s (leaf f)) (page_id z s h f m some)

        by_owner : (x : ℕ) → get z s (owner t) ≡ x → (d : ℕ) × (d < z.domains) × Live z s d × (get z s (owner t) ≡ suc d) × InUse z s y
        by_owner zero e = absurd (omega (arith, page_owned z s h f m some))
        by_owner (suc d) e =
            let below = page_below z s h f m some in
            let l : d < z.domains = omega (arith, h.owner_range t below) in
            let own = ap (λ (u : ℕ). get z s (owner u)) (sym is.treeling_is) ∙ e in
            let alive = sound_live z s h d t below e in (
              d,
              l,
              alive,
              e,
              ⊎_elim (λ free. absurd (free.unnamed f m is.number_is)) (λ used. used) (slot_agrees y d (page_slot z s h f m some) own (live_ordinary z s d alive)),
            )

    pub agreeing : Agreeing z s
    agreeing =
        record {
          slots = slot_agrees;
          pages = page_agrees;
          one_owner = λ d e q r l m k n same.
              let a = of_rank_lem z s h d l q k in
              let b = of_rank_lem z s h e m r n in
              omega (arith, a.owner_is, b.owner_is, ap (λ (t : ℕ). get z s (owner t)) same);
          reached = λ d t l m o. (get z s (rank t), rank_below_owned z s h d l t m o, of_rank_back z s h d l t m o);
        }
