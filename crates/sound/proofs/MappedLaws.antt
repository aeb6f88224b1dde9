-- "Mapped by this domain": the test, as facts.
-- Assumes nothing.
use Prim.Native.Nat.{ℕ, suc, ◌*◌, ◌/◌, ◌<◌}
use mathlib.Core.Path.{◌≡◌, sym, ap, ◌∙◌}
use mathlib.Core.List.{List}
use mathlib.Core.Bool.{Bool, true, false, cond, false≢true}
use native.Mathlib.Nat.{lt_of_not-le}
use native.Mathlib.Omega.{arith}
use borrow.Author.Tests.{eqb-true, ltb-true, eq-eqb, lt-ltb}
use lib.Dec.{eqb, ltb}
use Rattle.layout.specs.declared.Sizes.{Sizes}
use Rattle.leaf_map.specs.LeafIds.{treeling_of, slot_number}
use Rattle.layout.specs.Places.{get, leaf, owner}
use Rattle.sound.specs.Sentences.{is_mapped_by, times_named}
use Rattle.sound.specs.Sound.{Sound, Ordinary}
use Rattle.layout.proofs.BoundedLaws.{and_both, and_of, is_false, count_zero}
use Rattle.leaf_map.proofs.LeafIdLaws.{SlotId, names, fits_id, fits_slot, treeling_fits}
use Rattle.sound.proofs.TestLaws.{not_ordinary}
use Rattle.sound.proofs.RecordLaws.{sound_ordinary}

pub record MappedBy (z : Sizes) (s : List ℕ) (d f : ℕ) : Type 0 where
  pub some : 0 < get z s (leaf f)
  pub own : get z s (owner (treeling_of (get z s (leaf f)))) ≡ suc d

-- In a sound state each leaf map word other than 0 names one of the TreeLings, which is owned.
module _ (z : Sizes) (s : List ℕ) (h : Sound z s) (f : ℕ) (l : f < z.frames) (some : 0 < get z s (leaf f)) where
  pub page_below : treeling_of (get z s (leaf f)) < z.treelings
  page_below = treeling_fits z.treelings (get z s (leaf f)) some (h.leaf_range f l)

  -- It names a slot, as every leaf ID does.
  pub page_id : SlotId (get z s (leaf f))
  page_id = fits_id z.treelings (get z s (leaf f)) h.laid_out.laid.sizes.max_treelings some (h.leaf_range f l)

  pub page_slot : slot_number (get z s (leaf f)) < 4096 * z.treelings
  page_slot = fits_slot z.treelings (get z s (leaf f)) page_id (h.leaf_range f l)

  pub page_owned : 0 < get z s (owner (treeling_of (get z s (leaf f))))
  unfolding times_named
  page_owned =
      lt_of_not-le λ none.
      let y = slot_number (get z s (leaf f)) in
      let is = names (get z s (leaf f)) page_id in
      let unowned : get z s (owner (y / 4096)) ≡ 0 = ap (λ (t : ℕ). get z s (owner t)) (sym is.treeling_is) ∙ omega arith in
      let once = h.slot_once y page_slot ∙ ap (λ (b : Bool). cond b 1 0) (not_ordinary z s (y / 4096) unowned) in
      let other = count_zero z.frames (λ c. eqb (get z s (leaf c)) (suc y)) (omega (arith, once)) f l in
      false≢true (sym other ∙ eq-eqb (get z s (leaf f)) (suc y) is.number_is)

module _ (z : Sizes) (s : List ℕ) (d f : ℕ) where
  pub mapped_by : is_mapped_by z s d f ≡ true → MappedBy z s d f
  mapped_by e =
      let both = and_both (ltb 0 (get z s (leaf f))) (eqb (get z s (owner (treeling_of (get z s (leaf f))))) (suc d)) e in
      record { some = ltb-true 0 (get z s (leaf f)) both.0; own = eqb-true (get z s (owner (treeling_of (get z s (leaf f))))) (suc d) both.1 }

  pub by_mapped : MappedBy z s d f → is_mapped_by z s d f ≡ true
  by_mapped m =
      and_of (lt-ltb 0 (get z s (leaf f)) m.some) (eq-eqb (get z s (owner (treeling_of (get z s (leaf f))))) (suc d) m.own)

  -- A frame that no domain maps, and one whose TreeLing is not the domain's.
  pub unmapped_by : get z s (leaf f) ≡ 0 → is_mapped_by z s d f ≡ false
  unmapped_by e = is_false (is_mapped_by z s d f) (λ t. omega (arith, (mapped_by t).some))

  pub not_mapped_by : (get z s (owner (treeling_of (get z s (leaf f)))) ≡ suc d → ⊥) → is_mapped_by z s d f ≡ false
  not_mapped_by apart = is_false (is_mapped_by z s d f) (λ t. apart (mapped_by t).own)

  -- In a sound state a domain with a mapped page is ordinary; a page of an ordinary domain is at a slot.
  module _ (h : Sound z s) (l : f < z.frames) (m : MappedBy z s d f) where
    pub mapped_ordinary : Ordinary z s d
    mapped_ordinary = sound_ordinary z s h d (treeling_of (get z s (leaf f))) (page_below z s h f l m.some) m.own

    pub mapped_id : Ordinary z s d → SlotId (get z s (leaf f))
    mapped_id o = page_id z s h f l m.some

    pub mapped_slot : Ordinary z s d → slot_number (get z s (leaf f)) < 4096 * z.treelings
    mapped_slot o = fits_slot z.treelings (get z s (leaf f)) (mapped_id o) (h.leaf_range f l)
