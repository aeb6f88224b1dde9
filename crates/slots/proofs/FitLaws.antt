-- An entry that fits: what a sound state says of it, and what the passes decide.
-- Assumes nothing.
use Prim.Native.Nat.{ℕ, ◌-◌, ◌*◌, ◌/◌, ◌<◌}
use mathlib.Core.Path.{◌≡◌, refl, sym, ap, ◌∙◌}
use mathlib.Core.List.{List}
use mathlib.Core.Bool.{Bool, true, false, cond, not, ◌&&◌, ◌||◌}
use lib.Dec.{eqb, ltb}
use Rattle.layout.specs.declared.Sizes.{Sizes}
use Rattle.geometry.specs.Entries.{tag_of, availability_of}
use Rattle.layout.specs.Places.{get, treeling, entry, owner}
use Rattle.layout.specs.Bounded.{all}
use Rattle.sound.specs.Sentences.{is_owned, is_ordinary, unowned_is_zero, block_in_order, head_in_order, fits_order}
use Rattle.sound.specs.Sound.{Sound}
use Rattle.sound.specs.CodeChained.{treeling_chained}
use Rattle.slots.specs.CodeMarks.{entry_fits, treeling_entries}
use Rattle.layout.proofs.BoundedLaws.{all_at, and_of}
use Rattle.sound.proofs.TestLaws.{and_left, and_right, or_rest, or_of, no_owner, not_ordinary}
use Rattle.sound.proofs.RangeLaws.{sound_entry_range}
use Rattle.sound.proofs.OwnLaws.{sound_tag, sound_order}

-- ---- from a sound state
module _ (z : Sizes) (s : List ℕ) (h : Sound z s) where
  -- The NFL words, and the leaf map.
  pub sound_fits : (t k : ℕ) → t < z.treelings → k < 512 → entry_fits z s t k ≡ true
  sound_fits t k l m =
      and_of (and_of (sound_entry_range z s h t k l m) (sound_tag z s h t k l m)) (sound_order z s h t k l m)

-- ---- from the passes to the audit's sentences
module _ (z : Sizes) (s : List ℕ) where
  -- The entries of an owned TreeLing fit; those of an unowned one are zero.
  pub entries_as : (t : ℕ) (b : Bool) → treeling_entries z s t ≡ true → is_owned z s t ≡ b
      → cond b (all 512 (entry_fits z s t)) (all 512 (λ k. eqb (get z s (entry t k)) 0)) ≡ true
  entries_as t b h e =
      ap (λ (c : Bool). cond c (all 512 (entry_fits z s t)) (all 512 (λ k. eqb (get z s (entry t k)) 0))) (sym e) ∙ h

  -- The record and the NFL words of an unowned TreeLing.
  pub unowned_tests : (t : ℕ) → treeling_chained z s t ≡ true → treeling_entries z s t ≡ true → unowned_is_zero z s t ≡ true
  unowned_tests t h k =
      let words = all 4 (λ j. eqb (get z s (treeling t j)) 0) in
      let entries = all 512 (λ i. eqb (get z s (entry t i)) 0) in
      let record_is : (is_owned z s t || words) ≡ true = search (and_left, and_right) in
      or_of (is_owned z s t) (words && entries) (λ e. and_of (or_rest (is_owned z s t) words record_is e) (entries_as t false k e))

  -- Each entry fits: nothing is asked of an entry of an unowned TreeLing.
  pub all_fit : (t k : ℕ) → t < z.treelings → k < 512 → treeling_entries z s t ≡ true → entry_fits z s t k ≡ true
  all_fit t k l m h = go (is_owned z s t) refl
    where
      unasked : is_owned z s t ≡ false → (b : Bool) → (not (is_ordinary z s t) || b) ≡ true
      unasked e b = ap (λ (c : Bool). not c || b) (not_ordinary z s t (no_owner z s t e))

      go : (b : Bool) → is_owned z s t ≡ b → entry_fits z s t k ≡ true
      go true e = all_at 512 (entry_fits z s t) (entries_as t true h e) k m
      go false e =
          and_of
          (and_of
          (unasked e (ltb (tag_of (get z s (entry t k))) (512 * z.treelings)))
          (unasked e (eqb (get z s (owner (tag_of (get z s (entry t k)) / 512))) (get z s (owner t)))))
          (unasked e (fits_order (block_in_order z s t (k / 8)) (head_in_order z s (get z s (owner t) - 1)) (availability_of (get z s (entry t k)))))
