-- An NFL entry's word with its lowest free position cleared: its tag, its bits, and the slots that it marks free.
-- Assumes nothing.
use Prim.Native.Nat.{ℕ, zero, suc, ◌+◌, ◌-◌, ◌/◌, ◌%◌, ◌^◌, ◌<◌, ◌≤◌}
use mathlib.Core.Path.{◌≡◌, sym, ap, ap₂, ◌∙◌}
use mathlib.Core.List.{List}
use mathlib.Core.Bool.{Bool, true, false, cond, ◌&&◌}
use native.Mathlib.Nat.{lt_of_not-le}
use native.Mathlib.Numerals.{one-add}
use native.Mathlib.Omega.{arith}
use borrow.Author.Tests.{eqb-true, eqb-false, eq-eqb, ne_eqb}
use lib.Dec.{eqb, eqb-zero-suc, eqb-suc-zero, eqb-suc-suc}
use lib.Pow.{shr-shr}
use Rattle.layout.specs.declared.Sizes.{Sizes}
use Rattle.geometry.specs.Tables.{bit, lowest_free}
use Rattle.leaf_map.specs.LeafIds.{leaf_at}
use Rattle.geometry.specs.Entries.{tag_of, availability_of}
use Rattle.leaf_map.proofs.LeafIdLaws.{at_number}
use Rattle.geometry.proofs.FirstLaws.{first_holds, first-before}
use Rattle.sound.specs.Sentences.{marks_free}
use Rattle.sound.proofs.BitLaws.{bit_most, bit_none, same_bits}
use Rattle.layout.proofs.BoundedLaws.{and_of, and_no}
use Rattle.world.proofs.FrameLaws.{either}

-- ---- Bits
-- A bit further up is a bit of the half.
bit_half : (i a : ℕ) → bit (suc i) a ≡ bit i (a / 2)
bit_half i a = ap (λ (k : ℕ). a / 2 ^ k % 2) (sym (one-add i)) ∙ ap (λ (k : ℕ). k % 2) (sym (shr-shr a 1 i))

-- A number with bit i is at least its power.
pub bit_least : (i a : ℕ) → bit i a ≡ 1 → 2 ^ i ≤ a
bit_least zero a e = omega arith
bit_least (suc i) a e = omega (arith, bit_least i (a / 2) (sym (bit_half i a) ∙ e))

-- Less its power it has the other bits.
pub clear_bit : (i j a : ℕ) → bit i a ≡ 1 → bit j (a - 2 ^ i) ≡ cond (eqb i j) 0 (bit j a)
clear_bit zero zero a e = omega arith
clear_bit zero (suc j) a e =
    let half : (a - 1) / 2 ≡ a / 2 = omega arith in
    bit_half j (a - 1)
    ∙ ap (bit j) half
    ∙ sym (bit_half j a)
    ∙ ap (λ (b : Bool). cond b 0 (bit (suc j) a)) (sym (eqb-zero-suc j))
clear_bit (suc i) zero a e =
    let least = bit_least (suc i) a e in
    let same : bit 0 (a - 2 ^ suc i) ≡ bit 0 a = omega arith in
    same ∙ ap (λ (b : Bool). cond b 0 (bit 0 a)) (sym (eqb-suc-zero i))
clear_bit (suc i) (suc j) a e =
    let e_half = sym (bit_half i a) ∙ e in
    let least = bit_least i (a / 2) e_half in
    let half : (a - 2 ^ suc i) / 2 ≡ a / 2 - 2 ^ i = omega arith in
    bit_half j (a - 2 ^ suc i)
    ∙ ap (bit j) half
    ∙ clear_bit i j (a / 2) e_half
    ∙ ap₂ (λ (b : Bool) (x : ℕ). cond b 0 x) (sym (eqb-suc-suc i j)) (sym (bit_half j a))

-- A byte other than 0 has a lowest bit.
pub lowest_below : (a : ℕ) → 0 < a → a < 256 → lowest_free a < 8
lowest_below a some byte =
    lt_of_not-le λ none.
    let is : a ≡ 0 =
    same_bits 8 a 0 byte (omega arith) (λ i l.
    omega (arith, bit_most i a, bit_none i, eqb-false (bit i a) 1 (first-before (λ j. eqb (bit j a) 1) 0 8 i (omega arith) (omega arith)))) in
    omega arith

pub lowest_bit : (a : ℕ) → 0 < a → a < 256 → bit (lowest_free a) a ≡ 1
lowest_bit a some byte =
    eqb-true (bit (lowest_free a) a) 1 (first_holds (λ j. eqb (bit j a) 1) 0 8 (lowest_below a some byte))

-- ---- Words
-- An entry's word w, whose position i is free and is cleared.
module _ (w i : ℕ) (below : i < 8) (one : bit i (availability_of w) ≡ 1) where
  pub clear_tag : tag_of (w - 2 ^ i) ≡ tag_of w
  clear_tag = omega (arith, bit_least i (availability_of w) one)

  pub clear_free : availability_of (w - 2 ^ i) ≡ availability_of w - 2 ^ i
  clear_free = omega (arith, bit_least i (availability_of w) one)

  -- Its bits.
  bits_left : (j : ℕ) → bit j (availability_of (w - 2 ^ i)) ≡ cond (eqb i j) 0 (bit j (availability_of w))
  bits_left j = ap (bit j) clear_free ∙ clear_bit i j (availability_of w) one

  module _ (z : Sizes) (s : List ℕ) (y : ℕ) where
    -- Its slot is marked no more,
    marked_here : leaf_at (tag_of w) i ≡ suc y → (marks_free z s y w ≡ true) × (marks_free z s y (w - 2 ^ i) ≡ false)
    marked_here is =
        let node : tag_of w ≡ y / 8 = omega (arith, at_number (tag_of w) i) in
        let place : i ≡ y % 8 = omega (arith, at_number (tag_of w) i) in
        let v = w - 2 ^ i in
        let gone : bit (y % 8) (availability_of v) ≡ 0 =
        bits_left (y % 8) ∙ ap (λ (b : Bool). cond b 0 (bit (y % 8) (availability_of w))) (eq-eqb i (y % 8) place) in (
          and_of (eq-eqb (tag_of w) (y / 8) node) (eq-eqb (bit (y % 8) (availability_of w)) 1 (ap (λ (j : ℕ). bit j (availability_of w)) (sym place) ∙ one)),
          and_no (eqb (tag_of v) (y / 8)) (eqb (bit (y % 8) (availability_of v)) 1) (ne_eqb (bit (y % 8) (availability_of v)) 1 (λ e. omega arith)),
        )

    -- and every other one as before.
    marked_else : (leaf_at (tag_of w) i ≡ suc y → ⊥) → marks_free z s y (w - 2 ^ i) ≡ marks_free z s y w
    marked_else apart =
        ap (λ (g : ℕ). eqb g (y / 8) && eqb (bit (y % 8) (availability_of (w - 2 ^ i))) 1) clear_tag
        ∙ either (tag_of w) (y / 8)
        (λ node.
        ap (λ (x : ℕ). eqb (tag_of w) (y / 8) && eqb x 1)
        (bits_left (y % 8) ∙ ap (λ (b : Bool). cond b 0 (bit (y % 8) (availability_of w))) (ne_eqb i (y % 8) (λ place. apart (omega (arith, at_number (tag_of w) i))))))
        (λ other. let none = ne_eqb (tag_of w) (y / 8) other in rw none)

    -- So as often as it marks y after, and once more where y is its slot.
    pub clear_marks : cond (marks_free z s y w) 1 0 ≡ cond (marks_free z s y (w - 2 ^ i)) 1 0 + cond (eqb (leaf_at (tag_of w) i) (suc y)) 1 0
    clear_marks =
        either (leaf_at (tag_of w) i) (suc y)
        (λ is.
        let here = marked_here is in
        omega (arith, ap once here.0, ap once here.1, ap once (eq-eqb (leaf_at (tag_of w) i) (suc y) is)))
        (λ apart. omega (arith, ap once (marked_else apart), ap once (ne_eqb (leaf_at (tag_of w) i) (suc y) apart)))
      where
        once : Bool → ℕ
        once b = cond b 1 0
