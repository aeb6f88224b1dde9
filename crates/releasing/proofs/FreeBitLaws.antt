-- Laws of availabilities: the bits of a sum of bytes with no bit in common, and the slots that an entry's word marks free by its bits.
-- Assumes nothing.
use Prim.Native.Nat.{ℕ, zero, suc, ◌+◌, ◌*◌, ◌/◌, ◌%◌, ◌^◌, ◌<◌, ◌≤◌}
use mathlib.Core.Path.{◌≡◌, refl, sym, ap, ◌∙◌}
use mathlib.Core.List.{List}
use mathlib.Core.Bool.{Bool, true, false, cond, ◌&&◌}
use native.Mathlib.Omega.{arith}
use borrow.Author.Tests.{eqb-true, eq-eqb, ne_eqb}
use lib.Bits.{bit_and}
use lib.Dec.{eqb}
use Rattle.layout.specs.declared.Sizes.{Sizes}
use Rattle.geometry.specs.Tables.{bit}
use Rattle.geometry.specs.Entries.{tag_of, availability_of}
use Rattle.layout.specs.Bounded.{sum}
use Rattle.sound.specs.Sentences.{marks_free}
use Rattle.sound.proofs.BitLaws.{bit_most, bit_none, disjoint_bits, disjoint_below, common_bit, single_bit, shifted_one}
use Rattle.sound.proofs.TestLaws.{same_test}
use Rattle.world.proofs.FrameLaws.{either}

-- ---- Sums of bytes
-- Two bytes that have no bit both: their sum is a byte, whose bits are theirs.
module _ (m a : ℕ) (hm : m < 256) (ha : a < 256) (once : (i : ℕ) → i < 8 → bit i m + bit i a ≤ 1) where
  apart : bit_and m a ≡ 0
  apart =
      either (bit_and m a) 0 (λ is. is)
      (λ some. let c = common_bit m a hm some in absurd (omega (arith, c.2, c.3, once c.0 c.1)))

  pub byte_added : m + a < 256
  byte_added = disjoint_below m a hm ha apart

  pub bits_added : (i : ℕ) → bit i (m + a) ≡ bit i m + bit i a
  bits_added i = disjoint_bits i m a apart

-- The same of n bytes.
pub bytes_summed : (n : ℕ) (v : ℕ → ℕ) → ((j : ℕ) → j < n → v j < 256) → ((i : ℕ) → i < 8 → sum n (λ j. bit i (v j)) ≤ 1)
    → (sum n v < 256) × ((i : ℕ) → i < 8 → bit i (sum n v) ≡ sum n (λ j. bit i (v j)))
unfolding sum
bytes_summed zero v small once = (omega arith, λ i _. bit_none i)
bytes_summed (suc n) v small once =
    let ih = bytes_summed n v (λ j l. small j (omega arith)) (λ i l. omega (arith, once i l)) in
    let here = small n (omega arith) in
    let no_more : (i : ℕ) → i < 8 → bit i (sum n v) + bit i (v n) ≤ 1 = λ i l. omega (arith, once i l, ih.1 i l) in
    (byte_added (sum n v) (v n) ih.0 here no_more, λ i l. omega (arith, bits_added (sum n v) (v n) ih.0 here no_more i, ih.1 i l))

-- A power of two within a byte.
pub power_below : (i : ℕ) → i < 8 → 2 ^ i < 256
power_below i l = omega (arith, shifted_one i l)

-- ---- Slots
-- A condition of a sum.
pub cond_add : (b : Bool) (m n : ℕ) → cond b (m + n) 0 ≡ cond b m 0 + cond b n 0
cond_add true m n = refl
cond_add false m n = refl

-- A word marks slot y free as often as the bit says, where its tag is the slot's node.
pub marks_bit : (z : Sizes) (s : List ℕ) (y w : ℕ) → cond (marks_free z s y w) 1 0 ≡ cond (eqb (tag_of w) (y / 8)) (bit (y % 8) (availability_of w)) 0
marks_bit z s y w = by_tag (eqb (tag_of w) (y / 8))
  where
    as_bit : (c : ℕ) → c ≤ 1 → cond (eqb c 1) 1 0 ≡ c
    as_bit zero l = refl
    as_bit (suc zero) l = refl
    as_bit (suc (suc c)) l = absurd (omega arith)

    by_tag : (b : Bool) → cond (b && eqb (bit (y % 8) (availability_of w)) 1) 1 0 ≡ cond b (bit (y % 8) (availability_of w)) 0
    by_tag true = as_bit (bit (y % 8) (availability_of w)) (bit_most (y % 8) (availability_of w))
    by_tag false = refl

-- Slot y is position i of node n: by its node and position, as a bit.
pub slot_bit : (n i y : ℕ) → i < 8 → cond (eqb (8 * n + i) y) 1 0 ≡ cond (eqb n (y / 8)) (bit (y % 8) (2 ^ i)) 0
slot_bit n i y l =
    either n (y / 8)
    (λ node.
    ap (λ (b : Bool). cond {A = ℕ} b 1 0) (same node)
    ∙ sym (single_bit (y % 8) i (omega arith) l)
    ∙ sym (ap (λ (b : Bool). cond b (bit (y % 8) (2 ^ i)) 0) (eq-eqb n (y / 8) node)))
    (λ other.
    ap (λ (b : Bool). cond {A = ℕ} b 1 0) (ne_eqb (8 * n + i) y (λ is. other (omega arith)))
    ∙ sym (ap (λ (b : Bool). cond b (bit (y % 8) (2 ^ i)) 0) (ne_eqb n (y / 8) other)))
  where
    same : n ≡ y / 8 → eqb (8 * n + i) y ≡ eqb (y % 8) i
    same node =
        same_test (eqb (8 * n + i) y) (eqb (y % 8) i)
        (λ e. eq-eqb (y % 8) i (omega (arith, eqb-true (8 * n + i) y e)))
        (λ e. eq-eqb (8 * n + i) y (omega (arith, eqb-true (y % 8) i e)))
