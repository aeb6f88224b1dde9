-- Laws of bits: of sums of numbers with no bit in common, of the bit that two numbers share, of full bytes and empty ones.
-- Assumes nothing.
use Prim.Native.Nat.{ℕ, zero, suc, ◌+◌, ◌*◌, ◌/◌, ◌%◌, ◌^◌, ◌<◌, ◌≤◌, max}
use mathlib.Core.Path.{◌≡◌, refl, sym, ap, ap₂, ◌∙◌}
use mathlib.Core.Bool.{Bool, true, false, cond}
use native.Mathlib.Nat.{mod-lt, max-add-min, max-le, min-le_left, min-le_right, le_of_suc-le-suc, zero-div, one-mul}
use native.Mathlib.Numerals.{one-add}
use native.Mathlib.Omega.{arith}
use lib.Bits.{bit_and, and_step, or_disjoint, or_lt}
use lib.Dec.{eqb}
use lib.Pow.{shl_exact, shr-shr}
use borrow.Author.Tests.{eqb-true, eqb-false}
use Rattle.geometry.specs.Tables.{bit}
use Rattle.layout.specs.Bounded.{all}
use Rattle.layout.proofs.BoundedLaws.{all_at}

-- A bit is 0 or 1.
pub bit_most : (i a : ℕ) → bit i a ≤ 1
bit_most i a = le_of_suc-le-suc (mod-lt (a / 2 ^ i) (omega arith))

-- 0 has none.
pub bit_none : (i : ℕ) → bit i 0 ≡ 0
bit_none i = ap (λ (k : ℕ). k % 2) (zero-div (2 ^ i))

-- A bit further up is a bit of the half.
bit_half : (i a : ℕ) → bit (suc i) a ≡ bit i (a / 2)
bit_half i a = ap (λ (k : ℕ). a / 2 ^ k % 2) (sym (one-add i)) ∙ ap (λ (k : ℕ). k % 2) (sym (shr-shr a 1 i))

-- The lowest bits and the rest of two numbers with no bit in common.
disjoint_halves : (m a : ℕ) → bit_and m a ≡ 0 → (bit_and (m / 2) (a / 2) ≡ 0) × (m % 2 + a % 2 ≤ 1)
disjoint_halves m a h =
    let step = and_step m a in
    let both = max-add-min (m % 2) (a % 2) in
    let most : max (m % 2) (a % 2) ≤ 1 = max-le (omega arith) (omega arith) in
    (omega arith, omega arith)

-- Where two numbers have no bit in common, each bit of the sum is the sum of theirs.
pub disjoint_bits : (i m a : ℕ) → bit_and m a ≡ 0 → bit i (m + a) ≡ bit i m + bit i a
disjoint_bits zero m a h = let low = disjoint_halves m a h in omega arith
disjoint_bits (suc i) m a h =
    let low = disjoint_halves m a h in
    let half : (m + a) / 2 ≡ m / 2 + a / 2 = omega arith in
    bit_half i (m + a)
    ∙ ap (λ (k : ℕ). bit i k) half
    ∙ disjoint_bits i (m / 2) (a / 2) low.0
    ∙ ap₂ ◌+◌ (sym (bit_half i m)) (sym (bit_half i a))

-- The sum of two bytes with no bit in common is a byte.
pub disjoint_below : (m a : ℕ) → m < 256 → a < 256 → bit_and m a ≡ 0 → m + a < 256
disjoint_below m a hm ha h = let or = or_lt 8 m a hm ha in let sum = or_disjoint m a h in omega arith

-- A bit below n that two numbers have in common.
abbrev Common : ℕ → ℕ → ℕ → Type 0
Common n m a = (i : ℕ) × (i < n) × (bit i m ≡ 1) × (bit i a ≡ 1)

-- One in common to the halves is one in common to the wholes.
one_up : (n m a : ℕ) → Common n (m / 2) (a / 2) → Common (suc n) m a
one_up n m a found =
    (suc found.0, omega arith, bit_half found.0 m ∙ found.2, bit_half found.0 a ∙ found.3)

-- It is the lowest bit, or it is found in the halves.
common_step : (n m a : ℕ) (b : Bool) → eqb (m % 2 + a % 2) 2 ≡ b → (bit_and m a ≡ 0 → ⊥) → ((bit_and (m / 2) (a / 2) ≡ 0 → ⊥) → Common n (m / 2) (a / 2)) → Common (suc n) m a
common_step n m a true e h deeper =
    let low = eqb-true (m % 2 + a % 2) 2 e in
    (0, omega arith, omega arith, omega arith)
common_step n m a false e h deeper =
    let low = eqb-false (m % 2 + a % 2) 2 e in
    let step = and_step m a in
    let left = min-le_left (m % 2) (a % 2) in
    let right = min-le_right (m % 2) (a % 2) in
    one_up n m a (deeper (λ none. h (omega arith)))

-- Numbers of n bits that are not disjoint have a bit in common.
common_below : (n m a : ℕ) → m < 2 ^ n → (bit_and m a ≡ 0 → ⊥) → Common n m a
common_below zero m a l h =
    let none : m ≡ 0 = omega arith in
    absurd (h (ap (λ (k : ℕ). bit_and k a) none))
common_below (suc n) m a l h =
    common_step n m a (eqb (m % 2 + a % 2) 2) refl h (common_below n (m / 2) (a / 2) (omega arith))

-- So have bytes.
pub common_bit : (m a : ℕ) → m < 256 → (bit_and m a ≡ 0 → ⊥) → (i : ℕ) × (i < 8) × (bit i m ≡ 1) × (bit i a ≡ 1)
common_bit m a l h = common_below 8 m a l h

-- The bits of a power of two.
pub single_bit : (i j : ℕ) → i < 8 → j < 8 → bit i (2 ^ j) ≡ cond (eqb i j) 1 0
unfolding all
single_bit i j hi hj =
    eqb-true _ _ (all_at 8 (λ n. eqb (bit i (2 ^ n)) (cond (eqb i n) 1 0)) (all_at 8 (λ k. all 8 (λ n. eqb (bit k (2 ^ n)) (cond (eqb k n) 1 0))) refl i hi) j hj)

-- Numbers of n bits whose bits are the same are equal.
pub same_bits : (n m v : ℕ) → m < 2 ^ n → v < 2 ^ n → ((i : ℕ) → i < n → bit i m ≡ bit i v) → m ≡ v
same_bits zero m v hm hv same = omega arith
same_bits (suc n) m v hm hv same =
    let halves = same_bits n (m / 2) (v / 2) (omega arith) (omega arith) (λ i l. sym (bit_half i m) ∙ same (suc i) (omega arith) ∙ bit_half i v) in
    omega (arith, same 0 (omega arith))

-- The bits of a full byte and of an empty one.
pub full_bits : (b : Bool) (i : ℕ) → i < 8 → bit i (cond b 255 0) ≡ cond b 1 0
unfolding all
full_bits true i l = eqb-true _ _ (all_at 8 (λ k. eqb (bit k 255) 1) refl i l)
full_bits false i l = bit_none i

-- Both are bytes.
pub full_below : (b : Bool) → cond b 255 0 < 256
full_below true = omega arith
full_below false = omega arith

-- A 1 shifted within a byte.
pub shifted_one : (i : ℕ) → i < 8 → (1 * 2 ^ i) % 256 ≡ 2 ^ i
shifted_one i l = shl_exact {a = 1} 1 i 8 (omega arith) (omega arith) ∙ one-mul (2 ^ i)
