-- No one-to-one map from n + 1 numbers to n.
-- Assumes nothing.
use Prim.Native.Nat.{ℕ, zero, suc, ◌<◌, ◌≤◌}
use mathlib.Core.Path.{◌≡◌, refl, sym, ◌∙◌}
use mathlib.Core.Bool.{Bool, true, false, cond}
use native.Mathlib.Nat.{not-suc-le-zero, le_refl}
use native.Mathlib.Omega.{arith}
use borrow.Author.Tests.{eqb-true, eqb-false}
use lib.Dec.{eqb}

-- f maps the numbers up to n to different numbers below m.
record Into (n m : ℕ) (f : ℕ → ℕ) : Type 0 where
  below : (i : ℕ) → i ≤ n → f i < m
  apart : (i j : ℕ) → i ≤ n → j ≤ n → f i ≡ f j → i ≡ j

-- f with its value at n + 1 in the place of its value m: one number less on both sides.
abbrev without : ℕ → ℕ → (ℕ → ℕ) → ℕ → ℕ
without n m f i = cond (eqb (f i) m) (f (suc n)) (f i)

fewer : (n m : ℕ) (f : ℕ → ℕ) → Into (suc n) (suc m) f → Into n m (without n m f)
fewer n m f h =
    record {
      below = λ i l. below_at i l (eqb (f i) m) refl;
      apart = λ i j l k same. apart_at i j l k (eqb (f i) m) refl (eqb (f j) m) refl same;
    }
  where
    up : (i : ℕ) → i ≤ n → i ≤ suc n
    up i l = omega arith

    -- The value at n + 1 is that of no other number.
    last_apart : (i : ℕ) → i ≤ n → f i ≡ f (suc n) → ⊥
    last_apart i l same = let e : i ≡ suc n = h.apart i (suc n) (up i l) (le_refl (suc n)) same in omega arith

    below_at : (i : ℕ) → i ≤ n → (b : Bool) → eqb (f i) m ≡ b → cond b (f (suc n)) (f i) < m
    below_at i l true e =
        omega (arith, eqb-true (f i) m e, last_apart i l, h.below (suc n) (le_refl (suc n)))
    below_at i l false e = omega (arith, eqb-false (f i) m e, h.below i (up i l))

    apart_at : (i j : ℕ) → i ≤ n → j ≤ n → (b : Bool) → eqb (f i) m ≡ b → (c : Bool) → eqb (f j) m ≡ c
        → cond b (f (suc n)) (f i) ≡ cond c (f (suc n)) (f j) → i ≡ j
    apart_at i j l k true e true e' same =
        h.apart i j (up i l) (up j k) (eqb-true (f i) m e ∙ sym (eqb-true (f j) m e'))
    apart_at i j l k true e false e' same = absurd (last_apart j k (sym same))
    apart_at i j l k false e true e' same = absurd (last_apart i l same)
    apart_at i j l k false e false e' same = h.apart i j (up i l) (up j k) same

-- A one-to-one map from the numbers up to n to the numbers below n is absurd.
pub pigeonhole : (n : ℕ) (f : ℕ → ℕ) → ((i : ℕ) → i ≤ n → f i < n) → ((i j : ℕ) → i ≤ n → j ≤ n → f i ≡ f j → i ≡ j) → ⊥
pigeonhole n f below apart = none n f (record { below = below; apart = apart })
  where
    none : (n : ℕ) (f : ℕ → ℕ) → Into n n f → ⊥
    none zero f h = not-suc-le-zero (h.below 0 (omega arith))
    none (suc n) f h = none n (without n n f) (fewer n n f h)
