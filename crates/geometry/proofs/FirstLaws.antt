-- Laws of the first number of which a test holds.
-- Assumes nothing.
use Prim.Native.Nat.{ℕ, zero, suc, ◌+◌, ◌<◌, ◌≤◌}
use mathlib.Core.Path.{◌≡◌, refl, sym, ap, ◌∙◌}
use mathlib.Core.Bool.{Bool, true, false}
use mathlib.Core.Logic.{⊎_elim}
use native.Mathlib.Nat.{add-zero, eq-or-lt_of_le}
use native.Mathlib.Omega.{arith}
use Rattle.geometry.specs.Tables.{first_from}

module _ (p : ℕ → Bool) where
  pub first_none : (i : ℕ) → first_from p i 0 ≡ i
  unfolding first_from
  first_none i = refl

  -- It holds of the first: that is it.
  pub first_here : (i n : ℕ) → p i ≡ true → first_from p i (suc n) ≡ i
  unfolding first_from
  first_here i n h = rw h

  -- It does not: the first of the others.
  pub first_later : (i n : ℕ) → p i ≡ false → first_from p i (suc n) ≡ first_from p (suc i) n
  unfolding first_from
  first_later i n h = rw h

  -- It lies between the ends.
  pub first_from_lem : (i n : ℕ) → i ≤ first_from p i n
  first_from_lem i zero = rw first_none (omega arith)
  first_from_lem i (suc n) = go (p i) refl (first_from_lem (suc i) n)
    where
      go : (b : Bool) → p i ≡ b → suc i ≤ first_from p (suc i) n → i ≤ first_from p i (suc n)
      go true e h = rw (first_here i n e) (omega arith)
      go false e h = rw (first_later i n e) (omega arith)

  pub first_most : (i n : ℕ) → first_from p i n ≤ i + n
  first_most i zero = rw (first_none, add-zero) (omega arith)
  first_most i (suc n) = go (p i) refl (first_most (suc i) n)
    where
      go : (b : Bool) → p i ≡ b → first_from p (suc i) n ≤ suc i + n → first_from p i (suc n) ≤ i + suc n
      go true e h = rw (first_here i n e) (omega arith)
      go false e h = rw (first_later i n e) (omega arith)

  -- Where it is below the end, the test holds there.
  pub first_holds : (i n : ℕ) → first_from p i n < i + n → p (first_from p i n) ≡ true
  first_holds i zero l = absurd (let e = first_none i in omega arith)
  first_holds i (suc n) l = go (p i) refl (first_holds (suc i) n)
    where
      go : (b : Bool) → p i ≡ b → (first_from p (suc i) n < suc i + n → p (first_from p (suc i) n) ≡ true) → p (first_from p i (suc n)) ≡ true
      go true e h = rw (first_here i n e) e
      go false e h = let same = first_later i n e in rw same (h (omega arith))

  -- And of none before it.
  pub first-before : (i n j : ℕ) → i ≤ j → j < first_from p i n → p j ≡ false
  first-before i zero j l h = absurd (let e = first_none i in omega arith)
  first-before i (suc n) j l h = go (p i) refl (first-before (suc i) n j)
    where
      go : (b : Bool) → p i ≡ b → (suc i ≤ j → j < first_from p (suc i) n → p j ≡ false) → p j ≡ false
      go true e ih = absurd (let same = first_here i n e in omega arith)
      go false e ih =
          let same = first_later i n e in
          ⊎_elim (λ eq. ap p (sym eq) ∙ e) (λ below. ih below (omega arith)) (eq-or-lt_of_le l)

-- Two tests that agree on the numbers in question find the same.
pub first_cong : (p q : ℕ → Bool) (i n : ℕ) → ((j : ℕ) → i ≤ j → j < i + n → p j ≡ q j) → first_from p i n ≡ first_from q i n
unfolding first_from
first_cong p q i zero h = refl
first_cong p q i (suc n) h =
    let later : first_from p (suc i) n ≡ first_from q (suc i) n = first_cong p q (suc i) n (λ j l k. h j (omega arith) (omega arith)) in
    let here : p i ≡ q i = h i (omega arith) (omega arith) in
    rw (here, later)
