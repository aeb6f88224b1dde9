-- How many there are of the numbers that a test holds of, by matching them one to one with the numbers below m.
-- Assumes nothing.
use Prim.Native.Nat.{ℕ, zero, suc, ◌<◌, ◌≤◌}
use mathlib.Core.Path.{◌≡◌, refl, sym, ap, ◌∙◌}
use mathlib.Core.Bool.{Bool, true, false, cond, ◌&&◌}
use native.Mathlib.Nat.{one-mul}
use native.Mathlib.Omega.{arith}
use borrow.Author.Tests.{eqb-true, eq-eqb}
use lib.Dec.{eqb}
use Rattle.sound.proofs.TestLaws.{same_test}
use Rattle.layout.specs.Bounded.{count, sum}
use Rattle.layout.proofs.BoundedLaws.{and_both, and_of, sum_zero, sum_cong, sum_const, sum_swap, sum_at, count-sum}

-- At most all are counted.
pub count_most : (n : ℕ) (p : ℕ → Bool) → count n p ≤ n
unfolding count
count_most zero p = omega arith
count_most (suc n) p = let ih = count_most n p in let one = at_most (p n) in omega arith
  where
    at_most : (b : Bool) → cond {A = ℕ} b 1 0 ≤ 1
    at_most true = omega arith
    at_most false = omega arith

-- The number that is x, counted, is one.
pub count_at : (n x : ℕ) → x < n → count n (λ i. eqb x i) ≡ 1
count_at n x l = count-sum n (λ i. eqb x i) ∙ sum_at n x (λ _. 1) l

-- The numbers below n that p holds of are matched with the numbers below m by f, and back by g.
pub record Matched (n m : ℕ) (p : ℕ → Bool) (f g : ℕ → ℕ) : Type 0 where
  pub there_below : (t : ℕ) → t < n → p t ≡ true → f t < m
  pub there_back : (t : ℕ) → t < n → p t ≡ true → g (f t) ≡ t
  pub back_below : (r : ℕ) → r < m → g r < n
  pub back_holds : (r : ℕ) → r < m → p (g r) ≡ true
  pub back_there : (r : ℕ) → r < m → f (g r) ≡ r

module _ (n m : ℕ) (p : ℕ → Bool) (f g : ℕ → ℕ) (h : Matched n m p f g) where
  -- A number and its match.
  same : (t r : ℕ) → t < n → r < m → (p t && eqb (f t) r) ≡ eqb (g r) t
  same t r k l =
      same_test (p t && eqb (f t) r) (eqb (g r) t)
      (λ e.
      let both = and_both (p t) (eqb (f t) r) e in
      eq-eqb (g r) t (ap g (sym (eqb-true (f t) r both.1)) ∙ h.there_back t k both.0))
      (λ e.
      let is = eqb-true (g r) t e in
      and_of (ap p (sym is) ∙ h.back_holds r l) (eq-eqb (f t) r (ap f (sym is) ∙ h.back_there r l)))

  -- A sum over the ones is the sum over the others.
  pub sum_matched : (v : ℕ → ℕ) → sum n (λ t. cond (p t) (v t) 0) ≡ sum m (λ r. v (g r))
  sum_matched v =
      sum_cong n (λ t. cond (p t) (v t) 0) (λ t. sum m (λ r. cond (p t && eqb (f t) r) (v t) 0)) (λ t l. by_test t l (p t) refl)
      ∙ sum_swap n m (λ t r. cond (p t && eqb (f t) r) (v t) 0)
      ∙ sum_cong m (λ r. sum n (λ t. cond (p t && eqb (f t) r) (v t) 0)) (λ r. v (g r))
      (λ r l. sum_cong n (λ t. cond (p t && eqb (f t) r) (v t) 0) (λ t. cond (eqb (g r) t) (v t) 0) (λ t k. ap (λ (b : Bool). cond b (v t) 0) (same t r k l)) ∙ sum_at n (g r) v (h.back_below r l))
    where
      -- A number that p holds of has its one match.
      by_test : (t : ℕ) → t < n → (b : Bool) → p t ≡ b → cond b (v t) 0 ≡ sum m (λ r. cond (b && eqb (f t) r) (v t) 0)
      by_test t l true e = sym (sum_at m (f t) (λ _. v t) (h.there_below t l e))
      by_test t l false e = sym (sum_zero m)

  -- So they are m.
  pub count_matched : count n p ≡ m
  count_matched = count-sum n p ∙ sum_matched (λ _. 1) ∙ sum_const m 1 ∙ one-mul m
