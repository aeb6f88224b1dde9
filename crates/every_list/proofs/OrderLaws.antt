-- The order of words, and of what stands in a list.
-- Assumes nothing.
use Prim.Native.Nat.{ℕ}
use mathlib.Core.Path.{◌≡◌, refl}
use mathlib.Core.Bool.{Bool, true, false, cond, false≢true}
use mathlib.Core.List.{List, [], ◌∷◌, ◌++◌}
use native.Mathlib.Omega.{arith}
use lib.Dec.{eqb, ltb}
use borrow.Author.Tests.{eq-eqb, ltb-true, ltb-false}
use Rattle.every_list.specs.Standing.{NoneTwice, InOrder}
use Rattle.every_list.specs.SmallRequests.{before}

pub before_not_self : (ws : List ℕ) → before ws ws ≡ false
unfolding before
before_not_self [] = refl
before_not_self (w ∷ ws) = rw (eq-eqb w w refl) (before_not_self ws)

-- Words before others stay so, whatever comes behind both.
pub before_behind : (us ws vs xs : List ℕ) → before us ws ≡ true → before (us ++ vs) (ws ++ xs) ≡ true
unfolding before
before_behind [] ws vs xs h = absurd (false≢true h)
before_behind (u ∷ us) [] vs xs h = absurd (false≢true h)
before_behind (u ∷ us) (w ∷ ws) vs xs h = step (eqb u w) (before_behind us ws vs xs) h
  where
    step : (b : Bool) → (before us ws ≡ true → before (us ++ vs) (ws ++ xs) ≡ true) → cond b (before us ws) (ltb u w) ≡ true → cond b (before (us ++ vs) (ws ++ xs)) (ltb u w) ≡ true
    step true later h = later h
    step false later h = h

-- The same words in front of both decide nothing.
pub before_same : (us vs xs : List ℕ) → before vs xs ≡ true → before (us ++ vs) (us ++ xs) ≡ true
unfolding before
before_same [] vs xs h = h
before_same (u ∷ us) vs xs h = rw (eq-eqb u u refl) (before_same us vs xs h)

-- What comes before what stands later, and never before itself, stands once.
pub order_once : {A : Type 0} (Before : A → A → Type 0) (xs : List A) → InOrder Before xs → ((x : A) → Before x x → ⊥) → NoneTwice xs
order_once Before xs order never i j x h k = by_test (ltb i j) refl (ltb j i) refl
  where
    by_test : (b : Bool) → ltb i j ≡ b → (c : Bool) → ltb j i ≡ c → i ≡ j
    by_test true l c g = absurd (never x (order i j x x h k (ltb-true i j l)))
    by_test false l true g = absurd (never x (order j i x x k h (ltb-true j i g)))
    by_test false l false g = omega (arith, ltb-false i j l, ltb-false j i g)
