-- Laws of the numbers of which a test holds, in order.
-- Assumes nothing.
use Prim.Native.Nat.{ℕ, zero, suc, ◌+◌, ◌<◌, ◌≤◌}
use mathlib.Core.Path.{◌≡◌, refl, sym, ap, ap₂, ◌∙◌}
use mathlib.Core.List.{List, [], ◌∷◌, ◌++◌, append-nil}
use mathlib.Core.Bool.{Bool, true, false, cond, not}
use mathlib.Core.Logic.{⊎_elim}
use native.Mathlib.Nat.{eq-or-lt_of_le}
use native.Mathlib.Omega.{arith}
use lib.ListN.{length, get_or, length-append, get_or-append}
use lib.Seq.{get_or_at}
use Rattle.layout.specs.Bounded.{count}
use Rattle.gathering.specs.Regathering.{select}

-- The next number is one of them, or not.
pub select_yes : (p : ℕ → Bool) (m : ℕ) → p m ≡ true → select p (suc m) ≡ select p m ++ m ∷ []
unfolding select
select_yes p m e = ap (λ (b : Bool). select p m ++ cond b (m ∷ []) []) e

pub select_no : (p : ℕ → Bool) (m : ℕ) → p m ≡ false → select p (suc m) ≡ select p m
unfolding select
select_no p m e = ap (λ (b : Bool). select p m ++ cond b (m ∷ []) []) e ∙ append-nil (select p m)

-- They are as many as are counted.
pub select-length : (p : ℕ → Bool) (m : ℕ) → length (select p m) ≡ count m p
unfolding select count
select-length p zero = refl
select-length p (suc m) =
    length-append (select p m) (cond (p m) (m ∷ []) []) ∙ ap₂ ◌+◌ (select-length p m) (by_test (p m))
  where
    by_test : (b : Bool) → length (cond b (m ∷ []) []) ≡ cond b 1 0
    by_test true = refl
    by_test false = refl

-- The same test, the same numbers.
pub select_cong : (p q : ℕ → Bool) (m : ℕ) → ((i : ℕ) → i < m → p i ≡ q i) → select p m ≡ select q m
unfolding select
select_cong p q zero f = refl
select_cong p q (suc m) f =
    ap₂ (λ (l : List ℕ) (b : Bool). l ++ cond b (m ∷ []) []) (select_cong p q m (λ i l. f i (omega arith))) (f m (omega arith))

-- Each of them is below m.
pub select_below : (p : ℕ → Bool) (m i : ℕ) → i < count m p → get_or (select p m) i 0 < m
unfolding count
select_below p zero i l = absurd (omega arith)
select_below p (suc m) i l = by_test (λ k. select_below p m i k) (p m) refl
  where
    by_test : (i < count m p → get_or (select p m) i 0 < m) → (b : Bool) → p m ≡ b → get_or (select p (suc m)) i 0 < suc m
    by_test ih true e =
        let most : i ≤ count m p = omega (arith, l, ap (λ (b : Bool). count m p + cond b 1 0) e) in
        rw (select_yes p m e)
        (⊎_elim
        (λ k. rw (get_or_at (select p m) m [] 0 i (select-length p m ∙ sym k)) (omega arith))
        (λ k. rw (get_or-append (select p m) (m ∷ []) 0 i (rw (select-length p m) k)) (omega (arith, ih k)))
        (eq-or-lt_of_le most))
    by_test ih false e =
        let less : i < count m p = omega (arith, l, ap (λ (b : Bool). count m p + cond b 1 0) e) in
        rw (select_no p m e) (omega (arith, ih less))

-- Those of which it holds and those of which it does not are all.
pub count_both : (p : ℕ → Bool) (m : ℕ) → count m p + count m (λ i. not (p i)) ≡ m
unfolding count
count_both p zero = refl
count_both p (suc m) = let ih = count_both p m in by_test (p m) ih
  where
    by_test : (b : Bool) → count m p + count m (λ i. not (p i)) ≡ m → count m p + cond b 1 0 + (count m (λ i. not (p i)) + cond (not b) 1 0) ≡ suc m
    by_test true e = omega arith
    by_test false e = omega arith
