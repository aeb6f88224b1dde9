-- Laws of the numbers below m parted by a test: those of which it holds first, then the others. Each number is there once.
-- Assumes nothing.
use Prim.Native.Nat.{ℕ, zero, suc, ◌+◌, ◌-◌, ◌<◌, ◌≤◌}
use mathlib.Core.Path.{◌≡◌, refl, sym, ap, ap₂, subst, ◌∙◌}
use mathlib.Core.List.{List, [], ◌∷◌, ◌++◌}
use mathlib.Core.Bool.{Bool, true, false, cond, not}
use mathlib.Core.Logic.{⊎_elim}
use native.Mathlib.Nat.{add-zero, eq-or-lt_of_le}
use native.Mathlib.Numerals.{add-one}
use native.Mathlib.Omega.{arith}
use borrow.Author.Tests.{not-true}
use lib.ListN.{get_or}
use lib.Seq.{get_or_at, get_or-append-add}
use Rattle.std.proofs.lemmas.Bool.{cases_lt}
use Rattle.std.proofs.Math.ListN.{get_or-append}
use Rattle.layout.specs.Bounded.{count, sum}
use Rattle.layout.proofs.BoundedLaws.{sum_cong, sum_add, sum_plus, count_next, count_le}
use Rattle.gathering.specs.Regathering.{select}
use Rattle.gathering.proofs.GatherListLaws.{select_yes, select_no, select-length, count_both}

-- One that p holds of is counted after those before it.
pub count_less : (m : ℕ) (p : ℕ → Bool) (i : ℕ) → i < m → p i ≡ true → count i p < count m p
count_less m p i l e =
    omega (arith, count_next i p, ap {B = ℕ} (λ (b : Bool). cond b 1 0) e, count_le (i + 1) m p (omega arith))

-- What holds of each number below m that p holds of, at its place among them, holds of each selected one.
select_each : (p : ℕ → Bool) (P : ℕ → ℕ → Type 0) (m : ℕ) → ((x : ℕ) → x < m → p x ≡ true → P (count x p) x) → (i : ℕ) → i < count m p → P i (get_or (select p m) i 0)
unfolding count
select_each p P zero h i l = absurd (omega arith)
select_each p P (suc m) h i l = by_test (select_each p P m (λ x k. h x (omega arith)) i) (p m) refl
  where
    by_test : (i < count m p → P i (get_or (select p m) i 0)) → (b : Bool) → p m ≡ b → P i (get_or (select p (suc m)) i 0)
    by_test ih true e =
        let most : i ≤ count m p = omega (arith, l, ap (λ (b : Bool). count m p + cond b 1 0) e) in
        rw (select_yes p m e)
        (⊎_elim
        (λ k. rw (get_or_at (select p m) m [] 0 i (select-length p m ∙ sym k)) (subst (λ (c : ℕ). P c m) (sym k) (h m (omega arith) e)))
        (λ k. rw (get_or-append (select p m) (m ∷ []) 0 i (rw (select-length p m) k)) (ih k))
        (eq-or-lt_of_le most))
    by_test ih false e =
        let less : i < count m p = omega (arith, l, ap (λ (b : Bool). count m p + cond b 1 0) e) in
        rw (select_no p m e) (ih less)

-- The selected one at place i is below m, p holds of it, and i are before it.
pub select_is : (p : ℕ → Bool) (m i : ℕ) → i < count m p → (get_or (select p m) i 0 < m) × (p (get_or (select p m) i 0) ≡ true) × (count (get_or (select p m) i 0) p ≡ i)
select_is p m i l = select_each p (λ c x. (x < m) × (p x ≡ true) × (count x p ≡ c)) m (λ x k e. (k, e, refl)) i l

-- One that p holds of is at the place that those before it leave.
pub select_at : (p : ℕ → Bool) (m x : ℕ) → x < m → p x ≡ true → get_or (select p m) (count x p) 0 ≡ x
select_at p m x l e =
    let y = get_or (select p m) (count x p) 0 in
    let is = select_is p m (count x p) (count_less m p x l e) in
    ⊎_elim
    (λ less. absurd (omega (arith, count_less x p y less is.1, is.2)))
    (λ most. ⊎_elim (λ less. absurd (omega (arith, count_less y p x less e, is.2))) (λ same. omega arith) (cases_lt x y))
    (cases_lt y x)

-- A sum over the selected ones.
select-sum : (p : ℕ → Bool) (v : ℕ → ℕ) (m : ℕ) → sum (count m p) (λ j. v (get_or (select p m) j 0)) ≡ sum m (λ x. cond (p x) (v x) 0)
unfolding count sum
select-sum p v zero = refl
select-sum p v (suc m) = by_test (select-sum p v m) (p m) refl
  where
    by_test : sum (count m p) (λ j. v (get_or (select p m) j 0)) ≡ sum m (λ x. cond (p x) (v x) 0) → (b : Bool) → p m ≡ b
        → sum (count m p + cond b 1 0) (λ j. v (get_or (select p (suc m)) j 0)) ≡ sum m (λ x. cond (p x) (v x) 0) + cond b (v m) 0
    by_test ih true e =
        let more = select_yes p m e in
        ap (λ (k : ℕ). sum k (λ j. v (get_or (select p (suc m)) j 0))) (add-one (count m p))
        ∙ ap₂ ◌+◌
        (sum_cong (count m p) (λ j. v (get_or (select p (suc m)) j 0)) (λ j. v (get_or (select p m) j 0))
        (λ j l. ap v (ap (λ (q : List ℕ). get_or q j 0) more ∙ get_or-append (select p m) (m ∷ []) 0 j (rw (select-length p m) l)))
        ∙ ih)
        (ap v (ap (λ (q : List ℕ). get_or q (count m p) 0) more ∙ get_or_at (select p m) m [] 0 (count m p) (select-length p m)))
    by_test ih false e =
        ap (λ (k : ℕ). sum k (λ j. v (get_or (select p (suc m)) j 0))) (add-zero (count m p))
        ∙ ap (λ (q : List ℕ). sum (count m p) (λ j. v (get_or q j 0))) (select_no p m e)
        ∙ ih
        ∙ sym (add-zero (sum m (λ x. cond (p x) (v x) 0)))

-- ---- Parted
module _ (p : ℕ → Bool) (m : ℕ) where
  abbrev pub parted : List ℕ
  parted = select p m ++ select (λ x. not (p x)) m

  -- The first of them are those that p holds of,
  parted_left : (j : ℕ) → j < count m p → get_or parted j 0 ≡ get_or (select p m) j 0
  parted_left j l = get_or-append (select p m) (select (λ x. not (p x)) m) 0 j (rw (select-length p m) l)

  pub parted_first : (j : ℕ) → j < count m p → (get_or parted j 0 < m) × (p (get_or parted j 0) ≡ true)
  parted_first j l =
      rw (parted_left j l) (select_each p (λ _ x. (x < m) × (p x ≡ true)) m (λ x k e. (k, e)) j l)

  -- the rest are the others,
  parted_right : (j : ℕ) → get_or parted (count m p + j) 0 ≡ get_or (select (λ x. not (p x)) m) j 0
  parted_right j =
      ap (λ (k : ℕ). get_or parted (k + j) 0) (sym (select-length p m)) ∙ get_or-append-add (select p m) (select (λ x. not (p x)) m) j 0

  pub parted_rest : (j : ℕ) → count m p ≤ j → j < m → (get_or parted j 0 < m) × (p (get_or parted j 0) ≡ false)
  parted_rest j low l =
      let is : count m p + (j - count m p) ≡ j = omega arith in
      subst (λ (x : ℕ). (x < m) × (p x ≡ false)) (sym (parted_right (j - count m p)) ∙ ap (λ (k : ℕ). get_or parted k 0) is)
      (select_each (λ x. not (p x)) (λ _ x. (x < m) × (p x ≡ false)) m (λ x k e. (k, not-true (p x) e)) (j - count m p) (omega (arith, count_both p m)))

  -- and each number below m is there once.
  pub parted_sum : (v : ℕ → ℕ) → sum m (λ j. v (get_or parted j 0)) ≡ sum m v
  parted_sum v =
      ap (λ (k : ℕ). sum k (λ j. v (get_or parted j 0))) (sym (count_both p m))
      ∙ sum_plus (count m p) (count m (λ x. not (p x))) (λ j. v (get_or parted j 0))
      ∙ ap₂ ◌+◌
      (sum_cong (count m p) (λ j. v (get_or parted j 0)) (λ j. v (get_or (select p m) j 0)) (λ j l. ap v (parted_left j l)) ∙ select-sum p v m)
      (sum_cong (count m (λ x. not (p x))) (λ j. v (get_or parted (count m p + j) 0)) (λ j. v (get_or (select (λ x. not (p x)) m) j 0)) (λ j _. ap v (parted_right j)) ∙ select-sum (λ x. not (p x)) v m)
      ∙ sym (sum_add m (λ x. cond (p x) (v x) 0) (λ x. cond (not (p x)) (v x) 0))
      ∙ sum_cong m (λ x. cond (p x) (v x) 0 + cond (not (p x)) (v x) 0) v (λ x _. either_way (p x) (v x))
    where
      either_way : (b : Bool) (n : ℕ) → cond b n 0 + cond (not b) n 0 ≡ n
      either_way true n = omega arith
      either_way false n = omega arith
