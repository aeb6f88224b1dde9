-- Laws of "for all", "how many" and sums over the numbers below a bound.
-- Assumes nothing.
use Prim.Native.Nat.{ℕ, zero, suc, ◌+◌, ◌-◌, ◌*◌, ◌/◌, ◌<◌, ◌≤◌}
use mathlib.Core.Path.{◌≡◌, refl, sym, ap, ap₂, ◌∙◌}
use mathlib.Core.Bool.{Bool, true, false, cond, ◌&&◌, false≢true}
use mathlib.Core.Logic.{⊎_elim}
use native.Mathlib.Nat.{not-suc-le-zero, eq-or-lt_of_le, le_of_suc-le-suc, zero-add, add-zero, add-suc, add_assoc, mul-zero, mul-suc, mul-add, mul-one, mul-add-div, div-eq_of_lt}
use native.Mathlib.Numerals.{add-one}
use native.Mathlib.Omega.{arith}
use lib.Dec.{eqb}
use borrow.Author.Tests.{eq-eqb, ne_eqb}
use Rattle.std.proofs.lemmas.Bool.{and_from}
use Rattle.layout.specs.Bounded.{all, count, sum}
-- ---- Bool
pub use Rattle.std.proofs.lemmas.Bool.{and_parts as and_both, and_right as and_no, false_from_ne_true as is_false}

pub and_of : {a b : Bool} → a ≡ true → b ≡ true → (a && b) ≡ true
and_of {a} {b} h k = and_from a b h k

-- ---- all
pub all_at : (n : ℕ) (p : ℕ → Bool) → all n p ≡ true → (i : ℕ) → i < n → p i ≡ true
unfolding all
all_at zero p h i l = absurd (not-suc-le-zero l)
all_at (suc n) p h i l =
    let e = and_both (all n p) (p n) h in
    ⊎_elim (λ same. ap p same ∙ e.1) (λ below. all_at n p e.0 i below) (eq-or-lt_of_le (le_of_suc-le-suc l))

pub all_of : (n : ℕ) (p : ℕ → Bool) → ((i : ℕ) → i < n → p i ≡ true) → all n p ≡ true
unfolding all
all_of zero p h = refl
all_of (suc n) p h =
    and_of (all_of n p (λ i l. h i (omega arith))) (h n (omega arith))

pub all_none : (p : ℕ → Bool) → all 0 p ≡ true
unfolding all
all_none p = refl

pub all-next : (n : ℕ) (p : ℕ → Bool) → all n p ≡ true → p n ≡ true → all (n + 1) p ≡ true
unfolding all
all-next n p h k = ap (λ (m : ℕ). all m p) (add-one n) ∙ and_of h k

-- One more test joins those so far.
pub all_joined : (n : ℕ) (p : ℕ → Bool) (b : Bool) → b ≡ all n p → (b && p n) ≡ all (n + 1) p
unfolding all
all_joined n p b h = ap (λ (t : Bool). t && p n) h ∙ sym (ap (λ (k : ℕ). all k p) (add-one n))

-- One that fails below the bound is enough.
pub all_fails : (n : ℕ) (p : ℕ → Bool) (i : ℕ) → i < n → p i ≡ false → all n p ≡ false
all_fails n p i l h = is_false (all n p) (λ t. false≢true (sym h ∙ all_at n p t i l))

pub all_cong : (n : ℕ) (p q : ℕ → Bool) → ((i : ℕ) → i < n → p i ≡ q i) → all n p ≡ all n q
unfolding all
all_cong zero p q h = refl
all_cong (suc n) p q h = ap₂ ◌&&◌ (all_cong n p q (λ i l. h i (omega arith))) (h n (omega arith))

-- Over n numbers and m more.
pub all_plus : (n m : ℕ) (p : ℕ → Bool) → all n p ≡ true → all m (λ j. p (n + j)) ≡ true → all (n + m) p ≡ true
unfolding all
all_plus n zero p h k = ap (λ (i : ℕ). all i p) (add-zero n) ∙ h
all_plus n (suc m) p h k =
    let both = and_both (all m (λ j. p (n + j))) (p (n + m)) k in
    ap (λ (i : ℕ). all i p) (add-suc n m) ∙ and_of (all_plus n m p h both.0) both.1

-- ---- sum
pub sum_none : (f : ℕ → ℕ) → sum 0 f ≡ 0
unfolding sum
sum_none f = refl

pub sum_suc : (n : ℕ) (f : ℕ → ℕ) → sum (suc n) f ≡ sum n f + f n
unfolding sum
sum_suc n f = refl

pub sum-next : (n : ℕ) (f : ℕ → ℕ) → sum (n + 1) f ≡ sum n f + f n
sum-next n f = ap (λ (m : ℕ). sum m f) (add-one n) ∙ sum_suc n f

pub sum_cong : (n : ℕ) (f g : ℕ → ℕ) → ((i : ℕ) → i < n → f i ≡ g i) → sum n f ≡ sum n g
unfolding sum
sum_cong zero f g h = refl
sum_cong (suc n) f g h = ap₂ ◌+◌ (sum_cong n f g (λ i l. h i (omega arith))) (h n (omega arith))

pub sum_add : (n : ℕ) (f g : ℕ → ℕ) → sum n (λ i. f i + g i) ≡ sum n f + sum n g
unfolding sum
sum_add zero f g = refl
sum_add (suc n) f g = let ih = sum_add n f g in omega arith

pub sum_zero : (n : ℕ) → sum n (λ _. 0) ≡ 0
unfolding sum
sum_zero zero = refl
sum_zero (suc n) = let ih = sum_zero n in omega arith

-- The same sum, by rows or by columns.
pub sum_swap : (n m : ℕ) (f : ℕ → ℕ → ℕ) → sum n (λ i. sum m (λ j. f i j)) ≡ sum m (λ j. sum n (λ i. f i j))
unfolding sum
sum_swap zero m f = sym (sum_zero m)
sum_swap (suc n) m f =
    ap (λ (k : ℕ). k + sum m (λ j. f n j)) (sum_swap n m f) ∙ sym (sum_add m (λ j. sum n (λ i. f i j)) (λ j. f n j))

-- A condition of the whole sum is one of each term.
pub sum_cond : (n : ℕ) (b : Bool) (f : ℕ → ℕ) → sum n (λ i. cond b (f i) 0) ≡ cond b (sum n f) 0
sum_cond n true f = refl
sum_cond n false f = sum_zero n

pub sum_const : (n c : ℕ) → sum n (λ _. c) ≡ c * n
unfolding sum
sum_const zero c = sym (mul-zero c)
sum_const (suc n) c = ap (λ (k : ℕ). k + c) (sum_const n c) ∙ sym (mul-suc c n)

pub sum_times : (n c : ℕ) (f : ℕ → ℕ) → sum n (λ i. c * f i) ≡ c * sum n f
unfolding sum
sum_times zero c f = sym (mul-zero c)
sum_times (suc n) c f = ap (λ (k : ℕ). k + c * f n) (sum_times n c f) ∙ sym (mul-add c (sum n f) (f n))

pub sum_le : (n : ℕ) (f g : ℕ → ℕ) → ((i : ℕ) → i < n → f i ≤ g i) → sum n f ≤ sum n g
unfolding sum
sum_le zero f g h = omega arith
sum_le (suc n) f g h =
    let ih = sum_le n f g (λ i l. h i (omega arith)) in
    let one = h n (omega arith) in
    omega arith

-- A sum of the one term at x: nothing where x is not below the bound.
sum_off : (n x : ℕ) (f : ℕ → ℕ) → n ≤ x → sum n (λ i. cond (eqb x i) (f i) 0) ≡ 0
sum_off n x f h =
    sum_cong n (λ i. cond (eqb x i) (f i) 0) (λ _. 0) (λ i l. ap (λ (b : Bool). cond b (f i) 0) (ne_eqb x i (λ e. omega arith)))
    ∙ sum_zero n

-- And that term where it is.
pub sum_at : (n x : ℕ) (f : ℕ → ℕ) → x < n → sum n (λ i. cond (eqb x i) (f i) 0) ≡ f x
unfolding sum
sum_at zero x f h = absurd (not-suc-le-zero h)
sum_at (suc n) x f h =
    ⊎_elim
    (λ same. ap₂ ◌+◌ (sum_off n x f (omega arith)) (ap (λ (b : Bool). cond b (f n) 0) (eq-eqb x n same)) ∙ zero-add (f n) ∙ ap f (sym same))
    (λ below. ap₂ ◌+◌ (sum_at n x f below) (ap (λ (b : Bool). cond b (f n) 0) (ne_eqb x n (λ e. omega arith))) ∙ add-zero (f x))
    (eq-or-lt_of_le (le_of_suc-le-suc h))

-- A term is at most the sum.
pub sum_term : (n : ℕ) (f : ℕ → ℕ) (x : ℕ) → x < n → f x ≤ sum n f
sum_term n f x h =
    omega (arith, sum_at n x f h, sum_le n (λ i. cond (eqb x i) (f i) 0) f (λ i _. part (eqb x i) (f i)))
  where
    part : (b : Bool) (k : ℕ) → cond b k 0 ≤ k
    part true k = omega arith
    part false k = omega arith

-- A sum over n numbers and m more.
pub sum_plus : (n m : ℕ) (f : ℕ → ℕ) → sum (n + m) f ≡ sum n f + sum m (λ j. f (n + j))
unfolding sum
sum_plus n zero f = ap (λ (k : ℕ). sum k f) (add-zero n) ∙ sym (add-zero (sum n f))
sum_plus n (suc m) f =
    ap (λ (k : ℕ). sum k f) (add-suc n m)
    ∙ ap (λ (k : ℕ). k + f (n + m)) (sum_plus n m f)
    ∙ add_assoc (sum n f) (sum m (λ j. f (n + j))) (f (n + m))

-- A sum over n rows of m numbers each.
pub sum_rows : (m n : ℕ) (f : ℕ → ℕ) → sum (m * n) f ≡ sum n (λ i. sum m (λ j. f (m * i + j)))
unfolding sum
sum_rows m zero f = ap (λ (k : ℕ). sum k f) (mul-zero m)
sum_rows m (suc n) f =
    ap (λ (k : ℕ). sum k f) (mul-suc m n)
    ∙ sum_plus (m * n) m f
    ∙ ap (λ (k : ℕ). k + sum m (λ j. f (m * n + j))) (sum_rows m n f)

-- The same, over some of the rows.
pub sum_rows_where : (m n : ℕ) (p : ℕ → Bool) (f : ℕ → ℕ) → 0 < m
    → sum (m * n) (λ y. cond (p (y / m)) (f y) 0) ≡ sum n (λ i. cond (p i) (sum m (λ j. f (m * i + j))) 0)
sum_rows_where m n p f h =
    sum_rows m n (λ y. cond (p (y / m)) (f y) 0)
    ∙ sum_cong n (λ i. sum m (λ j. cond (p ((m * i + j) / m)) (f (m * i + j)) 0)) (λ i. cond (p i) (sum m (λ j. f (m * i + j))) 0) (λ i _. of_row i)
  where
    row : (i j : ℕ) → j < m → (m * i + j) / m ≡ i
    row i j l = mul-add-div h i j ∙ ap (λ (k : ℕ). i + k) (div-eq_of_lt l) ∙ add-zero i

    of_row : (i : ℕ) → sum m (λ j. cond (p ((m * i + j) / m)) (f (m * i + j)) 0) ≡ cond (p i) (sum m (λ j. f (m * i + j))) 0
    of_row i =
        sum_cong m (λ j. cond (p ((m * i + j) / m)) (f (m * i + j)) 0) (λ j. cond (p i) (f (m * i + j)) 0) (λ j l. ap (λ (k : ℕ). cond (p k) (f (m * i + j)) 0) (row i j l))
        ∙ sum_cond m (p i) (λ j. f (m * i + j))

-- ---- count
pub count_none : (p : ℕ → Bool) → count 0 p ≡ 0
unfolding count
count_none p = refl

pub count_suc : (n : ℕ) (p : ℕ → Bool) → count (suc n) p ≡ count n p + cond (p n) 1 0
unfolding count
count_suc n p = refl

pub count_next : (n : ℕ) (p : ℕ → Bool) → count (n + 1) p ≡ count n p + cond (p n) 1 0
count_next n p = ap (λ (m : ℕ). count m p) (add-one n) ∙ count_suc n p

pub count-sum : (n : ℕ) (p : ℕ → Bool) → count n p ≡ sum n (λ i. cond (p i) 1 0)
unfolding count sum
count-sum zero p = refl
count-sum (suc n) p = ap (λ (k : ℕ). k + cond (p n) 1 0) (count-sum n p)

pub count_cong : (n : ℕ) (p q : ℕ → Bool) → ((i : ℕ) → i < n → p i ≡ q i) → count n p ≡ count n q
unfolding count
count_cong zero p q h = refl
count_cong (suc n) p q h =
    ap₂ (λ (k : ℕ) (b : Bool). k + cond b 1 0) (count_cong n p q (λ i l. h i (omega arith))) (h n (omega arith))

-- More are counted below a larger bound.
pub count_mono : (n m : ℕ) (p : ℕ → Bool) → count n p ≤ count (n + m) p
unfolding count
count_mono n zero p = rw (native.Mathlib.Nat.add-zero) (omega arith)
count_mono n (suc m) p =
    let ih = count_mono n m p in
    rw (native.Mathlib.Nat.add-suc) (omega arith)

pub count_le : (n m : ℕ) (p : ℕ → Bool) → n ≤ m → count n p ≤ count m p
count_le n m p h =
    let sum : n + (m - n) ≡ m = omega arith in
    omega (arith, count_mono n (m - n) p, ap (λ (k : ℕ). count k p) sum)

pub count_no : (n : ℕ) (p : ℕ → Bool) → ((i : ℕ) → i < n → p i ≡ false) → count n p ≡ 0
count_no n p h =
    count_cong n p (λ _. false) h ∙ count-sum n (λ _. false) ∙ sum_zero n

pub count_plus : (n m : ℕ) (p : ℕ → Bool) → count (n + m) p ≡ count n p + count m (λ j. p (n + j))
count_plus n m p =
    count-sum (n + m) p ∙ sum_plus n m (λ i. cond (p i) 1 0) ∙ sym (ap₂ ◌+◌ (count-sum n p) (count-sum m (λ j. p (n + j))))

-- One that p holds of is counted.
pub count_some : (n : ℕ) (p : ℕ → Bool) (i : ℕ) → i < n → p i ≡ true → 0 < count n p
count_some n p i l h =
    omega (arith, count_next i p, ap {B = ℕ} (λ (b : Bool). cond b 1 0) h, count_le (i + 1) n p (omega arith))

-- Where some are counted, p holds of one.
pub count_found : (n : ℕ) (p : ℕ → Bool) → 0 < count n p → (i : ℕ) × (i < n) × (p i ≡ true)
unfolding count
count_found zero p h = absurd (not-suc-le-zero h)
count_found (suc n) p h = go (p n) refl (count_found n p)
  where
    go : (b : Bool) → p n ≡ b → (0 < count n p → (i : ℕ) × (i < n) × (p i ≡ true)) → (i : ℕ) × (i < suc n) × (p i ≡ true)
    go true e below = (n, omega arith, e)
    go false e below =
        let w = below (omega (arith, ap {B = ℕ} (λ (b : Bool). cond b 1 0) e)) in
        (w.0, omega arith, w.2)

-- Where none is counted, p holds of none.
pub count_zero : (n : ℕ) (p : ℕ → Bool) → count n p ≡ 0 → (i : ℕ) → i < n → p i ≡ false
count_zero n p h i l = is_false (p i) (λ t. omega (arith, count_some n p i l t))

-- Where two terms make c together at each number that p holds of, their sums make c for each of these numbers.
pub sum_parts : (n c : ℕ) (p : ℕ → Bool) (f g : ℕ → ℕ) → ((i : ℕ) → i < n → p i ≡ true → f i + g i ≡ c)
    → sum n (λ i. cond (p i) (f i) 0) + sum n (λ i. cond (p i) (g i) 0) ≡ c * count n p
sum_parts n c p f g h =
    sym (sum_add n (λ i. cond (p i) (f i) 0) (λ i. cond (p i) (g i) 0))
    ∙ sum_cong n (λ i. cond (p i) (f i) 0 + cond (p i) (g i) 0) (λ i. c * cond (p i) 1 0) (λ i l. parts (p i) (f i) (g i) (h i l))
    ∙ sum_times n c (λ i. cond (p i) 1 0)
    ∙ ap (λ (k : ℕ). c * k) (sym (count-sum n p))
  where
    parts : (b : Bool) (x y : ℕ) → (b ≡ true → x + y ≡ c) → cond b x 0 + cond b y 0 ≡ c * cond b 1 0
    parts true x y k = k refl ∙ sym (mul-one c)
    parts false x y k = sym (mul-zero c)

-- Double counting: each of n things counts some of the numbers below m, of those that q holds of; in all they count each number as often as things count it.
pub count_twice : (n m : ℕ) (v : ℕ → ℕ) (q : ℕ → Bool) (p : ℕ → ℕ → Bool)
    → ((j : ℕ) → j < n → v j ≡ sum m (λ y. cond (q y) (cond (p j y) 1 0) 0))
    → sum n v ≡ sum m (λ y. cond (q y) (count n (λ j. p j y)) 0)
count_twice n m v q p h =
    sum_cong n v (λ j. sum m (λ y. cond (q y) (cond (p j y) 1 0) 0)) h
    ∙ sum_swap n m (λ j y. cond (q y) (cond (p j y) 1 0) 0)
    ∙ sum_cong m (λ y. sum n (λ j. cond (q y) (cond (p j y) 1 0) 0)) (λ y. cond (q y) (count n (λ j. p j y)) 0)
    (λ y _. sum_cond n (q y) (λ j. cond (p j y) 1 0) ∙ ap (λ (k : ℕ). cond (q y) k 0) (sym (count-sum n (λ j. p j y))))
