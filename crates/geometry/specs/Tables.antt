-- Document 01: "Two constant tables with one entry per availability byte give the lowest free position (8 if none) and the number free."
-- Since M-102 the first is a table; the number free is counted.
use Rattle.std.specs.Prelude.{ℕ, zero, suc, ◌+◌, ◌/◌, ◌%◌, ◌^◌, List, [], ◌∷◌, Bool, cond, eqb}

-- "Availability is 8 bits; bit i set means position i is free."
abbrev pub bit : ℕ → ℕ → ℕ
bit i a = a / 2 ^ i % 2

-- The first number of which p holds among the n numbers from i on, and the number after them if it holds of none.
unfoldable pub first_from : (ℕ → Bool) → ℕ → ℕ → ℕ
first_from p i zero = i
first_from p i (suc n) =
    let later = first_from p (suc i) n in
    cond (p i) i later

-- The lowest free position, 8 if none.
abbrev pub lowest_free : ℕ → ℕ
lowest_free a = first_from (λ i. eqb (bit i a) 1) 0 8

-- The number of free positions among the first n.
unfoldable pub free_below : ℕ → ℕ → ℕ
free_below zero a = 0
free_below (suc n) a = free_below n a + bit n a

-- The number free.
abbrev pub number_free : ℕ → ℕ
number_free a = free_below 8 a

-- The n values of f from i on.
unfoldable pub tabulate : (ℕ → ℕ) → ℕ → ℕ → List ℕ
tabulate f i zero = []
tabulate f i (suc n) = f i ∷ tabulate f (suc i) n

-- The table of lowest free positions: one entry per availability byte.
unfoldable pub lowest_table : List ℕ
lowest_table = tabulate lowest_free 0 256
