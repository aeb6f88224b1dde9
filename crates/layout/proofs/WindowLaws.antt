-- Words read one by one are a part of the list.
-- Assumes nothing.
use Prim.Native.Nat.{ℕ, zero, suc, ◌+◌, ◌<◌, ◌≤◌}
use mathlib.Core.Path.{◌≡◌, refl, sym, ap, ◌∙◌}
use mathlib.Core.List.{List, [], ◌∷◌}
use native.Mathlib.Numerals.{towards_suc}
use native.Mathlib.Omega.{arith}
use lib.ListN.{length, get_or, take, drop}
use lib.Seq.{drop-cons}

-- The words of s at the n places from a on.
abbrev pub window : List ℕ → ℕ → ℕ → List ℕ
window s a zero = []
window s a (suc n) = get_or s a 0 ∷ window s (suc a) n

pub window_part : (s : List ℕ) (a n : ℕ) → a + n ≤ length s → window s a n ≡ take n (drop a s)
window_part s a zero h = refl
window_part s a (suc n) h =
    let first : a < length s = omega arith in
    let rest : suc a + n ≤ length s = omega arith in
    ap (λ (l : List ℕ). get_or s a 0 ∷ l) (window_part s (suc a) n rest)
    ∙ sym (ap (λ (l : List ℕ). take (suc n) l) (drop-cons s a 0 first))

pub eight_read : (s : List ℕ) (a : ℕ) → a + 8 ≤ length s
    → get_or s a 0 ∷ get_or s (a + 1) 0 ∷ get_or s (a + 2) 0 ∷ get_or s (a + 3) 0 ∷ get_or s (a + 4) 0 ∷ get_or s (a + 5) 0 ∷ get_or s (a + 6) 0 ∷ get_or s (a + 7) 0 ∷ [] ≡ take 8 (drop a s)
eight_read s a h = simp towards_suc (window_part s a 8 h)
