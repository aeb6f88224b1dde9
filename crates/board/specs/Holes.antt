-- Request M-101, "Holes in the frame space": device windows below P, where no page may lie.
-- n holes are told by words hs, two a hole: its first frame, then its length.
use Rattle.std.specs.Prelude.{ℕ, suc, ◌+◌, ◌-◌, ◌*◌, ◌/◌, ◌%◌, ◌<◌, ◌≤◌, ◌≡◌, List, Bool, not, ◌&&◌, eqb, leb, ltb, length, get_or, drop}
use Rattle.layout.specs.declared.Sizes.{Sizes}
use Rattle.layout.specs.Bounded.{all}

-- "pairs of first frame and length"; and the frame after the last one of hole i.
abbrev pub hole_first : List ℕ → ℕ → ℕ
hole_first hs i = get_or hs (2 * i) 0

abbrev pub hole_length : List ℕ → ℕ → ℕ
hole_length hs i = get_or hs (2 * i + 1) 0

abbrev pub hole_end : List ℕ → ℕ → ℕ
hole_end hs i = hole_first hs i + hole_length hs i

-- "a hole count (0 to 8)"
abbrev pub at_most_eight : ℕ → Bool
at_most_eight n = leb n 8

-- "Holes are ascending,"
abbrev pub ascending : ℕ → List ℕ → Bool
ascending n hs = all (n - 1) (λ i. ltb (hole_first hs i) (hole_first hs (suc i)))

-- "disjoint": each ends where the next begins, or before.
abbrev pub disjoint : ℕ → List ℕ → Bool
disjoint n hs = all (n - 1) (λ i. leb (hole_end hs i) (hole_first hs (suc i)))

-- "not empty"
abbrev pub not_empty : ℕ → List ℕ → Bool
not_empty n hs = all n (λ i. ltb 0 (hole_length hs i))

-- "and below P": first and length, added without wrapping, are at most P.
abbrev pub end_below : ℕ → ℕ → List ℕ → Bool
end_below p n hs = all n (λ i. leb (hole_end hs i) p)

-- All of it, of P frames.
unfoldable pub holes_fit : ℕ → ℕ → List ℕ → Bool
holes_fit p n hs = at_most_eight n && ascending n hs && disjoint n hs && not_empty n hs && end_below p n hs

-- The same, as facts.
pub record HolesFit (p n : ℕ) (hs : List ℕ) : Type 0 where
  pub at_most : n ≤ 8
  pub ascend : (i : ℕ) → suc i < n → hole_first hs i < hole_first hs (suc i)
  pub apart : (i : ℕ) → suc i < n → hole_end hs i ≤ hole_first hs (suc i)
  pub some : (i : ℕ) → i < n → 0 < hole_length hs i
  pub below : (i : ℕ) → i < n → hole_end hs i ≤ p

-- "A legal frame is now one below P outside all holes": frame f lies in hole i; it lies in none of n.
abbrev pub lies_in : List ℕ → ℕ → ℕ → Bool
lies_in hs f i = leb (hole_first hs i) f && ltb f (hole_end hs i)

unfoldable pub outside_all : ℕ → List ℕ → ℕ → Bool
outside_all n hs f = all n (λ i. not (lies_in hs f i))

-- "Making a state takes the pairs": an even number of words.
abbrev pub holes_allowed : Sizes → List ℕ → Bool
holes_allowed z hs = eqb (length hs % 2) 0 && holes_fit z.frames (length hs / 2) hs

-- The same, as facts.
pub record HolesAllowed (z : Sizes) (hs : List ℕ) : Type 0 where
  pub even : length hs % 2 ≡ 0
  pub fit : HolesFit z.frames (length hs / 2) hs

-- Of a state s: "The count is word 8, the pairs words 9 to 24": the number of holes, and their words from word 9 on.
abbrev pub hole_count : List ℕ → ℕ
hole_count s = get_or s 8 0

abbrev pub hole_words : List ℕ → List ℕ
hole_words s = drop 9 s

-- "unused pairs are 0"
abbrev pub unused_zero : List ℕ → Bool
unused_zero s = all (16 - 2 * hole_count s) (λ j. eqb (get_or (hole_words s) (2 * hole_count s + j) 0) 0)

-- Question 3, of the holes of a state with P frames.
unfoldable pub holes_as_laid_out : ℕ → List ℕ → Bool
holes_as_laid_out p s = holes_fit p (hole_count s) (hole_words s) && unused_zero s

-- Frame f lies in no hole of state s.
abbrev pub outside : List ℕ → ℕ → Bool
outside s f = outside_all (hole_count s) (hole_words s) f
