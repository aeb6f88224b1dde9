-- The number that a text of decimal digits says: none, where it is not digits alone or not below 2^64.
use Rattle.std.specs.Prelude.{ℕ, ◌+◌, ◌-◌, ◌*◌, ◌^◌, List, [], ◌∷◌, Bool, cond, ◌&&◌, eqb, leb, ltb, length, Option, Some, None}

-- "0" to "9"
abbrev pub is_digit : ℕ → Bool
is_digit byte = leb 48 byte && leb byte 57

-- A number with one more digit behind it, where that is below 2^64.
unfoldable pub with_digit : ℕ → ℕ → Option ℕ
with_digit value byte =
    cond (is_digit byte)
    (cond (ltb (10 * value + (byte - 48)) (2 ^ 64)) (Some (10 * value + (byte - 48))) None)
    None

-- One more byte of a text, and all that are left.
unfoldable pub with_byte : Option ℕ → ℕ → Option ℕ
with_byte None byte = None
with_byte (Some value) byte = with_digit value byte

unfoldable pub with_bytes : Option ℕ → List ℕ → Option ℕ
with_bytes n [] = n
with_bytes n (byte ∷ rest) = with_bytes (with_byte n byte) rest

unfoldable pub number_of : List ℕ → Option ℕ
number_of text = cond (eqb (length text) 0) None (with_bytes (Some 0) text)
