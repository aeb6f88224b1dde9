-- What the code of decimal numbers goes by: what is left of a text gives the whole answer.
use Prim.Native.Nat.{ℕ, ◌+◌, ◌<◌}
use native.Mathlib.Numerals.{add-one}
use native.Mathlib.Omega.{arith}
use mathlib.Core.Path.{◌≡◌, refl, ap, sym, ◌∙◌}
use mathlib.Core.List.{List, [], ◌∷◌}
use mathlib.Core.Bool.{false}
use lib.Dec.{eqb}
use lib.ListN.{length, drop, get_or}
use lib.Seq.{drop-cons, drop-length}
use borrow.Author.Tests.{ne_eqb}
use Rattle.lines.specs.Decimal.{with_digit, with_byte, with_bytes, number_of}
use Rattle.std.specs.Prelude.{Option, Some, None}

-- A text that is no number stays none.
pub none_after : (text : List ℕ) → with_bytes None text ≡ None
unfolding with_bytes with_byte
none_after [] = refl
none_after (byte ∷ rest) = none_after rest

module _ (text : List ℕ) (i : ℕ) (value : ℕ) where
  turn : i < length text → with_bytes (Some value) (drop i text) ≡ with_bytes (with_digit value (get_or text i 0)) (drop (i + 1) text)
  unfolding with_bytes with_byte
  turn h = rw (add-one, drop-cons text i 0)

  module _ (left : with_bytes (Some value) (drop i text) ≡ with_bytes (Some 0) text) where
    -- The next byte is a digit, and the number with it fits.
    pub digit_next : (next : ℕ) → i < length text → with_digit value (get_or text i 0) ≡ Some next → with_bytes (Some next) (drop (i + 1) text) ≡ with_bytes (Some 0) text
    digit_next next h e = ap (λ (n : Option ℕ). with_bytes n (drop (i + 1) text)) (sym e) ∙ sym (turn h) ∙ left

    whole : eqb (length text) 0 ≡ false → number_of text ≡ with_bytes (Some value) (drop i text)
    unfolding number_of
    whole h = rw h (sym left)

    -- It is not.
    pub no_number : i < length text → with_digit value (get_or text i 0) ≡ None → number_of text ≡ None
    no_number h e =
        whole (ne_eqb (length text) 0 (λ e. omega arith)) ∙ turn h ∙ ap (λ (n : Option ℕ). with_bytes n (drop (i + 1) text)) e ∙ none_after (drop (i + 1) text)

    -- The text has ended.
    pub number_ended : eqb (length text) 0 ≡ false → i ≡ length text → number_of text ≡ Some value
    unfolding with_bytes
    number_ended h e =
        whole h ∙ ap (λ (k : ℕ). with_bytes (Some value) (drop k text)) e ∙ ap (λ (l : List ℕ). with_bytes (Some value) l) (drop-length text)
