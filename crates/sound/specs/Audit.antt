-- Document 01: "A state passes when all of this holds", and the audit's answer: 0, 3 or 4.
use Rattle.std.specs.Prelude.{ℕ, List, Bool, cond, ◌&&◌}
use Rattle.layout.specs.declared.Sizes.{Sizes}
use Rattle.sound.specs.Contents.{sizes_in, as_laid_out}
use Rattle.sound.specs.Sentences.{words_in_range, rest_is_zero, formers_agree, chained, empties_zero, heads_own, tags_own, in_order, slots_once, holes_unmapped, pages_true}

unfoldable pub passes : Sizes → List ℕ → Bool
passes z s =
    words_in_range z s
    && rest_is_zero z s
    && formers_agree z s
    && chained z s
    && empties_zero z s
    && heads_own z s
    && tags_own z s
    && in_order z s
    && slots_once z s
    && holes_unmapped z s
    && pages_true z s

-- "contents as laid out and within their ranges, length exact? No: 3. Audit passed? No: 4."
unfoldable pub audit_number : List ℕ → ℕ
audit_number s = cond (as_laid_out s) (cond (passes (sizes_in s) s) 0 4) 3
