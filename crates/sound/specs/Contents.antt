-- Document 01, the batch's first question: "At least 8 words, contents as laid out and within their ranges, length exact?"
-- Request M-101: "question 3 wants at least 25 words", and bad holes count under 3.
use Rattle.std.specs.Prelude.{ℕ, ◌*◌, ◌<◌, ◌≤◌, ◌≡◌, List, Bool, ◌&&◌, leb, ltb, eqb, length, get_or, take}
use Rattle.layout.specs.declared.Sizes.{Sizes}
use Rattle.layout.specs.Places.{Laid, sizes_of, allowed, get, hand, domain, treeling, entry, leaf, address, word_count}
use Rattle.board.specs.Holes.{HolesFit, hole_count, hole_words, holes_as_laid_out}
use Rattle.board.specs.NewState.{first_eight}

-- The sizes that a state's first three words name.
abbrev pub sizes_in : List ℕ → Sizes
sizes_in s = sizes_of (get_or s 0 0) (get_or s 1 0) (get_or s 2 0)

-- "then the starts of the four bodies"
abbrev pub starts_as_laid_out : Sizes → List ℕ → Bool
starts_as_laid_out z s =
    eqb (get_or s 4 0) (address z (domain 0 0))
    && eqb (get_or s 5 0) (address z (treeling 0 0))
    && eqb (get_or s 6 0) (address z (entry 0 0))
    && eqb (get_or s 7 0) (address z (leaf 0))

-- "pool hand (0 to T−1)"
unfoldable pub as_laid_out : List ℕ → Bool
as_laid_out s =
    leb 25 (length s)
    && allowed (sizes_in s)
    && ltb (get_or s 3 0) (get_or s 0 0)
    && starts_as_laid_out (sizes_in s) s
    && holes_as_laid_out (sizes_in s).frames s
    && eqb (length s) (word_count (sizes_in s))

-- The same, as facts, of sizes z.
pub record LaidOut (z : Sizes) (s : List ℕ) : Type 0 where
  pub laid : Laid z s
  pub first_eight_are : take 8 s ≡ first_eight z (get z s hand)
  pub hand_range : get z s hand < z.treelings
  pub holes_fit_lem : HolesFit z.frames (hole_count s) (hole_words s)
  pub unused_zero_lem : (j : ℕ) → 2 * hole_count s ≤ j → j < 16 → get_or (hole_words s) j 0 ≡ 0
