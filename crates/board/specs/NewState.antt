-- Document 01: "A new state has zeros after the contents and hand 0", and "Making a state; a refusal writes nothing".
use Rattle.std.specs.Prelude.{ℕ, ◌-◌, ◌/◌, List, [], ◌∷◌, ◌++◌, Bool, cond, ◌&&◌, eqb, length, replicate}
use Rattle.layout.specs.declared.Sizes.{Sizes}
use Rattle.board.specs.Holes.{holes_allowed}
use Rattle.layout.specs.Outcomes.{OutcomeOf, outcome}
use Rattle.layout.specs.Places.{domain, treeling, entry, leaf, address, word_count, allowed}

-- "T, D, P, pool hand (0 to T−1), then the starts of the four bodies": words 0 to 7.
abbrev pub first_eight : Sizes → ℕ → List ℕ
first_eight z hand =
    z.treelings
    ∷ z.domains
    ∷ z.frames
    ∷ hand
    ∷ address z (domain 0 0)
    ∷ address z (treeling 0 0)
    ∷ address z (entry 0 0)
    ∷ address z (leaf 0)
    ∷ []

-- Request M-101: "a hole count (0 to 8) and eight pairs of first frame and length; unused pairs are 0": words 8 to 24.
abbrev pub hole_contents : List ℕ → List ℕ
hole_contents hs = length hs / 2 ∷ hs ++ replicate (16 - length hs) 0

-- Words 0 to 24.
abbrev pub contents : Sizes → List ℕ → ℕ → List ℕ
contents z hs hand = first_eight z hand ++ hole_contents hs

-- "A new state has zeros after the contents and hand 0."
unfoldable pub new_state : Sizes → List ℕ → List ℕ
new_state z hs = contents z hs 0 ++ replicate (word_count z - 25) 0

-- "T, D and P allowed?", and, since request M-101, the holes.
abbrev pub board_allowed : Sizes → List ℕ → Bool
board_allowed z hs = allowed z && holes_allowed z hs

-- "No: 1. Length exact? No: 2."
unfoldable pub making : Sizes → List ℕ → List ℕ → OutcomeOf ℕ
making z hs s =
    cond (board_allowed z hs)
    (cond (eqb (length s) (word_count z)) (outcome 0 (new_state z hs)) (outcome 2 s))
    (outcome 1 s)
