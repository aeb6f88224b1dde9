-- Document 01: "An answer is 8: number, rank, path nodes of levels 1 to 4, position, pages."
use Rattle.std.specs.Prelude.{ℕ, ◌≡◌, List, [], ◌∷◌, ◌++◌, Result, Ok, Err}
use Rattle.layout.specs.declared.Sizes.{Sizes}
use Rattle.geometry.specs.Geometry.{path_of}
use Rattle.leaf_map.specs.declared.LeafId.{LeafId}
use Rattle.leaf_map.specs.LeafIds.{treeling_of, slot_of, position_of_leaf}
use Rattle.layout.specs.Outcomes.{OutcomeOf, outcome}
use Rattle.layout.specs.Places.{get, rank}
use Rattle.pages.specs.declared.Done.{Done}
use Rattle.pages.specs.declared.Done.TheVariants as done
use Rattle.pages.specs.declared.Refusal.{Refusal}
use Rattle.pages.specs.declared.Refusal.TheVariants.{Malformed, DomainOutOfRange, FramesOutOfRange, InHole, AlreadyLive, NotLive, FrameMapped, NoPlace, NotMappedByDomain}

-- The answer to a single call: refused by the question of a number; finished, with the pages mapped or released, or the TreeLings returned; a page's leaf ID, the rank of its TreeLing and the pages mapped; the quotient, the remainder and the slots of a domain's fill.
pub data Answer : Type 0 where
  Refused : ℕ → Answer
  Finished : ℕ → Answer
  Page : LeafId → ℕ → ℕ → Answer
  Fill : ℕ → ℕ → ℕ → Answer

-- The number of the question that a refusal of the code is by.
abbrev pub refusal_number : Refusal → ℕ
refusal_number Malformed = 7
refusal_number DomainOutOfRange = 8
refusal_number FramesOutOfRange = 9
refusal_number InHole = 16
refusal_number AlreadyLive = 10
refusal_number NotLive = 11
refusal_number FrameMapped = 12
refusal_number NoPlace = 13
refusal_number NotMappedByDomain = 14

-- The answer that the code's is.
abbrev pub answer_of_done : Done → Answer
answer_of_done (done.Finished pages) = Finished pages
answer_of_done (done.Page id rank pages) = Page id rank pages
answer_of_done (done.Fill quotient remainder slots) = Fill quotient remainder slots

abbrev pub answer_of : Result Done Refusal → Answer
answer_of (Ok d) = answer_of_done d
answer_of (Err r) = Refused (refusal_number r)

-- "Map and path fill every word, path with pages 0; other done calls give number 0 and pages, open with pages 0, and zeros between."
-- "A refused answer has zeros after its number."
-- Request M-107: "quotient, remainder and slots in the rank, root and level 2 words"; "Without TreeLings all are 0, as are the other words always."
unfoldable pub answer_words : Answer → List ℕ
answer_words (Refused n) = n ∷ 0 ∷ 0 ∷ 0 ∷ 0 ∷ 0 ∷ 0 ∷ 0 ∷ []
answer_words (Finished pages) = 0 ∷ 0 ∷ 0 ∷ 0 ∷ 0 ∷ 0 ∷ 0 ∷ pages ∷ []
answer_words (Page id rank pages) =
    0 ∷ rank ∷ path_of (treeling_of id.0) (slot_of id.0) ++ position_of_leaf id.0 ∷ pages ∷ []
answer_words (Fill quotient remainder slots) = 0 ∷ quotient ∷ remainder ∷ slots ∷ 0 ∷ 0 ∷ 0 ∷ 0 ∷ []

-- The page at a leaf ID: its rank is that of its TreeLing.
unfoldable pub page_at : Sizes → List ℕ → ℕ → ℕ → Answer
page_at z s id pages = Page (record { 0 = id }) (get z s (rank (treeling_of id))) pages

-- A call's answer and the words left.
abbrev pub Outcome : Type 0
Outcome = OutcomeOf Answer

-- "state unchanged"
abbrev pub refuse : ℕ → List ℕ → Outcome
refuse n s = outcome (Refused n) s

-- An answer that is no refusal.
abbrev pub Passed : Outcome → Type 0
Passed o = (k : ℕ) → o.answer ≡ Refused k → ⊥
