-- Demands 1 and 2, of a batch and of making a state, each as a statement about any controller: each number in its case, what a done one leaves, and that a refusal writes nothing.
use Rattle.std.specs.Prelude.{ℕ, suc, ◌+◌, ◌*◌, ◌/◌, ◌%◌, ◌<◌, ◌≤◌, ◌≡◌, List, ◌↔◌, length, get_or}
use Rattle.layout.specs.declared.Sizes.{Sizes}
use Rattle.board.specs.Holes.{HolesAllowed}
use Rattle.board.specs.NewState.{new_state}
use Rattle.layout.specs.Outcomes.{OutcomeOf}
use Rattle.layout.specs.Places.{Allowed, word_count}
use Rattle.sound.specs.Contents.{LaidOut, sizes_in}
use Rattle.sound.specs.Sound.{Sound}
use Rattle.pages.specs.Answers.{Outcome, answer_words}
use Rattle.batch.specs.Batch.{Served, request_word}
use Rattle.histories.specs.Histories.{Controller}
use Rattle.histories.specs.Demands.{Answerer}

-- ---- A batch
-- "Request words a multiple of 4, at most 262,144?"
pub record RequestsFit (q : List ℕ) : Type 0 where
  pub fours : length q % 4 ≡ 0
  pub most : length q ≤ 262144

-- Document 01, "Questions in sequence", of a batch: the case of each number.
pub data BatchNumber (s q a : List ℕ) : ℕ → Type 0 where
  -- "contents as laid out and within their ranges, length exact? No: 3."
  not_laid_out : (LaidOut (sizes_in s) s → ⊥) → BatchNumber s q a 3
  -- "Audit passed? No: 4."
  not_sound : LaidOut (sizes_in s) s → (Sound (sizes_in s) s → ⊥) → BatchNumber s q a 4
  -- "No: 5. Answer words twice the request words? No: 6."
  no_requests : Sound (sizes_in s) s → (RequestsFit q → ⊥) → BatchNumber s q a 5
  no_answers : Sound (sizes_in s) s → RequestsFit q → (length a ≡ 2 * length q → ⊥) → BatchNumber s q a 6
  done : Sound (sizes_in s) s → RequestsFit q → length a ≡ 2 * length q → BatchNumber s q a 0

-- Each number is answered precisely in its case.
abbrev pub BatchExactly : Controller → Type 0
BatchExactly c = (s q a : List ℕ) (k : ℕ) → ((c.serve s q a).number ≡ k) ↔ BatchNumber s q a k

-- "Batch; a refusal writes nothing".
abbrev pub RefusedBatchSame : Controller → Type 0
RefusedBatchSame c =
    (s q a : List ℕ) → ((c.serve s q a).number ≡ 0 → ⊥) → ((c.serve s q a).state ≡ s) × ((c.serve s q a).answers ≡ a)

-- Request k of words q in words s, as an answerer answers it.
abbrev pub answer_to : Answerer → Sizes → List ℕ → List ℕ → ℕ → Outcome
answer_to answer z s q k = answer z s (request_word q k 0) (request_word q k 1) (request_word q k 2) (request_word q k 3)

-- "A batch audits once, then answers each request": one after the other, each in the words that the one before it left.
pub record InOrder (answer : Answerer) (s q : List ℕ) (r : Served) : Type 0 where
  pub states : ℕ → List ℕ
  pub from : states 0 ≡ s
  pub next : (k : ℕ) → k < length q / 4 → states (suc k) ≡ (answer_to answer (sizes_in s) (states k) q k).words
  pub left : r.state ≡ states (length q / 4)
  pub told : (k i : ℕ) → k < length q / 4 → i < 8 → get_or r.answers (8 * k + i) 0 ≡ get_or (answer_words (answer_to answer (sizes_in s) (states k) q k).answer) i 0

-- A done batch has answered each request so.
abbrev pub BatchInOrder : Controller → Answerer → Type 0
BatchInOrder c answer = (s q a : List ℕ) → (c.serve s q a).number ≡ 0 → InOrder answer s q (c.serve s q a)

-- ---- Making a state, of sizes, hole words and the words lent
abbrev pub Maker : Type 0
Maker = Sizes → List ℕ → List ℕ → OutcomeOf ℕ

-- "T, D and P allowed? No: 1. Length exact? No: 2." Request M-101: "bad holes count under 1".
pub data MakingNumber (z : Sizes) (holes s : List ℕ) : ℕ → Type 0 where
  bad_sizes : (Allowed z → ⊥) → MakingNumber z holes s 1
  bad_holes : Allowed z → (HolesAllowed z holes → ⊥) → MakingNumber z holes s 1
  wrong_length : Allowed z → HolesAllowed z holes → (length s ≡ word_count z → ⊥) → MakingNumber z holes s 2
  made : Allowed z → HolesAllowed z holes → length s ≡ word_count z → MakingNumber z holes s 0

abbrev pub MakingExactly : Maker → Type 0
MakingExactly make = (z : Sizes) (holes s : List ℕ) (k : ℕ) → ((make z holes s).answer ≡ k) ↔ MakingNumber z holes s k

-- "a refusal writes nothing"
abbrev pub RefusedMakingSame : Maker → Type 0
RefusedMakingSame make =
    (z : Sizes) (holes s : List ℕ) → ((make z holes s).answer ≡ 0 → ⊥) → (make z holes s).words ≡ s

-- "a state just made with answer 0" is what a history begins with.
abbrev pub MadeNew : Maker → Type 0
MadeNew make =
    (z : Sizes) (holes s : List ℕ) → (make z holes s).answer ≡ 0 → Allowed z × HolesAllowed z holes × ((make z holes s).words ≡ new_state z holes)
