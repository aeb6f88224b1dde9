-- Document 01: "A batch audits once, then answers each request; an empty batch is legal." A refusal writes nothing.
use Rattle.std.specs.Prelude.{ℕ, zero, suc, ◌+◌, ◌*◌, ◌/◌, ◌%◌, List, Bool, cond, ◌&&◌, eqb, leb, length, get_or}
use Rattle.std.proofs.lemmas.List.Edits.{sets}
use Rattle.layout.specs.declared.Sizes.{Sizes}
use Rattle.sound.specs.Contents.{sizes_in}
use Rattle.sound.specs.Audit.{audit_number}
use Rattle.pages.specs.Answers.{Outcome, answer_words}
use Rattle.questions.specs.Questions.{answering}

-- "A request is 4 words: call, domain, frame, count."
abbrev pub request_word : List ℕ → ℕ → ℕ → ℕ
request_word q k i = get_or q (4 * k + i) 0

abbrev pub answered : Sizes → List ℕ → List ℕ → ℕ → Outcome
answered z s q k = answering z s (request_word q k 0) (request_word q k 1) (request_word q k 2) (request_word q k 3)

-- The state after the first k requests, and the answer buffer after them.
unfoldable pub state_after : Sizes → List ℕ → List ℕ → ℕ → List ℕ
state_after z s q zero = s
state_after z s q (suc k) = (answered z (state_after z s q k) q k).words

unfoldable pub answers_after : Sizes → List ℕ → List ℕ → List ℕ → ℕ → List ℕ
answers_after z s q a zero = a
answers_after z s q a (suc k) =
    sets (answers_after z s q a k) (8 * k) (answer_words (answered z (state_after z s q k) q k).answer)

-- The batch's number, and every word of the state and of the answer buffer.
pub record Served : Type 0 where
  pub number : ℕ
  pub state : List ℕ
  pub answers : List ℕ

abbrev pub served : ℕ → List ℕ → List ℕ → Served
served n s a = record { number = n; state = s; answers = a }

-- "Request words a multiple of 4, at most 262,144? No: 5. Answer words twice the request words? No: 6."
abbrev pub requests_fit : List ℕ → Bool
requests_fit q = eqb (length q % 4) 0 && leb (length q) 262144

abbrev pub answers_fit : List ℕ → List ℕ → Bool
answers_fit q a = eqb (length a) (2 * length q)

unfoldable pub serving : List ℕ → List ℕ → List ℕ → Served
serving s q a =
    cond (eqb (audit_number s) 0)
    (cond (requests_fit q)
    (cond (answers_fit q a)
    (served 0 (state_after (sizes_in s) s q (length q / 4)) (answers_after (sizes_in s) s q a (length q / 4)))
    (served 6 s a))
    (served 5 s a))
    (served (audit_number s) s a)
