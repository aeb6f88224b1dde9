-- Document 01, "Questions in sequence", of a request: "state unchanged, the batch goes on". Each question is a test by itself: a call outside a batch asks those about the domain and the frames that it is given.
use Rattle.std.specs.Prelude.{ℕ, ◌+◌, ◌-◌, List, Bool, true, false, cond, ◌&&◌, eqb, leb, ltb}
use Rattle.layout.specs.declared.Sizes.{Sizes}
use Rattle.layout.specs.Bounded.{all}
use Rattle.board.specs.Holes.{outside}
use Rattle.layout.specs.Places.{one_to}
use Rattle.sound.specs.Sentences.{is_live}
use Rattle.pages.specs.Answers.{Outcome, refuse}
use Rattle.runs.specs.Runs.{longest_run}
use Rattle.calls.specs.Table.{Uses, DomainOnly, OneFrame, FrameAndCount, NoCall, Call, call_of}

-- "Call 1 to 7, and words it does not use 0?" The calls are those of the table, to which a later request adds its line: "call 8 passes question 7" by M-100, "call 11 passes 7" by M-107.
abbrev pub well_formed : Uses → ℕ → ℕ → Bool
well_formed DomainOnly f n = eqb f 0 && eqb n 0
well_formed OneFrame f n = eqb n 0
well_formed FrameAndCount f n = true
well_formed NoCall f n = false

-- "Domain below D?"
abbrev pub domain_fits : Sizes → ℕ → Bool
domain_fits z d = ltb d z.domains

-- "Frame below P; for runs count at least 1 and at most P − frame?", and, by request M-109, at most 2,048.
abbrev pub frame_fits : Sizes → ℕ → Bool
frame_fits z f = ltb f z.frames

abbrev pub run_fits : Sizes → ℕ → ℕ → Bool
run_fits z f n = frame_fits z f && one_to n (z.frames - f) && leb n longest_run

abbrev pub frames_fit : Sizes → Uses → ℕ → ℕ → Bool
frames_fit z DomainOnly f n = true
frames_fit z OneFrame f n = frame_fits z f
frames_fit z FrameAndCount f n = run_fits z f n
frames_fit z NoCall f n = false

-- Request M-101: "16, a named frame lies in a hole, asked right after 9; for a run, any of its frames." Of one frame it is `outside`.
abbrev pub run_outside : List ℕ → ℕ → ℕ → Bool
run_outside s f n = all n (λ i. outside s (f + i))

abbrev pub frames_outside : List ℕ → Uses → ℕ → ℕ → Bool
frames_outside s DomainOnly f n = true
frames_outside s OneFrame f n = outside s f
frames_outside s FrameAndCount f n = run_outside s f n
frames_outside s NoCall f n = true

-- "Open: domain not live? No: 10. Other calls: live? No: 11." Of a call that opens or not and a domain that is live or not: the number, 0 where it is passed.
abbrev pub liveness_refusal : Bool → Bool → ℕ
liveness_refusal opens alive = cond opens (cond alive 10 0) (cond alive 0 11)

-- A question: where it is passed the next is asked, else its number is the answer.
abbrev pub question : Bool → ℕ → ℕ → ℕ
question passed number next = cond passed next number

-- "No: 7." "No: 8." "No: 9." 16 is "asked right after 9". The number of the first question that is not passed, 0 where all are.
unfoldable pub refusal_of : Sizes → List ℕ → Call → ℕ → ℕ → ℕ → ℕ
refusal_of z s k d f n =
    question (well_formed k.uses f n) 7
    (question (domain_fits z d) 8
    (question (frames_fit z k.uses f n) 9
    (question (frames_outside s k.uses f n) 16
    (liveness_refusal k.opens (is_live z s d)))))

-- Refused with a number; without one, done.
abbrev pub unless_refused : ℕ → List ℕ → Outcome → Outcome
unless_refused j s done = cond (eqb j 0) done (refuse j s)

unfoldable pub asking : Sizes → List ℕ → Call → ℕ → ℕ → ℕ → Outcome
asking z s k d f n = unless_refused (refusal_of z s k d f n) s (k.does z s d f n)

-- The answer to a request of four words.
abbrev pub answering : Sizes → List ℕ → ℕ → ℕ → ℕ → ℕ → Outcome
answering z s c d f n = asking z s (call_of c) d f n
