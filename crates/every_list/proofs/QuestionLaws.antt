-- To pass questions 7 to 9 is to be asked 10 or 11 next, in every state without holes; not to pass them is to be answered 7, 8 or 9.
-- Assumes nothing.
use Prim.Native.Nat.{ℕ, ◌+◌, ◌≤◌}
use mathlib.Core.Path.{◌≡◌, refl, sym}
use mathlib.Core.Bool.{Bool, true, false, ◌&&◌, true≢false}
use mathlib.Core.List.{List}
use native.Mathlib.Omega.{arith}
use lib.Dec.{lit≤}
use Rattle.layout.specs.declared.Sizes.{Sizes}
use Rattle.board.specs.Holes.{hole_count, outside}
use Rattle.layout.proofs.BoundedLaws.{all_of, and_both}
use Rattle.board.proofs.HoleLaws.{none_inside}
use Rattle.sound.specs.Sentences.{is_live}
use Rattle.pages.specs.Answers.{Outcome, refuse}
use Rattle.calls.specs.Table.{Uses, DomainOnly, OneFrame, FrameAndCount, NoCall, call_of}
use Rattle.questions.specs.Questions.{well_formed, domain_fits, frames_fit, frames_outside, liveness_refusal, question, refusal_of, answering}
use Rattle.questions.proofs.AnsweringCases.{liveness_last, asking_refused}
use Rattle.every_list.specs.SmallRequests.{passes}

-- Without holes question 16 is passed.
none_in_holes : (s : List ℕ) → hole_count s ≡ 0 → (u : Uses) (f n : ℕ) → frames_outside s u f n ≡ true
none_in_holes s none DomainOnly f n = refl
none_in_holes s none OneFrame f n = none_inside s none f
none_in_holes s none FrameAndCount f n = all_of n (λ i. outside s (f + i)) (λ i l. none_inside s none (f + i))
none_in_holes s none NoCall f n = refl

pub passes_on : (z : Sizes) (s : List ℕ) (c d f n : ℕ) → hole_count s ≡ 0 → passes z c d f n ≡ true → refusal_of z s (call_of c) d f n ≡ liveness_refusal (call_of c).opens (is_live z s d)
passes_on z s c d f n none h =
    let u = (call_of c).uses in
    let parts = and_both (well_formed u f n && domain_fits z d) (frames_fit z u f n) h in
    let front = and_both (well_formed u f n) (domain_fits z d) parts.0 in
    liveness_last z s (call_of c) d f n front.0 front.1 parts.1 (none_in_holes s none u f n)

pub record Stopped (s : List ℕ) (o : Outcome) : Type 0 where
  pub number : ℕ
  pub from_7 : 7 ≤ number
  pub to_9 : number ≤ 9
  pub is : o ≡ refuse number s

stopped_at : (a b c : Bool) (j : ℕ) → (a && b && c) ≡ false → let k = question a 7 (question b 8 (question c 9 j)) in (7 ≤ k) × (k ≤ 9)
stopped_at true true true j h = absurd (true≢false h)
stopped_at true true false j h = (lit≤ tt, lit≤ tt)
stopped_at true false c j h = (lit≤ tt, lit≤ tt)
stopped_at false b c j h = (lit≤ tt, lit≤ tt)

number_stops : (z : Sizes) (s : List ℕ) (c d f n : ℕ) → passes z c d f n ≡ false → (7 ≤ refusal_of z s (call_of c) d f n) × (refusal_of z s (call_of c) d f n ≤ 9)
unfolding refusal_of
number_stops z s c d f n h =
    stopped_at (well_formed (call_of c).uses f n) (domain_fits z d) (frames_fit z (call_of c).uses f n) _ h

pub stops : (z : Sizes) (s : List ℕ) (c d f n : ℕ) → passes z c d f n ≡ false → Stopped s (answering z s c d f n)
stops z s c d f n h =
    let k = refusal_of z s (call_of c) d f n in
    let range = number_stops z s c d f n h in
    record {
      number = k;
      from_7 = range.0;
      to_9 = range.1;
      is = sym (asking_refused z s (call_of c) d f n k refl (λ none. omega (arith, range.0)));
    }
