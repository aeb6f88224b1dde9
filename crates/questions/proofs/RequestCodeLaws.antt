-- Laws of the code of a request: its questions, asked in sequence, and its call give what document 01 says.
-- Assumes nothing.
use Prim.Native.Nat.{ℕ, zero, suc, ◌+◌, ◌-◌, ◌<◌, ◌≤◌}
use mathlib.Core.Path.{◌≡◌, refl, sym, ap, ap₂, subst, ◌∙◌}
use mathlib.Core.Bool.{Bool, true, false, false≢true, true≢false}
use mathlib.Core.List.{List}
use mathlib.Core.Logic.{◌⊎◌, inr, ⊎_elim}
use native.Mathlib.Omega.{arith}
use borrow.Author.Tests.{lt-ltb, le-leb, lt-leb, ne_eqb}
use lib.Dec.{eqb, leb}
use Rattle.runs.specs.Runs.{longest_run}
use Rattle.layout.specs.declared.Sizes.{Sizes}
use Rattle.layout.specs.Outcomes.{outcome}
use Rattle.layout.specs.Bounded.{all}
use Rattle.board.specs.Holes.{outside}
use Rattle.layout.specs.Places.{get, live}
use Rattle.layout.proofs.BoundedLaws.{all_cong}
use Rattle.sound.specs.Sound.{Sound, Live}
use Rattle.sound.specs.Sentences.{is_live}
use Rattle.pages.specs.Answers.{Refused, Outcome, refusal_number}
use Rattle.pages.specs.declared.Refusal.{Refusal}
use Rattle.pages.specs.declared.Refusal.TheVariants.{Malformed, DomainOutOfRange, FramesOutOfRange, InHole, AlreadyLive, NotLive, FrameMapped, NoPlace, NotMappedByDomain}
use Rattle.calls.specs.Table.{Uses, DomainOnly, OneFrame, FrameAndCount, NoCall, calls, line_of, call_of}
use Rattle.calls.proofs.TableLaws.{Asked, line_found}
use Rattle.questions.specs.Questions.{domain_fits, frame_fits, frames_fit, well_formed, run_fits, run_outside, frames_outside, liveness_refusal, refusal_of, answering}
use Rattle.questions.proofs.AnsweringCases.{number_7, number_8, number_9, number_16, liveness_last, asking_refused, asking_done, all_passed}

-- ---- The table by number
-- A number among m from a on.
among : (P : ℕ → Type 0) (a m c : ℕ) → a ≤ c → c < a + m → ((i : ℕ) → i < m → P (a + i)) → P c
among P a m c low high each = subst P (omega arith) (each (c - a) (omega arith))

pub uses_domain : (c : ℕ) → 1 ≤ c → c < 3 → DomainOnly ≡ (call_of c).uses
unfolding line_of calls
uses_domain c low high = among (λ x. DomainOnly ≡ (call_of x).uses) 1 2 c low high each
  where
    each : (i : ℕ) → i < 2 → DomainOnly ≡ (call_of (1 + i)).uses
    each zero l = refl
    each (suc zero) l = refl
    each (suc (suc i)) l = absurd (omega arith)

pub uses_frame : (c : ℕ) → 3 ≤ c → c < 6 → OneFrame ≡ (call_of c).uses
unfolding line_of calls
uses_frame c low high = among (λ x. OneFrame ≡ (call_of x).uses) 3 3 c low high each
  where
    each : (i : ℕ) → i < 3 → OneFrame ≡ (call_of (3 + i)).uses
    each zero l = refl
    each (suc zero) l = refl
    each (suc (suc zero)) l = refl
    each (suc (suc (suc i))) l = absurd (omega arith)

-- A number that is no call's: not 1 to 8, nor 11.
no_line : (c : ℕ) → (c < 1) ⊎ (9 ≤ c) → (c ≡ 11 → ⊥) → NoCall ≡ (call_of c).uses
unfolding line_of calls
no_line c out other =
    simp (not 1 (omega arith), not 2 (omega arith), not 3 (omega arith), not 4 (omega arith), not 5 (omega arith), not 6 (omega arith), not 7 (omega arith), not 8 (omega arith), ne_eqb c 11 other)
  where
    not : (k : ℕ) → (1 ≤ k) × (k ≤ 8) → eqb c k ≡ false
    not k range = ne_eqb c k (λ e. ⊎_elim (λ low. omega (arith, range.0)) (λ high. omega (arith, range.1)) out)

pub high_call : (c : ℕ) → 8 ≤ c → (c ≡ 8 → ⊥) → (c ≡ 11 → ⊥) → NoCall ≡ (call_of c).uses
high_call c l apart other = no_line c (inr (omega arith)) other

-- A request that passes question 7 and is none of the calls before is the last of the table.
abbrev Last : ℕ → ℕ → ℕ → Uses → Type 0
Last f n x u = well_formed u f n ≡ true → (x ≡ 1 → ⊥) → (x ≡ 2 → ⊥) → (x ≡ 3 → ⊥) → (x ≡ 4 → ⊥) → (x ≡ 5 → ⊥) → (x ≡ 6 → ⊥) → (x ≡ 7 → ⊥) → (x ≡ 8 → ⊥) → x ≡ 11

pub last_line : (c f n : ℕ) → Last f n c (call_of c).uses
unfolding calls
last_line c f n =
    line_found (λ x k. Last f n x k.uses) c (λ e _ _ _ _ _ _ _ _. absurd (false≢true e)) calls
    ((λ _ no _ _ _ _ _ _ _. absurd (no refl)), ((λ _ _ no _ _ _ _ _ _. absurd (no refl)), ((λ _ _ _ no _ _ _ _ _. absurd (no refl)), ((λ _ _ _ _ no _ _ _ _. absurd (no refl)), ((λ _ _ _ _ _ no _ _ _. absurd (no refl)), ((λ _ _ _ _ _ _ no _ _. absurd (no refl)), ((λ _ _ _ _ _ _ _ no _. absurd (no refl)), ((λ _ _ _ _ _ _ _ _ no. absurd (no refl)), ((λ _ _ _ _ _ _ _ _ _. refl), tt)))))))))

-- A request that passes its questions, where the call word is k.
pub asked_as : (z : Sizes) (s : List ℕ) (c k d f n : ℕ) → c ≡ k → refusal_of z s (call_of c) d f n ≡ 0 → Asked z s (call_of k) d f n
asked_as z s c k d f n is passed = subst (λ (x : ℕ). Asked z s (call_of x) d f n) is (all_passed z s (call_of c) d f n passed).1

pub does_as : (z : Sizes) (s : List ℕ) (c k d f n : ℕ) (o : Outcome) → c ≡ k → o ≡ (call_of k).does z s d f n → o ≡ (call_of c).does z s d f n
does_as z s c k d f n o is e = subst (λ (x : ℕ). o ≡ (call_of x).does z s d f n) (sym is) e

-- A domain that is not live is dead.
pub dead_zero : (z : Sizes) (s : List ℕ) (d : ℕ) → Sound z s → d < z.domains → (Live z s d → ⊥) → get z s (live d) ≡ 0
dead_zero z s d h l dead = omega (arith, h.live_range d l)

-- ---- Questions 7 and 9
pub one_decides : (u : Uses) (f n : ℕ) → u ≡ OneFrame → eqb n 0 ≡ well_formed u f n
one_decides u f n is = rw is

pub one_fits : (z : Sizes) (u : Uses) (f n : ℕ) (b : Bool) → u ≡ OneFrame → b ≡ frame_fits z f → b ≡ frames_fit z u f n
one_fits z u f n b is e = e ∙ rw is

pub run_fits_lem : (z : Sizes) (u : Uses) (f n : ℕ) (b : Bool) → u ≡ FrameAndCount → b ≡ run_fits z f n → b ≡ frames_fit z u f n
run_fits_lem z u f n b is e = e ∙ rw is

module _ (z : Sizes) (f n : ℕ) where
  pub past_count : f < z.frames → 1 ≤ n → z.frames - f < n → false ≡ run_fits z f n
  past_count m some past = rw (lt-ltb f z.frames m, le-leb 1 n some, lt-leb n (z.frames - f) past)

  pub a_count : f < z.frames → 1 ≤ n → n ≤ z.frames - f → leb n longest_run ≡ run_fits z f n
  a_count m some fits = rw (lt-ltb f z.frames m, le-leb 1 n some, le-leb n (z.frames - f) fits)

-- ---- Question 16
-- One test.
once : (b : Bool) → all 1 (λ _. b) ≡ b
unfolding all
once b = refl

pub one_outside : (s : List ℕ) (f : ℕ) → all 1 (λ i. outside s (f + i)) ≡ outside s f
one_outside s f =
    all_cong 1 (λ i. outside s (f + i)) (λ _. outside s f) (λ i l. let same : f + i ≡ f = omega arith in ap (outside s) same)
    ∙ once (outside s f)

module _ (s : List ℕ) (u : Uses) (f n : ℕ) (b : Bool) where
  pub frame_clear : u ≡ OneFrame → b ≡ outside s f → b ≡ frames_outside s u f n
  frame_clear is e = e ∙ rw is

  pub run_clear : u ≡ FrameAndCount → b ≡ run_outside s f n → b ≡ frames_outside s u f n
  run_clear is e = e ∙ rw is

-- ---- Questions 10 and 11
pub opened_twice : (opens alive : Bool) → opens ≡ true → eqb (liveness_refusal opens alive) 0 ≡ false → 10 ≡ liveness_refusal opens alive
opened_twice true true is stays = refl
opened_twice true false is stays = absurd (true≢false stays)
opened_twice false alive is stays = absurd (false≢true is)

pub never_opened : (opens alive : Bool) → opens ≡ false → eqb (liveness_refusal opens alive) 0 ≡ false → 11 ≡ liveness_refusal opens alive
never_opened true alive is stays = absurd (true≢false is)
never_opened false true is stays = absurd (true≢false stays)
never_opened false false is stays = refl

-- ---- The questions in sequence, each asked of the words that the code's call uses
module _ (z : Sizes) (s : List ℕ) (c d f n k : ℕ) (u : Uses) (used : u ≡ (call_of k).uses) (named : k ≡ c) where
  of_line : (question : Uses → Bool) (b : Bool) → b ≡ question u → question (call_of c).uses ≡ b
  of_line question b is = ap question (sym (used ∙ ap (λ (x : ℕ). (call_of x).uses) named)) ∙ sym is

  pub stops_at_7 : false ≡ well_formed u f n → 7 ≡ refusal_of z s (call_of c) d f n
  stops_at_7 malformed = sym (number_7 z s (call_of c) d f n (of_line (λ u. well_formed u f n) false malformed))

  module _ (well : true ≡ well_formed u f n) where
    well_line : well_formed (call_of c).uses f n ≡ true
    well_line = of_line (λ u. well_formed u f n) true well

    pub stops_at_8 : false ≡ domain_fits z d → 8 ≡ refusal_of z s (call_of c) d f n
    stops_at_8 above = sym (number_8 z s (call_of c) d f n well_line (sym above))

    module _ (below : true ≡ domain_fits z d) where
      pub stops_at_9 : false ≡ frames_fit z u f n → 9 ≡ refusal_of z s (call_of c) d f n
      stops_at_9 illegal = sym (number_9 z s (call_of c) d f n well_line (sym below) (of_line (λ u. frames_fit z u f n) false illegal))

      module _ (legal : true ≡ frames_fit z u f n) where
        legal_line : frames_fit z (call_of c).uses f n ≡ true
        legal_line = of_line (λ u. frames_fit z u f n) true legal

        pub stops_at_16 : false ≡ frames_outside s u f n → 16 ≡ refusal_of z s (call_of c) d f n
        stops_at_16 inside = sym (number_16 z s (call_of c) d f n well_line (sym below) legal_line (of_line (λ u. frames_outside s u f n) false inside))

        pub liveness_stops : true ≡ frames_outside s u f n → (opens alive : Bool) → opens ≡ (call_of k).opens → alive ≡ is_live z s d → liveness_refusal opens alive ≡ refusal_of z s (call_of c) d f n
        liveness_stops clear opens alive of opened =
            ap₂ (λ (x y : Bool). liveness_refusal x y) (of ∙ ap (λ (x : ℕ). (call_of x).opens) named) opened
            ∙ sym (liveness_last z s (call_of c) d f n well_line (sym below) legal_line (of_line (λ u. frames_outside s u f n) true clear))

-- ---- A request answered
-- No question has the number 0.
pub refusal_some : (r : Refusal) → refusal_number r ≡ 0 → ⊥
refusal_some Malformed e = omega arith
refusal_some DomainOutOfRange e = omega arith
refusal_some FramesOutOfRange e = omega arith
refusal_some AlreadyLive e = omega arith
refusal_some NotLive e = omega arith
refusal_some FrameMapped e = omega arith
refusal_some NoPlace e = omega arith
refusal_some NotMappedByDomain e = omega arith
refusal_some InHole e = omega arith

module _ (z : Sizes) (s : List ℕ) (c d f n : ℕ) where
  pub refused_right : Sound z s → (j : ℕ) → j ≡ refusal_of z s (call_of c) d f n → (j ≡ 0 → ⊥) → (outcome (Refused j) s ≡ answering z s c d f n) × Sound z s
  refused_right h j is some = (asking_refused z s (call_of c) d f n j is some, h)

  pub done_right : refusal_of z s (call_of c) d f n ≡ 0 → (o : Outcome) → o ≡ (call_of c).does z s d f n → o ≡ answering z s c d f n
  done_right passed o is = is ∙ asking_done z s (call_of c) d f n passed
