-- Batches and making a state, each number in its case: a done batch has answered each request in order, a refusal writes nothing, and a state that was made is what a history begins with.
-- Assumes nothing.
use Prim.Native.Nat.{ℕ, ◌*◌, ◌/◌, ◌%◌}
use mathlib.Core.Path.{◌≡◌, refl, sym, ap, subst, ◌∙◌}
use mathlib.Core.List.{List}
use mathlib.Core.Bool.{Bool, true, false, cond, ◌&&◌, false≢true}
use native.Mathlib.Omega.{arith}
use borrow.Author.Tests.{eqb-true, eqb-false, eq-eqb, leb-true, le-leb}
use lib.Dec.{eqb, leb}
use lib.ListN.{length, get_or, drop}
use lib.Seq.{get_or-drop, get_or-take}
use Rattle.layout.specs.declared.Sizes.{Sizes}
use Rattle.board.specs.Holes.{HolesAllowed, holes_allowed, holes_fit}
use Rattle.board.specs.NewState.{board_allowed, making, new_state}
use Rattle.layout.specs.Outcomes.{OutcomeOf, outcome}
use Rattle.layout.specs.Places.{Allowed, allowed, word_count}
use Rattle.layout.proofs.BoundedLaws.{and_both, and_of, is_false}
use Rattle.board.proofs.HoleLaws.{fit_facts, fit_test}
use Rattle.layout.proofs.PlaceLaws.{allowed_facts}
use Rattle.sound.specs.Audit.{passes, audit_number}
use Rattle.sound.specs.Contents.{as_laid_out, sizes_in}
use Rattle.sound.specs.Sound.{Sound}
use Rattle.sound.proofs.ContentsLaws.{allowed_test, laid_out, laid_out_back}
use Rattle.sound.proofs.SoundLaws.{sound_number, passes_sound, sound_passes}
use Rattle.pages.proofs.CaseLaws.{by_test}
use Rattle.questions.specs.Questions.{answering}
use Rattle.batch.specs.Batch.{Served, served, serving, requests_fit, answers_fit, state_after, answers_after}
use Rattle.histories.specs.Histories.{ours}
use Rattle.histories.specs.Batches.{RequestsFit, BatchNumber, not_laid_out, not_sound, no_requests, no_answers, done, BatchExactly, RefusedBatchSame, InOrder, BatchInOrder, MakingNumber, bad_sizes, bad_holes, wrong_length, made, MakingExactly, RefusedMakingSame, MadeNew}
use Rattle.histories.proofs.BatchSound.{fits_served}
use Rattle.histories.proofs.Trace.{answer_words_lem}

-- ---- The questions of a batch
fit_facts_of : (q : List ℕ) → requests_fit q ≡ true → RequestsFit q
fit_facts_of q e =
    let w = and_both (eqb (length q % 4) 0) (leb (length q) 262144) e in
    record { fours = eqb-true (length q % 4) 0 w.0; most = leb-true (length q) 262144 w.1 }

fit_test_of : (q : List ℕ) → RequestsFit q → requests_fit q ≡ true
fit_test_of q w = and_of (eq-eqb (length q % 4) 0 w.fours) (le-leb (length q) 262144 w.most)

module _ (s q a : List ℕ) where
  -- By the number: what was asked, in sequence.
  numbered : BatchNumber s q a (serving s q a).number
  unfolding serving audit_number
  numbered = go (as_laid_out s) (passes (sizes_in s) s) (requests_fit q) (answers_fit q a) refl refl refl refl
    where
      after : Served
      after = served 0 (state_after (sizes_in s) s q (length q / 4)) (answers_after (sizes_in s) s q a (length q / 4))

      go : (b c d e : Bool) → as_laid_out s ≡ b → passes (sizes_in s) s ≡ c → requests_fit q ≡ d → answers_fit q a ≡ e
          → BatchNumber s q a (cond (eqb (cond b (cond c 0 4) 3) 0) (cond d (cond e after (served 6 s a)) (served 5 s a)) (served (cond b (cond c 0 4) 3) s a)).number
      go true true true true l p f t = done (passes_sound (sizes_in s) s (laid_out s l) p) (fit_facts_of q f) (eqb-true (length a) (2 * length q) t)
      go true true true false l p f t = no_answers (passes_sound (sizes_in s) s (laid_out s l) p) (fit_facts_of q f) (eqb-false (length a) (2 * length q) t)
      go true true false e l p f t = no_requests (passes_sound (sizes_in s) s (laid_out s l) p) (λ w. false≢true (sym f ∙ fit_test_of q w))
      go true false d e l p f t = not_sound (laid_out s l) (λ h. false≢true (sym p ∙ sound_passes (sizes_in s) s h))
      go false c d e l p f t = not_laid_out (λ w. false≢true (sym l ∙ laid_out_back s w))

  -- By the case: the number.
  number_of : (k : ℕ) → BatchNumber s q a k → (serving s q a).number ≡ k
  unfolding serving audit_number
  number_of k (not_laid_out not) =
      rw (is_false (as_laid_out s) (λ e. not (laid_out s e))) refl
  number_of k (not_sound l not) =
      rw (laid_out_back s l, is_false (passes (sizes_in s) s) (λ e. not (passes_sound (sizes_in s) s l e))) refl
  number_of k (no_requests h not) =
      rw (laid_out_back s h.laid_out, sound_passes (sizes_in s) s h, is_false (requests_fit q) (λ e. not (fit_facts_of q e))) refl
  number_of k (no_answers h w not) =
      rw (laid_out_back s h.laid_out, sound_passes (sizes_in s) s h, fit_test_of q w, is_false (answers_fit q a) (λ e. not (eqb-true (length a) (2 * length q) e))) refl
  number_of k (done h w t) =
      rw (laid_out_back s h.laid_out, sound_passes (sizes_in s) s h, fit_test_of q w, eq-eqb (length a) (2 * length q) t) refl

pub batch_exactly : BatchExactly ours
batch_exactly s q a k = (λ e. subst (BatchNumber s q a) e (numbered s q a), number_of s q a k)

-- ---- A refused batch writes nothing
pub refused_batch_same : RefusedBatchSame ours
unfolding serving
refused_batch_same s q a =
    by_test Same (eqb (audit_number s) 0) _ _
    (λ _.
    by_test Same (requests_fit q) _ _
    (λ _. by_test Same (answers_fit q a) _ _ (λ _ not. absurd (not refl)) (λ _ _. (refl, refl)))
    (λ _ _. (refl, refl)))
    (λ _ _. (refl, refl))
  where
    Same : Served → Type 0
    Same r = (r.number ≡ 0 → ⊥) → (r.state ≡ s) × (r.answers ≡ a)

-- ---- A done one has answered each request in order
pub batch_in_order : BatchInOrder ours answering
unfolding state_after
batch_in_order s q a is =
    subst (InOrder answering s q) (sym (fits_served s q a (sound_number z s h) (fit_test_of q fit) (eq-eqb (length a) (2 * length q) twice)))
    (record {
      states = state_after z s q;
      from = refl;
      next = λ k l. refl;
      left = refl;
      told = λ k i l m.
          sym (get_or-take 8 (drop (8 * k) (answers_after z s q a n)) i 0 m ∙ get_or-drop (8 * k) (answers_after z s q a n) i 0)
          ∙ ap (λ (w : List ℕ). get_or w i 0) (answer_words_lem z s q a n k l (omega (arith, fit.fours, twice)));
    })
  where
    z : Sizes
    z = sizes_in s

    n : ℕ
    n = length q / 4

    facts : (k : ℕ) → BatchNumber s q a k → k ≡ 0 → Sound z s × RequestsFit q × (length a ≡ 2 * length q)
    facts k (not_laid_out not) e = absurd (omega arith)
    facts k (not_sound l not) e = absurd (omega arith)
    facts k (no_requests h not) e = absurd (omega arith)
    facts k (no_answers h w not) e = absurd (omega arith)
    facts k (done h w t) e = (h, w, t)

    h : Sound z s
    h = (facts (serving s q a).number (numbered s q a) is).0

    fit : RequestsFit q
    fit = (facts (serving s q a).number (numbered s q a) is).1

    twice : length a ≡ 2 * length q
    twice = (facts (serving s q a).number (numbered s q a) is).2

-- ---- Making a state
holes_facts : (z : Sizes) (hs : List ℕ) → holes_allowed z hs ≡ true → HolesAllowed z hs
holes_facts z hs e =
    let w = and_both (eqb (length hs % 2) 0) (holes_fit z.frames (length hs / 2) hs) e in
    record { even = eqb-true (length hs % 2) 0 w.0; fit = fit_facts z.frames (length hs / 2) hs w.1 }

holes_test : (z : Sizes) (hs : List ℕ) → HolesAllowed z hs → holes_allowed z hs ≡ true
holes_test z hs w = and_of (eq-eqb (length hs % 2) 0 w.even) (fit_test z.frames (length hs / 2) hs w.fit)

module _ (z : Sizes) (hs s : List ℕ) where
  made_number : MakingNumber z hs s (making z hs s).answer
  unfolding making
  made_number = go (allowed z) (holes_allowed z hs) (eqb (length s) (word_count z)) refl refl refl
    where
      go : (b c d : Bool) → allowed z ≡ b → holes_allowed z hs ≡ c → eqb (length s) (word_count z) ≡ d → MakingNumber z hs s (cond (b && c) (cond d (outcome 0 (new_state z hs)) (outcome 2 s)) (outcome 1 s)).answer
      go true true true a h l = made (allowed_facts z a) (holes_facts z hs h) (eqb-true (length s) (word_count z) l)
      go true true false a h l = wrong_length (allowed_facts z a) (holes_facts z hs h) (eqb-false (length s) (word_count z) l)
      go true false d a h l = bad_holes (allowed_facts z a) (λ w. false≢true (sym h ∙ holes_test z hs w))
      go false c d a h l = bad_sizes (λ w. false≢true (sym a ∙ allowed_test z w))

  number_made : (k : ℕ) → MakingNumber z hs s k → (making z hs s).answer ≡ k
  unfolding making
  number_made k (bad_sizes not) = rw (is_false (allowed z) (λ e. not (allowed_facts z e))) refl
  number_made k (bad_holes a not) = rw (allowed_test z a, is_false (holes_allowed z hs) (λ e. not (holes_facts z hs e))) refl
  number_made k (wrong_length a h not) =
      rw (allowed_test z a, holes_test z hs h, is_false (eqb (length s) (word_count z)) (λ e. not (eqb-true (length s) (word_count z) e))) refl
  number_made k (made a h l) = rw (allowed_test z a, holes_test z hs h, eq-eqb (length s) (word_count z) l) refl

pub making_exactly : MakingExactly making
making_exactly z hs s k = (λ e. subst (MakingNumber z hs s) e (made_number z hs s), number_made z hs s k)

pub refused_making_same : RefusedMakingSame making
unfolding making
refused_making_same z hs s =
    by_test Same (board_allowed z hs) _ _ (λ _. by_test Same (eqb (length s) (word_count z)) _ _ (λ _ not. absurd (not refl)) (λ _ _. refl)) (λ _ _. refl)
  where
    Same : OutcomeOf ℕ → Type 0
    Same o = (o.answer ≡ 0 → ⊥) → o.words ≡ s

-- From making to histories.
pub made_new : MadeNew making
unfolding making
made_new z hs s is = go (making z hs s).answer (made_number z hs s) is
  where
    go : (k : ℕ) → MakingNumber z hs s k → k ≡ 0 → Allowed z × HolesAllowed z hs × ((making z hs s).words ≡ new_state z hs)
    go k (bad_sizes not) e = absurd (omega arith)
    go k (bad_holes a not) e = absurd (omega arith)
    go k (wrong_length a h not) e = absurd (omega arith)
    go k (made a h l) e = (a, h, rw (allowed_test z a, holes_test z hs h, eq-eqb (length s) (word_count z) l) refl)
