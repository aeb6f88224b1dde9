-- Demand 3, of a request: what its own domain sees of the answer, and the view left, are those of its view; another's request leaves the view as it is.
-- Assumes nothing.
use Prim.Native.Nat.{ℕ, ◌+◌, ◌<◌, ◌≤◌}
use mathlib.Core.Path.{◌≡◌, refl, sym, ◌∙◌}
use mathlib.Core.List.{List}
use mathlib.Core.Bool.{Bool, true, false, cond}
use borrow.Author.Tests.{eqb-true, eqb-false, lt-ltb}
use lib.Dec.{eqb}
use Rattle.layout.specs.declared.Sizes.{Sizes}
use Rattle.board.specs.Holes.{hole_count, outside}
use Rattle.layout.proofs.BoundedLaws.{all_cong}
use Rattle.board.proofs.HoleLaws.{HolesKept, outside_kept}
use Rattle.sound.specs.Sound.{Sound}
use Rattle.pages.specs.Answers.{refuse}
use Rattle.calls.specs.Table.{Uses, DomainOnly, OneFrame, FrameAndCount, NoCall, Call, call_of}
use Rattle.questions.specs.Questions.{well_formed, frames_fit, frames_outside, liveness_refusal, question, refusal_of, asking, answering}
use Rattle.questions.proofs.AnsweringCases.{all_passed, answering_cases}
use Rattle.histories.proofs.View.{View, Look, look, view_of, seen_number}
use Rattle.histories.proofs.ViewLaws.{Mine, seen_refused}
use Rattle.histories.proofs.OthersLaws.{view_same}
use Rattle.histories.proofs.HarmlessLaws.{Harmless, harmless_same, harmless_mine}
use Rattle.histories.proofs.CallsApart.{names, MapNames, Shown, apart}

-- ---- Its own requests
-- The questions in sequence, as a domain's own requests meet them on its view; clear is question 16, which the holes decide.
unfoldable pub refusal_seen : Sizes → (Uses → ℕ → ℕ → Bool) → View → Call → ℕ → ℕ → ℕ
refusal_seen z clear v k f n =
    question (well_formed k.uses f n) 7
    (question (frames_fit z k.uses f n) 9
    (question (clear k.uses f n) 16
    (liveness_refusal k.opens (eqb v.live-word 1))))

unfoldable pub answer_view : Sizes → (Uses → ℕ → ℕ → Bool) → View → ℕ → ℕ → ℕ → Look
answer_view z clear v c f n =
    let j = refusal_seen z clear v (call_of c) f n in
    cond (eqb j 0) ((apart c).looks v f n) (look (seen_number j) v)

module _ (z : Sizes) (s : List ℕ) (d c f n : ℕ) (h : Sound z s) (below : d < z.domains) (clear : Uses → ℕ → ℕ → Bool) (same : clear (call_of c).uses f n ≡ frames_outside s (call_of c).uses f n) where
  -- The same number.
  seen_as : refusal_seen z clear (view_of z s d) (call_of c) f n ≡ refusal_of z s (call_of c) d f n
  unfolding refusal_seen refusal_of view_of
  seen_as = rw (lt-ltb d z.domains below, same)

  -- Refused with it, or done.
  by_number : ((g : ℕ) → g < z.frames → names c f n g ≡ true → Mine z s d g)
      → (j : ℕ) → refusal_of z s (call_of c) d f n ≡ j → (b : Bool) → eqb j 0 ≡ b → Shown z d c (cond b ((call_of c).does z s d f n) (refuse j s)) (cond b ((apart c).looks (view_of z s d) f n) (look (seen_number j) (view_of z s d)))
  by_number mine j is true none = (apart c).own z s d f n h (all_passed z s (call_of c) d f n (is ∙ eqb-true j 0 none)).1 mine
  by_number mine j is false some = λ never. (λ _. seen_refused c j (eqb-false j 0 some), refl)

  pub own_answering : ((g : ℕ) → g < z.frames → names c f n g ≡ true → Mine z s d g)
      → Shown z d c (answering z s c d f n) (answer_view z clear (view_of z s d) c f n)
  unfolding asking answer_view
  own_answering mine = rw seen_as (by_number mine (refusal_of z s (call_of c) d f n) refl (eqb (refusal_of z s (call_of c) d f n) 0) refl)

-- Words with the same holes answer question 16 alike.
pub outside_same : (o s : List ℕ) → HolesKept o s → hole_count o ≤ 8 → (u : Uses) (f n : ℕ) → frames_outside o u f n ≡ frames_outside s u f n
outside_same o s kept most DomainOnly f n = refl
outside_same o s kept most OneFrame f n = sym (outside_kept o s kept most f)
outside_same o s kept most FrameAndCount f n = all_cong n (λ i. outside o (f + i)) (λ i. outside s (f + i)) (λ i _. sym (outside_kept o s kept most (f + i)))
outside_same o s kept most NoCall f n = refl

-- ---- The others' requests
answering_harmless : (z : Sizes) (s : List ℕ) (c e f n : ℕ) → Sound z s → Harmless z s (answering z s c e f n).words e (MapNames c f n)
answering_harmless z s c e f n h =
    answering_cases z s e f n (λ o. Harmless z s o.words e (MapNames c f n)) (λ _. harmless_same z s e (MapNames c f n)) c ((apart c).harmless z s e f n h)

-- Another domain's request leaves the view of domain d as it is.
pub other_answering : (z : Sizes) (s : List ℕ) (d c e f n : ℕ) → Sound z s → d < z.domains → (e ≡ d → ⊥) → view_of z (answering z s c e f n).words d ≡ view_of z s d
other_answering z s d c e f n h ld other =
    view_same z s (answering z s c e f n).words d h ld ((answering_harmless z s c e f n h).others d ld (λ is. other (sym is)))

-- A frame that is domain d's or unmapped is so after any request that is not another domain's mapping of it.
pub mine_kept : (z : Sizes) (s : List ℕ) (d c e f n g : ℕ) → Sound z s → d < z.domains → g < z.frames → ((e ≡ d → ⊥) → MapNames c f n g → ⊥) → Mine z s d g → Mine z (answering z s c e f n).words d g
mine_kept z s d c e f n g h ld lg not =
    harmless_mine z s (answering z s c e f n).words d e g (MapNames c f n) h.leaf_range ld lg (answering_harmless z s c e f n h) (λ other. not (λ is. other (sym is)))
