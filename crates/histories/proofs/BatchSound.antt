-- A batch keeps a state sound, with its holes; on a sound state it is refused by 5 or 6 alone.
-- Assumes nothing.
use Prim.Native.Nat.{ℕ, zero, suc, ◌/◌}
use mathlib.Core.Path.{◌≡◌, refl, sym, subst, ◌∙◌}
use mathlib.Core.List.{List}
use mathlib.Core.Bool.{true}
use mathlib.Core.Logic.{◌⊎◌, inl, inr}
use lib.Dec.{eqb}
use lib.ListN.{length}
use Rattle.layout.specs.declared.Sizes.{Sizes}
use Rattle.board.proofs.HoleLaws.{HolesKept}
use Rattle.sound.specs.Contents.{sizes_in}
use Rattle.sound.specs.Audit.{audit_number}
use Rattle.sound.specs.Sound.{Sound}
use Rattle.sound.proofs.SoundLaws.{sound_number, sound_sizes, number_sound}
use Rattle.batch.specs.Batch.{request_word, state_after, answers_after, Served, served, requests_fit, answers_fit, serving}
use Rattle.histories.specs.Demands.{RequestSound}
use Rattle.questions.specs.Questions.{answering}
use Rattle.pages.proofs.CaseLaws.{by_test}
use Rattle.requests.proofs.AnsweringSound.{answering_sound, answering_holes}

-- ---- One batch
-- A batch from a sound state, whose lengths fit.
pub fits_served : (s q a : List ℕ) → audit_number s ≡ 0 → requests_fit q ≡ true → answers_fit q a ≡ true → serving s q a ≡ served 0 (state_after (sizes_in s) s q (length q / 4)) (answers_after (sizes_in s) s q a (length q / 4))
unfolding serving
fits_served s q a e f g = rw (e, f, g)

pub after_sound : (z : Sizes) (s q : List ℕ) → Sound z s → (k : ℕ) → Sound z (state_after z s q k)
unfolding state_after
after_sound z s q h zero = h
after_sound z s q h (suc k) =
    answering_sound z (state_after z s q k) (request_word q k 0) (request_word q k 1) (request_word q k 2) (request_word q k 3) (after_sound z s q h k)

-- A batch that is refused leaves the state as it was.
pub served_sound : (z : Sizes) (s q a : List ℕ) → Sound z s → Sound z (serving s q a).state
unfolding serving
served_sound z s q a h =
    by_test After (eqb (audit_number s) 0) _ _
    (λ _.
    by_test After (requests_fit q) _ _
    (λ _.
    by_test After (answers_fit q a) _ _
    (λ _. subst (λ (y : Sizes). Sound z (state_after y s q (length q / 4))) (sym (sound_sizes z s h)) (after_sound z s q h (length q / 4)))
    (λ _. h))
    (λ _. h))
    (λ _. h)
  where
    After : Served → Type 0
    After r = Sound z r.state

-- The same of the holes.
pub after_holes : (z : Sizes) (s q : List ℕ) → Sound z s → (k : ℕ) → HolesKept s (state_after z s q k)
unfolding state_after
after_holes z s q h zero j low high = refl
after_holes z s q h (suc k) j low high =
    answering_holes z (state_after z s q k) (request_word q k 0) (request_word q k 1) (request_word q k 2) (request_word q k 3) (after_sound z s q h k) j low high
    ∙ after_holes z s q h k j low high

pub served_holes : (z : Sizes) (s q a : List ℕ) → Sound z s → HolesKept s (serving s q a).state
unfolding serving
served_holes z s q a h =
    by_test After (eqb (audit_number s) 0) _ _
    (λ _.
    by_test After (requests_fit q) _ _
    (λ _.
    by_test After (answers_fit q a) _ _
    (λ _. subst (λ (y : Sizes). HolesKept s (state_after y s q (length q / 4))) (sym (sound_sizes z s h)) (after_holes z s q h (length q / 4)))
    (λ _ j low high. refl))
    (λ _ j low high. refl))
    (λ _ j low high. refl)
  where
    After : Served → Type 0
    After r = HolesKept s r.state

-- A batch on a sound state is done, or refused by 5 or 6.
pub sound_answer : (z : Sizes) (s q a : List ℕ) → Sound z s → ((serving s q a).number ≡ 0) ⊎ ((serving s q a).number ≡ 5) ⊎ ((serving s q a).number ≡ 6)
unfolding serving
sound_answer z s q a h =
    by_test Number (eqb (audit_number s) 0) _ _
    (λ _.
    by_test Number (requests_fit q) _ _
    (λ _. by_test Number (answers_fit q a) _ _ (λ _. inl refl) (λ _. inr (inr refl)))
    (λ _. inr (inl refl)))
    (λ _. inl (sound_number z s h))
  where
    Number : Served → Type 0
    Number r = (r.number ≡ 0) ⊎ (r.number ≡ 5) ⊎ (r.number ≡ 6)

-- ---- From any state that passes the audit, the state passes it
-- after each request of a batch,
pub request_sound : RequestSound answering
request_sound = answering_sound

pub requests_sound : (s q : List ℕ) → audit_number s ≡ 0 → (k : ℕ) → audit_number (state_after (sizes_in s) s q k) ≡ 0
requests_sound s q passed k =
    sound_number (sizes_in s) (state_after (sizes_in s) s q k) (after_sound (sizes_in s) s q (number_sound s passed) k)

-- and the next batch is refused by 5 or 6 alone.
pub only_5_or_6 : (s q a : List ℕ) → audit_number s ≡ 0 → ((serving s q a).number ≡ 0) ⊎ ((serving s q a).number ≡ 5) ⊎ ((serving s q a).number ≡ 6)
only_5_or_6 s q a passed = sound_answer (sizes_in s) s q a (number_sound s passed)
