-- Every request keeps a state sound, with its holes and the last owners of unowned TreeLings; a refused one leaves it as it was, and the page of an answer has a leaf ID.
-- Assumes nothing.
use Prim.Native.Nat.{ℕ}
use mathlib.Core.Path.{◌≡◌, refl}
use mathlib.Core.List.{List}
use Rattle.layout.specs.declared.Sizes.{Sizes}
use Rattle.board.proofs.HoleLaws.{HolesKept}
use Rattle.sound.specs.Sound.{Sound}
use Rattle.sound.proofs.FormersKept.{FormersKept}
use Rattle.pages.specs.Answers.{Refused}
use Rattle.calls.specs.CodeFits.{PageFits}
use Rattle.calls.proofs.CallsKept.{keeps}
use Rattle.questions.specs.Questions.{answering}
use Rattle.questions.proofs.AnsweringCases.{answering_cases}

module _ (z : Sizes) (s : List ℕ) (c d f n : ℕ) where
  -- "state unchanged": of every refusal, runs included.
  pub refused_same : (j : ℕ) → (answering z s c d f n).answer ≡ Refused j → (answering z s c d f n).words ≡ s
  refused_same j =
      answering_cases z s d f n (λ o. o.answer ≡ Refused j → o.words ≡ s) (λ _ _. refl) c (λ _. (keeps c).same z s d f n j)

  pub answering_sound : Sound z s → Sound z (answering z s c d f n).words
  answering_sound h = answering_cases z s d f n (λ o. Sound z o.words) (λ _. h) c ((keeps c).sound z s d f n h)

  pub answering_holes : Sound z s → HolesKept s (answering z s c d f n).words
  answering_holes h = answering_cases z s d f n (λ o. HolesKept s o.words) (λ _ j low high. refl) c ((keeps c).holes z s d f n h)

  pub answering_formers : Sound z s → FormersKept z s (answering z s c d f n).words
  answering_formers h =
      answering_cases z s d f n (λ o. FormersKept z s o.words) (λ _ t l none. refl) c ((keeps c).formers z s d f n h)

  pub answering_fits : Sound z s → PageFits (answering z s c d f n).answer
  answering_fits h = answering_cases z s d f n (λ o. PageFits o.answer) (λ _. tt) c ((keeps c).fits z s d f n h)
