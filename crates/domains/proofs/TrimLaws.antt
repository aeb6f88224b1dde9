-- What is promised of a trim.
-- Assumes nothing.
use Prim.Native.Nat.{ℕ, ◌<◌}
use mathlib.Core.Path.{◌≡◌, ap, ap₂, ◌∙◌}
use mathlib.Core.List.{List}
use native.Mathlib.Omega.{arith}
use Rattle.layout.specs.declared.Sizes.{Sizes}
use Rattle.layout.specs.Outcomes.{outcome}
use Rattle.sound.specs.Sound.{Sound, Ordinary}
use Rattle.returning.specs.Returning.{number_returned, trimming}
use Rattle.returning.proofs.TrimLaws.{none_goes, nothing_changes, trimming_sound, trimming_content, trimming_leaf, trimming-live, trimming_gone, trimming-stays, trimming-rank, returned_number, trimming_none}
use Rattle.pages.specs.Answers.{Finished}
use Rattle.domains.specs.Trimming.{trim_call, GivesBack}

-- The code's number and words are the outcome.
pub trim_is : (z : Sizes) (s r : List ℕ) (d n : ℕ) → (n ≡ number_returned z s d) × (r ≡ trimming z s d) → outcome (Finished n) r ≡ trim_call z s d
unfolding trim_call
trim_is z s r d n e = ap₂ (λ (k : ℕ) (w : List ℕ). outcome (Finished k) w) e.0 e.1

pub gives_back : (z : Sizes) (s : List ℕ) → Sound z s → (d : ℕ) → d < z.domains → Ordinary z s d → GivesBack z s d (trim_call z s d)
unfolding trim_call
gives_back z s h d l o =
    let r = trimming z s d in
    let after = trimming_sound z s h d l o in
    let none = none_goes z r after d l (trimming_none z s h d l) in
    record {
      told = ap Finished (returned_number z s h d l);
      returned = trimming_gone z s h d l;
      stays = trimming-stays z s h d l;
      order = trimming-rank z s h d l;
      places = trimming_leaf z s h d l;
      hand-stays = trimming_content z s h d l 3 (omega arith);
      live-stays = trimming-live z s h d l;
      nothing = λ none. nothing_changes z s h d l (returned_number z s h d l ∙ none);
      none_empty = trimming_none z s h d l;
      again = ap₂ (λ (k : ℕ) (w : List ℕ). outcome (Finished k) w) none (nothing_changes z r after d l none);
    }
