-- The words after some single calls of a run: sound, with the holes and the last owners as they were and as many pages more or less.
-- Assumes nothing.
use Prim.Native.Nat.{ℕ, suc, ◌+◌, ◌<◌, ◌≤◌}
use mathlib.Core.Path.{◌≡◌, refl, ◌∙◌}
use mathlib.Core.List.{List}
use mathlib.Core.Bool.{true}
use native.Mathlib.Omega.{arith}
use Rattle.layout.specs.declared.Sizes.{Sizes}
use Rattle.board.specs.Holes.{outside}
use Rattle.layout.specs.Places.{get, pages_mapped}
use Rattle.board.proofs.HoleLaws.{HolesKept, outside_kept}
use Rattle.sound.specs.Sound.{Sound, Ordinary}
use Rattle.sound.proofs.TestLaws.{live_ordinary}
use Rattle.sound.proofs.MappedLaws.{mapped_ordinary}
use Rattle.sound.proofs.FormersKept.{StillUnowned, still_same, still_on}
use Rattle.placing.specs.Placing.{placing}
use Rattle.placing.proofs.PlacingSound.{placing_sound, placing_holes}
use Rattle.placing.proofs.FormerLaws.{placing_formers}
use Rattle.releasing.specs.Releasing.{releasing}
use Rattle.releasing.proofs.ReleasedSound.{released_sound, released_holes, released_formers}
use Rattle.pages.specs.Answers.{Passed}
use Rattle.pages.specs.Mapping.{map_call}
use Rattle.pages.specs.Unmapping.{unmap_call}
use Rattle.runs.specs.Runs.{run_of}
use Rattle.runs.proofs.RunLaws.{Held, run_held}
use Rattle.pages.proofs.CallLaws.{map_cases, unmap_cases, placing_pages, releasing_pages, pages_live}

module _ (z : Sizes) (s : List ℕ) (d f n : ℕ) (h : Sound z s) (l : d < z.domains) (m : f + n ≤ z.frames) where
  -- The words after i frames mapped: sound, the domain ordinary, with i pages more, the holes and the last owners kept.
  abbrev pub Mapped : ℕ → List ℕ → Type 0
  Mapped i r =
      Sound z r × Ordinary z r d × (get z r (pages_mapped d) ≡ get z s (pages_mapped d) + i) × HolesKept s r × StillUnowned z s r

  pub none_placed : Ordinary z s d → Mapped 0 s
  none_placed alive = (h, alive, omega arith, λ j low high. refl, still_same z s s (λ _ _ _ _. refl))

  pub map_step_lem : ((i : ℕ) → i < n → outside s (f + i) ≡ true) → (i : ℕ) (r : List ℕ) → i < n → Mapped i r → Passed (map_call z r d (f + i)) → Mapped (suc i) (map_call z r d (f + i)).words
  map_step_lem out i r k w =
      map_cases z r d (f + i) (λ o. Passed o → Mapped (suc i) o.words)
      (λ _ passed. absurd (passed 12 refl))
      (λ _ _ passed. absurd (passed 13 refl))
      (λ id none is _.
      let sound = placing_sound z r d (f + i) w.0 l (omega arith) (outside_kept s r w.3 h.laid_out.holes_fit_lem.at_most (f + i) ∙ out i k) w.1 none in
      let pages = placing_pages z d (f + i) l r w.0 id is in (
        sound,
        live_ordinary z (placing z r d (f + i)).words d (pages_live z d (f + i) l _ sound (omega arith)),
        omega (arith, w.2),
        λ j low high. placing_holes z r d (f + i) w.0 l (omega arith) j low high ∙ w.3 j low high,
        still_on z s r (placing z r d (f + i)).words w.4 (placing_formers z r d (f + i) w.0 l (omega arith)),
      ))

  pub map_run_held : ((i : ℕ) → i < n → outside s (f + i) ≡ true) → Ordinary z s d → Held Mapped n (run_of (λ r. map_call z r d) s f n)
  map_run_held out alive = run_held (λ r. map_call z r d) s f Mapped n (none_placed alive) (map_step_lem out)

  -- The words after i frames unmapped: sound, with i pages less, the holes and the last owners kept.
  abbrev pub Unmapped : ℕ → List ℕ → Type 0
  Unmapped i r = Sound z r × (get z s (pages_mapped d) ≡ get z r (pages_mapped d) + i) × HolesKept s r × StillUnowned z s r

  pub none_released : Unmapped 0 s
  none_released = (h, omega arith, λ j low high. refl, still_same z s s (λ _ _ _ _. refl))

  pub unmap_step : (i : ℕ) (r : List ℕ) → i < n → Unmapped i r → Passed (unmap_call z r d (f + i)) → Unmapped (suc i) (unmap_call z r d (f + i)).words
  unmap_step i r k w =
      unmap_cases z r d (f + i) (λ o. Passed o → Unmapped (suc i) o.words)
      (λ _ passed. absurd (passed 14 refl))
      (λ mapped _.
      let ordinary = mapped_ordinary z r d (f + i) w.0 (omega arith) mapped in (
        released_sound z r d (f + i) w.0 l ordinary (omega arith) mapped,
        omega (arith, w.1, releasing_pages z d (f + i) l r w.0 (omega arith) mapped),
        λ j low high. released_holes z r d (f + i) w.0 l ordinary (omega arith) mapped j low high ∙ w.2 j low high,
        still_on z s r (releasing z r d (f + i)) w.3 (released_formers z r d (f + i) w.0 l ordinary (omega arith) mapped),
      ))

  pub unmap_run_held : Held Unmapped n (run_of (λ r. unmap_call z r d) s f n)
  unmap_run_held = run_held (λ r. unmap_call z r d) s f Unmapped n none_released unmap_step
