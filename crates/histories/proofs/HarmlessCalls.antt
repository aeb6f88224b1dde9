-- What a map, an unmap and a run do is harmless to the other domains.
-- Assumes nothing.
use Prim.Native.Nat.{ℕ, ◌+◌, ◌<◌, ◌≤◌}
use mathlib.Core.Path.{◌≡◌, refl, ◌∙◌}
use mathlib.Core.List.{List}
use mathlib.Core.Bool.{true}
use native.Mathlib.Omega.{arith}
use Rattle.layout.specs.declared.Sizes.{Sizes}
use Rattle.board.specs.Holes.{outside}
use Rattle.board.proofs.HoleLaws.{HolesKept, outside_kept}
use Rattle.sound.specs.Sound.{Sound, Ordinary}
use Rattle.sound.proofs.TestLaws.{live_ordinary}
use Rattle.sound.proofs.MappedLaws.{mapped_ordinary}
use Rattle.placing.specs.Placing.{placing}
use Rattle.releasing.specs.Releasing.{releasing}
use Rattle.placing.proofs.PlacingSound.{placing_sound, placing_holes}
use Rattle.releasing.proofs.ReleasedSound.{released_sound}
use Rattle.pages.specs.Answers.{Outcome}
use Rattle.pages.specs.Mapping.{map_call}
use Rattle.pages.specs.Unmapping.{unmap_call}
use Rattle.runs.specs.Runs.{map_run_call, unmap_run_call, run_of, whole_run}
use Rattle.runs.proofs.RunLaws.{run_held, whole_run_lem}
use Rattle.pages.proofs.CallLaws.{map_cases, unmap_cases, placing_pages, pages_live}
use Rattle.histories.proofs.HarmlessLaws.{Harmless, harmless_same, harmless_trans}
use Rattle.histories.proofs.OthersCalls.{placing_harmless, releasing_harmless}

-- ---- The single calls
-- Refused, with nothing written, or done.
module _ (z : Sizes) (s : List ℕ) (e f : ℕ) (Named : ℕ → Type 0) (h : Sound z s) (le : e < z.domains) (lf : f < z.frames) where
  pub map_harmless : Ordinary z s e → Named f → Harmless z s (map_call z s e f).words e Named
  map_harmless o named =
      map_cases z s e f (λ o. Harmless z s o.words e Named)
      (λ _. harmless_same z s e Named)
      (λ _ _. harmless_same z s e Named)
      (λ id none _. placing_harmless z s e f Named named h le o lf none)

  pub unmap_harmless : Harmless z s (unmap_call z s e f).words e Named
  unmap_harmless =
      unmap_cases z s e f (λ o. Harmless z s o.words e Named)
      (λ _. harmless_same z s e Named)
      (releasing_harmless z s e f Named h le lf)

-- ---- The runs
-- Words after single calls of domain e, of which more is known.
record Going (z : Sizes) (s r : List ℕ) (e : ℕ) (Named : ℕ → Type 0) (More : List ℕ → Type 0) : Type 0 where
  sound : Sound z r
  harmless : Harmless z s r e Named
  more : More r

module _ (z : Sizes) (s : List ℕ) (e f n : ℕ) (Named : ℕ → Type 0) (h : Sound z s) (le : e < z.domains) (below : f + n ≤ z.frames) where
  -- What each single call keeps, the run keeps.
  ran : (More : List ℕ → Type 0) (single : List ℕ → ℕ → Outcome) → More s
      → ((i : ℕ) (r : List ℕ) → i < n → Going z s r e Named More → Going z s (single r (f + i)).words e Named More)
      → Harmless z s (whole_run s n (run_of single s f n)).words e Named
  ran More single start step =
      whole_run_lem (λ _ r. Going z s r e Named More) (λ o. Harmless z s o.words e Named) s n (run_of single s f n)
      (run_held single s f (λ _ r. Going z s r e Named More) n (record { sound = h; harmless = harmless_same z s e Named; more = start }) (λ i r l g _. step i r l g))
      (λ _. harmless_same z s e Named)
      (λ r g. g.harmless)

  -- A map run: a domain with a page is ordinary still, and the holes are as they were.
  pub map_run_harmless : ((i : ℕ) → i < n → outside s (f + i) ≡ true) → Ordinary z s e → ((i : ℕ) → i < n → Named (f + i)) → Harmless z s (map_run_call z s e f n).words e Named
  unfolding map_run_call
  map_run_harmless out o named =
      ran Still (λ r. map_call z r e) (o, λ j _ _. refl) λ i r l g.
      map_cases z r e (f + i) (λ o. Going z s o.words e Named Still) (λ _. g) (λ _ _. g) λ id none is.
      let lf : f + i < z.frames = omega arith in
      let q = (placing z r e (f + i)).words in
      let sound = placing_sound z r e (f + i) g.sound le lf (outside_kept s r g.more.1 h.laid_out.holes_fit_lem.at_most (f + i) ∙ out i l) g.more.0 none in
      record {
        sound = sound;
        harmless = harmless_trans z s r q e Named h.leaf_range g.harmless (placing_harmless z r e (f + i) Named (named i l) g.sound le g.more.0 lf none);
        more = (live_ordinary z q e (pages_live z e (f + i) le q sound (omega (arith, placing_pages z e (f + i) le r g.sound id is))), λ j low high. placing_holes z r e (f + i) g.sound le lf j low high ∙ g.more.1 j low high);
      }
    where
      Still : List ℕ → Type 0
      Still r = Ordinary z r e × HolesKept s r

  -- An unmap run.
  pub unmap_run_harmless : Harmless z s (unmap_run_call z s e f n).words e Named
  unfolding unmap_run_call
  unmap_run_harmless =
      ran (λ _. Unit) (λ r. unmap_call z r e) tt λ i r l g.
      unmap_cases z r e (f + i) (λ o. Going z s o.words e Named (λ _. Unit)) (λ _. g) λ m.
      let lf : f + i < z.frames = omega arith in
      record {
        sound = released_sound z r e (f + i) g.sound le (mapped_ordinary z r e (f + i) g.sound lf m) lf m;
        harmless = harmless_trans z s r (releasing z r e (f + i)) e Named h.leaf_range g.harmless (releasing_harmless z r e (f + i) Named g.sound le lf m);
        more = tt;
      }
