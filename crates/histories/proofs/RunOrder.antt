-- A done run has made its single calls in frame order: each is answered as a request by itself.
-- Assumes nothing.
use Prim.Native.Nat.{ℕ, suc, ◌+◌, ◌<◌, ◌≤◌}
use mathlib.Core.Path.{◌≡◌, refl, sym, subst, ◌∙◌}
use mathlib.Core.List.{List}
use mathlib.Core.Bool.{true}
use native.Mathlib.Omega.{arith}
use borrow.Author.Tests.{eq-eqb, lt-ltb}
use Rattle.layout.specs.declared.Sizes.{Sizes}
use Rattle.layout.specs.Places.{get, live}
use Rattle.board.specs.Holes.{outside}
use Rattle.board.proofs.HoleLaws.{outside_kept}
use Rattle.sound.specs.Sound.{Sound, Live, Ordinary}
use Rattle.sound.proofs.MappedLaws.{mapped_ordinary}
use Rattle.sound.proofs.TestLaws.{live_ordinary}
use Rattle.pages.specs.Answers.{Outcome, Passed}
use Rattle.pages.specs.Mapping.{map_call}
use Rattle.pages.specs.Unmapping.{unmap_call}
use Rattle.pages.proofs.CallLaws.{unmap_cases}
use Rattle.runs.specs.Runs.{run_of, map_run_call, unmap_run_call}
use Rattle.runs.proofs.RunLaws.{run_held, whole_run_lem}
use Rattle.runs.proofs.RunSound.{Mapped, none_placed, map_step_lem, Unmapped, none_released, unmap_step}
use Rattle.calls.specs.Table.{calls, line_of, call_of}
use Rattle.questions.specs.Questions.{refusal_of, answering}
use Rattle.questions.proofs.AnsweringCases.{asking_done, answering_as}
use Rattle.histories.specs.Told.{Singles, none_yet, one_more, RunInOrder}
use Rattle.histories.proofs.DemandTwo.{no_refusal}

-- ---- A single call as a request
module _ (z : Sizes) (r : List ℕ) (d g : ℕ) (l : d < z.domains) (m : g < z.frames) (out : outside r g ≡ true) (alive : Live z r d) where
  map_asked : map_call z r d g ≡ answering z r 3 d g 0
  unfolding line_of calls refusal_of
  map_asked = asking_done z r (call_of 3) d g 0 (rw (lt-ltb d z.domains l, lt-ltb g z.frames m, out, eq-eqb (get z r (live d)) 1 alive) refl)

  unmap_asked : unmap_call z r d g ≡ answering z r 4 d g 0
  unfolding line_of calls refusal_of
  unmap_asked = asking_done z r (call_of 4) d g 0 (rw (lt-ltb d z.domains l, lt-ltb g z.frames m, out, eq-eqb (get z r (live d)) 1 alive) refl)

-- One more of them.
module _ (z : Sizes) (s : List ℕ) (d f i c : ℕ) (r : List ℕ) (o : Outcome) (is : o ≡ answering z r c d (f + i) 0) where
  on : Passed o → Singles answering c z s d f i r → Singles answering c z s d f (suc i) o.words
  on passed before =
      subst (λ (x : Outcome). Singles answering c z s d f (suc i) x.words) (sym is) (one_more before (subst Passed is passed))

-- ---- Runs
module _ (z : Sizes) (s : List ℕ) (d f n : ℕ) (h : Sound z s) where
  abbrev MapsInOrder : Outcome → Type 0
  MapsInOrder o = Passed o → Singles answering 3 z s d f n o.words

  maps_in_order : MapsInOrder (answering z s 6 d f n)
  unfolding line_of calls map_run_call
  maps_in_order =
      answering_as z s d f n MapsInOrder (λ k. no_refusal s k) 6 6 refl λ a.
      whole_run_lem (Each a.below a.legal.1) MapsInOrder s n (run_of (λ r. map_call z r d) s f n)
      (run_held (λ r. map_call z r d) s f (Each a.below a.legal.1) n (none_placed z s d f n h a.below a.legal.1 (live_ordinary z s d (a.alive refl)), none_yet) (step a.below a.legal.1 a.in_no_hole))
      (λ k. no_refusal s k) (λ r w _. w.1)
    where
      Each : d < z.domains → f + n ≤ z.frames → ℕ → List ℕ → Type 0
      Each l m i r = Mapped z s d f n h l m i r × Singles answering 3 z s d f i r

      step : (l : d < z.domains) (m : f + n ≤ z.frames) → ((i : ℕ) → i < n → outside s (f + i) ≡ true) → (i : ℕ) (r : List ℕ) → i < n → Each l m i r → Passed (map_call z r d (f + i)) → Each l m (suc i) (map_call z r d (f + i)).words
      step l m out i r k w passed = (
        map_step_lem z s d f n h l m out i r k w.0 passed,
        on z s d f i 3 r (map_call z r d (f + i)) (map_asked z r d (f + i) l (omega arith) (outside_kept s r w.0.3 h.laid_out.holes_fit_lem.at_most (f + i) ∙ out i k) w.0.1) passed w.1,
      )

  abbrev UnmapsInOrder : Outcome → Type 0
  UnmapsInOrder o = Passed o → Singles answering 4 z s d f n o.words

  unmaps_in_order : UnmapsInOrder (answering z s 7 d f n)
  unfolding line_of calls unmap_run_call
  unmaps_in_order =
      answering_as z s d f n UnmapsInOrder (λ k. no_refusal s k) 7 7 refl λ a.
      whole_run_lem (Each a.below a.legal.1) UnmapsInOrder s n (run_of (λ r. unmap_call z r d) s f n)
      (run_held (λ r. unmap_call z r d) s f (Each a.below a.legal.1) n (none_released z s d f n h a.below a.legal.1, none_yet) (step a.below a.legal.1 a.in_no_hole))
      (λ k. no_refusal s k) (λ r w _. w.1)
    where
      Each : d < z.domains → f + n ≤ z.frames → ℕ → List ℕ → Type 0
      Each l m i r = Unmapped z s d f n h l m i r × Singles answering 4 z s d f i r

      -- A frame that is unmapped is the domain's own, and so the domain is live.
      alive : (r : List ℕ) (g : ℕ) → Sound z r → g < z.frames → Passed (unmap_call z r d g) → Ordinary z r d
      alive r g sound m =
          unmap_cases z r d g (λ o. Passed o → Ordinary z r d) (λ _. no_refusal r 14) (λ mapped _. mapped_ordinary z r d g sound m mapped)

      step : (l : d < z.domains) (m : f + n ≤ z.frames) → ((i : ℕ) → i < n → outside s (f + i) ≡ true) → (i : ℕ) (r : List ℕ) → i < n → Each l m i r → Passed (unmap_call z r d (f + i)) → Each l m (suc i) (unmap_call z r d (f + i)).words
      step l m out i r k w passed = (
        unmap_step z s d f n h l m i r k w.0 passed,
        on z s d f i 4 r (unmap_call z r d (f + i)) (unmap_asked z r d (f + i) l (omega arith) (outside_kept s r w.0.2 h.laid_out.holes_fit_lem.at_most (f + i) ∙ out i k) (alive r (f + i) w.0.0 (omega arith) passed)) passed w.1,
      )

pub run_in_order : RunInOrder answering
run_in_order z s d f n h = (maps_in_order z s d f n h, unmaps_in_order z s d f n h)
