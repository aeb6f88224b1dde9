-- A run by its single calls.
-- Assumes nothing.
use Prim.Native.Nat.{ℕ, zero, suc, ◌+◌, ◌<◌}
use mathlib.Core.Path.{◌≡◌, refl}
use mathlib.Core.List.{List}
use native.Mathlib.Omega.{arith}
use Rattle.layout.specs.Outcomes.{outcome}
use Rattle.pages.specs.Answers.{Answer, Refused, Finished, Page, Fill, Outcome, refuse, Passed}
use Rattle.runs.specs.Runs.{Run, going, stopped, go_on, run_step, run_of, whole_run}

-- What holds of the words after n single calls, where none is refused.
abbrev pub Held : (ℕ → List ℕ → Type 0) → ℕ → Run → Type 0
Held P n (going r) = P n r
Held P n (stopped k) = Unit

-- A run keeps what each of its single calls keeps.
module _ (single : List ℕ → ℕ → Outcome) (s : List ℕ) (f : ℕ) (P : ℕ → List ℕ → Type 0) where
  held_step : (i : ℕ) (o : Outcome) (a : Answer) → o.answer ≡ a → (Passed o → P i o.words) → Held P i (go_on o a)
  unfolding go_on
  held_step i o (Refused k) e h = tt
  held_step i o (Finished pages) e h = h (λ k is. let no : ◌≡◌ {A = ℕ} 0 1 = cc in omega arith)
  held_step i o (Page id rank pages) e h = h (λ k is. let no : ◌≡◌ {A = ℕ} 0 1 = cc in omega arith)
  held_step i o (Fill quotient remainder slots) e h = h (λ k is. let no : ◌≡◌ {A = ℕ} 0 1 = cc in omega arith)

  pub run_held : (n : ℕ) → P 0 s → ((i : ℕ) (r : List ℕ) → i < n → P i r → Passed (single r (f + i)) → P (suc i) (single r (f + i)).words) → Held P n (run_of single s f n)
  unfolding run_of run_step
  run_held zero start step = start
  run_held (suc n) start step = on (run_of single s f n) (run_held n start (λ i r l. step i r (omega arith)))
    where
      on : (x : Run) → Held P n x → Held P (suc n) (run_step single (f + n) x)
      on (going r) h = held_step (suc n) (single r (f + n)) (single r (f + n)).answer refl (step n r (omega arith) h)
      on (stopped k) h = tt

-- What is shown of a refusal and of the words after all single calls holds of the run.
pub whole_run_lem : (P : ℕ → List ℕ → Type 0) (Q : Outcome → Type 0) (s : List ℕ) (n : ℕ) (x : Run) → Held P n x → ((k : ℕ) → Q (refuse k s)) → ((r : List ℕ) → P n r → Q (outcome (Finished n) r)) → Q (whole_run s n x)
unfolding whole_run
whole_run_lem P Q s n (going r) held refused all = all r held
whole_run_lem P Q s n (stopped k) held refused all = refused k
