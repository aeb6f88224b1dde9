-- Where a run stops: it is refused by the number of the first frame refused.
-- Assumes nothing.
use Prim.Native.Nat.{ℕ, zero, suc, ◌+◌, ◌<◌}
use mathlib.Core.Path.{◌≡◌, refl, ap, subst, ◌∙◌}
use mathlib.Core.List.{List}
use mathlib.Core.Logic.{◌↔◌}
use native.Mathlib.Omega.{arith}
use Rattle.world.proofs.FrameLaws.{either}
use Rattle.pages.specs.Answers.{Answer, Refused, Finished, Page, Fill, Outcome}
use Rattle.runs.specs.Runs.{Run, going, stopped, go_on, run_step, run_of, whole_run}
use Rattle.histories.specs.NoPlace.{Reaches}

stopped_whole : (s : List ℕ) (n k : ℕ) (x : Run) → (whole_run s n x).answer ≡ Refused k → x ≡ stopped k
unfolding whole_run
stopped_whole s n k (going r) e = absurd (let no : ◌≡◌ {A = ℕ} 0 1 = cc in omega arith)
stopped_whole s n k (stopped j) e = let same : j ≡ k = cc in ap stopped same

whole_stopped : (s : List ℕ) (n k : ℕ) (x : Run) → x ≡ stopped k → (whole_run s n x).answer ≡ Refused k
unfolding whole_run
whole_stopped s n k x e = ap (λ (y : Run). (whole_run s n y).answer) e

on_refused : (o : Outcome) (k : ℕ) (a : Answer) → go_on o a ≡ stopped k → a ≡ Refused k
unfolding go_on
on_refused o k (Refused j) e = let same : j ≡ k = cc in ap Refused same
on_refused o k (Finished pages) e = absurd (let no : ◌≡◌ {A = ℕ} 0 1 = cc in omega arith)
on_refused o k (Page id rank pages) e = absurd (let no : ◌≡◌ {A = ℕ} 0 1 = cc in omega arith)
on_refused o k (Fill quotient remainder slots) e = absurd (let no : ◌≡◌ {A = ℕ} 0 1 = cc in omega arith)

module _ (single : List ℕ → ℕ → Outcome) (s : List ℕ) (f k : ℕ) where
  -- A frame is reached that is refused by k.
  abbrev pub StopsAt : ℕ → Type 0
  StopsAt n = Reaches single s f n (λ r g. (single r g).answer ≡ Refused k)

  stops_at : (n : ℕ) → run_of single s f n ≡ stopped k → StopsAt n
  unfolding run_of run_step
  stops_at zero e = absurd (let no : ◌≡◌ {A = ℕ} 0 1 = cc in omega arith)
  stops_at (suc n) e = last (run_of single s f n) refl e (stops_at n)
    where
      last : (x : Run) → run_of single s f n ≡ x → run_step single (f + n) x ≡ stopped k → (run_of single s f n ≡ stopped k → StopsAt n) → StopsAt (suc n)
      last (going r) is e rest = record { index = n; index_below = omega arith; words = r; reached = is; there = on_refused (single r (f + n)) k (single r (f + n)).answer e }
      last (stopped j) is e rest =
          let w = rest (is ∙ e) in
          record { index = w.index; index_below = omega (arith, w.index_below); words = w.words; reached = w.reached; there = w.there }

  stops : (n i : ℕ) (r : List ℕ) → i < n → run_of single s f i ≡ going r → (single r (f + i)).answer ≡ Refused k → run_of single s f n ≡ stopped k
  unfolding run_of run_step go_on
  stops zero i r l reached refused = absurd (omega arith)
  stops (suc n) i r l reached refused =
      either i n
      (λ same.
      ap (λ (x : Run). run_step single (f + n) x) (subst (λ (j : ℕ). run_of single s f j ≡ going r) same reached)
      ∙ ap (go_on (single r (f + n))) (subst (λ (j : ℕ). (single r (f + j)).answer ≡ Refused k) same refused))
      (λ apart. ap (λ (x : Run). run_step single (f + n) x) (stops n i r (omega arith) reached refused))

-- A run is refused by k precisely where it reaches a frame that is.
pub run_refused : (single : List ℕ → ℕ → Outcome) (s : List ℕ) (f n k : ℕ) → ((whole_run s n (run_of single s f n)).answer ≡ Refused k) ↔ StopsAt single s f k n
run_refused single s f n k = (
  λ e. stops_at single s f k n (stopped_whole s n k (run_of single s f n) e),
  λ w. whole_stopped s n k (run_of single s f n) (stops single s f k n w.index w.words w.index_below w.reached w.there),
)
