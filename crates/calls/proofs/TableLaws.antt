-- The table of calls: what holds of every line holds of the line of any number.
-- Assumes nothing.
use Prim.Native.Nat.{ℕ, ◌+◌, ◌<◌, ◌≤◌}
use mathlib.Core.Path.{◌≡◌, refl, sym, subst}
use mathlib.Core.List.{List, [], ◌∷◌}
use mathlib.Core.Bool.{true, false}
use borrow.Author.Tests.{eqb-true, ne_eqb}
use lib.Dec.{eqb}
use Rattle.layout.specs.declared.Sizes.{Sizes}
use Rattle.board.specs.Holes.{outside}
use Rattle.sound.specs.Sound.{Live}
use Rattle.calls.specs.Table.{Uses, DomainOnly, OneFrame, FrameAndCount, NoCall, Call, calls, unlisted, line_of, call_of}
use Rattle.runs.specs.Runs.{longest_run}
use Rattle.pages.proofs.CaseLaws.{by_test}

-- ---- What the questions 8 to 11, and 16, say of a request's words
abbrev pub Legal : Sizes → Uses → ℕ → ℕ → Type 0
Legal z DomainOnly f n = Unit
Legal z OneFrame f n = f < z.frames
Legal z FrameAndCount f n = (1 ≤ n) × (f + n ≤ z.frames) × (n ≤ longest_run)
Legal z NoCall f n = ⊥

abbrev pub OutsideHoles : List ℕ → Uses → ℕ → ℕ → Type 0
OutsideHoles s DomainOnly f n = Unit
OutsideHoles s OneFrame f n = outside s f ≡ true
OutsideHoles s FrameAndCount f n = (i : ℕ) → i < n → outside s (f + i) ≡ true
OutsideHoles s NoCall f n = Unit

pub record Asked (z : Sizes) (s : List ℕ) (k : Call) (d f n : ℕ) : Type 0 where
  pub below : d < z.domains
  pub alive : k.opens ≡ false → Live z s d
  pub dead : k.opens ≡ true → Live z s d → ⊥
  pub legal : Legal z k.uses f n
  pub in_no_hole : OutsideHoles s k.uses f n

-- ---- Every line
abbrev pub Each : (Call → Type 0) → List Call → Type 0
Each P [] = Unit
Each P (k ∷ ks) = P k × Each P ks

pub line_found : (P : ℕ → Call → Type 0) (c : ℕ) → P c (unlisted c) → (ks : List Call) → Each (λ k. P k.number k) ks → P c (line_of c ks)
unfolding line_of
line_found P c none [] e = none
line_found P c none (k ∷ ks) e =
    by_test (P c) (eqb c k.number) k (line_of c ks)
    (λ is. subst (λ (x : ℕ). P x k) (sym (eqb-true c k.number is)) e.0)
    (λ _. line_found P c none ks e.1)

-- ---- A number that is no call's
pub no_call : (c : ℕ) → (c ≡ 1 → ⊥) → (c ≡ 2 → ⊥) → (c ≡ 3 → ⊥) → (c ≡ 4 → ⊥) → (c ≡ 5 → ⊥) → (c ≡ 6 → ⊥) → (c ≡ 7 → ⊥) → (c ≡ 8 → ⊥) → (c ≡ 11 → ⊥) → (call_of c).uses ≡ NoCall
unfolding line_of calls
no_call c a1 a2 a3 a4 a5 a6 a7 a8 a11 =
    simp (ne_eqb c 1 a1, ne_eqb c 2 a2, ne_eqb c 3 a3, ne_eqb c 4 a4, ne_eqb c 5 a5, ne_eqb c 6 a6, ne_eqb c 7 a7, ne_eqb c 8 a8, ne_eqb c 11 a11) refl

-- ---- Which call opens a domain
-- Call 1 does.
pub opens_first : (c : ℕ) → c ≡ 1 → (call_of c).opens ≡ true
unfolding line_of calls
opens_first c is = subst (λ (x : ℕ). (call_of x).opens ≡ true) (sym is) refl

pub others_open : (c : ℕ) → (c ≡ 1 → ⊥) → (call_of c).opens ≡ false
unfolding calls
others_open c =
    line_found (λ x k. (x ≡ 1 → ⊥) → k.opens ≡ false) c (λ _. refl) calls
    ((λ no. absurd (no refl)), ((λ _. refl), ((λ _. refl), ((λ _. refl), ((λ _. refl), ((λ _. refl), ((λ _. refl), ((λ _. refl), ((λ _. refl), tt)))))))))
