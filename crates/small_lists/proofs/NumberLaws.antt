-- Laws of the program: a new state is made, and the numbers are those of the list's answers.
-- Assumes nothing.
use Prim.Native.Nat.{ℕ, zero, suc, ◌+◌, ◌*◌, ◌<◌, ◌≤◌}
use mathlib.Core.Path.{◌≡◌, refl, sym, ap, ap₂, ◌∙◌}
use mathlib.Core.Option.{some, map}
use mathlib.Core.List.{List, [], ◌∷◌, ◌++◌, flatten}
use native.Mathlib.Nat.{le_of_suc-le-suc, not-suc-le-zero}
use native.Mathlib.Omega.{arith}
use lib.Dec.{lit≤}
use lib.ListN.{length, get_or, get_elem?, take, drop, replicate}
use lib.Seq.{get_or-drop}
use Rattle.layout.specs.Outcomes.{OutcomeOf, outcome}
use Rattle.layout.specs.Bounded.{all}
use Rattle.board.specs.Holes.{holes_fit}
use Rattle.layout.specs.Places.{sizes_of, allowed}
use Rattle.board.specs.NewState.{new_state, making}
use Rattle.batch.specs.Batch.{Served, served, serving}
use Rattle.std.specs.Prelude.{Some, None, IsSome}
use Rattle.every_list.specs.SmallRequests.{small_sizes}
use Rattle.every_list.specs.SmallLists.{small_lists}
use Rattle.every_list.specs.Listing.{Listed, count_of, listed}
use Rattle.every_list.proofs.ListingLaws.{Given, given}
use Rattle.small_lists.specs.Numbers.{served_new, first_words, numbers_of}

-- ---- Serving
pub made : (n : ℕ) (s : List ℕ) → outcome n s ≡ making (sizes_of 1 2 2) [] (replicate 556 0) → s ≡ new_state small_sizes []
unfolding making allowed holes_fit all
made n s e = ap (λ (o : OutcomeOf ℕ). o.words) e

take-zeros : (m n : ℕ) → m ≤ n → take m (replicate {A = ℕ} n 0) ≡ replicate m 0
take-zeros zero n h = refl
take-zeros (suc m) zero h = absurd (not-suc-le-zero h)
take-zeros (suc m) (suc n) h = ap (λ (l : List ℕ). 0 ∷ l) (take-zeros m n (le_of_suc-le-suc h))

zero_at : (n i : ℕ) → get_or {A = ℕ} (replicate n 0) i 0 ≡ 0
zero_at zero i = refl
zero_at (suc n) zero = refl
zero_at (suc n) (suc i) = zero_at n i

-- Zeros behind the words are not seen.
before-zeros : (a : List ℕ) (k n i : ℕ) → get_or (a ++ drop k (replicate n 0)) i 0 ≡ get_or a i 0
before-zeros [] k n i = get_or-drop k (replicate n 0) i 0 ∙ zero_at n (k + i)
before-zeros (x ∷ a) k n zero = refl
before-zeros (x ∷ a) k n (suc i) = before-zeros a k n i

pub heard : (n : ℕ) (s q s' a : List ℕ) → length q ≤ 12 → s ≡ new_state small_sizes [] → served n s' a ≡ serving s q (take (2 * length q) (replicate 24 0))
    → first_words (a ++ drop (2 * length q) (replicate 24 0)) ≡ first_words (served_new q).answers
heard n s q s' a short new e =
    let is : a ≡ (served_new q).answers =
    ap (λ (r : Served). r.answers) e
    ∙ ap₂ (λ (x y : List ℕ). (serving x q y).answers) new (take-zeros (2 * length q) 24 (omega arith)) in
    let at : (i : ℕ) → get_or (a ++ drop (2 * length q) (replicate 24 0)) i 0 ≡ get_or (served_new q).answers i 0 =
    λ i. before-zeros a (2 * length q) 24 i ∙ ap (λ (l : List ℕ). get_or l i 0) is in
    rw (at 0, at 8, at 16) refl

-- ---- The list
-- The outcome of asking for the list with this number.
abbrev Asked : ℕ → Listed → List ℕ → Type 0
Asked number r ws = outcome r ws ≡ listed (get_elem? small_lists number) (replicate 12 0)

got : (number : ℕ) (r : Listed) (ws : List ℕ) → number < 4369 → Asked number r ws → Given number (outcome r ws)
got number r ws b e = given number (replicate 12 0) (outcome r ws) b (lit≤ tt) e

counted_few : (number : ℕ) (r : Listed) (ws : List ℕ) → number < 4369 → Asked number r ws → count_of r ≤ 3
counted_few number r ws b e =
    let g = got number r ws b e in
    omega (arith, ap count_of g.is, g.short)

pub some_list : (number : ℕ) (r : Listed) (ws : List ℕ) → number < 4369 → Asked number r ws → IsSome r
some_list number None ws b e = absurd (omega (arith, counted_few number None ws b e))
some_list number (Some n) ws b e = refl

pub few : (number n : ℕ) (r : Listed) (ws : List ℕ) → number < 4369 → Asked number r ws → r ≡ Some n → n ≤ 3
few number n r ws b e is = omega (arith, counted_few number r ws b e, ap count_of is)

pub list_numbers : (number n : ℕ) (r : Listed) (ws numbers : List ℕ) → number < 4369 → Asked number r ws → r ≡ Some n
    → numbers ≡ first_words (served_new (take (4 * n) ws)).answers → some (take n numbers) ≡ map numbers_of (get_elem? small_lists number)
list_numbers number n r ws numbers b e is first =
    let g = got number r ws b e in
    let count : n ≡ length g.list = ap count_of (sym is ∙ g.is) in
    let words : take (4 * n) ws ≡ flatten g.list = ap (λ (k : ℕ). take (4 * k) ws) count ∙ g.front in
    ap (λ (l : List ℕ). some (take n l)) (first ∙ ap (λ (q : List ℕ). first_words (served_new q).answers) words)
    ∙ ap (λ (k : ℕ). some (take k (first_words (served_new (flatten g.list)).answers))) count
    ∙ ap (map numbers_of) (sym g.at)
