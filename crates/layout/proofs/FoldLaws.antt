-- Laws of a test folded over words in a row: with no early return it answers as the test of each word does.
-- Assumes nothing.
use Prim.Native.Nat.{ℕ, ◌+◌, ◌≤◌}
use mathlib.Core.Path.{◌≡◌, refl, sym, ap, ◌∙◌}
use mathlib.Core.Bool.{Bool, true, ◌&&◌, and-true}
use mathlib.Core.List.{List, [], ◌∷◌, ◌++◌}
use native.Mathlib.Omega.{arith}
use denote.Param.Members.{Mut}
use denote.Ref.{Bor}
use lib.ListN.{length, get_or, take, drop, length-drop}
use Rattle.std.specs.Fn.{Called}
use Rattle.std.specs.Iterator.{Drains}
use Rattle.std.specs.List.{FoldsTo, list_all}
use Rattle.std.proofs.Common.{Iter}
use Rattle.std.proofs.lemmas.Fn.{fold_over, slice_gives, fronts}
use Rattle.std.proofs.lemmas.List.{get_or-take, get_or-drop, length-take-le}
use Rattle.std.proofs.lemmas.List.Folds.{list_all-append}
use Rattle.layout.specs.Bounded.{all}
use Rattle.layout.proofs.BoundedLaws.{all_none, all_cong}
use Rattle.layout.proofs.RangeLaws.{all-first}

-- The test of each word of a list, by its number.
pub list_all-words : (test : ℕ → Bool) (ws : List ℕ) → list_all test ws ≡ all (length ws) (λ j. test (get_or ws j 0))
list_all-words test [] = sym (all_none _)
list_all-words test (w ∷ ws) =
    ap (λ (b : Bool). test w && b) (list_all-words test ws) ∙ sym (all-first (length ws) (λ j. test (get_or (w ∷ ws) j 0)))

-- The test of each of n words from an address on.
pub list_all-part : (test : ℕ → Bool) (s : List ℕ) (at n : ℕ) → at + n ≤ length s → list_all test (take n (drop at s)) ≡ all n (λ j. test (get_or s (at + j) 0))
list_all-part test s at n h =
    let long : length (take n (drop at s)) ≡ n = length-take-le n (drop at s) (let l = length-drop at s in omega arith) in
    list_all-words test (take n (drop at s))
    ∙ ap (λ (m : ℕ). all m (λ j. test (get_or (take n (drop at s)) j 0))) long
    ∙ all_cong n _ _ (λ j l. ap test (get_or-take n (drop at s) j 0 l ∙ get_or-drop at s j 0))

-- One word more.
list_all-next : (test : ℕ → Bool) (ws : List ℕ) (w : ℕ) → list_all test (ws ++ w ∷ []) ≡ (list_all test ws && test w)
list_all-next test ws w =
    list_all-append test ws (w ∷ []) ∙ ap (λ (t : Bool). list_all test ws && t) (and-true (test w))

-- What `fold` answers of words, from true on, with a closure that joins the test of each and changes nothing.
pub all_of_fold : {F : Type 0} {g : Mut F (Bool × (Bor ℕ × Unit {0})) Bool} (test : ℕ → Bool) {f : F} {s : Iter ℕ} {r : Bool} (ws : List ℕ) → s.rest.now ≡ ws
    → (xs : List (Bor ℕ)) × (f' : F) × Drains fronts s xs × FoldsTo {P = F × Bool} (λ p x q. Called g p.0 (p.1, (x, tt)) q.1 q.0) (f, true) xs (f', r)
    → ((b : Bool) (x : Bor ℕ) (c : Bool) (q : F) → Called g f (b, (x, tt)) c q → (c ≡ (b && test x.now)) × (q ≡ f)) → r ≡ list_all test ws
all_of_fold {F} {g} test {f} {s} {r} ws is ran each =
    fold_over fronts (λ y. y.now) _ (λ ys b. b ≡ list_all test ys) f step _ _ _ _ (slice_gives s) refl ran ∙ ap (list_all test) is
  where
    step : (ys : List ℕ) (b : Bool) (x : Bor ℕ) (c : Bool) (q : F) → b ≡ list_all test ys → Called g f (b, (x, tt)) c q → (c ≡ list_all test (ys ++ x.now ∷ [])) × (q ≡ f)
    step ys b x c q so k = let e = each b x c q k in (e.0 ∙ ap (λ (t : Bool). t && test x.now) so ∙ sym (list_all-next test ys x.now), e.1)
