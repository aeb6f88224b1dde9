-- Laws of a test asked of each number of a range: what an iterator answers is the answer over the numbers below the bound.
use Prim.Native.Nat.{ℕ, zero, suc, ◌+◌}
use mathlib.Core.Path.{◌≡◌, refl, sym, ap, ap₂, ◌∙◌}
use mathlib.Core.Bool.{Bool, true, false, ◌&&◌, and-true, and_assoc}
use native.Mathlib.Nat.{zero-add, add-zero}
use native.Mathlib.Omega.{arith}
use denote.Param.Members.{Mut}
use mathlib.Core.List.{List}
use Rattle.std.specs.Fn.{Called}
use Rattle.std.specs.Iterator.{YieldsThen}
use Rattle.std.specs.List.{FoldsTo, range_with_len, list_all}
use Rattle.std.specs.Prelude.{Option}
use Rattle.std.specs.Option.{MatchOption}
use Rattle.std.specs.declared.ops.Range.{Range}
use Rattle.std.proofs.iter.Yields.{nat_range_steps}
use Rattle.std.proofs.lemmas.Iterator.{YieldsList-from_range}
use Rattle.std.proofs.lemmas.Iterator.Search.{all_from_yields_List}
use Rattle.layout.specs.Bounded.{all}
use Rattle.layout.proofs.BoundedLaws.{all_none, all_cong}

-- The first number's test stands in front.
pub all-first : (n : ℕ) (p : ℕ → Bool) → all (suc n) p ≡ (p 0 && all n (λ j. p (suc j)))
unfolding all
all-first zero p = sym (and-true (p 0))
all-first (suc n) p =
    ap (λ (b : Bool). b && p (suc n)) (all-first n p) ∙ and_assoc (p 0) (all n (λ j. p (suc j))) (p (suc n))

all-from : (n a : ℕ) (p : ℕ → Bool) → list_all p (range_with_len a n) ≡ all n (λ j. p (a + j))
all-from zero a p = sym (all_none (λ j. p (a + j)))
all-from (suc n) a p =
    ap₂ ◌&&◌ (ap p (sym (add-zero a))) (all-from n (a + 1) p ∙ all_cong n (λ j. p (a + 1 + j)) (λ j. p (a + suc j)) (λ j _. ap p (omega arith)))
    ∙ sym (all-first n (λ j. p (a + j)))

-- The test of each number of `0..n`.
pub list_all-range : (n : ℕ) (p : ℕ → Bool) → list_all p (range_with_len 0 n) ≡ all n p
list_all-range n p = all-from n 0 p ∙ all_cong n (λ j. p (0 + j)) p (λ j _. ap p (zero-add j))

-- What `all` answers of `0..n`, with a closure that computes the test and changes nothing.
pub all_of_range : {F : Type 0} {g : Mut F (ℕ × Unit {0}) Bool} (n : ℕ) (test : ℕ → Bool) {u : Range ℕ} {f : F} {r : Bool}
    → (xs : List ℕ) × (o : Option ℕ) × (j : F) × YieldsThen nat_range_steps (record { start = 0; end = n }) xs o u × FoldsTo (λ p x q. Called g p (x, tt) true q) f xs j × MatchOption o (r ≡ true) (λ x. (r ≡ false) × ((h : F) × Called g j (x, tt) false h))
    → ((x : ℕ) (b : Bool) (q : F) → Called g f (x, tt) b q → (q ≡ f) × (b ≡ test x)) → r ≡ all n test
all_of_range n test {u} {f} {r} ran each =
    all_from_yields_List test u f r ran (YieldsList-from_range 0 n n refl (omega arith)) each ∙ list_all-range n test
