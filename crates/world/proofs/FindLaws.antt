-- Laws of a search of numbers in turn: what an iterator over a range or over words answers is the first number of which the test holds.
-- Assumes nothing.
use Prim.Native.Nat.{ℕ, zero, suc, ◌+◌, ◌-◌, ◌<◌, ◌≤◌}
use mathlib.Core.Path.{◌≡◌, refl, sym, ap, subst, ◌∙◌}
use native.Mathlib.Nat.{zero-add}
use native.Mathlib.Numerals.{add-one}
use mathlib.Core.Bool.{Bool, true, false, cond, false≢true}
use mathlib.Core.List.{List, [], ◌∷◌, map}
use native.Mathlib.Omega.{arith}
use denote.Param.Members.{Mut}
use denote.Ref.{Bor}
use borrow.Author.Tests.{ltb-true, ltb-false, lt-ltb, le-ltb}
use lib.Dec.{ltb}
use lib.ListN.{length, get_or}
use Rattle.std.specs.Prelude.{Option, Some, None}
use Rattle.std.specs.Bool.{⊤}
use Rattle.std.specs.Fn.{Called, CalledAt}
use Rattle.std.specs.Iterator.{YieldsThen}
use Rattle.std.specs.List.{FoldsTo, find, position_or_len, range_with_len}
use Rattle.std.specs.Option.{MatchOption, option_map, unwrap_or, is_some}
use Rattle.std.specs.Slice.Iter.{iter_rest}
use Rattle.std.specs.declared.ops.Range.{Range}
use Rattle.std.specs.declared.slice.Iter.{Iter}
use Rattle.std.proofs.iter.Yields.{fronts, nat_range_steps}
use Rattle.std.proofs.lemmas.Iterator.{YieldsList-from_slice, first_from_Range}
use Rattle.std.proofs.lemmas.Iterator.Search.{position_from_yields_List}
use Rattle.geometry.specs.Tables.{first_from}
use Rattle.geometry.proofs.FirstLaws.{first_none, first_here, first_later, first_from_lem, first_holds, first-before, first_most}
use Rattle.world.specs.Find.{find_from}

-- ---- The first number of which p holds
-- Of the numbers from a on, p holds of none below b.
abbrev pub NoneIn : (ℕ → Bool) → ℕ → ℕ → Type 0
NoneIn p a b = (t : ℕ) → a ≤ t → t < b → p t ≡ false

module _ (p : ℕ → Bool) (a n : ℕ) where
  -- It is that of which p holds with none before it,
  pub first_is : (i : ℕ) → a ≤ i → i < a + n → p i ≡ true → NoneIn p a i → first_from p a n ≡ i
  first_is i from l holds none =
      let first = first_from p a n in
      let low = first_from_lem p a n in
      let not_less : first < i → ⊥ = λ less. false≢true (sym (none first low less) ∙ first_holds p a n (omega arith)) in
      let not_more : i < first → ⊥ = λ more. false≢true (sym (first-before p a n i from more) ∙ holds) in
      omega arith

  -- and is found,
  pub found_lem : (i : ℕ) → a ≤ i → i < a + n → p i ≡ true → NoneIn p a i → Some i ≡ find_from p a n
  found_lem i from l holds none = rw (first_is i from l holds none, lt-ltb i (a + n) l)

  -- or there is none.
  pub found_none : NoneIn p a (a + n) → None ≡ find_from p a n
  found_none none = by_test (ltb (first_from p a n) (a + n)) refl
    where
      by_test : (b : Bool) → ltb (first_from p a n) (a + n) ≡ b → None ≡ find_from p a n
      by_test true e =
          let below = ltb-true (first_from p a n) (a + n) e in
          absurd (false≢true (sym (none (first_from p a n) (first_from_lem p a n) below) ∙ first_holds p a n below))
      by_test false e = rw e

  -- What an answer says.
  abbrev pub Found : Option ℕ → Type 0
  Found r = MatchOption r (NoneIn p a (a + n)) (λ i. (a ≤ i) × (i < a + n) × (p i ≡ true) × NoneIn p a i)

  pub found_told : (r : Option ℕ) → r ≡ find_from p a n → Found r
  found_told r is = subst Found (sym is) (by_test (ltb (first_from p a n) (a + n)) refl)
    where
      by_test : (b : Bool) → ltb (first_from p a n) (a + n) ≡ b → Found (cond b (Some (first_from p a n)) None)
      by_test true e =
          let below = ltb-true (first_from p a n) (a + n) e in
          (first_from_lem p a n, below, first_holds p a n below, first-before p a n)
      by_test false e =
          let past = ltb-false (first_from p a n) (a + n) e in
          λ t low less. first-before p a n t low (omega arith)

  -- Whether it is some,
  pub found_some : (r : Option ℕ) → r ≡ find_from p a n → is_some r ≡ ltb (first_from p a n) (a + n)
  found_some r is = rw is (by_test (ltb (first_from p a n) (a + n)))
    where
      by_test : (b : Bool) → is_some (cond b (Some (first_from p a n)) None) ≡ b
      by_test true = refl
      by_test false = refl

  -- and what it is, with the end for none.
  pub found_or_end : (b : ℕ) → a + n ≡ b → (r : Option ℕ) → r ≡ find_from p a n → unwrap_or r b ≡ first_from p a n
  found_or_end b end r is = rw is (by_test (ltb (first_from p a n) (a + n)) refl)
    where
      by_test : (c : Bool) → ltb (first_from p a n) (a + n) ≡ c → unwrap_or (cond c (Some (first_from p a n)) None) b ≡ first_from p a n
      by_test true e = refl
      by_test false e = omega (arith, end, ltb-false (first_from p a n) (a + n) e, first_most p a n)

-- ---- What iterators answer
-- `find` over a range, with a closure that computes the test and changes nothing.
pub find_of_range : {F : Type 0} {g : Mut F (Bor ℕ × Unit {0}) Bool} (p : ℕ → Bool) (a b n : ℕ) → a + n ≡ b → (u : Range ℕ) {f : F} {r : Option ℕ}
    → (xs : List ℕ) × (j : F) × YieldsThen nat_range_steps (record { start = a; end = b }) xs r u × FoldsTo (λ p x q. CalledAt g p x false q) f xs j × MatchOption r ⊤ (λ x. (h : F) × CalledAt g j x true h)
    → ((x : ℕ) (b : Bool) (q : F) → CalledAt g f x b q → (q ≡ f) × (b ≡ p x)) → r ≡ find_from p a n
find_of_range p a b n is u {f} {r} ran each =
    by_case r (first_from_Range (record { start = a; end = b }) u f r (λ x. p x ≡ true) (λ x. p x ≡ false) ran (λ x q k. sym (each x true q k).1) (λ x q k. let e = each x false q k in (e.0, sym e.1)))
  where
    by_case : (r : Option ℕ) → MatchOption r ((k : ℕ) → a ≤ k → k < b → p k ≡ false) (λ i. (a ≤ i) × (i < b) × (p i ≡ true) × ((k : ℕ) → a ≤ k → k < i → p k ≡ false)) → r ≡ find_from p a n
    by_case None none = found_none p a n (λ t low less. none t low (omega arith))
    by_case (Some i) w = found_lem p a n i w.0 (omega (arith, w.1)) w.2 w.3

-- The words before the first of which q holds.
words_before : (q : ℕ → Bool) (ws : List ℕ) (p : ℕ → Bool) (i : ℕ) → ((k : ℕ) → k < length ws → p (i + k) ≡ q (get_or ws k 0)) → i + position_or_len q ws ≡ first_from p i (length ws)
words_before q [] p i same = omega (arith, first_none p i)
words_before q (w ∷ ws) p i same = by_test (q w) refl (words_before q ws p (suc i) (λ k l. ap p (omega arith) ∙ same (suc k) (omega arith)))
  where
    here : p i ≡ q w
    here = ap p (omega arith) ∙ same 0 (omega arith)

    by_test : (b : Bool) → q w ≡ b → suc i + position_or_len q ws ≡ first_from p (suc i) (length ws) → i + position_or_len q (w ∷ ws) ≡ first_from p i (length (w ∷ ws))
    by_test true e later = rw (e, first_here p i (length ws) (here ∙ e)) (omega arith)
    by_test false e later = rw (e, first_later p i (length ws) (here ∙ e)) (omega (arith, later))

-- `position` over words, with a closure that computes the test and changes nothing.
pub position_of_words : {F : Type 0} {g : Mut F (Bor ℕ × Unit {0}) Bool} (q : ℕ → Bool) (ws : List ℕ) (n : ℕ) → length ws ≡ n → {s u : Iter ℕ} {f : F} {r : Option ℕ} → iter_rest s ≡ ws
    → (xs : List (Bor ℕ)) × (o : Option (Bor ℕ)) × (j : F) × YieldsThen fronts s xs o u × FoldsTo (λ p x q. Called g p (x, tt) false q) f xs j × MatchOption o (r ≡ None) (λ x. (r ≡ Some (length xs)) × ((h : F) × Called g j (x, tt) true h))
    → ((x : Bor ℕ) (b : Bool) (h : F) → Called g f (x, tt) b h → (h ≡ f) × (b ≡ q x.now)) → r ≡ find_from (λ k. q (get_or ws k 0)) 0 n
position_of_words q ws n long {s} {u} {f} {r} rest ran each =
    position_from_yields_List q u f r ran (YieldsList-from_slice ws rest) each
    ∙ rw (long, zero-add) (ap (λ (k : ℕ). cond (ltb k n) (Some k) None) at)
  where
    at : position_or_len q ws ≡ first_from (λ k. q (get_or ws k 0)) 0 n
    at = omega (arith, words_before q ws (λ k. q (get_or ws k 0)) 0 (λ k l. ap (λ (j : ℕ). q (get_or ws j 0)) (omega arith)), ap (first_from (λ k. q (get_or ws k 0)) 0) long)

-- The first of some numbers, made by f of those from a on, of which p holds.
pub find_of_map : (p : ℕ → Bool) (f : ℕ → ℕ) (a n : ℕ) → find p (map f (range_with_len a n)) ≡ option_map f (find_from (λ k. p (f k)) a n)
find_of_map p f a zero = ap (option_map f) (found_none (λ k. p (f k)) a 0 (λ k low less. absurd (omega arith)))
find_of_map p f a (suc n) = by_test (p (f a)) refl (find_of_map p f (a + 1) n)
  where
    q : ℕ → Bool
    q k = p (f k)

    by_test : (b : Bool) → q a ≡ b → find p (map f (range_with_len (a + 1) n)) ≡ option_map f (find_from q (a + 1) n)
        → find p (map f (range_with_len a (suc n))) ≡ option_map f (find_from q a (suc n))
    by_test true e later = rw e (ap (option_map f) (found_lem q a (suc n) a (omega arith) (omega arith) e (λ k low less. absurd (omega arith))))
    by_test false e later =
        let one : a + 1 ≡ suc a = add-one a in
        let end : a + suc n ≡ suc a + n = omega arith in
        rw e (later ∙ ap (option_map f) (rw (first_later q a n e, end, one) refl))
