-- Laws of tests joined by "and" and "or", and of a word that is 0 or a number + 1, as an owner is.
-- Assumes nothing.
use Prim.Native.Nat.{ℕ, zero, suc, ◌-◌, ◌<◌}
use mathlib.Core.Path.{◌≡◌, refl, sym, ap, ◌∙◌}
use mathlib.Core.Bool.{Bool, true, false, ◌&&◌, ◌||◌, false≢true}
use mathlib.Core.List.{List}
use native.Mathlib.Nat.{not-suc-le-zero, le_of_eq}
use native.Mathlib.Omega.{arith}
use borrow.Author.Tests.{ltb-true, ltb-false, lt-ltb, le-ltb, eqb-true, eq-eqb}
use lib.Dec.{eqb, ltb}
use Rattle.layout.specs.declared.Sizes.{Sizes}
use Rattle.layout.specs.Places.{get, owner, live}
use Rattle.sound.specs.Sound.{Live, Ordinary}
use Rattle.sound.specs.Sentences.{is_owned, is_ordinary}
use Rattle.layout.proofs.BoundedLaws.{and_both, and_of}

-- The two halves of an "and".
pub and_left : (a b : Bool) → (a && b) ≡ true → a ≡ true
and_left a b h = (and_both a b h).0

pub and_right : (a b : Bool) → (a && b) ≡ true → b ≡ true
and_right a b h = (and_both a b h).1

-- Where one of two is false the other is true.
pub or_rest : (a b : Bool) → (a || b) ≡ true → a ≡ false → b ≡ true
or_rest true b h e = absurd (false≢true (sym e))
or_rest false b h e = h

-- Where neither holds both are false.
pub or_no : (a b : Bool) → (a || b) ≡ false → (a ≡ false) × (b ≡ false)
or_no true b h = absurd (false≢true (sym h))
or_no false b h = (refl, h)

-- Enough: the second is true where the first is false.
pub or_of : (a b : Bool) → (a ≡ false → b ≡ true) → (a || b) ≡ true
or_of true b h = refl
or_of false b h = h refl

-- A number that is not 0 is one more than another.
pub one_more : (x : ℕ) → 0 < x → (p : ℕ) × (x ≡ suc p)
one_more zero h = absurd (not-suc-le-zero h)
one_more (suc p) h = (p, refl)

module _ (z : Sizes) (s : List ℕ) (t : ℕ) where
  -- A TreeLing with an owner, by the test.
  pub owned : (d : ℕ) → get z s (owner t) ≡ suc d → is_owned z s t ≡ true
  owned d e = lt-ltb 0 (get z s (owner t)) (omega arith)

  pub an_owner : is_owned z s t ≡ true → (d : ℕ) × (get z s (owner t) ≡ suc d)
  an_owner e = one_more (get z s (owner t)) (ltb-true 0 (get z s (owner t)) e)

  -- One of an ordinary domain, by the test.
  pub ordinary_test : (d : ℕ) → get z s (owner t) ≡ suc d → Ordinary z s d → is_ordinary z s t ≡ true
  ordinary_test d e o =
      let named : get z s (owner t) - 1 ≡ d = omega arith in
      and_of (owned d e) (eq-eqb (get z s (live (get z s (owner t) - 1))) 1 (ap (λ (c : ℕ). get z s (live c)) named ∙ o))

  pub an_ordinary : is_ordinary z s t ≡ true → (d : ℕ) × (get z s (owner t) ≡ suc d) × Ordinary z s d
  an_ordinary e =
      let both = and_both (ltb 0 (get z s (owner t))) (eqb (get z s (live (get z s (owner t) - 1))) 1) e in
      let d = an_owner both.0 in
      let named : d.0 ≡ get z s (owner t) - 1 = omega arith in
      (d.0, d.1, ap (λ (c : ℕ). get z s (live c)) named ∙ eqb-true (get z s (live (get z s (owner t) - 1))) 1 both.1)

  -- A TreeLing with none.
  pub unowned : get z s (owner t) ≡ 0 → is_owned z s t ≡ false
  unowned e = le-ltb 0 (get z s (owner t)) (le_of_eq e)

  pub not_ordinary : get z s (owner t) ≡ 0 → is_ordinary z s t ≡ false
  not_ordinary e = ap (λ (b : Bool). b && eqb (get z s (live (get z s (owner t) - 1))) 1) (unowned e)

  pub no_owner : is_owned z s t ≡ false → get z s (owner t) ≡ 0
  no_owner e = omega (arith, ltb-false 0 (get z s (owner t)) e)

-- Every live domain is ordinary.
pub live_ordinary : (z : Sizes) (s : List ℕ) (d : ℕ) → Live z s d → Ordinary z s d
live_ordinary z s d alive = alive

-- A TreeLing with the same owner, whose live word is the same, is of the same kind.
pub kind_kept : (z : Sizes) (s r : List ℕ) (t : ℕ) → get z r (owner t) ≡ get z s (owner t) → get z r (live (get z s (owner t) - 1)) ≡ get z s (live (get z s (owner t) - 1)) → is_ordinary z r t ≡ is_ordinary z s t
kind_kept z s r t same alive =
    ap (λ (o : ℕ). ltb 0 o && eqb (get z r (live (o - 1))) 1) same
    ∙ ap (λ (v : ℕ). ltb 0 (get z s (owner t)) && eqb v 1) alive

-- A test that holds where another one does, and only there, is that one.
pub same_test : (a b : Bool) → (a ≡ true → b ≡ true) → (b ≡ true → a ≡ true) → a ≡ b
same_test true b there back = sym (there refl)
same_test false true there back = back refl
same_test false false there back = refl
