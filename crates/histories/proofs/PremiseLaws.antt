-- The premises of demand 3, of histories that are written out, by computed tests: what follows where the tests are true.
-- Assumes nothing.
use Prim.Native.Nat.{ℕ, ◌+◌, ◌<◌, ◌≤◌, min, max}
use mathlib.Core.Path.{◌≡◌, refl, sym, ◌∙◌}
use mathlib.Core.List.{List, [], ◌∷◌}
use mathlib.Core.Bool.{Bool, true, false, not, ◌&&◌, ◌||◌, false≢true}
use native.Mathlib.Omega.{arith}
use borrow.Author.Tests.{eqb-true, eq-eqb, leb-true, ltb-true, not-true}
use lib.Dec.{eqb, leb, ltb}
use Rattle.layout.specs.declared.Sizes.{Sizes}
use Rattle.board.specs.Holes.{HolesAllowed}
use Rattle.layout.specs.Places.{Allowed}
use Rattle.layout.proofs.BoundedLaws.{and_both, is_false}
use Rattle.board.specs.NewState.{new_state}
use Rattle.histories.specs.Histories.{Carried, Entry, Asked, request, Heard, Controller, heard_from, word, is_own, own_in, asks, names_frame, is_mapping, number, Every, Apart, NeverNoPlace, Fair, AllAgree}
use Rattle.histories.specs.Demands.{Isolated}

-- A test of each of a list.
unfoldable pub each : (Heard → Bool) → List Heard → Bool
each p [] = true
each p (h ∷ hs) = p h && each p hs

-- Where it holds, what follows from it holds of every one.
every_by : (p : Heard → Bool) (P : Heard → Type 0) → ((h : Heard) → p h ≡ true → P h) → (hs : List Heard) → each p hs ≡ true → Every P hs
unfolding each
every_by p P by [] t = tt
every_by p P by (h ∷ hs) t =
    let w = and_both (p h) (each p hs) t in
    (by h w.0, every_by p P by hs w.1)

-- ---- The others' mappings name no frame that the domain names
-- The frames that a request names lie from its frame on, up to that frame and its count.
abbrev first_named : Asked → ℕ
first_named (request q) = word q 2

abbrev last_named : Asked → ℕ
last_named (request q) = word q 2 + word q 3

names_within : (a : Asked) (f : ℕ) → names_frame a f ≡ true → (first_named a ≤ f) × (f ≤ last_named a)
names_within (request q) f = go (single && eqb f (word q 2)) refl
  where
    single : Bool
    single = leb 3 (word q 0) && leb (word q 0) 5

    run : Bool
    run = leb 6 (word q 0) && leb (word q 0) 7

    go : (b : Bool) → (single && eqb f (word q 2)) ≡ b → (b || (run && leb (word q 2) f && ltb f (word q 2 + word q 3))) ≡ true → (word q 2 ≤ f) × (f ≤ word q 2 + word q 3)
    go true e t = omega (arith, eqb-true f (word q 2) (and_both single (eqb f (word q 2)) e).1)
    go false e t =
        let w = and_both (run && leb (word q 2) f) (ltb f (word q 2 + word q 3)) t in
        omega (arith, leb-true (word q 2) f (and_both run (leb (word q 2) f) w.0).1, ltb-true f (word q 2 + word q 3) w.1)

-- So an own request and a mapping of another's name no frame in common where these ranges do not meet.
abbrev keep_apart : ℕ → Asked → Asked → Bool
keep_apart d own other =
    not (is_own d own) || is_own d other || not (is_mapping other) || ltb (min (last_named own) (last_named other)) (max (first_named own) (first_named other))

abbrev is_apart : ℕ → List Heard → Bool
is_apart d hs = each (λ own. each (λ other. keep_apart d own.asked other.asked) hs) hs

none_common : (d f : ℕ) (own other : Asked) → keep_apart d own other ≡ true → is_own d own ≡ true → names_frame own f ≡ true → is_own d other ≡ false → is_mapping other ≡ true → names_frame other f ≡ false
none_common d f own other t is_own_lem named is_other maps =
    let far : ltb (min (last_named own) (last_named other)) (max (first_named own) (first_named other)) ≡ true = rw (is_own_lem, is_other, maps) at t in
    is_false (names_frame other f) (λ both. omega (arith, ltb-true, names_within own f named, names_within other f both))

apart_by : (d : ℕ) (hs : List Heard) → is_apart d hs ≡ true → Apart d hs
apart_by d hs =
    every_by (λ own. each (λ other. keep_apart d own.asked other.asked) hs) (λ own. is_own d own.asked ≡ true → (f : ℕ) → names_frame own.asked f ≡ true → Every (λ other. is_own d other.asked ≡ false → is_mapping other.asked ≡ true → names_frame other.asked f ≡ false) hs)
    (λ own t is_own_lem f named. every_by (λ other. keep_apart d own.asked other.asked) (λ other. is_own d other.asked ≡ false → is_mapping other.asked ≡ true → names_frame other.asked f ≡ false) (λ other u. none_common d f own.asked other.asked u is_own_lem named) hs t) hs

-- ---- It never hears “no place”
abbrev has_places : ℕ → List Heard → Bool
has_places d hs = each (λ h. not (eqb (number h) 13)) (own_in d hs)

never_by : (d : ℕ) (hs : List Heard) → has_places d hs ≡ true → NeverNoPlace d hs
never_by d hs =
    every_by (λ h. not (eqb (number h) 13)) (λ own. number own ≡ 13 → ⊥) (λ h t e. false≢true (sym (not-true (eqb (number h) 13) t) ∙ eq-eqb (number h) 13 e)) (own_in d hs)

-- ---- Two histories
-- The tests that a history passes, and that it is fair then.
abbrev pub is_fair : ℕ → List Heard → Bool
is_fair d hs = is_apart d hs && has_places d hs

fair_by : (d : ℕ) (hs : List Heard) → is_fair d hs ≡ true → Fair d hs
fair_by d hs t =
    let w = and_both (is_apart d hs) (has_places d hs) t in
    record { apart = apart_by d hs w.0; never_no_place = never_by d hs w.1 }

-- From a state just made.
abbrev pub made : Sizes → List ℕ → Carried
made z holes = record { state = new_state z holes }

-- Demand 3 says of two that are written out and pass the tests: the domain's answers agree.
pub agreed : (c : Controller) → Isolated c → (z : Sizes) → Allowed z → (holes : List ℕ) → HolesAllowed z holes → (d : ℕ) → d < z.domains → (g h : List Entry) (gs hs : List Heard)
    → heard_from c (made z holes) g ≡ gs → heard_from c (made z holes) h ≡ hs → asks d gs ≡ asks d hs → (is_fair d gs && is_fair d hs) ≡ true → AllAgree (own_in d (heard_from c (made z holes) g)) (own_in d (heard_from c (made z holes) h))
agreed c isolated z allow holes fit d below g h gs hs e k same t =
    let w = and_both (is_fair d gs) (is_fair d hs) t in
    isolated z allow holes fit d below (made z holes) (made z holes) refl refl g h (rw (e, k) same) (rw e (fair_by d gs w.0)) (rw k (fair_by d hs w.1))
