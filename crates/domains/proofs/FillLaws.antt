-- Request M-107: a fill has nothing rounded away, and its quotient is 1,000 precisely where every slot is in use.
-- Assumes nothing.
use Prim.Native.Nat.{ℕ, ◌*◌, ◌/◌, ◌%◌, ◌<◌, ◌≤◌}
use mathlib.Core.Path.{◌≡◌, refl, sym, ap, ◌∙◌}
use mathlib.Core.List.{List}
use native.Mathlib.Nat.{mod-lt, div-add-mod', le-div_iff_mul-le, div-lt_iff_lt-mul}
use native.Mathlib.Omega.{arith}
use borrow.Author.Tests.{eq-eqb, ne_eqb}
use lib.ListN.{get_or}
use Rattle.layout.specs.declared.Sizes.{Sizes}
use Rattle.layout.specs.Outcomes.{outcome}
use Rattle.layout.specs.Places.{address, get, pages_mapped}
use Rattle.sound.specs.Sound.{Sound}
use Rattle.world.specs.World.{owned}
use Rattle.world.specs.Full.{AllInUse}
use Rattle.world.proofs.FrameLaws.{either}
use Rattle.world.proofs.WorldLaws.{owned_most}
use Rattle.pages.specs.Answers.{Answer, Refused, Fill}
use Rattle.domains.specs.Filling.{slots_of, quotient_of, remainder_of, fill_of, fill_call, Filled}
use Rattle.pages.proofs.SlotsInUse.{pages_most, full_pages, pages_full}

-- ---- The two cases
pub fill_none : (pages slots : ℕ) → slots ≡ 0 → fill_of pages slots ≡ Fill 0 0 0
unfolding fill_of
fill_none pages slots none = rw (eq-eqb slots 0 none)

pub fill_some : (pages slots : ℕ) → (slots ≡ 0 → ⊥) → fill_of pages slots ≡ Fill (quotient_of pages slots) (remainder_of pages slots) slots
unfolding fill_of
fill_some pages slots some = rw (ne_eqb slots 0 some)

-- It is no refusal.
pub fill_passes : {A : Type 0} (pages slots j : ℕ) → fill_of pages slots ≡ Refused j → A
fill_passes pages slots j e =
    either slots 0
    (λ none. absurd (let no : ◌≡◌ {A = ℕ} 0 1 = let is = sym (fill_none pages slots none) ∙ e in cc in omega arith))
    (λ some. absurd (let no : ◌≡◌ {A = ℕ} 0 1 = let is = sym (fill_some pages slots some) ∙ e in cc in omega arith))

-- ---- What is promised
module _ (z : Sizes) (s : List ℕ) (h : Sound z s) (d : ℕ) (l : d < z.domains) where
  abbrev pages : ℕ
  pages = get z s (pages_mapped d)

  abbrev slots : ℕ
  slots = slots_of z s d

  fill_small : (slots ≤ 16777216) × (1000 * pages ≤ 16777216000)
  fill_small =
      let few = owned_most z s h d l in
      let most = h.laid_out.laid.sizes.max_treelings in
      (omega arith, omega (arith, pages_most z s h d l))

  -- Without slots there are no pages.
  filled_none : slots ≡ 0 → Filled z s d (fill_call z s d).answer
  unfolding fill_call
  filled_none none =
      record {
        quotient = 0;
        remainder = 0;
        told = fill_none pages slots none ∙ ap (Fill 0 0) (sym none);
        whole = omega (arith, pages_most z s h d l);
        below = λ some. absurd (omega arith);
        none = λ _. (refl, refl);
        most = omega arith;
        full = (λ e. absurd (omega arith), λ w. absurd (omega (arith, w.0)));
        small = fill_small;
      }

  -- With slots there are at most as many.
  module _ (some : 0 < slots) where
    quotient_most : quotient_of pages slots ≤ 1000
    quotient_most =
        let less : quotient_of pages slots < 1001 = (div-lt_iff_lt-mul some).1 (omega (arith, pages_most z s h d l)) in
        omega arith

    quotient_full : quotient_of pages slots ≡ 1000 → AllInUse z s d
    quotient_full e =
        let least : 1000 ≤ quotient_of pages slots = omega arith in
        pages_full z s h d l (omega (arith, pages_most z s h d l, (le-div_iff_mul-le some).0 least))

    full_quotient : AllInUse z s d → quotient_of pages slots ≡ 1000
    full_quotient full =
        let least : 1000 ≤ quotient_of pages slots = (le-div_iff_mul-le some).1 (omega (arith, full_pages z s h d l full)) in
        omega (arith, quotient_most)

    filled_some : Filled z s d (fill_call z s d).answer
    unfolding fill_call
    filled_some =
        record {
          quotient = quotient_of pages slots;
          remainder = remainder_of pages slots;
          told = fill_some pages slots (λ none. omega arith);
          whole = omega (arith, div-add-mod' (1000 * pages) slots);
          below = λ _. mod-lt (1000 * pages) some;
          none = λ none. absurd (omega arith);
          most = quotient_most;
          full = (λ e. (some, quotient_full e), λ w. full_quotient w.1);
          small = fill_small;
        }

  pub filled : Filled z s d (fill_call z s d).answer
  filled = either slots 0 filled_none (λ some. filled_some (omega arith))

-- ---- The code
-- The TreeLings counted, and the pages read at i.
module _ (z : Sizes) (s : List ℕ) (d o : ℕ) (is : o ≡ owned z s d) where
  pub fill_without : 4096 * o ≡ 0 → outcome (Fill 0 0 0) s ≡ fill_call z s d
  unfolding fill_call
  fill_without none =
      ap (λ (a : Answer). outcome a s) (sym (fill_none (get z s (pages_mapped d)) (slots_of z s d) (omega (arith, is))))

  pub fill_with : (i : ℕ) → i ≡ address z (pages_mapped d) → (4096 * o ≡ 0 → ⊥)
      → (q r n : ℕ) → q ≡ 1000 * get_or s i 0 / (4096 * o) → r ≡ 1000 * get_or s i 0 % (4096 * o) → n ≡ 4096 * o → outcome (Fill q r n) s ≡ fill_call z s d
  unfolding fill_call
  fill_with i at some q r n q_is r_is n_is =
      rw (q_is, r_is, n_is, at, is) (ap (λ (a : Answer). outcome a s) (sym (fill_some (get z s (pages_mapped d)) (slots_of z s d) (rw is at some))))
