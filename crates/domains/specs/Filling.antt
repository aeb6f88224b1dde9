-- Request M-107, call 11: "1,000 × pages mapped = quotient × slots + remainder and remainder below slots".
use Rattle.std.specs.Prelude.{ℕ, ◌+◌, ◌*◌, ◌/◌, ◌%◌, ◌<◌, ◌≤◌, ◌≡◌, List, cond, ◌↔◌, eqb}
use Rattle.layout.specs.declared.Sizes.{Sizes}
use Rattle.layout.specs.Outcomes.{outcome}
use Rattle.layout.specs.Places.{get, pages_mapped}
use Rattle.world.specs.World.{owned}
use Rattle.world.specs.Full.{AllInUse}
use Rattle.pages.specs.Answers.{Answer, Fill, Outcome}

-- "slots are 4,096 per TreeLing": those of domain d.
abbrev pub slots_of : Sizes → List ℕ → ℕ → ℕ
slots_of z s d = 4096 * owned z s d

-- Thousandths of the slots in use, and what is left over.
abbrev pub quotient_of : ℕ → ℕ → ℕ
quotient_of pages slots = 1000 * pages / slots

abbrev pub remainder_of : ℕ → ℕ → ℕ
remainder_of pages slots = 1000 * pages % slots

-- "Without TreeLings all are 0".
unfoldable pub fill_of : ℕ → ℕ → Answer
fill_of pages slots = cond (eqb slots 0) (Fill 0 0 0) (Fill (quotient_of pages slots) (remainder_of pages slots) slots)

-- Domain d asks for its fill; the state stays.
unfoldable pub fill_call : Sizes → List ℕ → ℕ → Outcome
fill_call z s d = outcome (fill_of (get z s (pages_mapped d)) (slots_of z s d)) s

-- What is promised of the answer from a sound state: nothing is rounded away, and the quotient is at most 1,000, and 1,000 exactly where there are slots and every one is in use. No number of it is near 2^64.
pub record Filled (z : Sizes) (s : List ℕ) (d : ℕ) (a : Answer) : Type 0 where
  pub quotient : ℕ
  pub remainder : ℕ
  pub told : a ≡ Fill quotient remainder (slots_of z s d)
  pub whole : 1000 * get z s (pages_mapped d) ≡ quotient * slots_of z s d + remainder
  pub below : 0 < slots_of z s d → remainder < slots_of z s d
  pub none : slots_of z s d ≡ 0 → (quotient ≡ 0) × (remainder ≡ 0)
  pub most : quotient ≤ 1000
  pub full : (quotient ≡ 1000) ↔ ((0 < slots_of z s d) × AllInUse z s d)
  pub small : (slots_of z s d ≤ 16777216) × (1000 * get z s (pages_mapped d) ≤ 16777216000)
