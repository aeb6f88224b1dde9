-- Placing by its cases: an own entry gives the place, a TreeLing is taken, or there is no place.
-- Assumes nothing.
use Prim.Native.Nat.{ℕ, ◌*◌, ◌<◌, ◌≤◌}
use mathlib.Core.Path.{◌≡◌, refl}
use mathlib.Core.List.{List}
use mathlib.Core.Bool.{Bool, true, false, cond}
use borrow.Author.Tests.{ltb-true, ltb-false}
use Rattle.layout.specs.declared.Sizes.{Sizes}
use Rattle.layout.specs.Outcomes.{OutcomeOf, outcome}
use Rattle.world.specs.World.{world, owned}
use Rattle.taking.specs.Taking.{has_unowned, to_take, taking}
use Rattle.placing.specs.Placing.{place_entry, has_own_entry, own_treeling, own_entry, spot_at, decision, giving, writing, placing}
use Rattle.placing.specs.declared.Decision.{Decision}
use Rattle.placing.specs.declared.Decision.TheVariants.{Own, Take, Nowhere}
use Rattle.std.specs.Prelude.{Option, None}
use Rattle.leaf_map.specs.declared.LeafId.{LeafId}

module _ (z : Sizes) (s : List ℕ) (d : ℕ) where
  -- Where a page will go, by the two tests.
  pub decision_cases : (P : Decision → Type 0)
      → (place_entry (world z s d) < 512 * owned z s d → P (Own (spot_at (own_treeling z s d) (own_entry z s d))))
      → (512 * owned z s d ≤ place_entry (world z s d) → has_unowned z s ≡ true → P (Take (to_take z s d)))
      → (512 * owned z s d ≤ place_entry (world z s d) → has_unowned z s ≡ false → P Nowhere)
      → P (decision z s d)
  unfolding decision
  decision_cases P own take none = by_tests (has_own_entry z s d) (has_unowned z s) refl refl
    where
      by_tests : (a b : Bool) → has_own_entry z s d ≡ a → has_unowned z s ≡ b → P (cond a (Own (spot_at (own_treeling z s d) (own_entry z s d))) (cond b (Take (to_take z s d)) Nowhere))
      by_tests true b e _ = own (ltb-true (place_entry (world z s d)) (512 * owned z s d) e)
      by_tests false true e some = take (ltb-false (place_entry (world z s d)) (512 * owned z s d) e) some
      by_tests false false e empty = none (ltb-false (place_entry (world z s d)) (512 * owned z s d) e) empty

  -- And what is written then.
  pub placing_is : (f : ℕ) → placing z s d f ≡ cond (has_own_entry z s d) (giving z s d f (own_treeling z s d) (own_entry z s d)) (cond (has_unowned z s) (giving z (taking z s d (to_take z s d)) d f (to_take z s d) 0) (outcome None s))
  unfolding placing decision writing
  placing_is f = by_tests (has_own_entry z s d) (has_unowned z s)
    where
      by_tests : (a b : Bool) → writing z s d f (cond a (Own (spot_at (own_treeling z s d) (own_entry z s d))) (cond b (Take (to_take z s d)) Nowhere))
          ≡ cond a (giving z s d f (own_treeling z s d) (own_entry z s d)) (cond b (giving z (taking z s d (to_take z s d)) d f (to_take z s d) 0) (outcome None s))
      by_tests true b = refl
      by_tests false true = refl
      by_tests false false = refl

  pub placing_by : (f : ℕ) (P : OutcomeOf (Option LeafId) → Type 0)
      → (place_entry (world z s d) < 512 * owned z s d → P (giving z s d f (own_treeling z s d) (own_entry z s d)))
      → (512 * owned z s d ≤ place_entry (world z s d) → has_unowned z s ≡ true → P (giving z (taking z s d (to_take z s d)) d f (to_take z s d) 0))
      → (512 * owned z s d ≤ place_entry (world z s d) → has_unowned z s ≡ false → P (outcome None s))
      → P (placing z s d f)
  unfolding placing writing
  placing_by f P = decision_cases (λ x. P (writing z s d f x))
