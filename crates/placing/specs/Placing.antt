-- Document 01, "Placing": where a page will go is decided by reading alone, then it is written.
use Rattle.std.specs.Prelude.{ℕ, suc, ◌-◌, ◌*◌, ◌/◌, ◌%◌, ◌^◌, List, Bool, Option, Some, None, cond, ltb}
use Rattle.layout.specs.declared.Sizes.{Sizes}
use Rattle.geometry.specs.Tables.{first_from, lowest_free}
use Rattle.leaf_map.specs.LeafIds.{leaf_at}
use Rattle.geometry.specs.Entries.{tag_of, availability_of}
use Rattle.layout.specs.Outcomes.{OutcomeOf, outcome}
use Rattle.layout.specs.Places.{get, put, entry, leaf, pages_mapped}
use Rattle.sound.specs.Sentences.{of_rank}
use Rattle.world.specs.World.{World, world, owned, head_to}
use Rattle.taking.specs.Taking.{has_unowned, to_take, taking}
use Rattle.placing.specs.declared.Spot.{Spot}
use Rattle.placing.specs.declared.Decision.{Decision}
use Rattle.placing.specs.declared.Decision.TheVariants.{Own, Take, Nowhere}
use Rattle.leaf_map.specs.declared.LeafId.{LeafId}

-- Entry k of TreeLing t, as the code names it.
abbrev pub spot_at : ℕ → ℕ → Spot
spot_at t k = record { treeling = t; entry = k }

-- "2. In the head block, the first entry with a free position" "3. If it has none, the head moves to the next block, then step 2."
-- The first entry with a free position from the head block on, in rank order; its block is the head then. Past the last entry if there is none.
abbrev pub place_entry : World → ℕ
place_entry w = first_from (λ j. ltb 0 (w.nfl.free j)) (8 * w.nfl.head) (512 * w.treelings - 8 * w.nfl.head)

-- ---- The decision
-- Is there one in domain d's own blocks? The TreeLing that it is in, and its number there.
module _ (z : Sizes) (s : List ℕ) (d : ℕ) where
  abbrev pub has_own_entry : Bool
  has_own_entry = ltb (place_entry (world z s d)) (512 * owned z s d)

  abbrev pub own_treeling : ℕ
  own_treeling = of_rank z s d (place_entry (world z s d) / 512)

  abbrev pub own_entry : ℕ
  own_entry = place_entry (world z s d) % 512

  -- "1. A domain without TreeLings takes one" "3. .. After the last block of the last TreeLing the domain takes another"
  abbrev pub from_pool : Decision
  from_pool = cond (has_unowned z s) (Take (to_take z s d)) Nowhere

  -- Where the next page of domain d will go.
  unfoldable pub decision : Decision
  decision = cond has_own_entry (Own (spot_at own_treeling own_entry)) from_pool

-- ---- The writes
module _ (z : Sizes) (s : List ℕ) where
  -- "gives its lowest one": the position that entry k of TreeLing t gives, and its leaf ID.
  abbrev pub position_given : ℕ → ℕ → ℕ
  position_given t k = lowest_free (availability_of (get z s (entry t k)))

  abbrev pub leaf_given : ℕ → ℕ → ℕ
  leaf_given t k = leaf_at (tag_of (get z s (entry t k))) (position_given t k)

  -- "which is cleared": entry k of TreeLing t gives its lowest free position to frame f of domain d, and its block is the head.
  unfoldable pub after_giving : ℕ → ℕ → ℕ → ℕ → List ℕ
  after_giving d f t k =
      let s1 = put z s (entry t k) (get z s (entry t k) - 2 ^ position_given t k) in
      let s2 = put z (head_to z d t (k / 8) s1) (leaf f) (leaf_given t k) in
      put z s2 (pages_mapped d) (suc (get z s (pages_mapped d)))

-- The same, with the answer.
abbrev pub giving : Sizes → List ℕ → ℕ → ℕ → ℕ → ℕ → OutcomeOf (Option LeafId)
giving z s d f t k = outcome (Some (record { 0 = leaf_given z s t k })) (after_giving z s d f t k)

-- What was decided is written. "1. A domain without TreeLings takes one; its head is block 0."
-- "After the last block of the last TreeLing the domain takes another, whose block 0 becomes the head, and step 2 follows."
-- "If no place is found the request ends there with 13."
unfoldable pub writing : Sizes → List ℕ → ℕ → ℕ → Decision → OutcomeOf (Option LeafId)
writing z s d f (Own spot) = giving z s d f spot.treeling spot.entry
writing z s d f (Take t) = giving z (taking z s d t) d f t 0
writing z s d f Nowhere = outcome None s

-- Placing: decide, then write.
unfoldable pub placing : Sizes → List ℕ → ℕ → ℕ → OutcomeOf (Option LeafId)
placing z s d f = writing z s d f (decision z s d)
