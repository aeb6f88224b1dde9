-- Document 01, "Releasing node N, position i".
use Rattle.std.specs.Prelude.{ℕ, zero, suc, ◌+◌, ◌-◌, ◌*◌, ◌/◌, ◌^◌, List, cond, eqb, ltb}
use Rattle.layout.specs.declared.Sizes.{Sizes}
use Rattle.leaf_map.specs.LeafIds.{node_of_leaf, position_of_leaf}
use Rattle.geometry.specs.Tables.{first_from}
use Rattle.geometry.specs.Entries.{entry_word}
use Rattle.layout.specs.Places.{get, put, leaf, pages_mapped}
use Rattle.world.specs.World.{World, world, owned, entry_of}
use Rattle.gathering.specs.Regathering.{whole_with, head_at, regathered}

-- What is to be done: entry j gets tag N and this availability, and its block is the head; or the NFL is regathered.
pub data Step : Type 0 where
  mark : ℕ → ℕ → Step
  regather : Step

module _ (w : World) (n i : ℕ) where
  -- "1. The first head-block entry with tag N" in block q, 8 if there is none.
  abbrev pub tagged : ℕ → ℕ
  tagged q = first_from (λ k. eqb (w.nfl.tag (8 * q + k)) n) 0 8

  -- "2. Else the first one without a free position"
  abbrev pub spent : ℕ → ℕ
  spent q = first_from (λ k. eqb (w.nfl.free (8 * q + k)) 0) 0 8

  -- Steps 1 and 2 in block q: "gets bit i", "becomes tag N, bit i only".
  abbrev pub in_block : ℕ → Step → Step
  in_block q otherwise =
      cond (ltb (tagged q) 8)
      (mark (8 * q + tagged q) (w.nfl.free (8 * q + tagged q) + 2 ^ i))
      (cond (ltb (spent q) 8) (mark (8 * q + spent q) (2 ^ i)) otherwise)

  -- With block q the head: "3. Else the head moves back one block, into the previous TreeLing's block 63 if need be; steps 1 and 2 there."
  -- "4. Else, at block 0 of rank 0, the NFL is regathered". One block back is enough in a sound state (proofs/NeverStuck `back_once`).
  unfoldable pub back_from : ℕ → Step
  back_from (suc q) = in_block q (back_from q)
  back_from zero = regather

  -- Steps 1 and 2 in the head block, else 3 and 4.
  unfoldable pub release_step : Step
  release_step = in_block w.nfl.head (back_from w.nfl.head)

-- The leaf ID of frame f becomes 0 and the domain has one page less.
abbrev pub unmapped : Sizes → List ℕ → ℕ → ℕ → List ℕ → List ℕ
unmapped z s d f r = put z (put z r (leaf f) 0) (pages_mapped d) (get z s (pages_mapped d) - 1)

-- The step taken: the NFL and the head after it.
unfoldable pub after_step : Sizes → List ℕ → ℕ → ℕ → ℕ → Step → List ℕ
after_step z s d n i (mark j a) = head_at z s d (j / 8) (put z s (entry_of z s d j) (entry_word n a))
after_step z s d n i regather = regathered z s d (owned z s d) (whole_with (world z s d) n i)

-- Domain d releases the page of frame f, whose leaf ID names node N and position i.
unfoldable pub releasing : Sizes → List ℕ → ℕ → ℕ → List ℕ
releasing z s d f =
    let n = node_of_leaf (get z s (leaf f)) in
    let i = position_of_leaf (get z s (leaf f)) in
    unmapped z s d f (after_step z s d n i (release_step (world z s d) n i))
