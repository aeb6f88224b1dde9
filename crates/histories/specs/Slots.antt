-- Demand 2, of a state: a slot of an ordinary domain's TreeLing is free in one entry or holds one page, and a TreeLing has one owner.
use Rattle.std.specs.Prelude.{ℕ, suc, ◌*◌, ◌/◌, ◌<◌, ◌≡◌, List, true, ◌&&◌, ◌⊎◌}
use Rattle.layout.specs.declared.Sizes.{Sizes}
use Rattle.leaf_map.specs.LeafIds.{slot_number, treeling_of}
use Rattle.layout.specs.Places.{get, entry, leaf, owner}
use Rattle.sound.specs.Sentences.{is_ordinary, marks_free, of_rank}
use Rattle.sound.specs.Sound.{Live, Ordinary}
use Rattle.world.specs.World.{owned}

module _ (z : Sizes) (s : List ℕ) where
  -- Entry k of TreeLing t, an ordinary domain's, says that slot y is free.
  abbrev pub FreeIn : ℕ → ℕ → ℕ → Type 0
  FreeIn y t k = (is_ordinary z s t && marks_free z s y (get z s (entry t k))) ≡ true

  -- Slot y is free in precisely one entry, and no leaf map word names it.
  pub record IsFree (y : ℕ) : Type 0 where
    pub treeling : ℕ
    pub index : ℕ
    pub treeling_below : treeling < z.treelings
    pub index_below : index < 512
    pub free : FreeIn y treeling index
    pub only : (t k : ℕ) → t < z.treelings → k < 512 → FreeIn y t k → (t ≡ treeling) × (k ≡ index)
    pub unnamed : (f : ℕ) → f < z.frames → get z s (leaf f) ≡ suc y → ⊥

  -- Slot y is the place of precisely one page, and no entry says that it is free.
  pub record InUse (y : ℕ) : Type 0 where
    pub frame : ℕ
    pub frame_below : frame < z.frames
    pub named : get z s (leaf frame) ≡ suc y
    pub only : (f : ℕ) → f < z.frames → get z s (leaf f) ≡ suc y → f ≡ frame
    pub not_free : (t k : ℕ) → t < z.treelings → k < 512 → FreeIn y t k → ⊥

  pub record Agreeing : Type 0 where
    -- Each slot of an ordinary domain's TreeLing is free once or in use once;
    pub slots : (y d : ℕ) → y < 4096 * z.treelings → get z s (owner (y / 4096)) ≡ suc d → Ordinary z s d → IsFree y ⊎ InUse y
    -- each page is at a slot of a TreeLing that a live domain owns, and that slot is in use by it.
    pub pages : (f : ℕ) → f < z.frames → 0 < get z s (leaf f)
        → (d : ℕ) × (d < z.domains) × Live z s d × (get z s (owner (treeling_of (get z s (leaf f)))) ≡ suc d) × InUse (slot_number (get z s (leaf f)))
    -- A TreeLing that two domains reach, following next from first, is of one domain: its owner.
    pub one_owner : (d e q r : ℕ) → d < z.domains → e < z.domains → q < owned z s d → r < owned z s e → of_rank z s d q ≡ of_rank z s e r → d ≡ e
    -- And its owner reaches it.
    pub reached : (d t : ℕ) → d < z.domains → t < z.treelings → get z s (owner t) ≡ suc d → (q : ℕ) × (q < owned z s d) × (of_rank z s d q ≡ t)
