-- Releasing, step 3, by the state's own words: the block entered by moving back, and what it is that it has "an entry without a free position".
use Rattle.std.specs.Prelude.{ℕ, suc, ◌+◌, ◌*◌, ◌<◌, ◌≡◌, List}
use Rattle.layout.specs.declared.Sizes.{Sizes}
use Rattle.geometry.specs.Entries.{availability_of}
use Rattle.layout.specs.Places.{get, entry, head_treeling, head_block, previous}

module _ (z : Sizes) (s : List ℕ) where
  -- "the head moves back one block, into the previous TreeLing's block 63 if need be": if the head of domain d moves, it enters block b of TreeLing t.
  pub data MovesBack (d : ℕ) : ℕ → ℕ → Type 0 where
    one_block : (t b : ℕ) → get z s (head_treeling d) ≡ suc t → get z s (head_block d) ≡ suc b → MovesBack d t b
    into_previous : (u t : ℕ) → get z s (head_treeling d) ≡ suc u → get z s (head_block d) ≡ 0 → get z s (previous u) ≡ suc t → MovesBack d t 63

  -- One of the eight entries of block b of TreeLing t has no free position.
  pub record HasSpent (t b : ℕ) : Type 0 where
    pub index : ℕ
    pub index_below : index < 8
    pub none_free : availability_of (get z s (entry t (8 * b + index))) ≡ 0
