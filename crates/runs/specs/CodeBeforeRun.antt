-- What the code of a run asks before it writes: the first frame that is mapped. Readers may pass over this.
use Rattle.std.specs.Prelude.{ℕ, ◌+◌, List, ltb}
use Rattle.layout.specs.declared.Sizes.{Sizes}
use Rattle.geometry.specs.Tables.{first_from}
use Rattle.layout.specs.Places.{get, leaf}

module _ (z : Sizes) (s : List ℕ) where
  -- The first of n frames from f on that is mapped by anyone, n if none.
  abbrev pub first_mapped : ℕ → ℕ → ℕ
  first_mapped f n = first_from (λ i. ltb 0 (get z s (leaf (f + i)))) 0 n
