-- Leaf IDs in a row, as words. Readers may pass over this.
use Rattle.std.specs.Prelude.{ℕ, List, map}
use Rattle.leaf_map.specs.declared.LeafId.{LeafId}

abbrev pub words_of : List LeafId → List ℕ
words_of ids = map (λ (id : LeafId). id.0) ids
