-- Document 01: "A block is eight entries; a TreeLing has 64 blocks."
use Rattle.std.specs.Prelude.{ℕ, ◌*◌, List, take, drop}
use Rattle.std.proofs.lemmas.List.Edits.{sets}
use Rattle.layout.specs.declared.Sizes.{Sizes}
use Rattle.layout.specs.Places.{entry, address}

-- Block b of TreeLing t, and the words with another one there.
abbrev pub block : Sizes → List ℕ → ℕ → ℕ → List ℕ
block z s t b = take 8 (drop (address z (entry t (8 * b))) s)

abbrev pub put_block : Sizes → List ℕ → ℕ → ℕ → List ℕ → List ℕ
put_block z s t b ws = sets s (address z (entry t (8 * b))) ws
