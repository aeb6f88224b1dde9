-- Document 01, "Tree geometry": an eight-way tree of four levels, whose 512 leaf nodes have 8 slots each.
use Rattle.std.specs.Prelude.{ℕ, ◌+◌, ◌-◌, ◌*◌, ◌/◌, ◌^◌, List, [], ◌∷◌}

-- "n = s / 8 rounded down"
abbrev pub leaf_node : ℕ → ℕ
leaf_node s = s / 8

-- "Path nodes: level 1 t; level 2 8t + n/64; level 3 64t + n/8; level 4 512t + n (divisions rounded down)."
-- The node of level l on the path of slot s of TreeLing t.
unfoldable pub path_node : ℕ → ℕ → ℕ → ℕ
path_node l t s = 8 ^ (l - 1) * t + leaf_node s / 8 ^ (4 - l)

-- The path nodes of levels 1 to 4.
abbrev pub path_of : ℕ → ℕ → List ℕ
path_of t s = path_node 1 t s ∷ path_node 2 t s ∷ path_node 3 t s ∷ path_node 4 t s ∷ []
