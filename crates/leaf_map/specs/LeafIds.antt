-- Document 01, "Tree geometry": leaf IDs. How one is made, and what it names, is said here alone; others go by proofs/LeafIdLaws.
use Rattle.std.specs.Prelude.{ℕ, ◌+◌, ◌-◌, ◌*◌, ◌/◌, ◌%◌, ◌≡◌, Bool, true, leb}

-- "A leaf ID is 4096t + s + 1; 0 means unmapped."
unfoldable pub leaf_id : ℕ → ℕ → ℕ
leaf_id t s = 4096 * t + s + 1

-- The TreeLing and the slot that a leaf ID other than 0 names.
unfoldable pub treeling_of : ℕ → ℕ
treeling_of x = (x - 1) / 4096

unfoldable pub slot_of : ℕ → ℕ
slot_of x = (x - 1) % 4096

-- The same, by leaf node and "position s mod 8": the leaf ID of position i of the leaf node with level 4 number n, and back.
unfoldable pub leaf_at : ℕ → ℕ → ℕ
leaf_at n i = 8 * n + i + 1

unfoldable pub node_of_leaf : ℕ → ℕ
node_of_leaf x = (x - 1) / 8

unfoldable pub position_of_leaf : ℕ → ℕ
position_of_leaf x = (x - 1) % 8

-- The same, by slots numbered through all TreeLings, 4,096 each: slot y has leaf ID y + 1.
unfoldable pub slot_number : ℕ → ℕ
slot_number x = x - 1

-- "Every word lies in the range given above": 0, or the leaf ID of a slot of one of n TreeLings; the test, and the same as a fact.
unfoldable pub leaf_fits : ℕ → ℕ → Bool
leaf_fits n x = leb x (4096 * n)

abbrev pub LeafFits : ℕ → ℕ → Type 0
LeafFits n x = leaf_fits n x ≡ true
