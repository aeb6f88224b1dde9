-- Document 01: "Node free list (NFL), 512 words per TreeLing: 256 × tag + availability. The tag is a level 4 node number."
use Rattle.std.specs.Prelude.{ℕ, ◌+◌, ◌*◌, ◌/◌, ◌%◌}

-- The word of an entry, from its tag and its availability.
abbrev pub entry_word : ℕ → ℕ → ℕ
entry_word tag a = 256 * tag + a

-- And back.
abbrev pub tag_of : ℕ → ℕ
tag_of w = w / 256

abbrev pub availability_of : ℕ → ℕ
availability_of w = w % 256
