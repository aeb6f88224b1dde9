-- Document 01, "Releasing", step 4: "the NFL is regathered: every leaf node of the domain once, by rank then node, those without a free position first, then the others, each with its whole availability".
-- Request M-100 regathers what a trim keeps, by the same definitions.
use Rattle.std.specs.Prelude.{ℕ, zero, suc, ◌+◌, ◌-◌, ◌*◌, ◌/◌, ◌%◌, ◌^◌, List, [], ◌∷◌, ◌++◌, Bool, cond, not, eqb, ltb, get_or}
use Rattle.layout.specs.declared.Sizes.{Sizes}
use Rattle.geometry.specs.Entries.{entry_word}
use Rattle.layout.specs.Places.{put}
use Rattle.layout.specs.Bounded.{count, sum}
use Rattle.sound.specs.Sentences.{of_rank}
use Rattle.world.specs.World.{World, entry_of, node_of, head_to}

-- "its whole availability": of the leaf node with number g, in all entries of the domain, wherever they stand.
unfoldable pub whole_of : World → ℕ → ℕ
whole_of w g = sum (512 * w.treelings) (λ j. cond (eqb (w.nfl.tag j) g) (w.nfl.free j) 0)

-- "each with its whole availability and N's bit included": position i of node n is free too.
unfoldable pub whole_with : World → ℕ → ℕ → ℕ → ℕ
whole_with w n i g = whole_of w g + cond (eqb g n) (2 ^ i) 0

-- The numbers below n of which p holds, in order.
unfoldable pub select : (ℕ → Bool) → ℕ → List ℕ
select p zero = []
select p (suc n) = select p n ++ cond (p n) (n ∷ []) []

-- The head of domain d becomes block q in rank order.
abbrev pub head_at : Sizes → List ℕ → ℕ → ℕ → List ℕ → List ℕ
head_at z s d q r = head_to z d (of_rank z s d (q / 64)) (q % 64) r

-- Domain d has m TreeLings, and a leaf node with number g has the whole availability whole g.
module _ (z : Sizes) (s : List ℕ) (d m : ℕ) (whole : ℕ → ℕ) where
  -- Domain d's leaf node p in rank order has no free position.
  abbrev pub is_spent : ℕ → Bool
  is_spent p = eqb (whole (node_of z s d p)) 0

  -- "every leaf node of the domain once, by rank then node, those without a free position first, then the others"
  unfoldable pub gathered : List ℕ
  gathered = select is_spent (512 * m) ++ select (λ p. not (is_spent p)) (512 * m)

  abbrev pub gathered_word : ℕ → ℕ
  gathered_word j = entry_word (node_of z s d (get_or gathered j 0)) (whole (node_of z s d (get_or gathered j 0)))

  -- The first n entries in rank order, regathered.
  unfoldable pub entries_gathered : ℕ → List ℕ
  entries_gathered zero = s
  entries_gathered (suc j) = put z (entries_gathered j) (entry_of z s d j) (gathered_word j)

  -- "The head is the block of the first entry with a free position."; request M-100: "if no slot is free the head is the last block".
  unfoldable pub head_gathered : ℕ
  head_gathered = cond (ltb (count (512 * m) is_spent) (512 * m)) (count (512 * m) is_spent / 8) (64 * m - 1)

  abbrev pub regathered : List ℕ
  regathered = head_at z s d head_gathered (entries_gathered (512 * m))
