-- One domain's world: its TreeLings by rank and its node free list in rank order.
-- Where a page goes in the domain's own blocks, and where it is released to, is decided by these alone. A tag is a level 4 node number,
-- and of a tag it is only ever asked whether it is a given node's. The pool is asked where the domain's own blocks are full.
use Rattle.std.specs.Prelude.{ℕ, suc, ◌+◌, ◌*◌, ◌/◌, ◌%◌, List, cond, eqb}
use Rattle.layout.specs.declared.Sizes.{Sizes}
use Rattle.geometry.specs.Entries.{tag_of, availability_of}
use Rattle.layout.specs.Places.{Place, entry, get, put, owner, head_treeling, head_block}
use Rattle.layout.specs.Bounded.{count}
use Rattle.sound.specs.Sentences.{of_rank, head_in_order}

-- The "node free list (NFL)" of an ordinary domain, its entries in rank order, 512 to a TreeLing: the head block, and of each entry
-- "256 × tag + availability" the tag and the availability, its free positions.
pub record FreeList : Type 0 where
  pub head : ℕ
  pub tag : ℕ → ℕ
  pub free : ℕ → ℕ

-- The number of a domain's TreeLings, and their free list.
pub record World : Type 0 where
  pub treelings : ℕ
  pub nfl : FreeList

module _ (z : Sizes) (s : List ℕ) (d : ℕ) where
  -- The number of TreeLings that domain d owns.
  unfoldable pub owned : ℕ
  owned = count z.treelings (λ t. eqb (get z s (owner t)) (suc d))

  -- The place of its NFL entry j in rank order. Block q in rank order has the entries 8q to 8q + 7.
  abbrev pub entry_of : ℕ → Place
  entry_of j = entry (of_rank z s d (j / 512)) (j % 512)

  -- The level 4 number of its leaf node p in rank order: "by rank then node".
  abbrev pub node_of : ℕ → ℕ
  node_of p = 512 * of_rank z s d (p / 512) + p % 512

  abbrev pub free_list : FreeList
  free_list =
      record {
        head = cond (eqb (get z s (head_treeling d)) 0) 0 (head_in_order z s d);
        tag = λ j. tag_of (get z s (entry_of j));
        free = λ j. availability_of (get z s (entry_of j));
      }

  abbrev pub world : World
  world = record { treelings = owned; nfl = free_list }

-- The head of domain d becomes block b of TreeLing t.
abbrev pub head_to : Sizes → ℕ → ℕ → ℕ → List ℕ → List ℕ
head_to z d t b s = put z (put z s (head_treeling d) (suc t)) (head_block d) b
