-- What the passes of a trim keep. Readers may pass over this.
use Rattle.std.specs.Prelude.{ℕ, zero, suc, ◌+◌, ◌-◌, ◌/◌, ◌%◌, ◌<◌, ◌≤◌, ◌≡◌, List, Bool, cond, not, ◌&&◌, eqb, length, get_or}
use Rattle.layout.specs.declared.Sizes.{Sizes}
use Rattle.geometry.specs.Entries.{tag_of, availability_of}
use Rattle.layout.specs.Places.{put, previous, next, rank}
use Rattle.layout.specs.Bounded.{count, sum}
use Rattle.sound.specs.Sentences.{of_rank}
use Rattle.world.specs.World.{world}
use Rattle.gathering.specs.Regathering.{select}
use Rattle.clearing.specs.Clearing.{treelings_cleared}

-- The availabilities of the leaf nodes of TreeLing t, added up over the first j entries of domain d: 512 times 255 where every position is free.
unfoldable pub free_in : Sizes → List ℕ → ℕ → ℕ → ℕ → ℕ
free_in z s d j t = sum j (λ q. cond (eqb ((world z s d).nfl.tag q / 512) t) ((world z s d).nfl.free q) 0)

abbrev pub all_free : ℕ
all_free = 130560

-- The same over k words from an address on.
abbrev pub free_from : List ℕ → ℕ → ℕ → ℕ → ℕ
free_from s at k t = sum k (λ i. cond (eqb (tag_of (get_or s (at + i) 0) / 512) t) (availability_of (get_or s (at + i) 0)) 0)

-- Sums over the first j entries of domain d, by TreeLing; and what k words from an address on add.
pub record Summed (z : Sizes) (s : List ℕ) (d j : ℕ) (sums : List ℕ) : Type 0 where
  pub long : z.treelings ≤ length sums
  pub sum_is : (t : ℕ) → t < z.treelings → get_or sums t 0 ≡ free_in z s d j t

pub record Added (s : List ℕ) (at k : ℕ) (before after : List ℕ) : Type 0 where
  pub long : length after ≡ length before
  pub sum_is : (t : ℕ) → t < length before → get_or after t 0 ≡ get_or before t 0 + free_from s at k t

-- The four words from an address on name TreeLing t; and their availabilities, added up.
abbrev pub all_name : List ℕ → ℕ → ℕ → Bool
all_name s at t =
    ((eqb (get_or s at 0 / 131072) t && eqb (get_or s (at + 1) 0 / 131072) t) && eqb (get_or s (at + 2) 0 / 131072) t) && eqb (get_or s (at + 3) 0 / 131072) t

abbrev pub free_of_four : List ℕ → ℕ → ℕ
free_of_four s at = get_or s at 0 % 256 + get_or s (at + 1) 0 % 256 + get_or s (at + 2) 0 % 256 + get_or s (at + 3) 0 % 256

-- The TreeLing that entry word w names has a sum, with room for four entries more.
abbrev pub Room : List ℕ → ℕ → Type 0
Room sums w = (w / 131072 < length sums) × (get_or sums (w / 131072) 0 ≤ 4294966275)

-- By the sums, every position of domain d's TreeLing of rank r is free.
abbrev pub full_in : Sizes → List ℕ → ℕ → List ℕ → ℕ → Bool
full_in z s d sums r = eqb (get_or sums (of_rank z s d r) 0) all_free

-- Of the first r TreeLings by rank, the links of those of which this does not hold: n of them, and zeros after them.
pub record Listed (z : Sizes) (s : List ℕ) (d : ℕ) (sums : List ℕ) (r n : ℕ) (links : List ℕ) : Type 0 where
  pub long : z.treelings < length links
  pub number_is : n ≡ count r (λ q. not (full_in z s d sums q))
  pub link_is : (q : ℕ) → q < n → get_or links q 0 ≡ suc (of_rank z s d (get_or (select (λ p. not (full_in z s d sums p)) r) q 0))
  pub rest : (q : ℕ) → n ≤ q → get_or links q 0 ≡ 0

-- n links of TreeLings, and room for one more.
pub record Links (z : Sizes) (n : ℕ) (links : List ℕ) : Type 0 where
  pub few : n < length links
  pub some : (q : ℕ) → q < n → 0 < get_or links q 0
  pub most : (q : ℕ) → q < n → get_or links q 0 ≤ z.treelings

-- The link before link n, 0 before the first.
unfoldable pub last_link : List ℕ → ℕ → ℕ
last_link links zero = 0
last_link links (suc q) = get_or links q 0

-- The TreeLings of the first n links, renumbered and linked one to another, in words r.
unfoldable pub linked_by : Sizes → List ℕ → List ℕ → ℕ → List ℕ
linked_by z links r zero = r
linked_by z links r (suc q) =
    let t = get_or links q 0 - 1 in
    let r1 = put z (linked_by z links r q) (previous t) (last_link links q) in
    let r2 = put z r1 (next t) (get_or links (suc q) 0) in
    put z r2 (rank t) q

-- Words r are words s with those of domain d's first n TreeLings by rank cleared of which a test holds. The test's answers are answers that were given.
pub record ClearedBy (z : Sizes) (s : List ℕ) (d : ℕ) (answers : ℕ → Bool → Type 0) (r : List ℕ) (n : ℕ) : Type 0 where
  pub test : ℕ → Bool
  pub answered : (q : ℕ) → q < n → answers (of_rank z s d q) (test q)
  pub words : r ≡ treelings_cleared z s d test s n
