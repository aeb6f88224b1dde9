-- A sound state: one that the audit passes, as facts, a field or two for each sentence of document 01, "The audit".
use Rattle.std.specs.Prelude.{ℕ, suc, ◌+◌, ◌*◌, ◌/◌, ◌<◌, ◌≤◌, ◌≡◌, List, cond, ◌⊎◌}
use Rattle.layout.specs.declared.Sizes.{Sizes}
use Rattle.leaf_map.specs.LeafIds.{LeafFits}
use Rattle.geometry.specs.Entries.{tag_of, availability_of}
use Rattle.layout.specs.Places.{get, domain, treeling, entry, leaf, live, first, last, head_treeling, head_block, pages_mapped, owner, previous, next, rank, former}
use Rattle.board.specs.Holes.{hole_count, hole_first, hole_length, hole_words}
use Rattle.sound.specs.Contents.{LaidOut}
use Rattle.sound.specs.Sentences.{is_ordinary, block_in_order, head_in_order, times_free, times_named, true_number}

-- Domain d is live: its live word is 1.
abbrev pub Live : Sizes → List ℕ → ℕ → Type 0
Live z s d = get z s (live d) ≡ 1

-- Domain d is ordinary, as every live domain is (proofs/TestLaws `live_ordinary`): what the audit says of heads, tags, the order of blocks and slots is said of ordinary domains.
abbrev pub Ordinary : Sizes → List ℕ → ℕ → Type 0
Ordinary z s d = get z s (live d) ≡ 1

-- What following links says of TreeLing u, linked from one whose link is before, after r others.
pub record Linked (z : Sizes) (s : List ℕ) (d u before r : ℕ) : Type 0 where
  pub owner_is : get z s (owner u) ≡ suc d
  pub previous_is : get z s (previous u) ≡ before
  pub rank_is : get z s (rank u) ≡ r

-- TreeLing t follows TreeLing p.
pub record Follows (z : Sizes) (s : List ℕ) (d t p : ℕ) : Type 0 where
  pub owner_is : get z s (owner p) ≡ suc d
  pub next_is : get z s (next p) ≡ suc t
  pub rank_is : suc (get z s (rank p)) ≡ get z s (rank t)

-- Each leaf map word is 0 or names a slot of one of the TreeLings.
abbrev pub LeavesFit : Sizes → List ℕ → Type 0
LeavesFit z s = (f : ℕ) → f < z.frames → LeafFits z.treelings (get z s (leaf f))

-- The leaf map of frame j of hole i is 0.
abbrev pub HoleZero : Sizes → List ℕ → Type 0
HoleZero z s =
    (i j : ℕ) → i < hole_count s → j < hole_length (hole_words s) i → get z s (leaf (hole_first (hole_words s) i + j)) ≡ 0

pub record Sound (z : Sizes) (s : List ℕ) : Type 0 where
  -- Contents as laid out and within their ranges, holes included, length exact.
  pub laid_out : LaidOut z s
  -- Every word lies in its range.
  pub live_range : (d : ℕ) → d < z.domains → get z s (live d) ≤ 1
  pub first_range : (d : ℕ) → d < z.domains → get z s (first d) ≤ z.treelings
  pub last_range : (d : ℕ) → d < z.domains → get z s (last d) ≤ z.treelings
  pub head_range : (d : ℕ) → d < z.domains → get z s (head_treeling d) ≤ z.treelings
  pub block_range : (d : ℕ) → d < z.domains → get z s (head_block d) ≤ 63
  pub owner_range : (t : ℕ) → t < z.treelings → get z s (owner t) ≤ z.domains
  pub previous_range : (t : ℕ) → t < z.treelings → get z s (previous t) ≤ z.treelings
  pub next_range : (t : ℕ) → t < z.treelings → get z s (next t) ≤ z.treelings
  pub former_range : (t : ℕ) → t < z.treelings → get z s (former t) ≤ z.domains
  pub tag_range : (d t k : ℕ) → t < z.treelings → k < 512 → get z s (owner t) ≡ suc d → Ordinary z s d → tag_of (get z s (entry t k)) < 512 * z.treelings
  pub leaf_range : LeavesFit z s
  -- Records of dead domains, and the record and NFL words of unowned TreeLings, are zero, the last owner excepted.
  pub dead_zero : (d j : ℕ) → d < z.domains → j < 6 → get z s (live d) ≡ 0 → get z s (domain d j) ≡ 0
  pub unowned_zero : (t j : ℕ) → t < z.treelings → j < 4 → get z s (owner t) ≡ 0 → get z s (treeling t j) ≡ 0
  pub unowned_entry : (t k : ℕ) → t < z.treelings → k < 512 → get z s (owner t) ≡ 0 → get z s (entry t k) ≡ 0
  -- The last owner of an owned TreeLing is its owner.
  pub former-owner : (d t : ℕ) → t < z.treelings → get z s (owner t) ≡ suc d → get z s (former t) ≡ suc d
  -- Following next from first gives its TreeLings, ranks and previous as they should be, up to last; no other TreeLing is owned.
  pub at_first : (d u : ℕ) → d < z.domains → get z s (first d) ≡ suc u → Linked z s d u 0 0
  pub at_next : (d t u : ℕ) → d < z.domains → t < z.treelings → get z s (owner t) ≡ suc d → get z s (next t) ≡ suc u → Linked z s d u (suc t) (suc (get z s (rank t)))
  pub at_last : (d t : ℕ) → d < z.domains → t < z.treelings → get z s (owner t) ≡ suc d → get z s (next t) ≡ 0 → get z s (last d) ≡ suc t
  pub followed : (d t : ℕ) → d < z.domains → t < z.treelings → get z s (owner t) ≡ suc d → (get z s (first d) ≡ suc t) ⊎ ((p : ℕ) × (get z s (previous t) ≡ suc p) × Follows z s d t p)
  -- A domain without TreeLings has zeros after live.
  pub empty_zero : (d j : ℕ) → d < z.domains → j < 5 → get z s (first d) ≡ 0 → get z s (domain d (suc j)) ≡ 0
  -- Its head block is in a TreeLing of its own.
  pub head_own : (d u : ℕ) → d < z.domains → Ordinary z s d → get z s (first d) ≡ suc u → (h : ℕ) × (get z s (head_treeling d) ≡ suc h) × (get z s (owner h) ≡ suc d)
  -- Its NFL tags name its own leaf nodes.
  pub tag_own : (d t k : ℕ) → t < z.treelings → k < 512 → get z s (owner t) ≡ suc d → Ordinary z s d → get z s (owner (tag_of (get z s (entry t k)) / 512)) ≡ suc d
  -- In rank order, entries of blocks before the head have no free position and entries of blocks after it have at least one.
  pub before_head_lem : (d t k : ℕ) → t < z.treelings → k < 512 → get z s (owner t) ≡ suc d → Ordinary z s d → block_in_order z s t (k / 8) < head_in_order z s d → availability_of (get z s (entry t k)) ≡ 0
  pub after_head_lem : (d t k : ℕ) → t < z.treelings → k < 512 → get z s (owner t) ≡ suc d → Ordinary z s d → head_in_order z s d < block_in_order z s t (k / 8) → 0 < availability_of (get z s (entry t k))
  -- Each slot of an owned TreeLing is either free in precisely one entry or named by precisely one leaf map word. Other leaf map words are 0.
  pub slot_once : (y : ℕ) → y < 4096 * z.treelings → times_free z s y + times_named z s y ≡ cond (is_ordinary z s (y / 4096)) 1 0
  -- The leaf map is 0 in every hole.
  pub hole_zero : HoleZero z s
  -- “Pages mapped” is the true number.
  pub pages_true_lem : (d : ℕ) → d < z.domains → get z s (pages_mapped d) ≡ true_number z s d
