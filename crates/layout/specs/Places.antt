-- Document 01, "The state: contents, then bodies": where every word of the state lies. A changed layout changes this file.
use Rattle.std.specs.Prelude.{ℕ, zero, suc, ◌+◌, ◌*◌, ◌<◌, ◌≤◌, ◌≡◌, List, Bool, ◌&&◌, leb, length, get_or, set}
use Rattle.layout.specs.declared.Sizes.{Sizes}

-- "T TreeLings (1 to 4,096), D domains (1 to 4,096), P page frames (1 to 8,388,608)."
abbrev pub sizes_of : ℕ → ℕ → ℕ → Sizes
sizes_of t d p = record { treelings = t; domains = d; frames = p }

abbrev pub one_to : ℕ → ℕ → Bool
one_to x most = leb 1 x && leb x most

unfoldable pub allowed : Sizes → Bool
allowed z = one_to z.treelings 4096 && one_to z.domains 4096 && one_to z.frames 8388608

-- The same, as facts.
pub record Allowed (z : Sizes) : Type 0 where
  pub some_treelings : 1 ≤ z.treelings
  pub max_treelings : z.treelings ≤ 4096
  pub some_domains : 1 ≤ z.domains
  pub max_domains : z.domains ≤ 4096
  pub some_frames : 1 ≤ z.frames
  pub max_frames : z.frames ≤ 8388608

-- A word of the state, by its kind: word i of the contents; word j of domain d; word j of TreeLing t; NFL entry k of TreeLing t; the leaf ID of frame f.
pub data Place : Type 0 where
  content : ℕ → Place
  domain : ℕ → ℕ → Place
  treeling : ℕ → ℕ → Place
  entry : ℕ → ℕ → Place
  leaf : ℕ → Place

-- "Contents, words 0 to 7: T, D, P, pool hand"; since request M-101 they go on to word 24 (Holes).
abbrev pub hand : Place
hand = content 3

-- "Domains, 6 words each: live (0 or 1), first TreeLing, last, head TreeLing, head block (0 to 63), pages mapped."
abbrev pub live : ℕ → Place
live d = domain d 0

abbrev pub first : ℕ → Place
first d = domain d 1

abbrev pub last : ℕ → Place
last d = domain d 2

abbrev pub head_treeling : ℕ → Place
head_treeling d = domain d 3

abbrev pub head_block : ℕ → Place
head_block d = domain d 4

abbrev pub pages_mapped : ℕ → Place
pages_mapped d = domain d 5

-- "TreeLings, 4 words each: owner, previous, next, rank."; request M-104: "a fifth word, the last owner + 1".
abbrev pub owner : ℕ → Place
owner t = treeling t 0

abbrev pub previous : ℕ → Place
previous t = treeling t 1

abbrev pub next : ℕ → Place
next t = treeling t 2

abbrev pub rank : ℕ → Place
rank t = treeling t 3

abbrev pub former : ℕ → Place
former t = treeling t 4

-- The bodies "lie back to back" "in this order": domains, TreeLings, node free list, leaf map. Request M-101: "Bodies start at word 25".
abbrev pub address : Sizes → Place → ℕ
address z (content i) = i
address z (domain d j) = 25 + 6 * d + j
address z (treeling t j) = 25 + 6 * z.domains + 5 * t + j
address z (entry t k) = 25 + 6 * z.domains + 5 * z.treelings + 512 * t + k
address z (leaf f) = 25 + 6 * z.domains + 517 * z.treelings + f

-- "Length: 8 + 6D + 516T + P."; request M-101: "lengths grow by 17"; request M-104: "lengths grow by T".
abbrev pub word_count : Sizes → ℕ
word_count z = 25 + 6 * z.domains + 517 * z.treelings + z.frames

-- The places that a state of these sizes has.
abbrev pub Within : Sizes → Place → Type 0
Within z (content i) = i < 25
Within z (domain d j) = (d < z.domains) × (j < 6)
Within z (treeling t j) = (t < z.treelings) × (j < 5)
Within z (entry t k) = (t < z.treelings) × (k < 512)
Within z (leaf f) = f < z.frames

-- A list of words that has room for a state of these sizes.
pub record Laid (z : Sizes) (s : List ℕ) : Type 0 where
  pub sizes : Allowed z
  pub long : length s ≡ word_count z

-- The word at a place, and the words with another one there.
abbrev pub get : Sizes → List ℕ → Place → ℕ
get z s p = get_or s (address z p) 0

abbrev pub put : Sizes → List ℕ → Place → ℕ → List ℕ
put z s p v = set s (address z p) v

-- The words with n zeros from an address on.
unfoldable pub zeros : List ℕ → ℕ → ℕ → List ℕ
zeros s at zero = s
zeros s at (suc n) = set (zeros s at n) (at + n) 0
