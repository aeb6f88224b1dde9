-- What the passes over the NFL and the leaf map keep: the marks of leaf nodes and the pages counted for each domain. Readers may pass over this.
use Rattle.std.specs.Prelude.{ℕ, suc, ◌+◌, ◌-◌, ◌*◌, ◌/◌, ◌%◌, ◌<◌, ◌≤◌, ◌≡◌, List, Bool, true, cond, ◌&&◌, eqb, ltb, length, get_or, Option, Some, None}
use Rattle.layout.specs.declared.Sizes.{Sizes}
use Rattle.leaf_map.specs.LeafIds.{leaf_fits}
use Rattle.geometry.specs.Tables.{bit}
use Rattle.layout.specs.Places.{get, entry, leaf, owner, rank, head_treeling, head_block}
use Rattle.sound.specs.Sound.{Sound}
use Rattle.sound.specs.CodeCounting.{free_in, pages_left}
use Rattle.layout.specs.Bounded.{all, count}
use Rattle.sound.specs.Sentences.{entry_in_range, leaf_in_range, is_owned, is_ordinary, tag_is_own, is_in_order, marks_free}

-- In a TreeLing of rank r, with the head in block b of the TreeLing of rank h: entries below the first number are before the head, entries from the second on after it.
abbrev pub before_head : ℕ → ℕ → ℕ → ℕ
before_head r h b = cond (ltb r h) 512 (cond (ltb h r) 0 (8 * b))

abbrev pub after_head : ℕ → ℕ → ℕ → ℕ
after_head r h b = cond (ltb r h) 512 (cond (ltb h r) 0 (8 * b + 8))

-- A byte for each leaf node, a bit for each slot: how often each slot is marked.
pub record Marked (z : Sizes) (times : ℕ → ℕ) (marks : List ℕ) : Type 0 where
  pub room : 512 * z.treelings ≤ length marks
  pub byte : (i : ℕ) → get_or marks i 0 < 256
  pub bits : (y : ℕ) → y < 4096 * z.treelings → bit (y % 8) (get_or marks (y / 8) 0) ≡ times y

-- How often the first k words name slot y.
abbrev pub times_in : List ℕ → ℕ → ℕ → ℕ
times_in words k y = count k (λ i. eqb (get_or words i 0) (suc y))

-- The first k words name slots of T TreeLings.
abbrev pub ids_in_range : Sizes → List ℕ → ℕ → Bool
ids_in_range z words k = all k (λ i. leaf_fits z.treelings (get_or words i 0))

-- The first k words are in range, and marked beside what was marked before.
pub record WordsMarked (z : Sizes) (words : List ℕ) (k : ℕ) (before after : List ℕ) : Type 0 where
  pub in_range_lem : ids_in_range z words k ≡ true
  pub added : (times : ℕ → ℕ) → Marked z times before → Marked z (λ y. times y + times_in words k y) after

-- Of the first k words one is out of range, or a slot that it names is marked twice.
abbrev pub WordsClash : Sizes → List ℕ → ℕ → List ℕ → Type 0
WordsClash z words k before =
    (times : ℕ → ℕ) → Marked z times before → ids_in_range z words k ≡ true → ((y : ℕ) → y < 4096 * z.treelings → times y + times_in words k y ≤ 1) → ⊥

module _ (z : Sizes) (s : List ℕ) where
  -- An entry of an ordinary domain's TreeLing.
  abbrev pub entry_fits : ℕ → ℕ → Bool
  entry_fits t k = entry_in_range z s t k && tag_is_own z s t k && is_in_order z s t k

  -- The NFL words of a TreeLing: zero where it is unowned.
  abbrev pub treeling_entries : ℕ → Bool
  treeling_entries t = cond (is_owned z s t) (all 512 (entry_fits t)) (all 512 (λ k. eqb (get z s (entry t k)) 0))

  -- The rank of the TreeLing that has the head of the domain that owns TreeLing t, and where the head is among t's entries.
  abbrev pub head_rank : ℕ → ℕ
  head_rank t = get z s (rank (get z s (head_treeling (get z s (owner t) - 1)) - 1))

  abbrev pub span_start : ℕ → ℕ
  span_start t = before_head (get z s (rank t)) (head_rank t) (get z s (head_block (get z s (owner t) - 1)))

  abbrev pub span_end : ℕ → ℕ
  span_end t = after_head (get z s (rank t)) (head_rank t) (get z s (head_block (get z s (owner t) - 1)))

  -- How often the first n NFL entries mark slot y free, those of ordinary domains, and the first p leaf map words name it.
  abbrev pub times_marked : ℕ → ℕ → ℕ → ℕ
  times_marked n p y =
      count n (λ j. is_ordinary z s (j / 512) && marks_free z s y (get z s (entry 0 j))) + count p (λ f. eqb (get z s (leaf f)) (suc y))

  abbrev pub Marks : ℕ → ℕ → List ℕ → Type 0
  Marks n p marks = Marked z (times_marked n p) marks

  -- Of the leaf map, the first p words are in range and marked, as all NFL entries are.
  abbrev pub LeavesMarked : ℕ → List ℕ → Type 0
  LeavesMarked p marks = (all p (leaf_in_range z s) ≡ true) × Marks (512 * z.treelings) p marks

  -- The pages counted for each domain after n TreeLings.
  pub record Counted (n : ℕ) (pages : List ℕ) : Type 0 where
    pub room : z.domains ≤ length pages
    pub pages_are : (d : ℕ) → d < z.domains → get_or pages d 0 ≡ pages_left z s d n

  -- What a TreeLing's tally says: its entries fit, the marks have them, and its free positions are counted; or the state is not sound.
  unfoldable pub TallyIs : ℕ → List ℕ → Option ℕ → Type 0
  TallyIs t marks (Some n) =
      (all 512 (entry_fits t) ≡ true) × Marks (512 * (t + 1)) 0 marks × (n ≡ free_in z s t 512)
  TallyIs t marks None = Sound z s → ⊥
