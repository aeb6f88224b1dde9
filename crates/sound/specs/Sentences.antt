-- Document 01, "The audit": each sentence, in its order, as a test of the words s of a state of sizes z.
-- A link is the number of a TreeLing + 1, or 0 for none; an owner is the number of a domain + 1, or 0 for none.
use Rattle.std.specs.Prelude.{ℕ, zero, suc, ◌+◌, ◌-◌, ◌*◌, ◌/◌, ◌%◌, List, Bool, cond, not, ◌&&◌, ◌||◌, leb, ltb, eqb}
use Rattle.layout.specs.declared.Sizes.{Sizes}
use Rattle.leaf_map.specs.LeafIds.{leaf_fits, treeling_of}
use Rattle.geometry.specs.Tables.{bit, first_from}
use Rattle.geometry.specs.Entries.{tag_of, availability_of}
use Rattle.layout.specs.Places.{get, domain, treeling, entry, leaf, live, first, last, head_treeling, head_block, pages_mapped, owner, previous, next, rank, former}
use Rattle.board.specs.Holes.{hole_count, hole_first, hole_length, hole_words}
use Rattle.layout.specs.Bounded.{all, count}

module _ (z : Sizes) (s : List ℕ) where
  -- "Every word lies in the range given above."; request M-104, of a TreeLing's fifth word: "The audit allows 0 to D there".
  abbrev pub domain_in_range : ℕ → Bool
  domain_in_range d =
      leb (get z s (live d)) 1
      && leb (get z s (first d)) z.treelings
      && leb (get z s (last d)) z.treelings
      && leb (get z s (head_treeling d)) z.treelings
      && leb (get z s (head_block d)) 63

  abbrev pub treeling_in_range : ℕ → Bool
  treeling_in_range t =
      leb (get z s (owner t)) z.domains
      && leb (get z s (previous t)) z.treelings
      && leb (get z s (next t)) z.treelings
      && leb (get z s (former t)) z.domains

  -- TreeLing t is of an ordinary domain. Every live domain is one; NFL words, heads and slots are tested of ordinary domains alone.
  abbrev pub is_ordinary : ℕ → Bool
  is_ordinary t = ltb 0 (get z s (owner t)) && eqb (get z s (live (get z s (owner t) - 1))) 1

  abbrev pub entry_in_range : ℕ → ℕ → Bool
  entry_in_range t k = not (is_ordinary t) || ltb (tag_of (get z s (entry t k))) (512 * z.treelings)

  abbrev pub leaf_in_range : ℕ → Bool
  leaf_in_range f = leaf_fits z.treelings (get z s (leaf f))

  unfoldable pub words_in_range : Bool
  words_in_range =
      all z.domains domain_in_range
      && all z.treelings treeling_in_range
      && all z.treelings (λ t. all 512 (entry_in_range t))
      && all z.frames leaf_in_range

  -- "Records of dead domains, and the record and NFL words of unowned TreeLings, are zero."
  -- Request M-104: the fifth word is "kept while the rest of an unowned record is zero".
  abbrev pub is_live : ℕ → Bool
  is_live d = eqb (get z s (live d)) 1

  abbrev pub is_owned : ℕ → Bool
  is_owned t = ltb 0 (get z s (owner t))

  abbrev pub dead_is_zero : ℕ → Bool
  dead_is_zero d = is_live d || all 6 (λ j. eqb (get z s (domain d j)) 0)

  abbrev pub unowned_is_zero : ℕ → Bool
  unowned_is_zero t =
      is_owned t || all 4 (λ j. eqb (get z s (treeling t j)) 0) && all 512 (λ k. eqb (get z s (entry t k)) 0)

  unfoldable pub rest_is_zero : Bool
  rest_is_zero = all z.domains dead_is_zero && all z.treelings unowned_is_zero

  -- Request M-104: the audit "wants the owner while owned" in the fifth word.
  abbrev pub former_is_owner : ℕ → Bool
  former_is_owner t = not (is_owned t) || eqb (get z s (former t)) (get z s (owner t))

  unfoldable pub formers_agree : Bool
  formers_agree = all z.treelings former_is_owner

  -- "Following next from first": the link that r steps lead to, and the TreeLing that it names.
  unfoldable pub link_of : ℕ → ℕ → ℕ
  link_of d zero = get z s (first d)
  link_of d (suc r) = get z s (next (link_of d r - 1))

  unfoldable pub of_rank : ℕ → ℕ → ℕ
  of_rank d r = link_of d r - 1

  -- "gives a live domain's TreeLings": those of the ranks below this number, up to the first link that is 0; there are at most T.
  -- A dead domain's record is zero, so it has none.
  unfoldable pub chain_length : ℕ → ℕ
  chain_length d = first_from (λ r. eqb (link_of d r) 0) 0 z.treelings

  -- "with ranks 0, 1, 2": of domain d, the TreeLing that r steps lead to.
  abbrev pub has_rank : ℕ → ℕ → Bool
  has_rank d r = eqb (get z s (rank (of_rank d r))) r

  -- The link before the one that r steps lead to, 0 before first.
  unfoldable pub link_before : ℕ → ℕ → ℕ
  link_before d zero = 0
  link_before d (suc r) = link_of d r

  -- "up to last, whose next is 0": the link before the chain's end is last, and the one at its end is 0.
  abbrev pub ends_at_last : ℕ → Bool
  ends_at_last d = eqb (get z s (last d)) (link_before d (chain_length d)) && eqb (link_of d (chain_length d)) 0

  -- "previous is the reverse, 0 at first"
  abbrev pub is_reverse : ℕ → ℕ → Bool
  is_reverse d r = eqb (get z s (previous (of_rank d r))) (link_before d r)

  -- "owners agree"
  abbrev pub owner_agrees : ℕ → ℕ → Bool
  owner_agrees d r = eqb (get z s (owner (of_rank d r))) (suc d)

  abbrev pub is_chain : ℕ → Bool
  is_chain d = all (chain_length d) (λ r. has_rank d r && is_reverse d r && owner_agrees d r) && ends_at_last d

  -- "no other TreeLing is owned": an owned TreeLing is one of its owner's.
  abbrev pub is_one_of : ℕ → ℕ → Bool
  is_one_of d t = ltb 0 (count (chain_length d) (λ r. eqb (of_rank d r) t))

  abbrev pub is_listed : ℕ → Bool
  is_listed t = not (is_owned t) || is_one_of (get z s (owner t) - 1) t

  unfoldable pub chained : Bool
  chained = all z.domains is_chain && all z.treelings is_listed

  -- "A domain without TreeLings has zeros after live."
  abbrev pub empty_is_zero : ℕ → Bool
  empty_is_zero d = ltb 0 (get z s (first d)) || all 5 (λ j. eqb (get z s (domain d (suc j))) 0)

  unfoldable pub empties_zero : Bool
  empties_zero = all z.domains empty_is_zero

  -- "Its head block is in a TreeLing of its own."
  abbrev pub head_is_own : ℕ → Bool
  head_is_own d =
      eqb (get z s (first d)) 0
      || not (eqb (get z s (live d)) 1)
      || ltb 0 (get z s (head_treeling d)) && eqb (get z s (owner (get z s (head_treeling d) - 1))) (suc d)

  unfoldable pub heads_own : Bool
  heads_own = all z.domains head_is_own

  -- "Its NFL tags name its own leaf nodes."
  abbrev pub tag_is_own : ℕ → ℕ → Bool
  tag_is_own t k = not (is_ordinary t) || eqb (get z s (owner (tag_of (get z s (entry t k)) / 512))) (get z s (owner t))

  unfoldable pub tags_own : Bool
  tags_own = all z.treelings (λ t. all 512 (tag_is_own t))

-- "In rank order, entries of blocks before the head have no free position and entries of blocks after it have at least one."
-- Availability a in block here, with the head in block head.
abbrev pub fits_order : ℕ → ℕ → ℕ → Bool
fits_order here head a = (leb head here || eqb a 0) && (leb here head || ltb 0 a)

module _ (z : Sizes) (s : List ℕ) where
  -- A domain's blocks in rank order, 64 to a TreeLing: that of block b of TreeLing t, and that of the head of domain d.
  abbrev pub block_in_order : ℕ → ℕ → ℕ
  block_in_order t b = 64 * get z s (rank t) + b

  abbrev pub head_in_order : ℕ → ℕ
  head_in_order d = block_in_order (get z s (head_treeling d) - 1) (get z s (head_block d))

  abbrev pub is_in_order : ℕ → ℕ → Bool
  is_in_order t k =
      not (is_ordinary z s t)
      || fits_order (block_in_order t (k / 8)) (head_in_order (get z s (owner t) - 1)) (availability_of (get z s (entry t k)))

  unfoldable pub in_order : Bool
  in_order = all z.treelings (λ t. all 512 (is_in_order t))

  -- "Each slot of an owned TreeLing is either free in precisely one entry or named by precisely one leaf map word. Other leaf map words are 0."
  -- Slots are numbered through all TreeLings, 4,096 each, and so are NFL entries, 512 each: slot y has leaf ID y + 1.
  -- Entries and slots are those of ordinary domains.
  abbrev pub marks_free : ℕ → ℕ → Bool
  marks_free y w = eqb (tag_of w) (y / 8) && eqb (bit (y % 8) (availability_of w)) 1

  unfoldable pub times_free : ℕ → ℕ
  times_free y = count (512 * z.treelings) (λ j. is_ordinary z s (j / 512) && marks_free y (get z s (entry 0 j)))

  unfoldable pub times_named : ℕ → ℕ
  times_named y = count z.frames (λ f. eqb (get z s (leaf f)) (suc y))

  abbrev pub is_once : ℕ → Bool
  is_once y = eqb (times_free y + times_named y) (cond (is_ordinary z s (y / 4096)) 1 0)

  unfoldable pub slots_once : Bool
  slots_once = all (4096 * z.treelings) is_once

  -- Request M-101: "the audit wants 0 in the leaf map of a hole".
  abbrev pub hole_is_unmapped : ℕ → Bool
  hole_is_unmapped i =
      all (hole_length (hole_words s) i) (λ j. eqb (get z s (leaf (hole_first (hole_words s) i + j))) 0)

  unfoldable pub holes_unmapped : Bool
  holes_unmapped = all (hole_count s) hole_is_unmapped

  -- "“Pages mapped” is the true number."
  abbrev pub is_mapped_by : ℕ → ℕ → Bool
  is_mapped_by d f = ltb 0 (get z s (leaf f)) && eqb (get z s (owner (treeling_of (get z s (leaf f))))) (suc d)

  unfoldable pub true_number : ℕ → ℕ
  true_number d = count z.frames (is_mapped_by d)

  unfoldable pub pages_true : Bool
  pages_true = all z.domains (λ d. eqb (get z s (pages_mapped d)) (true_number d))
