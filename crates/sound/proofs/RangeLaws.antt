-- "Every word lies in the range given above": the tests and the facts.
-- Assumes nothing.
use Prim.Native.Nat.{ℕ, ◌*◌, ◌<◌, ◌≤◌}
use mathlib.Core.Path.{◌≡◌}
use mathlib.Core.List.{List}
use mathlib.Core.Bool.{true, not}
use borrow.Author.Tests.{leb-true, le-leb, lt-ltb, not-false}
use lib.Dec.{ltb}
use Rattle.layout.specs.declared.Sizes.{Sizes}
use Rattle.geometry.specs.Entries.{tag_of}
use Rattle.layout.specs.Places.{get, entry, live, first, last, head_treeling, head_block, owner, previous, next, former}
use Rattle.sound.specs.Sentences.{is_ordinary, domain_in_range, treeling_in_range, entry_in_range}
use Rattle.sound.specs.Sound.{Sound}
use Rattle.layout.proofs.BoundedLaws.{and_of}
use Rattle.sound.proofs.TestLaws.{and_left, and_right, or_of, an_ordinary}

-- The words of a domain, and those of a TreeLing, each in its range.
pub record DomainRanges (z : Sizes) (s : List ℕ) (d : ℕ) : Type 0 where
  pub live_range : get z s (live d) ≤ 1
  pub first_range : get z s (first d) ≤ z.treelings
  pub last_range : get z s (last d) ≤ z.treelings
  pub head_range : get z s (head_treeling d) ≤ z.treelings
  pub block_range : get z s (head_block d) ≤ 63

pub record TreelingRanges (z : Sizes) (s : List ℕ) (t : ℕ) : Type 0 where
  pub owner_range : get z s (owner t) ≤ z.domains
  pub previous_range : get z s (previous t) ≤ z.treelings
  pub next_range : get z s (next t) ≤ z.treelings
  pub former_range : get z s (former t) ≤ z.domains

-- ---- from the tests to the facts
module _ (z : Sizes) (s : List ℕ) where
  -- The words of a record.
  pub domain_ranges : (d : ℕ) → domain_in_range z s d ≡ true → DomainRanges z s d
  domain_ranges d h =
      record {
        live_range = leb-true (get z s (live d)) 1 (search (and_left, and_right));
        first_range = leb-true (get z s (first d)) z.treelings (search (and_left, and_right));
        last_range = leb-true (get z s (last d)) z.treelings (search (and_left, and_right));
        head_range = leb-true (get z s (head_treeling d)) z.treelings (search (and_left, and_right));
        block_range = leb-true (get z s (head_block d)) 63 (search (and_left, and_right));
      }

  pub treeling_ranges : (t : ℕ) → treeling_in_range z s t ≡ true → TreelingRanges z s t
  treeling_ranges t h =
      record {
        owner_range = leb-true (get z s (owner t)) z.domains (search (and_left, and_right));
        previous_range = leb-true (get z s (previous t)) z.treelings (search (and_left, and_right));
        next_range = leb-true (get z s (next t)) z.treelings (search (and_left, and_right));
        former_range = leb-true (get z s (former t)) z.domains (search (and_left, and_right));
      }

-- ---- from the facts to the tests
module _ (z : Sizes) (s : List ℕ) (h : Sound z s) where
  -- The words of a record.
  pub sound_domain_range : (d : ℕ) → d < z.domains → domain_in_range z s d ≡ true
  sound_domain_range d l =
      and_of
      (and_of
      (and_of
      (and_of
      (le-leb (get z s (live d)) 1 (h.live_range d l))
      (le-leb (get z s (first d)) z.treelings (h.first_range d l)))
      (le-leb (get z s (last d)) z.treelings (h.last_range d l)))
      (le-leb (get z s (head_treeling d)) z.treelings (h.head_range d l)))
      (le-leb (get z s (head_block d)) 63 (h.block_range d l))

  pub sound_treeling_range : (t : ℕ) → t < z.treelings → treeling_in_range z s t ≡ true
  sound_treeling_range t l =
      and_of
      (and_of
      (and_of
      (le-leb (get z s (owner t)) z.domains (h.owner_range t l))
      (le-leb (get z s (previous t)) z.treelings (h.previous_range t l)))
      (le-leb (get z s (next t)) z.treelings (h.next_range t l)))
      (le-leb (get z s (former t)) z.domains (h.former_range t l))

  -- An NFL word.
  pub sound_entry_range : (t k : ℕ) → t < z.treelings → k < 512 → entry_in_range z s t k ≡ true
  sound_entry_range t k l m =
      or_of (not (is_ordinary z s t)) (ltb (tag_of (get z s (entry t k))) (512 * z.treelings)) λ e.
      let d = an_ordinary z s t (not-false (is_ordinary z s t) e) in
      lt-ltb (tag_of (get z s (entry t k))) (512 * z.treelings) (h.tag_range d.0 t k l m d.1 d.2)
