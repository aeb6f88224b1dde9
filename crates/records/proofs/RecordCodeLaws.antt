-- Laws of the records of domains and TreeLings: their words read from the record's start, and what their ranges tell.
-- Assumes nothing.
use Prim.Native.Nat.{ℕ, ◌<◌, ◌≤◌}
use mathlib.Core.Path.{◌≡◌, ap}
use mathlib.Core.Bool.{true}
use mathlib.Core.List.{List}
use lib.ListN.{get_or}
use Rattle.layout.specs.declared.Sizes.{Sizes}
use Rattle.layout.specs.Bounded.{all}
use Rattle.sound.specs.Sentences.{domain_in_range, treeling_in_range}
use Rattle.layout.proofs.BoundedLaws.{all_at}
use Rattle.sound.proofs.RangeLaws.{DomainRanges, TreelingRanges, domain_ranges, treeling_ranges}

-- A word, by another name of its address.
pub word_at : (s : List ℕ) {a b : ℕ} → a ≡ b → get_or s a 0 ≡ get_or s b 0
word_at s e = ap (λ (k : ℕ). get_or s k 0) e

-- A bound on it, by another name of its address.
pub bound_at : (s : List ℕ) {a b : ℕ} (m : ℕ) → a ≡ b → get_or s b 0 ≤ m → get_or s a 0 ≤ m
bound_at s m e h = rw e h

module _ (z : Sizes) (s : List ℕ) where
  -- What the ranges say of a record's words, as facts.
  pub domain_facts : all z.domains (domain_in_range z s) ≡ true → (d : ℕ) → d < z.domains → DomainRanges z s d
  domain_facts h d l = domain_ranges z s d (all_at z.domains (domain_in_range z s) h d l)

  pub treeling_facts : all z.treelings (treeling_in_range z s) ≡ true → (t : ℕ) → t < z.treelings → TreelingRanges z s t
  treeling_facts h t l = treeling_ranges z s t (all_at z.treelings (treeling_in_range z s) h t l)
