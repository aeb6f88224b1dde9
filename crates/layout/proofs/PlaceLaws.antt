-- Laws of places: every place within a state lies in it, and two places that share an address are one.
-- Assumes nothing.
use Prim.Native.Nat.{ℕ, ◌+◌, ◌*◌, ◌<◌, ◌≤◌}
use mathlib.Core.Path.{◌≡◌, ap, ap₂}
use mathlib.Core.Bool.{true, ◌&&◌}
use borrow.Author.Tests.{leb-true}
use Rattle.std.proofs.lemmas.Bool.{and_parts}
use lib.Dec.{leb}
use mathlib.Core.List.{List}
use native.Mathlib.Omega.{arith}
use lib.Seq.{get_or-set_same, get_or-set_other}
use Rattle.layout.specs.declared.Sizes.{Sizes}
use Rattle.layout.specs.Places.{Place, content, domain, treeling, entry, leaf, address, word_count, Within, Laid, Allowed, allowed, one_to, get, put}

-- Where the words of domain d, of TreeLing t and of its NFL begin: word j is so many after it.
abbrev pub domain_start : Sizes → ℕ → ℕ
domain_start z d = 25 + 6 * d

abbrev pub treeling_start : Sizes → ℕ → ℕ
treeling_start z t = 25 + 6 * z.domains + 5 * t

abbrev pub entry_start : Sizes → ℕ → ℕ
entry_start z t = 25 + 6 * z.domains + 5 * z.treelings + 512 * t

pub in_state : (z : Sizes) (p : Place) → Within z p → address z p < word_count z
in_state z (content i) w = omega arith
in_state z (domain d j) w = omega arith
in_state z (treeling t j) w = omega arith
in_state z (entry t k) w = omega arith
in_state z (leaf f) w = omega arith

pub one_address : (z : Sizes) (p q : Place) → Within z p → Within z q → address z p ≡ address z q → p ≡ q
one_address z (content i) (content i') w v e = ap content (omega arith)
one_address z (content i) (domain d' j') w v e = absurd (omega arith)
one_address z (content i) (treeling t' j') w v e = absurd (omega arith)
one_address z (content i) (entry t' k') w v e = absurd (omega arith)
one_address z (content i) (leaf f') w v e = absurd (omega arith)
one_address z (domain d j) (content i') w v e = absurd (omega arith)
one_address z (domain d j) (domain d' j') w v e = ap₂ domain (omega arith) (omega arith)
one_address z (domain d j) (treeling t' j') w v e = absurd (omega arith)
one_address z (domain d j) (entry t' k') w v e = absurd (omega arith)
one_address z (domain d j) (leaf f') w v e = absurd (omega arith)
one_address z (treeling t j) (content i') w v e = absurd (omega arith)
one_address z (treeling t j) (domain d' j') w v e = absurd (omega arith)
one_address z (treeling t j) (treeling t' j') w v e = ap₂ treeling (omega arith) (omega arith)
one_address z (treeling t j) (entry t' k') w v e = absurd (omega arith)
one_address z (treeling t j) (leaf f') w v e = absurd (omega arith)
one_address z (entry t k) (content i') w v e = absurd (omega arith)
one_address z (entry t k) (domain d' j') w v e = absurd (omega arith)
one_address z (entry t k) (treeling t' j') w v e = absurd (omega arith)
one_address z (entry t k) (entry t' k') w v e = ap₂ entry (omega arith) (omega arith)
one_address z (entry t k) (leaf f') w v e = absurd (omega arith)
one_address z (leaf f) (content i') w v e = absurd (omega arith)
one_address z (leaf f) (domain d' j') w v e = absurd (omega arith)
one_address z (leaf f) (treeling t' j') w v e = absurd (omega arith)
one_address z (leaf f) (entry t' k') w v e = absurd (omega arith)
one_address z (leaf f) (leaf f') w v e = ap leaf (omega arith)

module _ (z : Sizes) (s : List ℕ) (p : Place) (v : ℕ) where
  pub get-put_same : Laid z s → Within z p → get z (put z s p v) p ≡ v
  get-put_same l w = get_or-set_same s (address z p) v 0 (rw l.long (in_state z p w))

  pub get-put_other : (q : Place) → Within z p → Within z q → (q ≡ p → ⊥) → get z (put z s p v) q ≡ get z s q
  get-put_other q w u apart =
      get_or-set_other s (address z p) (address z q) v 0 (λ e. apart (one_address z q p u w e))

-- The computed limits, as facts.
one_to_lem : (x most : ℕ) → one_to x most ≡ true → (1 ≤ x) × (x ≤ most)
one_to_lem x most h =
    let e = and_parts (leb 1 x) (leb x most) h in
    (leb-true 1 x e.0, leb-true x most e.1)

pub allowed_facts : (z : Sizes) → allowed z ≡ true → Allowed z
unfolding allowed
allowed_facts z h =
    let e = and_parts (one_to z.treelings 4096 && one_to z.domains 4096) (one_to z.frames 8388608) h in
    let f = and_parts (one_to z.treelings 4096) (one_to z.domains 4096) e.0 in
    let t = one_to_lem z.treelings 4096 f.0 in
    let d = one_to_lem z.domains 4096 f.1 in
    let p = one_to_lem z.frames 8388608 e.1 in
    record { some_treelings = t.0; max_treelings = t.1; some_domains = d.0; max_domains = d.1; some_frames = p.0; max_frames = p.1 }
