-- Laws of a walk through a domain's TreeLings by their links.
-- Assumes nothing.
use Prim.Native.Nat.{ℕ, suc, ◌+◌, ◌-◌, ◌<◌}
use mathlib.Core.Path.{◌≡◌, sym, ap, ◌∙◌}
use mathlib.Core.List.{List}
use native.Mathlib.Numerals.{add-one}
use native.Mathlib.Omega.{arith}
use Rattle.layout.specs.declared.Sizes.{Sizes}
use Rattle.layout.specs.Places.{get, first, next}
use Rattle.sound.specs.Sentences.{of_rank, link_of}
use Rattle.gathering.specs.CodeGathering.{Chain}

module _ {z : Sizes} {s : List ℕ} {d m : ℕ} (h : Chain z s d m) where
  pub links_begin : {x : ℕ} → x ≡ get z s (first d) → x ≡ link_of z s d 0
  unfolding link_of of_rank
  links_begin e = e

  -- The link names the TreeLing of rank q.
  module _ {q link : ℕ} (l : q < m) (is : link ≡ link_of z s d q) where
    pub link_names : link ≡ suc (of_rank z s d q)
    link_names = is ∙ h.linked q l

    pub link_of_lem : link - 1 ≡ of_rank z s d q
    link_of_lem = omega (arith, link_names)

    pub link_below : link - 1 < z.treelings
    link_below = omega (arith, link_names, h.below q l)

    -- The next one, in words r that have its next word as it was.
    pub link_next : (r : List ℕ) {x : ℕ} → get z r (next (of_rank z s d q)) ≡ get z s (next (of_rank z s d q)) → x ≡ get z r (next (link - 1)) → x ≡ link_of z s d (q + 1)
    unfolding link_of of_rank
    link_next r same e =
        e
        ∙ ap (λ (u : ℕ). get z r (next u)) link_of_lem
        ∙ same
        ∙ ap (link_of z s d) (sym (add-one q))
