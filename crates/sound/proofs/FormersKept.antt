-- Request M-104, the last owners of TreeLings: what words r keep of words s.
-- Assumes nothing.
use Prim.Native.Nat.{ℕ, ◌<◌}
use mathlib.Core.Path.{◌≡◌, sym, ◌∙◌}
use mathlib.Core.List.{List}
use native.Mathlib.Omega.{arith}
use Rattle.layout.specs.declared.Sizes.{Sizes}
use Rattle.layout.specs.Places.{get, treeling, owner, former}

-- A TreeLing that is unowned in r has the last owner that it had in s.
abbrev pub FormersKept : Sizes → List ℕ → List ℕ → Type 0
FormersKept z s r = (t : ℕ) → t < z.treelings → get z r (owner t) ≡ 0 → get z r (former t) ≡ get z s (former t)

-- And it was unowned then. No page placed or released leaves a TreeLing without its owner, so this goes on through a run.
abbrev pub StillUnowned : Sizes → List ℕ → List ℕ → Type 0
StillUnowned z s r =
    (t : ℕ) → t < z.treelings → get z r (owner t) ≡ 0 → (get z s (owner t) ≡ 0) × (get z r (former t) ≡ get z s (former t))

pub still_same : (z : Sizes) (s r : List ℕ) → ((t j : ℕ) → t < z.treelings → j < 5 → get z r (treeling t j) ≡ get z s (treeling t j)) → StillUnowned z s r
still_same z s r same t l none = (sym (same t 0 l (omega arith)) ∙ none, same t 4 l (omega arith))

pub still_on : (z : Sizes) (s r q : List ℕ) → StillUnowned z s r → StillUnowned z r q → StillUnowned z s q
still_on z s r q one two t l none =
    let b = two t l none in
    let a = one t l b.0 in
    (a.0, b.1 ∙ a.1)
