-- Laws of the chains as the code reads them: each answer from the tests that lead to it.
-- Assumes nothing.
use Prim.Native.Nat.{ℕ, zero, suc, ◌+◌, ◌-◌, ◌<◌, ◌≤◌}
use mathlib.Core.Path.{◌≡◌, ◌∙◌}
use mathlib.Core.Bool.{true, false, ◌&&◌}
use mathlib.Core.List.{List}
use native.Mathlib.Omega.{arith}
use native.Mathlib.Numerals.{add-one}
use lib.Dec.{eqb}
use lib.ListN.{get_or}
use borrow.Author.Tests.{eq-eqb, ne_eqb, lt-ltb, le-ltb}
use Rattle.layout.specs.declared.Sizes.{Sizes}
use Rattle.layout.specs.Places.{address, get, domain, live, first, last, head_treeling, owner, next}
use Rattle.sound.specs.Sentences.{dead_is_zero, empty_is_zero}
use Rattle.sound.specs.CodeChained.{is_linked, follows, domain_chained}
use Rattle.layout.proofs.BoundedLaws.{and_of}
use Rattle.sound.proofs.TestLaws.{live_ordinary}
use Rattle.sound.proofs.ZeroLaws.{first_live}
use Rattle.records.proofs.RecordCodeLaws.{word_at}

-- A link in range names a TreeLing.
pub link_in : (x t : ℕ) → x ≤ t → (x ≡ 0 → ⊥) → x - 1 < t
link_in x t l h = omega arith

module _ (z : Sizes) (s : List ℕ) where
  -- Following a chain, from the first link on.
  pub follows_start : (d x : ℕ) → x ≡ get z s (first d) → follows z s d (z.treelings - 0) 0 0 x ≡ follows z s d z.treelings 0 0 (get z s (first d))
  follows_start d x w =
      let e : z.treelings - 0 ≡ z.treelings = omega arith in
      rw (e, w)

  -- Past the last TreeLing.
  pub follows_end : (d n r before x : ℕ) → x ≡ 0 → eqb (get z s (last d)) before ≡ follows z s d n r before x
  unfolding follows
  follows_end d zero r before x h = rw h
  follows_end d (suc n) r before x h = rw h

  -- A link where no TreeLing is left to pass.
  pub follows_out : (d r before x : ℕ) → z.treelings ≤ r → (x ≡ 0 → ⊥) → false ≡ follows z s d (z.treelings - r) r before x
  unfolding follows
  follows_out d r before x e h =
      let none : z.treelings - r ≡ 0 = omega arith in
      rw (none, ne_eqb x 0 h)

  module _ (d r before x : ℕ) (below : r < z.treelings) (some : x ≡ 0 → ⊥) where
    -- One of the TreeLings left is passed.
    one_left : z.treelings - r ≡ suc (z.treelings - (r + 1))
    one_left = omega arith

    -- A TreeLing that is not linked as it should be.
    pub follows_stop : is_linked z s d r before (x - 1) ≡ false → false ≡ follows z s d (z.treelings - r) r before x
    unfolding follows
    follows_stop h = rw (one_left, ne_eqb x 0 some, h)

    -- One that is: on to its next.
    pub follows_step : (y : ℕ) → is_linked z s d r before (x - 1) ≡ true → y ≡ get z s (next (x - 1)) → follows z s d (z.treelings - (r + 1)) (r + 1) x y ≡ follows z s d (z.treelings - r) r before x
    unfolding follows
    follows_step y h w = rw (one_left, ne_eqb x 0 some, h, add-one r, w)

  -- Domain d, in its chain and with a first TreeLing, zero where it is dead.
  module _ (d at : ℕ) (dead : dead_is_zero z s d ≡ true) (chain : follows z s d z.treelings 0 0 (get z s (first d)) ≡ true) (e : at ≡ address z (domain d 1)) (some : get_or s at 0 ≡ 0 → ⊥) where
    -- Nothing is to ask of an empty one.
    has_first : (dead_is_zero z s d && follows z s d z.treelings 0 0 (get z s (first d)) && empty_is_zero z s d) ≡ true
    has_first =
        let w = word_at s e in
        and_of (and_of dead chain) (rw (lt-ltb 0 (get z s (first d)) (omega arith)))

    -- It is live, and so ordinary.
    is_ordinary_lem : eqb (get z s (live d)) 1 ≡ true
    is_ordinary_lem =
        let w = word_at s e in
        eq-eqb (get z s (live d)) 1 (live_ordinary z s d (first_live z s d dead (λ k. some (w ∙ k))))

    -- No head.
    pub chained_headless : get_or s (at + 2) 0 ≡ 0 → false ≡ domain_chained z s d
    chained_headless h =
        let w = word_at s e in
        let v : get_or s (at + 2) 0 ≡ get z s (head_treeling d) = word_at s (omega arith) in
        rw (has_first, ne_eqb (get z s (first d)) 0 (λ k. some (w ∙ k)), is_ordinary_lem, le-ltb 0 (get z s (head_treeling d)) (omega arith))

    -- A head, which must be its own.
    pub chained_head : (o : ℕ) → (get_or s (at + 2) 0 ≡ 0 → ⊥) → o ≡ address z (owner (get_or s (at + 2) 0 - 1)) → eqb (get_or s o 0) (d + 1) ≡ domain_chained z s d
    chained_head o h q =
        let w = word_at s e in
        let v : get_or s (at + 2) 0 ≡ get z s (head_treeling d) = word_at s (omega arith) in
        rw (has_first, ne_eqb (get z s (first d)) 0 (λ k. some (w ∙ k)), is_ordinary_lem, lt-ltb 0 (get z s (head_treeling d)) (omega arith), q, v, add-one d)
