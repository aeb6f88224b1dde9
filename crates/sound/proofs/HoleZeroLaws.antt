-- The leaf map in holes: the test and the facts, and words that keep them.
-- Assumes nothing.
use Prim.Native.Nat.{ℕ, ◌+◌, ◌*◌, ◌<◌}
use mathlib.Core.Path.{◌≡◌, ap, ◌∙◌}
use mathlib.Core.List.{List}
use mathlib.Core.Bool.{true, false}
use native.Mathlib.Omega.{arith}
use borrow.Author.Tests.{eqb-true, eq-eqb}
use lib.Dec.{eqb}
use Rattle.layout.specs.declared.Sizes.{Sizes}
use Rattle.layout.specs.Places.{get, leaf}
use Rattle.board.specs.Holes.{HolesFit, hole_count, hole_first, hole_length, hole_words, outside}
use Rattle.layout.proofs.BoundedLaws.{all_at, all_of}
use Rattle.board.proofs.HoleLaws.{HolesKept, lies_in_lem, word_kept}
use Rattle.sound.specs.Sound.{HoleZero}
use Rattle.sound.specs.Sentences.{hole_is_unmapped, holes_unmapped}

module _ (z : Sizes) (s : List ℕ) where
  pub hole_facts : holes_unmapped z s ≡ true → HoleZero z s
  unfolding holes_unmapped
  hole_facts h i j l m =
      eqb-true (get z s (leaf (hole_first (hole_words s) i + j))) 0
      (all_at (hole_length (hole_words s) i) (λ k. eqb (get z s (leaf (hole_first (hole_words s) i + k))) 0) (all_at (hole_count s) (hole_is_unmapped z s) h i l) j m)

  pub hole_test : HoleZero z s → holes_unmapped z s ≡ true
  unfolding holes_unmapped
  hole_test h =
      all_of (hole_count s) (hole_is_unmapped z s) λ i l.
      all_of (hole_length (hole_words s) i) (λ j. eqb (get z s (leaf (hole_first (hole_words s) i + j))) 0) λ j m.
      eq-eqb (get z s (leaf (hole_first (hole_words s) i + j))) 0 (h i j l m)

-- Words with the same holes, in which a frame of a hole that was unmapped still is.
pub hole_kept : (z : Sizes) (s r : List ℕ) → HolesFit z.frames (hole_count s) (hole_words s) → HolesKept s r
    → ((g : ℕ) → g < z.frames → outside s g ≡ false → get z s (leaf g) ≡ 0 → get z r (leaf g) ≡ 0)
    → HoleZero z s → HoleZero z r
hole_kept z s r fit kept still h i j l m =
    let most = fit.at_most in
    let below : i < hole_count s = omega (arith, kept 8 (omega arith) (omega arith)) in
    let first = word_kept s r kept (2 * i) (omega arith) in
    let inside : j < hole_length (hole_words s) i = omega (arith, word_kept s r kept (2 * i + 1) (omega arith)) in
    let g = hole_first (hole_words s) i + j in
    ap (λ (x : ℕ). get z r (leaf (x + j))) first
    ∙ still g (omega (arith, fit.below i below)) (lies_in_lem (hole_count s) (hole_words s) g i below (omega arith) (omega arith)) (h i j below inside)
