-- Request M-104, the last owners of TreeLings: placing keeps those of the TreeLings that it leaves unowned, and takes one last held by the domain where there is one.
-- Assumes nothing.
use Prim.Native.Nat.{ℕ, suc, ◌<◌, zero-le}
use mathlib.Core.Path.{◌≡◌, refl, sym, ap, ◌∙◌}
use mathlib.Core.List.{List}
use mathlib.Core.Bool.{Bool, true, false, cond, false≢true}
use native.Mathlib.Omega.{arith}
use borrow.Author.Tests.{eq-eqb, eqb-true, ltb-true, ltb-false}
use lib.Dec.{eqb, ltb}
use Rattle.layout.specs.declared.Sizes.{Sizes}
use Rattle.layout.specs.Places.{get, treeling, owner, former}
use Rattle.layout.proofs.BoundedLaws.{and_both, and_of}
use Rattle.geometry.proofs.FirstLaws.{first-before, first_holds}
use Rattle.sound.specs.Sound.{Sound}
use Rattle.sound.proofs.FormersKept.{StillUnowned, still_same}
use Rattle.taking.specs.Taking.{pooled, has_unowned, unowned, was_held, former_steps, to_take}
use Rattle.placing.specs.Placing.{placing}
use Rattle.world.proofs.FrameLaws.{either}
use Rattle.placing.proofs.NoPlace.{met, sought_found}
use Rattle.placing.proofs.PlacingSound.{own_placed, taken_placed, placing_cases, own_given, took, taken_given}

-- ---- Placing
module _ (z : Sizes) (s : List ℕ) (d f : ℕ) (h : Sound z s) (hd : d < z.domains) (hf : f < z.frames) where
  -- Where a TreeLing is taken it becomes the domain's, and the records of the others are as they were, but for a next.
  module _ (some : has_unowned z s ≡ true) where
    taken_owned : get z (taken_placed z s d f) (owner (to_take z s d)) ≡ suc d
    taken_owned =
        (taken_given z s d f h hd hf some).same_treeling (to_take z s d) 0 (sought_found z s d h hd d some).0 (omega arith)
        ∙ (took z s d f h hd hf some).owner_is

    others_same : (u c : ℕ) → u < z.treelings → c < 5 → (c ≡ 2 → ⊥) → (u ≡ to_take z s d → ⊥) → get z (taken_placed z s d f) (treeling u c) ≡ get z s (treeling u c)
    others_same u c l m other apart =
        (taken_given z s d f h hd hf some).same_treeling u c l m ∙ (took z s d f h hd hf some).same_treeling u c l m apart other

  pub placing_formers : StillUnowned z s (placing z s d f).words
  placing_formers =
      placing_cases z s d f (StillUnowned z s)
      (λ l. still_same z s (own_placed z s d f) (own_given z s d f h hd hf l).same_treeling)
      (λ _ some u l none.
      let apart : u ≡ to_take z s d → ⊥ = λ is. omega (arith, ap (λ (t : ℕ). get z (taken_placed z s d f) (owner t)) is, taken_owned some) in
      (sym (others_same some u 0 l (omega arith) (omega arith) apart) ∙ none, others_same some u 4 l (omega arith) (omega arith) apart))
      (still_same z s s (λ _ _ _ _. refl))

  -- The TreeLing that has become the domain's is the one that it was to take.
  pub placing_takes : (t : ℕ) → t < z.treelings → get z s (owner t) ≡ 0 → get z (placing z s d f).words (owner t) ≡ suc d → t ≡ to_take z s d
  placing_takes t l none =
      placing_cases z s d f (λ r. get z r (owner t) ≡ suc d → t ≡ to_take z s d)
      (λ own is. absurd (omega (arith, (own_given z s d f h hd hf own).same_treeling t 0 l (omega arith))))
      (λ _ some is.
      either t (to_take z s d) (λ same. same) λ apart.
      absurd (omega (arith, others_same some t 0 l (omega arith) (omega arith) apart)))
      (λ is. absurd (omega arith))

-- ---- The TreeLing to take
-- It was last held by the domain where an unowned one was.
pub former_sought : (z : Sizes) (s : List ℕ) (d : ℕ) → Sound z s → d < z.domains → (u : ℕ) → u < z.treelings → get z s (owner u) ≡ 0 → get z s (former u) ≡ suc d → get z s (former (to_take z s d)) ≡ suc d
former_sought z s d h hd u l none last = by_former (ltb (former_steps z s d) z.treelings) refl
  where
    held : ℕ → Bool
    held i = was_held z s d (pooled z s i)

    by_former : (b : Bool) → ltb (former_steps z s d) z.treelings ≡ b → get z s (former (cond b (pooled z s (former_steps z s d)) (unowned z s))) ≡ suc d
    by_former true e =
        let low = ltb-true (former_steps z s d) z.treelings e in
        let t = pooled z s (former_steps z s d) in
        eqb-true (get z s (former t)) (suc d) (and_both (eqb (get z s (owner t)) 0) _ (first_holds held 0 z.treelings (omega arith))).1
    by_former false e =
        let past = ltb-false (former_steps z s d) z.treelings e in
        let w = met z s d h hd u l in
        absurd (false≢true
        (sym (first-before held 0 z.treelings w.0 zero-le (omega (arith, w.1)))
        ∙ ap (was_held z s d) w.2
        ∙ and_of (eq-eqb (get z s (owner u)) 0 none) (eq-eqb (get z s (former u)) (suc d) last)))
