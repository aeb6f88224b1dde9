-- A trim of a domain changes only what is its own: a TreeLing that it gives back becomes nobody's, and no leaf map word changes.
-- Assumes nothing.
use Prim.Native.Nat.{ℕ, suc, ◌<◌}
use mathlib.Core.Path.{◌≡◌, refl, sym, ap, ◌∙◌}
use mathlib.Core.List.{List}
use mathlib.Core.Bool.{Bool, true, false}
use mathlib.Core.Logic.{⊎_elim, inl, inr}
use native.Mathlib.Nat.{lt_of_not-le}
use native.Mathlib.Omega.{arith}
use borrow.Author.Tests.{eqb-false}
use lib.Dec.{eqb}
use Rattle.layout.specs.declared.Sizes.{Sizes}
use Rattle.leaf_map.specs.LeafIds.{treeling_of}
use Rattle.leaf_map.proofs.LeafIdLaws.{treeling_fits}
use Rattle.sound.specs.Sound.{LeavesFit}
use Rattle.layout.specs.Places.{get, leaf, owner}
use Rattle.layout.proofs.BoundedLaws.{is_false}
use Rattle.sound.proofs.MappedLaws.{MappedBy}
use Rattle.world.proofs.FrameLaws.{either}
use Rattle.returning.specs.Returning.{is_empty, number_returned, trimmed, trimming}
use Rattle.returning.proofs.TrimmedChain.{page_lies}
use Rattle.returning.proofs.TrimFacts.{Kept, Trimmed}
use Rattle.pages.proofs.CaseLaws.{by_test}
use Rattle.histories.proofs.HarmlessLaws.{Free, Moved}

-- ---- What is the domain's, before and after
module _ (z : Sizes) (s r : List ℕ) (d : ℕ) (k : Kept z s d) (c : Trimmed z s r d) where
  -- A TreeLing of its own that is not empty stays its own, and what is its own after was so.
  pub own_stays : (t : ℕ) → t < z.treelings → get z s (owner t) ≡ suc d → is_empty z s t ≡ false → get z r (owner t) ≡ suc d
  own_stays t lt o used =
      let w = k.found t lt o used in
      ap (λ (u : ℕ). get z r (owner u)) (sym w.2) ∙ c.kept_owner w.0 w.1

  pub own_back : (t : ℕ) → t < z.treelings → get z r (owner t) ≡ suc d → (get z s (owner t) ≡ suc d) × (is_empty z s t ≡ false)
  own_back t lt o =
      either (get z s (owner t)) (suc d)
      (λ is. (is, is_false (is_empty z s t) (λ gone. omega (arith, o, c.gone_zero t 0 lt (omega arith) is gone))))
      (λ apart. absurd (apart (sym (c.same_treeling t 0 lt (omega arith) apart) ∙ o)))

  module _ (range : LeavesFit z s) (f : ℕ) (lf : f < z.frames) where
    -- So are its pages.
    pub page_stays : MappedBy z s d f → MappedBy z r d f
    page_stays m =
        let same = c.same_leaf f lf in
        record {
          some = omega (arith, same, m.some);
          own =
              ap (λ (x : ℕ). get z r (owner (treeling_of x))) same
              ∙ own_stays (treeling_of (get z s (leaf f))) (treeling_fits z.treelings (get z s (leaf f)) m.some (range f lf)) m.own (page_lies z s f lf m.some);
        }

    pub page_back : MappedBy z r d f → MappedBy z s d f
    page_back m =
        let same = c.same_leaf f lf in
        let some : 0 < get z s (leaf f) = omega (arith, same, m.some) in
        record {
          some = some;
          own = (own_back (treeling_of (get z s (leaf f))) (treeling_fits z.treelings (get z s (leaf f)) some (range f lf)) (ap (λ (x : ℕ). get z r (owner (treeling_of x))) (sym same) ∙ m.own)).0;
        }

-- ---- As the others meet it
-- Nothing changes.
moved_same : (z : Sizes) (s : List ℕ) (e : ℕ) (Named : ℕ → Type 0) → Moved z s s e Named
moved_same z s e Named =
    record {
      same_domain = λ d j l m apart. refl;
      same_treeling = λ t j l m not. refl;
      same_entry = λ t k l m not. refl;
      owner_now = λ t l free. free;
      same_leaf = λ f l not. refl;
      leaf_now = λ f l m. m;
      unnamed = λ f l not none. none;
    }

-- The TreeLings that go become nobody's; those that stay are its own.
trimmed_moved : (z : Sizes) (s r : List ℕ) (e : ℕ) (Named : ℕ → Type 0) → LeavesFit z s → Kept z s e → Trimmed z s r e → Moved z s r e Named
trimmed_moved z s r e Named range k c =
    record {
      same_domain = λ d j l m apart. c.same_domain d j l m apart;
      same_treeling = λ t j l m not. c.same_treeling t j l m (λ own. not (inr own));
      same_entry = λ t i l m not. c.same_entry t i l m (λ own. not (inr own));
      owner_now = λ t l.
          ⊎_elim
          (λ none. inl (c.same_treeling t 0 l (omega arith) (λ own. omega arith) ∙ none))
          (λ own. own_after t l own (is_empty z s t) refl);
      same_leaf = λ f l not. c.same_leaf f l;
      leaf_now = λ f l. ⊎_elim (λ none. inl (c.same_leaf f l ∙ none)) (λ m. inr (page_stays z s r e k c range f l m));
      unnamed = λ f l not none. c.same_leaf f l ∙ none;
    }
  where
    -- One of its own goes or stays.
    own_after : (t : ℕ) → t < z.treelings → get z s (owner t) ≡ suc e → (b : Bool) → is_empty z s t ≡ b → Free z r e t
    own_after t l own true gone = inl (c.gone_zero t 0 l (omega arith) own gone)
    own_after t l own false used = inr (own_stays z s r e k c t l own used)

-- ---- Trim
pub trim_moved : (z : Sizes) (s : List ℕ) (e : ℕ) (Named : ℕ → Type 0) → LeavesFit z s → Kept z s e → (0 < number_returned z s e → Trimmed z s (trimmed z s e) e) → Moved z s (trimming z s e) e Named
unfolding trimming
trim_moved z s e Named range k c =
    by_test (λ r. Moved z s r e Named) (eqb (number_returned z s e) 0) _ _
    (λ _. moved_same z s e Named)
    (λ some.
    let apart = eqb-false (number_returned z s e) 0 some in
    trimmed_moved z s (trimmed z s e) e Named range k (c (lt_of_not-le (λ none. apart (omega arith)))))
