-- A call of one domain, as the others meet it: what is its own or nobody's stays so, and all else is as before.
-- Assumes nothing.
use Prim.Native.Nat.{ℕ, suc, ◌<◌}
use mathlib.Core.Path.{◌≡◌, sym, ap, ◌∙◌}
use mathlib.Core.List.{List}
use mathlib.Core.Logic.{◌⊎◌, ⊎_elim, inl, inr}
use native.Mathlib.Nat.{lt_of_not-le}
use native.Mathlib.Omega.{arith}
use Rattle.layout.specs.declared.Sizes.{Sizes}
use Rattle.leaf_map.specs.LeafIds.{treeling_of}
use Rattle.leaf_map.proofs.LeafIdLaws.{treeling_fits}
use Rattle.sound.specs.Sound.{LeavesFit}
use Rattle.layout.specs.Places.{get, domain, treeling, entry, leaf, owner}
use Rattle.sound.proofs.MappedLaws.{MappedBy}
use Rattle.world.proofs.FrameLaws.{either}
use Rattle.histories.proofs.ViewLaws.{Mine}
use Rattle.histories.proofs.OthersLaws.{Untouched, untouched_same, mapped_still, untouched_trans}

-- TreeLing t is domain e's or nobody's.
abbrev pub Free : Sizes → List ℕ → ℕ → ℕ → Type 0
Free z s e t = (get z s (owner t) ≡ 0) ⊎ (get z s (owner t) ≡ suc e)

-- Words r after words s: domain e has changed only what was its own or nobody's, which is so still. Only frames of Named became mapped.
pub record Moved (z : Sizes) (s r : List ℕ) (e : ℕ) (Named : ℕ → Type 0) : Type 0 where
  pub same_domain : (d j : ℕ) → d < z.domains → j < 6 → (d ≡ e → ⊥) → get z r (domain d j) ≡ get z s (domain d j)
  pub same_treeling : (t j : ℕ) → t < z.treelings → j < 5 → (Free z s e t → ⊥) → get z r (treeling t j) ≡ get z s (treeling t j)
  pub same_entry : (t k : ℕ) → t < z.treelings → k < 512 → (Free z s e t → ⊥) → get z r (entry t k) ≡ get z s (entry t k)
  pub owner_now : (t : ℕ) → t < z.treelings → Free z s e t → Free z r e t
  pub same_leaf : (f : ℕ) → f < z.frames → (Mine z s e f → ⊥) → get z r (leaf f) ≡ get z s (leaf f)
  pub leaf_now : (f : ℕ) → f < z.frames → Mine z s e f → Mine z r e f
  pub unnamed : (f : ℕ) → f < z.frames → (Named f → ⊥) → get z s (leaf f) ≡ 0 → get z r (leaf f) ≡ 0

-- What follows for each domain: another's things are untouched, its own frames are its own or unmapped.
pub record Harmless (z : Sizes) (s r : List ℕ) (e : ℕ) (Named : ℕ → Type 0) : Type 0 where
  pub others : (d : ℕ) → d < z.domains → (d ≡ e → ⊥) → Untouched z s r d
  pub own : (f : ℕ) → f < z.frames → Mine z s e f → Mine z r e f
  pub unnamed : (f : ℕ) → f < z.frames → (Named f → ⊥) → get z s (leaf f) ≡ 0 → get z r (leaf f) ≡ 0

-- Nothing changes.
pub harmless_same : (z : Sizes) (s : List ℕ) (e : ℕ) (Named : ℕ → Type 0) → Harmless z s s e Named
harmless_same z s e Named =
    record { others = λ d l apart. untouched_same z s d; own = λ f l m. m; unnamed = λ f l not none. none }

-- One after the other.
pub harmless_trans : (z : Sizes) (s r q : List ℕ) (e : ℕ) (Named : ℕ → Type 0) → LeavesFit z s → Harmless z s r e Named → Harmless z r q e Named → Harmless z s q e Named
harmless_trans z s r q e Named range a b =
    record {
      others = λ d l apart. untouched_trans z s r q d range (a.others d l apart) (b.others d l apart);
      own = λ f l m. b.own f l (a.own f l m);
      unnamed = λ f l not none. b.unnamed f l not (a.unnamed f l not none);
    }

-- A frame that is domain d's or unmapped is so after a call of any domain, where another's mapping does not name it.
pub harmless_mine : (z : Sizes) (s r : List ℕ) (d e f : ℕ) (Named : ℕ → Type 0) → LeavesFit z s → d < z.domains → f < z.frames → Harmless z s r e Named → ((d ≡ e → ⊥) → Named f → ⊥) → Mine z s d f → Mine z r d f
harmless_mine z s r d e f Named range ld lf a not m =
    either d e
    (λ is. rw is (a.own f lf (rw is at m)))
    (λ apart.
    ⊎_elim
    (λ none. inl (a.unnamed f lf (not apart) none))
    (λ k. inr (mapped_still z s r d f range (a.others d ld apart) lf k))
    m)

-- ---- From what has changed
module _ (z : Sizes) (s r : List ℕ) (e : ℕ) (Named : ℕ → Type 0) (c : Moved z s r e Named) where
  -- A TreeLing is free or it is not, and a frame is e's or unmapped or it is not.
  by_free : {P : Type 0} (t : ℕ) → (Free z s e t → P) → ((Free z s e t → ⊥) → P) → P
  by_free t here there =
      either (get z s (owner t)) 0
      (λ is. here (inl is))
      (λ some. either (get z s (owner t)) (suc e) (λ is. here (inr is)) (λ apart. there (λ w. ⊎_elim some apart w)))

  by_mine : {P : Type 0} (f : ℕ) → (Mine z s e f → P) → ((Mine z s e f → ⊥) → P) → P
  by_mine f here there =
      either (get z s (leaf f)) 0
      (λ is. here (inl is))
      (λ some.
      let x = get z s (leaf f) in
      either (get z s (owner (treeling_of x))) (suc e)
      (λ is. here (inr (record { some = lt_of_not-le (λ none. some (omega arith)); own = is })))
      (λ apart. there (λ w. ⊎_elim some (λ m. apart m.own) w)))

  module _ (d : ℕ) (apart : d ≡ e → ⊥) where
    -- What is domain d's is not free for e, and not e's.
    not_free : (w : List ℕ) (t : ℕ) → get z w (owner t) ≡ suc d → Free z w e t → ⊥
    not_free w t o = ⊎_elim (λ none. omega (arith, o, none)) (λ is. apart (omega (arith, o, is)))

    not_mine : (w : List ℕ) (f : ℕ) → MappedBy z w d f → Mine z w e f → ⊥
    not_mine w f m = ⊎_elim (λ none. omega (arith, m.some, none)) (λ k. apart (omega (arith, m.own, k.own)))

    -- So what is d's now was d's: a TreeLing, and a page.
    own_back : (t : ℕ) → t < z.treelings → get z r (owner t) ≡ suc d → get z s (owner t) ≡ suc d
    own_back t l o =
        by_free t
        (λ free. absurd (not_free r t o (c.owner_now t l free)))
        (λ not. sym (c.same_treeling t 0 l (omega arith) not) ∙ o)

    page_back : LeavesFit z s → (f : ℕ) → f < z.frames → MappedBy z r d f → MappedBy z s d f
    page_back range f l m =
        by_mine f
        (λ mine. absurd (not_mine r f m (c.leaf_now f l mine)))
        (λ not.
        let same = c.same_leaf f l not in
        let some : 0 < get z s (leaf f) = omega (arith, same, m.some) in
        record {
          some = some;
          own = own_back (treeling_of (get z s (leaf f))) (treeling_fits z.treelings (get z s (leaf f)) some (range f l)) (ap (λ (x : ℕ). get z r (owner (treeling_of x))) (sym same) ∙ m.own);
        })

  -- Another domain is not touched.
  pub moved_harmless : LeavesFit z s → Harmless z s r e Named
  moved_harmless range =
      record {
        others = λ d ld apart.
            record {
              same_domain = λ j m. c.same_domain d j ld m apart;
              same_treeling = λ t j l m o. c.same_treeling t j l m (not_free d apart s t o);
              same_entry = λ t k l m o. c.same_entry t k l m (not_free d apart s t o);
              no_more = own_back d apart;
              same_leaf = λ f l m. c.same_leaf f l (not_mine d apart s f m);
              no_page_more = page_back d apart range;
            };
        own = c.leaf_now;
        unnamed = c.unnamed;
      }
