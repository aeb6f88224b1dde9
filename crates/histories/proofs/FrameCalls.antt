-- What a done map and a done unmap leave in the leaf map, and so a run: every frame that it names is mapped, or unmapped, and no other word of the leaf map changes.
-- Assumes nothing.
use Prim.Native.Nat.{ℕ, suc, ◌+◌, ◌*◌, ◌/◌, ◌%◌, ◌<◌}
use mathlib.Core.Path.{◌≡◌, refl, sym, ap, subst, ◌∙◌}
use mathlib.Core.List.{List}
use mathlib.Core.Bool.{true}
use native.Mathlib.Omega.{arith}
use Rattle.layout.specs.declared.Sizes.{Sizes}
use Rattle.leaf_map.specs.declared.LeafId.{LeafId}
use Rattle.leaf_map.specs.LeafIds.{treeling_of}
use Rattle.leaf_map.proofs.LeafIdLaws.{at_number, at_treeling}
use Rattle.geometry.specs.Entries.{tag_of, availability_of}
use Rattle.layout.specs.Outcomes.{OutcomeOf}
use Rattle.layout.specs.Places.{Laid, get, entry, leaf, owner}
use Rattle.sound.specs.Sound.{Sound, Ordinary}
use Rattle.sound.specs.Sentences.{of_rank, is_mapped_by}
use Rattle.world.specs.World.{world, owned}
use Rattle.taking.specs.Taking.{has_unowned, to_take, taking}
use Rattle.placing.specs.Placing.{place_entry, placing, after_giving, position_given, leaf_given}
use Rattle.releasing.specs.Releasing.{releasing}
use Rattle.std.specs.Prelude.{Option, Some, None}
use Rattle.sound.proofs.MappedLaws.{MappedBy, mapped_by, by_mapped, page_below, mapped_ordinary}
use Rattle.world.proofs.ClearLaws.{lowest_below}
use Rattle.world.proofs.FrameLaws.{either}
use Rattle.placing.proofs.DecisionLaws.{placing_by}
use Rattle.placing.proofs.NoPlace.{sought_found}
use Rattle.placing.proofs.PlacedSound.{placed_given, found_next}
use Rattle.taking.proofs.TakenLaws.{taken}
use Rattle.releasing.proofs.RefillLaws.{leaf_at_lem, leaf_left}
use Rattle.releasing.proofs.ReleasedSound.{released_as}
use Rattle.histories.specs.Done.{AllMapped, AllUnmapped}

-- ---- One page placed
-- Words r after frame f of domain d got leaf ID id in words s.
pub record Landed (z : Sizes) (s r : List ℕ) (d f id : ℕ) : Type 0 where
  pub leaf_is : get z r (leaf f) ≡ id
  pub mapped : MappedBy z r d f
  pub same_leaf : (g : ℕ) → g < z.frames → (g ≡ f → ⊥) → get z r (leaf g) ≡ get z s (leaf g)
  pub same_owner : (t e : ℕ) → t < z.treelings → get z s (owner t) ≡ suc e → get z r (owner t) ≡ suc e

-- The leaf ID of a place.
abbrev id_of : Option LeafId → ℕ
id_of (Some id) = id.0
id_of None = 0

module _ (z : Sizes) (d f : ℕ) (l : d < z.domains) (m : f < z.frames) where
  -- Entry k of TreeLing t gives its place, where its tag is of domain d.
  given_landed : (s : List ℕ) (t k : ℕ) → Laid z s → t < z.treelings → k < 512 → 0 < availability_of (get z s (entry t k)) → tag_of (get z s (entry t k)) < 512 * z.treelings
      → get z s (owner (tag_of (get z s (entry t k)) / 512)) ≡ suc d → Landed z s (after_giving z s d f t k) d f (leaf_given z s t k)
  given_landed s t k laid lt lk free range own =
      let g = placed_given z s d f t k laid l m lt lk in
      let w = get z s (entry t k) in
      let low = lowest_below (availability_of w) free (omega arith) in
      let node : treeling_of (leaf_given z s t k) ≡ tag_of w / 512 = at_treeling (tag_of w) (position_given z s t k) (omega (arith, laid.sizes.max_treelings)) low in
      record {
        leaf_is = g.leaf_is;
        mapped = record {
          some = omega (arith, g.leaf_is, at_number (tag_of w) (position_given z s t k));
          own =
              ap (λ (x : ℕ). get z (after_giving z s d f t k) (owner (treeling_of x))) g.leaf_is
              ∙ ap (λ (u : ℕ). get z (after_giving z s d f t k) (owner u)) node
              ∙ g.same_treeling (tag_of w / 512) 0 (omega arith) (omega arith)
              ∙ own;
        };
        same_leaf = g.same_leaf;
        same_owner = λ u e lu o. g.same_treeling u 0 lu (omega arith) ∙ o;
      }

  module _ (s : List ℕ) (h : Sound z s) (o : Ordinary z s d) where
    -- In an own entry, and in a TreeLing taken.
    own_landed : (j : ℕ) → j ≡ place_entry (world z s d) → j < 512 * owned z s d → Landed z s (after_giving z s d f (of_rank z s d (j / 512)) (j % 512)) d f (leaf_given z s (of_rank z s d (j / 512)) (j % 512))
    own_landed j is found =
        let n = found_next z s d j h l o is found in
        let t = of_rank z s d (j / 512) in
        given_landed s t (j % 512) h.laid_out.laid n.below n.small n.free (h.tag_range d t (j % 512) n.below n.small n.own o) (h.tag_own d t (j % 512) n.below n.small n.own o)

    taken_landed : has_unowned z s ≡ true → Landed z s (after_giving z (taking z s d (to_take z s d)) d f (to_take z s d) 0) d f (leaf_given z (taking z s d (to_take z s d)) (to_take z s d) 0)
    taken_landed some =
        let t = to_take z s d in
        let r = taking z s d t in
        let pool = sought_found z s d h l d some in
        let k = taken z s d t h.laid_out.laid l pool.0 (λ v e. omega (arith, h.last_range d l)) in
        let word = k.fresh 0 (omega arith) in
        let tag : tag_of (get z r (entry t 0)) / 512 ≡ t = omega (arith, word) in
        let there =
        given_landed r t 0 (record { sizes = h.laid_out.laid.sizes; long = k.long ∙ h.laid_out.laid.long }) pool.0 (omega arith) (omega (arith, word)) (omega (arith, word, pool.0))
        (ap (λ (u : ℕ). get z r (owner u)) tag ∙ k.owner_is) in
        record {
          leaf_is = there.leaf_is;
          mapped = there.mapped;
          same_leaf = λ g lg apart. there.same_leaf g lg apart ∙ k.same_leaf g;
          same_owner = λ u e lu o.
              there.same_owner u e lu
              (k.same_treeling u 0 lu (omega arith) (λ is. omega (arith, pool.1, ap (λ (x : ℕ). get z s (owner x)) is)) (omega arith) ∙ o);
        }

    -- A place found is the frame's, at the leaf ID answered.
    abbrev Lands : LeafId → OutcomeOf (Option LeafId) → Type 0
    Lands id p = p.answer ≡ Some id → Landed z s p.words d f id.0

    pub placing_landed : (id : LeafId) → (placing z s d f).answer ≡ Some id → Landed z s (placing z s d f).words d f id.0
    placing_landed id =
        placing_by z s d f (Lands id)
        (λ found is. subst (λ (x : ℕ). Landed z s (after_giving z s d f (of_rank z s d (j / 512)) (j % 512)) d f x) (ap id_of is) (own_landed j refl found))
        (λ _ some is. subst (λ (x : ℕ). Landed z s (after_giving z (taking z s d (to_take z s d)) d f (to_take z s d) 0) d f x) (ap id_of is) (taken_landed some))
        (λ _ _ is. absurd (let no : ◌≡◌ {A = ℕ} 0 1 = cc in omega arith))
      where
        j : ℕ
        j = place_entry (world z s d)

-- ---- One page released
-- Words r after the page of frame f was released in words s.
pub record Left (z : Sizes) (s r : List ℕ) (f : ℕ) : Type 0 where
  pub leaf_zero : get z r (leaf f) ≡ 0
  pub same_leaf : (g : ℕ) → g < z.frames → (g ≡ f → ⊥) → get z r (leaf g) ≡ get z s (leaf g)

module _ (z : Sizes) (s : List ℕ) (h : Sound z s) (d : ℕ) (l : d < z.domains) (f : ℕ) (m : f < z.frames) where
  pub releasing_left : MappedBy z s d f → Left z s (releasing z s d f) f
  releasing_left mapped =
      released_as z s d f h l (mapped_ordinary z s d f h m mapped) m mapped (λ r. Left z s r f) λ e b q.
      record { leaf_zero = leaf_at_lem z s h d l f m e b q; same_leaf = leaf_left z s h d l f m e b q }

-- ---- Runs
module _ (z : Sizes) (s : List ℕ) (d f : ℕ) where
  pub none_mapped : AllMapped z s s d f 0
  none_mapped = record { each = λ i k. absurd (omega arith); rest = λ g k apart. refl }

  -- One frame more.
  pub one_mapped : (r t : List ℕ) (i id : ℕ) → Sound z r → f + i < z.frames → AllMapped z s r d f i → Landed z r t d (f + i) id → AllMapped z s t d f (suc i)
  one_mapped r t i id h m w k =
      record {
        each = λ j less.
            either j i
            (λ is. subst (λ (x : ℕ). is_mapped_by z t d (f + x) ≡ true) (sym is) (by_mapped z t d (f + i) k.mapped))
            (λ apart.
            let was = mapped_by z r d (f + j) (w.each j (omega arith)) in
            let x = get z r (leaf (f + j)) in
            let same : get z t (leaf (f + j)) ≡ x = k.same_leaf (f + j) (omega arith) (λ e. apart (omega arith)) in
            by_mapped z t d (f + j)
            (record {
              some = omega (arith, was.some);
              own = ap (λ (y : ℕ). get z t (owner (treeling_of y))) same ∙ k.same_owner (treeling_of x) d (page_below z r h (f + j) (omega arith) was.some) was.own;
            }));
        rest = λ g lg apart. k.same_leaf g lg (apart i (omega arith)) ∙ w.rest g lg (λ j less. apart j (omega arith));
      }

module _ (z : Sizes) (s : List ℕ) (f : ℕ) where
  pub none_unmapped : AllUnmapped z s s f 0
  none_unmapped = record { each = λ i k. absurd (omega arith); rest = λ g k apart. refl }

  pub one_unmapped : (r t : List ℕ) (i : ℕ) → f + i < z.frames → AllUnmapped z s r f i → Left z r t (f + i) → AllUnmapped z s t f (suc i)
  one_unmapped r t i m w k =
      record {
        each = λ j less.
            either j i
            (λ is. ap (λ (x : ℕ). get z t (leaf (f + x))) is ∙ k.leaf_zero)
            (λ apart. k.same_leaf (f + j) (omega arith) (λ e. apart (omega arith)) ∙ w.each j (omega arith));
        rest = λ g lg apart. k.same_leaf g lg (apart i (omega arith)) ∙ w.rest g lg (λ j less. apart j (omega arith));
      }
