-- Laws of the code that places a page: what its decision says, and the answer that it leads to.
-- Assumes nothing.
use Prim.Native.Nat.{ℕ, ◌*◌, ◌/◌, ◌%◌, ◌<◌, ◌≤◌}
use mathlib.Core.Path.{◌≡◌, refl, sym, ap, ap₂, subst, ◌∙◌}
use mathlib.Core.List.{List}
use mathlib.Core.Bool.{true}
use native.Mathlib.Omega.{arith}
use Rattle.layout.specs.declared.Sizes.{Sizes}
use Rattle.leaf_map.specs.declared.LeafId.{LeafId}
use Rattle.geometry.specs.Entries.{tag_of, availability_of}
use Rattle.layout.specs.Outcomes.{OutcomeOf, outcome}
use Rattle.layout.specs.Places.{Laid, get, entry, leaf, owner, pages_mapped}
use Rattle.board.specs.Holes.{outside}
use Rattle.sound.specs.Sentences.{true_number, is_mapped_by, of_rank}
use Rattle.sound.specs.Sound.{Sound, Ordinary}
use Rattle.world.specs.World.{world, owned}
use Rattle.taking.specs.Taking.{to_take, taking, has_unowned}
use Rattle.taking.specs.CodePool.{pool}
use Rattle.placing.specs.Placing.{place_entry, leaf_given, after_giving, giving, placing, spot_at, from_pool, decision, writing}
use Rattle.world.specs.Full.{AllOwned}
use Rattle.std.specs.Prelude.{Option, Some, None}
use Rattle.placing.specs.declared.Spot.{Spot}
use Rattle.placing.specs.declared.Decision.{Decision}
use Rattle.placing.specs.declared.Decision.TheVariants.{Own, Take, Nowhere}
use Rattle.placing.proofs.DecisionLaws.{decision_cases}
use Rattle.world.proofs.MatchingLaws.{count_most}
use Rattle.taking.proofs.TakeCodeLaws.{some_unowned, none_unowned}
use Rattle.placing.proofs.NoPlace.{pool_found, sought_found, pool_empty}
use Rattle.placing.proofs.PlacedSound.{found_next}
use Rattle.placing.proofs.PlacingSound.{placing_sound}
use Rattle.taking.proofs.TakenLaws.{taken}

-- Entry k of TreeLing t can give a place to domain d.
pub record Ready (z : Sizes) (s : List ℕ) (d t k : ℕ) : Type 0 where
  pub laid : Laid z s
  pub below : t < z.treelings
  pub small : k < 512
  pub free : 0 < availability_of (get z s (entry t k))
  pub tag_small : tag_of (get z s (entry t k)) < 2097152
  pub pages_most : get z s (pages_mapped d) ≤ z.frames

-- A leaf ID and the words left make the placement.
gives : (z : Sizes) (s r : List ℕ) (d f t k : ℕ) (id : LeafId) → id.0 ≡ leaf_given z s t k → r ≡ after_giving z s d f t k → outcome (Some id) r ≡ giving z s d f t k
gives z s r d f t k id is left = ap₂ (λ (x : ℕ) (w : List ℕ). outcome (Some (record { 0 = x })) w) is left

module _ (z : Sizes) (s : List ℕ) (d : ℕ) (h : Sound z s) (ld : d < z.domains) where
  -- No domain has more pages than there are frames.
  pages_few : get z s (pages_mapped d) ≤ z.frames
  unfolding true_number
  pages_few = omega (arith, h.pages_true_lem d ld, count_most z.frames (is_mapped_by z s d))

  -- ---- An own entry
  abbrev j : ℕ
  j = place_entry (world z s d)

  abbrev spot_j : Spot
  spot_j = spot_at (of_rank z s d (j / 512)) (j % 512)

  -- Two decisions are not one.
  other : {A : Type 0} → ◌≡◌ {A = ℕ} 0 1 → A
  other e = absurd (omega arith)

  own_entry_lem : (sp : Spot) → decision z s d ≡ Own sp → (j < 512 * owned z s d) × (spot_j ≡ sp)
  own_entry_lem sp =
      decision_cases z s d (λ x. x ≡ Own sp → (j < 512 * owned z s d) × (spot_j ≡ sp))
      (λ found e. (found, cc))
      (λ _ _ e. other (cc))
      (λ _ _ e. other (cc))

  -- The entry found can give a place.
  pub own_ready : Ordinary z s d → (sp : Spot) → decision z s d ≡ Own sp → Ready z s d sp.treeling sp.entry
  own_ready ordinary sp e =
      let w = own_entry_lem sp e in
      let n = found_next z s d j h ld ordinary refl w.0 in
      subst (λ (p : Spot). Ready z s d p.treeling p.entry) w.1
      (record {
        laid = h.laid_out.laid;
        below = n.below;
        small = n.small;
        free = n.free;
        tag_small = omega (arith, h.tag_range d _ _ n.below n.small n.own ordinary, h.laid_out.laid.sizes.max_treelings);
        pages_most = pages_few;
      })

  -- ---- The search of the pool
  -- The TreeLing found is one of the state, and unowned.
  pub pool_gives : (t : ℕ) → pool z s ≡ Some t → (t < z.treelings) × (get z s (owner t) ≡ 0)
  pool_gives t p =
      let w = some_unowned z s t p in
      subst (λ (u : ℕ). (u < z.treelings) × (get z s (owner u) ≡ 0)) w.1 (pool_found z s d h ld w.0)

  -- Where none is found, every TreeLing is owned.
  pub pool-owned : pool z s ≡ None → AllOwned z s
  pool-owned p = pool_empty z s d h ld (none_unowned z s p)

  -- So the pool decides.
  pub pool_takes : (u t : ℕ) → pool z s ≡ Some u → t ≡ to_take z s d → Take t ≡ from_pool z s d
  pool_takes u t p is = ap Take is ∙ rw (some_unowned z s u p).0

  pub pool_none : pool z s ≡ None → Nowhere ≡ from_pool z s d
  pool_none p = rw (none_unowned z s p)

  -- ---- A TreeLing to take
  taken_one : (t : ℕ) → decision z s d ≡ Take t → (has_unowned z s ≡ true) × (to_take z s d ≡ t)
  taken_one t =
      decision_cases z s d (λ x. x ≡ Take t → (has_unowned z s ≡ true) × (to_take z s d ≡ t))
      (λ _ e. other (cc))
      (λ _ some e. (some, cc))
      (λ _ _ e. other (cc))

  -- It is one of the state.
  pub sought_below : (t : ℕ) → decision z s d ≡ Take t → t < z.treelings
  sought_below t e =
      let w = taken_one t e in
      subst (λ (v : ℕ). v < z.treelings) w.1 (sought_found z s d h ld d w.0).0

  -- Once it is taken, its first entry can give a place.
  pub taken_ready : (t : ℕ) → decision z s d ≡ Take t → (m : List ℕ) → m ≡ taking z s d t → (sp : Spot) → sp ≡ spot_at t 0 → Ready z m d sp.treeling sp.entry
  taken_ready t e m took sp is =
      let below = sought_below t e in
      let k = taken z s d t h.laid_out.laid ld below (λ v e. omega (arith, h.last_range d ld)) in
      let word = k.fresh 0 (omega arith) in
      subst (λ (p : Spot). Ready z m d p.treeling p.entry) (sym is)
      (subst (λ (w : List ℕ). Ready z w d t 0) (sym took)
      (record {
        laid = record { sizes = h.laid_out.laid.sizes; long = k.long ∙ h.laid_out.laid.long };
        below = below;
        small = omega arith;
        free = omega arith;
        tag_small = omega (arith, h.laid_out.laid.sizes.max_treelings);
        pages_most = omega (arith, k.same_own 5 (omega arith) (omega arith) (omega arith), pages_few);
      }))

-- ---- The writes
module _ (z : Sizes) (s : List ℕ) (d f : ℕ) (to : Decision) where
  pub own_written : (sp : Spot) → to ≡ Own sp → (id : LeafId) (r : List ℕ) → id.0 ≡ leaf_given z s sp.treeling sp.entry → r ≡ after_giving z s d f sp.treeling sp.entry → outcome (Some id) r ≡ writing z s d f to
  unfolding writing
  own_written sp e id r is left =
      gives z s r d f sp.treeling sp.entry id is left ∙ ap (writing z s d f) (sym e)

  pub taken_written : (t : ℕ) → to ≡ Take t → (m : List ℕ) → m ≡ taking z s d t → (sp : Spot) → sp ≡ spot_at t 0 → (id : LeafId) (r : List ℕ) → id.0 ≡ leaf_given z m sp.treeling sp.entry → r ≡ after_giving z m d f sp.treeling sp.entry → outcome (Some id) r ≡ writing z s d f to
  unfolding writing
  taken_written t e m took sp at id r is left =
      gives z m r d f sp.treeling sp.entry id is left
      ∙ ap (λ (p : Spot). giving z m d f p.treeling p.entry) at
      ∙ ap (λ (v : List ℕ). giving z v d f t 0) took ∙ ap (writing z s d f) (sym e)

  pub nowhere_written : to ≡ Nowhere → outcome None s ≡ writing z s d f to
  unfolding writing
  nowhere_written e = ap (writing z s d f) (sym e)

-- Decided and then written, it is placed, and the words left are sound.
pub placed_right : (z : Sizes) (s : List ℕ) (d f : ℕ) → Sound z s → d < z.domains → f < z.frames → outside s f ≡ true → Ordinary z s d → get z s (leaf f) ≡ 0
    → (to : Decision) → to ≡ decision z s d → (p : Option LeafId) (r : List ℕ) → outcome p r ≡ writing z s d f to → (outcome p r ≡ placing z s d f) × Sound z r
unfolding placing
placed_right z s d f h ld lf out alive unmapped to decided p r e =
    let is : outcome p r ≡ placing z s d f = e ∙ ap (writing z s d f) decided in
    (is, subst (λ (q : OutcomeOf (Option LeafId)). Sound z q.words) (sym is) (placing_sound z s d f h ld lf out alive unmapped))
