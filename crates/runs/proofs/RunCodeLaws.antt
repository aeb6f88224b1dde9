-- Laws of the code of runs: how many places are left, and what a run of single calls comes to.
-- Assumes nothing.
use Prim.Native.Nat.{ℕ, zero, suc, ◌+◌, ◌-◌, ◌*◌, ◌/◌, ◌%◌, ◌<◌, ◌≤◌}
use mathlib.Core.Path.{◌≡◌, refl, sym, ap, ap₂, subst, ◌∙◌}
use mathlib.Core.List.{List}
use mathlib.Core.Bool.{Bool, true, false, cond, not, ◌&&◌, false≢true}
use native.Mathlib.Nat.{lt_of_not-le, add-zero, add-suc}
use native.Mathlib.Numerals.{add-one}
use native.Mathlib.Omega.{arith}
use borrow.Author.Tests.{eq-eqb, ne_eqb, le-leb, lt-leb, leb-true, leb-false, lt-ltb, ltb-true, ltb-false, not-true, not-false}
use lib.Dec.{eqb, leb, ltb}
use lib.ListN.{get_or}
use Rattle.layout.specs.declared.Sizes.{Sizes}
use Rattle.leaf_map.specs.declared.LeafId.{LeafId}
use Rattle.leaf_map.specs.LeafIds.{treeling_of}
use Rattle.layout.specs.Outcomes.{OutcomeOf, outcome}
use Rattle.board.specs.Holes.{hole_count, outside}
use Rattle.layout.specs.Places.{address, get, leaf, owner, pages_mapped}
use Rattle.leaf_map.proofs.LeafIdLaws.{treeling_below}
use Rattle.geometry.proofs.FirstLaws.{first_holds, first-before, first_most}
use Rattle.layout.specs.Bounded.{all}
use Rattle.board.proofs.HoleLaws.{HolesKept, outside_kept}
use Rattle.sound.specs.Sentences.{is_mapped_by, of_rank}
use Rattle.sound.specs.Sound.{Sound, Ordinary}
use Rattle.layout.proofs.BoundedLaws.{and_both, and_of, count_cong, count_no, count_some}
use Rattle.sound.proofs.CountingLaws.{own}
use Rattle.world.specs.World.{world, owned}
use Rattle.taking.specs.Taking.{to_take, taking}
use Rattle.placing.specs.Placing.{place_entry, after_giving, placing}
use Rattle.releasing.specs.Releasing.{releasing}
use Rattle.world.specs.Full.{AllOwned}
use Rattle.taking.specs.CodePool.{pool}
use Rattle.std.specs.Prelude.{Option, Some, None}
use Rattle.std.specs.Option.{is_some, unwrap_or}
use Rattle.world.specs.Find.{find_from}
use Rattle.world.proofs.ChangeLaws.{count_change}
use Rattle.world.proofs.FindLaws.{found_or_end, found_some}
use Rattle.placing.proofs.NoPlace.{no_place, sought_found}
use Rattle.placing.proofs.PlacingLaws.{pool_gives, pool-owned}
use Rattle.placing.proofs.PlacedSound.{found_next, placed_given}
use Rattle.placing.proofs.PlacingSound.{placing_cases, placing_sound, placing_holes}
use Rattle.releasing.proofs.ReleasedSound.{released_as, released_sound}
use Rattle.taking.proofs.TakenLaws.{taken}
use Rattle.releasing.proofs.RefillLaws.{leaf_left, tree_left}
use Rattle.pages.specs.Answers.{Finished, Outcome, refuse, page_at}
use Rattle.pages.specs.Mapping.{map_call}
use Rattle.pages.specs.Unmapping.{unmap_call}
use Rattle.runs.specs.Runs.{Run, going, stopped, go_on, longest_run, map_run_call, run_of, run_step, unmap_run_call, whole_run}
use Rattle.runs.specs.CodeBeforeRun.{first_mapped}
use Rattle.pages.specs.PlacesLeft.{in_pool, places}
use Rattle.pages.proofs.CallLaws.{map_cases, unmap_cases, pages_live, placing_pages}
use Rattle.pages.proofs.SlotsInUse.{pages_most, full_pages}
use Rattle.sound.proofs.TestLaws.{live_ordinary}
use Rattle.sound.proofs.MappedLaws.{MappedBy, by_mapped, mapped_by, mapped_ordinary}

-- ---- The tests
-- A leaf ID is none or some.
pub some_leaf : (x : ℕ) → not (eqb x 0) ≡ ltb 0 x
some_leaf zero = refl
some_leaf (suc x) = ap not (ne_eqb (suc x) 0 (λ none. omega arith)) ∙ sym (lt-ltb 0 (suc x) (omega arith))

module _ (z : Sizes) (s : List ℕ) where
  -- Frame i of a run from f on is mapped by anyone.
  abbrev pub is_mapped : ℕ → ℕ → Bool
  is_mapped f i = ltb 0 (get z s (leaf (f + i)))

  -- Frame i of it is mapped by domain d.
  abbrev pub mine : ℕ → ℕ → ℕ → Bool
  mine d f i = is_mapped_by z s d (f + i)

  -- TreeLing t is unowned.
  abbrev is_pooled : ℕ → Bool
  is_pooled t = eqb (get z s (owner t)) 0

-- ---- The places left
module _ (z : Sizes) (s : List ℕ) (h : Sound z s) (d : ℕ) (l : d < z.domains) where
  -- The places left and its pages are the slots of its TreeLings and of the pool.
  places_pages : places z s d + get z s (pages_mapped d) ≡ 4096 * (owned z s d + in_pool z s)
  unfolding places
  places_pages = omega (arith, pages_most z s h d l)

  -- The pool has a TreeLing where one is found, and none where every one is owned.
  pool_some : (t : ℕ) → pool z s ≡ Some t → 0 < in_pool z s
  unfolding in_pool
  pool_some t e =
      let w = pool_gives z s d h l t e in
      count_some z.treelings (is_pooled z s) t w.0 (eq-eqb (get z s (owner t)) 0 w.1)

  pool_none : AllOwned z s → in_pool z s ≡ 0
  unfolding in_pool
  pool_none all =
      count_no z.treelings (is_pooled z s) (λ t below. ne_eqb (get z s (owner t)) 0 (λ is. omega (arith, all.some_owner t below)))

  -- One of the pool has room for the longest run by itself.
  pub pool_enough : (n t : ℕ) → n ≤ longest_run → pool z s ≡ Some t → true ≡ leb n (places z s d)
  pool_enough n t most p = sym (le-leb n (places z s d) (omega (arith, places_pages, pages_most z s h d l, pool_some t p)))

  -- So where there is no place, none is left.
  none_left : Ordinary z s d → (f : ℕ) → (placing z s d f).answer ≡ None → places z s d ≡ 0
  none_left o f e =
      let w = (no_place z s d f h l o).0 e in
      omega (arith, places_pages, full_pages z s h d l w.0, pool_none w.1)

-- The same, with the pages read at i and the TreeLings counted.
module _ (z : Sizes) (s : List ℕ) (h : Sound z s) (d : ℕ) (l : d < z.domains) (i o : ℕ) (at : i ≡ address z (pages_mapped d)) (is : o ≡ owned z s d) where
  -- The domain's own TreeLings have room;
  pub own_enough : (n : ℕ) → n ≤ 4096 * o - get_or s i 0 → true ≡ leb n (places z s d)
  own_enough n low =
      let read = ap (λ (k : ℕ). get_or s k 0) at in
      sym (le-leb n (places z s d) (omega (arith, places_pages z s h d l)))

  -- or nothing has.
  pub none_enough : (n : ℕ) → 4096 * o - get_or s i 0 < n → pool z s ≡ None → false ≡ leb n (places z s d)
  none_enough n more p =
      let read = ap (λ (k : ℕ). get_or s k 0) at in
      sym (lt-leb n (places z s d) (omega (arith, places_pages z s h d l, pool_none z s h d l (pool-owned z s d h l p))))

  -- So beyond the own ones it is the answer of the pool's search that tells.
  pub pool_tells : (n : ℕ) → n ≤ longest_run → 4096 * o - get_or s i 0 < n → (r : Option ℕ) → r ≡ pool z s → is_some r ≡ leb n (places z s d)
  pool_tells n most more (Some t) p = pool_enough z s h d l n t most (sym p)
  pool_tells n most more None p = none_enough n more (sym p)

-- ---- One page placed
-- Words r after words s: the TreeLings of domain d and the pool are as many together; leaf IDs of frames other than f are as before.
record Beside (z : Sizes) (s r : List ℕ) (d f : ℕ) : Type 0 where
  together : owned z r d + in_pool z r ≡ owned z s d + in_pool z s
  same_leaf : (g : ℕ) → g < z.frames → (g ≡ f → ⊥) → get z r (leaf g) ≡ get z s (leaf g)

-- With the same owners there are as many of each.
same_owners : (z : Sizes) (s r : List ℕ) (d : ℕ) → ((t : ℕ) → t < z.treelings → get z r (owner t) ≡ get z s (owner t)) → owned z r d + in_pool z r ≡ owned z s d + in_pool z s
unfolding owned in_pool
same_owners z s r d same =
    ap₂ ◌+◌
    (count_cong z.treelings (λ t. eqb (get z r (owner t)) (suc d)) (λ t. eqb (get z s (owner t)) (suc d)) (λ t below. ap (λ (o : ℕ). eqb o (suc d)) (same t below)))
    (count_cong z.treelings (λ t. eqb (get z r (owner t)) 0) (λ t. eqb (get z s (owner t)) 0) (λ t below. ap (λ (o : ℕ). eqb o 0) (same t below)))

-- A TreeLing that goes from the pool to the domain is one less and one more.
one_owner : (z : Sizes) (s r : List ℕ) (d t : ℕ) → t < z.treelings → get z s (owner t) ≡ 0 → get z r (owner t) ≡ suc d
    → ((u : ℕ) → u < z.treelings → (u ≡ t → ⊥) → get z r (owner u) ≡ get z s (owner u)) → owned z r d + in_pool z r ≡ owned z s d + in_pool z s
unfolding owned in_pool
one_owner z s r d t below was is same =
    omega (
      arith,
      count_change z.treelings t (λ u. eqb (get z s (owner u)) (suc d)) (λ u. eqb (get z r (owner u)) (suc d)) below (λ u less apart. ap (λ (o : ℕ). eqb o (suc d)) (same u less apart)),
      count_change z.treelings t (λ u. eqb (get z s (owner u)) 0) (λ u. eqb (get z r (owner u)) 0) below (λ u less apart. ap (λ (o : ℕ). eqb o 0) (same u less apart)),
      one (eqb (get z s (owner t)) (suc d)) false (ne_eqb (get z s (owner t)) (suc d) (λ e. omega arith)),
      one (eqb (get z r (owner t)) (suc d)) true (eq-eqb (get z r (owner t)) (suc d) is),
      one (eqb (get z s (owner t)) 0) true (eq-eqb (get z s (owner t)) 0 was),
      one (eqb (get z r (owner t)) 0) false (ne_eqb (get z r (owner t)) 0 (λ e. omega arith)),
    )
  where
    one : (a b : Bool) → a ≡ b → cond {A = ℕ} a 1 0 ≡ cond b 1 0
    one a b e = ap (λ (x : Bool). cond {A = ℕ} x 1 0) e

module _ (z : Sizes) (s : List ℕ) (h : Sound z s) (d f : ℕ) (l : d < z.domains) (o : Ordinary z s d) (m : f < z.frames) where
  -- In an own entry,
  own_beside : (j : ℕ) → j ≡ place_entry (world z s d) → j < 512 * owned z s d → Beside z s (after_giving z s d f (of_rank z s d (j / 512)) (j % 512)) d f
  own_beside j is found =
      let t = of_rank z s d (j / 512) in
      let n = found_next z s d j h l o is found in
      let g = placed_given z s d f t (j % 512) h.laid_out.laid l m n.below n.small in
      record { together = same_owners z s (after_giving z s d f t (j % 512)) d (λ u below. g.same_treeling u 0 below (omega arith)); same_leaf = g.same_leaf }

  -- in a TreeLing taken,
  taken_beside : (t : ℕ) → t < z.treelings → get z s (owner t) ≡ 0 → Beside z s (after_giving z (taking z s d t) d f t 0) d f
  taken_beside t below nobody =
      let k = taking z s d t in
      let w = taken z s d t h.laid_out.laid l below (λ v e. omega (arith, h.last_range d l)) in
      let g = placed_given z k d f t 0 (record { sizes = h.laid_out.laid.sizes; long = w.long ∙ h.laid_out.laid.long }) l m below (omega arith) in
      record {
        together = same_owners z k (after_giving z k d f t 0) d (λ u less. g.same_treeling u 0 less (omega arith))
            ∙ one_owner z s k d t below nobody w.owner_is (λ u less apart. w.same_treeling u 0 less (omega arith) apart (omega arith));
        same_leaf = λ x less apart. g.same_leaf x less apart ∙ w.same_leaf x;
      }

  -- or not at all.
  placing_beside : Beside z s (placing z s d f).words d f
  placing_beside =
      placing_cases z s d f (λ r. Beside z s r d f)
      (own_beside (place_entry (world z s d)) refl)
      (λ _ is. let w = sought_found z s d h l d is in taken_beside (to_take z s d) w.0 w.1)
      (record { together = refl; same_leaf = λ g _ _. refl })

  -- A page placed takes one place.
  placed_places : (id : LeafId) → outside s f ≡ true → get z s (leaf f) ≡ 0 → (placing z s d f).answer ≡ Some id → suc (places z (placing z s d f).words d) ≡ places z s d
  placed_places id out none is =
      omega (
        arith,
        places_pages z s h d l,
        places_pages z (placing z s d f).words (placing_sound z s d f h l m out o none) d l,
        placing_beside.together,
        placing_pages z d f l s h id is,
      )

-- ---- Runs of single calls
-- Once stopped, a run stays so.
stays : (single : List ℕ → ℕ → Outcome) (s : List ℕ) (f k i n : ℕ) → run_of single s f i ≡ stopped k → run_of single s f (i + n) ≡ stopped k
unfolding run_of run_step
stays single s f k i zero e = ap (run_of single s f) (add-zero i) ∙ e
stays single s f k i (suc n) e =
    ap (run_of single s f) (add-suc i n)
    ∙ ap (run_step single (f + (i + n))) (stays single s f k i n e)

-- A single call, as a run goes on from it: a page placed, a frame that is mapped, no place.
module _ (z : Sizes) (r : List ℕ) (d x : ℕ) where
  abbrev map_step : Run
  map_step = run_step (λ w. map_call z w d) x (going r)

  step_placed : (id : LeafId) → get z r (leaf x) ≡ 0 → (placing z r d x).answer ≡ Some id → map_step ≡ going (placing z r d x).words
  unfolding run_step go_on page_at
  step_placed id none is =
      map_cases z r d x (λ o. go_on o o.answer ≡ going (placing z r d x).words)
      (λ some. absurd (some none))
      (λ _ nothing. absurd (let never : ◌≡◌ {A = ℕ} 0 1 = cc in omega arith))
      (λ _ _ _. refl)

  step_taken : (get z r (leaf x) ≡ 0 → ⊥) → map_step ≡ stopped 12
  unfolding run_step go_on
  step_taken some =
      map_cases z r d x (λ o. go_on o o.answer ≡ stopped 12) (λ _. refl) (λ none _. absurd (some none)) (λ _ none _. absurd (some none))

  step_nothing : get z r (leaf x) ≡ 0 → (placing z r d x).answer ≡ None → map_step ≡ stopped 13
  unfolding run_step go_on
  step_nothing none is =
      map_cases z r d x (λ o. go_on o o.answer ≡ stopped 13)
      (λ some. absurd (some none))
      (λ _ _. refl)
      (λ id _ at. absurd (let never : ◌≡◌ {A = ℕ} 0 1 = cc in omega arith))

module _ (z : Sizes) (s : List ℕ) (d f : ℕ) where
  -- The words r after the first i frames of a run are mapped: the places left, and the leaf IDs of the frames to come.
  pub record MapsOn (i : ℕ) (r : List ℕ) : Type 0 where
    pub sound : Sound z r
    pub ordinary : Ordinary z r d
    pub run_is : run_of (λ w. map_call z w d) s f i ≡ going r
    pub left : places z r d + i ≡ places z s d
    pub same_leaf : (g : ℕ) → f + i ≤ g → g < z.frames → get z r (leaf g) ≡ get z s (leaf g)
    pub holes : HolesKept s r

  -- After all of n frames.
  pub maps_all : (n i : ℕ) (r : List ℕ) → MapsOn i r → i ≤ n → n ≤ i → (run_of (λ w. map_call z w d) s f n ≡ going r) × Sound z r
  maps_all n i r w low high =
      let is : n ≡ i = omega arith in
      (ap (run_of (λ x. map_call z x d) s f) is ∙ w.run_is, w.sound)

  pub maps_none : Sound z s → Ordinary z s d → MapsOn 0 s
  unfolding run_of
  maps_none h o = record { sound = h; ordinary = o; run_is = refl; left = add-zero (places z s d); same_leaf = λ g _ _. refl; holes = λ j _ _. refl }

  module _ (l : d < z.domains) (i : ℕ) (r : List ℕ) (w : MapsOn i r) (m : f + i < z.frames) where
    -- A frame that is unmapped is so still.
    pub still_free : get z s (leaf (f + i)) ≡ 0 → get z r (leaf (f + i)) ≡ 0
    still_free none = w.same_leaf (f + i) (omega arith) m ∙ none

    -- One that lies in no hole does so still.
    pub still_outside : hole_count s ≤ 8 → outside s (f + i) ≡ true → outside r (f + i) ≡ true
    still_outside most out = outside_kept s r w.holes most (f + i) ∙ out

    -- It is mapped next where a place is left.
    maps_next : outside r (f + i) ≡ true → i < places z s d → get z s (leaf (f + i)) ≡ 0 → MapsOn (suc i) (placing z r d (f + i)).words
    unfolding run_of
    maps_next out less none = on (placing z r d (f + i)).answer refl
      where
        free : get z r (leaf (f + i)) ≡ 0
        free = still_free none

        on : (p : Option LeafId) → (placing z r d (f + i)).answer ≡ p → MapsOn (suc i) (placing z r d (f + i)).words
        on None is = absurd (omega (arith, none_left z r w.sound d l w.ordinary (f + i) is, w.left))
        on (Some id) is =
            let sound = placing_sound z r d (f + i) w.sound l m out w.ordinary free in
            let pages = placing_pages z d (f + i) l r w.sound id is in
            record {
              sound = sound;
              ordinary = live_ordinary z (placing z r d (f + i)).words d (pages_live z d (f + i) l _ sound (omega arith));
              run_is = ap (run_step (λ x. map_call z x d) (f + i)) w.run_is ∙ step_placed z r d (f + i) id free is;
              left = omega (arith, w.left, placed_places z r w.sound d (f + i) l w.ordinary m id out free is);
              same_leaf = λ g low less. (placing_beside z r w.sound d (f + i) l w.ordinary m).same_leaf g less (λ e. omega arith) ∙ w.same_leaf g (omega arith) less;
              holes = λ j low high. placing_holes z r d (f + i) w.sound l m j low high ∙ w.holes j low high;
            }

    -- So the page placed is the next one.
    pub map_turn : outside r (f + i) ≡ true → i < places z s d → get z s (leaf (f + i)) ≡ 0 → (p : Option LeafId) (e : List ℕ) → outcome p e ≡ placing z r d (f + i) → MapsOn (i + 1) e
    map_turn out less none p e is =
        rw add-one (subst (MapsOn (suc i)) (sym (ap (λ (q : OutcomeOf (Option LeafId)). q.words) is)) (maps_next out less none))

    -- One that is mapped stops the run with 12,
    maps_taken : (get z s (leaf (f + i)) ≡ 0 → ⊥) → run_of (λ x. map_call z x d) s f (suc i) ≡ stopped 12
    unfolding run_of
    maps_taken some =
        ap (run_step (λ x. map_call z x d) (f + i)) w.run_is
        ∙ step_taken z r d (f + i) (λ none. some (sym (w.same_leaf (f + i) (omega arith) m) ∙ none))

    -- and one that is unmapped, where no place is left, with 13.
    maps_nothing : outside r (f + i) ≡ true → places z s d ≡ i → get z s (leaf (f + i)) ≡ 0 → run_of (λ x. map_call z x d) s f (suc i) ≡ stopped 13
    unfolding run_of
    maps_nothing out most none =
        ap (run_step (λ x. map_call z x d) (f + i)) w.run_is
        ∙ step_nothing z r d (f + i) (still_free none) (on (placing z r d (f + i)).answer refl)
      where
        on : (p : Option LeafId) → (placing z r d (f + i)).answer ≡ p → p ≡ None
        on None is = refl
        on (Some id) is = absurd (omega (arith, w.left, placed_places z r w.sound d (f + i) l w.ordinary m id out (still_free none) is))

  -- The frames up to the first that is mapped are no more than the longest run.
  pub first_few : (n a : ℕ) → a ≡ first_mapped z s f n → n ≤ longest_run → a ≤ longest_run
  first_few n a is most = omega (arith, first_most (is_mapped z s f) 0 n)

  -- The frames before the first that is mapped are unmapped.
  pub before-first : (n i : ℕ) → i < first_mapped z s f n → get z s (leaf (f + i)) ≡ 0
  before-first n i less =
      omega (arith, ltb-false 0 (get z s (leaf (f + i))) (first-before (is_mapped z s f) 0 n i (omega arith) less))

  module _ (h : Sound z s) (o : Ordinary z s d) (l : d < z.domains) (n : ℕ) (fits : f + n ≤ z.frames) (out : (i : ℕ) → i < n → outside s (f + i) ≡ true) where
    most_holes : hole_count s ≤ 8
    most_holes = h.laid_out.holes_fit_lem.at_most

    -- They are mapped as far as places are left.
    maps_on : (i : ℕ) → i ≤ first_mapped z s f n → i ≤ places z s d → (r : List ℕ) × MapsOn i r
    maps_on zero _ _ = (s, maps_none h o)
    maps_on (suc i) a b =
        let w = maps_on i (omega arith) (omega arith) in
        let below : f + i < z.frames = omega (arith, first_most (is_mapped z s f) 0 n) in
        let outside_i = still_outside l i w.0 w.1 below most_holes (out i (omega (arith, first_most (is_mapped z s f) 0 n))) in
        ((placing z w.0 d (f + i)).words, maps_next l i w.0 w.1 below outside_i b (before-first n i a))

    -- A run with too few places: 13.
    run_nothing : (first_mapped z s f n ≤ places z s d → ⊥) → refuse 13 s ≡ map_run_call z s d f n
    unfolding map_run_call whole_run
    run_nothing few =
        let i = places z s d in
        let most = first_most (is_mapped z s f) 0 n in
        let less : i < first_mapped z s f n = lt_of_not-le few in
        let w = maps_on i (omega arith) (omega arith) in
        let outside_i = still_outside l i w.0 w.1 (omega arith) most_holes (out i (omega arith)) in
        let stop = maps_nothing l i w.0 w.1 (omega arith) outside_i refl (before-first n i less) in
        let all : suc i + (n - suc i) ≡ n = omega arith in
        ap (whole_run s n) (sym (stays (λ x. map_call z x d) s f 13 (suc i) (n - suc i) stop) ∙ ap (run_of (λ x. map_call z x d) s f) all)

    -- A run with a frame that is mapped: 12.
    run_taken : first_mapped z s f n ≤ places z s d → first_mapped z s f n < n → refuse 12 s ≡ map_run_call z s d f n
    unfolding map_run_call whole_run
    run_taken enough less =
        let i = first_mapped z s f n in
        let w = maps_on i (omega arith) enough in
        let some = ltb-true 0 (get z s (leaf (f + i))) (first_holds (is_mapped z s f) 0 n (omega arith)) in
        let stop = maps_taken l i w.0 w.1 (omega arith) (λ none. omega arith) in
        let all : suc i + (n - suc i) ≡ n = omega arith in
        ap (whole_run s n) (sym (stays (λ x. map_call z x d) s f 12 (suc i) (n - suc i) stop) ∙ ap (run_of (λ x. map_call z x d) s f) all)

  -- The same, with the answers at hand: the first frame that is mapped, if there is one, and whether there are places for the frames before it.
  module _ (n : ℕ) (r : Option ℕ) (a : ℕ) (found : r ≡ find_from (is_mapped z s f) 0 n) (upto : a ≡ unwrap_or r n) where
    first : a ≡ first_mapped z s f n
    first = upto ∙ found_or_end (is_mapped z s f) 0 n n (omega arith) r found

    found_below : is_some r ≡ ltb (first_mapped z s f n) (0 + n)
    found_below = found_some (is_mapped z s f) 0 n r found

    pub asked_few : n ≤ longest_run → a ≤ longest_run
    asked_few = first_few n a first

    module _ (b : Bool) (asked : b ≡ leb a (places z s d)) where
      enough : not b ≡ false → first_mapped z s f n ≤ places z s d
      enough e = omega (arith, first, leb-true a (places z s d) (sym asked ∙ not-false b e))

      pub may_map : not b ≡ false → is_some r ≡ false → (first_mapped z s f n ≡ n) × (n ≤ places z s d)
      may_map e none =
          let all = ltb-false (first_mapped z s f n) (0 + n) (sym found_below ∙ none) in
          (omega (arith, first_most (is_mapped z s f) 0 n), omega (arith, enough e))

      module _ (h : Sound z s) (o : Ordinary z s d) (l : d < z.domains) (fits : f + n ≤ z.frames) (out : (i : ℕ) → i < n → outside s (f + i) ≡ true) where
        pub refuse_nothing : not b ≡ true → refuse 13 s ≡ map_run_call z s d f n
        refuse_nothing e =
            run_nothing h o l n fits out (λ some. omega (arith, first, leb-false a (places z s d) (sym asked ∙ not-true b e)))

        pub refuse_taken : not b ≡ false → is_some r ≡ true → refuse 12 s ≡ map_run_call z s d f n
        refuse_taken e some =
            let less = ltb-true (first_mapped z s f n) (0 + n) (sym found_below ∙ some) in
            run_taken h o l n fits out (enough e) (omega arith)

  -- A run whose single calls are all done.
  pub run_mapped : (n : ℕ) (r : List ℕ) → run_of (λ w. map_call z w d) s f n ≡ going r → outcome (Finished n) r ≡ map_run_call z s d f n
  unfolding map_run_call whole_run
  run_mapped n r e = ap (whole_run s n) (sym e)

-- ---- One page released
-- Words r after words s: owners, and leaf IDs of frames other than f, are as before.
record Apart (z : Sizes) (s r : List ℕ) (f : ℕ) : Type 0 where
  same_owner : (t : ℕ) → t < z.treelings → get z r (owner t) ≡ get z s (owner t)
  same_leaf : (g : ℕ) → g < z.frames → (g ≡ f → ⊥) → get z r (leaf g) ≡ get z s (leaf g)

module _ (z : Sizes) (s : List ℕ) (h : Sound z s) (d : ℕ) (l : d < z.domains) (f : ℕ) (k : f < z.frames) (m : MappedBy z s d f) where
  releasing_apart : Apart z s (releasing z s d f) f
  releasing_apart =
      released_as z s d f h l (mapped_ordinary z s d f h k m) k m (λ r. Apart z s r f) λ e b q.
      record { same_owner = λ t below. tree_left z s h d l f k e b q t 0 below (omega arith); same_leaf = leaf_left z s h d l f k e b q }

  -- The single call, as a run goes on from it.
  step_released : run_step (λ w. unmap_call z w d) f (going s) ≡ going (releasing z s d f)
  unfolding run_step go_on
  step_released =
      unmap_cases z s d f (λ o. go_on o o.answer ≡ going (releasing z s d f))
      (λ not. absurd (false≢true (sym not ∙ by_mapped z s d f m)))
      (λ _. refl)

step_other : (z : Sizes) (s : List ℕ) (d f : ℕ) → is_mapped_by z s d f ≡ false → run_step (λ w. unmap_call z w d) f (going s) ≡ stopped 14
unfolding run_step go_on
step_other z s d f not =
    unmap_cases z s d f (λ o. go_on o o.answer ≡ stopped 14)
    (λ _. refl)
    (λ m. absurd (false≢true (sym not ∙ by_mapped z s d f m)))

module _ (z : Sizes) (s : List ℕ) (d f : ℕ) where
  -- The words r after the pages of the first i frames of a run are released: the frames to come are mapped by whom they were.
  pub record ReleasesOn (i : ℕ) (r : List ℕ) : Type 0 where
    pub sound : Sound z r
    pub run_is : run_of (λ w. unmap_call z w d) s f i ≡ going r
    pub same_owner : (t : ℕ) → t < z.treelings → get z r (owner t) ≡ get z s (owner t)
    pub same_leaf : (g : ℕ) → f + i ≤ g → g < z.frames → get z r (leaf g) ≡ get z s (leaf g)

  -- After all of n frames.
  pub releases_all : (n i : ℕ) (r : List ℕ) → ReleasesOn i r → i ≤ n → n ≤ i → (run_of (λ w. unmap_call z w d) s f n ≡ going r) × Sound z r
  releases_all n i r w low high =
      let is : n ≡ i = omega arith in
      (ap (run_of (λ x. unmap_call z x d) s f) is ∙ w.run_is, w.sound)

  pub releases_none : Sound z s → ReleasesOn 0 s
  unfolding run_of
  releases_none h = record { sound = h; run_is = refl; same_owner = λ t _. refl; same_leaf = λ g _ _. refl }

  module _ (h : Sound z s) (l : d < z.domains) where
    module _ (i : ℕ) (r : List ℕ) (w : ReleasesOn i r) (m : f + i < z.frames) where
      -- The next frame's leaf ID, and the owner of its TreeLing, are as before.
      same_mine : is_mapped_by z r d (f + i) ≡ mine z s d f i
      same_mine =
          let x = get z s (leaf (f + i)) in
          ap (λ (y : ℕ). ltb 0 y && eqb (get z r (owner (treeling_of y))) (suc d)) (w.same_leaf (f + i) (omega arith) m)
          ∙ ap (λ (o : ℕ). ltb 0 x && eqb o (suc d)) (w.same_owner (treeling_of x) (treeling_below z.treelings x h.laid_out.laid.sizes.some_treelings (h.leaf_range (f + i) m)))

      pub still_mine : mine z s d f i ≡ true → is_mapped_by z r d (f + i) ≡ true
      still_mine is = same_mine ∙ is

      -- It is released next,
      releases_next : mine z s d f i ≡ true → ReleasesOn (suc i) (releasing z r d (f + i))
      unfolding run_of
      releases_next is =
          let page = mapped_by z r d (f + i) (still_mine is) in
          let b = releasing_apart z r w.sound d l (f + i) m page in
          record {
            sound = released_sound z r d (f + i) w.sound l (mapped_ordinary z r d (f + i) w.sound m page) m page;
            run_is = ap (run_step (λ x. unmap_call z x d) (f + i)) w.run_is ∙ step_released z r w.sound d l (f + i) m page;
            same_owner = λ t below. b.same_owner t below ∙ w.same_owner t below;
            same_leaf = λ g low less. b.same_leaf g less (λ e. omega arith) ∙ w.same_leaf g (omega arith) less;
          }

      pub release_turn : mine z s d f i ≡ true → (e : List ℕ) → e ≡ releasing z r d (f + i) → ReleasesOn (i + 1) e
      release_turn own e is = rw add-one (subst (ReleasesOn (suc i)) (sym is) (releases_next own))

      -- or stops the run with 14.
      releases_other : mine z s d f i ≡ false → run_of (λ x. unmap_call z x d) s f (suc i) ≡ stopped 14
      unfolding run_of
      releases_other not =
          ap (run_step (λ x. unmap_call z x d) (f + i)) w.run_is ∙ step_other z r d (f + i) (same_mine ∙ not)

    -- So the pages of frames that are all mapped by the domain are released, and a run with another stops with 14.
    releases_on : (i : ℕ) → f + i ≤ z.frames → all i (mine z s d f) ≡ true → (r : List ℕ) × ReleasesOn i r
    unfolding all
    releases_on zero _ _ = (s, releases_none h)
    releases_on (suc i) fits e =
        let b = and_both (all i (mine z s d f)) (mine z s d f i) e in
        let w = releases_on i (omega arith) b.0 in
        (releasing z w.0 d (f + i), releases_next i w.0 w.1 (omega arith) b.1)

    releases_stopped : (i : ℕ) → f + i ≤ z.frames → all i (mine z s d f) ≡ false → run_of (λ x. unmap_call z x d) s f i ≡ stopped 14
    unfolding all run_of run_step
    releases_stopped zero _ e = absurd (false≢true (sym e))
    releases_stopped (suc i) fits e = on (releases_stopped i (omega arith)) (all i (mine z s d f)) refl (mine z s d f i) refl
      where
        on : (all i (mine z s d f) ≡ false → run_of (λ x. unmap_call z x d) s f i ≡ stopped 14) → (a : Bool) → all i (mine z s d f) ≡ a → (b : Bool) → mine z s d f i ≡ b → run_of (λ x. unmap_call z x d) s f (suc i) ≡ stopped 14
        on before false is b _ = ap (run_step (λ x. unmap_call z x d) (f + i)) (before is)
        on before true is false not = let w = releases_on i (omega arith) is in releases_other i w.0 w.1 (omega arith) not
        on before true is true too = absurd (false≢true (sym e ∙ and_of is too))

  -- The answer whether all of n frames are mapped by the domain: no, so 14; or yes.
  module _ (n : ℕ) (b : Bool) (asked : b ≡ all n (mine z s d f)) where
    pub refuse_other : Sound z s → d < z.domains → f + n ≤ z.frames → not b ≡ true → refuse 14 s ≡ unmap_run_call z s d f n
    unfolding unmap_run_call whole_run
    refuse_other h l fits e = ap (whole_run s n) (sym (releases_stopped h l n fits (sym asked ∙ not-true b e)))

    pub may_release : not b ≡ false → all n (mine z s d f) ≡ true
    may_release e = sym asked ∙ not-false b e

  -- A run whose single calls are all done.
  pub run_released : (n : ℕ) (r : List ℕ) → run_of (λ w. unmap_call z w d) s f n ≡ going r → outcome (Finished n) r ≡ unmap_run_call z s d f n
  unfolding unmap_run_call whole_run
  run_released n r e = ap (whole_run s n) (sym e)
