-- No place is found precisely where every slot of the domain's TreeLings is in use and every TreeLing is owned; then nothing is written.
-- Assumes nothing.
use Prim.Native.Nat.{ℕ, suc, ◌+◌, ◌-◌, ◌*◌, ◌/◌, ◌%◌, ◌<◌, ◌≤◌}
use mathlib.Core.Path.{◌≡◌, refl, sym, ap, ap₂, ◌∙◌}
use mathlib.Core.List.{List}
use mathlib.Core.Bool.{Bool, true, false, cond, false≢true, ◌&&◌}
use mathlib.Core.Logic.{◌↔◌}
use native.Mathlib.Nat.{mod-lt, mod-eq_of_lt, add-mod_right}
use native.Mathlib.Omega.{arith}
use borrow.Author.Tests.{eqb-true, eqb-false, eq-eqb, leb-true, leb-false, ltb-true, ltb-false}
use lib.Dec.{eqb, leb, ltb}
use Rattle.layout.specs.declared.Sizes.{Sizes}
use Rattle.geometry.specs.Tables.{bit, lowest_free}
use Rattle.geometry.specs.Entries.{tag_of, availability_of}
use Rattle.layout.specs.Outcomes.{OutcomeOf, outcome}
use Rattle.layout.specs.Places.{Place, get, hand, entry, owner, head_treeling, rank}
use Rattle.geometry.proofs.FirstLaws.{first_holds, first-before}
use Rattle.sound.specs.Sentences.{is_ordinary, marks_free, times_free, times_named, of_rank}
use Rattle.sound.specs.Sound.{Sound, Ordinary}
use Rattle.layout.proofs.BoundedLaws.{and_both, and_of, is_false, count_no}
use Rattle.sound.proofs.TestLaws.{ordinary_test, an_ordinary}
use Rattle.std.specs.Prelude.{Option, None}
use Rattle.leaf_map.specs.declared.LeafId.{LeafId}
use Rattle.world.specs.World.{world, owned}
use Rattle.taking.specs.Taking.{pooled, pool_steps, has_unowned, unowned, was_held, former_steps, to_take}
use Rattle.placing.specs.Placing.{place_entry, placing}
use Rattle.world.specs.Full.{AllInUse, AllOwned}
use Rattle.world.proofs.WorldLaws.{of_rank_lem, rank_below_owned, head_some, entry_back}
use Rattle.world.proofs.ClearLaws.{lowest_below, lowest_bit}
use Rattle.taking.proofs.TakenSlots.{spent_marks, entry_through}
use Rattle.world.proofs.ChangeLaws.{count_zero}
use Rattle.placing.proofs.DecisionLaws.{placing_by}

module _ (z : Sizes) (s : List ℕ) (d : ℕ) (h : Sound z s) (hd : d < z.domains) (ordinary : Ordinary z s d) where
  -- ---- The domain's own entries
  -- One that the search passes has no free position.
  pub passed_spent : (v k : ℕ) → v < z.treelings → k < 512 → get z s (owner v) ≡ suc d → 512 * get z s (rank v) + k < place_entry (world z s d) → availability_of (get z s (entry v k)) ≡ 0
  passed_spent v k lv lk o before = by_side (leb (8 * (world z s d).nfl.head) j) refl
    where
      j : ℕ
      j = 512 * get z s (rank v) + k

      by_side : (b : Bool) → leb (8 * (world z s d).nfl.head) j ≡ b → availability_of (get z s (entry v k)) ≡ 0
      by_side true e =
          let head = (world z s d).nfl.head in
          let low = leb-true (8 * head) j e in
          let none : ltb 0 ((world z s d).nfl.free j) ≡ false =
          first-before (λ i. ltb 0 ((world z s d).nfl.free i)) (8 * head) (512 * owned z s d - 8 * head) j low before in
          omega (
            arith,
            ltb-false 0 ((world z s d).nfl.free j) none,
            ap (λ (q : Place). availability_of (get z s q)) (entry_back z s h d hd v k lv o lk),
          )
      by_side false e =
          let w = head_some z s h d hd ordinary (omega (arith, rank_below_owned z s h d hd v lv o)) in
          let named : get z s (head_treeling d) - 1 ≡ w.0 = omega (arith, w.1) in
          let high = leb-false (8 * (world z s d).nfl.head) j e in
          h.before_head_lem d v k lv lk o ordinary (omega (arith, w.3, ap (λ (u : ℕ). get z s (rank u)) named))

  -- Where it passes all, none has.
  pub no_free : 512 * owned z s d ≤ place_entry (world z s d) → (v k : ℕ) → v < z.treelings → k < 512 → get z s (owner v) ≡ suc d → availability_of (get z s (entry v k)) ≡ 0
  no_free past v k lv lk o = passed_spent v k lv lk o (omega (arith, rank_below_owned z s h d hd v lv o, past))

  -- A slot of d's is free or in use, once.
  pub once : (y : ℕ) → y < 4096 * z.treelings → get z s (owner (y / 4096)) ≡ suc d → times_free z s y + times_named z s y ≡ 1
  once y l o = h.slot_once y l ∙ ap (λ (b : Bool). cond b 1 0) (ordinary_test z s (y / 4096) d o ordinary)

  -- An entry of d with a free position: a slot of d's is free, and so not in use.
  some_free : (v k : ℕ) → v < z.treelings → k < 512 → get z s (owner v) ≡ suc d → 0 < availability_of (get z s (entry v k)) → AllInUse z s d → ⊥
  unfolding times_free
  some_free v k lv lk o some full =
      let w = get z s (entry v k) in
      let i = lowest_free (availability_of w) in
      let low = lowest_below (availability_of w) some (omega arith) in
      let y = 8 * tag_of w + i in
      let below : y < 4096 * z.treelings = omega (arith, h.tag_range d v k lv lk o ordinary) in
      let node : tag_of w / 512 ≡ y / 4096 = omega arith in
      let here : (512 * v + k) / 512 ≡ v = omega arith in
      let place : i ≡ y % 8 = omega arith in
      let own : get z s (owner (y / 4096)) ≡ suc d = ap (λ (u : ℕ). get z s (owner u)) (sym node) ∙ h.tag_own d v k lv lk o ordinary in
      let marked : marks_free z s y w ≡ true =
      and_of
      (eq-eqb (tag_of w) (y / 8) (omega arith))
      (eq-eqb (bit (y % 8) (availability_of w)) 1 (ap (λ (n : ℕ). bit n (availability_of w)) (sym place) ∙ lowest_bit (availability_of w) some (omega arith))) in
      let free : times_free z s y ≡ 0 = omega (arith, once y below own, full.in_use y below own) in
      false≢true
      (sym (count_zero (512 * z.treelings) (λ j. is_ordinary z s (j / 512) && marks_free z s y (get z s (entry 0 j))) free (512 * v + k) (omega arith))
      ∙ ap₂ ◌&&◌ (ap (is_ordinary z s) here ∙ ordinary_test z s v d o ordinary) (ap (marks_free z s y) (sym (entry_through z s v k (512 * v + k) refl)) ∙ marked))

  -- So where every slot is in use the search passes all.
  all_passed : AllInUse z s d → 512 * owned z s d ≤ place_entry (world z s d)
  all_passed full = by_test (ltb (place_entry (world z s d)) (512 * owned z s d)) refl
    where
      by_test : (b : Bool) → ltb (place_entry (world z s d)) (512 * owned z s d) ≡ b → 512 * owned z s d ≤ place_entry (world z s d)
      by_test true e =
          let j = place_entry (world z s d) in
          let head = (world z s d).nfl.head in
          let below : j < 512 * owned z s d = ltb-true j (512 * owned z s d) e in
          let a = of_rank_lem z s h d hd (j / 512) (omega arith) in
          let found = first_holds (λ i. ltb 0 ((world z s d).nfl.free i)) (8 * head) (512 * owned z s d - 8 * head) (omega arith) in
          absurd (some_free (of_rank z s d (j / 512)) (j % 512) a.below (omega arith) a.owner_is (ltb-true 0 ((world z s d).nfl.free j) found) full)
      by_test false e = ltb-false (place_entry (world z s d)) (512 * owned z s d) e

  -- And where it does every slot is in use.
  passed_all : 512 * owned z s d ≤ place_entry (world z s d) → AllInUse z s d
  unfolding times_free
  passed_all past = record { in_use = λ y l o. omega (arith, once y l o, count_no (512 * z.treelings) (λ j. is_ordinary z s (j / 512) && marks_free z s y (get z s (entry 0 j))) (not_marked y o)) }
    where
      -- An entry of an ordinary domain that marks a slot of d's is d's.
      not_marked : (y : ℕ) → get z s (owner (y / 4096)) ≡ suc d → (j : ℕ) → j < 512 * z.treelings → (is_ordinary z s (j / 512) && marks_free z s y (get z s (entry 0 j))) ≡ false
      not_marked y o j l =
          let w = get z s (entry 0 j) in
          is_false (is_ordinary z s (j / 512) && marks_free z s y w) λ e.
          let kind = and_both (is_ordinary z s (j / 512)) (marks_free z s y w) e in
          let c = an_ordinary z s (j / 512) kind.0 in
          let both = and_both (eqb (tag_of w) (y / 8)) (eqb (bit (y % 8) (availability_of w)) 1) kind.1 in
          let node = eqb-true (tag_of w) (y / 8) both.0 in
          let through = entry_through z s (j / 512) (j % 512) j (omega arith) in
          let tag : tag_of (get z s (entry (j / 512) (j % 512))) / 512 ≡ y / 4096 = omega arith in
          let own : suc c.0 ≡ suc d = sym (h.tag_own c.0 (j / 512) (j % 512) (omega arith) (omega arith) c.1 c.2) ∙ ap (λ (u : ℕ). get z s (owner u)) tag ∙ o in
          let spent : availability_of w ≡ 0 = ap availability_of (sym through) ∙ no_free past (j / 512) (j % 512) (omega arith) (omega arith) (c.1 ∙ own) in
          false≢true (sym (spent_marks z s y w spent) ∙ kind.1)

module _ (z : Sizes) (s : List ℕ) (d : ℕ) (h : Sound z s) (hd : d < z.domains) where
  -- ---- The pool
  -- Going upward and around from the hand each TreeLing is met.
  pub met : (t : ℕ) → t < z.treelings → (i : ℕ) × (i < z.treelings) × (pooled z s i ≡ t)
  met t l = by_side (leb (get z s hand) t) refl
    where
      by_side : (b : Bool) → leb (get z s hand) t ≡ b → (i : ℕ) × (i < z.treelings) × (pooled z s i ≡ t)
      by_side true e =
          let low = leb-true (get z s hand) t e in
          (t - get z s hand, omega arith, ap (λ (x : ℕ). x % z.treelings) (omega arith) ∙ mod-eq_of_lt l)
      by_side false e =
          let high = leb-false (get z s hand) t e in
          let most = h.laid_out.hand_range in
          (t + z.treelings - get z s hand, omega arith, ap (λ (x : ℕ). x % z.treelings) (omega arith) ∙ add-mod_right t z.treelings ∙ mod-eq_of_lt l)

  -- One that is found is unowned.
  pub pool_found : has_unowned z s ≡ true → (unowned z s < z.treelings) × (get z s (owner (unowned z s)) ≡ 0)
  pool_found e =
      let low = ltb-true (pool_steps z s) z.treelings e in
      let none = first_holds (λ i. eqb (get z s (owner (pooled z s i))) 0) 0 z.treelings (omega arith) in
      (mod-lt (get z s hand + pool_steps z s) (omega arith), eqb-true (get z s (owner (unowned z s))) 0 none)

  -- And so is the one that domain e takes: a former TreeLing is still one of the unowned.
  pub sought_found : (e : ℕ) → has_unowned z s ≡ true → (to_take z s e < z.treelings) × (get z s (owner (to_take z s e)) ≡ 0)
  sought_found e some = by_former (ltb (former_steps z s e) z.treelings) refl
    where
      by_former : (b : Bool) → ltb (former_steps z s e) z.treelings ≡ b → let t = cond b (pooled z s (former_steps z s e)) (unowned z s) in (t < z.treelings) × (get z s (owner t) ≡ 0)
      by_former true low =
          let below = ltb-true (former_steps z s e) z.treelings low in
          let t = pooled z s (former_steps z s e) in
          let held = first_holds (λ i. was_held z s e (pooled z s i)) 0 z.treelings (omega arith) in
          (mod-lt (get z s hand + former_steps z s e) (omega arith), eqb-true (get z s (owner t)) 0 (and_both (eqb (get z s (owner t)) 0) _ held).0)
      by_former false none = pool_found some

  -- So none is found precisely where every TreeLing is owned.
  empty_pool : AllOwned z s → has_unowned z s ≡ false
  empty_pool all =
      is_false (has_unowned z s) λ e.
      let w = pool_found e in
      omega (arith, w.1, all.some_owner (unowned z s) w.0)

  pub pool_empty : has_unowned z s ≡ false → AllOwned z s
  pool_empty none =
      record {
        some_owner = λ t l.
            let w = met t l in
            let past = ltb-false (pool_steps z s) z.treelings none in
            let not = first-before (λ i. eqb (get z s (owner (pooled z s i))) 0) 0 z.treelings w.0 (omega arith) (omega (arith, w.1)) in
            omega (arith, eqb-false (get z s (owner (pooled z s w.0))) 0 not, ap (λ (u : ℕ). get z s (owner u)) w.2);
      }

-- ---- The answer
module _ (z : Sizes) (s : List ℕ) (d f : ℕ) where
  -- No entry with a free position is found, and the pool is empty.
  abbrev Neither : Type 0
  Neither = (512 * owned z s d ≤ place_entry (world z s d)) × (has_unowned z s ≡ false)

  nothing_neither : (placing z s d f).answer ≡ None → Neither
  nothing_neither =
      placing_by z s d f (λ (p : OutcomeOf (Option LeafId)). p.answer ≡ None → Neither)
      (λ _ e. absurd (let no : ◌≡◌ {A = ℕ} 0 1 = cc in omega arith))
      (λ _ _ e. absurd (let no : ◌≡◌ {A = ℕ} 0 1 = cc in omega arith))
      (λ past empty _. (past, empty))

  neither_nothing : Neither → placing z s d f ≡ outcome None s
  neither_nothing e =
      placing_by z s d f (λ (p : OutcomeOf (Option LeafId)). p ≡ outcome None s)
      (λ found. absurd (omega arith))
      (λ _ some. absurd (false≢true (sym e.1 ∙ some)))
      (λ _ _. refl)

  -- "If no place is found the request ends there with 13": and nothing is written.
  pub nothing_written : (placing z s d f).answer ≡ None → (placing z s d f).words ≡ s
  nothing_written e = ap (λ (p : OutcomeOf (Option LeafId)). p.words) (neither_nothing (nothing_neither e))

  -- No place is found precisely where every slot of d's TreeLings is in use and every TreeLing is owned.
  pub no_place : Sound z s → d < z.domains → Ordinary z s d → ((placing z s d f).answer ≡ None) ↔ (AllInUse z s d × AllOwned z s)
  no_place h hd ordinary = (
    λ e.
        let n = nothing_neither e in
        (passed_all z s d h hd ordinary n.0, pool_empty z s d h hd n.1),
    λ all.
        ap (λ (p : OutcomeOf (Option LeafId)). p.answer)
        (neither_nothing (all_passed z s d h hd ordinary all.0, empty_pool z s d h hd all.1)),
  )
