-- The TreeLing that a map takes is the nearest from the hand of those that it seeks, and taking alone moves the hand.
-- Assumes nothing.
use Prim.Native.Nat.{ℕ, suc, ◌+◌, ◌-◌, ◌%◌, ◌<◌, ◌≤◌, zero-le}
use mathlib.Core.Path.{◌≡◌, refl, sym, ap, ◌∙◌}
use mathlib.Core.List.{List}
use mathlib.Core.Bool.{Bool, true, false, cond, false≢true}
use mathlib.Core.Logic.{◌⊎◌, inl, inr, ⊎_elim}
use native.Mathlib.Nat.{mod-lt, mod-eq_of_lt, add-mod_right}
use native.Mathlib.Omega.{arith}
use borrow.Author.Tests.{eq-eqb, eqb-true, ltb-true, ltb-false}
use lib.Dec.{eqb, ltb}
use lib.Seq.{get_or-set_other}
use Rattle.layout.specs.declared.Sizes.{Sizes}
use Rattle.layout.specs.Places.{address, get, hand, live, owner, former}
use Rattle.layout.proofs.BoundedLaws.{and_both, and_of}
use Rattle.geometry.proofs.FirstLaws.{first-before, first_holds}
use Rattle.sound.specs.Sound.{Sound}
use Rattle.taking.specs.Taking.{pooled, pool_steps, unowned, was_held, former_steps, to_take}
use Rattle.placing.specs.Placing.{placing}
use Rattle.placing.proofs.FormerLaws.{placing_takes}
use Rattle.placing.proofs.NoPlace.{sought_found}
use Rattle.placing.proofs.PlacingSound.{placing_cases, own_given, took, taken_given}
use Rattle.pages.specs.Answers.{Outcome, Passed}
use Rattle.pages.specs.Unmapping.{unmap_call}
use Rattle.pages.proofs.CallLaws.{map_cases, unmap_cases, path_cases}
use Rattle.runs.specs.Runs.{run_of, unmap_run_call}
use Rattle.runs.proofs.RunLaws.{run_held, whole_run_lem}
use Rattle.runs.proofs.RunSound.{Unmapped, none_released, unmap_step}
use Rattle.domains.specs.Opening.{open_call}
use Rattle.domains.specs.Closing.{close_call}
use Rattle.domains.specs.Trimming.{trim_call}
use Rattle.domains.specs.Filling.{fill_call}
use Rattle.domains.proofs.ClosingLaws.{closed}
use Rattle.releasing.specs.Releasing.{releasing}
use Rattle.releasing.proofs.RefillLaws.{content_left}
use Rattle.releasing.proofs.ReleasedSound.{released_as}
use Rattle.returning.proofs.TrimLaws.{trimming_content}
use Rattle.sound.proofs.MappedLaws.{MappedBy, mapped_ordinary}
use Rattle.calls.proofs.TableLaws.{Asked, Each, line_found}
use Rattle.calls.specs.Table.{Call, calls, line_of, call_of}
use Rattle.questions.specs.Questions.{answering}
use Rattle.questions.proofs.AnsweringCases.{answering_as, answering_cases}
use Rattle.histories.specs.Told.{from_hand, MapTakesNearest, MapMovesHand, HandStays}

-- ---- Steps from the hand
module _ (z : Sizes) (s : List ℕ) (h : Sound z s) where
  -- Upward, or around.
  stepped : (i : ℕ) → i < z.treelings → ((get z s hand + i < z.treelings) × (from_hand z s i ≡ get z s hand + i)) ⊎ ((z.treelings ≤ get z s hand + i) × (from_hand z s i + z.treelings ≡ get z s hand + i))
  stepped i l = by_side (ltb (get z s hand + i) z.treelings) refl
    where
      by_side : (b : Bool) → ltb (get z s hand + i) z.treelings ≡ b → ((get z s hand + i < z.treelings) × (from_hand z s i ≡ get z s hand + i)) ⊎ ((z.treelings ≤ get z s hand + i) × (from_hand z s i + z.treelings ≡ get z s hand + i))
      by_side true e =
          let low = ltb-true (get z s hand + i) z.treelings e in
          inl (low, mod-eq_of_lt low)
      by_side false e =
          let high = ltb-false (get z s hand + i) z.treelings e in
          let most = h.laid_out.hand_range in
          let t = get z s hand + i - z.treelings in
          let below : t < z.treelings = omega arith in
          let at : get z s hand + i ≡ t + z.treelings = omega arith in
          let is : from_hand z s i ≡ t = ap (λ (x : ℕ). x % z.treelings) at ∙ add-mod_right t z.treelings ∙ mod-eq_of_lt below in
          inr (high, omega arith)

  -- Each TreeLing is met once.
  met_once : (i j : ℕ) → i < z.treelings → j < z.treelings → from_hand z s i ≡ from_hand z s j → i ≡ j
  met_once i j l m same =
      ⊎_elim
      (λ a. ⊎_elim (λ b. omega arith) (λ b. absurd (omega arith)) (stepped j m))
      (λ a. ⊎_elim (λ b. absurd (omega arith)) (λ b. omega arith) (stepped j m)) (stepped i l)

-- ---- The nearest
at_most : (i j : ℕ) → (j < i → ⊥) → i ≤ j
at_most i j not = by_side (ltb j i) refl
  where
    by_side : (b : Bool) → ltb j i ≡ b → i ≤ j
    by_side true e = absurd (not (ltb-true j i e))
    by_side false e = ltb-false j i e

module _ (z : Sizes) (s : List ℕ) (d i j : ℕ) (h : Sound z s) (li : i < z.treelings) (lj : j < z.treelings) (i_none : get z s (owner (from_hand z s i)) ≡ 0) (j_none : get z s (owner (from_hand z s j)) ≡ 0) where
  abbrev is_unowned : ℕ → Bool
  is_unowned k = eqb (get z s (owner (pooled z s k))) 0

  abbrev held : ℕ → Bool
  held k = was_held z s d (pooled z s k)

  -- One that is unowned is not before the first of these.
  pool-first : (k : ℕ) → get z s (owner (from_hand z s k)) ≡ 0 → pool_steps z s ≤ k
  pool-first k none =
      at_most (pool_steps z s) k (λ less. false≢true (sym (first-before is_unowned 0 z.treelings k zero-le less) ∙ eq-eqb (get z s (owner (from_hand z s k))) 0 none))

  nearest : from_hand z s i ≡ to_take z s d → (get z s (former (from_hand z s j)) ≡ suc d) ⊎ (get z s (former (from_hand z s i)) ≡ suc d → ⊥) → i ≤ j
  nearest is which = by_former (ltb (former_steps z s d) z.treelings) refl is
    where
      by_former : (b : Bool) → ltb (former_steps z s d) z.treelings ≡ b → from_hand z s i ≡ cond b (pooled z s (former_steps z s d)) (unowned z s) → i ≤ j
      by_former true e taken =
          let low = ltb-true (former_steps z s d) z.treelings e in
          let same : i ≡ former_steps z s d = met_once z s h i (former_steps z s d) li low taken in
          let t = pooled z s (former_steps z s d) in
          let mine = eqb-true (get z s (former t)) (suc d) (and_both (eqb (get z s (owner t)) 0) _ (first_holds held 0 z.treelings (omega arith))).1 in
          ⊎_elim
          (λ last.
          at_most i j (λ less.
          false≢true
          (sym (first-before held 0 z.treelings j zero-le (omega arith))
          ∙ and_of (eq-eqb (get z s (owner (from_hand z s j))) 0 j_none) (eq-eqb (get z s (former (from_hand z s j))) (suc d) last))))
          (λ not. absurd (not (ap (λ (k : ℕ). get z s (former (from_hand z s k))) same ∙ mine)))
          which
      by_former false e taken =
          let same : i ≡ pool_steps z s = met_once z s h i (pool_steps z s) li (omega (arith, pool-first i i_none)) taken in
          omega (arith, pool-first j j_none)

pub map_takes_nearest : MapTakesNearest answering
unfolding line_of calls
map_takes_nearest z s d f i j h li lj i_none took j_none which =
    answering_as z s d f 0 Takes (λ _. not_taken) 3 3 refl (λ a.
    map_cases z s d f Takes (λ _. not_taken) (λ _ _. not_taken) (λ id _ at own.
    nearest z s d i j h li lj i_none j_none (placing_takes z s d f h a.below a.legal (from_hand z s i) (mod-lt (get z s hand + i) (omega arith)) i_none own) which))
    took
  where
    Takes : Outcome → Type 0
    Takes o = get z o.words (owner (from_hand z s i)) ≡ suc d → i ≤ j

    not_taken : get z s (owner (from_hand z s i)) ≡ suc d → i ≤ j
    not_taken own = absurd (omega arith)

-- ---- The hand
-- Placing takes one, and the hand is after it; or it takes none, and the hand stays.
record Took (z : Sizes) (s r : List ℕ) (d : ℕ) : Type 0 where
  below : to_take z s d < z.treelings
  was : get z s (owner (to_take z s d)) ≡ 0
  is : get z r (owner (to_take z s d)) ≡ suc d
  after : get z r hand ≡ suc (to_take z s d) % z.treelings

record TookNone (z : Sizes) (s r : List ℕ) : Type 0 where
  owners : (t : ℕ) → t < z.treelings → get z r (owner t) ≡ get z s (owner t)
  stays : get z r hand ≡ get z s hand

module _ (z : Sizes) (s : List ℕ) (d f : ℕ) (h : Sound z s) (l : d < z.domains) (m : f < z.frames) where
  took_or_none : Took z s (placing z s d f).words d ⊎ TookNone z s (placing z s d f).words
  took_or_none =
      placing_cases z s d f (λ r. Took z s r d ⊎ TookNone z s r)
      (λ own.
      let g = own_given z s d f h l m own in
      inr (record { owners = λ t k. g.same_treeling t 0 k (omega arith); stays = g.same_content 3 (omega arith) }))
      (λ _ some.
      let w = took z s d f h l m some in
      let g = taken_given z s d f h l m some in
      let u = sought_found z s d h l d some in
      inl
      (record {
        below = u.0;
        was = u.1;
        is = g.same_treeling (to_take z s d) 0 u.0 (omega arith) ∙ w.owner_is;
        after = g.same_content 3 (omega arith) ∙ w.hand_is;
      }))
      (inr (record { owners = λ t k. refl; stays = refl }))

pub map_moves_hand : MapMovesHand answering
unfolding line_of calls
map_moves_hand z s d f h =
    answering_as z s d f 0 (λ o. Moves o.words) (λ _. same) 3 3 refl (λ a.
    map_cases z s d f (λ o. Moves o.words) (λ _. same) (λ _ _. same) (λ id _ at. (
      λ t l none own.
          ⊎_elim
          (λ w. w.after ∙ ap (λ (k : ℕ). suc k % z.treelings) (sym (placing_takes z s d f h a.below a.legal t l none own)))
          (λ w. absurd (omega (arith, w.owners t l)))
          (took_or_none z s d f h a.below a.legal),
      λ owners.
          ⊎_elim (λ w. absurd (omega (arith, owners (to_take z s d) w.below, w.was, w.is))) (λ w. w.stays) (took_or_none z s d f h a.below a.legal),
    )))
  where
    Moves : List ℕ → Type 0
    Moves r =
        ((t : ℕ) → t < z.treelings → get z s (owner t) ≡ 0 → get z r (owner t) ≡ suc d → get z r hand ≡ suc t % z.treelings)
        × (((t : ℕ) → t < z.treelings → get z r (owner t) ≡ get z s (owner t)) → get z r hand ≡ get z s hand)

    same : Moves s
    same = (λ t l none is. absurd (omega arith), λ _. refl)

-- Every other call leaves the hand: a line for each call.
abbrev Stays : ℕ → Call → Type 0
Stays c k =
    (c ≡ 3 → ⊥) → (c ≡ 6 → ⊥) → (z : Sizes) (s : List ℕ) (d f n : ℕ) → Sound z s → Asked z s k d f n → get z (k.does z s d f n).words hand ≡ get z s hand

open_stays : Stays 1 (call_of 1)
unfolding line_of calls open_call
open_stays _ _ z s d f n h a = get_or-set_other s (address z (live d)) (address z hand) 1 0 (omega arith)

close_stays : Stays 2 (call_of 2)
unfolding line_of calls close_call
close_stays _ _ z s d f n h a = (closed z s h d a.below).same_content 3 (omega arith)

-- Releasing a page leaves it.
released_hand : (z : Sizes) (s : List ℕ) (d f : ℕ) → Sound z s → d < z.domains → f < z.frames → MappedBy z s d f → get z (releasing z s d f) hand ≡ get z s hand
released_hand z s d f h l k m =
    released_as z s d f h l (mapped_ordinary z s d f h k m) k m (λ r. get z r hand ≡ get z s hand) (λ e re q. content_left z s h d l f k e re q 3 (omega arith))

unmap_stays : Stays 4 (call_of 4)
unfolding line_of calls
unmap_stays _ _ z s d f n h a =
    unmap_cases z s d f (λ o. get z o.words hand ≡ get z s hand) (λ _. refl)
    (λ m. released_hand z s d f h a.below a.legal m)

path_stays : Stays 5 (call_of 5)
unfolding line_of calls
path_stays _ _ z s d f n h a = path_cases z s d f (λ o. get z o.words hand ≡ get z s hand) (λ _. refl) (λ _. refl)

unmap_run_stays : Stays 7 (call_of 7)
unfolding line_of calls unmap_run_call
unmap_run_stays _ _ z s d f n h a =
    let l = a.below in
    let m = a.legal.1 in
    whole_run_lem (Still z s d f n h l m) (λ o. get z o.words hand ≡ get z s hand) s n (run_of (λ r. unmap_call z r d) s f n)
    (run_held (λ r. unmap_call z r d) s f (Still z s d f n h l m) n (none_released z s d f n h l m, refl) (step z s d f n h l m)) (λ _. refl) (λ r w. w.1)
  where
    Still : (z : Sizes) (s : List ℕ) (d f n : ℕ) → Sound z s → d < z.domains → f + n ≤ z.frames → ℕ → List ℕ → Type 0
    Still z s d f n h l m i r = Unmapped z s d f n h l m i r × (get z r hand ≡ get z s hand)

    step : (z : Sizes) (s : List ℕ) (d f n : ℕ) (h : Sound z s) (l : d < z.domains) (m : f + n ≤ z.frames) (i : ℕ) (r : List ℕ) → i < n → Still z s d f n h l m i r → Passed (unmap_call z r d (f + i)) → Still z s d f n h l m (suc i) (unmap_call z r d (f + i)).words
    step z s d f n h l m i r k w passed = (
      unmap_step z s d f n h l m i r k w.0 passed,
      unmap_cases z r d (f + i) (λ o. get z o.words hand ≡ get z s hand) (λ _. w.1)
          (λ o. released_hand z r d (f + i) w.0.0 l (omega arith) o ∙ w.1),
    )

trim_stays : Stays 8 (call_of 8)
unfolding line_of calls trim_call
trim_stays _ _ z s d f n h a = trimming_content z s h d a.below 3 (omega arith)

fill_stays : Stays 11 (call_of 11)
unfolding line_of calls fill_call
fill_stays _ _ z s d f n h a = refl

all_stay : Each (λ k. Stays k.number k) calls
unfolding calls line_of
all_stay = (open_stays, (close_stays, ((λ not. absurd (not refl)), (unmap_stays, (path_stays, ((λ _ not. absurd (not refl)), (unmap_run_stays, (trim_stays, (fill_stays, tt)))))))))

pub hand-stays : HandStays answering
hand-stays z s c d f n h not_map not_run =
    answering_cases z s d f n (λ o. get z o.words hand ≡ get z s hand) (λ _. refl) c
    (line_found Stays c (λ _ _ _ _ _ _ _ _ _. refl) calls all_stay not_map not_run z s d f n h)
