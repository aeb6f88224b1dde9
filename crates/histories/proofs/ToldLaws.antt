-- What done requests tell and leave, by the state's own words.
-- Assumes nothing.
use Prim.Native.Nat.{ℕ, zero, suc, ◌+◌, ◌*◌, ◌/◌, ◌%◌, ◌<◌}
use mathlib.Core.Path.{◌≡◌, refl, sym, ap, subst}
use mathlib.Core.List.{List, [], ◌∷◌}
use mathlib.Core.Logic.{◌⊎◌, ⊎_elim}
use native.Mathlib.Omega.{arith}
use lib.ListN.{get_or}
use Rattle.layout.specs.declared.Sizes.{Sizes}
use Rattle.geometry.specs.Geometry.{path_node}
use Rattle.leaf_map.specs.LeafIds.{treeling_of, slot_of, position_of_leaf}
use Rattle.layout.specs.Places.{get, leaf, live, rank}
use Rattle.leaf_map.proofs.LeafIdLaws.{fits_id, leaf_back, leaf_number, slot_below, slot_position}
use Rattle.layout.proofs.PlaceLaws.{get-put_same, get-put_other}
use Rattle.sound.specs.Sound.{Sound}
use Rattle.sound.proofs.MappedLaws.{mapped_by}
use Rattle.pages.specs.Answers.{Finished, Outcome, Passed, refuse, answer_words, page_at}
use Rattle.domains.specs.Opening.{open_call}
use Rattle.domains.specs.Closing.{close_call}
use Rattle.runs.specs.Runs.{Run, going, stopped, whole_run, map_run_call, unmap_run_call}
use Rattle.domains.specs.Trimming.{trim_call}
use Rattle.calls.specs.Table.{calls, line_of}
use Rattle.pages.proofs.CallLaws.{path_cases, unmap_cases}
use Rattle.domains.proofs.ClosingLaws.{closed}
use Rattle.questions.specs.Questions.{answering}
use Rattle.questions.proofs.AnsweringCases.{answering_as}
use Rattle.requests.proofs.AnsweringSound.{answering_sound}
use Rattle.histories.specs.Refusals.{Refusal, malformed, no_domain, no_frames, in_hole, live_already, not_live, mapped, mapped_in_run, no_place, no_place_in_run, not_mapped, not_mapped_in_run}
use Rattle.histories.specs.Told.{words, PageTold, MapTold, PathTold, ZerosBetween, Opened, OpenDone, ClosedDown, CloseDone, NeverFifteen}
use Rattle.histories.proofs.DemandTwo.{map_done, no_refusal}
use Rattle.histories.proofs.RefusedExactly.{refused_exactly}

-- ---- Map and path
-- A mapped frame of a sound state, and the words of its page.
page_told : (z : Sizes) (s : List ℕ) (f pages : ℕ) → Sound z s → f < z.frames → 0 < get z s (leaf f) → PageTold z s f pages (answer_words (page_at z s (get z s (leaf f)) pages))
unfolding answer_words page_at path_node
page_told z s f pages h l some =
    let x = get z s (leaf f) in
    let t = treeling_of x in
    let m = slot_of x in
    let id = fits_id z.treelings x h.laid_out.laid.sizes.max_treelings some (h.leaf_range f l) in
    let one : path_node 1 t m ≡ t = omega (arith, slot_below x) in
    let two : path_node 2 t m ≡ 8 * t + m / 8 / 64 = omega arith in
    let three : path_node 3 t m ≡ 64 * t + m / 8 / 8 = omega arith in
    let four : path_node 4 t m ≡ 512 * t + m / 8 = omega arith in
    let position : position_of_leaf x ≡ m % 8 = sym (slot_position x) in
    record {
      treeling = t;
      slot = m;
      slot_below = slot_below x;
      mapped = omega (arith, leaf_back x id, leaf_number t m);
      told = λ i. 0 ∷ get z s (rank t) ∷ one i ∷ two i ∷ three i ∷ four i ∷ position i ∷ pages ∷ [];
    }

-- The frame of a done map is below P.
frame_below : (z : Sizes) (s : List ℕ) (d f : ℕ) → Passed (answering z s 3 d f 0) → f < z.frames
unfolding line_of calls
frame_below z s d f =
    answering_as z s d f 0 (λ o. Passed o → f < z.frames) (λ k. no_refusal s k) 3 3 refl (λ a _. a.legal)

pub map_told : MapTold answering
map_told z s d f h o passed =
    let w = map_done z s 3 d f 0 h refl passed in
    let r = (answering z s 3 d f 0).words in
    subst (PageTold z r f 1) (sym (ap answer_words w.1))
    (page_told z r f 1 (answering_sound z s 3 d f 0 h) (frame_below z s d f passed) (subst (λ (g : ℕ). 0 < get z r (leaf g)) (omega arith) (mapped_by z r d (f + 0) (w.0.each 0 (omega arith))).some))

pub path_told : PathTold answering
unfolding line_of calls
path_told z s d f h o =
    answering_as z s d f 0 Tells (λ k. no_refusal s k) 5 5 refl λ a.
    path_cases z s d f Tells (λ _. no_refusal s 14) (λ m _. (page_told z s f 0 h a.legal m.some, refl))
  where
    Tells : Outcome → Type 0
    Tells o = Passed o → PageTold z s f 0 (words o) × (o.words ≡ s)

-- ---- Zeros between
finished_zeros : (p i : ℕ) → i < 7 → get_or (answer_words (Finished p)) i 0 ≡ 0
unfolding answer_words
finished_zeros p zero l = refl
finished_zeros p (suc zero) l = refl
finished_zeros p (suc (suc zero)) l = refl
finished_zeros p (suc (suc (suc zero))) l = refl
finished_zeros p (suc (suc (suc (suc zero)))) l = refl
finished_zeros p (suc (suc (suc (suc (suc zero))))) l = refl
finished_zeros p (suc (suc (suc (suc (suc (suc zero)))))) l = refl
finished_zeros p (suc (suc (suc (suc (suc (suc (suc i))))))) l = absurd (omega arith)

module _ (z : Sizes) (s : List ℕ) (d f n : ℕ) where
  abbrev Zeros : Outcome → Type 0
  Zeros o = Passed o → (i : ℕ) → i < 7 → get_or (words o) i 0 ≡ 0

  refused_zeros : (k : ℕ) → Zeros (refuse k s)
  refused_zeros k = no_refusal s k

  run_zeros : (x : Run) → Zeros (whole_run s n x)
  unfolding whole_run
  run_zeros (going r) passed = finished_zeros n
  run_zeros (stopped k) passed = refused_zeros k passed

  zeros_in : (c : ℕ) → (c ≡ 1) ⊎ (c ≡ 2) ⊎ (c ≡ 4) ⊎ (c ≡ 6) ⊎ (c ≡ 7) ⊎ (c ≡ 8) → Zeros (answering z s c d f n)
  unfolding line_of calls open_call close_call trim_call map_run_call unmap_run_call
  zeros_in c =
      ⊎_elim (λ is. answering_as z s d f n Zeros refused_zeros c 1 is (λ a _. finished_zeros _))
      (⊎_elim (λ is. answering_as z s d f n Zeros refused_zeros c 2 is (λ a _. finished_zeros _))
      (⊎_elim (λ is. answering_as z s d f n Zeros refused_zeros c 4 is (λ a. unmap_cases z s d f Zeros (λ _. refused_zeros 14) (λ _ _. finished_zeros 1)))
      (⊎_elim (λ is. answering_as z s d f n Zeros refused_zeros c 6 is (λ a. run_zeros _))
      (⊎_elim (λ is. answering_as z s d f n Zeros refused_zeros c 7 is (λ a. run_zeros _))
      (λ is. answering_as z s d f n Zeros refused_zeros c 8 is (λ a _. finished_zeros _))))))

pub zeros_between : ZerosBetween answering
zeros_between z s c d f n h which = zeros_in z s d f n c which

-- ---- Open and close
pub open_done : OpenDone answering
unfolding line_of calls open_call answer_words
open_done z s d h =
    answering_as z s d 0 0 Opens (λ k. no_refusal s k) 1 1 refl λ a _.
    record {
      pages = refl;
      alive = get-put_same z s (live d) 1 h.laid_out.laid (a.below, omega arith);
      rest = λ p within other. get-put_other z s (live d) 1 p (a.below, omega arith) within other;
    }
  where
    Opens : Outcome → Type 0
    Opens o = Passed o → Opened z s d o

pub close_done : CloseDone answering
unfolding line_of calls close_call answer_words
close_done z s d h =
    answering_as z s d 0 0 Closes (λ k. no_refusal s k) 2 2 refl λ a _.
    let w = closed z s h d a.below in
    record {
      pages = refl;
      record_zero = w.own_zero;
      unowned = λ t l own. w.owned_zero t 0 l (omega arith) own;
      unmapped = w.leaf_zero;
      others = w.same_leaf;
    }
  where
    Closes : Outcome → Type 0
    Closes o = Passed o → ClosedDown z s d o

-- ---- 15
pub never_fifteen : NeverFifteen answering
never_fifteen z s c d f n h is = none 15 ((refused_exactly z s c d f n 15 h).0 is) refl
  where
    none : (k : ℕ) → Refusal z s c d f n k → k ≡ 15 → ⊥
    none k (malformed not) e = omega arith
    none k (no_domain formed not) e = omega arith
    none k (no_frames formed l not) e = omega arith
    none k (in_hole formed l fits inside) e = omega arith
    none k (live_already w is alive) e = omega arith
    none k (not_live w other dead) e = omega arith
    none k (mapped w is some) e = omega arith
    none k (mapped_in_run w is r) e = omega arith
    none k (no_place w is n) e = omega arith
    none k (no_place_in_run w is r) e = omega arith
    none k (not_mapped w which others) e = omega arith
    none k (not_mapped_in_run w is r) e = omega arith
