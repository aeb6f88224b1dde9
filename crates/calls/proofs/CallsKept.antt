-- What every call keeps: a sound state, its holes, the last owners of unowned TreeLings, every word where it is refused, and the range of a page's leaf ID. A line for each call.
-- Assumes nothing.
use Prim.Native.Nat.{ℕ, ◌≤◌}
use mathlib.Core.Path.{◌≡◌, refl}
use mathlib.Core.List.{List}
use native.Mathlib.Omega.{arith}
use Rattle.layout.specs.declared.Sizes.{Sizes}
use Rattle.layout.specs.Places.{get, leaf, pages_mapped}
use Rattle.leaf_map.specs.LeafIds.{LeafFits}
use Rattle.leaf_map.proofs.LeafIdLaws.{fits_more}
use Rattle.board.proofs.HoleLaws.{HolesKept}
use Rattle.sound.specs.Sound.{Sound}
use Rattle.sound.proofs.TestLaws.{live_ordinary}
use Rattle.sound.proofs.FormersKept.{FormersKept}
use Rattle.placing.specs.Placing.{placing}
use Rattle.world.proofs.FrameLaws.{either}
use Rattle.placing.proofs.PlacingSound.{placing_sound, placing_holes}
use Rattle.placing.proofs.FormerLaws.{placing_formers}
use Rattle.releasing.proofs.ReleasedSound.{released_sound, released_holes, released_formers}
use Rattle.returning.specs.Returning.{number_returned}
use Rattle.returning.proofs.TrimLaws.{trimming_sound, trimming_holes, trimming_formers}
use Rattle.pages.specs.Answers.{Refused, Finished, Outcome, page_at}
use Rattle.domains.specs.Opening.{open_call}
use Rattle.domains.specs.Closing.{close_call}
use Rattle.pages.specs.Mapping.{map_call}
use Rattle.pages.specs.Unmapping.{unmap_call}
use Rattle.runs.specs.Runs.{Run, going, stopped, run_of, whole_run, map_run_call, unmap_run_call}
use Rattle.domains.specs.Trimming.{trim_call}
use Rattle.domains.specs.Filling.{slots_of, fill_of, fill_call}
use Rattle.calls.specs.CodeFits.{PageFits}
use Rattle.calls.specs.Table.{Call, calls, unlisted, line_of, call_of}
use Rattle.pages.proofs.CallLaws.{map_cases, unmap_cases, path_cases}
use Rattle.pages.proofs.CallCodeLaws.{placed_range}
use Rattle.domains.proofs.ClosingLaws.{closed}
use Rattle.domains.proofs.ClosedSound.{closing_sound}
use Rattle.domains.proofs.FillLaws.{fill_none, fill_some}
use Rattle.domains.proofs.OpenedSound.{opened_content, opened_treeling, opened_sound}
use Rattle.runs.proofs.RunLaws.{run_held, whole_run_lem}
use Rattle.runs.proofs.RunSound.{Mapped, map_run_held, Unmapped, unmap_run_held}
use Rattle.calls.proofs.TableLaws.{Asked, Each, line_found}

pub record Keeps (k : Call) : Type 0 where
  pub sound : (z : Sizes) (s : List ℕ) (d f n : ℕ) → Sound z s → Asked z s k d f n → Sound z (k.does z s d f n).words
  pub holes : (z : Sizes) (s : List ℕ) (d f n : ℕ) → Sound z s → Asked z s k d f n → HolesKept s (k.does z s d f n).words
  pub formers : (z : Sizes) (s : List ℕ) (d f n : ℕ) → Sound z s → Asked z s k d f n → FormersKept z s (k.does z s d f n).words
  pub same : (z : Sizes) (s : List ℕ) (d f n j : ℕ) → (k.does z s d f n).answer ≡ Refused j → (k.does z s d f n).words ≡ s
  pub fits : (z : Sizes) (s : List ℕ) (d f n : ℕ) → Sound z s → Asked z s k d f n → PageFits (k.does z s d f n).answer

-- ---- Answers
-- An answer that is done is no refusal.
pub finished_passes : {A : Type 0} (pages j : ℕ) → Finished pages ≡ Refused j → A
finished_passes pages j e = absurd (let no : ◌≡◌ {A = ℕ} 0 1 = cc in omega arith)

pub page_passes : {A : Type 0} (z : Sizes) (s : List ℕ) (id pages j : ℕ) → page_at z s id pages ≡ Refused j → A
unfolding page_at
page_passes z s id pages j e = absurd (let no : ◌≡◌ {A = ℕ} 0 1 = cc in omega arith)

-- A page's leaf ID names a slot; a run's answer has no page.
page_fits : (z : Sizes) (s : List ℕ) (id pages : ℕ) → (1 ≤ id) × LeafFits z.treelings id → z.treelings ≤ 4096 → PageFits (page_at z s id pages)
unfolding page_at
page_fits z s id pages range most = (range.0, fits_more z.treelings 4096 id most range.1)

run_fits_lem : (s : List ℕ) (n : ℕ) (x : Run) → PageFits (whole_run s n x).answer
unfolding whole_run
run_fits_lem s n (going r) = tt
run_fits_lem s n (stopped k) = tt

fill_fits : (pages slots : ℕ) → PageFits (fill_of pages slots)
fill_fits pages slots =
    either slots 0 (λ none. rw (fill_none pages slots none) tt) (λ some. rw (fill_some pages slots some) tt)

-- What a call leaves where it is refused.
abbrev Same : List ℕ → ℕ → Outcome → Type 0
Same s j o = o.answer ≡ Refused j → o.words ≡ s

run_same : (single : List ℕ → ℕ → Outcome) (s : List ℕ) (f n j : ℕ) → Same s j (whole_run s n (run_of single s f n))
run_same single s f n j =
    whole_run_lem (λ _ _. Unit) (Same s j) s n (run_of single s f n) (run_held single s f (λ _ _. Unit) n tt (λ _ _ _ _ _. tt))
    (λ _ _. refl)
    (λ _ _. finished_passes n j)

-- ---- A line for each call
open_keeps : Keeps (call_of 1)
unfolding line_of calls open_call
open_keeps =
    record {
      sound = λ z s d f n h a. opened_sound z s d a.below h (omega (arith, a.dead refl, h.live_range d a.below));
      holes = λ z s d f n h a i low high. opened_content z s d a.below i high;
      formers = λ z s d f n h a t l none. opened_treeling z s d a.below t 4;
      same = λ z s d f n j. finished_passes 0 j;
      fits = λ z s d f n h a. tt;
    }

close_keeps : Keeps (call_of 2)
unfolding line_of calls close_call
close_keeps =
    record {
      sound = λ z s d f n h a. closing_sound z s d h a.below;
      holes = λ z s d f n h a i low high. (closed z s h d a.below).same_content i high;
      formers = λ z s d f n h a t l none. (closed z s h d a.below).same_former t l;
      same = λ z s d f n j. finished_passes (get z s (pages_mapped d)) j;
      fits = λ z s d f n h a. tt;
    }

map_keeps : Keeps (call_of 3)
unfolding line_of calls
map_keeps =
    record {
      sound = λ z s d f n h a.
          map_cases z s d f (λ o. Sound z o.words) (λ _. h) (λ _ _. h) (λ _ none _. placing_sound z s d f h a.below a.legal a.in_no_hole (live_ordinary z s d (a.alive refl)) none);
      holes = λ z s d f n h a.
          map_cases z s d f (λ o. HolesKept s o.words) (λ _ i low high. refl) (λ _ _ i low high. refl) (λ _ _ _. placing_holes z s d f h a.below a.legal);
      formers = λ z s d f n h a.
          map_cases z s d f (λ o. FormersKept z s o.words) (λ _ t l none. refl) (λ _ _ t l none. refl) (λ _ _ _ t l none. (placing_formers z s d f h a.below a.legal t l none).1);
      same = λ z s d f n j. map_cases z s d f (Same s j) (λ _ _. refl) (λ _ _ _. refl) (λ id _ _. page_passes z _ id.0 1 j);
      fits = λ z s d f n h a.
          map_cases z s d f (λ o. PageFits o.answer) (λ _. tt) (λ _ _. tt) λ id none is.
          let after = placing_sound z s d f h a.below a.legal a.in_no_hole (live_ordinary z s d (a.alive refl)) none in
          page_fits z (placing z s d f).words id.0 1 (placed_range z s d f h a.below a.legal id (placing z s d f).answer (placing z s d f).words refl after is) h.laid_out.laid.sizes.max_treelings;
    }

unmap_keeps : Keeps (call_of 4)
unfolding line_of calls
unmap_keeps =
    record {
      sound = λ z s d f n h a.
          unmap_cases z s d f (λ o. Sound z o.words) (λ _. h) (released_sound z s d f h a.below (live_ordinary z s d (a.alive refl)) a.legal);
      holes = λ z s d f n h a.
          unmap_cases z s d f (λ o. HolesKept s o.words) (λ _ i low high. refl) (released_holes z s d f h a.below (live_ordinary z s d (a.alive refl)) a.legal);
      formers = λ z s d f n h a.
          unmap_cases z s d f (λ o. FormersKept z s o.words) (λ _ t l none. refl) (λ mapped t l none. (released_formers z s d f h a.below (live_ordinary z s d (a.alive refl)) a.legal mapped t l none).1);
      same = λ z s d f n j. unmap_cases z s d f (Same s j) (λ _ _. refl) (λ _. finished_passes 1 j);
      fits = λ z s d f n h a. unmap_cases z s d f (λ o. PageFits o.answer) (λ _. tt) (λ _. tt);
    }

path_keeps : Keeps (call_of 5)
unfolding line_of calls
path_keeps =
    record {
      sound = λ z s d f n h a. path_cases z s d f (λ o. Sound z o.words) (λ _. h) (λ _. h);
      holes = λ z s d f n h a. path_cases z s d f (λ o. HolesKept s o.words) (λ _ i low high. refl) (λ _ i low high. refl);
      formers = λ z s d f n h a. path_cases z s d f (λ o. FormersKept z s o.words) (λ _ t l none. refl) (λ _ t l none. refl);
      same = λ z s d f n j. path_cases z s d f (Same s j) (λ _ _. refl) (λ _ _. refl);
      fits = λ z s d f n h a.
          path_cases z s d f (λ o. PageFits o.answer) (λ _. tt)
          (λ mapped. page_fits z s (get z s (leaf f)) 0 (mapped.some, h.leaf_range f a.legal) h.laid_out.laid.sizes.max_treelings);
    }

map_run_keeps : Keeps (call_of 6)
unfolding line_of calls map_run_call
map_run_keeps =
    record {
      sound = λ z s d f n h a.
          whole_run_lem (Mapped z s d f n h a.below a.legal.1) (λ o. Sound z o.words) s n (run_of (λ r. map_call z r d) s f n)
          (map_run_held z s d f n h a.below a.legal.1 a.in_no_hole (live_ordinary z s d (a.alive refl))) (λ _. h) (λ _ w. w.0);
      holes = λ z s d f n h a.
          whole_run_lem (Mapped z s d f n h a.below a.legal.1) (λ o. HolesKept s o.words) s n (run_of (λ r. map_call z r d) s f n)
          (map_run_held z s d f n h a.below a.legal.1 a.in_no_hole (live_ordinary z s d (a.alive refl))) (λ _ i low high. refl) (λ _ w. w.3);
      formers = λ z s d f n h a.
          whole_run_lem (Mapped z s d f n h a.below a.legal.1) (λ o. FormersKept z s o.words) s n (run_of (λ r. map_call z r d) s f n)
          (map_run_held z s d f n h a.below a.legal.1 a.in_no_hole (live_ordinary z s d (a.alive refl))) (λ _ t l none. refl) (λ _ w t l none. (w.4 t l none).1);
      same = λ z s d f n j. run_same (λ r. map_call z r d) s f n j;
      fits = λ z s d f n h a. run_fits_lem s n (run_of (λ r. map_call z r d) s f n);
    }

unmap_run_keeps : Keeps (call_of 7)
unfolding line_of calls unmap_run_call
unmap_run_keeps =
    record {
      sound = λ z s d f n h a.
          whole_run_lem (Unmapped z s d f n h a.below a.legal.1) (λ o. Sound z o.words) s n (run_of (λ r. unmap_call z r d) s f n)
          (unmap_run_held z s d f n h a.below a.legal.1) (λ _. h) (λ _ w. w.0);
      holes = λ z s d f n h a.
          whole_run_lem (Unmapped z s d f n h a.below a.legal.1) (λ o. HolesKept s o.words) s n (run_of (λ r. unmap_call z r d) s f n)
          (unmap_run_held z s d f n h a.below a.legal.1) (λ _ i low high. refl) (λ _ w. w.2);
      formers = λ z s d f n h a.
          whole_run_lem (Unmapped z s d f n h a.below a.legal.1) (λ o. FormersKept z s o.words) s n (run_of (λ r. unmap_call z r d) s f n)
          (unmap_run_held z s d f n h a.below a.legal.1) (λ _ t l none. refl) (λ _ w t l none. (w.3 t l none).1);
      same = λ z s d f n j. run_same (λ r. unmap_call z r d) s f n j;
      fits = λ z s d f n h a. run_fits_lem s n (run_of (λ r. unmap_call z r d) s f n);
    }

trim_keeps : Keeps (call_of 8)
unfolding line_of calls trim_call
trim_keeps =
    record {
      sound = λ z s d f n h a. trimming_sound z s h d a.below (live_ordinary z s d (a.alive refl));
      holes = λ z s d f n h a. trimming_holes z s h d a.below;
      formers = λ z s d f n h a. trimming_formers z s h d a.below;
      same = λ z s d f n j. finished_passes (number_returned z s d) j;
      fits = λ z s d f n h a. tt;
    }

fill_keeps : Keeps (call_of 11)
unfolding line_of calls fill_call
fill_keeps =
    record {
      sound = λ z s d f n h a. h;
      holes = λ z s d f n h a i low high. refl;
      formers = λ z s d f n h a t l none. refl;
      same = λ z s d f n j e. refl;
      fits = λ z s d f n h a. fill_fits (get z s (pages_mapped d)) (slots_of z s d);
    }

-- ---- Any number
unlisted_keeps : (c : ℕ) → Keeps (unlisted c)
unlisted_keeps c =
    record {
      sound = λ z s d f n h a. h;
      holes = λ z s d f n h a i low high. refl;
      formers = λ z s d f n h a t l none. refl;
      same = λ z s d f n j e. refl;
      fits = λ z s d f n h a. tt;
    }

all_keep : Each Keeps calls
unfolding calls line_of
all_keep = (open_keeps, (close_keeps, (map_keeps, (unmap_keeps, (path_keeps, (map_run_keeps, (unmap_run_keeps, (trim_keeps, (fill_keeps, tt)))))))))

pub keeps : (c : ℕ) → Keeps (call_of c)
keeps c = line_found (λ _ k. Keeps k) c (unlisted_keeps c) calls all_keep
