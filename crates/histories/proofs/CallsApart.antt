-- Demand 3, of every call: what its own domain sees of it goes by that domain's view alone, and it is harmless to the others. A line for each call.
-- Assumes nothing.
use Prim.Native.Nat.{ℕ, ◌+◌, ◌<◌, ◌≤◌}
use mathlib.Core.Path.{◌≡◌, refl, sym}
use mathlib.Core.List.{List}
use mathlib.Core.Bool.{Bool, true, ◌&&◌, ◌||◌}
use mathlib.Core.Logic.{◌⊎◌, inl, inr}
use native.Mathlib.Omega.{arith}
use borrow.Author.Tests.{eq-eqb, lt-ltb, le-leb}
use lib.Dec.{eqb, leb, ltb}
use lib.ListN.{get_or}
use Rattle.layout.specs.declared.Sizes.{Sizes}
use Rattle.layout.specs.Places.{put, live}
use Rattle.layout.proofs.BoundedLaws.{and_of}
use Rattle.sound.specs.Sound.{Sound}
use Rattle.sound.proofs.TestLaws.{live_ordinary}
use Rattle.releasing.proofs.WholeBits.{whole_byte}
use Rattle.returning.specs.Returning.{trimming}
use Rattle.returning.proofs.EmptyLaws.{rank_empty}
use Rattle.returning.proofs.KeptLaws.{kept_facts}
use Rattle.returning.proofs.ReturnedLaws.{trimmed_facts}
use Rattle.pages.specs.Answers.{Outcome, answer_words}
use Rattle.domains.specs.Opening.{open_call}
use Rattle.domains.specs.Closing.{closing, close_call}
use Rattle.domains.specs.Trimming.{trim_call}
use Rattle.domains.specs.Filling.{fill_call}
use Rattle.calls.specs.Table.{Call, calls, unlisted, line_of, call_of}
use Rattle.pages.proofs.CallLaws.{path_cases}
use Rattle.calls.proofs.TableLaws.{Asked, Each, line_found}
use Rattle.histories.specs.Histories.{call_compared}
use Rattle.histories.proofs.View.{View, Look, look, view_of, seen, seen_number, open_view, close_view, map_view, unmap_view, path_view, fill_view, run_view, whole_view}
use Rattle.histories.proofs.ViewLaws.{Mine}
use Rattle.histories.proofs.HarmlessLaws.{Harmless, harmless_same, moved_harmless}
use Rattle.histories.proofs.TrimView.{trim_view}
use Rattle.histories.proofs.OthersCalls.{open_moved, close_moved}
use Rattle.histories.proofs.OthersTrim.{trim_moved}
use Rattle.histories.proofs.HarmlessCalls.{map_harmless, unmap_harmless, map_run_harmless, unmap_run_harmless}
use Rattle.histories.proofs.OwnMap.{own_map}
use Rattle.histories.proofs.OwnUnmap.{own_unmap}
use Rattle.histories.proofs.OwnTrim.{own_trim}
use Rattle.histories.proofs.OwnRest.{own_path, own_fill, own_open, own_close}
use Rattle.histories.proofs.OwnRuns.{own_map_run, own_unmap_run}

-- A request names a frame: calls 3, 4 and 5 theirs, 6 and 7 as many as their count says.
abbrev pub names : ℕ → ℕ → ℕ → ℕ → Bool
names c f n g = (leb 3 c && leb c 5 && eqb g f) || (leb 6 c && leb c 7 && leb f g && ltb g (f + n))

-- A mapping names its frame, and a run its frames.
pub map_named : (f n g : ℕ) → f ≡ g → names 3 f n g ≡ true
map_named f n g same = rw (eq-eqb g f (sym same)) refl

pub run_named : (f n g : ℕ) → f ≤ g → g < f + n → (leb f g && ltb g (f + n)) ≡ true
run_named f n g low high = and_of (le-leb f g low) (lt-ltb g (f + n) high)

-- Frame g is named by a mapping.
abbrev pub MapNames : ℕ → ℕ → ℕ → ℕ → Type 0
MapNames c f n g = ((c ≡ 3) × (f ≡ g)) ⊎ ((c ≡ 6) × (f ≤ g) × (g < f + n))

-- An outcome looks as a look does: the answer, where call c's are compared, and the view left.
abbrev pub LooksAs : Sizes → ℕ → ℕ → Outcome → Look → Type 0
LooksAs z d c o l =
    (call_compared c ≡ true → seen c (answer_words o.answer) ≡ l.sight) × (view_of z o.words d ≡ l.view)

-- What is seen, compared or not.
either_way : {A B C : Type 0} → A × B → (C → A) × B
either_way w = (λ _. w.0, w.1)

-- An outcome that is not 13.
abbrev pub Shown : Sizes → ℕ → ℕ → Outcome → Look → Type 0
Shown z d c o l = (get_or (answer_words o.answer) 0 0 ≡ 13 → ⊥) → LooksAs z d c o l

-- Call c: how it looks to its own domain, of its view, frame and count.
pub record CallApart (c : ℕ) (k : Call) : Type 0 where
  pub looks : View → ℕ → ℕ → Look
  pub own : (z : Sizes) (s : List ℕ) (d f n : ℕ) → Sound z s → Asked z s k d f n → ((g : ℕ) → g < z.frames → names c f n g ≡ true → Mine z s d g)
      → Shown z d c (k.does z s d f n) (looks (view_of z s d) f n)
  pub harmless : (z : Sizes) (s : List ℕ) (e f n : ℕ) → Sound z s → Asked z s k e f n → Harmless z s (k.does z s e f n).words e (MapNames c f n)

-- ---- A line for each call
open_apart : CallApart 1 (call_of 1)
unfolding line_of calls open_call
open_apart =
    record {
      looks = λ v f n. open_view v;
      own = λ z s d f n h a mine never. either_way (own_open z s d h a.below);
      harmless = λ z s e f n h a. moved_harmless z s (put z s (live e) 1) e (MapNames 1 f n) (open_moved z s e (MapNames 1 f n) h.leaf_range a.below) h.leaf_range;
    }

close_apart : CallApart 2 (call_of 2)
unfolding line_of calls close_call
close_apart =
    record {
      looks = λ v f n. close_view v;
      own = λ z s d f n h a mine never. either_way (own_close z s d h a.below);
      harmless = λ z s e f n h a. moved_harmless z s (closing z s e) e (MapNames 2 f n) (close_moved z s e (MapNames 2 f n) h a.below) h.leaf_range;
    }

map_apart : CallApart 3 (call_of 3)
unfolding line_of calls
map_apart =
    record {
      looks = λ v f n. map_view v f;
      own = λ z s d f n h a mine never.
          either_way (own_map z s d f h a.below a.legal a.in_no_hole (live_ordinary z s d (a.alive refl)) (mine f a.legal (map_named f n f refl)) never);
      harmless = λ z s e f n h a. map_harmless z s e f (MapNames 3 f n) h a.below a.legal (live_ordinary z s e (a.alive refl)) (inl (refl, refl));
    }

unmap_apart : CallApart 4 (call_of 4)
unfolding line_of calls
unmap_apart =
    record {
      looks = λ v f n. unmap_view v f;
      own = λ z s d f n h a mine never. either_way (own_unmap z s d f h a.below a.legal);
      harmless = λ z s e f n h a. unmap_harmless z s e f (MapNames 4 f n) h a.below a.legal;
    }

path_apart : CallApart 5 (call_of 5)
unfolding line_of calls
path_apart =
    record {
      looks = λ v f n. path_view v f;
      own = λ z s d f n h a mine never. either_way (own_path z s d f a.legal);
      harmless = λ z s e f n h a.
          path_cases z s e f (λ o. Harmless z s o.words e (MapNames 5 f n)) (λ _. harmless_same z s e (MapNames 5 f n)) (λ _. harmless_same z s e (MapNames 5 f n));
    }

map_run_apart : CallApart 6 (call_of 6)
unfolding line_of calls
map_run_apart =
    record {
      looks = λ v f n. whole_view v n (run_view map_view v f n);
      own = λ z s d f n h a mine never.
          either_way (own_map_run z s d f n h a.below (live_ordinary z s d (a.alive refl)) a.legal.1 a.in_no_hole (λ g low high. mine g (omega (arith, a.legal.1)) (run_named f n g low high)) never);
      harmless = λ z s e f n h a.
          map_run_harmless z s e f n (MapNames 6 f n) h a.below a.legal.1 a.in_no_hole (live_ordinary z s e (a.alive refl)) (λ i l. inr (refl, omega arith, omega arith));
    }

unmap_run_apart : CallApart 7 (call_of 7)
unfolding line_of calls
unmap_run_apart =
    record {
      looks = λ v f n. whole_view v n (run_view unmap_view v f n);
      own = λ z s d f n h a mine never.
          either_way (own_unmap_run z s d f n h a.below (live_ordinary z s d (a.alive refl)) a.legal.1 a.in_no_hole (λ g low high. mine g (omega (arith, a.legal.1)) (run_named f n g low high)) never);
      harmless = λ z s e f n h a. unmap_run_harmless z s e f n (MapNames 7 f n) h a.below a.legal.1;
    }

trim_apart : CallApart 8 (call_of 8)
unfolding line_of calls trim_call
trim_apart =
    record {
      looks = λ v f n. trim_view v;
      own = λ z s d f n h a mine never.
          let o = live_ordinary z s d (a.alive refl) in
          either_way (own_trim z s d h a.below o (rank_empty z s h d a.below o) (whole_byte z s h d a.below o) (kept_facts z s h d a.below) (λ _. trimmed_facts z s h d a.below));
      harmless = λ z s e f n h a.
          moved_harmless z s (trimming z s e) e (MapNames 8 f n) (trim_moved z s e (MapNames 8 f n) h.leaf_range (kept_facts z s h e a.below) (λ _. trimmed_facts z s h e a.below)) h.leaf_range;
    }

fill_apart : CallApart 11 (call_of 11)
unfolding line_of calls fill_call
fill_apart =
    record {
      looks = λ v f n. fill_view v;
      own = λ z s d f n h a mine never. either_way (own_fill z s d);
      harmless = λ z s e f n h a. harmless_same z s e (MapNames 11 f n);
    }

-- ---- Any number
unlisted_apart : (c : ℕ) → CallApart c (unlisted c)
unlisted_apart c =
    record {
      looks = λ v f n. look (seen_number 7) v;
      own = λ z s d f n h a mine never. absurd a.legal;
      harmless = λ z s e f n h a. harmless_same z s e (MapNames c f n);
    }

all_apart : Each (λ k. CallApart k.number k) calls
unfolding calls line_of
all_apart = (open_apart, (close_apart, (map_apart, (unmap_apart, (path_apart, (map_run_apart, (unmap_run_apart, (trim_apart, (fill_apart, tt)))))))))

pub apart : (c : ℕ) → CallApart c (call_of c)
apart c = line_found CallApart c (unlisted_apart c) calls all_apart
