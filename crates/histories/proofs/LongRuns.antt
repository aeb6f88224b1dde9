-- Request M-109 beside document 01, "Histories": a run of more than 2,048 frames is refused by 9 whoever asks and whatever the state, and "Refused requests name theirs too": as many frames as its count says, those past the limit among them.
-- Assumes nothing.
use Prim.Native.Nat.{ℕ, ◌+◌, ◌<◌, ◌≤◌}
use mathlib.Core.Path.{◌≡◌, sym, subst}
use mathlib.Core.List.{List}
use mathlib.Core.Bool.{true, false}
use mathlib.Core.Logic.{◌⊎◌, ⊎_elim}
use native.Mathlib.Omega.{arith}
use Rattle.layout.specs.declared.Sizes.{Sizes}
use Rattle.sound.specs.Sound.{Sound}
use Rattle.pages.specs.Answers.{Refused}
use Rattle.calls.specs.Table.{FrameAndCount}
use Rattle.runs.specs.Runs.{longest_run}
use Rattle.histories.specs.Histories.{request, word, names_frame}
use Rattle.questions.specs.Questions.{answering}
use Rattle.histories.specs.Refusals.{IsCall, call_6, call_7, no_frames}
use Rattle.histories.proofs.CallsApart.{names, run_named}
use Rattle.histories.proofs.RefusedExactly.{refused_exactly}

pub long_refused : (z : Sizes) (s : List ℕ) (c d f n : ℕ) → Sound z s → (c ≡ 6) ⊎ (c ≡ 7) → d < z.domains → longest_run < n → (answering z s c d f n).answer ≡ Refused 9
long_refused z s c d f n h run l more =
    (refused_exactly z s c d f n 9 h).1
    (no_frames (record { uses = FrameAndCount; opens = false; is_call = ⊎_elim (called 6 call_6) (called 7 call_7) run; unused_zero_lem = tt }) l (λ w. omega (arith, w.3)))
  where
    called : (k : ℕ) → IsCall k FrameAndCount false → c ≡ k → IsCall c FrameAndCount false
    called k line is = subst (λ (x : ℕ). IsCall x FrameAndCount false) (sym is) line

-- For every count.
pub run_names : (q : List ℕ) (g : ℕ) → (word q 0 ≡ 6) ⊎ (word q 0 ≡ 7) → word q 2 ≤ g → g < word q 2 + word q 3 → names_frame (request q) g ≡ true
run_names q g run low high =
    let named = run_named (word q 2) (word q 3) g low high in
    ⊎_elim (by 6 named) (by 7 named) run
  where
    by : (c : ℕ) → names c (word q 2) (word q 3) g ≡ true → word q 0 ≡ c → names_frame (request q) g ≡ true
    by c named is = subst (λ (x : ℕ). names x (word q 2) (word q 3) g ≡ true) (sym is) named
