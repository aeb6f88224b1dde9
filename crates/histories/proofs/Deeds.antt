-- Demand 3, of one thing that is asked, answered and done, whatever asked it: its look to its own domain, and that it is harmless to the others. A history is a chain of these.
-- Assumes nothing.
use Prim.Native.Nat.{ℕ, ◌<◌, ◌≤◌}
use mathlib.Core.Path.{◌≡◌, refl, sym, subst}
use mathlib.Core.List.{List, [], ◌∷◌, ◌++◌}
use mathlib.Core.Bool.{true, false, ◌||◌}
use mathlib.Core.Logic.{⊎_elim}
use borrow.Author.Tests.{eqb-true, eqb-false, ne_eqb}
use lib.Dec.{eqb}
use Rattle.layout.specs.declared.Sizes.{Sizes}
use Rattle.board.specs.Holes.{hole_count}
use Rattle.board.proofs.HoleLaws.{HolesKept}
use Rattle.sound.specs.Sound.{Sound}
use Rattle.calls.specs.Table.{call_of}
use Rattle.questions.specs.Questions.{frames_outside, answering}
use Rattle.requests.proofs.AnsweringSound.{answering_sound, answering_holes}
use Rattle.histories.specs.Histories.{Heard, is_own, names_frame, is_mapping, is_compared, number}
use Rattle.histories.proofs.View.{view_of}
use Rattle.histories.proofs.ViewLaws.{Mine}
use Rattle.histories.proofs.CallsApart.{names, map_named, run_named, MapNames, Shown}
use Rattle.histories.proofs.AnsweringApart.{answer_view, own_answering, other_answering, mine_kept, outside_same}
use Rattle.histories.proofs.AskedApart.{asked_apart}
use Rattle.histories.proofs.Trace.{heard, Traced, none, more}

-- What a domain's own answer must not be for its look to be its view's.
abbrev pub Admitted : Heard → Type 0
Admitted h = number h ≡ 13 → ⊥

-- In words s this was heard, and words r were left.
pub record Deed (z : Sizes) (s : List ℕ) (h : Heard) (r : List ℕ) : Type 0 where
  pub sound : Sound z r
  pub holes : HolesKept s r
  -- To its own domain it looks as that domain's view says, by the holes of words o, if the frames that it names are unmapped or the domain's.
  pub own : (o : List ℕ) → HolesKept o s → hole_count o ≤ 8 → (d : ℕ) → d < z.domains → is_own d h.asked ≡ true
      → ((g : ℕ) → g < z.frames → names_frame h.asked g ≡ true → Mine z s d g) → Admitted h
      → (is_compared h.asked ≡ true → (asked_apart h.asked).sees h.answer ≡ ((asked_apart h.asked).looks z o (view_of z s d)).sight)
      × (view_of z r d ≡ ((asked_apart h.asked).looks z o (view_of z s d)).view)
  -- To the others it is harmless: their views stay,
  pub others : (d : ℕ) → d < z.domains → is_own d h.asked ≡ false → view_of z r d ≡ view_of z s d
  -- and a frame that is unmapped or theirs stays so, if it is no mapping that names it.
  pub mine : (d g : ℕ) → d < z.domains → g < z.frames → (is_own d h.asked ≡ false → is_mapping h.asked ≡ true → names_frame h.asked g ≡ true → ⊥) → Mine z s d g → Mine z r d g

-- One after the other.
pub data Deeds (z : Sizes) : List ℕ → List Heard → List ℕ → Type 0 where
  no_deed : {s : List ℕ} → Deeds z s [] s
  then : {s r q : List ℕ} {h : Heard} {hs : List Heard} → Deed z s h r → Deeds z r hs q → Deeds z s (h ∷ hs) q

pub deeds_append : {z : Sizes} {s r q : List ℕ} {hs gs : List Heard} → Deeds z s hs r → Deeds z r gs q → Deeds z s (hs ++ gs) q
deeds_append no_deed u = u
deeds_append (then w t) u = then w (deeds_append t u)

-- ---- A request
-- A mapping that names a frame, by its words.
mapping_names : (c f n g : ℕ) → MapNames c f n g → ((eqb c 3 || eqb c 6) ≡ true) × (names c f n g ≡ true)
mapping_names c f n g =
    let P : ℕ → Type 0 = λ k. ((eqb k 3 || eqb k 6) ≡ true) × (names k f n g ≡ true) in
    ⊎_elim
    (λ m. subst P (sym m.0) (refl, map_named f n g m.1))
    (λ m. subst P (sym m.0) (refl, run_named f n g m.1 m.2))

request_deed : (z : Sizes) (s : List ℕ) (c e f n : ℕ) → Sound z s → Deed z s (heard z s c e f n) (answering z s c e f n).words
request_deed z s c e f n h =
    record {
      sound = answering_sound z s c e f n h;
      holes = answering_holes z s c e f n h;
      own = λ o holes most d below is mine.
          subst (λ (k : ℕ). Shown z d c (answering z s c k f n) (answer_view z (frames_outside o) (view_of z s d) c f n))
          (sym (eqb-true e d is))
          (own_answering z s d c f n h below (frames_outside o) (outside_same o s holes most (call_of c).uses f n) mine);
      others = λ d below other. other_answering z s d c e f n h below (eqb-false e d other);
      mine = λ d g below l not.
          mine_kept z s d c e f n g h below l
          (λ apart m. let w = mapping_names c f n g m in not (ne_eqb e d apart) w.0 w.1);
    }

-- A chain of requests.
pub requests_deeds : {z : Sizes} {s r : List ℕ} {hs : List Heard} → Sound z s → Traced z s hs r → Deeds z s hs r
requests_deeds h none = no_deed
requests_deeds {z} {s} h (more c e f n t) =
    then (request_deed z s c e f n h) (requests_deeds (answering_sound z s c e f n h) t)
