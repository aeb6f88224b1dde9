-- A domain's own runs on the words, seen through its view, are those of the view.
-- Assumes nothing.
use Prim.Native.Nat.{ℕ, zero, suc, ◌+◌, ◌-◌, ◌*◌, ◌/◌, ◌%◌, ◌<◌, ◌≤◌}
use mathlib.Core.Path.{◌≡◌, refl, sym, ap, subst, ◌∙◌}
use mathlib.Core.List.{List, [], ◌∷◌}
use mathlib.Core.Bool.{Bool, true, false, cond, ◌&&◌, ◌||◌}
use native.Mathlib.Omega.{arith}
use borrow.Author.Tests.{eq-eqb, ne_eqb}
use lib.Dec.{eqb, ltb}
use lib.ListN.{get_or}
use Rattle.layout.specs.declared.Sizes.{Sizes}
use Rattle.board.specs.Holes.{hole_count, outside}
use Rattle.board.proofs.HoleLaws.{HolesKept, outside_kept}
use Rattle.sound.specs.Sound.{Sound, Ordinary}
use Rattle.sound.proofs.MappedLaws.{mapped_ordinary}
use Rattle.placing.specs.Placing.{place_entry}
use Rattle.releasing.specs.Releasing.{Step, mark, regather, release_step}
use Rattle.pages.specs.Answers.{Answer, Refused, Finished, Page, Fill, Outcome, answer_words, page_at}
use Rattle.pages.specs.Mapping.{map_call}
use Rattle.pages.specs.Unmapping.{unmap_call}
use Rattle.runs.specs.Runs.{map_run_call, unmap_run_call, Run, go_on, run_step, run_of, whole_run}
use Rattle.histories.proofs.View.{View, Look, RunView, view_of, world_of, look, seen, seen_number, map_view, unmap_view, given_view, taken_view, released_view, marked_view, gathered_view, step_view, run_view, whole_view}
use Rattle.histories.proofs.ViewLaws.{Mine, seen_finished}
use Rattle.pages.proofs.CallLaws.{map_cases, unmap_cases}
use Rattle.placing.proofs.PlacingSound.{placing_sound, placing_holes}
use Rattle.releasing.proofs.ReleasedSound.{released_sound, released_holes}
use Rattle.histories.proofs.HarmlessLaws.{Harmless, harmless_mine}
use Rattle.histories.proofs.HarmlessCalls.{map_harmless, unmap_harmless}
use Rattle.histories.proofs.OwnMap.{own_map}
use Rattle.histories.proofs.OwnUnmap.{Shows, own_unmap}

-- ---- Single calls
-- A refusal has a number other than 0.
abbrev Numbered : Answer → Type 0
Numbered (Refused n) = n ≡ 0 → ⊥
Numbered (Finished pages) = Unit
Numbered (Page id rank pages) = Unit
Numbered (Fill quotient remainder slots) = Unit

-- A single call of domain d's, number c, as a run makes it, and the same on views.
record Single (z : Sizes) (d c : ℕ) (call : List ℕ → ℕ → Outcome) (on : View → ℕ → Look) : Type 0 where
  own : (r : List ℕ) (f : ℕ) → Sound z r → f < z.frames → outside r f ≡ true → Ordinary z r d → Mine z r d f → (get_or (answer_words (call r f).answer) 0 0 ≡ 13 → ⊥) → Shows z c d (call r f) (on (view_of z r d) f)
  same_live : (v : View) (f : ℕ) → (on v f).view.live-word ≡ v.live-word
  sound : (r : List ℕ) (f : ℕ) → Sound z r → f < z.frames → outside r f ≡ true → Ordinary z r d → Sound z (call r f).words
  holes : (r : List ℕ) (f : ℕ) → Sound z r → f < z.frames → HolesKept r (call r f).words
  harmless : (r : List ℕ) (f : ℕ) → Sound z r → f < z.frames → Ordinary z r d → Harmless z r (call r f).words d (λ _. Unit)
  numbered : (r : List ℕ) (f : ℕ) → Numbered (call r f).answer

-- Map and unmap leave the word live.
map_live : (v : View) (f : ℕ) → (map_view v f).view.live-word ≡ v.live-word
unfolding map_view given_view taken_view
map_live v f = go (eqb (v.place f) 0) (ltb (place_entry (world_of v)) (512 * v.treelings))
  where
    go : (b c : Bool) → (cond b (cond c (given_view v f (place_entry (world_of v))) (given_view (taken_view v) f (512 * v.treelings))) (look (seen_number 12) v)).view.live-word ≡ v.live-word
    go true true = refl
    go true false = refl
    go false c = refl

unmap_live : (v : View) (f : ℕ) → (unmap_view v f).view.live-word ≡ v.live-word
unfolding unmap_view released_view marked_view gathered_view
unmap_live v f = go (eqb (v.place f) 0) (release_step (world_of v) n i)
  where
    n : ℕ
    n = (v.place f - 1) / 8

    i : ℕ
    i = (v.place f - 1) % 8

    go : (b : Bool) (x : Step) → (cond b (look (seen_number 14) v) (released_view v f n i x)).view.live-word ≡ v.live-word
    go true x = refl
    go false (mark j a) = refl
    go false regather = refl

module _ (z : Sizes) (d : ℕ) (below : d < z.domains) where
  -- 3 map; 4 unmap.
  single_map : Single z d 3 (λ r. map_call z r d) map_view
  unfolding page_at
  single_map =
      record {
        own = λ r f h. own_map z r d f h below;
        same_live = map_live;
        sound = λ r f h l out is. map_cases z r d f (λ o. Sound z o.words) (λ _. h) (λ _ _. h) (λ _ none _. placing_sound z r d f h below l out is none);
        holes = λ r f h l. map_cases z r d f (λ o. HolesKept r o.words) (λ _ j _ _. refl) (λ _ _ j _ _. refl) (λ _ _ _. placing_holes z r d f h below l);
        harmless = λ r f h l o. map_harmless z r d f (λ _. Unit) h below l o tt;
        numbered = λ r f. map_cases z r d f (λ o. Numbered o.answer) (λ _ is. omega arith) (λ _ _ is. omega arith) (λ _ _ _. tt);
      }

  single_unmap : Single z d 4 (λ r. unmap_call z r d) unmap_view
  single_unmap =
      record {
        own = λ r f h l _ _ _ _. own_unmap z r d f h below l;
        same_live = unmap_live;
        sound = λ r f h l _ is. unmap_cases z r d f (λ o. Sound z o.words) (λ _. h) (released_sound z r d f h below is l);
        holes = λ r f h l. unmap_cases z r d f (λ o. HolesKept r o.words) (λ _ j _ _. refl) (λ m. released_holes z r d f h below (mapped_ordinary z r d f h l m) l m);
        harmless = λ r f h l _. unmap_harmless z r d f (λ _. Unit) h below l;
        numbered = λ r f. unmap_cases z r d f (λ o. Numbered o.answer) (λ _ is. omega arith) (λ _. tt);
      }

-- The number is seen.
pub number_seen : (c : ℕ) (a : List ℕ) → get_or (seen c a) 0 0 ≡ get_or a 0 0
unfolding seen
number_seen c a = go ((eqb c 3 || eqb c 5) && eqb (get_or a 0 0) 0)
  where
    go : (b : Bool) → get_or (cond b (get_or a 0 0 ∷ get_or a 1 0 ∷ 0 ∷ get_or a 3 0 % 8 ∷ get_or a 4 0 % 64 ∷ get_or a 5 0 % 512 ∷ get_or a 6 0 ∷ get_or a 7 0 ∷ []) a) 0 0 ≡ get_or a 0 0
    go true = refl
    go false = refl

-- ---- Runs
-- A run from words s and the same run on the view of s: both go on, the frames kept, or both stopped at the same number.
abbrev Alike : (z : Sizes) (s : List ℕ) (d : ℕ) → Run → RunView → Type 0
Alike z s d (Run.going r) (RunView.going v) =
    Sound z r × (view_of z r d ≡ v) × Ordinary z r d × ((g : ℕ) → g < z.frames → Mine z s d g → Mine z r d g) × HolesKept s r
Alike z s d (Run.going r) (RunView.stopped j) = ⊥
Alike z s d (Run.stopped k) (RunView.going v) = ⊥
Alike z s d (Run.stopped k) (RunView.stopped j) = k ≡ j

module _ (z : Sizes) (s : List ℕ) (d : ℕ) (below : d < z.domains) (b : ℕ) (call : List ℕ → ℕ → Outcome) (on : View → ℕ → Look) (one : Single z d b call on) where
  -- A call that is done keeps a sound state, an ordinary domain and its frames.
  done_going : (r : List ℕ) (x : ℕ) → Sound z r → Ordinary z r d → ((g : ℕ) → g < z.frames → Mine z s d g → Mine z r d g) → HolesKept s r → x < z.frames → outside r x ≡ true
      → view_of z (call r x).words d ≡ (on (view_of z r d) x).view → Alike z s d (Run.going (call r x).words) (RunView.going (on (view_of z r d) x).view)
  unfolding view_of
  done_going r x h is kept holes l out viewed = (
    one.sound r x h l out is,
    viewed,
    ap (λ (v : View). v.live-word) viewed ∙ one.same_live (view_of z r d) x ∙ is,
    λ g m mine. harmless_mine z r (call r x).words d d g (λ _. Unit) h.leaf_range below m (one.harmless r x h l is) (λ apart _. apart refl) (kept g m mine),
    λ j low high. one.holes r x h l j low high ∙ holes j low high,
  )

  -- One call more, from words r where the run goes on,
  step_going : (r : List ℕ) (x : ℕ) → Sound z r → Ordinary z r d → ((g : ℕ) → g < z.frames → Mine z s d g → Mine z r d g) → HolesKept s r → x < z.frames → outside r x ≡ true → Mine z s d x
      → (run_step call x (Run.going r) ≡ Run.stopped 13 → ⊥) → Alike z s d (run_step call x (Run.going r)) (step_view on x (RunView.going (view_of z r d)))
  unfolding run_step go_on step_view answer_words
  step_going r x h is kept holes l out mine never = by_answer (call r x).answer refl
    where
      w : ℕ
      w = get_or (on (view_of z r d) x).sight 0 0

      told : ℕ
      told = get_or (answer_words (call r x).answer) 0 0

      own : (told ≡ 13 → ⊥) → (told ≡ w) × (view_of z (call r x).words d ≡ (on (view_of z r d) x).view)
      own apart =
          let o = one.own r x h l out is (kept x l mine) apart in
          (sym (number_seen b (answer_words (call r x).answer)) ∙ ap (λ (a : List ℕ). get_or a 0 0) o.0, o.1)

      on_done : told ≡ 0 → Alike z s d (Run.going (call r x).words) (cond (eqb w 0) (RunView.going (on (view_of z r d) x).view) (RunView.stopped w))
      on_done zero_is =
          let o = own (λ is13. omega arith) in
          rw (eq-eqb w 0 (sym o.0 ∙ zero_is)) (done_going r x h is kept holes l out o.1)

      by_answer : (a : Answer) → (call r x).answer ≡ a → Alike z s d (go_on (call r x) a) (cond (eqb w 0) (RunView.going (on (view_of z r d) x).view) (RunView.stopped w))
      by_answer (Refused k) e =
          let number : told ≡ k = ap (λ (a : Answer). get_or (answer_words a) 0 0) e in
          let some : k ≡ 0 → ⊥ = subst (λ (a : Answer). Numbered a) e (one.numbered r x) in
          let o = own (λ is13. never (ap (go_on (call r x)) e ∙ ap Run.stopped (sym number ∙ is13))) in
          rw (ne_eqb w 0 (λ none. some (sym number ∙ o.0 ∙ none))) (sym number ∙ o.0)
      by_answer (Finished p) e = on_done (ap (λ (a : Answer). get_or (answer_words a) 0 0) e)
      by_answer (Page id q p) e = on_done (ap (λ (a : Answer). get_or (answer_words a) 0 0) e)
      by_answer (Fill q m n) e = on_done (ap (λ (a : Answer). get_or (answer_words a) 0 0) e)

  -- and from wherever it is.
  step_alike : (x : ℕ) → hole_count s ≤ 8 → x < z.frames → outside s x ≡ true → Mine z s d x → (run : Run) (rv : RunView) → Alike z s d run rv → (run_step call x run ≡ Run.stopped 13 → ⊥) → Alike z s d (run_step call x run) (step_view on x rv)
  unfolding run_step step_view
  step_alike x most l out mine (Run.going r) (RunView.going v) a never =
      subst (λ (v : View). Alike z s d (run_step call x (Run.going r)) (step_view on x (RunView.going v))) a.1 (step_going r x a.0 a.2 a.3 a.4 l (outside_kept s r a.4 most x ∙ out) mine never)
  step_alike x most l out mine (Run.going r) (RunView.stopped j) a never = absurd a
  step_alike x most l out mine (Run.stopped k) (RunView.going v) a never = absurd a
  step_alike x most l out mine (Run.stopped k) (RunView.stopped j) a never = a

  -- The calls of n frames, none answered 13.
  run_alike : (f n : ℕ) → Sound z s → Ordinary z s d → f + n ≤ z.frames → ((i : ℕ) → i < n → outside s (f + i) ≡ true) → ((g : ℕ) → f ≤ g → g < f + n → Mine z s d g)
      → (run_of call s f n ≡ Run.stopped 13 → ⊥) → Alike z s d (run_of call s f n) (run_view on (view_of z s d) f n)
  unfolding run_of run_view run_step
  run_alike f zero h is l out mine never = (h, refl, is, λ g m k. k, λ j _ _. refl)
  run_alike f (suc n) h is l out mine never =
      step_alike (f + n) h.laid_out.holes_fit_lem.at_most (omega arith) (out n (omega arith)) (mine (f + n) (omega arith) (omega arith)) (run_of call s f n) (run_view on (view_of z s d) f n)
      (run_alike f n h is (omega arith) (λ i k. out i (omega arith)) (λ g m k. mine g m (omega arith)) (λ no. never (ap (run_step call (f + n)) no)))
      never

  -- The whole run: what is seen of it, and the view after it.
  whole_alike : (c n : ℕ) → (eqb c 3 || eqb c 5) ≡ false → (run : Run) (rv : RunView) → Alike z s d run rv
      → Shows z c d (whole_run s n run) (whole_view (view_of z s d) n rv)
  unfolding whole_run whole_view seen answer_words
  whole_alike c n other (Run.going r) (RunView.going v) a = (seen_finished c n other, a.1)
  whole_alike c n other (Run.going r) (RunView.stopped j) a = absurd a
  whole_alike c n other (Run.stopped k) (RunView.going v) a = absurd a
  whole_alike c n other (Run.stopped k) (RunView.stopped j) a = (rw other (ap seen_number a), refl)

  -- A run of the domain's own: where it is not answered 13.
  run_seen : (c f n : ℕ) → (eqb c 3 || eqb c 5) ≡ false → Sound z s → Ordinary z s d → f + n ≤ z.frames → ((i : ℕ) → i < n → outside s (f + i) ≡ true) → ((g : ℕ) → f ≤ g → g < f + n → Mine z s d g)
      → (get_or (answer_words (whole_run s n (run_of call s f n)).answer) 0 0 ≡ 13 → ⊥)
      → Shows z c d (whole_run s n (run_of call s f n)) (whole_view (view_of z s d) n (run_view on (view_of z s d) f n))
  unfolding whole_run answer_words
  run_seen c f n other h is l out mine never =
      whole_alike c n other (run_of call s f n) (run_view on (view_of z s d) f n)
      (run_alike f n h is l out mine (λ no. never (ap (λ (run : Run). get_or (answer_words (whole_run s n run).answer) 0 0) no)))

module _ (z : Sizes) (s : List ℕ) (d f n : ℕ) (h : Sound z s) (below : d < z.domains) (is : Ordinary z s d) (fits : f + n ≤ z.frames)
    (out : (i : ℕ) → i < n → outside s (f + i) ≡ true) (mine : (g : ℕ) → f ≤ g → g < f + n → Mine z s d g) where
  -- 6 map run; 7 unmap run.
  pub own_map_run : (get_or (answer_words (map_run_call z s d f n).answer) 0 0 ≡ 13 → ⊥)
      → Shows z 6 d (map_run_call z s d f n) (whole_view (view_of z s d) n (run_view map_view (view_of z s d) f n))
  unfolding map_run_call
  own_map_run never = run_seen z s d below 3 (λ r. map_call z r d) map_view (single_map z d below) 6 f n refl h is fits out mine never

  pub own_unmap_run : (get_or (answer_words (unmap_run_call z s d f n).answer) 0 0 ≡ 13 → ⊥)
      → Shows z 7 d (unmap_run_call z s d f n) (whole_view (view_of z s d) n (run_view unmap_view (view_of z s d) f n))
  unfolding unmap_run_call
  own_unmap_run never = run_seen z s d below 4 (λ r. unmap_call z r d) unmap_view (single_unmap z d below) 7 f n refl h is fits out mine never
