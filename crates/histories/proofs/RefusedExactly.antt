-- Demand 2, of the definitions: each number is answered precisely in its case.
-- Assumes nothing.
use Prim.Native.Nat.{ℕ, ◌+◌, ◌-◌, ◌<◌, ◌≤◌}
use mathlib.Core.Path.{◌≡◌, refl, sym, ap, subst, ◌∙◌}
use mathlib.Core.List.{List}
use mathlib.Core.Bool.{Bool, true, false, false≢true}
use mathlib.Core.Logic.{◌⊎◌, inl, inr, ⊎_elim}
use native.Mathlib.Omega.{arith}
use borrow.Author.Tests.{eqb-true, eq-eqb, ne_eqb, lt-ltb, ltb-true, le-leb}
use lib.Dec.{eqb, ltb}
use Rattle.layout.specs.declared.Sizes.{Sizes}
use Rattle.board.specs.Holes.{outside}
use Rattle.layout.specs.Places.{get, leaf, live}
use Rattle.layout.proofs.BoundedLaws.{is_false, and_both, and_of, all_of}
use Rattle.sound.specs.Sentences.{is_live, is_mapped_by}
use Rattle.sound.specs.Sound.{Sound, Live, Ordinary}
use Rattle.sound.proofs.TestLaws.{live_ordinary}
use Rattle.placing.proofs.NoPlace.{no_place as place_none}
use Rattle.pages.specs.Answers.{Refused, Outcome}
use Rattle.calls.specs.Table.{Uses, DomainOnly, OneFrame, FrameAndCount, NoCall, calls, line_of, call_of}
use Rattle.domains.specs.Opening.{open_call}
use Rattle.domains.specs.Closing.{close_call}
use Rattle.pages.specs.Mapping.{mapping, map_call}
use Rattle.pages.specs.Unmapping.{unmap_call}
use Rattle.pages.specs.Paths.{path_call}
use Rattle.runs.specs.Runs.{Run, going, longest_run, run_of, whole_run, map_run_call, unmap_run_call}
use Rattle.domains.specs.Trimming.{trim_call}
use Rattle.domains.specs.Filling.{fill_call}
use Rattle.pages.proofs.CallLaws.{map_cases, unmap_cases, path_cases}
use Rattle.calls.proofs.CallsKept.{finished_passes, page_passes}
use Rattle.domains.proofs.FillLaws.{fill_passes}
use Rattle.runs.proofs.RunLaws.{Held}
use Rattle.runs.proofs.RunSound.{Mapped, map_run_held}
use Rattle.calls.proofs.TableLaws.{Legal, OutsideHoles, Asked, line_found}
use Rattle.questions.specs.Questions.{well_formed, frames_fit, frames_outside, liveness_refusal, refusal_of, answering}
use Rattle.questions.proofs.AnsweringCases.{legal_facts, outside_facts, number_7, number_8, number_9, number_16, liveness_last, asking_refused, asking_done, asking_by}
use Rattle.histories.specs.NoPlace.{Reaches, NoPlaceFor, ReachesNoPlace}
use Rattle.histories.specs.Refusals.{IsCall, call_1, call_2, call_3, call_4, call_5, call_6, call_7, call_8, call_11, UnusedZero, Formed, FramesFit, InNoHole, WordsPass, LivePass, Refusal, malformed, no_domain, no_frames, in_hole, live_already, not_live, mapped, mapped_in_run, no_place, no_place_in_run, not_mapped, not_mapped_in_run}
use Rattle.histories.specs.Demands.{RefusedExactly, MapDoneOr13, MapNoPlace, MapRunNoPlace}
use Rattle.histories.proofs.RunStops.{run_refused}

-- ---- Questions 7, 9 and 16, as facts
-- A fact of each call.
of_each : (P : ℕ → Type 0) → P 1 → P 2 → P 3 → P 4 → P 5 → P 6 → P 7 → P 8 → P 11 → {c : ℕ} {u : Uses} {o : Bool} → IsCall c u o → P c
of_each P p1 p2 p3 p4 p5 p6 p7 p8 p11 call_1 = p1
of_each P p1 p2 p3 p4 p5 p6 p7 p8 p11 call_2 = p2
of_each P p1 p2 p3 p4 p5 p6 p7 p8 p11 call_3 = p3
of_each P p1 p2 p3 p4 p5 p6 p7 p8 p11 call_4 = p4
of_each P p1 p2 p3 p4 p5 p6 p7 p8 p11 call_5 = p5
of_each P p1 p2 p3 p4 p5 p6 p7 p8 p11 call_6 = p6
of_each P p1 p2 p3 p4 p5 p6 p7 p8 p11 call_7 = p7
of_each P p1 p2 p3 p4 p5 p6 p7 p8 p11 call_8 = p8
of_each P p1 p2 p3 p4 p5 p6 p7 p8 p11 call_11 = p11

-- It uses the words that the table says, and opens the domain where the table says so.
listed : {c : ℕ} {u : Uses} {o : Bool} → IsCall c u o → (u ≡ (call_of c).uses) × (o ≡ (call_of c).opens)
unfolding line_of calls
listed call_1 = (refl, refl)
listed call_2 = (refl, refl)
listed call_3 = (refl, refl)
listed call_4 = (refl, refl)
listed call_5 = (refl, refl)
listed call_6 = (refl, refl)
listed call_7 = (refl, refl)
listed call_8 = (refl, refl)
listed call_11 = (refl, refl)

used : {c : ℕ} {u : Uses} {o : Bool} → IsCall c u o → u ≡ (call_of c).uses
used line = (listed line).0

opening : {c : ℕ} {u : Uses} {o b : Bool} → IsCall c u o → o ≡ b → (call_of c).opens ≡ b
opening line is = sym (listed line).1 ∙ is

-- Well formed words that are call k's use what it uses.
uses_as : (c k f n : ℕ) → c ≡ k → (w : Formed c f n) → w.uses ≡ (call_of k).uses
uses_as c k f n is w = used w.is_call ∙ ap (λ (x : ℕ). (call_of x).uses) is

module _ (f n : ℕ) where
  zero_test : (u : Uses) → UnusedZero u f n → well_formed u f n ≡ true
  zero_test DomainOnly w = and_of (eq-eqb f 0 w.0) (eq-eqb n 0 w.1)
  zero_test OneFrame w = eq-eqb n 0 w
  zero_test FrameAndCount w = refl
  zero_test NoCall w = absurd w

  test_zero : (u : Uses) → well_formed u f n ≡ true → UnusedZero u f n
  test_zero DomainOnly e = let w = and_both (eqb f 0) (eqb n 0) e in (eqb-true f 0 w.0, eqb-true n 0 w.1)
  test_zero OneFrame e = eqb-true n 0 e
  test_zero FrameAndCount e = tt
  test_zero NoCall e = absurd (false≢true e)

  formed_test : (c : ℕ) → Formed c f n → well_formed (call_of c).uses f n ≡ true
  formed_test c w = subst (λ (u : Uses). well_formed u f n ≡ true) (used w.is_call) (zero_test w.uses w.unused_zero_lem)

  has_line : (c : ℕ) → well_formed (call_of c).uses f n ≡ true → IsCall c (call_of c).uses (call_of c).opens
  unfolding calls
  has_line c =
      line_found (λ x k. well_formed k.uses f n ≡ true → IsCall x k.uses k.opens) c (λ e. absurd (false≢true e)) calls
      ((λ _. call_1), ((λ _. call_2), ((λ _. call_3), ((λ _. call_4), ((λ _. call_5), ((λ _. call_6), ((λ _. call_7), ((λ _. call_8), ((λ _. call_11), tt)))))))))

  test_formed : (c : ℕ) → well_formed (call_of c).uses f n ≡ true → Formed c f n
  test_formed c e = record { uses = (call_of c).uses; opens = (call_of c).opens; is_call = has_line c e; unused_zero_lem = test_zero (call_of c).uses e }

module _ (z : Sizes) (f n : ℕ) where
  fit_test : (u : Uses) → FramesFit z u f n → frames_fit z u f n ≡ true
  fit_test DomainOnly w = refl
  fit_test OneFrame w = lt-ltb f z.frames w
  fit_test FrameAndCount w =
      and_of (and_of (lt-ltb f z.frames w.0) (and_of (le-leb 1 n w.1) (le-leb n (z.frames - f) w.2))) (le-leb n longest_run w.3)
  fit_test NoCall w = absurd w

  legal_fit : (u : Uses) → Legal z u f n → FramesFit z u f n
  legal_fit DomainOnly w = tt
  legal_fit OneFrame w = w
  legal_fit FrameAndCount w = (omega (arith, w.0, w.1), w.0, omega (arith, w.0, w.1), w.2)
  legal_fit NoCall w = w

module _ (z : Sizes) (s : List ℕ) (f n : ℕ) where
  hole_test : (u : Uses) → InNoHole s u f n → frames_outside s u f n ≡ true
  hole_test DomainOnly w = refl
  hole_test OneFrame w = w
  hole_test FrameAndCount w = all_of n (λ i. outside s (f + i)) w
  hole_test NoCall w = absurd w

  outside_fit : (u : Uses) → Legal z u f n → OutsideHoles s u f n → InNoHole s u f n
  outside_fit DomainOnly l w = tt
  outside_fit OneFrame l w = w
  outside_fit FrameAndCount l w = w
  outside_fit NoCall l w = l

-- The same of the words that the table says, for well formed words.
module _ (z : Sizes) (s : List ℕ) (c f n : ℕ) (w : Formed c f n) where
  fit_called : FramesFit z w.uses f n → frames_fit z (call_of c).uses f n ≡ true
  fit_called fits = subst (λ (u : Uses). frames_fit z u f n ≡ true) (used w.is_call) (fit_test z f n w.uses fits)

  called_fit : Legal z (call_of c).uses f n → FramesFit z w.uses f n
  called_fit legal = subst (λ (u : Uses). FramesFit z u f n) (sym (used w.is_call)) (legal_fit z f n (call_of c).uses legal)

  hole_called : InNoHole s w.uses f n → frames_outside s (call_of c).uses f n ≡ true
  hole_called out = subst (λ (u : Uses). frames_outside s u f n ≡ true) (used w.is_call) (hole_test z s f n w.uses out)

  called_outside : Legal z (call_of c).uses f n → OutsideHoles s (call_of c).uses f n → InNoHole s w.uses f n
  called_outside legal out = subst (λ (u : Uses). InNoHole s u f n) (sym (used w.is_call)) (outside_fit z s f n (call_of c).uses legal out)

-- Words that pass, of call k.
module _ (z : Sizes) (s : List ℕ) (c d f n : ℕ) (w : WordsPass z s c d f n) (k : ℕ) (is : c ≡ k) where
  frames_as : FramesFit z (call_of k).uses f n
  frames_as = subst (λ (u : Uses). FramesFit z u f n) (uses_as c k f n is w.formed) w.frames

  holes_as : InNoHole s (call_of k).uses f n
  holes_as = subst (λ (u : Uses). InNoHole s u f n) (uses_as c k f n is w.formed) w.in_no_hole

-- ---- A request that passes the questions
module _ (z : Sizes) (s : List ℕ) (c d f n : ℕ) (h : Sound z s) where
  -- It is asked 10 or 11 next.
  liveness_next : WordsPass z s c d f n → refusal_of z s (call_of c) d f n ≡ liveness_refusal (call_of c).opens (is_live z s d)
  liveness_next w =
      liveness_last z s (call_of c) d f n (formed_test f n c w.formed) (lt-ltb d z.domains w.domain) (fit_called z s c f n w.formed w.frames) (hole_called z s c f n w.formed w.in_no_hole)

  -- It is what its call does.
  performed : WordsPass z s c d f n → (call_of c).opens ≡ false → Live z s d → answering z s c d f n ≡ (call_of c).does z s d f n
  performed w others alive =
      sym (asking_done z s (call_of c) d f n (liveness_next w ∙ rw (others, eq-eqb (get z s (live d)) 1 alive)))

  -- As a refusal of call k.
  call_refused : (k j : ℕ) → c ≡ k → (call_of k).opens ≡ false → LivePass z s c d f n → ((call_of k).does z s d f n).answer ≡ Refused j → (answering z s c d f n).answer ≡ Refused j
  call_refused k j is others w e =
      ap (λ (o : Outcome). o.answer) (performed w.words_pass (ap (λ (x : ℕ). (call_of x).opens) is ∙ others) w.alive)
      ∙ ap (λ (x : ℕ). ((call_of x).does z s d f n).answer) is
      ∙ e

-- ---- The single calls
module _ (z : Sizes) (s : List ℕ) (d f : ℕ) where
  map_taken : (get z s (leaf f) ≡ 0 → ⊥) → (map_call z s d f).answer ≡ Refused 12
  unfolding map_call
  map_taken some = rw (ne_eqb (get z s (leaf f)) 0 some)

  map_nowhere : Sound z s → d < z.domains → Ordinary z s d → NoPlaceFor z d s f → (map_call z s d f).answer ≡ Refused 13
  unfolding map_call mapping
  map_nowhere h l o w =
      rw (eq-eqb (get z s (leaf f)) 0 w.unmapped, (place_none z s d f h l o).1 (w.all_in_use, w.all-owned))

  unmap_others : is_mapped_by z s d f ≡ false → (unmap_call z s d f).answer ≡ Refused 14
  unfolding unmap_call
  unmap_others other = rw other

  path_others : is_mapped_by z s d f ≡ false → (path_call z s d f).answer ≡ Refused 14
  unfolding path_call
  path_others other = rw other

  -- The numbers that a map and an unmap may hear, each in its case.
  map_hears : Sound z s → d < z.domains → Ordinary z s d → (P : ℕ → Type 0) → ((get z s (leaf f) ≡ 0 → ⊥) → P 12) → (NoPlaceFor z d s f → P 13) → (j : ℕ) → (map_call z s d f).answer ≡ Refused j → P j
  map_hears h l o P taken nowhere j =
      map_cases z s d f (λ o. o.answer ≡ Refused j → P j)
      (λ some e. subst P (cc) (taken some))
      (λ none is e. let full = (place_none z s d f h l o).0 is in subst P (cc) (nowhere (record { unmapped = none; all_in_use = full.0; all-owned = full.1 })))
      (λ id _ _. page_passes z _ id.0 1 j)

  unmap_hears : (P : ℕ → Type 0) → (is_mapped_by z s d f ≡ false → P 14) → (j : ℕ) → (unmap_call z s d f).answer ≡ Refused j → P j
  unmap_hears P others j =
      unmap_cases z s d f (λ o. o.answer ≡ Refused j → P j)
      (λ no e. subst P (cc) (others no))
      (λ _. finished_passes 1 j)

-- ---- The runs
module _ (z : Sizes) (s : List ℕ) (d f n : ℕ) (h : Sound z s) (l : d < z.domains) (m : f + n ≤ z.frames) where
  -- The words that a run reaches are sound, and the domain is ordinary still.
  maps_sound : ((i : ℕ) → i < n → outside s (f + i) ≡ true) → Ordinary z s d → (i : ℕ) (r : List ℕ) → i < n → run_of (λ t. map_call z t d) s f i ≡ going r → Sound z r × Ordinary z r d
  maps_sound out o i r k reached =
      let held = subst (λ (x : Run). Held (Mapped z s d f i h l (omega arith)) i x) reached (map_run_held z s d f i h l (omega arith) (λ j lj. out j (omega arith)) o) in
      (held.0, held.1)

  -- What a run of maps hears, of the frame that it has reached.
  map_run_hears : ((i : ℕ) → i < n → outside s (f + i) ≡ true) → Ordinary z s d → (P : ℕ → Type 0) → (Reaches (λ r. map_call z r d) s f n (λ r g. get z r (leaf g) ≡ 0 → ⊥) → P 12) → (ReachesNoPlace z s d f n → P 13)
      → (j : ℕ) → (map_run_call z s d f n).answer ≡ Refused j → P j
  unfolding map_run_call
  map_run_hears out o P taken nowhere j e =
      let w = (run_refused (λ r. map_call z r d) s f n j).0 e in
      let there = maps_sound out o w.index w.words w.index_below w.reached in
      map_hears z w.words d (f + w.index) there.0 l there.1 P
      (λ some. taken (record { index = w.index; index_below = w.index_below; words = w.words; reached = w.reached; there = some }))
      (λ none. nowhere (record { index = w.index; index_below = w.index_below; words = w.words; reached = w.reached; there = none }))
      j w.there

  unmap_run_hears : (P : ℕ → Type 0) → (Reaches (λ r. unmap_call z r d) s f n (λ r g. is_mapped_by z r d g ≡ false) → P 14) → (j : ℕ) → (unmap_run_call z s d f n).answer ≡ Refused j → P j
  unfolding unmap_run_call
  unmap_run_hears P others j e =
      let w = (run_refused (λ r. unmap_call z r d) s f n j).0 e in
      unmap_hears z w.words d (f + w.index) P
      (λ apart. others (record { index = w.index; index_below = w.index_below; words = w.words; reached = w.reached; there = apart }))
      j w.there

-- A run that reaches a frame that is refused is refused so.
reaches_refused : (single : List ℕ → ℕ → Outcome) (s : List ℕ) (f n j : ℕ) (P : List ℕ → ℕ → Type 0) (w : Reaches single s f n P) → (single w.words (f + w.index)).answer ≡ Refused j
    → (whole_run s n (run_of single s f n)).answer ≡ Refused j
reaches_refused single s f n j P w e =
    (run_refused single s f n j).1 (record { index = w.index; index_below = w.index_below; words = w.words; reached = w.reached; there = e })

-- ---- The request
module _ (z : Sizes) (s : List ℕ) (c d f n k : ℕ) (h : Sound z s) where
  -- What a call hears that passes the questions.
  hears : Formed c f n → Asked z s (call_of c) d f n → ((call_of c).does z s d f n).answer ≡ Refused k → Refusal z s c d f n k
  unfolding line_of calls open_call close_call trim_call fill_call
  hears formed =
      of_each (λ x. Formed x f n → Asked z s (call_of x) d f n → ((call_of x).does z s d f n).answer ≡ Refused k → Refusal z s x d f n k)
      (λ _ _. finished_passes 0 k)
      (λ _ _. finished_passes _ k)
      (λ w a. let p = passes 3 w refl a in map_hears z s d f h a.below (live_ordinary z s d (a.alive refl)) (Refusal z s 3 d f n) (mapped p refl) (no_place p refl) k)
      (λ w a. let p = passes 4 w refl a in unmap_hears z s d f (Refusal z s 4 d f n) (not_mapped p (inl refl)) k)
      (λ w a. let p = passes 5 w refl a in
      path_cases z s d f (λ o. o.answer ≡ Refused k → Refusal z s 5 d f n k)
      (λ others e. subst (Refusal z s 5 d f n) (cc) (not_mapped p (inr refl) others))
      (λ _. page_passes z s (get z s (leaf f)) 0 k))
      (λ w a. let p = passes 6 w refl a in map_run_hears z s d f n h a.below a.legal.1 a.in_no_hole (live_ordinary z s d (a.alive refl)) (Refusal z s 6 d f n) (mapped_in_run p refl) (no_place_in_run p refl) k)
      (λ w a. let p = passes 7 w refl a in unmap_run_hears z s d f n h a.below a.legal.1 (Refusal z s 7 d f n) (not_mapped_in_run p refl) k)
      (λ _ _. finished_passes _ k)
      (λ _ _. fill_passes _ _ k)
      formed.is_call formed
    where
      passes : (x : ℕ) → Formed x f n → (call_of x).opens ≡ false → Asked z s (call_of x) d f n → LivePass z s x d f n
      passes x w others a =
          record {
            words_pass = record { formed = w; domain = a.below; frames = called_fit z s x f n w a.legal; in_no_hole = called_outside z s x f n w a.legal a.in_no_hole };
            alive = a.alive others;
          }

  there : (answering z s c d f n).answer ≡ Refused k → Refusal z s c d f n k
  there =
      asking_by z s (call_of c) d f n (λ o. o.answer ≡ Refused k → Refusal z s c d f n k)
      (record {
        no_7 = λ e is. said 7 is (malformed (λ w. false≢true (sym e ∙ formed_test f n c w)));
        no_8 = λ e above is. said 8 is (no_domain (test_formed f n c e) (λ l. false≢true (sym above ∙ lt-ltb d z.domains l)));
        no_9 = λ e l illegal is. said 9 is (no_frames (test_formed f n c e) l (λ w. false≢true (sym illegal ∙ fit_called z s c f n (test_formed f n c e) w)));
        no_16 = λ e l legal inside is. said 16 is (in_hole (test_formed f n c e) l (called_fit z s c f n (test_formed f n c e) legal) (λ w. false≢true (sym inside ∙ hole_called z s c f n (test_formed f n c e) w)));
        no_10 = λ e l legal out opens alive is. let w = words e l legal out in said 10 is (live_already w ((listed w.formed.is_call).1 ∙ opens) alive);
        no_11 = λ e l legal out others dead is. let w = words e l legal out in said 11 is (not_live w ((listed w.formed.is_call).1 ∙ others) dead);
        passed = λ e a. hears (test_formed f n c e) a;
      })
    where
      said : (j : ℕ) → Refused j ≡ Refused k → Refusal z s c d f n j → Refusal z s c d f n k
      said j e = subst (Refusal z s c d f n) (cc)

      words : well_formed (call_of c).uses f n ≡ true → d < z.domains → Legal z (call_of c).uses f n → OutsideHoles s (call_of c).uses f n → WordsPass z s c d f n
      words e l legal out =
          let w = test_formed f n c e in
          record { formed = w; domain = l; frames = called_fit z s c f n w legal; in_no_hole = called_outside z s c f n w legal out }

module _ (z : Sizes) (s : List ℕ) (c d f n : ℕ) (h : Sound z s) where
  -- Questions 7 to 11, and 16.
  said : {j : ℕ} → refusal_of z s (call_of c) d f n ≡ j → (j ≡ 0 → ⊥) → (answering z s c d f n).answer ≡ Refused j
  said {j} is some = sym (ap (λ (o : Outcome). o.answer) (asking_refused z s (call_of c) d f n j (sym is) some))

  number_10 : (w : WordsPass z s c d f n) → w.formed.opens ≡ true → Live z s d → refusal_of z s (call_of c) d f n ≡ 10
  number_10 w opens alive = liveness_next z s c d f n h w ∙ rw (opening w.formed.is_call opens, eq-eqb (get z s (live d)) 1 alive)

  number_11 : (w : WordsPass z s c d f n) → w.formed.opens ≡ false → (Live z s d → ⊥) → refusal_of z s (call_of c) d f n ≡ 11
  number_11 w others dead = liveness_next z s c d f n h w ∙ rw (opening w.formed.is_call others, ne_eqb (get z s (live d)) 1 dead)

  -- The frames of a map run stay below P.
  run_ends : LivePass z s c d f n → c ≡ 6 → f + n ≤ z.frames
  unfolding line_of calls
  run_ends w is =
      let fits = frames_as z s c d f n w.words_pass 6 is in
      omega (arith, fits.0, fits.2)

  back : {k : ℕ} → Refusal z s c d f n k → (answering z s c d f n).answer ≡ Refused k
  unfolding line_of calls map_run_call unmap_run_call
  back (malformed not) =
      said (number_7 z s (call_of c) d f n (is_false (well_formed (call_of c).uses f n) (λ e. not (test_formed f n c e)))) (λ e. omega arith)
  back (no_domain formed not) =
      said (number_8 z s (call_of c) d f n (formed_test f n c formed) (is_false (ltb d z.domains) (λ e. not (ltb-true d z.domains e)))) (λ e. omega arith)
  back (no_frames formed l not) =
      said (number_9 z s (call_of c) d f n (formed_test f n c formed) (lt-ltb d z.domains l)
      (is_false (frames_fit z (call_of c).uses f n) (λ e. not (called_fit z s c f n formed (legal_facts z (call_of c).uses f n e))))) (λ e. omega arith)
  back (in_hole formed l fits inside) =
      let fit = fit_called z s c f n formed fits in
      said (number_16 z s (call_of c) d f n (formed_test f n c formed) (lt-ltb d z.domains l) fit
      (is_false (frames_outside s (call_of c).uses f n) (λ e. inside (called_outside z s c f n formed (legal_facts z (call_of c).uses f n fit) (outside_facts s (call_of c).uses f n e))))) (λ e. omega arith)
  back (live_already w opens alive) = said (number_10 w opens alive) (λ e. omega arith)
  back (not_live w others dead) = said (number_11 w others dead) (λ e. omega arith)
  back (mapped w is some) = call_refused z s c d f n h 3 12 is refl w (map_taken z s d f some)
  back (mapped_in_run w is r) =
      call_refused z s c d f n h 6 12 is refl w
      (reaches_refused (λ t. map_call z t d) s f n 12 _ r (map_taken z r.words d (f + r.index) r.there))
  back (no_place w is none) =
      call_refused z s c d f n h 3 13 is refl w (map_nowhere z s d f h w.words_pass.domain (live_ordinary z s d w.alive) none)
  back (no_place_in_run w is r) =
      let l = w.words_pass.domain in
      let there = maps_sound z s d f n h l (run_ends w is) (holes_as z s c d f n w.words_pass 6 is) (live_ordinary z s d w.alive) r.index r.words r.index_below r.reached in
      call_refused z s c d f n h 6 13 is refl w
      (reaches_refused (λ t. map_call z t d) s f n 13 _ r (map_nowhere z r.words d (f + r.index) there.0 l there.1 r.there))
  back (not_mapped w which others) =
      ⊎_elim
      (λ is. call_refused z s c d f n h 4 14 is refl w (unmap_others z s d f others))
      (λ is. call_refused z s c d f n h 5 14 is refl w (path_others z s d f others))
      which
  back (not_mapped_in_run w is r) =
      call_refused z s c d f n h 7 14 is refl w
      (reaches_refused (λ t. unmap_call z t d) s f n 14 _ r (unmap_others z r.words d (f + r.index) r.there))

pub refused_exactly : RefusedExactly answering
refused_exactly z s c d f n k h = (there z s c d f n k h, back z s c d f n h)

-- ---- No place
-- The lines of the table with 13: of a map, and of a run of maps.
pub lines_13 : {z : Sizes} {s : List ℕ} {c d f n j : ℕ} → Refusal z s c d f n j → j ≡ 13 → ((c ≡ 3) × NoPlaceFor z d s f) ⊎ ((c ≡ 6) × (n ≤ longest_run) × ReachesNoPlace z s d f n)
unfolding line_of calls
lines_13 (malformed not) e = absurd (omega arith)
lines_13 (no_domain formed not) e = absurd (omega arith)
lines_13 (no_frames formed l not) e = absurd (omega arith)
lines_13 (in_hole formed l fits inside) e = absurd (omega arith)
lines_13 (live_already w is alive) e = absurd (omega arith)
lines_13 (not_live w other dead) e = absurd (omega arith)
lines_13 (mapped w is some) e = absurd (omega arith)
lines_13 (mapped_in_run w is r) e = absurd (omega arith)
lines_13 (no_place w is none) e = inl (is, none)
lines_13 {z} {s} {c} {d} {f} {n} (no_place_in_run w is r) e = inr (is, (frames_as z s c d f n w.words_pass 6 is).3, r)
lines_13 (not_mapped w which others) e = absurd (omega arith)
lines_13 (not_mapped_in_run w is r) e = absurd (omega arith)

-- A map of an unmapped frame: its words pass, so of the numbers only 13 is left.
module _ (z : Sizes) (s : List ℕ) (d f : ℕ) (h : Sound z s) (l : d < z.domains) (m : f < z.frames) (out : outside s f ≡ true) (alive : Live z s d) (none : get z s (leaf f) ≡ 0) where
  map_passes : LivePass z s 3 d f 0
  map_passes =
      record {
        words_pass = record {
          formed = record { uses = OneFrame; opens = false; is_call = call_3; unused_zero_lem = refl };
          domain = l;
          frames = m;
          in_no_hole = out;
        };
        alive = alive;
      }

  only_13 : {j : ℕ} → Refusal z s 3 d f 0 j → (j ≡ 13) × NoPlaceFor z d s f
  unfolding line_of calls
  only_13 (malformed not) = absurd (not map_passes.words_pass.formed)
  only_13 (no_domain formed not) = absurd (not l)
  only_13 (no_frames formed _ not) = absurd (not (called_fit z s 3 f 0 formed m))
  only_13 (in_hole formed _ fits inside) = absurd (inside (called_outside z s 3 f 0 formed m out))
  only_13 (live_already w opens _) = absurd (false≢true (opening w.formed.is_call opens))
  only_13 (not_live w other dead) = absurd (dead alive)
  only_13 (mapped w is some) = absurd (some none)
  only_13 (mapped_in_run w is r) = absurd (omega arith)
  only_13 (no_place w is full) = (refl, full)
  only_13 (no_place_in_run w is r) = absurd (omega arith)
  only_13 (not_mapped w which others) = absurd (⊎_elim (λ is. omega arith) (λ is. omega arith) which)
  only_13 (not_mapped_in_run w is r) = absurd (omega arith)

pub map_done_or_13 : MapDoneOr13 answering
map_done_or_13 z s d f h l m out alive none j e = (only_13 z s d f h l m out alive none ((refused_exactly z s 3 d f 0 j h).0 e)).0

pub map_refused_13 : MapNoPlace answering
map_refused_13 z s d f h l m out alive none = (
  λ e.
      let w = (only_13 z s d f h l m out alive none ((refused_exactly z s 3 d f 0 13 h).0 e)).1 in
      (w.all_in_use, w.all-owned),
  λ full. (refused_exactly z s 3 d f 0 13 h).1 (no_place (map_passes z s d f h l m out alive none) refl (record { unmapped = none; all_in_use = full.0; all-owned = full.1 })),
)

-- A run of maps.
pub map_run_refused_13 : MapRunNoPlace answering
map_run_refused_13 z s d f n h l some m out alive = (
  λ e. ⊎_elim (λ w. absurd (omega (arith, w.0))) (λ w. (w.1, w.2)) (lines_13 ((refused_exactly z s 6 d f n 13 h).0 e) refl),
  λ r. (refused_exactly z s 6 d f n 13 h).1 (no_place_in_run (passes r.0) refl r.1),
)
  where
    passes : n ≤ longest_run → LivePass z s 6 d f n
    passes most =
        record {
          words_pass = record {
            formed = record { uses = FrameAndCount; opens = false; is_call = call_6; unused_zero_lem = tt };
            domain = l;
            frames = (omega arith, some, omega arith, most);
            in_no_hole = out;
          };
          alive = alive;
        }
