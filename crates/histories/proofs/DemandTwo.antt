-- Demand 2, of the definitions: slots and pages agree after any batches, last owners are kept and former TreeLings taken, the pages word is the number of pages mapped or released, a trim returns the empty TreeLings, and a fill has nothing rounded away.
-- Assumes nothing.
use Prim.Native.Nat.{ℕ, suc, ◌+◌, ◌<◌, ◌≤◌}
use mathlib.Core.Path.{◌≡◌, refl, sym, ap, subst, ◌∙◌}
use mathlib.Core.List.{List}
use mathlib.Core.Bool.{true}
use mathlib.Core.Logic.{◌⊎◌, ⊎_elim}
use native.Mathlib.Omega.{arith}
use borrow.Author.Tests.{eq-eqb, lt-ltb}
use Rattle.layout.specs.declared.Sizes.{Sizes}
use Rattle.board.specs.Holes.{HolesAllowed, outside}
use Rattle.layout.specs.Places.{Allowed, get, leaf, live, pages_mapped, owner, former}
use Rattle.sound.specs.Sound.{Sound}
use Rattle.sound.proofs.TestLaws.{live_ordinary}
use Rattle.placing.specs.Placing.{placing}
use Rattle.placing.proofs.FormerLaws.{placing_takes, former_sought}
use Rattle.releasing.specs.Releasing.{releasing}
use Rattle.releasing.specs.MovingBack.{MovesBack, HasSpent}
use Rattle.releasing.proofs.NeverStuck.{never_stuck}
use Rattle.pages.specs.Answers.{Refused, Finished, Outcome, refuse, answer_words, page_at, Passed}
use Rattle.domains.specs.Closing.{close_call}
use Rattle.pages.specs.Mapping.{map_call}
use Rattle.pages.specs.Unmapping.{unmap_call}
use Rattle.runs.specs.Runs.{run_of, map_run_call, unmap_run_call}
use Rattle.domains.specs.Filling.{fill_call}
use Rattle.questions.specs.Questions.{answering, asking, refusal_of}
use Rattle.calls.specs.Table.{calls, line_of}
use Rattle.histories.specs.Demands.{SlotsAgree, EnteredHasSpent, RequestSlotsAgree, RequestEnteredHasSpent, RequestFormersKept, MapTakesFormer, RefusedSame, PagesMapped, PagesReleased, FramesMapped, FramesReleased, MapDone, MapRunDone, UnmapDone, UnmapRunDone, TrimExact, FillExact}
use Rattle.histories.specs.Histories.{Carried, JustMade, Entry, ours, state_from}
use Rattle.histories.specs.Slots.{Agreeing}
use Rattle.batch.specs.Batch.{state_after}
use Rattle.sound.specs.Contents.{sizes_in}
use Rattle.sound.specs.Audit.{audit_number}
use Rattle.sound.proofs.SoundLaws.{number_sound}
use Rattle.histories.specs.Done.{pages_word, AllMapped, AllUnmapped}
use Rattle.runs.proofs.RunLaws.{run_held, whole_run_lem}
use Rattle.questions.proofs.AnsweringCases.{answering_as}
use Rattle.pages.proofs.CallLaws.{map_cases, unmap_cases, placing_pages, releasing_pages}
use Rattle.domains.proofs.ClosingLaws.{closed}
use Rattle.domains.proofs.TrimLaws.{gives_back}
use Rattle.domains.proofs.FillLaws.{filled}
use Rattle.runs.proofs.RunSound.{Mapped, none_placed, map_step_lem, map_run_held, Unmapped, none_released, unmap_step, unmap_run_held}
use Rattle.requests.proofs.AnsweringSound.{answering_sound, answering_formers, refused_same}
use Rattle.histories.proofs.FrameCalls.{Landed, placing_landed, Left, releasing_left, none_mapped, none_unmapped, one_mapped, one_unmapped}
use Rattle.histories.proofs.SlotLaws.{agreeing}
use Rattle.histories.proofs.BatchSound.{after_sound}
use Rattle.histories.proofs.EntriesKeep.{from_sound, history_state}

-- ---- Slots and pages
pub slots_agree : SlotsAgree ours
slots_agree w passed es =
    agreeing (sizes_in w.state) (state_from ours w es) (from_sound (sizes_in w.state) w es (number_sound w.state passed))

pub history_slots_agree : (z : Sizes) → Allowed z → (holes : List ℕ) → HolesAllowed z holes → (w : Carried) → JustMade z holes w → (es : List Entry) → Agreeing z (state_from ours w es)
history_slots_agree z allow holes fit w made es = agreeing z (state_from ours w es) (history_state z allow holes fit w made es)

-- After each request of a list, and so after every one of its prefixes.
pub request_slots_agree : RequestSlotsAgree answering
request_slots_agree z s c d f n h = agreeing z (answering z s c d f n).words (answering_sound z s c d f n h)

pub requests_slots_agree : (s q : List ℕ) → audit_number s ≡ 0 → (k : ℕ) → Agreeing (sizes_in s) (state_after (sizes_in s) s q k)
requests_slots_agree s q passed k =
    agreeing (sizes_in s) (state_after (sizes_in s) s q k) (after_sound (sizes_in s) s q (number_sound s passed) k)

-- ---- The block entered by moving back
pub entered_has_spent : EnteredHasSpent ours
entered_has_spent w passed es d t b below =
    never_stuck (sizes_in w.state) (state_from ours w es) (from_sound (sizes_in w.state) w es (number_sound w.state passed)) d below t b

-- After each request of a list as well.
pub request_entered_has_spent : RequestEnteredHasSpent answering
request_entered_has_spent z s c d f n h e t b below =
    never_stuck z (answering z s c d f n).words (answering_sound z s c d f n h) e below t b

pub requests_entered_has_spent : (s q : List ℕ) → audit_number s ≡ 0 → (k d t b : ℕ) → d < (sizes_in s).domains
    → MovesBack (sizes_in s) (state_after (sizes_in s) s q k) d t b
    → HasSpent (sizes_in s) (state_after (sizes_in s) s q k) t b
requests_entered_has_spent s q passed k d t b below =
    never_stuck (sizes_in s) (state_after (sizes_in s) s q k) (after_sound (sizes_in s) s q (number_sound s passed) k) d below t b

-- ---- Former TreeLings
pub request_formers_kept : RequestFormersKept answering
request_formers_kept = answering_formers

-- A request that leaves the words as they are takes none.
pub map_takes_former : MapTakesFormer answering
unfolding line_of calls
map_takes_former z s d f t u h lt lu none took free last =
    answering_as z s d f 0 Takes (λ _. not_taken) 3 3 refl (λ a.
    map_cases z s d f Takes (λ _. not_taken) (λ _ _. not_taken) (λ id _ at own.
    ap (λ (v : ℕ). get z s (former v)) (placing_takes z s d f h a.below a.legal t lt none own)
    ∙ former_sought z s d h a.below u lu free last))
    took
  where
    Takes : Outcome → Type 0
    Takes o = get z o.words (owner t) ≡ suc d → get z s (former t) ≡ suc d

    not_taken : get z s (owner t) ≡ suc d → get z s (former t) ≡ suc d
    not_taken own = absurd (omega arith)

-- ---- A refused request
pub request_refused_same : RefusedSame answering
request_refused_same = refused_same

-- ---- The pages word
refused_pages : (k : ℕ) → pages_word (Refused k) ≡ 0
unfolding answer_words
refused_pages k = refl

finished_pages : (n : ℕ) → pages_word (Finished n) ≡ n
unfolding answer_words
finished_pages n = refl

page_pages : (z : Sizes) (s : List ℕ) (id n : ℕ) → pages_word (page_at z s id n) ≡ n
unfolding answer_words page_at
page_pages z s id n = refl

module _ (z : Sizes) (s : List ℕ) (c d f n : ℕ) (h : Sound z s) where
  -- As many pages more as the word says, or less.
  abbrev More : Outcome → Type 0
  More o = get z o.words (pages_mapped d) ≡ get z s (pages_mapped d) + pages_word o.answer

  abbrev Less : Outcome → Type 0
  Less o = get z s (pages_mapped d) ≡ get z o.words (pages_mapped d) + pages_word o.answer

  refused_more : (k : ℕ) → More (refuse k s)
  refused_more k = omega (arith, refused_pages k)

  refused_less : (k : ℕ) → Less (refuse k s)
  refused_less k = omega (arith, refused_pages k)

  -- Map and map run: the pages mapped.
  more_pages : (c ≡ 3) ⊎ (c ≡ 6) → More (answering z s c d f n)
  unfolding line_of calls map_run_call
  more_pages =
      ⊎_elim
      (λ is.
      answering_as z s d f n More refused_more c 3 is λ a.
      map_cases z s d f More (λ _. refused_more 12) (λ _ _. refused_more 13)
      (λ id _ at. omega (arith, placing_pages z d f a.below s h id at, page_pages z (placing z s d f).words id.0 1)))
      (λ is.
      answering_as z s d f n More refused_more c 6 is λ a.
      let l = a.below in
      let fits = a.legal.1 in
      whole_run_lem (Mapped z s d f n h l fits) More s n (run_of (λ r. map_call z r d) s f n) (map_run_held z s d f n h l fits a.in_no_hole (live_ordinary z s d (a.alive refl))) refused_more
      (λ r w. omega (arith, w.2, finished_pages n)))

  -- Close, unmap and unmap run: the pages released.
  less_pages : (c ≡ 2) ⊎ (c ≡ 4) ⊎ (c ≡ 7) → Less (answering z s c d f n)
  unfolding line_of calls close_call unmap_run_call
  less_pages =
      ⊎_elim
      (λ is.
      answering_as z s d f n Less refused_less c 2 is λ a.
      omega (arith, (closed z s h d a.below).own_zero 5 (omega arith), finished_pages (get z s (pages_mapped d))))
      (⊎_elim
      (λ is.
      answering_as z s d f n Less refused_less c 4 is λ a.
      unmap_cases z s d f Less (λ _. refused_less 14)
      (λ mapped. omega (arith, releasing_pages z d f a.below s h a.legal mapped, finished_pages 1)))
      (λ is.
      answering_as z s d f n Less refused_less c 7 is λ a.
      let l = a.below in
      let fits = a.legal.1 in
      whole_run_lem (Unmapped z s d f n h l fits) Less s n (run_of (λ r. unmap_call z r d) s f n) (unmap_run_held z s d f n h l fits) refused_less
      (λ r w. omega (arith, w.1, finished_pages n))))

pub pages_mapped_lem : PagesMapped answering
pages_mapped_lem = more_pages

pub pages_released : PagesReleased answering
pages_released = less_pages

-- So it is of the pages that the leaf map has of the domain.
pub frames_mapped : FramesMapped answering
frames_mapped z s c d f n h l which =
    omega (arith, (answering_sound z s c d f n h).pages_true_lem d l, h.pages_true_lem d l, pages_mapped_lem z s c d f n h which)

pub frames_released : FramesReleased answering
frames_released z s c d f n h l which =
    omega (arith, (answering_sound z s c d f n h).pages_true_lem d l, h.pages_true_lem d l, pages_released z s c d f n h which)

-- ---- The frames that a done request names
-- Nothing is asked of a refusal.
pub no_refusal : {A : Type 0} (s : List ℕ) (k : ℕ) → Passed (refuse k s) → A
no_refusal s k passed = absurd (passed k refl)

module _ (z : Sizes) (s : List ℕ) (c d f n : ℕ) (h : Sound z s) where
  -- A done map has its frame mapped, and answers the slot that the leaf map has for it.
  abbrev MapsOne : Outcome → Type 0
  MapsOne o = Passed o → AllMapped z s o.words d f 1 × (o.answer ≡ page_at z o.words (get z o.words (leaf f)) 1)

  maps_one : c ≡ 3 → MapsOne (answering z s c d f n)
  unfolding line_of calls
  maps_one is =
      answering_as z s d f n MapsOne (λ k. no_refusal s k) c 3 is λ a.
      map_cases z s d f MapsOne (λ _. no_refusal s 12) (λ _ _. no_refusal s 13) λ id _ at _.
      let r = (placing z s d f).words in
      let k = placing_landed z d f a.below a.legal s h (live_ordinary z s d (a.alive refl)) id at in (
        one_mapped z s d f s r 0 id.0 h (omega (arith, a.legal)) (none_mapped z s d f) (subst (λ (x : ℕ). Landed z s r d x id.0) (omega arith) k),
        ap (λ (x : ℕ). page_at z r x 1) (sym k.leaf_is),
      )

  -- A done map run has every one of its frames mapped.
  abbrev MapsRun : Outcome → Type 0
  MapsRun o = Passed o → AllMapped z s o.words d f n

  maps_run : c ≡ 6 → MapsRun (answering z s c d f n)
  unfolding line_of calls map_run_call
  maps_run is =
      answering_as z s d f n MapsRun (no_refusal s) c 6 is λ a.
      let l = a.below in
      let fits = a.legal.1 in
      whole_run_lem (Each l fits) MapsRun s n (run_of (λ r. map_call z r d) s f n)
      (run_held (λ r. map_call z r d) s f (Each l fits) n (none_placed z s d f n h l fits (live_ordinary z s d (a.alive refl)), none_mapped z s d f) (step l fits a.in_no_hole))
      (no_refusal s) (λ r w _. w.1)
    where
      Each : d < z.domains → f + n ≤ z.frames → ℕ → List ℕ → Type 0
      Each l m i r = Mapped z s d f n h l m i r × AllMapped z s r d f i

      step : (l : d < z.domains) (m : f + n ≤ z.frames) → ((i : ℕ) → i < n → outside s (f + i) ≡ true) → (i : ℕ) (r : List ℕ) → i < n → Each l m i r → Passed (map_call z r d (f + i)) → Each l m (suc i) (map_call z r d (f + i)).words
      step l m out i r k w passed = (
        map_step_lem z s d f n h l m out i r k w.0 passed,
        map_cases z r d (f + i) (λ o. Passed o → AllMapped z s o.words d f (suc i)) (λ _. no_refusal r 12) (λ _ _. no_refusal r 13)
            (λ id _ at _. one_mapped z s d f r (placing z r d (f + i)).words i id.0 w.0.0 (omega arith) w.1 (placing_landed z d (f + i) l (omega arith) r w.0.0 w.0.1 id at))
            passed,
      )

  -- A done unmap has its frame unmapped,
  abbrev UnmapsOne : Outcome → Type 0
  UnmapsOne o = Passed o → AllUnmapped z s o.words f 1

  unmaps_one : c ≡ 4 → UnmapsOne (answering z s c d f n)
  unfolding line_of calls
  unmaps_one is =
      answering_as z s d f n UnmapsOne (no_refusal s) c 4 is λ a.
      unmap_cases z s d f UnmapsOne (λ _. no_refusal s 14) λ mapped _.
      let r = releasing z s d f in
      one_unmapped z s f s r 0 (omega (arith, a.legal)) (none_unmapped z s f)
      (subst (λ (x : ℕ). Left z s r x) (omega arith) (releasing_left z s h d a.below f a.legal mapped))

  -- and a done unmap run every one of its frames.
  abbrev UnmapsRun : Outcome → Type 0
  UnmapsRun o = Passed o → AllUnmapped z s o.words f n

  unmaps_run : c ≡ 7 → UnmapsRun (answering z s c d f n)
  unfolding line_of calls unmap_run_call
  unmaps_run is =
      answering_as z s d f n UnmapsRun (no_refusal s) c 7 is λ a.
      let l = a.below in
      let fits = a.legal.1 in
      whole_run_lem (Each l fits) UnmapsRun s n (run_of (λ r. unmap_call z r d) s f n)
      (run_held (λ r. unmap_call z r d) s f (Each l fits) n (none_released z s d f n h l fits, none_unmapped z s f) (step l fits))
      (no_refusal s) (λ r w _. w.1)
    where
      Each : d < z.domains → f + n ≤ z.frames → ℕ → List ℕ → Type 0
      Each l m i r = Unmapped z s d f n h l m i r × AllUnmapped z s r f i

      step : (l : d < z.domains) (m : f + n ≤ z.frames) (i : ℕ) (r : List ℕ) → i < n → Each l m i r → Passed (unmap_call z r d (f + i)) → Each l m (suc i) (unmap_call z r d (f + i)).words
      step l m i r k w passed = (
        unmap_step z s d f n h l m i r k w.0 passed,
        unmap_cases z r d (f + i) (λ o. Passed o → AllUnmapped z s o.words f (suc i)) (λ _. no_refusal r 14)
            (λ mapped _. one_unmapped z s f r (releasing z r d (f + i)) i (omega arith) w.1 (releasing_left z r w.0.0 d l (f + i) (omega arith) mapped))
            passed,
      )

pub map_done : MapDone answering
map_done = maps_one

pub map_run_done : MapRunDone answering
map_run_done = maps_run

pub unmap_done : UnmapDone answering
unmap_done = unmaps_one

pub unmap_run_done : UnmapRunDone answering
unmap_run_done = unmaps_run

-- ---- The trim
pub trim_exact : TrimExact answering
unfolding asking refusal_of line_of calls
trim_exact z s d h l alive = rw (lt-ltb d z.domains l, eq-eqb (get z s (live d)) 1 alive) (gives_back z s h d l (live_ordinary z s d alive))

-- ---- The fill
pub fill_exact : FillExact answering
unfolding asking refusal_of line_of calls fill_call
fill_exact z s d h l alive =
    rw (lt-ltb d z.domains l, eq-eqb (get z s (live d)) 1 alive) (filled z s h d l, refl)
