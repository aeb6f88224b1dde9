-- The statements of demand 2 bite: answerers that are ours but for one fault, and for each a statement that is false of it.
-- Assumes nothing.
use Prim.Native.Nat.{ℕ, suc, ◌+◌, ◌-◌, ◌*◌}
use mathlib.Core.Path.{◌≡◌, refl, sym, ap, ap₂, ◌∙◌}
use mathlib.Core.List.{List, [], ◌∷◌}
use mathlib.Core.Bool.{Bool, true, false, cond, not, ◌&&◌, false≢true}
use mathlib.Core.Logic.{inl, inr, ⊎_elim}
use native.Mathlib.Omega.{arith}
use borrow.Author.Tests.{ltb-true}
use lib.Dec.{eqb, ltb, lit≤}
use lib.ListN.{get_or}
use lib.Seq.{get_or-set_other}
use Rattle.layout.specs.declared.Sizes.{Sizes}
use Rattle.geometry.specs.Tables.{first_from}
use Rattle.geometry.specs.Entries.{availability_of}
use Rattle.layout.specs.Outcomes.{outcome}
use Rattle.layout.specs.Places.{Place, content, sizes_of, allowed, address, get, put, zeros, hand, entry, leaf, live, first, owner, rank, former, head_treeling, head_block, pages_mapped}
use Rattle.leaf_map.specs.LeafIds.{leaf_at, treeling_of, slot_of, node_of_leaf, position_of_leaf}
use Rattle.board.specs.NewState.{new_state}
use Rattle.layout.specs.Bounded.{all, count}
use Rattle.board.specs.Holes.{HolesAllowed, holes_fit, outside_all, outside}
use Rattle.layout.proofs.BoundedLaws.{all_at, count_none}
use Rattle.board.proofs.HoleLaws.{fit_facts}
use Rattle.layout.proofs.PlaceLaws.{allowed_facts, get-put_same}
use Rattle.sound.specs.Sound.{Sound, Live}
use Rattle.sound.proofs.NewStateSound.{none_allowed, new_sound}
use Rattle.sound.specs.Sentences.{marks_free, of_rank, link_of}
use Rattle.world.specs.World.{owned}
use Rattle.taking.specs.Taking.{fresh_entries, taking}
use Rattle.placing.specs.Placing.{after_giving, placing, decision, writing}
use Rattle.releasing.specs.Releasing.{release_step, after_step, releasing}
use Rattle.releasing.specs.MovingBack.{one_block, HasSpent}
use Rattle.returning.specs.Returning.{is_empty, stays, number_returned}
use Rattle.clearing.specs.Clearing.{treelings_cleared}
use Rattle.pages.specs.Answers.{Answer, Refused, Finished, Page, Fill, Outcome, refuse, answer_words, page_at}
use Rattle.calls.specs.Table.{OneFrame, FrameAndCount, calls, line_of}
use Rattle.domains.specs.Opening.{open_call}
use Rattle.domains.specs.Closing.{leaves_cleared, closing, close_call}
use Rattle.pages.specs.Mapping.{mapping, map_call}
use Rattle.pages.specs.Unmapping.{unmap_call}
use Rattle.pages.specs.Paths.{path_call}
use Rattle.runs.specs.Runs.{go_on, run_step, run_of, whole_run, map_run_call}
use Rattle.domains.specs.Trimming.{trim_call}
use Rattle.domains.specs.Filling.{fill_of, fill_call}
use Rattle.questions.specs.Questions.{answering, asking, refusal_of}
use Rattle.requests.proofs.AnsweringSound.{answering_sound}
use Rattle.histories.specs.Refusals.{Formed, call_3, call_6, Refusal, malformed, no_domain, no_frames, in_hole, live_already, not_live, mapped, mapped_in_run, no_place, no_place_in_run, not_mapped, not_mapped_in_run}
use Rattle.histories.specs.Demands.{Answerer, RequestNoHoleMapped, RequestHolesStay, RequestSlotsAgree, RequestEnteredHasSpent, RequestFormersKept, MapTakesFormer, RefusedExactly, RefusedSame, MapNoPlace, PagesReleased, MapDone, MapRunDone, TrimExact, FillExact}
use Rattle.histories.specs.Slots.{IsFree, InUse}
use Rattle.sound.proofs.TestLaws.{kind_kept, live_ordinary}
use Rattle.sound.proofs.MappedLaws.{mapped_by}
use Rattle.histories.proofs.SlotLaws.{agreeing}
use Rattle.histories.proofs.DemandTwo.{pages_released, map_done}
use Rattle.histories.proofs.RefusedExactly.{lines_13}
use Rattle.worked.proofs.TenLines.{example_sizes, example_allowed}

-- ---- The wrong answerers
abbrev pub is_done : Answer → Bool
is_done (Refused k) = false
is_done (Finished pages) = true
is_done (Page id rank pages) = true
is_done (Fill quotient remainder slots) = true

-- Ours, but where call k is done: there the outcome is what wrong gives, of sizes, words, domain, frame and the right outcome.
abbrev pub done_wrong : ℕ → (Sizes → List ℕ → ℕ → ℕ → Outcome → Outcome) → Answerer
done_wrong k wrong z s c d f n =
    let o = answering z s c d f n in
    cond (eqb c k && is_done o.answer) (wrong z s d f o) o

-- A map for which there is a place is told "no place".
abbrev pub every_map13 : Answerer
every_map13 = done_wrong 3 λ z s d f o. refuse 13 s

-- A map tells slot 0 of TreeLing 0, wherever the page is.
abbrev pub slot0_told : Answerer
slot0_told = done_wrong 3 λ z s d f o. outcome (page_at z o.words 1 1) o.words

-- Every answer is right, and no word of the state changes.
abbrev pub tables_untouched : Answerer
tables_untouched z s c d f n = outcome (answering z s c d f n).answer s

-- A map run maps its first frame only, and answers as for the whole run.
abbrev pub first_frame_only : Answerer
first_frame_only = done_wrong 6 λ z s d f o. outcome o.answer (answering z s 3 d f 0).words

-- An unmap tells two pages released.
abbrev pub pages_invented : Answerer
pages_invented = done_wrong 4 λ z s d f o. outcome (Finished 2) o.words

-- An unmap clears the frame's leaf map word and no more: its slot is not marked free, nor its page counted off.
abbrev pub leaf_map_only : Answerer
leaf_map_only = done_wrong 4 λ z s d f o. outcome o.answer (put z s (leaf f) 0)

-- A map moves the head on to block 1, whatever block 0 has left.
abbrev pub head_too_far : Answerer
head_too_far = done_wrong 3 λ z s d f o. outcome o.answer (put z o.words (head_block d) 1)

-- A refused map moves the pool hand.
abbrev pub refusal_writes : Answerer
refusal_writes z s c d f n =
    let o = answering z s c d f n in
    cond (eqb c 3 && not (is_done o.answer)) (outcome o.answer (put z s hand (suc (get z s hand)))) o

-- A path of a frame that the domain has not mapped is told "no place".
abbrev pub path_hears13 : Answerer
path_hears13 z s c d f n =
    let o = answering z s c d f n in
    cond (eqb c 5 && not (is_done o.answer)) (refuse 13 s) o

-- A run of 2,049 frames is done.
abbrev pub long_run_taken : Answerer
long_run_taken z s c d f n = cond (eqb c 6 && eqb n 2049) (outcome (Finished n) s) (answering z s c d f n)

-- A map into a hole is done: question 16 is not asked of it.
abbrev pub hole_mapped : Answerer
hole_mapped z s c d f n =
    cond (eqb c 3 && not (outside s f)) (map_call z s d f) (answering z s c d f n)

-- Opening a domain forgets the holes.
abbrev pub holes_dropped : Answerer
holes_dropped = done_wrong 1 λ z s d f o. outcome o.answer (put z o.words (content 8) 0)

-- Closing a domain forgets that it held its first TreeLing.
abbrev pub former_forgotten : Answerer
former_forgotten = done_wrong 2 λ z s d f o. outcome o.answer (put z o.words (former (get z s (first d) - 1)) 0)

-- A map takes the first unowned TreeLing even where that passes over TreeLing 0, which the domain held last.
abbrev pub first_unowned_taken : Answerer
first_unowned_taken z s c d f n = answering z (cond (eqb c 3) (put z s (former 0) (get z s (owner 0))) s) c d f n

-- A trim is answered as it should be, and no word changes.
abbrev pub trim_unwritten : Answerer
trim_unwritten = done_wrong 8 λ z s d f o. outcome o.answer s

-- A trim returns TreeLing 0, whatever it has.
abbrev pub trim_of_used : Answerer
trim_of_used = done_wrong 8 λ z s d f o. outcome o.answer (put z s (owner 0) 0)

-- A trim that returns nothing moves the rank of TreeLing 0.
abbrev pub trim_out_of_order : Answerer
trim_out_of_order = done_wrong 8 λ z s d f o. outcome o.answer (put z s (rank 0) 1)

-- A fill is rounded up: one thousandth more than its quotient.
abbrev pub fill_rounded_up : Answerer
fill_rounded_up = done_wrong 11 λ z s d f o. outcome (Fill (get_or (answer_words o.answer) 1 0 + 1) (get_or (answer_words o.answer) 2 0) (get_or (answer_words o.answer) 3 0)) o.words

-- A fill goes by the slots of all TreeLings, whoever owns them.
abbrev pub fill_of_all : Answerer
fill_of_all = done_wrong 11 λ z s d f o. outcome (fill_of (get z s (pages_mapped d)) (4096 * z.treelings)) o.words

-- Every request is refused by 7.
abbrev pub all_refused : Answerer
all_refused z s c d f n = refuse 7 s

-- ---- Two sound states
-- Of the sizes of document 01's example.
abbrev pub z : Sizes
z = example_sizes

-- Domain 0 is open,
unfoldable pub opened : List ℕ
opened = (answering z (new_state z []) 1 0 0 0).words

-- and has mapped frame 3.
unfoldable pub holding : List ℕ
holding = (answering z opened 3 0 3 0).words

pub opened_sound : Sound z opened
unfolding opened
opened_sound = answering_sound z (new_state z []) 1 0 0 0 (new_sound z [] example_allowed (none_allowed z))

pub holding_sound : Sound z holding
unfolding holding
holding_sound = answering_sound z opened 3 0 3 0 opened_sound

-- Words of theirs, and what ours answers: computed.
pub record Computed : Type 0 where
  pub live_is : Live z opened 0
  pub unowned : get z opened (owner 0) ≡ 0
  pub in_no_hole : outside opened 3 ≡ true
  pub unmapped : get z opened (leaf 3) ≡ 0
  pub unmapped-next : get z opened (leaf 4) ≡ 0
  pub refused : (answering z (new_state z []) 3 0 3 0).answer ≡ Refused 11
  pub path : (answering z opened 5 0 3 0).answer ≡ Refused 14
  pub map : (answering z opened 3 0 3 0).answer ≡ Page (record { 0 = 1 }) 0 1
  pub map_run : (answering z opened 6 0 3 2).answer ≡ Finished 2
  pub map_next : (answering z holding 3 0 4 0).answer ≡ Page (record { 0 = 2 }) 0 1
  pub unmap : (answering z holding 4 0 3 0).answer ≡ Finished 1
  pub fill : (answering z holding 11 0 0 0).answer ≡ Fill 0 1000 4096
  pub live_still : Live z holding 0
  pub pages_are : get z holding (pages_mapped 0) ≡ 1
  pub owned_are : owned z holding 0 ≡ 1
  pub leaf_is : get z holding (leaf 3) ≡ 1
  pub owner_is : get z holding (owner 0) ≡ 1
  pub head_is : get z holding (head_treeling 0) ≡ 1
  pub each_free : all 8 (λ k. ltb 0 (availability_of (get z holding (entry 0 k)))) ≡ true

pub computed : Computed
unfolding all opened holding new_state asking outside_all refusal_of line_of calls open_call map_call mapping page_at placing decision writing after_giving taking fresh_entries owned link_of of_rank count first_from go_on run_step run_of whole_run map_run_call unmap_call path_call releasing release_step after_step fill_call fill_of leaf_at treeling_of node_of_leaf position_of_leaf
computed =
    record {
      live_is = refl;
      unowned = refl;
      in_no_hole = refl;
      unmapped = refl;
      unmapped-next = refl;
      refused = refl;
      path = refl;
      map = refl;
      map_run = refl;
      map_next = refl;
      unmap = refl;
      fill = refl;
      live_still = refl;
      pages_are = refl;
      owned_are = refl;
      leaf_is = refl;
      owner_is = refl;
      head_is = refl;
      each_free = refl;
    }

-- A done answer is no refusal.
pub not_refused : (a : Answer) → is_done a ≡ true → (k : ℕ) → a ≡ Refused k → ⊥
not_refused a is k e = false≢true (ap is_done (sym e) ∙ is)

-- ---- The statements that are false of them
pub every_map13_fails : MapNoPlace every_map13 → ⊥
every_map13_fails h =
    let full = (h z opened 0 3 opened_sound (lit≤ tt) (lit≤ tt) computed.in_no_hole computed.live_is computed.unmapped).0 (rw computed.map) in
    omega (arith, full.1.some_owner 0 (lit≤ tt), computed.unowned)

pub slot0_told_fails : MapDone slot0_told → ⊥
unfolding page_at answer_words treeling_of slot_of position_of_leaf
slot0_told_fails h =
    let told = ((rw computed.map_next at (h z holding 3 0 4 0 holding_sound refl)) (not_refused _ refl)).1 in
    let right = ((rw computed.map_next at (map_done z holding 3 0 4 0 holding_sound refl)) (not_refused _ refl)).1 in
    omega (arith, ap (λ (a : Answer). get_or (answer_words a) 6 0) (told ∙ sym right))

pub tables_untouched_fails : MapDone tables_untouched → ⊥
tables_untouched_fails h =
    let frame = ((rw computed.map at (h z opened 3 0 3 0 opened_sound refl)) (not_refused _ refl)).0.each 0 (lit≤ tt) in
    omega (arith, (mapped_by z (tables_untouched z opened 3 0 3 0).words 0 (3 + 0) frame).some, computed.unmapped)

pub first_frame_only_fails : MapRunDone first_frame_only → ⊥
first_frame_only_fails h =
    let second = ((rw computed.map_run at (h z opened 6 0 3 2 opened_sound refl)) (not_refused _ refl)).each 1 (lit≤ tt) in
    let same = ((rw computed.map at (map_done z opened 3 0 3 0 opened_sound refl)) (not_refused _ refl)).0.rest 4 (lit≤ tt) (λ i l e. omega arith) in
    omega (arith, (mapped_by z (answering z opened 3 0 3 0).words 0 (3 + 1) second).some, same, computed.unmapped-next)

pub pages_invented_fails : PagesReleased pages_invented → ⊥
unfolding answer_words
pages_invented_fails h =
    let told = rw computed.unmap at (h z holding 4 0 3 0 holding_sound (inr (inl refl))) in
    let right = rw computed.unmap at (pages_released z holding 4 0 3 0 holding_sound (inr (inl refl))) in
    omega arith

-- The words that the fault leaves of the second state.
abbrev cleared : List ℕ
cleared = put z holding (leaf 3) 0

cleared_other : (p : Place) → (address z p ≡ address z (leaf 3) → ⊥) → get z cleared p ≡ get z holding p
cleared_other p = get_or-set_other holding (address z (leaf 3)) (address z p) 0 0

pub leaf_map_only_fails : PagesReleased leaf_map_only → ⊥
unfolding answer_words
leaf_map_only_fails h =
    omega (arith, rw computed.unmap at (h z holding 4 0 3 0 holding_sound (inr (inl refl))), cleared_other (pages_mapped 0) (omega arith))

-- Nor do slots and pages agree then, as they do after every request to ours: slot 0 is neither free nor in use.
pub leaf_map_only_disagrees : RequestSlotsAgree leaf_map_only → ⊥
leaf_map_only_disagrees h =
    ⊎_elim not_free not_used
    ((rw computed.unmap at (h z holding 4 0 3 0 holding_sound)).slots 0 0 (lit≤ tt) (cleared_other (owner 0) (omega arith) ∙ computed.owner_is) (cleared_other (live 0) (omega arith) ∙ live_ordinary z holding 0 computed.live_still))
  where
    before : InUse z holding 0
    before =
        ⊎_elim (λ free. absurd (free.unnamed 3 (lit≤ tt) computed.leaf_is)) (λ used. used)
        ((agreeing z holding holding_sound).slots 0 0 (lit≤ tt) computed.owner_is (live_ordinary z holding 0 computed.live_still))

    not_free : IsFree z cleared 0 → ⊥
    not_free x =
        let t = x.treeling in
        let kind = kind_kept z holding cleared t (cleared_other (owner t) (omega (arith, x.treeling_below))) (cleared_other (live (get z holding (owner t) - 1)) (omega (arith, holding_sound.owner_range t x.treeling_below))) in
        before.not_free t x.index x.treeling_below x.index_below
        (sym (ap₂ (λ (b : Bool) (w : ℕ). b && marks_free z holding 0 w) kind (cleared_other (entry t x.index) (omega (arith, x.treeling_below, x.index_below)))) ∙ x.free)

    not_used : InUse z cleared 0 → ⊥
    not_used x =
        let apart : x.frame ≡ 3 → ⊥ = λ e.
        omega (arith, x.named, ap (λ (f : ℕ). get z cleared (leaf f)) e, get-put_same z holding (leaf 3) 0 holding_sound.laid_out.laid (lit≤ tt)) in
        let named = sym (cleared_other (leaf x.frame) (λ e. apart (omega arith))) ∙ x.named in
        apart (before.only x.frame x.frame_below named ∙ sym (before.only 3 (lit≤ tt) computed.leaf_is))

-- The words that the fault leaves of the second state: block 0, entered by moving back from block 1, has a free position in each entry.
abbrev moved_on : List ℕ
moved_on = put z holding (head_block 0) 1

moved_other : (p : Place) → (address z p ≡ address z (head_block 0) → ⊥) → get z moved_on p ≡ get z holding p
moved_other p = get_or-set_other holding (address z (head_block 0)) (address z p) 1 0

moved_none : HasSpent z moved_on 0 0 → ⊥
moved_none x =
    let k = 8 * 0 + x.index in
    let some = ltb-true 0 (availability_of (get z holding (entry 0 k))) (all_at 8 (λ e. ltb 0 (availability_of (get z holding (entry 0 e)))) computed.each_free k (omega (arith, x.index_below))) in
    omega (arith, moved_other (entry 0 k) (λ e. omega arith), x.none_free)

pub head_too_far_fails : RequestEnteredHasSpent head_too_far → ⊥
unfolding holding
head_too_far_fails h =
    let block : get z moved_on (head_block 0) ≡ 1 = get-put_same z holding (head_block 0) 1 holding_sound.laid_out.laid (lit≤ tt, lit≤ tt) in
    moved_none
    ((rw computed.map at (h z opened 3 0 3 0 opened_sound 0 0 0 (lit≤ tt))) (one_block 0 0 (moved_other (head_treeling 0) (omega arith) ∙ computed.head_is) block))

pub refusal_writes_fails : RefusedSame refusal_writes → ⊥
unfolding new_state
refusal_writes_fails h =
    let same = (rw computed.refused at (h z (new_state z []) 3 0 3 0 11)) refl in
    omega (arith, ap (λ (s : List ℕ). get z s hand) same)

-- A page of 4,096 slots: 1,000 is not 1 × 4,096 and something,
pub fill_rounded_up_fails : FillExact fill_rounded_up → ⊥
unfolding answer_words
fill_rounded_up_fails h =
    let w = (rw computed.fill at (h z holding 0 holding_sound (lit≤ tt) computed.live_still)).0 in
    let quotient : 1 ≡ w.quotient = ap (λ (a : Answer). get_or (answer_words a) 1 0) w.told in
    omega (arith, rw (sym quotient, computed.pages_are, computed.owned_are) at w.whole)

-- and 4,096 slots are not 8,192.
pub fill_of_all_fails : FillExact fill_of_all → ⊥
unfolding answer_words fill_of
fill_of_all_fails h =
    let w = (rw computed.fill at (h z holding 0 holding_sound (lit≤ tt) computed.live_still)).0 in
    let slots : 8192 ≡ 4096 * owned z holding 0 = ap (λ (a : Answer). get_or (answer_words a) 3 0) w.told in
    omega (arith, computed.owned_are)

-- No line of the table of refusals with 13 is of call 5,
pub path_hears13_fails : RefusedExactly path_hears13 → ⊥
path_hears13_fails h =
    ⊎_elim (λ w. omega (arith, w.0)) (λ w. omega (arith, w.0))
    (lines_13 ((h z opened 5 0 3 0 13 opened_sound).0 (rw computed.path)) refl)

-- and the one with 7 is of malformed words.
only_malformed : {j : ℕ} → Refusal z opened 3 0 3 0 j → j ≡ 7 → Formed 3 3 0 → ⊥
only_malformed (malformed not) e w = not w
only_malformed (no_domain formed not) e w = omega arith
only_malformed (no_frames formed l not) e w = omega arith
only_malformed (in_hole formed l fits inside) e w = omega arith
only_malformed (live_already p is alive) e w = omega arith
only_malformed (not_live p other dead) e w = omega arith
only_malformed (mapped p is some) e w = omega arith
only_malformed (mapped_in_run p is r) e w = omega arith
only_malformed (no_place p is none) e w = omega arith
only_malformed (no_place_in_run p is r) e w = omega arith
only_malformed (not_mapped p which others) e w = omega arith
only_malformed (not_mapped_in_run p is r) e w = omega arith

pub all_refused_fails : RefusedExactly all_refused → ⊥
all_refused_fails h =
    only_malformed ((h z opened 3 0 3 0 7 opened_sound).0 refl) refl
    (record { uses = OneFrame; opens = false; is_call = call_3; unused_zero_lem = refl })

-- A run longer than the longest is refused by 9, in the new state of a board with as many frames too.
abbrev wide : Sizes
wide = sizes_of 1 1 2049

pub long_run_taken_fails : RefusedExactly long_run_taken → ⊥
unfolding allowed
long_run_taken_fails h =
    not_refused (Finished 2049) refl 9
    ((h wide (new_state wide []) 6 0 0 2049 9 (new_sound wide [] (allowed_facts wide refl) (none_allowed wide))).1
    (no_frames (record { uses = FrameAndCount; opens = false; is_call = call_6; unused_zero_lem = tt }) (lit≤ tt) (λ w. omega (arith, w.3))))

-- ---- A board with a hole
-- Frame 5 is a hole, and domain 0 is open.
abbrev one_hole : List ℕ
one_hole = 5 ∷ 1 ∷ []

one_allowed : HolesAllowed z one_hole
unfolding holes_fit all
one_allowed = record { even = refl; fit = fit_facts 16 1 one_hole refl }

holed : List ℕ
holed = (answering z (new_state z one_hole) 1 0 0 0).words

holed_sound : Sound z holed
unfolding holed
holed_sound = answering_sound z (new_state z one_hole) 1 0 0 0 (new_sound z one_hole example_allowed one_allowed)

hole_computed : (outside holed 5 ≡ false) × (get z (hole_mapped z holed 3 0 5 0).words (leaf 5) ≡ 1)
unfolding all holed new_state asking outside_all refusal_of line_of calls open_call map_call mapping page_at placing decision writing after_giving taking fresh_entries owned link_of of_rank count first_from leaf_at treeling_of
hole_computed = (refl, refl)

pub hole_mapped_fails : RequestNoHoleMapped hole_mapped → ⊥
hole_mapped_fails h =
    omega (arith, h z holed 3 0 5 0 holed_sound 5 hole_computed.0, hole_computed.1)

count_computed : (get_or (holes_dropped z (new_state z one_hole) 1 0 0 0).words 8 0 ≡ 0) × (get_or (new_state z one_hole) 8 0 ≡ 1)
unfolding all new_state asking outside_all refusal_of line_of calls open_call
count_computed = (refl, refl)

pub holes_dropped_fails : RequestHolesStay holes_dropped → ⊥
holes_dropped_fails h =
    omega (arith, h z (new_state z one_hole) 1 0 0 0 (new_sound z one_hole example_allowed one_allowed) 8 (lit≤ tt) (lit≤ tt), count_computed.0, count_computed.1)

-- ---- A guest that restarts
-- Two TreeLings, and one domain with one frame: it has mapped it in TreeLing 0, and the hand is 1.
abbrev small : Sizes
small = sizes_of 2 1 1

started : List ℕ
started = (answering small (answering small (new_state small []) 1 0 0 0).words 3 0 0 0).words

started_sound : Sound small started
unfolding started allowed
started_sound =
    answering_sound small (answering small (new_state small []) 1 0 0 0).words 3 0 0 0
    (answering_sound small (new_state small []) 1 0 0 0 (new_sound small [] (allowed_facts small refl) (none_allowed small)))

-- It is closed, and open again.
restarted : List ℕ
restarted = (answering small (answering small started 2 0 0 0).words 1 0 0 0).words

restarted_sound : Sound small restarted
unfolding restarted
restarted_sound =
    answering_sound small (answering small started 2 0 0 0).words 1 0 0 0 (answering_sound small started 2 0 0 0 started_sound)

record Restarted : Type 0 where
  held : get small started (former 0) ≡ 1
  left : get small (former_forgotten small started 2 0 0 0).words (owner 0) ≡ 0
  forgotten : get small (former_forgotten small started 2 0 0 0).words (former 0) ≡ 0
  unowned_0 : get small restarted (owner 0) ≡ 0
  former_0 : get small restarted (former 0) ≡ 1
  unowned_1 : get small restarted (owner 1) ≡ 0
  former_1 : get small restarted (former 1) ≡ 0
  taken_1 : get small (first_unowned_taken small restarted 3 0 0 0).words (owner 1) ≡ 1

restart_computed : Restarted
unfolding all started restarted new_state asking outside_all refusal_of line_of calls open_call map_call mapping page_at placing decision writing after_giving taking fresh_entries owned link_of of_rank count first_from close_call closing treelings_cleared leaves_cleared zeros leaf_at treeling_of
restart_computed =
    record {
      held = refl;
      left = refl;
      forgotten = refl;
      unowned_0 = refl;
      former_0 = refl;
      unowned_1 = refl;
      former_1 = refl;
      taken_1 = refl;
    }

pub former_forgotten_fails : RequestFormersKept former_forgotten → ⊥
former_forgotten_fails h =
    let c = restart_computed in
    omega (arith, h small started 2 0 0 0 started_sound 0 (lit≤ tt) c.left, c.forgotten, c.held)

pub first_unowned_taken_fails : MapTakesFormer first_unowned_taken → ⊥
first_unowned_taken_fails h =
    let c = restart_computed in
    omega (arith, h small restarted 0 0 1 0 restarted_sound (lit≤ tt) (lit≤ tt) c.unowned_1 c.taken_1 c.unowned_0 c.former_0, c.former_1)

-- ---- A page unmapped, and a trim
-- Domain 0 has mapped frame 3 and unmapped it.
emptied : List ℕ
emptied = (answering z holding 4 0 3 0).words

emptied_sound : Sound z emptied
unfolding emptied
emptied_sound = answering_sound z holding 4 0 3 0 holding_sound

record Trims : Type 0 where
  returned : (answering z emptied 8 0 0 0).answer ≡ Finished 1
  live_is : Live z emptied 0
  own : get z emptied (owner 0) ≡ 1
  empty : is_empty z emptied 0 ≡ true
  kept : (answering z holding 8 0 0 0).answer ≡ Finished 0
  used : is_empty z holding 0 ≡ false
  unowned : get z (put z holding (owner 0) 0) (owner 0) ≡ 0
  first-rank : get z holding (rank 0) ≡ 0
  moved : get z (put z holding (rank 0) 1) (rank 0) ≡ 1

trim_computed : Trims
unfolding all opened holding emptied new_state asking outside_all refusal_of line_of calls open_call map_call mapping placing decision writing after_giving taking fresh_entries owned link_of of_rank count first_from unmap_call releasing release_step after_step trim_call number_returned is_empty leaf_at treeling_of node_of_leaf position_of_leaf
trim_computed =
    record {
      returned = refl;
      live_is = refl;
      own = refl;
      empty = refl;
      kept = refl;
      used = refl;
      unowned = refl;
      first-rank = refl;
      moved = refl;
    }

-- The empty TreeLing is not returned,
pub trim_unwritten_fails : TrimExact trim_unwritten → ⊥
trim_unwritten_fails h =
    let c = trim_computed in
    let w = rw c.returned at (h z emptied 0 emptied_sound (lit≤ tt) c.live_is) in
    omega (arith, w.returned 0 (lit≤ tt) c.own c.empty, c.own)

-- one with a page is,
pub trim_of_used_fails : TrimExact trim_of_used → ⊥
trim_of_used_fails h =
    let c = trim_computed in
    let w = rw c.kept at (h z holding 0 holding_sound (lit≤ tt) computed.live_still) in
    omega (arith, w.stays 0 (lit≤ tt) (λ _. c.used), c.unowned, computed.owner_is)

-- and one that stays, with none before it, is not the first.
pub trim_out_of_order_fails : TrimExact trim_out_of_order → ⊥
trim_out_of_order_fails h =
    let c = trim_computed in
    let w = rw c.kept at (h z holding 0 holding_sound (lit≤ tt) computed.live_still) in
    let before = stays z holding 0 in
    omega (arith, w.order 0 (lit≤ tt) computed.owner_is c.used, c.moved, ap (λ (r : ℕ). count r before) c.first-rank, count_none before)
