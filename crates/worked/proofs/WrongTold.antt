-- The statements on what a done request tells and leaves, on batches and on making bite: wrong controllers that are ours but for one fault, and for each a statement that is false of it.
-- Assumes nothing.
use Prim.Native.Nat.{ℕ, suc, ◌+◌, ◌%◌}
use mathlib.Core.Path.{◌≡◌, refl, ap, ap₂, ◌∙◌}
use mathlib.Core.List.{List, [], ◌∷◌}
use mathlib.Core.Bool.{Bool, cond, ◌&&◌, not}
use mathlib.Core.Logic.{inl, inr}
use native.Mathlib.Omega.{arith}
use borrow.Author.Tests.{eq-eqb}
use lib.Dec.{eqb, lit≤}
use lib.ListN.{length, get_or, replicate, length-replicate}
use lib.Seq.{get_or-set_other}
use Rattle.layout.specs.declared.Sizes.{Sizes}
use Rattle.geometry.specs.Geometry.{path_node}
use Rattle.geometry.specs.Tables.{first_from}
use Rattle.layout.specs.Outcomes.{outcome}
use Rattle.layout.specs.Places.{allowed, address, get, put, sizes_of, zeros, hand, leaf, live, owner, rank, former}
use Rattle.board.specs.NewState.{new_state, making}
use Rattle.layout.specs.Bounded.{all, count}
use Rattle.board.specs.Holes.{outside_all}
use Rattle.layout.proofs.PlaceLaws.{get-put_same}
use Rattle.leaf_map.specs.LeafIds.{leaf_at, treeling_of, slot_of}
use Rattle.sound.specs.Contents.{sizes_in}
use Rattle.sound.specs.Sentences.{of_rank, link_of}
use Rattle.sound.specs.Sound.{Sound}
use Rattle.sound.proofs.NewStateSound.{none_allowed, new_sound}
use Rattle.sound.proofs.SoundLaws.{sound_sizes}
use Rattle.sound.proofs.TestLaws.{live_ordinary}
use Rattle.world.specs.World.{owned}
use Rattle.taking.specs.Taking.{fresh_entries, taking}
use Rattle.placing.specs.Placing.{after_giving, decision, placing, writing}
use Rattle.pages.specs.Answers.{Refused, Finished, Page, Fill, answer_words, page_at}
use Rattle.domains.specs.Opening.{open_call}
use Rattle.domains.specs.Closing.{leaves_cleared, closing, close_call}
use Rattle.pages.specs.Mapping.{mapping, map_call}
use Rattle.pages.specs.Paths.{path_call}
use Rattle.clearing.specs.Clearing.{treelings_cleared}
use Rattle.requests.proofs.AnsweringSound.{answering_sound}
use Rattle.calls.specs.Table.{calls, line_of}
use Rattle.questions.specs.Questions.{answering, asking, refusal_of}
use Rattle.batch.specs.Batch.{served, serving}
use Rattle.histories.specs.Histories.{Controller, serves}
use Rattle.histories.specs.Demands.{Answerer}
use Rattle.histories.specs.Batches.{Maker, BatchNumber, not_laid_out, not_sound, no_requests, no_answers, done, BatchExactly, RefusedBatchSame, BatchInOrder, RefusedMakingSame}
use Rattle.histories.specs.Told.{MapTold, PathTold, ZerosBetween, OpenDone, CloseDone, NeverFifteen, Singles, none_yet, one_more, RunInOrder, from_hand, MapTakesNearest, MapMovesHand, HandStays}
use Rattle.histories.proofs.BatchCases.{batch_exactly}
use Rattle.worked.proofs.TenLines.{example_allowed}
use Rattle.worked.proofs.WrongAnswers.{is_done, done_wrong, z, opened, holding, opened_sound, holding_sound, computed, not_refused}

-- ---- The wrong answerers
-- Open leaves the domain dead; it tells a page.
abbrev pub open_dead : Answerer
open_dead = done_wrong 1 λ z s d f o. outcome o.answer s

abbrev pub open_tells_page : Answerer
open_tells_page = done_wrong 1 λ z s d f o. outcome (Finished 1) o.words

-- Close does nothing, and tells no pages.
abbrev pub close_nothing : Answerer
close_nothing = done_wrong 2 λ z s d f o. outcome (Finished 0) s

-- Path tells slot 8 of TreeLing 0, wherever the page is; tells a page; moves the hand.
abbrev pub path_of_slot8 : Answerer
path_of_slot8 = done_wrong 5 λ z s d f o. outcome (page_at z s 9 0) s

abbrev pub path_tells_page : Answerer
path_tells_page = done_wrong 5 λ z s d f o. outcome (page_at z s (get z s (leaf f)) 1) s

abbrev pub path_writes : Answerer
path_writes = done_wrong 5 λ z s d f o. outcome o.answer (put z s hand (suc (get z s hand)))

-- Map tells rank 1, whatever the rank is.
abbrev pub rank_invented : Answerer
rank_invented = done_wrong 3 λ z s d f o. outcome (Page (record { 0 = get z o.words (leaf f) }) 1 1) o.words

-- Unmap tells a word between number and pages.
abbrev pub word_between : Answerer
word_between = done_wrong 4 λ z s d f o. outcome (Fill 1 0 0) o.words

-- A path of a frame that the domain has not mapped hears 15.
abbrev pub path_hears15 : Answerer
path_hears15 z s c d f n =
    let o = answering z s c d f n in
    cond (eqb c 5 && not (is_done o.answer)) (outcome (Refused 15) s) o

-- A map run of two frames maps the second one first.
abbrev pub run_descending : Answerer
run_descending = done_wrong 6 λ z s d f o. outcome o.answer (answering z (answering z s 3 d (f + 1) 0).words 3 d f 0).words

-- A map that takes leaves the hand where it was; one takes as if the hand were at TreeLing 0.
abbrev pub hand_left : Answerer
hand_left = done_wrong 3 λ z s d f o. outcome o.answer (put z o.words hand (get z s hand))

abbrev pub takes_from0 : Answerer
takes_from0 z s c d f n = answering z (cond (eqb c 3) (put z s hand 0) s) c d f n

-- An open moves the hand.
abbrev pub open_moves_hand : Answerer
open_moves_hand = done_wrong 1 λ z s d f o. outcome o.answer (put z o.words hand 1)

-- ---- What ours answers, computed
abbrev new : List ℕ
new = new_state z []

new_is_sound : Sound z new
new_is_sound = new_sound z [] example_allowed (none_allowed z)

record Answered : Type 0 where
  open_new : (answering z new 1 0 0 0).answer ≡ Finished 0
  dead : get z new (live 0) ≡ 0
  alive : get z (answering z new 1 0 0 0).words (live 0) ≡ 1
  close_holding : (answering z holding 2 0 0 0).answer ≡ Finished 1
  path_holding : (answering z holding 5 0 3 0).answer ≡ Page (record { 0 = 1 }) 0 0
  map_leaf : get z holding (leaf 3) ≡ 1
  map_rank : get z holding (rank 0) ≡ 0
  hand_opened : get z opened hand ≡ 0
  hand_new : get z new hand ≡ 0
  ascending : get z (answering z (answering z opened 3 0 3 0).words 3 0 4 0).words (leaf 3) ≡ 1
  descending : get z (answering z (answering z opened 3 0 4 0).words 3 0 3 0).words (leaf 3) ≡ 2

-- Domain 1 has opened, mapped a frame and closed: TreeLing 0 is unowned and the hand is at 1. Domain 0 is open.
unfoldable left : List ℕ
left = (answering z (answering z (answering z (answering z new 1 1 0 0).words 3 1 9 0).words 2 1 0 0).words 1 0 0 0).words

left_sound : Sound z left
unfolding left
left_sound =
    answering_sound z _ 1 0 0 0 (answering_sound z _ 2 1 0 0 (answering_sound z _ 3 1 9 0 (answering_sound z new 1 1 0 0 new_is_sound)))

record Left : Type 0 where
  hand_at : get z left hand ≡ 1
  owner_0 : get z left (owner 0) ≡ 0
  owner_1 : get z left (owner 1) ≡ 0
  former_0 : get z left (former 0) ≡ 2
  taken_0 : get z (takes_from0 z left 3 0 3 0).words (owner 0) ≡ 1

left_computed : Left
unfolding left all new_state asking outside_all refusal_of line_of calls open_call close_call closing treelings_cleared leaves_cleared zeros map_call mapping page_at placing decision writing after_giving taking fresh_entries owned link_of of_rank count first_from leaf_at treeling_of
left_computed =
    record {
      hand_at = refl;
      owner_0 = refl;
      owner_1 = refl;
      former_0 = refl;
      taken_0 = refl;
    }

answered : Answered
unfolding all opened holding new_state asking outside_all refusal_of line_of calls open_call close_call map_call mapping page_at placing decision writing after_giving taking fresh_entries owned link_of of_rank count first_from path_call leaf_at treeling_of
answered =
    record {
      open_new = refl;
      dead = refl;
      alive = refl;
      close_holding = refl;
      path_holding = refl;
      map_leaf = refl;
      map_rank = refl;
      hand_opened = refl;
      hand_new = refl;
      ascending = refl;
      descending = refl;
    }

-- ---- The statements that are false of them
pub open_dead_fails : OpenDone open_dead → ⊥
open_dead_fails h =
    omega (arith, ((rw answered.open_new at (h z new 0 new_is_sound)) (not_refused _ refl)).alive, answered.dead)

pub open_tells_page_fails : OpenDone open_tells_page → ⊥
unfolding answer_words
open_tells_page_fails h =
    omega (arith, ((rw answered.open_new at (h z new 0 new_is_sound)) (not_refused _ refl)).pages)

pub close_nothing_fails : CloseDone close_nothing → ⊥
close_nothing_fails h =
    omega (arith, ((rw answered.close_holding at (h z holding 0 holding_sound)) (not_refused _ refl)).record_zero 0 (lit≤ tt), computed.live_still)

pub path_of_slot8_fails : PathTold path_of_slot8 → ⊥
unfolding answer_words page_at path_node treeling_of slot_of
path_of_slot8_fails h =
    let w = ((rw answered.path_holding at (h z holding 0 3 holding_sound (live_ordinary z holding 0 computed.live_still))) (not_refused _ refl)).0 in
    omega (arith, w.mapped, answered.map_leaf, ap (λ (a : List ℕ). get_or a 5 0) w.told)

pub path_tells_page_fails : PathTold path_tells_page → ⊥
unfolding answer_words page_at
path_tells_page_fails h =
    let w = ((rw answered.path_holding at (h z holding 0 3 holding_sound (live_ordinary z holding 0 computed.live_still))) (not_refused _ refl)).0 in
    omega (arith, ap (λ (a : List ℕ). get_or a 7 0) w.told)

pub path_writes_fails : PathTold path_writes → ⊥
path_writes_fails h =
    let same = ((rw answered.path_holding at (h z holding 0 3 holding_sound (live_ordinary z holding 0 computed.live_still))) (not_refused _ refl)).1 in
    let moved = get-put_same z holding hand (suc (get z holding hand)) holding_sound.laid_out.laid (lit≤ tt) in
    omega (arith, ap (λ (s : List ℕ). get z s hand) same, moved)

pub rank_invented_fails : MapTold rank_invented → ⊥
unfolding answer_words holding
rank_invented_fails h =
    let w = (rw computed.map at (h z opened 0 3 opened_sound (live_ordinary z opened 0 computed.live_is))) (not_refused _ refl) in
    let here : w.treeling ≡ 0 = omega (arith, w.mapped, answered.map_leaf, w.slot_below) in
    omega (arith, ap (λ (a : List ℕ). get_or a 1 0) w.told, ap (λ (t : ℕ). get z holding (rank t)) here, answered.map_rank)

pub word_between_fails : ZerosBetween word_between → ⊥
unfolding answer_words
word_between_fails h =
    omega (arith, (rw computed.unmap at (h z holding 4 0 3 0 holding_sound (inr (inr (inl refl))))) (not_refused _ refl) 1 (lit≤ tt))

pub path_hears15_fails : NeverFifteen path_hears15 → ⊥
path_hears15_fails h = (rw computed.path at (h z opened 5 0 3 0 opened_sound)) refl

-- Two single maps, one after the other, leave frame 3 in slot 0; the other way round in slot 1.
two_singles : (answer : Answerer) (s r : List ℕ) (d f n : ℕ) → Singles answer 3 z s d f n r → n ≡ 2 → r ≡ (answer z (answer z s 3 d (f + 0) 0).words 3 d (f + 1) 0).words
two_singles answer s r d f n w e = from f n r w e
  where
    from : (f n : ℕ) (r : List ℕ) → Singles answer 3 z s d f n r → n ≡ 2 → r ≡ (answer z (answer z s 3 d (f + 0) 0).words 3 d (f + 1) 0).words
    from f n r none_yet e = absurd (omega arith)
    from f n r (one_more none_yet p) e = absurd (omega arith)
    from f n r (one_more (one_more none_yet p) q) e = refl
    from f n r (one_more (one_more (one_more w o) p) q) e = absurd (omega arith)

pub run_descending_fails : RunInOrder run_descending → ⊥
run_descending_fails h =
    let wrong = (rw computed.map_run at (h z opened 0 3 2 opened_sound).0) (not_refused _ refl) in
    let same = two_singles run_descending opened _ 0 3 2 wrong refl in
    omega (arith, ap (λ (s : List ℕ). get z s (leaf 3)) same, answered.descending, answered.ascending)

pub hand_left_fails : MapMovesHand hand_left → ⊥
unfolding holding
hand_left_fails h =
    let moves = (rw computed.map at ((h z opened 0 3 opened_sound).0 0 (lit≤ tt) computed.unowned)) in
    let still = get_or-set_other holding (address z hand) (address z (owner 0)) (get z opened hand) 0 (omega arith) in
    let there = get-put_same z holding hand (get z opened hand) holding_sound.laid_out.laid (lit≤ tt) in
    omega (arith, moves (still ∙ computed.owner_is), there, answered.hand_opened)

pub open_moves_hand_fails : HandStays open_moves_hand → ⊥
open_moves_hand_fails h =
    let stays = rw answered.open_new at (h z new 1 0 0 0 new_is_sound (λ e. omega arith) (λ e. omega arith)) in
    let there = get-put_same z (answering z new 1 0 0 0).words hand 1 (answering_sound z new 1 0 0 0 new_is_sound).laid_out.laid (lit≤ tt) in
    omega (arith, stays, there, answered.hand_new)

-- From a hand at 1, TreeLing 1 is nearer than TreeLing 0.
pub takes_from0_fails : MapTakesNearest takes_from0 → ⊥
takes_from0_fails h =
    let c = left_computed in
    let zero_at : from_hand z left 1 ≡ 0 = ap (λ (k : ℕ). (k + 1) % 2) c.hand_at in
    let one_at : from_hand z left 0 ≡ 1 = ap (λ (k : ℕ). (k + 0) % 2) c.hand_at in
    let nearer = h z left 0 3 1 0 left_sound (lit≤ tt) (lit≤ tt)
    (ap (λ (t : ℕ). get z left (owner t)) zero_at ∙ c.owner_0)
    (ap (λ (t : ℕ). get z (takes_from0 z left 3 0 3 0).words (owner t)) zero_at ∙ c.taken_0)
    (ap (λ (t : ℕ). get z left (owner t)) one_at ∙ c.owner_1)
    (inr (λ last. omega (arith, ap (λ (t : ℕ). get z left (former t)) zero_at, c.former_0))) in
    omega arith

-- ---- The wrong batches
-- Every batch is refused by 5.
abbrev pub every_batch5 : Controller
every_batch5 = serves λ s q a. served 5 s a

-- A batch is answered 0, with the answer buffer as it was, and leaves the state.
abbrev pub nothing_served : Controller
nothing_served = serves λ s q a. served (serving s q a).number s a

-- A batch that is refused by 5 clears the state.
abbrev pub refused_clears : Controller
refused_clears = serves λ s q a. served (serving s q a).number (cond (eqb (serving s q a).number 5) [] (serving s q a).state) (serving s q a).answers

-- A batch of 65,537 requests is legal.
abbrev pub long_batch_taken : Controller
long_batch_taken = serves λ s q a. cond (eqb (length q) 262148) (served 0 s a) (serving s q a)

-- Domain 0 opens.
abbrev opening : List ℕ
opening = 1 ∷ 0 ∷ 0 ∷ 0 ∷ []

sizes_are : sizes_in new ≡ z
sizes_are = sound_sizes z new new_is_sound

named_sound : Sound (sizes_in new) new
named_sound = rw sizes_are new_is_sound

pub every_batch5_fails : BatchExactly every_batch5 → ⊥
every_batch5_fails h =
    let five : ◌≡◌ {A = ℕ} 5 0 = (h new [] [] 0).1 (done named_sound (record { fours = refl; most = lit≤ tt }) refl) in
    omega arith

pub nothing_served_fails : BatchInOrder nothing_served answering → ⊥
nothing_served_fails h =
    let zero_told : (serving new opening (replicate 8 0)).number ≡ 0 = (batch_exactly new opening (replicate 8 0) 0).1 (done named_sound (record { fours = refl; most = lit≤ tt }) refl) in
    let w = h new opening (replicate 8 0) zero_told in
    let after : w.states 1 ≡ (answering (sizes_in new) (w.states 0) 1 0 0 0).words = w.next 0 (lit≤ tt) in
    let opened_is : new ≡ (answering z new 1 0 0 0).words = w.left ∙ after ∙ ap₂ (λ (y : Sizes) (s : List ℕ). (answering y s 1 0 0 0).words) sizes_are w.from in
    omega (arith, ap (λ (s : List ℕ). get z s (live 0)) opened_is, answered.dead, answered.alive)

pub refused_clears_fails : RefusedBatchSame refused_clears → ⊥
unfolding new_state
refused_clears_fails h =
    let five : (serving new (0 ∷ []) []).number ≡ 5 = (batch_exactly new (0 ∷ []) [] 5).1 (no_requests named_sound (λ w. let odd : ◌≡◌ {A = ℕ} 1 0 = w.fours in omega arith)) in
    let same : [] ≡ new = ((rw five at (h new (0 ∷ []) [])) (λ e. let no_zero : ◌≡◌ {A = ℕ} 5 0 = e in omega arith)).0 in
    omega (arith, ap length same)

pub long_batch_taken_fails : BatchExactly long_batch_taken → ⊥
long_batch_taken_fails h =
    let q : List ℕ = replicate 262148 0 in
    let long : length q ≡ 262148 = length-replicate {A = ℕ} 262148 0 in
    most 0 ((h new q [] 0).0 (ap (λ (b : Bool). (cond b (served 0 new []) (serving new q [])).number) (eq-eqb (length q) 262148 long))) refl
  where
    most : (k : ℕ) → BatchNumber new (replicate 262148 0) [] k → k ≡ 0 → ⊥
    most k (not_laid_out none) e = omega arith
    most k (not_sound l none) e = omega arith
    most k (no_requests s none) e = omega arith
    most k (no_answers s w none) e = omega arith
    most k (done s w t) e = omega (arith, w.most, length-replicate {A = ℕ} 262148 0)

-- A refused making clears the words lent.
abbrev pub refused_making_clears : Maker
refused_making_clears z holes s = outcome (making z holes s).answer (cond (eqb (making z holes s).answer 1) [] (making z holes s).words)

pub refused_making_clears_fails : RefusedMakingSame refused_making_clears → ⊥
unfolding making allowed
refused_making_clears_fails h =
    let same : ◌≡◌ {A = List ℕ} [] (0 ∷ []) = h (sizes_of 0 1 1) [] (0 ∷ []) (λ e. let no_zero : ◌≡◌ {A = ℕ} 1 0 = e in omega arith) in
    omega (arith, ap length same)
