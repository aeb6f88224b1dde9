-- Two histories of the sizes of document 01's example in which domain 0 asks the same and the numbers of its TreeLings differ: in the second one domain 1 has taken TreeLing 0 first.
-- Assumes nothing.
use Prim.Native.Nat.{ℕ, ◌*◌, ◌/◌}
use mathlib.Core.Path.{◌≡◌, refl, sym, ap, subst, ◌∙◌}
use mathlib.Core.List.{List, [], ◌∷◌, ◌++◌}
use lib.Dec.{lit≤}
use lib.ListN.{length, take, drop, replicate, take-append-drop}
use Rattle.geometry.specs.Geometry.{path_node}
use Rattle.leaf_map.specs.LeafIds.{leaf_at, treeling_of, slot_of, node_of_leaf, position_of_leaf}
use Rattle.geometry.specs.Tables.{first_from}
use Rattle.board.specs.NewState.{new_state}
use Rattle.layout.specs.Bounded.{all, count}
use Rattle.board.specs.Holes.{outside_all}
use Rattle.sound.specs.Sound.{Sound}
use Rattle.sound.proofs.NewStateSound.{none_allowed, new_sound}
use Rattle.sound.specs.Sentences.{of_rank, link_of}
use Rattle.world.specs.World.{owned}
use Rattle.taking.specs.Taking.{fresh_entries, taking}
use Rattle.placing.specs.Placing.{after_giving, placing, decision, writing}
use Rattle.pages.specs.Answers.{answer_words, page_at}
use Rattle.domains.specs.Opening.{open_call}
use Rattle.pages.specs.Mapping.{mapping, map_call}
use Rattle.pages.specs.Unmapping.{unmap_call}
use Rattle.domains.specs.Trimming.{trim_call}
use Rattle.domains.specs.Filling.{fill_of, fill_call}
use Rattle.releasing.specs.Releasing.{release_step, after_step, releasing}
use Rattle.returning.specs.Returning.{is_empty, number_returned}
use Rattle.questions.specs.Questions.{asking, refusal_of}
use Rattle.calls.specs.Table.{calls, line_of}
use Rattle.batch.specs.Batch.{Served, served, serving, state_after}
use Rattle.histories.specs.Histories.{Carried, leaving, Entry, batch, request, Heard, Controller, ours, heard_in, heard_of, effect_of, heard_from, only, own_in, AllAgree}
use Rattle.histories.proofs.BatchSound.{after_sound}
use Rattle.histories.proofs.Isolation.{isolation}
use Rattle.worked.proofs.TenLines.{example_sizes, example_allowed, served_from, batch_served}
use Rattle.histories.proofs.PremiseLaws.{each, made, agreed}

-- ---- The pair
abbrev pub post : List ℕ → Entry
post q = batch q (2 * length q)

-- Domain 0 opens, unmaps frame 3, which is refused, maps it, asks for its fill, unmaps it, and trims.
abbrev pub own_requests : List ℕ
own_requests = 1 ∷ 0 ∷ 0 ∷ 0 ∷ 4 ∷ 0 ∷ 3 ∷ 0 ∷ 3 ∷ 0 ∷ 3 ∷ 0 ∷ 11 ∷ 0 ∷ 0 ∷ 0 ∷ 4 ∷ 0 ∷ 3 ∷ 0 ∷ 8 ∷ 0 ∷ 0 ∷ 0 ∷ []

-- Domain 1 opens and maps frame 9.
abbrev pub others_requests : List ℕ
others_requests = 1 ∷ 1 ∷ 0 ∷ 0 ∷ 3 ∷ 1 ∷ 9 ∷ 0 ∷ []

-- Domain 0 by itself, and after domain 1.
abbrev pub alone : List Entry
alone = post own_requests ∷ []

abbrev pub beside : List Entry
beside = post others_requests ∷ post own_requests ∷ []

-- What any controller is heard to answer, batch by batch.
module _ (c : Controller) where
  pub heard_own : (w : Carried) {r b : List ℕ} → c.serve w.state own_requests (replicate 48 0) ≡ served 0 r b → heard_from c w alone ≡ heard_in own_requests b 6 ++ []
  unfolding heard_from effect_of
  heard_own w own = ap (λ (x : Served). heard_of x own_requests ++ heard_from c (leaving w x.state) []) own

  pub heard_both : (w : Carried) (q : List ℕ) {s r a b : List ℕ} → c.serve w.state q (replicate (2 * length q) 0) ≡ served 0 s a → c.serve s own_requests (replicate 48 0) ≡ served 0 r b
      → heard_from c w (post q ∷ alone) ≡ heard_in q a (length q / 4) ++ (heard_in own_requests b 6 ++ [])
  unfolding heard_from effect_of
  heard_both w q {s} {a} others own =
      ap (λ (x : Served). heard_of x q ++ heard_from c (leaving w x.state) alone) others
      ∙ ap (λ (l : List Heard). heard_in q a (length q / 4) ++ l) (heard_own (leaving w s) own)

-- ---- Domain 0's batch from a new state
abbrev pub alone_answers : List ℕ
alone_answers = 0 ∷ 0 ∷ 0 ∷ 0 ∷ 0 ∷ 0 ∷ 0 ∷ 0 ∷ 14 ∷ 0 ∷ 0 ∷ 0 ∷ 0 ∷ 0 ∷ 0 ∷ 0 ∷ 0 ∷ 0 ∷ 0 ∷ 0 ∷ 0 ∷ 0 ∷ 0 ∷ 1 ∷ 0 ∷ 0 ∷ 1000 ∷ 4096 ∷ 0 ∷ 0 ∷ 0 ∷ 0 ∷ 0 ∷ 0 ∷ 0 ∷ 0 ∷ 0 ∷ 0 ∷ 0 ∷ 1 ∷ 0 ∷ 0 ∷ 0 ∷ 0 ∷ 0 ∷ 0 ∷ 0 ∷ 1 ∷ []

alone_served : served_from example_sizes own_requests 0 6 (new_state example_sizes []) (replicate 48 0) ≡ alone_answers
unfolding served_from new_state asking outside_all all refusal_of line_of calls open_call map_call unmap_call mapping page_at fill_call fill_of answer_words placing decision writing after_giving taking fresh_entries owned link_of of_rank count first_from path_node releasing release_step after_step trim_call number_returned is_empty leaf_at treeling_of slot_of node_of_leaf position_of_leaf
alone_served = refl

pub alone_batch : serving (new_state example_sizes []) own_requests (replicate 48 0) ≡ served 0 (state_after example_sizes (new_state example_sizes []) own_requests 6) alone_answers
alone_batch =
    batch_served example_sizes (new_state example_sizes []) own_requests (replicate 48 0) (new_sound example_sizes [] example_allowed (none_allowed example_sizes)) refl refl
    ∙ ap (served 0 _) alone_served

-- ---- Domain 0's batch after domain 1's
-- What domain 1's batch leaves: the contents and the domain records, and the words behind them.
left : List ℕ
left = state_after example_sizes (new_state example_sizes []) others_requests 2

pub behind : List ℕ
behind = drop 37 left

abbrev pub others_state : List ℕ
others_state = 2 ∷ 2 ∷ 16 ∷ 1 ∷ 25 ∷ 37 ∷ 47 ∷ 1071 ∷ (replicate 17 0 ++ (0 ∷ 0 ∷ 0 ∷ 0 ∷ 0 ∷ 0 ∷ 1 ∷ 1 ∷ 1 ∷ 1 ∷ 0 ∷ 1 ∷ behind))

front : take 37 left ++ behind ≡ others_state
unfolding left state_after new_state asking outside_all all refusal_of line_of calls open_call map_call mapping placing decision writing after_giving taking fresh_entries owned link_of of_rank count first_from leaf_at
front = refl

left_is : left ≡ others_state
unfolding behind
left_is = sym (take-append-drop 37 left) ∙ front

-- Its answers are domain 1's, and are not compared.
pub others_answers : List ℕ
others_answers = served_from example_sizes others_requests 0 2 (new_state example_sizes []) (replicate 16 0)

pub others_batch : serving (new_state example_sizes []) others_requests (replicate 16 0) ≡ served 0 others_state others_answers
unfolding left others_answers
others_batch =
    batch_served example_sizes (new_state example_sizes []) others_requests (replicate 16 0) (new_sound example_sizes [] example_allowed (none_allowed example_sizes)) refl refl
    ∙ ap (λ (s : List ℕ). served 0 s others_answers) left_is

abbrev pub beside_answers : List ℕ
beside_answers = 0 ∷ 0 ∷ 0 ∷ 0 ∷ 0 ∷ 0 ∷ 0 ∷ 0 ∷ 14 ∷ 0 ∷ 0 ∷ 0 ∷ 0 ∷ 0 ∷ 0 ∷ 0 ∷ 0 ∷ 0 ∷ 1 ∷ 8 ∷ 64 ∷ 512 ∷ 0 ∷ 1 ∷ 0 ∷ 0 ∷ 1000 ∷ 4096 ∷ 0 ∷ 0 ∷ 0 ∷ 0 ∷ 0 ∷ 0 ∷ 0 ∷ 0 ∷ 0 ∷ 0 ∷ 0 ∷ 1 ∷ 0 ∷ 0 ∷ 0 ∷ 0 ∷ 0 ∷ 0 ∷ 0 ∷ 1 ∷ []

beside_served : served_from example_sizes own_requests 0 6 left (replicate 48 0) ≡ beside_answers
unfolding served_from new_state left state_after asking outside_all all refusal_of line_of calls open_call map_call unmap_call mapping page_at fill_call fill_of answer_words placing decision writing after_giving taking fresh_entries owned link_of of_rank count first_from path_node releasing release_step after_step trim_call number_returned is_empty leaf_at treeling_of slot_of node_of_leaf position_of_leaf
beside_served = refl

left_sound : Sound example_sizes left
unfolding left
left_sound = after_sound example_sizes (new_state example_sizes []) others_requests (new_sound example_sizes [] example_allowed (none_allowed example_sizes)) 2

pub beside_batch : serving others_state own_requests (replicate 48 0) ≡ served 0 (state_after example_sizes others_state own_requests 6) beside_answers
beside_batch =
    subst (λ (s : List ℕ). serving s own_requests (replicate 48 0) ≡ served 0 (state_after example_sizes s own_requests 6) beside_answers) left_is
    (batch_served example_sizes left own_requests (replicate 48 0) left_sound refl refl ∙ ap (served 0 _) beside_served)

-- ---- What domain 0 hears
abbrev hear : List ℕ → List ℕ → Heard
hear q a = record { asked = request q; answer = a }

alone_heard : heard_from ours (made example_sizes []) alone ≡ heard_in own_requests alone_answers 6 ++ []
alone_heard = heard_own ours (made example_sizes []) alone_batch

beside_heard : heard_from ours (made example_sizes []) beside ≡ heard_in others_requests others_answers 2 ++ (heard_in own_requests beside_answers 6 ++ [])
beside_heard = heard_both ours (made example_sizes []) others_requests others_batch beside_batch

-- Its page is in TreeLing 0 by itself,
pub alone_own : own_in 0 (heard_from ours (made example_sizes []) alone)
    ≡ hear (1 ∷ 0 ∷ 0 ∷ 0 ∷ []) (0 ∷ 0 ∷ 0 ∷ 0 ∷ 0 ∷ 0 ∷ 0 ∷ 0 ∷ [])
    ∷ hear (4 ∷ 0 ∷ 3 ∷ 0 ∷ []) (14 ∷ 0 ∷ 0 ∷ 0 ∷ 0 ∷ 0 ∷ 0 ∷ 0 ∷ [])
    ∷ hear (3 ∷ 0 ∷ 3 ∷ 0 ∷ []) (0 ∷ 0 ∷ 0 ∷ 0 ∷ 0 ∷ 0 ∷ 0 ∷ 1 ∷ [])
    ∷ hear (11 ∷ 0 ∷ 0 ∷ 0 ∷ []) (0 ∷ 0 ∷ 1000 ∷ 4096 ∷ 0 ∷ 0 ∷ 0 ∷ 0 ∷ [])
    ∷ hear (4 ∷ 0 ∷ 3 ∷ 0 ∷ []) (0 ∷ 0 ∷ 0 ∷ 0 ∷ 0 ∷ 0 ∷ 0 ∷ 1 ∷ [])
    ∷ hear (8 ∷ 0 ∷ 0 ∷ 0 ∷ []) (0 ∷ 0 ∷ 0 ∷ 0 ∷ 0 ∷ 0 ∷ 0 ∷ 1 ∷ [])
    ∷ []
unfolding only heard_in
alone_own = ap (own_in 0) alone_heard

-- and in TreeLing 1 after domain 1; its fill and its trim are the same,
pub beside_own : own_in 0 (heard_from ours (made example_sizes []) beside)
    ≡ hear (1 ∷ 0 ∷ 0 ∷ 0 ∷ []) (0 ∷ 0 ∷ 0 ∷ 0 ∷ 0 ∷ 0 ∷ 0 ∷ 0 ∷ [])
    ∷ hear (4 ∷ 0 ∷ 3 ∷ 0 ∷ []) (14 ∷ 0 ∷ 0 ∷ 0 ∷ 0 ∷ 0 ∷ 0 ∷ 0 ∷ [])
    ∷ hear (3 ∷ 0 ∷ 3 ∷ 0 ∷ []) (0 ∷ 0 ∷ 1 ∷ 8 ∷ 64 ∷ 512 ∷ 0 ∷ 1 ∷ [])
    ∷ hear (11 ∷ 0 ∷ 0 ∷ 0 ∷ []) (0 ∷ 0 ∷ 1000 ∷ 4096 ∷ 0 ∷ 0 ∷ 0 ∷ 0 ∷ [])
    ∷ hear (4 ∷ 0 ∷ 3 ∷ 0 ∷ []) (0 ∷ 0 ∷ 0 ∷ 0 ∷ 0 ∷ 0 ∷ 0 ∷ 1 ∷ [])
    ∷ hear (8 ∷ 0 ∷ 0 ∷ 0 ∷ []) (0 ∷ 0 ∷ 0 ∷ 0 ∷ 0 ∷ 0 ∷ 0 ∷ 1 ∷ [])
    ∷ []
unfolding only heard_in
beside_own = ap (own_in 0) beside_heard

-- and by demand 3 the answers agree: the pair meets all that it asks.
pub pair_agrees : AllAgree (own_in 0 (heard_from ours (made example_sizes []) alone)) (own_in 0 (heard_from ours (made example_sizes []) beside))
unfolding only heard_in each
pair_agrees = agreed ours isolation example_sizes example_allowed [] (none_allowed example_sizes) 0 (lit≤ tt) alone beside _ _ alone_heard beside_heard refl refl
