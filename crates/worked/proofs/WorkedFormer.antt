-- Request M-104: two histories of a board with one TreeLing in which domain 0 asks the same. In the second one domain 1 has held the TreeLing before, and has left.
-- Assumes nothing.
use Prim.Native.Nat.{ℕ}
use mathlib.Core.Path.{◌≡◌, refl, ap, subst, ◌∙◌}
use mathlib.Core.List.{List, [], ◌∷◌}
use lib.ListN.{replicate}
use Rattle.layout.specs.declared.Sizes.{Sizes}
use Rattle.geometry.specs.Geometry.{path_node}
use Rattle.leaf_map.specs.LeafIds.{leaf_at, treeling_of, slot_of, node_of_leaf, position_of_leaf}
use Rattle.geometry.specs.Tables.{first_from}
use Rattle.layout.specs.Places.{Allowed, allowed, sizes_of, put, zeros, former}
use Rattle.board.specs.NewState.{new_state}
use Rattle.layout.specs.Bounded.{all, count}
use Rattle.board.specs.Holes.{outside_all}
use Rattle.layout.proofs.PlaceLaws.{allowed_facts}
use Rattle.sound.specs.Sound.{Sound}
use Rattle.sound.specs.Sentences.{of_rank, link_of}
use Rattle.sound.proofs.NewStateSound.{none_allowed, new_sound}
use Rattle.world.specs.World.{owned}
use Rattle.taking.specs.Taking.{fresh_entries, taking}
use Rattle.placing.specs.Placing.{after_giving, placing, decision, writing}
use Rattle.clearing.specs.Clearing.{treelings_cleared}
use Rattle.pages.specs.Answers.{answer_words, page_at}
use Rattle.domains.specs.Opening.{open_call}
use Rattle.domains.specs.Closing.{leaves_cleared, closing, close_call}
use Rattle.pages.specs.Mapping.{mapping, map_call}
use Rattle.pages.specs.Unmapping.{unmap_call}
use Rattle.domains.specs.Trimming.{trim_call}
use Rattle.releasing.specs.Releasing.{release_step, after_step, releasing}
use Rattle.returning.specs.Returning.{is_empty, number_returned}
use Rattle.domains.specs.Filling.{fill_of, fill_call}
use Rattle.calls.specs.Table.{calls, line_of}
use Rattle.questions.specs.Questions.{asking, refusal_of}
use Rattle.batch.specs.Batch.{served, serving, state_after}
use Rattle.histories.proofs.BatchSound.{after_sound}
use Rattle.worked.proofs.TenLines.{served_from, batch_served}
use Rattle.worked.proofs.WorkedPair.{own_requests, alone_answers}

abbrev pub lone_sizes : Sizes
lone_sizes = sizes_of 1 2 4

pub lone_allowed : Allowed lone_sizes
unfolding allowed
lone_allowed = allowed_facts lone_sizes refl

lone_sound : Sound lone_sizes (new_state lone_sizes [])
lone_sound = new_sound lone_sizes [] lone_allowed (none_allowed lone_sizes)

-- Domain 1 opens, maps frame 1 and closes.
abbrev pub leavers_requests : List ℕ
leavers_requests = 1 ∷ 1 ∷ 0 ∷ 0 ∷ 3 ∷ 1 ∷ 1 ∷ 0 ∷ 2 ∷ 1 ∷ 0 ∷ 0 ∷ []

-- It leaves a new state, but for the last owner of TreeLing 0.
abbrev pub left_state : List ℕ
left_state = put lone_sizes (new_state lone_sizes []) (former 0) 2

left_is : state_after lone_sizes (new_state lone_sizes []) leavers_requests 3 ≡ left_state
unfolding state_after new_state asking outside_all all refusal_of line_of calls open_call close_call closing treelings_cleared leaves_cleared zeros map_call mapping placing decision writing after_giving taking fresh_entries owned link_of of_rank count first_from leaf_at treeling_of
left_is = refl

left_sound : Sound lone_sizes left_state
left_sound = subst (Sound lone_sizes) left_is (after_sound lone_sizes (new_state lone_sizes []) leavers_requests lone_sound 3)

-- Its answers are domain 1's, and are not compared.
pub leavers_answers : List ℕ
leavers_answers = served_from lone_sizes leavers_requests 0 3 (new_state lone_sizes []) (replicate 24 0)

pub leavers_batch : serving (new_state lone_sizes []) leavers_requests (replicate 24 0) ≡ served 0 left_state leavers_answers
unfolding leavers_answers
leavers_batch =
    batch_served lone_sizes (new_state lone_sizes []) leavers_requests (replicate 24 0) lone_sound refl refl
    ∙ ap (λ (s : List ℕ). served 0 s leavers_answers) left_is

-- Domain 0's batch, whether the TreeLing was held before or not: the same answers.
own_served : (served_from lone_sizes own_requests 0 6 (new_state lone_sizes []) (replicate 48 0) ≡ alone_answers)
    × (served_from lone_sizes own_requests 0 6 left_state (replicate 48 0) ≡ alone_answers)
unfolding served_from new_state asking outside_all all refusal_of line_of calls open_call map_call unmap_call mapping page_at fill_call fill_of answer_words placing decision writing after_giving taking fresh_entries owned link_of of_rank count first_from path_node releasing release_step after_step trim_call number_returned is_empty leaf_at treeling_of slot_of node_of_leaf position_of_leaf
own_served = (refl, refl)

pub new_batch : serving (new_state lone_sizes []) own_requests (replicate 48 0) ≡ served 0 (state_after lone_sizes (new_state lone_sizes []) own_requests 6) alone_answers
new_batch =
    batch_served lone_sizes (new_state lone_sizes []) own_requests (replicate 48 0) lone_sound refl refl ∙ ap (served 0 _) own_served.0

pub left_batch : serving left_state own_requests (replicate 48 0) ≡ served 0 (state_after lone_sizes left_state own_requests 6) alone_answers
left_batch =
    batch_served lone_sizes left_state own_requests (replicate 48 0) left_sound refl refl ∙ ap (served 0 _) own_served.1
