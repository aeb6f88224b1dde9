-- Releasing, step 3, worked with T = D = 1 and P = 65: 64 pages fill block 0, and the next one moves the head on to block 1.
-- Assumes nothing.
use Prim.Native.Nat.{ℕ}
use mathlib.Core.Path.{◌≡◌, refl, sym, ap, subst}
use mathlib.Core.List.{List, [], ◌∷◌}
use lib.ListN.{replicate}
use Rattle.layout.specs.declared.Sizes.{Sizes}
use Rattle.leaf_map.specs.LeafIds.{leaf_at, treeling_of, node_of_leaf, position_of_leaf}
use Rattle.geometry.specs.Entries.{entry_word}
use Rattle.geometry.specs.Tables.{first_from}
use Rattle.layout.specs.Places.{allowed, sizes_of, get, entry, head_treeling, head_block}
use Rattle.board.specs.NewState.{new_state}
use Rattle.layout.specs.Bounded.{all, count}
use Rattle.board.specs.Holes.{outside_all}
use Rattle.layout.proofs.PlaceLaws.{allowed_facts}
use Rattle.sound.proofs.NewStateSound.{none_allowed, new_sound}
use Rattle.sound.specs.Sentences.{of_rank, link_of}
use Rattle.world.specs.World.{owned}
use Rattle.taking.specs.Taking.{fresh_entries, taking}
use Rattle.placing.specs.Placing.{after_giving, placing, decision, writing}
use Rattle.releasing.specs.Releasing.{back_from, release_step, after_step, releasing}
use Rattle.releasing.specs.MovingBack.{MovesBack, one_block}
use Rattle.pages.specs.Answers.{Finished, page_at}
use Rattle.domains.specs.Opening.{open_call}
use Rattle.pages.specs.Mapping.{mapping, map_call}
use Rattle.pages.specs.Unmapping.{unmap_call}
use Rattle.runs.specs.Runs.{go_on, run_step, run_of, whole_run, map_run_call}
use Rattle.calls.specs.Table.{calls, line_of}
use Rattle.batch.specs.Batch.{Served, state_after}
use Rattle.histories.specs.Histories.{Carried, Entry, batch, ours, effect_of, state_from}
use Rattle.questions.specs.Questions.{answering, asking, refusal_of}
use Rattle.worked.proofs.TenLines.{batch_served}

abbrev z : Sizes
z = sizes_of 1 1 65

-- Domain 0 opens and maps frames 0 to 64.
abbrev requests : List ℕ
requests = 1 ∷ 0 ∷ 0 ∷ 0 ∷ 6 ∷ 0 ∷ 0 ∷ 65 ∷ []

abbrev pub batches : List Entry
batches = batch requests 16 ∷ []

abbrev pub made : Carried
made = record { state = new_state z [] }

filled : List ℕ
filled = state_after z (new_state z []) requests 2

-- Block 1 is the head and entry 0 has no free position. Unmapping frame 0 moves the head back to block 0, where entry 0, with its tag, gets position 0.
record Computed : Type 0 where
  head_treeling_lem : get z filled (head_treeling 0) ≡ 1
  head_block_lem : get z filled (head_block 0) ≡ 1
  spent_entry : get z filled (entry 0 0) ≡ entry_word 0 0
  unmapped : (answering z filled 4 0 0 0).answer ≡ Finished 1
  back_block : get z (answering z filled 4 0 0 0).words (head_block 0) ≡ 0
  marked_entry : get z (answering z filled 4 0 0 0).words (entry 0 0) ≡ entry_word 0 1

computed : Computed
unfolding filled state_after new_state asking outside_all all refusal_of line_of calls open_call map_call mapping page_at placing decision writing after_giving taking fresh_entries owned link_of of_rank count first_from go_on run_step run_of whole_run map_run_call unmap_call releasing release_step back_from after_step leaf_at treeling_of node_of_leaf position_of_leaf
computed =
    record {
      head_treeling_lem = refl;
      head_block_lem = refl;
      spent_entry = refl;
      unmapped = refl;
      back_block = refl;
      marked_entry = refl;
    }

left : state_from ours made batches ≡ filled
unfolding filled state_from effect_of allowed
left =
    ap (λ (r : Served). r.state) (batch_served z (new_state z []) requests (replicate 16 0) (new_sound z [] (allowed_facts z refl) (none_allowed z)) refl refl)

-- After this batch the head of domain 0 may move back into block 0 of TreeLing 0.
pub moves_back : MovesBack z (state_from ours made batches) 0 0 0
moves_back =
    subst (λ (s : List ℕ). MovesBack z s 0 0 0) (sym left) (one_block 0 0 computed.head_treeling_lem computed.head_block_lem)
