-- Document 01, "Examples": T = 2, D = 2, P = 16, one batch of ten requests, from the definitions.
-- Assumes nothing.
use Prim.Native.Nat.{ℕ, zero, suc, ◌+◌, ◌*◌, ◌/◌}
use mathlib.Core.Path.{◌≡◌, refl, sym, ap, ◌∙◌}
use mathlib.Core.List.{List, [], ◌∷◌, ◌++◌}
use mathlib.Core.Bool.{true}
use native.Mathlib.Nat.{add-zero, add-suc, suc-add, zero-add}
use lib.Seq.{sets}
use lib.Dec.{lit≤}
use lib.ListN.{length, replicate}
use Rattle.layout.specs.declared.Sizes.{Sizes}
use Rattle.geometry.specs.Geometry.{path_node}
use Rattle.leaf_map.specs.LeafIds.{leaf_at, treeling_of, slot_of, node_of_leaf, position_of_leaf}
use Rattle.geometry.specs.Tables.{first_from}
use Rattle.layout.specs.Places.{Allowed, sizes_of}
use Rattle.board.specs.NewState.{new_state}
use Rattle.layout.specs.Bounded.{all, count}
use Rattle.board.specs.Holes.{outside_all}
use Rattle.sound.specs.Sound.{Sound}
use Rattle.sound.proofs.SoundLaws.{sound_number, sound_sizes}
use Rattle.sound.proofs.NewStateSound.{none_allowed, new_sound}
use Rattle.sound.specs.Sentences.{of_rank, link_of}
use Rattle.world.specs.World.{owned}
use Rattle.taking.specs.Taking.{fresh_entries, taking}
use Rattle.placing.specs.Placing.{after_giving, placing, decision, writing}
use Rattle.releasing.specs.Releasing.{release_step, after_step, releasing}
use Rattle.pages.specs.Answers.{answer_words, page_at}
use Rattle.domains.specs.Opening.{open_call}
use Rattle.pages.specs.Mapping.{mapping, map_call}
use Rattle.pages.specs.Unmapping.{unmap_call}
use Rattle.questions.specs.Questions.{asking, refusal_of}
use Rattle.calls.specs.Table.{calls, line_of}
use Rattle.batch.specs.Batch.{Served, served, serving, state_after, answers_after, answered, requests_fit, answers_fit}
use Rattle.histories.proofs.BatchSound.{fits_served}

abbrev pub example_sizes : Sizes
example_sizes = sizes_of 2 2 16

unfoldable pub example_requests : List ℕ
example_requests =
    (1 ∷ 0 ∷ 0 ∷ 0 ∷ [])
    ++ (1 ∷ 0 ∷ 0 ∷ 0 ∷ [])
    ++ (3 ∷ 0 ∷ 5 ∷ 0 ∷ [])
    ++ (1 ∷ 1 ∷ 0 ∷ 0 ∷ [])
    ++ (3 ∷ 1 ∷ 6 ∷ 0 ∷ [])
    ++ (3 ∷ 1 ∷ 5 ∷ 0 ∷ [])
    ++ (4 ∷ 1 ∷ 5 ∷ 0 ∷ [])
    ++ (3 ∷ 0 ∷ 7 ∷ 0 ∷ [])
    ++ (4 ∷ 0 ∷ 5 ∷ 0 ∷ [])
    ++ (3 ∷ 0 ∷ 8 ∷ 0 ∷ [])

unfoldable pub example_answers : List ℕ
example_answers =
    (0 ∷ 0 ∷ 0 ∷ 0 ∷ 0 ∷ 0 ∷ 0 ∷ 0 ∷ [])
    ++ (10 ∷ 0 ∷ 0 ∷ 0 ∷ 0 ∷ 0 ∷ 0 ∷ 0 ∷ [])
    ++ (0 ∷ 0 ∷ 0 ∷ 0 ∷ 0 ∷ 0 ∷ 0 ∷ 1 ∷ [])
    ++ (0 ∷ 0 ∷ 0 ∷ 0 ∷ 0 ∷ 0 ∷ 0 ∷ 0 ∷ [])
    ++ (0 ∷ 0 ∷ 1 ∷ 8 ∷ 64 ∷ 512 ∷ 0 ∷ 1 ∷ [])
    ++ (12 ∷ 0 ∷ 0 ∷ 0 ∷ 0 ∷ 0 ∷ 0 ∷ 0 ∷ [])
    ++ (14 ∷ 0 ∷ 0 ∷ 0 ∷ 0 ∷ 0 ∷ 0 ∷ 0 ∷ [])
    ++ (0 ∷ 0 ∷ 0 ∷ 0 ∷ 0 ∷ 0 ∷ 1 ∷ 1 ∷ [])
    ++ (0 ∷ 0 ∷ 0 ∷ 0 ∷ 0 ∷ 0 ∷ 0 ∷ 1 ∷ [])
    ++ (0 ∷ 0 ∷ 0 ∷ 0 ∷ 0 ∷ 0 ∷ 0 ∷ 1 ∷ [])

pub example_allowed : Allowed example_sizes
example_allowed =
    record {
      some_treelings = lit≤ tt;
      max_treelings = lit≤ tt;
      some_domains = lit≤ tt;
      max_domains = lit≤ tt;
      some_frames = lit≤ tt;
      max_frames = lit≤ tt;
    }

-- The answers of the n requests from k on, from words s: each state is computed once.
unfoldable pub served_from : Sizes → List ℕ → ℕ → ℕ → List ℕ → List ℕ → List ℕ
served_from z q k zero s a = a
served_from z q k (suc n) s a =
    let o = answered z s q k in
    served_from z q (suc k) n o.words (sets a (8 * k) (answer_words o.answer))

pub served_from_lem : (z : Sizes) (s q a : List ℕ) (k n : ℕ) → served_from z q k n (state_after z s q k) (answers_after z s q a k) ≡ answers_after z s q a (k + n)
unfolding served_from state_after answers_after
served_from_lem z s q a k zero = ap (answers_after z s q a) (sym (add-zero k))
served_from_lem z s q a k (suc n) = served_from_lem z s q a (suc k) n ∙ ap (answers_after z s q a) (suc-add k n ∙ sym (add-suc k n))

-- A batch that fits, from a sound state, with its answers computed so.
pub batch_served : (z : Sizes) (s q a : List ℕ) → Sound z s → requests_fit q ≡ true → answers_fit q a ≡ true
    → serving s q a ≡ served 0 (state_after z s q (length q / 4)) (served_from z q 0 (length q / 4) s a)
unfolding state_after answers_after
batch_served z s q a h f g =
    let n : ℕ = length q / 4 in
    fits_served s q a (sound_number z s h) f g
    ∙ ap (λ (y : Sizes). served 0 (state_after y s q n) (answers_after y s q a n)) (sound_sizes z s h)
    ∙ ap (served 0 (state_after z s q n)) (ap (answers_after z s q a) (sym (zero-add n)) ∙ sym (served_from_lem z s q a 0 n))

example_served : served_from example_sizes example_requests 0 10 (new_state example_sizes []) (replicate 80 0) ≡ example_answers
unfolding served_from new_state example_requests example_answers asking outside_all all refusal_of line_of calls open_call map_call unmap_call mapping page_at answer_words placing decision writing after_giving taking fresh_entries owned link_of of_rank count first_from releasing release_step after_step path_node leaf_at treeling_of slot_of node_of_leaf position_of_leaf
example_served = refl

-- The ten lines.
pub ten_lines : (serving (new_state example_sizes []) example_requests (replicate 80 0)).answers ≡ example_answers
unfolding example_requests
ten_lines =
    ap (λ (r : Served). r.answers) (batch_served example_sizes (new_state example_sizes []) example_requests (replicate 80 0) (new_sound example_sizes [] example_allowed (none_allowed example_sizes)) refl refl)
    ∙ example_served
