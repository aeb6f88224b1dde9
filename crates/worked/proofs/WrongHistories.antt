-- Demand 3 shuts out wrong controllers: nine that serve as ours does and tell a domain something of the others. Each fails on a worked pair.
-- Assumes nothing.
use Prim.Native.Nat.{ℕ, zero, suc, ◌+◌, ◌-◌, ◌*◌, ◌/◌, ◌%◌, ◌^◌, ◌<◌}
use mathlib.Core.Path.{◌≡◌, refl, sym, ap, ◌∙◌}
use mathlib.Core.List.{List, [], ◌∷◌, ◌++◌}
use mathlib.Core.Bool.{Bool, true, cond, not, ◌&&◌, false≢true}
use native.Mathlib.Omega.{arith}
use borrow.Author.Tests.{eq-eqb, ltb-true, not-true}
use lib.Dec.{eqb, ltb, lit≤}
use lib.ListN.{length, get_or, set, replicate}
use lib.Seq.{sets}
use Rattle.layout.specs.declared.Sizes.{Sizes}
use Rattle.layout.specs.Places.{Allowed, get, hand, former, pages_mapped}
use Rattle.board.specs.NewState.{new_state}
use Rattle.layout.specs.Bounded.{count, sum}
use Rattle.layout.proofs.BoundedLaws.{and_both}
use Rattle.sound.specs.Contents.{sizes_in}
use Rattle.sound.specs.Sentences.{is_live}
use Rattle.pages.proofs.CaseLaws.{by_test}
use Rattle.batch.specs.Batch.{Served, served, serving}
use Rattle.sound.proofs.NewStateSound.{none_allowed}
use Rattle.histories.specs.Histories.{Asked, request, Heard, Controller, serves, heard_in, heard_of, heard_from, word, only, own_in, asks, call_compared, is_compared, number, names_node, node_level, Agree, AllAgree}
use Rattle.histories.specs.Demands.{Isolated}
use Rattle.worked.proofs.TenLines.{example_sizes, example_allowed}
use Rattle.histories.proofs.PremiseLaws.{each, is_fair, made, agreed}
use Rattle.worked.proofs.WorkedPair.{post, own_requests, others_requests, alone, heard_own, heard_both, alone_answers, others_state, others_answers, beside_answers, alone_batch, others_batch, beside_batch}
use Rattle.worked.proofs.WorkedFormer.{lone_sizes, lone_allowed, leavers_requests, left_state, leavers_answers, leavers_batch, new_batch, left_batch}

-- ---- The controllers
-- Ours, with each answer of a done batch told anew: by the state before the batch, and the request with its answer.
abbrev pub Telling : Type 0
Telling = List ℕ → Heard → List ℕ

unfoldable pub retelling : (Heard → List ℕ) → ℕ → List Heard → List ℕ → List ℕ
retelling tell k [] a = a
retelling tell k (h ∷ hs) a = retelling tell (suc k) hs (sets a (8 * k) (tell h))

abbrev pub retell : Telling → List ℕ → List ℕ → Served → Served
retell tell s q r = served r.number r.state (retelling (tell s) 0 (heard_of r q) r.answers)

abbrev pub retold : Telling → Controller
retold tell = serves (λ s q a. retell tell s q (serving s q a))

-- The words of a request.
abbrev words_of : Asked → List ℕ
words_of (request q) = q

-- One word of the answer to a done map or path told anew: word i becomes f of the state before the batch and the answer.
abbrev pub path_word : ℕ → (List ℕ → List ℕ → ℕ) → Telling
path_word i f s h = cond (names_node h 2) (set h.answer i (f s h.answer)) h.answer

-- The rank told is the TreeLing's number.
abbrev pub rank_by_number : Controller
rank_by_number = retold (path_word 1 (λ s a. get_or a 2 0))

-- The leaf node is moved on within its TreeLing by the TreeLing's number.
abbrev pub node_by_number : Controller
node_by_number = retold (path_word 5 (λ s a. 512 * get_or a 2 0 + (get_or a 5 0 + get_or a 2 0) % 512))

-- The position is moved on by the TreeLing's number.
abbrev pub position_by_number : Controller
position_by_number = retold (path_word 6 (λ s a. (get_or a 6 0 + get_or a 2 0) % 8))

-- The positions are told from the pool hand on.
abbrev pub order_by_hand : Controller
order_by_hand = retold (path_word 6 (λ s a. (get_or a 6 0 + get (sizes_in s) s hand) % 8))

-- Request M-104: the rank told is one that a TreeLing has kept, by its last owner,
abbrev pub rank_by_former : Controller
rank_by_former = retold (path_word 1 (λ s a. get_or a 1 0 + get (sizes_in s) s (former (get_or a 2 0))))

-- and the positions of a TreeLing that was held before are not fresh: they are told from its last owner on.
abbrev pub position_by_former : Controller
position_by_former = retold (path_word 6 (λ s a. (get_or a 6 0 + get (sizes_in s) s (former (get_or a 2 0))) % 8))

-- A domain other than d was live.
abbrev pub another_live : List ℕ → ℕ → Bool
another_live s d =
    let z = sizes_in s in
    ltb 0 (count z.domains (λ e. is_live z s e && not (eqb e d)))

-- A frame that is not the domain's own is refused by 12 and not by 14 where another domain was live.
abbrev pub refusal_by_others : Controller
refusal_by_others =
    retold (λ s h. cond (eqb (number h) 14 && another_live s (word (words_of h.asked) 1)) (set h.answer 0 12) h.answer)

-- Request M-107: the pages that every domain had are counted in a fill.
abbrev pub fill_by_others : Controller
fill_by_others =
    retold λ s h.
    let z = sizes_in s in
    let pages = sum z.domains (λ e. get z s (pages_mapped e)) in
    cond (eqb (word (words_of h.asked) 0) 11) (set h.answer 2 (get_or h.answer 2 0 + 1000 * pages)) h.answer

-- Request M-100: a trim counts one TreeLing more where another domain was live.
abbrev pub trim_by_others : Controller
trim_by_others =
    retold (λ s h. cond (eqb (word (words_of h.asked) 0) 8 && another_live s (word (words_of h.asked) 1)) (set h.answer 7 (get_or h.answer 7 0 + 1)) h.answer)

-- ---- Answers that do not agree
-- What stands past the end of a list.
abbrev nobody : Heard
nobody = record { asked = request []; answer = [] }

-- Word i of two answers, compared as demand 3 does.
abbrev same_word : Heard → Heard → ℕ → Bool
same_word g h i =
    let a = word g.answer i in
    let b = word h.answer i in
    cond (names_node g i) (eqb (a % 8 ^ (node_level g.asked g.answer i - 1)) (b % 8 ^ (node_level h.asked h.answer i - 1))) (eqb a b)

agree_same : (g h : Heard) → Agree g h → (i : ℕ) → i < 8 → same_word g h i ≡ true
agree_same g h w i l =
    by_test (λ b. b ≡ true) (names_node g i) _ _ (λ e. eq-eqb _ _ (w.within i l e)) (λ e. eq-eqb _ _ (w.equal i l e))

-- Word i of the k-th answers of two lists differs.
abbrev differ : List Heard → List Heard → ℕ → ℕ → Bool
differ gs hs k i =
    ltb k (length gs) && is_compared (get_or gs k nobody).asked && ltb i 8 && not (same_word (get_or gs k nobody) (get_or hs k nobody) i)

-- The k-th answers of two lists that agree.
agree_at : (gs hs : List Heard) (k : ℕ) → k < length gs → AllAgree gs hs → is_compared (get_or gs k nobody).asked ≡ true → Agree (get_or gs k nobody) (get_or hs k nobody)
agree_at [] hs k l w = absurd (omega arith)
agree_at (g ∷ gs) [] k l w = absurd w
agree_at (g ∷ gs) (h ∷ hs) zero l w = w.0
agree_at (g ∷ gs) (h ∷ hs) (suc k) l w = agree_at gs hs k (omega arith) w.1

not_agreed : (gs hs : List Heard) (k i : ℕ) → differ gs hs k i ≡ true → AllAgree gs hs → ⊥
not_agreed gs hs k i t w =
    let g = get_or gs k nobody in
    let h = get_or hs k nobody in
    let u = and_both (ltb k (length gs) && is_compared g.asked && ltb i 8) (not (same_word g h i)) t in
    let v = and_both (ltb k (length gs) && is_compared g.asked) (ltb i 8) u.0 in
    let x = and_both (ltb k (length gs)) (is_compared g.asked) v.0 in
    false≢true
    (sym (not-true (same_word g h i) u.1) ∙ agree_same g h (agree_at gs hs k (ltb-true k (length gs) x.0) w x.1) i (ltb-true i 8 v.1))

-- ---- A worked pair, told anew
-- Domain 0 by itself, and after requests q of others, who leave words s and are answered a.
record Worked (z : Sizes) (q s a one two : List ℕ) : Type 0 where
  allow : Allowed z
  below : 0 < z.domains
  alone_is : (left : List ℕ) × (serving (new_state z []) own_requests (replicate 48 0) ≡ served 0 left one)
  others_is : serving (new_state z []) q (replicate (2 * length q) 0) ≡ served 0 s a
  beside_is : (left : List ℕ) × (serving s own_requests (replicate 48 0) ≡ served 0 left two)

module _ (tell : Telling) {z : Sizes} {q s a one two : List ℕ} (w : Worked z q s a one two) where
  abbrev alone_told : List Heard
  alone_told = heard_in own_requests (retelling (tell (new_state z [])) 0 (heard_in own_requests one 6) one) 6 ++ []

  abbrev beside_told : List Heard
  beside_told =
      heard_in q (retelling (tell (new_state z [])) 0 (heard_in q a (length q / 4)) a) (length q / 4)
      ++ (heard_in own_requests (retelling (tell s) 0 (heard_in own_requests two 6) two) 6 ++ [])

  -- The pair meets all that demand 3 asks, and word i of domain 0's k-th answer differs.
  fails : (k i : ℕ) → asks 0 alone_told ≡ asks 0 beside_told → (is_fair 0 alone_told && is_fair 0 beside_told) ≡ true → differ (own_in 0 alone_told) (own_in 0 beside_told) k i ≡ true → Isolated (retold tell) → ⊥
  fails k i same t differs isolated =
      let is_alone : heard_from (retold tell) (made z []) alone ≡ alone_told =
      heard_own (retold tell) (made z []) (ap (retell tell (new_state z []) own_requests) w.alone_is.1) in
      let is_beside : heard_from (retold tell) (made z []) (post q ∷ alone) ≡ beside_told =
      heard_both (retold tell) (made z []) q (ap (retell tell (new_state z []) q) w.others_is) (ap (retell tell s own_requests) w.beside_is.1) in
      not_agreed (own_in 0 alone_told) (own_in 0 beside_told) k i differs
      (rw (is_alone, is_beside) at (agreed (retold tell) isolated z w.allow [] (none_allowed z) 0 w.below alone (post q ∷ alone) alone_told beside_told is_alone is_beside same t))

-- Of two TreeLings, the other domain has one.
two_treelings : Worked example_sizes others_requests others_state others_answers alone_answers beside_answers
two_treelings =
    record { allow = example_allowed; below = lit≤ tt; alone_is = (_, alone_batch); others_is = others_batch; beside_is = (_, beside_batch) }

-- The only TreeLing was the other domain's.
one_treeling : Worked lone_sizes leavers_requests left_state leavers_answers alone_answers alone_answers
one_treeling =
    record { allow = lone_allowed; below = lit≤ tt; alone_is = (_, new_batch); others_is = leavers_batch; beside_is = (_, left_batch) }

-- ---- Each fails at one of domain 0's answers, 1 to the refused unmap, 2 to the map, 3 to the fill and 5 to the trim, in one word
pub rank_by_number_fails : Isolated rank_by_number → ⊥
unfolding only heard_in each retelling call_compared
rank_by_number_fails = fails (path_word 1 (λ s a. get_or a 2 0)) two_treelings 2 1 refl refl refl

pub node_by_number_fails : Isolated node_by_number → ⊥
unfolding only heard_in each retelling call_compared
node_by_number_fails = fails (path_word 5 (λ s a. 512 * get_or a 2 0 + (get_or a 5 0 + get_or a 2 0) % 512)) two_treelings 2 5 refl refl refl

pub position_by_number_fails : Isolated position_by_number → ⊥
unfolding only heard_in each retelling call_compared
position_by_number_fails = fails (path_word 6 (λ s a. (get_or a 6 0 + get_or a 2 0) % 8)) two_treelings 2 6 refl refl refl

pub order_by_hand_fails : Isolated order_by_hand → ⊥
unfolding only heard_in each retelling call_compared new_state
order_by_hand_fails = fails (path_word 6 (λ s a. (get_or a 6 0 + get (sizes_in s) s hand) % 8)) two_treelings 2 6 refl refl refl

pub rank_by_former_fails : Isolated rank_by_former → ⊥
unfolding only heard_in each retelling call_compared new_state
rank_by_former_fails = fails (path_word 1 (λ s a. get_or a 1 0 + get (sizes_in s) s (former (get_or a 2 0)))) one_treeling 2 1 refl refl refl

pub position_by_former_fails : Isolated position_by_former → ⊥
unfolding only heard_in each retelling call_compared new_state
position_by_former_fails = fails (path_word 6 (λ s a. (get_or a 6 0 + get (sizes_in s) s (former (get_or a 2 0))) % 8)) one_treeling 2 6 refl refl refl

pub refusal_by_others_fails : Isolated refusal_by_others → ⊥
unfolding only heard_in each retelling call_compared new_state count
refusal_by_others_fails = fails (λ s h. cond (eqb (number h) 14 && another_live s (word (words_of h.asked) 1)) (set h.answer 0 12) h.answer) two_treelings 1 0 refl refl refl

pub fill_by_others_fails : Isolated fill_by_others → ⊥
unfolding only heard_in each retelling call_compared new_state sum
fill_by_others_fails = fails (λ s h. cond (eqb (word (words_of h.asked) 0) 11) (set h.answer 2 (get_or h.answer 2 0 + 1000 * sum (sizes_in s).domains (λ e. get (sizes_in s) s (pages_mapped e)))) h.answer) two_treelings 3 2 refl refl refl

pub trim_by_others_fails : Isolated trim_by_others → ⊥
unfolding only heard_in each retelling call_compared new_state count
trim_by_others_fails = fails (λ s h. cond (eqb (word (words_of h.asked) 0) 8 && another_live s (word (words_of h.asked) 1)) (set h.answer 7 (get_or h.answer 7 0 + 1)) h.answer) two_treelings 5 7 refl refl refl
