-- A domain's own unmap on the words, seen through its view, is the unmap of the view.
-- Assumes nothing.
use Prim.Native.Nat.{ℕ, ◌+◌, ◌-◌, ◌*◌, ◌/◌, ◌%◌, ◌^◌, ◌<◌}
use mathlib.Core.Path.{◌≡◌, refl, sym, ap, ap₂, subst, ◌∙◌}
use mathlib.Core.List.{List, ◌++◌}
use mathlib.Core.Bool.{Bool, true, false, cond, not}
use native.Mathlib.Omega.{arith}
use borrow.Author.Tests.{ne_eqb, lt-ltb}
use lib.Dec.{eqb, ltb}
use lib.ListN.{get_or}
use Rattle.layout.specs.declared.Sizes.{Sizes}
use Rattle.leaf_map.specs.LeafIds.{node_of_leaf, position_of_leaf, slot_of}
use Rattle.leaf_map.proofs.LeafIdLaws.{names, node_treeling, position_below, slot_position}
use Rattle.geometry.specs.Entries.{entry_word, tag_of, availability_of}
use Rattle.layout.specs.Outcomes.{outcome}
use Rattle.layout.specs.Places.{get, put, treeling, leaf, rank, first}
use Rattle.geometry.proofs.GeometryLaws.{entry_tag, entry_availability}
use Rattle.layout.proofs.PlaceLaws.{get-put_same, get-put_other}
use Rattle.sound.specs.Sentences.{is_mapped_by}
use Rattle.sound.specs.Sound.{Sound, Ordinary}
use Rattle.layout.proofs.BoundedLaws.{count_cong}
use Rattle.world.specs.World.{FreeList, world, owned, entry_of, node_of}
use Rattle.gathering.specs.Regathering.{is_spent, gathered, gathered_word, entries_gathered, head_gathered, head_at, whole_with}
use Rattle.releasing.specs.Releasing.{release_step, unmapped, after_step, releasing}
use Rattle.world.proofs.WorldLaws.{entry_one}
use Rattle.world.proofs.FrameLaws.{either}
use Rattle.gathering.proofs.GatherListLaws.{select_cong}
use Rattle.releasing.proofs.FreeBitLaws.{power_below}
use Rattle.releasing.proofs.NeverStuck.{release_cases, head_fits, mapped_some}
use Rattle.releasing.proofs.RefillLaws.{entry_within, Rewritten, leaf_at_lem, pages_at, entry_left, tree_left, leaf_left, record_left, head_left}
use Rattle.releasing.proofs.MarkedSound.{one_rewritten}
use Rattle.gathering.proofs.GatherLaws.{own_chain}
use Rattle.gathering.proofs.SettleLaws.{head_below, order_below}
use Rattle.releasing.proofs.RegatheredSound.{gathered_rewritten, gathered-word}
use Rattle.pages.specs.Answers.{Finished, Outcome, refuse, answer_words}
use Rattle.pages.specs.Unmapping.{unmap_call}
use Rattle.histories.proofs.View.{View, Look, look, view_of, world_of, rank_node, with', seen, seen_number, unmapped_view, marked_view, gathered_view, order_seen, head_seen, released_view, unmap_view}
use Rattle.sound.proofs.MappedLaws.{MappedBy, mapped_by, mapped_ordinary, mapped_id}
use Rattle.histories.proofs.ViewLaws.{list_eq, view_eq, with_here, with_other, seen_refused, seen_finished, place_mapped, place_none, place-unmapped}
use Rattle.histories.proofs.StepLaws.{with_same, step_same, OwnNode, node_own, tag_own, leaf_own, rank_node_test, rank_node_of, view_alike, view_test}
use Rattle.histories.proofs.WholeLaws.{whole_byte, tagged_byte}
use Rattle.histories.proofs.KeptLaws.{below_cong, kept_owned, kept_free, kept_tag, kept_place}

-- A call on the words shows domain d this: the answer as it is seen, and the view left.
abbrev pub Shows : Sizes → ℕ → ℕ → Outcome → Look → Type 0
Shows z c d o v = (seen c (answer_words o.answer) ≡ v.sight) × (view_of z o.words d ≡ v.view)

-- The view's answer, by what stands at the place of the frame.
abbrev answer : View → ℕ → ℕ → Look
answer v f y =
    cond (eqb y 0) (look (seen_number 14) v) (released_view v f ((y - 1) / 8) ((y - 1) % 8) (release_step (world_of v) ((y - 1) / 8) ((y - 1) % 8)))

module _ (z : Sizes) (s : List ℕ) (h : Sound z s) (d : ℕ) (l : d < z.domains) (o : Ordinary z s d) (f : ℕ) (k : f < z.frames) (m : MappedBy z s d f) where
  -- The page's node and its position.
  abbrev n : ℕ
  n = node_of_leaf (get z s (leaf f))

  abbrev i : ℕ
  i = position_of_leaf (get z s (leaf f))

  abbrev total : ℕ
  total = 512 * owned z s d

  -- ---- The words left, where the domain's entries are those of words e and block q is its head
  module _ (e : List ℕ) (b : Rewritten z s d e) (q : ℕ) where
    abbrev r : List ℕ
    r = unmapped z s d f (head_at z s d q e)

    tree : (t j : ℕ) → t < z.treelings → j < 5 → get z r (treeling t j) ≡ get z s (treeling t j)
    tree = tree_left z s h d l f k e b q

    first_left : get z r (first d) ≡ get z s (first d)
    first_left = record_left z s h d l f k e b q 1 (omega arith)

    place_left : (g : ℕ) → (view_of z r d).place g ≡ with' (view_of z s d).place f 0 g
    place_left g =
        either g f
        (λ is.
        ap (λ (c : ℕ). (view_of z r d).place c) is
        ∙ place-unmapped z r d f (leaf_at_lem z s h d l f k e b q)
        ∙ sym (with_here (view_of z s d).place f 0 g is))
        (λ apart.
        kept_place z s r d h l first_left tree g (λ lg. leaf_left z s h d l f k e b q g lg apart)
        ∙ sym (with_other (view_of z s d).place f 0 g apart))

    -- The view left, from what its entries say.
    view_left : (list : FreeList) → q < 64 * owned z s d → q ≡ list.head
        → ((j : ℕ) → j < total → OwnNode z s d (tag_of (get z e (entry_of z s d j))))
        → ((j : ℕ) → cond (ltb j total) (rank_node z s (tag_of (get z e (entry_of z s d j)))) 0 ≡ list.tag j)
        → ((j : ℕ) → cond (ltb j total) (availability_of (get z e (entry_of z s d j))) 0 ≡ list.free j)
        → view_of z r d ≡ unmapped_view (view_of z s d) f list
    unfolding view_of
    view_left list below heads owns tags frees =
        view_eq (view_of z r d) (unmapped_view (view_of z s d) f list)
        (record_left z s h d l f k e b q 0 (omega arith))
        (kept_owned z s r d h l first_left tree)
        (list_eq (head_left z s h d l f k e b q below ∙ heads)
        (λ j.
        kept_tag z s r d h l first_left tree j (λ less. subst (λ (w : ℕ). tag_of w < 512 * z.treelings) (sym (word_left j less)) (owns j less).below)
        ∙ below_cong j total _ _ (λ less. ap (λ (w : ℕ). rank_node z s (tag_of w)) (word_left j less))
        ∙ tags j)
        (λ j.
        kept_free z s r d h l first_left tree j
        ∙ below_cong j total _ _ (λ less. ap availability_of (word_left j less))
        ∙ frees j))
        (pages_at z s h d l f k e b q)
        place_left
      where
        word_left : (j : ℕ) → j < total → get z r (entry_of z s d j) ≡ get z e (entry_of z s d j)
        word_left = entry_left z s h d l f k e b q

  -- ---- Entry j gets tag n and availability a
  module _ (j a : ℕ) (less : j < total) (byte : a < 256) where
    abbrev e : List ℕ
    e = put z s (entry_of z s d j) (entry_word n a)

    read_here : get z e (entry_of z s d j) ≡ entry_word n a
    read_here =
        get-put_same z s (entry_of z s d j) (entry_word n a) h.laid_out.laid (entry_within z s d h l j less)

    read_else : (c : ℕ) → c < total → (c ≡ j → ⊥) → get z e (entry_of z s d c) ≡ get z s (entry_of z s d c)
    read_else c lc apart =
        get-put_other z s (entry_of z s d j) (entry_word n a) (entry_of z s d c) (entry_within z s d h l j less) (entry_within z s d h l c lc) (λ same. apart (entry_one z s h d l c j lc less same))

    -- Its tag is the domain's,
    tag_marked : (c : ℕ) → c < total → OwnNode z s d (tag_of (get z e (entry_of z s d c)))
    tag_marked c lc =
        either c j
        (λ here. subst (OwnNode z s d) (sym (ap (λ (u : ℕ). tag_of (get z e (entry_of z s d u))) here ∙ ap tag_of read_here ∙ entry_tag n a byte)) (leaf_own z s h d l f k m))
        (λ apart. subst (λ (w : ℕ). OwnNode z s d (tag_of w)) (sym (read_else c lc apart)) (tag_own z s h d l o c lc))

    -- and what is read of an entry's word is another at j.
    word_marked : (p : ℕ → ℕ) (y : ℕ) → p (entry_word n a) ≡ y → (c : ℕ)
        → cond (ltb c total) (p (get z e (entry_of z s d c))) 0 ≡ with' (λ u. cond (ltb u total) (p (get z s (entry_of z s d u))) 0) j y c
    word_marked p y is c =
        let old : ℕ → ℕ = λ u. cond (ltb u total) (p (get z s (entry_of z s d u))) 0 in
        either c j
        (λ here.
        ap (λ (u : ℕ). cond (ltb u total) (p (get z e (entry_of z s d u))) 0) here
        ∙ ap (λ (t : Bool). cond t (p (get z e (entry_of z s d j))) 0) (lt-ltb j total less)
        ∙ ap p read_here
        ∙ is
        ∙ sym (with_here old j y c here))
        (λ apart.
        below_cong c total (p (get z e (entry_of z s d c))) (p (get z s (entry_of z s d c))) (λ lc. ap p (read_else c lc apart))
        ∙ sym (with_other old j y c apart))

    marked_view_lem : view_of z (unmapped z s d f (head_at z s d (j / 8) e)) d ≡ marked_view (view_of z s d) f (rank_node z s n) j a
    unfolding marked_view view_of
    marked_view_lem =
        view_left e (one_rewritten z s h d l j (entry_word n a) less) (j / 8) _ (omega arith) refl tag_marked
        (word_marked (λ w. rank_node z s (tag_of w)) (rank_node z s n) (ap (rank_node z s) (entry_tag n a byte)))
        (word_marked availability_of a (entry_availability n a byte))

  -- ---- The entries are regathered
  -- A leaf node's whole availability, in the words and in the view.
  abbrev whole : ℕ → ℕ
  whole = whole_with (world z s d) n i

  abbrev seen_whole : ℕ → ℕ
  seen_whole = whole_with (world_of (view_of z s d)) (rank_node z s n) i

  whole_seen : (p : ℕ) → p < total → seen_whole p ≡ whole (node_of z s d p)
  whole_seen p less =
      let g = node_of z s d p in
      let own = node_own z s h d l p less in
      ap (seen_whole) (sym (rank_node_of z s h d l p less))
      ∙ with_same (world z s d) (world_of (view_of z s d)) (view_alike z s h d l) n (rank_node z s n) i g (rank_node z s g)
      (view_test z s h d l o g own)
      (rank_node_test z s h d l g n own (leaf_own z s h d l f k m))

  -- So the same ones are spent, and the order is the same.
  spent_seen : (p : ℕ) → p < total → is_spent z s d (owned z s d) whole p ≡ eqb (seen_whole p) 0
  spent_seen p less = ap (λ (y : ℕ). eqb y 0) (sym (whole_seen p less))

  order_seen_lem : gathered z s d (owned z s d) whole ≡ order_seen (owned z s d) seen_whole
  unfolding gathered
  order_seen_lem =
      ap₂ ◌++◌
      (select_cong (is_spent z s d (owned z s d) whole) (λ p. eqb (seen_whole p) 0) total spent_seen)
      (select_cong (λ p. not (is_spent z s d (owned z s d) whole p)) (λ p. not (eqb (seen_whole p) 0)) total (λ p less. ap not (spent_seen p less)))

  head_seen_lem : head_gathered z s d (owned z s d) whole ≡ head_seen (owned z s d) seen_whole
  unfolding head_gathered
  head_seen_lem =
      ap (λ (c : ℕ). cond (ltb c total) (c / 8) (64 * owned z s d - 1)) (count_cong total (is_spent z s d (owned z s d) whole) (λ p. eqb (seen_whole p) 0) spent_seen)

  -- Each in the order is a leaf node of the domain.
  abbrev node_at : ℕ → ℕ
  node_at j = get_or (gathered z s d (owned z s d) whole) j 0

  node_below : (j : ℕ) → j < total → node_at j < total
  node_below = order_below z s d (owned z s d) (own_chain z s h d l) whole

  -- The word that entry j gets, and what is read of it.
  word-gathered : (j : ℕ) → j < total → get z (entries_gathered z s d (owned z s d) whole total) (entry_of z s d j) ≡ gathered_word z s d (owned z s d) whole j
  word-gathered = gathered-word z s h d l whole total (omega arith)

  byte_gathered : (j : ℕ) → j < total → whole (node_of z s d (node_at j)) < 256
  byte_gathered j less =
      whole_byte z s h d l o f k m (node_of z s d (node_at j)) (node_own z s h d l (node_at j) (node_below j less)).below

  tag_gathered : (j : ℕ) → j < total → tag_of (get z (entries_gathered z s d (owned z s d) whole total) (entry_of z s d j)) ≡ node_of z s d (node_at j)
  tag_gathered j less = ap tag_of (word-gathered j less) ∙ entry_tag _ _ (byte_gathered j less)

  free_gathered : (j : ℕ) → j < total → availability_of (get z (entries_gathered z s d (owned z s d) whole total) (entry_of z s d j)) ≡ whole (node_of z s d (node_at j))
  free_gathered j less = ap availability_of (word-gathered j less) ∙ entry_availability _ _ (byte_gathered j less)

  some_owned : 0 < owned z s d
  some_owned = mapped_some z s h d l f k m

  head_in : head_gathered z s d (owned z s d) whole < 64 * owned z s d
  head_in = head_below z s d (owned z s d) (own_chain z s h d l) whole some_owned

  gathered_view_lem : view_of z (unmapped z s d f (head_at z s d (head_gathered z s d (owned z s d) whole) (entries_gathered z s d (owned z s d) whole total))) d ≡ gathered_view (view_of z s d) f (rank_node z s n) i
  unfolding gathered_view view_of
  gathered_view_lem =
      view_left (entries_gathered z s d (owned z s d) whole total) (gathered_rewritten z s h d l whole total (omega arith)) (head_gathered z s d (owned z s d) whole) _ head_in head_seen_lem
      (λ j less. subst (OwnNode z s d) (sym (tag_gathered j less)) (node_own z s h d l (node_at j) (node_below j less)))
      (λ j. below_cong j total _ _ (λ less. ap (rank_node z s) (tag_gathered j less) ∙ rank_node_of z s h d l (node_at j) (node_below j less) ∙ ap (λ (o : List ℕ). get_or o j 0) order_seen_lem))
      (λ j. below_cong j total _ _ (λ less. free_gathered j less ∙ sym (whole_seen (node_at j) (node_below j less)) ∙ ap (λ (o : List ℕ). seen_whole (get_or o j 0)) order_seen_lem))

  -- ---- Both
  -- The view releases the same node and position, by the same step.
  unmap_step : answer (view_of z s d) f ((view_of z s d).place f) ≡ released_view (view_of z s d) f (rank_node z s n) i (release_step (world z s d) n i)
  unmap_step =
      let v = view_of z s d in
      let y = v.place f in
      let there : eqb y 0 ≡ false = ne_eqb y 0 (λ none. omega (arith, place_mapped z s d f k m)) in
      let id = mapped_id z s d f h k m o in
      let is = names (get z s (leaf f)) id in
      let within : slot_of (get z s (leaf f)) / 8 ≡ n % 512 = omega (arith, is.slot_is, is.node_is) in
      let node : (y - 1) / 8 ≡ rank_node z s n = omega (arith, place_mapped z s d f k m, within, ap (λ (t : ℕ). get z s (rank t)) (node_treeling (get z s (leaf f)) id)) in
      let position : (y - 1) % 8 ≡ i = omega (arith, place_mapped z s d f k m, slot_position (get z s (leaf f))) in
      ap (λ (c : Bool). cond c (look (seen_number 14) v) (released_view v f ((y - 1) / 8) ((y - 1) % 8) (release_step (world_of v) ((y - 1) / 8) ((y - 1) % 8)))) there
      ∙ ap₂ (λ (g c : ℕ). released_view v f g c (release_step (world_of v) g c)) node position
      ∙ ap (released_view v f (rank_node z s n) i)
      (step_same (world z s d) (world_of v) (view_alike z s h d l) n (rank_node z s n) i (view_test z s h d l o n (leaf_own z s h d l f k m)) (head_fits z s h d l o (mapped_some z s h d l f k m)).below)

  -- Each step shows the same.
  step_shows : Shows z 4 d (outcome (Finished 1) (releasing z s d f)) (released_view (view_of z s d) f (rank_node z s n) i (release_step (world z s d) n i))
  unfolding releasing after_step released_view
  step_shows =
      release_cases (world z s d) n i
      (λ o. Shows z 4 d (outcome (Finished 1) (unmapped z s d f (after_step z s d n i o))) (released_view (view_of z s d) f (rank_node z s n) i o))
      (λ q c fits less tag. (seen_finished 4 1 refl, marked_view_lem (8 * q + c) ((world z s d).nfl.free (8 * q + c) + 2 ^ i) (omega (arith, fits.below)) (tagged_byte z s h d l o f k m (8 * q + c) (omega (arith, fits.below)) tag)))
      (λ q c fits less none. (seen_finished 4 1 refl, marked_view_lem (8 * q + c) (2 ^ i) (omega (arith, fits.below)) (power_below i (position_below (get z s (leaf f))))))
      (seen_finished 4 1 refl, gathered_view_lem)
      (head_fits z s h d l o (mapped_some z s h d l f k m))

pub own_unmap : (z : Sizes) (s : List ℕ) (d f : ℕ) → Sound z s → d < z.domains → f < z.frames → Shows z 4 d (unmap_call z s d f) (unmap_view (view_of z s d) f)
unfolding unmap_call unmap_view
own_unmap z s d f h l k = by_test (is_mapped_by z s d f) refl
  where
    by_test : (b : Bool) → is_mapped_by z s d f ≡ b
        → Shows z 4 d (cond b (outcome (Finished 1) (releasing z s d f)) (refuse 14 s)) (answer (view_of z s d) f ((view_of z s d).place f))
    by_test true is =
        let m = mapped_by z s d f is in
        let o = mapped_ordinary z s d f h k m in
        subst (Shows z 4 d (outcome (Finished 1) (releasing z s d f))) (sym (unmap_step z s h d l o f k m)) (step_shows z s h d l o f k m)
    by_test false is =
        subst (Shows z 4 d (refuse 14 s)) (sym (ap (answer (view_of z s d) f) (place_none z s d f is))) (seen_refused 4 14 (λ no. omega arith), refl)
