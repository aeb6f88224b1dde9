-- A domain's own trim on the words, seen through its view, is the trim of the view.
-- Assumes nothing.
use Prim.Native.Nat.{ℕ, zero, suc, ◌+◌, ◌-◌, ◌*◌, ◌/◌, ◌%◌, ◌<◌}
use mathlib.Core.Path.{◌≡◌, refl, sym, ap, ap₂, subst, ◌∙◌}
use mathlib.Core.List.{List, ◌++◌}
use mathlib.Core.Bool.{Bool, true, false, cond, not, false≢true}
use native.Mathlib.Nat.{lt_of_not-le}
use native.Mathlib.Omega.{arith}
use borrow.Author.Tests.{eqb-true, eqb-false, eq-eqb, ne_eqb, lt-ltb, le-ltb}
use lib.Dec.{eqb, ltb}
use lib.ListN.{get_or}
use Rattle.layout.specs.declared.Sizes.{Sizes}
use Rattle.leaf_map.specs.LeafIds.{treeling_of}
use Rattle.leaf_map.proofs.LeafIdLaws.{slot_below}
use Rattle.geometry.specs.Entries.{entry_word, tag_of, availability_of}
use Rattle.layout.specs.Outcomes.{outcome}
use Rattle.layout.specs.Places.{get, entry, leaf, head_treeling, owner, next, rank}
use Rattle.layout.specs.Bounded.{sum}
use Rattle.layout.proofs.BoundedLaws.{is_false, sum_cong, count_cong}
use Rattle.geometry.proofs.GeometryLaws.{entry_tag, entry_availability}
use Rattle.sound.specs.Sentences.{is_mapped_by, head_in_order, of_rank, link_of}
use Rattle.sound.specs.Sound.{Sound, Ordinary}
use Rattle.sound.proofs.MappedLaws.{MappedBy, mapped_by, by_mapped, page_below}
use Rattle.world.specs.World.{world, owned, entry_of, node_of}
use Rattle.world.proofs.FrameLaws.{either}
use Rattle.world.proofs.MatchingLaws.{count_matched}
use Rattle.world.proofs.WorldLaws.{of_rank_back, rank_below_owned}
use Rattle.gathering.specs.Regathering.{whole_of, select}
use Rattle.gathering.proofs.GatherListLaws.{select_cong, select_below}
use Rattle.gathering.proofs.SelectLaws.{parted_first, parted_rest}
use Rattle.returning.specs.Returning.{is_empty, goes, stays, number_returned, number_kept, kept_of, kept_link, trimmed, trimming}
use Rattle.clearing.specs.CodeKept.{all_free}
use Rattle.returning.proofs.KeptLaws.{kept_at}
use Rattle.returning.proofs.TrimmedChain.{page_lies}
use Rattle.returning.proofs.TrimFacts.{Kept, Trimmed, kept_node, kept_whole, kept_spent, kept_order, spent_number, kept_head}
use Rattle.pages.specs.Answers.{Finished}
use Rattle.histories.proofs.View.{View, look, view_of, world_of, rank_node, rank_slot, order_seen, head_seen, seen_done}
use Rattle.histories.proofs.ViewLaws.{list_eq, view_eq, seen_finished, by_end, tag_at, free_at_lem, place_mapped, place_none, place_past}
use Rattle.histories.proofs.StepLaws.{whole_same, node_own, rank_node_of, view_alike, view_test}
use Rattle.histories.proofs.KeptLaws.{below_cong}
use Rattle.histories.proofs.OwnUnmap.{Shows}
use Rattle.histories.proofs.OthersTrim.{own_back, page_stays, page_back}
use Rattle.histories.proofs.TrimView.{goes_view, stays_view, returned_view, kept_view, old_rank, new_rank, whole_kept, order_kept, head_kept, place_kept, trimmed_view, trim_view}

-- A place under the new rank.
place_some : (v : View) (y : ℕ) → place_kept v (suc y) ≡ suc (4096 * new_rank v (y / 4096) + y % 4096)
unfolding place_kept
place_some v y =
    let new : ℕ → ℕ = λ i. suc (4096 * new_rank v (i / 4096) + i % 4096) in
    let less : suc y - 1 ≡ y = omega arith in
    ap (λ (b : Bool). cond b 0 (new (suc y - 1))) (ne_eqb (suc y) 0 (λ none. omega arith)) ∙ ap new less

-- Each leaf node's whole availability is a byte.
abbrev pub Bytes : Sizes → List ℕ → ℕ → Type 0
Bytes z s d = (g : ℕ) → g < 512 * z.treelings → whole_of (world z s d) g < 256

-- A TreeLing is empty where the availabilities of its leaf nodes, found by rank, make 512 times 255.
abbrev pub Empties : Sizes → List ℕ → ℕ → Type 0
Empties z s d =
    (r : ℕ) → r < owned z s d
    → eqb (sum (512 * owned z s d) (λ j. cond (eqb (get z s (rank ((world z s d).nfl.tag j / 512))) r) ((world z s d).nfl.free j) 0)) all_free
    ≡ is_empty z s (of_rank z s d r)

module _ (z : Sizes) (s : List ℕ) (h : Sound z s) (d : ℕ) (l : d < z.domains) (o : Ordinary z s d) (empties : Empties z s d) where
  -- ---- What goes and what stays
  -- The rank of an entry's TreeLing, in the view and in the words.
  rank_seen : (j : ℕ) → j < 512 * owned z s d → get z s (rank ((world z s d).nfl.tag j / 512)) ≡ (view_of z s d).nfl.tag j / 512
  rank_seen j less = omega (arith, tag_at z s d j less)

  -- The same TreeLings go,
  goes_seen : (r : ℕ) → r < owned z s d → goes z s d r ≡ goes_view (view_of z s d) r
  unfolding goes_view view_of
  goes_seen r below =
      sym (empties r below)
      ∙ ap (λ (x : ℕ). eqb x all_free)
      (sum_cong (512 * owned z s d)
      (λ j. cond (eqb (get z s (rank ((world z s d).nfl.tag j / 512))) r) ((world z s d).nfl.free j) 0)
      (λ j. cond (eqb ((view_of z s d).nfl.tag j / 512) r) ((view_of z s d).nfl.free j) 0)
      (λ j less. ap₂ (λ (t a : ℕ). cond (eqb t r) a 0) (rank_seen j less) (sym (free_at_lem z s d j less))))

  stays_seen : (r : ℕ) → r < owned z s d → stays z s d r ≡ stays_view (view_of z s d) r
  stays_seen r below = ap not (goes_seen r below)

  -- so as many go and stay,
  pub returned_seen : number_returned z s d ≡ returned_view (view_of z s d)
  unfolding number_returned returned_view view_of
  returned_seen = count_cong (owned z s d) (goes z s d) (goes_view (view_of z s d)) goes_seen

  kept_seen : number_kept z s d ≡ kept_view (view_of z s d)
  unfolding number_kept kept_view view_of
  kept_seen = count_cong (owned z s d) (stays z s d) (stays_view (view_of z s d)) stays_seen

  -- and in the same order.
  old_seen : (q : ℕ) → get_or (select (stays z s d) (owned z s d)) q 0 ≡ old_rank (view_of z s d) q
  unfolding old_rank view_of
  old_seen q =
      ap (λ (o : List ℕ). get_or o q 0) (select_cong (stays z s d) (stays_view (view_of z s d)) (owned z s d) stays_seen)

  kept_of_lem : (q : ℕ) → kept_of z s d q ≡ of_rank z s d (old_rank (view_of z s d) q)
  unfolding kept_of
  kept_of_lem q = ap (of_rank z s d) (old_seen q)

  old_below : (q : ℕ) → q < number_kept z s d → old_rank (view_of z s d) q < owned z s d
  unfolding number_kept
  old_below q less = rw old_seen at (select_below (stays z s d) (owned z s d) q less)

  -- A TreeLing of rank r that stays has as its new rank the number of those before it that stay.
  new_rank_lem : (r : ℕ) → r < owned z s d → is_empty z s (of_rank z s d r) ≡ false
      → (new_rank (view_of z s d) r < number_kept z s d) × (kept_of z s d (new_rank (view_of z s d) r) ≡ of_rank z s d r)
  unfolding new_rank
  new_rank_lem r below used =
      subst (λ (q : ℕ). (q < number_kept z s d) × (kept_of z s d q ≡ of_rank z s d r))
      (count_cong r (stays z s d) (stays_view (view_of z s d)) (λ i less. stays_seen i (omega arith)))
      (kept_at z s h d l r below used)

  -- ---- The leaf nodes that stay
  abbrev total : ℕ
  total = 512 * number_kept z s d

  -- A leaf node's whole availability, in the view and in the words,
  whole_at : (g : ℕ) → g < 512 * owned z s d → whole_of (world_of (view_of z s d)) g ≡ whole_of (world z s d) (node_of z s d g)
  whole_at g less =
      let v = world_of (view_of z s d) in
      let n = node_of z s d g in
      ap (whole_of v) (sym (rank_node_of z s h d l g less))
      ∙ whole_same (world z s d) v (view_alike z s h d l) n (rank_node z s n) (view_test z s h d l o n (node_own z s h d l g less))

  whole_seen : (p : ℕ) → p < total → kept_whole z s d p ≡ whole_kept (view_of z s d) p
  unfolding whole_kept
  whole_seen p less =
      let q = old_rank (view_of z s d) (p / 512) in
      let g = 512 * q + p % 512 in
      let below : g < 512 * owned z s d = omega (arith, old_below (p / 512) (omega arith)) in
      let row : g / 512 ≡ q = omega arith in
      let node : kept_node z s d p ≡ node_of z s d g = omega (arith, kept_of_lem (p / 512), ap (of_rank z s d) row) in
      ap (whole_of (world z s d)) node ∙ sym (whole_at g below)

  -- the spent ones, the order and the head.
  spent_seen : (p : ℕ) → p < total → kept_spent z s d p ≡ eqb (whole_kept (view_of z s d) p) 0
  spent_seen p less = ap (λ (y : ℕ). eqb y 0) (whole_seen p less)

  order_seen_lem : (j : ℕ) → kept_order z s d j ≡ order_kept (view_of z s d) j
  unfolding order_kept
  order_seen_lem j =
      let whole = whole_kept (view_of z s d) in
      ap₂ (λ (a b : List ℕ). get_or (a ++ b) j 0)
      (select_cong (kept_spent z s d) (λ p. eqb (whole p) 0) total spent_seen)
      (select_cong (λ p. not (kept_spent z s d p)) (λ p. not (eqb (whole p) 0)) total (λ p less. ap not (spent_seen p less)))
      ∙ ap (λ (m : ℕ). get_or (order_seen m whole) j 0) kept_seen

  head_seen_lem : kept_head z s d ≡ head_kept (view_of z s d)
  unfolding head_kept
  head_seen_lem =
      let whole = whole_kept (view_of z s d) in
      ap (λ (c : ℕ). cond (ltb c total) (c / 8) (64 * number_kept z s d - 1)) (count_cong total (kept_spent z s d) (λ p. eqb (whole p) 0) spent_seen)
      ∙ ap (λ (m : ℕ). head_seen m whole) kept_seen

  -- ---- The words left
  module _ (byte : Bytes z s d) (k : Kept z s d) (r : List ℕ) (c : Trimmed z s r d) where
    -- The domain owns those that stay, in their order.
    owned_now : owned z r d ≡ number_kept z s d
    unfolding owned
    owned_now =
        count_matched z.treelings (number_kept z s d) (λ t. eqb (get z r (owner t)) (suc d)) (λ t. get z r (rank t)) (kept_of z s d)
        (record {
          there_below = λ t below o.
              let w = kept_at t below o in
              omega (arith, w.1, w.2);
          there_back = λ t below o.
              let w = kept_at t below o in
              ap (kept_of z s d) w.2 ∙ w.3;
          back_below = k.below;
          back_holds = λ q less. eq-eqb (get z r (owner (kept_of z s d q))) (suc d) (c.kept_owner q less);
          back_there = c.kept_rank;
        })
      where
        -- What is its own is one that stays, and of its new rank.
        kept_at : (t : ℕ) → t < z.treelings → eqb (get z r (owner t)) (suc d) ≡ true → (q : ℕ) × (q < number_kept z s d) × (get z r (rank t) ≡ q) × (kept_of z s d q ≡ t)
        kept_at t below o =
            let own = own_back z s r d k c t below (eqb-true (get z r (owner t)) (suc d) o) in
            let w = k.found t below own.0 own.1 in
            (w.0, w.1, ap (λ (u : ℕ). get z r (rank u)) (sym w.2) ∙ c.kept_rank w.0 w.1, w.2)

    -- So the link after q steps is the one to the TreeLing of new rank q.
    link_some : (q : ℕ) → q < number_kept z s d → kept_link z s d q ≡ suc (kept_of z s d q)
    unfolding kept_link
    link_some q less = ap (λ (b : Bool). cond b (suc (kept_of z s d q)) 0) (lt-ltb q (number_kept z s d) less)

    link_now : (q : ℕ) → q < number_kept z s d → link_of z r d q ≡ kept_link z s d q
    unfolding link_of
    link_now zero less = c.first_is
    link_now (suc q) less =
        let at : link_of z r d q - 1 ≡ kept_of z s d q = omega (arith, link_now q (omega arith), link_some q (omega arith)) in
        ap (λ (t : ℕ). get z r (next t)) at ∙ c.kept_next q (omega arith)

    of_rank_now : (q : ℕ) → q < number_kept z s d → of_rank z r d q ≡ kept_of z s d q
    unfolding of_rank
    of_rank_now q less = omega (arith, link_now q less, link_some q less)

    -- The head,
    head_now : (world z r d).nfl.head ≡ kept_head z s d
    head_now = either (number_kept z s d) 0 none some
      where
        none : number_kept z s d ≡ 0 → (world z r d).nfl.head ≡ kept_head z s d
        none e =
            let n = spent_number z s d in
            let last : 64 * number_kept z s d - 1 ≡ 0 = omega arith in
            ap (λ (t : ℕ). cond (eqb t 0) 0 (head_in_order z r d)) (c.head_none e).0
            ∙ sym (ap₂ (λ (b : Bool) (q : ℕ). cond b (n / 8) q) (le-ltb n total (omega arith)) last)

        head_below : (number_kept z s d ≡ 0 → ⊥) → kept_head z s d / 64 < number_kept z s d
        head_below not_None =
            by_end (spent_number z s d) total
            (λ less. rw (lt-ltb (spent_number z s d) total less) (omega arith))
            (λ all. rw (le-ltb (spent_number z s d) total all) (omega arith))

        some : (number_kept z s d ≡ 0 → ⊥) → (world z r d).nfl.head ≡ kept_head z s d
        some not_None =
            let q = kept_head z s d in
            let w = c.head_is (lt_of_not-le (λ e. not_None (omega arith))) in
            let at : get z r (head_treeling d) - 1 ≡ kept_of z s d (q / 64) = omega (arith, w.0) in
            ap (λ (b : Bool). cond b 0 (head_in_order z r d)) (ne_eqb (get z r (head_treeling d)) 0 (λ e. omega (arith, w.0)))
            ∙ ap₂ (λ (t b : ℕ). 64 * get z r (rank t) + b) at w.1
            ∙ omega (arith, c.kept_rank (q / 64) (head_below not_None))

    -- the entries,
    order_below : (j : ℕ) → j < total → kept_order z s d j < total
    order_below j less =
        by_end j (spent_number z s d)
        (λ early. (parted_first (kept_spent z s d) total j early).0)
        (λ late. (parted_rest (kept_spent z s d) total j late less).0)

    word_now : (j : ℕ) → j < total → get z r (entry_of z r d j) ≡ entry_word (kept_node z s d (kept_order z s d j)) (kept_whole z s d (kept_order z s d j))
    word_now j less =
        ap (λ (t : ℕ). get z r (entry t (j % 512))) (of_rank_now (j / 512) (omega arith)) ∙ c.kept_entry j less

    whole_byte : (p : ℕ) → p < total → kept_whole z s d p < 256
    whole_byte p less = byte (kept_node z s d p) (omega (arith, k.below (p / 512) (omega arith)))

    tag_now : (j : ℕ) → j < total → rank_node z r ((world z r d).nfl.tag j) ≡ order_kept (view_of z s d) j
    tag_now j less =
        let p = kept_order z s d j in
        let below = order_below j less in
        let row : kept_node z s d p / 512 ≡ kept_of z s d (p / 512) = omega arith in
        ap (λ (w : ℕ). rank_node z r (tag_of w)) (word_now j less)
        ∙ ap (rank_node z r) (entry_tag (kept_node z s d p) (kept_whole z s d p) (whole_byte p below))
        ∙ omega (arith, ap (λ (t : ℕ). get z r (rank t)) row, c.kept_rank (p / 512) (omega arith))
        ∙ order_seen_lem j

    free_now : (j : ℕ) → j < total → (world z r d).nfl.free j ≡ whole_kept (view_of z s d) (order_kept (view_of z s d) j)
    free_now j less =
        let p = kept_order z s d j in
        let below = order_below j less in
        ap availability_of (word_now j less)
        ∙ entry_availability (kept_node z s d p) (kept_whole z s d p) (whole_byte p below)
        ∙ whole_seen p below
        ∙ ap (whole_kept (view_of z s d)) (order_seen_lem j)

    -- What is seen of them up to their number,
    up_to : (f g : ℕ → ℕ) → ((j : ℕ) → j < total → f j ≡ g j) → (j : ℕ) → cond (ltb j (512 * owned z r d)) (f j) 0 ≡ cond (ltb j (512 * kept_view (view_of z s d))) (g j) 0
    up_to f g same j =
        ap (λ (m : ℕ). cond (ltb j (512 * m)) (f j) 0) owned_now
        ∙ below_cong j total (f j) (g j) (same j)
        ∙ ap (λ (m : ℕ). cond (ltb j (512 * m)) (g j) 0) kept_seen

    -- the new ranks, and the pages.
    rank_now : (t : ℕ) → t < z.treelings → get z s (owner t) ≡ suc d → is_empty z s t ≡ false → get z r (rank t) ≡ new_rank (view_of z s d) (get z s (rank t))
    rank_now t below own used =
        let back = of_rank_back z s h d l t below own in
        let w = new_rank_lem (get z s (rank t)) (rank_below_owned z s h d l t below own) (ap (is_empty z s) back ∙ used) in
        ap (λ (u : ℕ). get z r (rank u)) (sym (w.1 ∙ back)) ∙ c.kept_rank (new_rank (view_of z s d) (get z s (rank t))) w.0

    page_now : (f : ℕ) → f < z.frames → MappedBy z s d f → (view_of z r d).place f ≡ place_kept (view_of z s d) ((view_of z s d).place f)
    page_now f lf m =
        let x = get z s (leaf f) in
        let y = rank_slot z s x in
        let now = rank_now (treeling_of x) (page_below z s h f lf m.some) m.own (page_lies z s f lf m.some) in
        let small = slot_below x in
        let row : y / 4096 ≡ get z s (rank (treeling_of x)) = omega arith in
        place_mapped z r d f lf (page_stays z s r d k c h.leaf_range f lf m)
        ∙ ap (λ (u : ℕ). suc (rank_slot z r u)) (c.same_leaf f lf)
        ∙ omega (arith, now, ap (new_rank (view_of z s d)) row)
        ∙ sym (ap (place_kept (view_of z s d)) (place_mapped z s d f lf m) ∙ place_some (view_of z s d) y)

    place_now : (f : ℕ) → (view_of z r d).place f ≡ place_kept (view_of z s d) ((view_of z s d).place f)
    unfolding place_kept
    place_now f =
        by_end f z.frames
        (λ lf. by_page lf (is_mapped_by z s d f) refl)
        (λ past. both_none (place_past z r d f past) (place_past z s d f past))
      where
        both_none : (view_of z r d).place f ≡ 0 → (view_of z s d).place f ≡ 0 → (view_of z r d).place f ≡ place_kept (view_of z s d) ((view_of z s d).place f)
        both_none now before = now ∙ sym (ap (place_kept (view_of z s d)) before)

        by_page : f < z.frames → (b : Bool) → is_mapped_by z s d f ≡ b → (view_of z r d).place f ≡ place_kept (view_of z s d) ((view_of z s d).place f)
        by_page lf true is = page_now f lf (mapped_by z s d f is)
        by_page lf false is =
            both_none
            (place_none z r d f (is_false (is_mapped_by z r d f) (λ now. false≢true (sym is ∙ by_mapped z s d f (page_back z s r d k c h.leaf_range f lf (mapped_by z r d f now))))))
            (place_none z s d f is)

    -- So the view left is the view trimmed.
    trimmed_view_lem : view_of z r d ≡ trimmed_view (view_of z s d)
    unfolding trimmed_view view_of
    trimmed_view_lem =
        view_eq (view_of z r d) (trimmed_view (view_of z s d))
        c.same_live
        (owned_now ∙ kept_seen)
        (list_eq (head_now ∙ head_seen_lem)
        (up_to (λ j. rank_node z r ((world z r d).nfl.tag j)) (order_kept (view_of z s d)) tag_now)
        (up_to (world z r d).nfl.free (λ j. whole_kept (view_of z s d) (order_kept (view_of z s d) j)) free_now))
        c.same_pages
        place_now

-- ---- Trim
pub own_trim : (z : Sizes) (s : List ℕ) (d : ℕ) → Sound z s → d < z.domains → Ordinary z s d → Empties z s d → Bytes z s d → Kept z s d → (0 < number_returned z s d → Trimmed z s (trimmed z s d) d)
    → Shows z 8 d (outcome (Finished (number_returned z s d)) (trimming z s d)) (trim_view (view_of z s d))
unfolding trimming trim_view
own_trim z s d h l o empties byte k c =
    subst (λ (m : ℕ). Shows z 8 d (outcome (Finished n) (cond (eqb n 0) s (trimmed z s d))) (cond (eqb m 0) (look (seen_done 0) v) (look (seen_done m) (trimmed_view v)))) (returned_seen z s h d l o empties)
    (by_test (eqb n 0) refl)
  where
    n : ℕ
    n = number_returned z s d

    v : View
    v = view_of z s d

    -- Nothing changes, or the rest is regathered.
    by_test : (b : Bool) → eqb n 0 ≡ b → Shows z 8 d (outcome (Finished n) (cond b s (trimmed z s d))) (cond b (look (seen_done 0) v) (look (seen_done n) (trimmed_view v)))
    by_test true is = (seen_finished 8 n refl ∙ ap seen_done (eqb-true n 0 is), refl)
    by_test false is =
        let apart = eqb-false n 0 is in
        (seen_finished 8 n refl, trimmed_view_lem z s h d l o empties byte k (trimmed z s d) (c (lt_of_not-le (λ none. apart (omega arith)))))
