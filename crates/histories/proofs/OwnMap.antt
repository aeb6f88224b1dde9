-- A domain's own map, seen through its view, is the map of views.
-- Assumes nothing.
use Prim.Native.Nat.{ℕ, suc, ◌+◌, ◌-◌, ◌*◌, ◌/◌, ◌%◌, ◌^◌, ◌<◌, ◌≤◌}
use mathlib.Core.Path.{◌≡◌, refl, sym, ap, ap₂, subst, subst₂, ◌∙◌}
use mathlib.Core.List.{List}
use mathlib.Core.Bool.{Bool, true, false, cond, ◌&&◌}
use mathlib.Core.Logic.{⊎_elim}
use native.Mathlib.Omega.{arith}
use borrow.Author.Tests.{eq-eqb, ne_eqb, lt-ltb, le-ltb, ltb-true, ltb-false}
use lib.Dec.{eqb, ltb}
use lib.ListN.{get_or}
use Rattle.layout.specs.declared.Sizes.{Sizes}
use Rattle.geometry.specs.Tables.{lowest_free}
use Rattle.leaf_map.specs.LeafIds.{leaf_at, slot_of, treeling_of}
use Rattle.leaf_map.proofs.LeafIdLaws.{at_number, at_slot, at_treeling, treeling_below}
use Rattle.geometry.specs.Entries.{entry_word, tag_of, availability_of}
use Rattle.layout.specs.Outcomes.{OutcomeOf, outcome}
use Rattle.board.specs.Holes.{outside}
use Rattle.layout.specs.Places.{Place, get, treeling, entry, leaf, live, last, pages_mapped, owner, rank}
use Rattle.sound.specs.Sentences.{is_mapped_by, of_rank}
use Rattle.sound.specs.Sound.{Sound, Ordinary}
use Rattle.std.specs.Prelude.{Option, None}
use Rattle.leaf_map.specs.declared.LeafId.{LeafId}
use Rattle.world.specs.World.{world, owned, entry_of}
use Rattle.taking.specs.Taking.{has_unowned, to_take, taking}
use Rattle.placing.specs.Placing.{place_entry, position_given, leaf_given, after_giving, giving}
use Rattle.sound.proofs.MappedLaws.{MappedBy, page_below, page_owned}
use Rattle.world.proofs.ClearLaws.{lowest_below, lowest_bit, clear_free}
use Rattle.world.proofs.FrameLaws.{either}
use Rattle.world.proofs.WorldLaws.{of_rank_lem, of_rank_back, rank_below_owned, head_some, last_some, next_none, entry_one, entry_back}
use Rattle.placing.proofs.PlacedSound.{Given, placed_given, placed_tag, found_next, placed_sound}
use Rattle.taking.proofs.TakenLaws.{Taken, taken}
use Rattle.placing.proofs.TakenSound.{taken_sound}
use Rattle.placing.proofs.DecisionLaws.{placing_is}
use Rattle.placing.proofs.NoPlace.{sought_found}
use Rattle.pages.specs.Answers.{Outcome, answer_words, page_at}
use Rattle.pages.specs.Mapping.{mapping, map_call}
use Rattle.histories.proofs.View.{View, Look, view_of, rank_node, rank_slot, with', seen, seen_page, given_view, taken_view, map_view}
use Rattle.histories.proofs.ViewLaws.{list_eq, view_eq, with_here, with_other, Mine, seen_page_lem, seen_refused, SameChain, owned_same, of_rank_same, by_end, tag_at, tag_past, free_at_lem, free_past, place_mapped, place-unmapped, place_entry_lem, place_same}

-- View v is domain d's of the words s, but for the head.
record AsView (z : Sizes) (s : List ℕ) (d : ℕ) (v : View) : Type 0 where
  live_is : v.live-word ≡ get z s (live d)
  treelings_are : v.treelings ≡ owned z s d
  tag_is : (j : ℕ) → v.nfl.tag j ≡ (view_of z s d).nfl.tag j
  free_is : (j : ℕ) → v.nfl.free j ≡ (view_of z s d).nfl.free j
  pages_are : v.pages ≡ get z s (pages_mapped d)
  place_is : (c : ℕ) → v.place c ≡ (view_of z s d).place c

-- ---- An entry gives a position
module _ (z : Sizes) (s r : List ℕ) (d f t k : ℕ) (h : Sound z r) (ld : d < z.domains) (g : Given z s r d f t k) where
  -- The domain's TreeLings stay.
  chain : SameChain z r s d
  chain =
      record {
        same_first = sym (g.same_domain d 1 ld (omega arith) (λ _. omega arith));
        same_owner = λ u l. ap (λ (o : ℕ). eqb o (suc d)) (sym (g.same_treeling u 0 l (omega arith)));
        same_next = λ u l _. sym (g.same_treeling u 2 l (omega arith));
      }

  owned_was : owned z s d ≡ owned z r d
  owned_was = owned_same z r s d chain

  entry_was : (j : ℕ) → j < 512 * owned z r d → entry_of z s d j ≡ entry_of z r d j
  entry_was j l = ap (λ (u : ℕ). entry u (j % 512)) (of_rank_same z r s d chain h ld (j / 512) (omega arith))

  -- A node has the rank that it had.
  node_was : (n : ℕ) → n < 512 * z.treelings → rank_node z r n ≡ rank_node z s n
  node_was n l = ap (λ (x : ℕ). 512 * x + n % 512) (g.same_treeling (n / 512) 3 (omega arith) (omega arith))

-- A slot by its node and position.
slot_node : (z : Sizes) (s : List ℕ) (n i : ℕ) → n < 2097152 → i < 8 → rank_slot z s (leaf_at n i) ≡ 8 * rank_node z s n + i
slot_node z s n i few l = omega (arith, ap (λ (u : ℕ). get z s (rank u)) (at_treeling n i few l), at_slot n i l)

module _ (z : Sizes) (s r : List ℕ) (d f t k : ℕ) (h : Sound z r) (ld : d < z.domains) (o : Ordinary z r d) (g : Given z s r d f t k)
    (lf : f < z.frames) (lt : t < z.treelings) (lk : k < 512) (own : get z r (owner t) ≡ suc d) (some : 0 < availability_of (get z s (entry t k)))
    (v : View) (like : AsView z s d v) where
  -- The entry in rank order, its word, and the position that it gives.
  abbrev at : ℕ
  at = 512 * get z r (rank t) + k

  abbrev word : ℕ
  word = get z s (entry t k)

  abbrev given : ℕ
  given = position_given z s t k

  at_below : at < 512 * owned z r d
  at_below = omega (arith, rank_below_owned z r h d ld t lt own)

  at_past : at < 512 * owned z s d
  at_past = omega (arith, at_below, owned_was z s r d f t k h ld g)

  at_is : entry_of z r d at ≡ entry t k
  at_is = entry_back z r h d ld t k lt own lk

  at_was : entry_of z s d at ≡ entry t k
  at_was = entry_was z s r d f t k h ld g at at_below ∙ at_is

  low : given < 8
  low = lowest_below (availability_of word) some (omega arith)

  -- What the view has there.
  tag_there : v.nfl.tag at ≡ rank_node z s (tag_of word)
  tag_there = like.tag_is at ∙ tag_at z s d at at_past ∙ ap (λ (p : Place). rank_node z s (tag_of (get z s p))) at_was

  free_there : v.nfl.free at ≡ availability_of word
  free_there = like.free_is at ∙ free_at_lem z s d at at_past ∙ ap (λ (p : Place). availability_of (get z s p)) at_was

  -- Tags, and the range of the entry's.
  tag_was : (u i : ℕ) → u < z.treelings → i < 512 → tag_of (get z r (entry u i)) ≡ tag_of (get z s (entry u i))
  tag_was = placed_tag z s r d f t k g lf lt lk some

  tag_below : tag_of word < 512 * z.treelings
  tag_below = omega (arith, tag_was t k lt lk, h.tag_range d t k lt lk own o)

  -- The slot given, by rank.
  abbrev slot : ℕ
  slot = 8 * v.nfl.tag at + lowest_free (v.nfl.free at)

  tag_few : tag_of word < 2097152
  tag_few = omega (arith, tag_below, h.laid_out.laid.sizes.max_treelings)

  slot_is : rank_slot z r (leaf_given z s t k) ≡ slot
  slot_is =
      slot_node z r (tag_of word) given tag_few low
      ∙ ap (λ (n : ℕ). 8 * n + given) (node_was z s r d f t k h ld g (tag_of word) tag_below ∙ sym tag_there)
      ∙ ap (λ (a : ℕ). 8 * v.nfl.tag at + lowest_free a) (sym free_there)

  -- Tags stay; the entry has its position no more; its block is the head; and the frame has the slot.
  tag_view : (j : ℕ) → (view_of z r d).nfl.tag j ≡ v.nfl.tag j
  tag_view j =
      by_end j (512 * owned z r d)
      (λ l.
      let a = of_rank_lem z r h d ld (j / 512) (omega arith) in
      let u = of_rank z r d (j / 512) in
      tag_at z r d j l
      ∙ node_was z s r d f t k h ld g ((world z r d).nfl.tag j) (h.tag_range d u (j % 512) a.below (omega arith) a.owner_is o)
      ∙ ap (rank_node z s) (tag_was u (j % 512) a.below (omega arith))
      ∙ ap (λ (p : Place). rank_node z s (tag_of (get z s p))) (sym (entry_was z s r d f t k h ld g j l))
      ∙ sym (tag_at z s d j (omega (arith, owned_was z s r d f t k h ld g)))
      ∙ sym (like.tag_is j))
      (λ past. tag_past z r d j past ∙ sym (tag_past z s d j (omega (arith, owned_was z s r d f t k h ld g))) ∙ sym (like.tag_is j))

  free_view : (j : ℕ) → (view_of z r d).nfl.free j ≡ with' v.nfl.free at (v.nfl.free at - 2 ^ lowest_free (v.nfl.free at)) j
  free_view j =
      either j at
      (λ is.
      ap (view_of z r d).nfl.free is
      ∙ free_at_lem z r d at at_below
      ∙ ap (λ (p : Place). availability_of (get z r p)) at_is
      ∙ ap availability_of g.entry_is
      ∙ clear_free word given low (lowest_bit (availability_of word) some (omega arith))
      ∙ ap (λ (a : ℕ). a - 2 ^ lowest_free a) (sym free_there)
      ∙ sym (with_here v.nfl.free at _ j is))
      (λ other.
      by_end j (512 * owned z r d)
      (λ l.
      let a = of_rank_lem z r h d ld (j / 512) (omega arith) in
      free_at_lem z r d j l
      ∙ ap availability_of (g.same_entry (of_rank z r d (j / 512)) (j % 512) a.below (omega arith) (λ e. other (entry_one z r h d ld j at l at_below (e ∙ sym at_is))))
      ∙ ap (λ (p : Place). availability_of (get z s p)) (sym (entry_was z s r d f t k h ld g j l))
      ∙ sym (free_at_lem z s d j (omega (arith, owned_was z s r d f t k h ld g))))
      (λ past. free_past z r d j past ∙ sym (free_past z s d j (omega (arith, owned_was z s r d f t k h ld g))))
      ∙ sym (like.free_is j)
      ∙ sym (with_other v.nfl.free at _ j other))

  head_view : (world z r d).nfl.head ≡ at / 8
  head_view =
      let w = head_some z r h d ld o (omega (arith, at_below)) in
      let its : w.0 ≡ t = omega (arith, w.1, g.head_is) in
      omega (arith, w.3, ap (λ (u : ℕ). get z r (rank u)) its, g.block_is)

  mapped : MappedBy z r d f
  mapped =
      let node : treeling_of (get z r (leaf f)) ≡ tag_of (get z r (entry t k)) / 512 = ap treeling_of g.leaf_is ∙ at_treeling (tag_of word) given tag_few low ∙ ap (λ (n : ℕ). n / 512) (sym (tag_was t k lt lk)) in
      record { some = omega (arith, g.leaf_is, at_number (tag_of word) given); own = ap (λ (u : ℕ). get z r (owner u)) node ∙ h.tag_own d t k lt lk own o }

  place_view : (c : ℕ) → (view_of z r d).place c ≡ with' v.place f (suc slot) c
  place_view c =
      either c f
      (λ is.
      ap (view_of z r d).place is
      ∙ place_mapped z r d f lf mapped
      ∙ ap (λ (x : ℕ). suc (rank_slot z r x)) g.leaf_is
      ∙ ap suc slot_is
      ∙ sym (with_here v.place f _ c is))
      (λ other.
      place_same z s r d c
      (λ l. ap₂ (λ (x o : ℕ). ltb 0 x && eqb o (suc d)) (g.same_leaf c l other) (of_page c 0 (omega arith) l other))
      (λ l m. ap₂ (λ (x q : ℕ). 4096 * q + slot_of x) (g.same_leaf c l other) (of_page c 3 (omega arith) l other))
      ∙ sym (like.place_is c)
      ∙ sym (with_other v.place f _ c other))
    where
      -- The TreeLing of another frame's page has the owner and the rank that it had.
      of_page : (c j : ℕ) → j < 5 → c < z.frames → (c ≡ f → ⊥) → get z r (treeling (treeling_of (get z r (leaf c))) j) ≡ get z s (treeling (treeling_of (get z s (leaf c))) j)
      of_page c j lj l other =
          let x = get z r (leaf c) in
          g.same_treeling (treeling_of x) j (treeling_below z.treelings x h.laid_out.laid.sizes.some_treelings (h.leaf_range c l)) lj
          ∙ ap (λ (y : ℕ). get z s (treeling (treeling_of y) j)) (g.same_leaf c l other)

  given_view_lem : view_of z r d ≡ (given_view v f at).view
  unfolding given_view view_of
  given_view_lem =
      view_eq (view_of z r d) (given_view v f at).view
      (g.same_domain d 0 ld (omega arith) (λ _. omega arith) ∙ sym like.live_is)
      (sym (owned_was z s r d f t k h ld g) ∙ sym like.treelings_are)
      (list_eq head_view tag_view free_view)
      (g.pages_are ∙ ap suc (sym like.pages_are))
      place_view

  given_sight : seen 3 (answer_words (page_at z r (leaf_given z s t k) 1)) ≡ (given_view v f at).sight
  unfolding given_view
  given_sight = seen_page_lem z r 3 (leaf_given z s t k) 1 refl ∙ ap (λ (y : ℕ). seen_page y 1) slot_is

-- ---- A TreeLing is taken
-- Domain d takes TreeLing t, whose entry 0 gives a position: words m between, words r after.
module _ (z : Sizes) (s m r : List ℕ) (d f t : ℕ) (h : Sound z s) (hr : Sound z r) (ld : d < z.domains) (o : Ordinary z s d) (lt : t < z.treelings)
    (none : get z s (owner t) ≡ 0) (w : Taken z s m d t) (g : Given z m r d f t 0) where
  -- A TreeLing that was owned is not t, and keeps its record.
  not_t : (u : ℕ) → 0 < get z s (owner u) → u ≡ t → ⊥
  not_t u o is = omega (arith, ap (λ (x : ℕ). get z s (owner x)) is)

  kept : (u j : ℕ) → u < z.treelings → j < 5 → (j ≡ 2 → ⊥) → 0 < get z s (owner u) → get z m (treeling u j) ≡ get z s (treeling u j)
  kept u j l lj other o = w.same_treeling u j l lj (not_t u o) other

  kept_after : (u j : ℕ) → u < z.treelings → j < 5 → (j ≡ 2 → ⊥) → 0 < get z s (owner u) → get z r (treeling u j) ≡ get z s (treeling u j)
  kept_after u j l lj other o = g.same_treeling u j l lj ∙ kept u j l lj other o

  -- t is the domain's, of the next rank,
  own_t : get z r (owner t) ≡ suc d
  own_t = g.same_treeling t 0 lt (omega arith) ∙ w.owner_is

  rank_t : get z r (rank t) ≡ owned z s d
  rank_t = g.same_treeling t 3 lt (omega arith) ∙ w.rank_is

  -- and the last one: it owns one more.
  owned-after : owned z r d ≡ suc (owned z s d)
  owned-after =
      let last_other : get z s (last d) ≡ suc t → ⊥ = λ e. not_t t (omega (arith, (last_some z s h d ld t e).0.owner_is)) refl in
      next_none z r hr d ld t lt own_t (g.same_treeling t 2 lt (omega arith) ∙ w.same_next t lt last_other ∙ h.unowned_zero t 2 lt (omega arith) none)
      ∙ ap suc rank_t

  owned_between : owned z m d ≡ suc (owned z s d)
  owned_between = owned_was z m r d f t 0 hr ld g ∙ owned-after

  -- Its entries as they were, and those of t after them.
  entry_kept : (j : ℕ) → j < 512 * owned z s d → entry_of z m d j ≡ entry_of z s d j
  entry_kept j l =
      let a = of_rank_lem z s h d ld (j / 512) (omega arith) in
      let u = of_rank z s d (j / 512) in
      let o : 0 < get z s (owner u) = omega (arith, a.owner_is) in
      let ranked : get z r (rank u) ≡ j / 512 = kept_after u 3 a.below (omega arith) (omega arith) o ∙ a.rank_is in
      let back = of_rank_back z r hr d ld u a.below (kept_after u 0 a.below (omega arith) (omega arith) o ∙ a.owner_is) in
      entry_was z m r d f t 0 hr ld g j (omega (arith, owned-after))
      ∙ ap (λ (x : ℕ). entry x (j % 512)) (ap (of_rank z r d) (sym ranked) ∙ back)

  entry_new : (j : ℕ) → j / 512 ≡ owned z s d → get z m (entry_of z m d j) ≡ entry_word (512 * t + j % 512) 255
  entry_new j is =
      ap (get z m) (entry_was z m r d f t 0 hr ld g j (omega (arith, owned-after)))
      ∙ ap (λ (x : ℕ). get z m (entry x (j % 512))) (ap (of_rank z r d) (is ∙ sym rank_t) ∙ of_rank_back z r hr d ld t lt own_t)
      ∙ w.fresh (j % 512) (omega arith)

  word_kept : (j : ℕ) → j < 512 * owned z s d → get z m (entry_of z m d j) ≡ get z s (entry_of z s d j)
  word_kept j l =
      let a = of_rank_lem z s h d ld (j / 512) (omega arith) in
      ap (get z m) (entry_kept j l)
      ∙ w.same_entry (of_rank z s d (j / 512)) (j % 512) a.below (omega arith) (not_t (of_rank z s d (j / 512)) (omega (arith, a.owner_is)))

  -- What the view has of entry j: below the old end it is as it was, new for t, and none past it.
  at_taken : (j new x y : ℕ) → (j < 512 * owned z s d → x ≡ y) → (j / 512 ≡ owned z s d → new ≡ y)
      → cond (eqb (j / 512) (owned z s d)) new (cond (ltb j (512 * owned z s d)) x 0) ≡ cond (ltb j (512 * owned z m d)) y 0
  at_taken j new x y old fresh =
      either (j / 512) (owned z s d)
      (λ is. rw (eq-eqb (j / 512) (owned z s d) is, lt-ltb j (512 * owned z m d) (omega (arith, owned_between))) (fresh is))
      (λ other.
      by_end j (512 * owned z s d)
      (λ l. rw (ne_eqb (j / 512) (owned z s d) other, lt-ltb j (512 * owned z s d) l, lt-ltb j (512 * owned z m d) (omega (arith, owned_between))) (old l))
      (λ past. rw (ne_eqb (j / 512) (owned z s d) other, le-ltb j (512 * owned z s d) past, le-ltb j (512 * owned z m d) (omega (arith, owned_between))) refl))

  tag_taken : (j : ℕ) → (taken_view (view_of z s d)).nfl.tag j ≡ (view_of z m d).nfl.tag j
  unfolding taken_view view_of
  tag_taken j =
      at_taken j j (rank_node z s ((world z s d).nfl.tag j)) (rank_node z m ((world z m d).nfl.tag j))
      (λ l.
      let a = of_rank_lem z s h d ld (j / 512) (omega arith) in
      let n = (world z s d).nfl.tag j in
      let below = h.tag_range d (of_rank z s d (j / 512)) (j % 512) a.below (omega arith) a.owner_is o in
      let its = h.tag_own d (of_rank z s d (j / 512)) (j % 512) a.below (omega arith) a.owner_is o in
      ap (λ (q : ℕ). 512 * q + n % 512) (sym (kept (n / 512) 3 (omega (arith, below)) (omega arith) (omega arith) (omega (arith, its))))
      ∙ ap (λ (x : ℕ). rank_node z m (tag_of x)) (sym (word_kept j l)))
      (λ is.
      let node : (world z m d).nfl.tag j ≡ 512 * t + j % 512 = omega (arith, entry_new j is) in
      let its : (512 * t + j % 512) / 512 ≡ t = omega arith in
      sym (ap (rank_node z m) node ∙ omega (arith, ap (λ (u : ℕ). get z m (rank u)) its, w.rank_is, is)))

  free_taken : (j : ℕ) → (taken_view (view_of z s d)).nfl.free j ≡ (view_of z m d).nfl.free j
  unfolding taken_view view_of
  free_taken j =
      at_taken j 255 ((world z s d).nfl.free j) ((world z m d).nfl.free j)
      (λ l. ap availability_of (sym (word_kept j l)))
      (λ is. omega (arith, entry_new j is))

  -- Pages are where they were.
  place_taken : (c : ℕ) → (view_of z s d).place c ≡ (view_of z m d).place c
  place_taken c = sym (place_same z s m d c same_owner same_slot)
    where
      page : ℕ
      page = get z s (leaf c)

      same_owner : c < z.frames → is_mapped_by z m d c ≡ is_mapped_by z s d c
      same_owner l =
          ap (λ (x : ℕ). ltb 0 x && eqb (get z m (owner (treeling_of x))) (suc d)) (w.same_leaf c)
          ∙ by_end 0 page
          (λ some. ap (λ (o : ℕ). ltb 0 page && eqb o (suc d)) (kept (treeling_of page) 0 (page_below z s h c l some) (omega arith) (omega arith) (page_owned z s h c l some)))
          (λ unmapped. rw (le-ltb 0 page unmapped) refl)

      same_slot : c < z.frames → MappedBy z s d c → rank_slot z m (get z m (leaf c)) ≡ rank_slot z s page
      same_slot l mine =
          ap (λ (x : ℕ). rank_slot z m x) (w.same_leaf c)
          ∙ ap (λ (q : ℕ). 4096 * q + slot_of page) (kept (treeling_of page) 3 (page_below z s h c l mine.some) (omega arith) (omega arith) (omega (arith, mine.own)))

  taken_like : AsView z m d (taken_view (view_of z s d))
  unfolding taken_view view_of
  taken_like =
      record {
        live_is = sym (w.same_own 0 (omega arith) (omega arith) (omega arith));
        treelings_are = sym owned_between;
        tag_is = tag_taken;
        free_is = free_taken;
        pages_are = sym (w.same_own 5 (omega arith) (omega arith) (omega arith));
        place_is = place_taken;
      }

-- ---- The call
module _ (z : Sizes) (s : List ℕ) (d f : ℕ) (h : Sound z s) (ld : d < z.domains) (lf : f < z.frames) (out : outside s f ≡ true) (o : Ordinary z s d) where
  -- What is seen of an outcome of map is a look.
  abbrev Shows : Outcome → Look → Type 0
  Shows o l = (seen 3 (answer_words o.answer) ≡ l.sight) × (view_of z o.words d ≡ l.view)

  -- The entry found, and how the outcome and the look go by the two tests.
  abbrev found : ℕ
  found = place_entry (world z s d)

  abbrev taken_by : ℕ → OutcomeOf (Option LeafId)
  taken_by t = giving z (taking z s d t) d f t 0

  abbrev placed_by : Bool → Bool → OutcomeOf (Option LeafId)
  placed_by a b =
      cond a
      (giving z s d f (of_rank z s d (found / 512)) (found % 512))
      (cond b (taken_by (to_take z s d)) (outcome None s))

  abbrev outcome_by : Bool → Bool → Outcome
  outcome_by a b = mapping z (placed_by a b).answer (placed_by a b).words

  abbrev look_by : Bool → Look
  look_by a =
      cond a (given_view (view_of z s d) f found) (given_view (taken_view (view_of z s d)) f (512 * owned z s d))

  -- The frame is unmapped:
  module _ (unmapped : get z s (leaf f) ≡ 0) where
    -- an own entry gives the place,
    own_entry_lem : found < 512 * owned z s d → Shows (outcome_by true false) (look_by true)
    unfolding mapping view_of
    own_entry_lem below =
        let t = of_rank z s d (found / 512) in
        let k = found % 512 in
        let r = after_giving z s d f t k in
        let n = found_next z s d found h ld o refl below in
        let g = placed_given z s d f t k h.laid_out.laid ld lf n.below n.small in
        let hr = placed_sound z s d f found h ld o lf out unmapped refl below in
        let own = g.same_treeling t 0 n.below (omega arith) ∙ n.own in
        let still : Ordinary z r d = g.same_domain d 0 ld (omega arith) (λ _. omega arith) ∙ o in
        let v = view_of z s d in
        let like : AsView z s d v = record { live_is = refl; treelings_are = refl; tag_is = λ _. refl; free_is = λ _. refl; pages_are = refl; place_is = λ _. refl } in
        let ranked = g.same_treeling t 3 n.below (omega arith) ∙ (of_rank_lem z s h d ld (found / 512) (omega arith)).rank_is in
        let is : 512 * get z r (rank t) + k ≡ found = omega (arith, ranked) in
        subst (λ (j : ℕ). Shows (outcome_by true false) (given_view v f j)) is (
          given_sight z s r d f t k hr ld still g lf n.below n.small own n.free v like,
          given_view_lem z s r d f t k hr ld still g lf n.below n.small own n.free v like,
        )

    -- or a TreeLing is taken. Whichever of the unowned ones it is, the domain sees the same: its rank is the number already owned and its
    -- entries are fresh. So that the one last held by the domain goes before the others, and others may have taken it, does not show.
    whichever : (t : ℕ) → t < z.treelings → get z s (owner t) ≡ 0 → 512 * owned z s d ≤ found → Shows (mapping z (taken_by t).answer (taken_by t).words) (look_by false)
    unfolding mapping
    whichever t below unowned past =
        let m = taking z s d t in
        let r = after_giving z m d f t 0 in
        let w = taken z s d t h.laid_out.laid ld below (λ u e. omega (arith, h.last_range d ld)) in
        let g = placed_given z m d f t 0 (record { sizes = h.laid_out.laid.sizes; long = w.long ∙ h.laid_out.laid.long }) ld lf below (omega arith) in
        let hr = taken_sound z s d f t h ld lf out o unmapped below unowned past in
        let own = own_t z s m r d f t h hr ld o below unowned w g in
        let still : Ordinary z r d = g.same_domain d 0 ld (omega arith) (λ _. omega arith) ∙ w.same_own 0 (omega arith) (omega arith) (omega arith) ∙ o in
        let some : 0 < availability_of (get z m (entry t 0)) = omega (arith, w.fresh 0 (omega arith)) in
        let v = taken_view (view_of z s d) in
        let like = taken_like z s m r d f t h hr ld o below unowned w g in
        let is : 512 * get z r (rank t) + 0 ≡ 512 * owned z s d = omega (arith, rank_t z s m r d f t h hr ld o below unowned w g) in
        subst (λ (j : ℕ). Shows (mapping z (taken_by t).answer (taken_by t).words) (given_view v f j)) is (
          given_sight z m r d f t 0 hr ld still g lf below (omega arith) own some v like,
          given_view_lem z m r d f t 0 hr ld still g lf below (omega arith) own some v like,
        )

    own_taken : 512 * owned z s d ≤ found → has_unowned z s ≡ true → Shows (outcome_by false true) (look_by false)
    own_taken past pool = let one = sought_found z s d h ld d pool in whichever (to_take z s d) one.0 one.1 past

    -- and there is a place.
    by_tests : (a b : Bool) → ltb found (512 * owned z s d) ≡ a → has_unowned z s ≡ b → (get_or (answer_words (outcome_by a b).answer) 0 0 ≡ 13 → ⊥) → Shows (outcome_by a b) (look_by a)
    unfolding answer_words mapping
    by_tests true b e _ place = own_entry_lem (ltb-true found (512 * owned z s d) e)
    by_tests false true e k place = own_taken (ltb-false found (512 * owned z s d) e) k
    by_tests false false e k place = absurd (place refl)

    call_is : map_call z s d f ≡ outcome_by (ltb found (512 * owned z s d)) (has_unowned z s)
    unfolding map_call
    call_is =
        rw (eq-eqb (get z s (leaf f)) 0 unmapped) (ap (λ (p : OutcomeOf (Option LeafId)). mapping z p.answer p.words) (placing_is z s d f))

    look_is : map_view (view_of z s d) f ≡ look_by (ltb found (512 * owned z s d))
    unfolding map_view view_of
    look_is = rw (place-unmapped z s d f unmapped, place_entry_lem z s d) refl

    own_unmapped : (get_or (answer_words (map_call z s d f).answer) 0 0 ≡ 13 → ⊥) → Shows (map_call z s d f) (map_view (view_of z s d) f)
    own_unmapped place =
        subst₂ Shows (sym call_is) (sym look_is)
        (by_tests (ltb found (512 * owned z s d)) (has_unowned z s) refl refl (λ e. place (ap (λ (o : Outcome). get_or (answer_words o.answer) 0 0) call_is ∙ e)))

  -- The frame is mapped by the domain: 12.
  own_mapped : MappedBy z s d f → Shows (map_call z s d f) (map_view (view_of z s d) f)
  unfolding map_call map_view
  own_mapped m =
      let other = ne_eqb (get z s (leaf f)) 0 (λ e. omega (arith, m.some)) in
      let mapped = ne_eqb ((view_of z s d).place f) 0 (λ e. omega (arith, place_mapped z s d f lf m)) in
      rw (other, mapped) (seen_refused 3 12 (λ e. omega arith), refl)

-- An ordinary domain's own map of a frame in no hole that no other domain has mapped, where there is a place.
pub own_map : (z : Sizes) (s : List ℕ) (d f : ℕ) → Sound z s → d < z.domains → f < z.frames → outside s f ≡ true → Ordinary z s d → Mine z s d f → (get_or (answer_words (map_call z s d f).answer) 0 0 ≡ 13 → ⊥)
    → (seen 3 (answer_words (map_call z s d f).answer) ≡ (map_view (view_of z s d) f).sight) × (view_of z (map_call z s d f).words d ≡ (map_view (view_of z s d) f).view)
own_map z s d f h ld lf out o mine place =
    ⊎_elim (λ unmapped. own_unmapped z s d f h ld lf out o unmapped place) (own_mapped z s d f h ld lf out o) mine
