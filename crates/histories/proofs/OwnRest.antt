-- A domain's own path, fill, open and close on the words, seen through its view, are those of the view.
-- Assumes nothing.
use Prim.Native.Nat.{ℕ, suc, ◌+◌, ◌-◌, ◌*◌, ◌/◌, ◌%◌, ◌<◌}
use mathlib.Core.Path.{◌≡◌, refl, sym, ap, ap₂, subst, ◌∙◌}
use mathlib.Core.List.{List}
use mathlib.Core.Bool.{Bool, true, false, cond}
use native.Mathlib.Omega.{arith}
use borrow.Author.Tests.{ne_eqb}
use lib.Dec.{eqb, ltb}
use Rattle.layout.specs.declared.Sizes.{Sizes}
use Rattle.leaf_map.specs.LeafIds.{leaf_fits, treeling_of}
use Rattle.leaf_map.proofs.LeafIdLaws.{treeling_below}
use Rattle.geometry.specs.Entries.{tag_of, availability_of}
use Rattle.layout.specs.Outcomes.{outcome}
use Rattle.layout.specs.Places.{get, put, domain, treeling, leaf, live, first, head_treeling, head_block, pages_mapped, owner, rank}
use Rattle.sound.specs.Sentences.{head_in_order, is_mapped_by, of_rank}
use Rattle.sound.specs.Sound.{Sound}
use Rattle.layout.proofs.BoundedLaws.{count_no}
use Rattle.world.specs.World.{world, owned, entry_of}
use Rattle.world.proofs.FrameLaws.{either}
use Rattle.pages.specs.Answers.{refuse, page_at}
use Rattle.domains.specs.Opening.{open_call}
use Rattle.domains.specs.Closing.{close_call, closing}
use Rattle.pages.specs.Paths.{path_call}
use Rattle.domains.specs.Filling.{fill_call}
use Rattle.histories.proofs.View.{View, Look, look, view_of, rank_node, rank_slot, seen, seen_page, seen_number, path_view, fill_view, open_view, empty_view, close_view}
use Rattle.sound.proofs.MappedLaws.{mapped_by, unmapped_by, not_mapped_by}
use Rattle.histories.proofs.ViewLaws.{list_eq, view_eq, seen_page_lem, seen_refused, seen_finished, by_end, tag_past, free_past, place_mapped, place_none, place_past}
use Rattle.domains.proofs.ClosingLaws.{closed}
use Rattle.domains.proofs.OpenedSound.{opened_domain, opened_treeling, opened_entry, opened_leaf, opened_live}
use Rattle.histories.proofs.StepLaws.{owned_ordinary, tag_own}
use Rattle.histories.proofs.KeptLaws.{kept_owned, kept_free, kept_tag, kept_place}
use Rattle.histories.proofs.OwnUnmap.{Shows}

-- ---- Path
pub own_path : (z : Sizes) (s : List ℕ) (d f : ℕ) → f < z.frames → Shows z 5 d (path_call z s d f) (path_view (view_of z s d) f)
unfolding path_call path_view
own_path z s d f k = by_test (is_mapped_by z s d f) refl
  where
    v : View
    v = view_of z s d

    y : ℕ
    y = rank_slot z s (get z s (leaf f))

    -- The view's answer, by what stands at the place of the frame.
    answer : ℕ → Look
    answer x = cond (eqb x 0) (look (seen_number 14) v) (look (seen_page (x - 1) 0) v)

    by_test : (b : Bool) → is_mapped_by z s d f ≡ b → Shows z 5 d (cond b (outcome (page_at z s (get z s (leaf f)) 0) s) (refuse 14 s)) (answer (v.place f))
    by_test true is =
        let some : eqb (suc y) 0 ≡ false = ne_eqb (suc y) 0 (λ none. omega arith) in
        let less : suc y - 1 ≡ y = omega arith in
        subst (Shows z 5 d (outcome (page_at z s (get z s (leaf f)) 0) s))
        (sym
        (ap answer (place_mapped z s d f k (mapped_by z s d f is))
        ∙ ap (λ (c : Bool). cond c (look (seen_number 14) v) (look (seen_page (suc y - 1) 0) v)) some
        ∙ ap (λ (x : ℕ). look (seen_page x 0) v) less))
        (seen_page_lem z s 5 (get z s (leaf f)) 0 refl, refl)
    by_test false is =
        subst (Shows z 5 d (refuse 14 s)) (sym (ap answer (place_none z s d f is)))
        (seen_refused 5 14 (λ no. omega arith), refl)

-- ---- Fill
pub own_fill : (z : Sizes) (s : List ℕ) (d : ℕ) → Shows z 11 d (fill_call z s d) (fill_view (view_of z s d))
unfolding fill_call fill_view view_of seen
own_fill z s d = (refl, refl)

-- ---- Open
module _ (z : Sizes) (s : List ℕ) (h : Sound z s) (d : ℕ) (l : d < z.domains) where
  abbrev opened : List ℕ
  opened = put z s (live d) 1

  -- Every word after live is kept,
  after-live : (j : ℕ) → 0 < j → j < 6 → get z opened (domain d j) ≡ get z s (domain d j)
  after-live j some less = opened_domain z s d l d j less (λ _. some)

  same_first : get z opened (first d) ≡ get z s (first d)
  same_first = after-live 1 (omega arith) (omega arith)

  same_tree : (t j : ℕ) → t < z.treelings → j < 5 → get z opened (treeling t j) ≡ get z s (treeling t j)
  same_tree t j _ _ = opened_treeling z s d l t j

  same_word_lem : (j : ℕ) → get z opened (entry_of z s d j) ≡ get z s (entry_of z s d j)
  same_word_lem j = opened_entry z s d l (of_rank z s d (j / 512)) (j % 512)

  same_head : (world z opened d).nfl.head ≡ (world z s d).nfl.head
  same_head =
      let t = get z s (head_treeling d) in
      ap (λ (u : ℕ). cond (eqb u 0) 0 (64 * get z opened (rank (u - 1)) + get z opened (head_block d))) (after-live 3 (omega arith) (omega arith))
      ∙ ap₂ (λ (n b : ℕ). cond (eqb t 0) 0 (64 * n + b)) (opened_treeling z s d l (t - 1) 3) (after-live 4 (omega arith) (omega arith))

  -- so its view has another live word, and no other change.
  opened_view : view_of z opened d ≡ (open_view (view_of z s d)).view
  unfolding open_view view_of
  opened_view =
      view_eq (view_of z opened d) (open_view (view_of z s d)).view
      (opened_live z s d l h)
      (kept_owned z s opened d h l same_first same_tree)
      (list_eq same_head
      (λ j.
      kept_tag z s opened d h l same_first same_tree j (λ less. subst (λ (w : ℕ). tag_of w < 512 * z.treelings) (sym (same_word_lem j)) (tag_own z s h d l (owned_ordinary z s h d l (j / 512) (omega arith)) j less).below)
      ∙ ap (λ (w : ℕ). cond (ltb j (512 * owned z s d)) (rank_node z s (tag_of w)) 0) (same_word_lem j))
      (λ j.
      kept_free z s opened d h l same_first same_tree j
      ∙ ap (λ (w : ℕ). cond (ltb j (512 * owned z s d)) (availability_of w) 0) (same_word_lem j)))
      (after-live 5 (omega arith) (omega arith))
      (λ f. kept_place z s opened d h l same_first same_tree f (λ _. opened_leaf z s d l f))

pub own_open : (z : Sizes) (s : List ℕ) (d : ℕ) → Sound z s → d < z.domains → Shows z 1 d (open_call z s d) (open_view (view_of z s d))
unfolding open_call open_view
own_open z s d h l = (seen_finished 1 0 refl, opened_view z s h d l)

-- ---- Close
module _ (z : Sizes) (s : List ℕ) (h : Sound z s) (d : ℕ) (l : d < z.domains) where
  abbrev r : List ℕ
  r = closing z s d

  -- Nothing is left: no TreeLing,
  not_owner : (t : ℕ) → t < z.treelings → get z r (owner t) ≡ suc d → ⊥
  not_owner t below o =
      let c = closed z s h d l in
      either (get z s (owner t)) (suc d)
      (λ is. omega (arith, c.owned_zero t 0 below (omega arith) is))
      (λ apart. apart (sym (c.same_treeling t 0 below (omega arith) apart) ∙ o))

  none_owned : owned z r d ≡ 0
  unfolding owned
  none_owned =
      count_no z.treelings (λ t. eqb (get z r (owner t)) (suc d)) (λ t below. ne_eqb (get z r (owner t)) (suc d) (not_owner t below))

  -- and no page.
  none_mapped : (f : ℕ) → f < z.frames → is_mapped_by z r d f ≡ false
  none_mapped f k = by_test (is_mapped_by z s d f) refl
    where
      by_test : (b : Bool) → is_mapped_by z s d f ≡ b → is_mapped_by z r d f ≡ false
      by_test true is = unmapped_by z r d f ((closed z s h d l).leaf_zero f k is)
      by_test false is =
          not_mapped_by z r d f
          (not_owner (treeling_of (get z r (leaf f))) (treeling_below z.treelings (get z r (leaf f)) h.laid_out.laid.sizes.some_treelings (ap (leaf_fits z.treelings) ((closed z s h d l).same_leaf f k is) ∙ h.leaf_range f k)))

  none_placed : (f : ℕ) → (view_of z r d).place f ≡ 0
  none_placed f = by_end f z.frames (λ k. place_none z r d f (none_mapped f k)) (place_past z r d f)

  closed_view : view_of z r d ≡ empty_view
  unfolding empty_view view_of
  closed_view =
      let zeros = (closed z s h d l).own_zero in
      view_eq (view_of z r d) empty_view
      (zeros 0 (omega arith))
      none_owned
      (list_eq (ap (λ (t : ℕ). cond (eqb t 0) 0 (head_in_order z r d)) (zeros 3 (omega arith)))
      (λ j. tag_past z r d j (omega (arith, none_owned)))
      (λ j. free_past z r d j (omega (arith, none_owned))))
      (zeros 5 (omega arith))
      none_placed

pub own_close : (z : Sizes) (s : List ℕ) (d : ℕ) → Sound z s → d < z.domains → Shows z 2 d (close_call z s d) (close_view (view_of z s d))
unfolding close_call close_view view_of
own_close z s d h l = (seen_finished 2 (get z s (pages_mapped d)) refl, closed_view z s h d l)
