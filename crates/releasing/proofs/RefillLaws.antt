-- The NFL entries of a domain get other words, its head becomes another block and one of its pages is unmapped: what is left to show for a sound state, in rank order.
-- Assumes nothing.
use Prim.Native.Nat.{ℕ, suc, ◌+◌, ◌-◌, ◌*◌, ◌/◌, ◌%◌, ◌<◌, ◌≤◌}
use mathlib.Core.Path.{◌≡◌, refl, sym, ap, ap₂, subst, ◌∙◌}
use mathlib.Core.List.{List, [], ◌∷◌, ◌++◌}
use mathlib.Core.Bool.{Bool, true, false, cond, ◌&&◌}
use native.Mathlib.Nat.{lt_of_not-le}
use native.Mathlib.Omega.{arith}
use borrow.Author.Tests.{eqb-true, eqb-false, eq-eqb, ne_eqb, lt-ltb}
use lib.Dec.{eqb, ltb, eqb-suc-suc}
use lib.ListN.{length, get_or, take, drop}
use Rattle.layout.specs.declared.Sizes.{Sizes}
use Rattle.leaf_map.specs.LeafIds.{leaf_fits, slot_number, treeling_of}
use Rattle.geometry.specs.Entries.{tag_of, availability_of}
use Rattle.layout.specs.Places.{Place, Within, address, get, content, domain, treeling, entry, leaf, first, head_treeling, head_block, pages_mapped, owner, rank}
use Rattle.sound.proofs.MappedLaws.{MappedBy, mapped_id, mapped_slot}
use Rattle.leaf_map.proofs.LeafIdLaws.{Names, names, none_fits}
use Rattle.layout.proofs.PlaceLaws.{in_state, one_address}
use Rattle.layout.specs.Bounded.{count, sum}
use Rattle.sound.specs.Sentences.{is_ordinary, marks_free, is_mapped_by, block_in_order, head_in_order, times_free, times_named, true_number, of_rank}
use Rattle.sound.specs.Sound.{Sound, LeavesFit, HoleZero, Ordinary}
use Rattle.layout.proofs.BoundedLaws.{and_of, and_no, sum_cong, sum_add, sum_rows, sum_rows_where, count-sum, count_cong}
use Rattle.sound.proofs.HoleZeroLaws.{hole_kept}
use Rattle.sound.proofs.TestLaws.{one_more, ordinary_test, kind_kept}
use Rattle.world.specs.World.{world, owned, entry_of}
use Rattle.gathering.specs.Regathering.{head_at}
use Rattle.releasing.specs.Releasing.{unmapped}
use Rattle.world.proofs.MatchingLaws.{Matched, sum_matched}
use Rattle.world.proofs.WorldLaws.{OfRank, of_rank_lem, of_rank_back, rank_below_owned, first_none, entry_one, entry_back}
use Rattle.world.proofs.FrameLaws.{either, Framed, Bodied, framed_sound}
use Rattle.world.proofs.ChangeLaws.{count_zero, times_named_change, true_number_change}
use Rattle.taking.proofs.TakenSlots.{entry_through}
use Rattle.world.proofs.WriteLaws.{Write, write, written, Apart, written_length, read_apart, read_written}
use Rattle.releasing.proofs.NeverStuck.{mapped_some}

-- ---- Slots free in the entries of one domain, and in those of the others
-- A test as a number.
abbrev pub one : Bool → ℕ
one b = cond b 1 0

-- A number, here where b holds and there where not.
split : (b : Bool) (n : ℕ) → n ≡ cond b n 0 + cond b 0 n
split true n = omega arith
split false n = omega arith

-- A sum over the entries of matched TreeLings, in the order of their matches.
pub rows_matched : (n m : ℕ) (p : ℕ → Bool) (f g : ℕ → ℕ) → Matched n m p f g → (v : ℕ → ℕ)
    → sum (512 * n) (λ j. cond (p (j / 512)) (v j) 0) ≡ sum (512 * m) (λ j. v (512 * g (j / 512) + j % 512))
rows_matched n m p f g a v =
    sum_rows_where 512 n p v (omega arith)
    ∙ sum_matched n m p f g a (λ t. sum 512 (λ i. v (512 * t + i)))
    ∙ sum_cong m (λ q. sum 512 (λ i. v (512 * g q + i))) (λ q. sum 512 (λ i. v (512 * g ((512 * q + i) / 512) + (512 * q + i) % 512)))
    (λ q _. sum_cong 512 (λ i. v (512 * g q + i)) (λ i. v (512 * g ((512 * q + i) / 512) + (512 * q + i) % 512)) (in_row q))
    ∙ sym (sum_rows 512 m (λ j. v (512 * g (j / 512) + j % 512)))
  where
    in_row : (q i : ℕ) → i < 512 → v (512 * g q + i) ≡ v (512 * g ((512 * q + i) / 512) + (512 * q + i) % 512)
    in_row q i l =
        let row : q ≡ (512 * q + i) / 512 = omega arith in
        let rest : i ≡ (512 * q + i) % 512 = omega arith in
        ap₂ (λ (a b : ℕ). v (512 * g a + b)) row rest

module _ (z : Sizes) (s : List ℕ) (d : ℕ) where
  -- How often the domain's entries in words e mark slot y free. The TreeLings are those of words s.
  unfoldable pub own_free : List ℕ → ℕ → ℕ
  own_free e y = count (512 * owned z s d) (λ j. marks_free z s y (get z e (entry_of z s d j)))

  -- How often entry j through all TreeLings does, where it is an ordinary domain's,
  abbrev entry_free : List ℕ → ℕ → ℕ → ℕ
  entry_free e y j = one (is_ordinary z s (j / 512) && marks_free z s y (get z e (entry 0 j)))

  -- and the entries of all TreeLings but the domain's.
  unfoldable other_free : List ℕ → ℕ → ℕ
  other_free e y =
      sum (512 * z.treelings) (λ j. cond (eqb (get z s (owner (j / 512))) (suc d)) 0 (entry_free e y j))

  module _ (h : Sound z s) (l : d < z.domains) where
    -- Its entries in rank order lie in the state, each at an address of its own.
    pub entry_within : (j : ℕ) → j < 512 * owned z s d → Within z (entry_of z s d j)
    entry_within j less = ((of_rank_lem z s h d l (j / 512) (omega arith)).below, omega arith)

    pub entry_apart : (i j : ℕ) → i < 512 * owned z s d → j < 512 * owned z s d → address z (entry_of z s d i) ≡ address z (entry_of z s d j) → i ≡ j
    entry_apart i j hi hj is =
        entry_one z s h d l i j hi hj (one_address z (entry_of z s d i) (entry_of z s d j) (entry_within i hi) (entry_within j hj) is)

    -- Its TreeLings and their ranks.
    pub ranks : Matched z.treelings (owned z s d) (λ t. eqb (get z s (owner t)) (suc d)) (λ t. get z s (rank t)) (of_rank z s d)
    ranks =
        record {
          there_below = λ t below o. rank_below_owned z s h d l t below (eqb-true (get z s (owner t)) (suc d) o);
          there_back = λ t below o. of_rank_back z s h d l t below (eqb-true (get z s (owner t)) (suc d) o);
          back_below = λ r k. (of_rank_lem z s h d l r k).below;
          back_holds = λ r k. eq-eqb (get z s (owner (of_rank z s d r))) (suc d) (of_rank_lem z s h d l r k).owner_is;
          back_there = λ r k. (of_rank_lem z s h d l r k).rank_is;
        }

    -- Both together are all, where the domain is ordinary and each TreeLing is of the same kind.
    free_parts : Ordinary z s d → (e : List ℕ) → ((t : ℕ) → t < z.treelings → is_ordinary z e t ≡ is_ordinary z s t) → (y : ℕ) → times_free z e y ≡ own_free e y + other_free e y
    unfolding times_free own_free other_free
    free_parts o e kinds y =
        count_cong (512 * z.treelings) (λ j. is_ordinary z e (j / 512) && marks_free z s y (get z e (entry 0 j))) (λ j. is_ordinary z s (j / 512) && marks_free z s y (get z e (entry 0 j)))
        (λ j lj. ap (λ (k : Bool). k && marks_free z s y (get z e (entry 0 j))) (kinds (j / 512) (omega arith)))
        ∙ count-sum (512 * z.treelings) (λ j. is_ordinary z s (j / 512) && marks_free z s y (get z e (entry 0 j)))
        ∙ sum_cong (512 * z.treelings) (entry_free e y) (λ j. cond (own (j / 512)) (entry_free e y j) 0 + cond (own (j / 512)) 0 (entry_free e y j)) (λ j _. split (own (j / 512)) (entry_free e y j))
        ∙ sum_add (512 * z.treelings) (λ j. cond (own (j / 512)) (entry_free e y j) 0) (λ j. cond (own (j / 512)) 0 (entry_free e y j))
        ∙ ap (λ (k : ℕ). k + other_free e y) (rows_matched z.treelings (owned z s d) own (λ t. get z s (rank t)) (of_rank z s d) ranks (entry_free e y) ∙ by_rank)
      where
        own : ℕ → Bool
        own t = eqb (get z s (owner t)) (suc d)

        kind_of : (j : ℕ) → j < 512 * owned z s d → is_ordinary z s ((512 * of_rank z s d (j / 512) + j % 512) / 512) ≡ true
        kind_of j lj =
            let row : (512 * of_rank z s d (j / 512) + j % 512) / 512 ≡ of_rank z s d (j / 512) = omega arith in
            ap (is_ordinary z s) row ∙ ordinary_test z s (of_rank z s d (j / 512)) d (of_rank_lem z s h d l (j / 512) (omega arith)).owner_is o

        by_rank : sum (512 * owned z s d) (λ j. entry_free e y (512 * of_rank z s d (j / 512) + j % 512)) ≡ own_free e y
        by_rank =
            sum_cong (512 * owned z s d) (λ j. entry_free e y (512 * of_rank z s d (j / 512) + j % 512)) (λ j. one (marks_free z s y (get z e (entry_of z s d j))))
            (λ j lj. ap₂ (λ (k : Bool) (w : ℕ). one (k && marks_free z s y w)) (kind_of j lj) (sym (entry_through z e (of_rank z s d (j / 512)) (j % 512) (512 * of_rank z s d (j / 512) + j % 512) refl)))
            ∙ sym (count-sum (512 * owned z s d) (λ j. marks_free z s y (get z e (entry_of z s d j))))

-- So a slot is free in the domain's entries at most as often as in all.
pub own_most : (z : Sizes) (s : List ℕ) (d : ℕ) → Sound z s → d < z.domains → Ordinary z s d → (y : ℕ) → own_free z s d s y ≤ times_free z s y
own_most z s d h l o y = omega (arith, free_parts z s d h l o s (λ _ _. refl) y)

-- The slot of a mapped page is named, so it is free in no entry.
module _ (z : Sizes) (s : List ℕ) (h : Sound z s) (d : ℕ) (l : d < z.domains) (o : Ordinary z s d) (f : ℕ) (k : f < z.frames) (m : MappedBy z s d f) where
  named : Names (get z s (leaf f))
  named = names (get z s (leaf f)) (mapped_id z s d f h k m o)

  -- At least one leaf map word names it,
  slot_named : 0 < times_named z s (slot_number (get z s (leaf f)))
  unfolding times_named
  slot_named =
      let x = slot_number (get z s (leaf f)) in
      lt_of_not-le λ none.
      eqb-false (get z s (leaf f)) (suc x)
      (count_zero z.frames (λ g. eqb (get z s (leaf g)) (suc x)) (omega arith) f k)
      named.number_is

  -- so no entry marks it free,
  pub slot_not_free : times_free z s (slot_number (get z s (leaf f))) ≡ 0
  slot_not_free =
      let x = slot_number (get z s (leaf f)) in
      let own = ap (λ (t : ℕ). get z s (owner t)) (sym named.treeling_is) ∙ m.own in
      omega (arith, h.slot_once x (mapped_slot z s d f h k m o), ap one (ordinary_test z s (x / 4096) d own o), slot_named)

  -- and none of the domain's in rank order.
  pub not_marked : (j : ℕ) → j < 512 * owned z s d → marks_free z s (slot_number (get z s (leaf f))) (get z s (entry_of z s d j)) ≡ false
  unfolding own_free
  not_marked =
      let x = slot_number (get z s (leaf f)) in
      count_zero (512 * owned z s d) (λ j. marks_free z s x (get z s (entry_of z s d j))) (omega (arith, own_most z s d h l o x, slot_not_free))

-- Words e after words s: entries of domain d alone have other words.
pub record Rewritten (z : Sizes) (s : List ℕ) (d : ℕ) (e : List ℕ) : Type 0 where
  pub long : length e ≡ length s
  pub same : (a : ℕ) → ((j : ℕ) → j < 512 * owned z s d → a ≡ address z (entry_of z s d j) → ⊥) → get_or e a 0 ≡ get_or s a 0

-- With them block q can be its head, and slot x is free besides.
pub record Refilled (z : Sizes) (s : List ℕ) (d : ℕ) (e : List ℕ) (q x : ℕ) : Type 0 where
  pub tag_range : (j : ℕ) → j < 512 * owned z s d → tag_of (get z e (entry_of z s d j)) < 512 * z.treelings
  pub tag_own : (j : ℕ) → j < 512 * owned z s d → get z s (owner (tag_of (get z e (entry_of z s d j)) / 512)) ≡ suc d
  pub below : q < 64 * owned z s d
  pub before : (j : ℕ) → j < 8 * q → availability_of (get z e (entry_of z s d j)) ≡ 0
  pub after : (j : ℕ) → 8 * q + 8 ≤ j → j < 512 * owned z s d → 0 < availability_of (get z e (entry_of z s d j))
  pub slots : (y : ℕ) → y < 4096 * z.treelings → own_free z s d e y ≡ own_free z s d s y + one (eqb x y)

-- ---- The page of frame f is unmapped in them, and block q in rank order is the head
module _ (z : Sizes) (s : List ℕ) (h : Sound z s) (d : ℕ) (l : d < z.domains) (f : ℕ) (k : f < z.frames) (e : List ℕ) (re : Rewritten z s d e) (q : ℕ) where
  abbrev r : List ℕ
  r = unmapped z s d f (head_at z s d q e)

  abbrev writes : List Write
  writes =
      write (address z (pages_mapped d)) (get z s (pages_mapped d) - 1)
      ∷ write (address z (leaf f)) 0
      ∷ write (address z (head_block d)) (q % 64)
      ∷ write (address z (head_treeling d)) (suc (of_rank z s d (q / 64)))
      ∷ []

  -- At these four addresses the words left are as written, elsewhere as in e.
  at : (p : Place) (v : ℕ) (later ws : List Write) → Within z p → writes ≡ later ++ write (address z p) v ∷ ws → Apart (address z p) later → get z r p ≡ v
  at p v later ws w is apart =
      ap (λ (x : List Write). get z (written e x) p) is
      ∙ read_written e later (write (address z p) v) ws apart (rw (re.long, h.laid_out.laid.long) (in_state z p w))

  head_at_lem : get z r (head_treeling d) ≡ suc (of_rank z s d (q / 64))
  head_at_lem = at (head_treeling d) _ (take 3 writes) [] (l, omega arith) refl (omega arith, (omega arith, (omega arith, tt)))

  block_at : get z r (head_block d) ≡ q % 64
  block_at = at (head_block d) _ (take 2 writes) (drop 3 writes) (l, omega arith) refl (omega arith, (omega arith, tt))

  pub leaf_at_lem : get z r (leaf f) ≡ 0
  leaf_at_lem = at (leaf f) _ (take 1 writes) (drop 2 writes) k refl (omega arith, tt)

  pub pages_at : get z r (pages_mapped d) ≡ get z s (pages_mapped d) - 1
  pages_at = at (pages_mapped d) _ [] (drop 1 writes) (l, omega arith) refl tt

  entry_refilled : (t c : ℕ) → t < z.treelings → c < 512 → get z r (entry t c) ≡ get z e (entry t c)
  entry_refilled t c lt lc =
      read_apart e writes (address z (entry t c)) (omega arith, (omega arith, (omega arith, (omega arith, tt))))

  pub entry_left : (j : ℕ) → j < 512 * owned z s d → get z r (entry_of z s d j) ≡ get z e (entry_of z s d j)
  entry_left j less =
      entry_refilled (of_rank z s d (j / 512)) (j % 512) (of_rank_lem z s h d l (j / 512) (omega arith)).below (omega arith)

  -- What is no entry of a TreeLing of the domain's own is as in s.
  kept : (p : Place) → Apart (address z p) writes → ((t c : ℕ) → t < z.treelings → c < 512 → get z s (owner t) ≡ suc d → address z p ≡ address z (entry t c) → ⊥) → get z r p ≡ get z s p
  kept p apart other =
      read_apart e writes (address z p) apart
      ∙ re.same (address z p) (λ j less is.
      let t = of_rank_lem z s h d l (j / 512) (omega arith) in
      other (of_rank z s d (j / 512)) (j % 512) t.below (omega arith) t.owner_is is)

  pub tree_left : (t c : ℕ) → t < z.treelings → c < 5 → get z r (treeling t c) ≡ get z s (treeling t c)
  tree_left t c lt lc =
      kept (treeling t c) (omega arith, (omega arith, (omega arith, (omega arith, tt)))) (λ _ _ _ _ _ is. omega arith)

  pub leaf_left : (g : ℕ) → g < z.frames → (g ≡ f → ⊥) → get z r (leaf g) ≡ get z s (leaf g)
  leaf_left g lg apart =
      kept (leaf g) (omega arith, ((λ is. apart (omega arith)), (omega arith, (omega arith, tt)))) (λ t c lt lc _ is. omega arith)

  domain_left : (g j : ℕ) → g < z.domains → j < 6 → (g ≡ d → j < 3) → get z r (domain g j) ≡ get z s (domain g j)
  domain_left g j lg lj only =
      let no : (x : ℕ) → 3 ≤ x → x < 6 → address z (domain g j) ≡ address z (domain d x) → ⊥ =
      λ x low high is. omega (arith, only (omega arith)) in
      kept (domain g j) (no 5 (omega arith) (omega arith), (omega arith, (no 4 (omega arith) (omega arith), (no 3 (omega arith) (omega arith), tt)))) (λ _ _ _ _ _ is. omega arith)

  pub record_left : (j : ℕ) → j < 3 → get z r (domain d j) ≡ get z s (domain d j)
  record_left j lj = domain_left d j l (omega arith) (λ _. lj)

  pub content_left : (i : ℕ) → i < 25 → get z r (content i) ≡ get z s (content i)
  content_left i li =
      kept (content i) (omega arith, (omega arith, (omega arith, (omega arith, tt)))) (λ _ _ _ _ _ is. omega arith)

  framed : Framed z s r d
  framed =
      record {
        long = written_length e writes ∙ re.long;
        same_content = content_left;
        same_domain = domain_left;
        same_treeling = tree_left;
        same_entry = λ t c lt lc other.
            kept (entry t c) (omega arith, (omega arith, (omega arith, (omega arith, tt))))
            (λ u v lu lv own is. let same : t ≡ u = omega arith in other (ap (λ (w : ℕ). get z s (owner w)) same ∙ own));
      }

  -- The head is block q.
  head_order : q < 64 * owned z s d → head_in_order z r d ≡ q
  head_order below =
      let u = of_rank z s d (q / 64) in
      let a = of_rank_lem z s h d l (q / 64) (omega arith) in
      let named : get z r (head_treeling d) - 1 ≡ u = omega (arith, head_at_lem) in
      omega (arith, ap (λ (t : ℕ). get z r (rank t)) named, tree_left u 3 a.below (omega arith), a.rank_is, block_at)

  pub head_left : q < 64 * owned z s d → (world z r d).nfl.head ≡ q
  head_left below =
      ap (λ (c : Bool). cond c 0 (head_in_order z r d)) (ne_eqb (get z r (head_treeling d)) 0 (λ is. omega (arith, head_at_lem)))
      ∙ head_order below

  -- ---- Its slot is the one that is free besides
  module _ (o : Ordinary z s d) (m : MappedBy z s d f) (b : Refilled z s d e q (slot_number (get z s (leaf f)))) where
    -- The domain's entries, in rank order.
    head_of : OfRank z s d (q / 64) (of_rank z s d (q / 64))
    head_of = of_rank_lem z s h d l (q / 64) (omega (arith, b.below))

    module _ (t c : ℕ) (lt : t < z.treelings) (lc : c < 512) (own : get z r (owner t) ≡ suc d) where
      own_before : get z s (owner t) ≡ suc d
      own_before = sym (tree_left t 0 lt (omega arith)) ∙ own

      -- Entry c of TreeLing t is this one in rank order.
      abbrev place : ℕ
      place = 512 * get z s (rank t) + c

      place_below : place < 512 * owned z s d
      place_below = omega (arith, rank_below_owned z s h d l t lt own_before)

      placed : get z r (entry t c) ≡ get z e (entry_of z s d place)
      placed = entry_refilled t c lt lc ∙ ap (get z e) (sym (entry_back z s h d l t c lt own_before lc))

      block_order : block_in_order z r t (c / 8) ≡ place / 8
      block_order = omega (arith, tree_left t 3 lt (omega arith))

      tag_owner : get z r (owner (tag_of (get z r (entry t c)) / 512)) ≡ suc d
      tag_owner =
          let g = tag_of (get z e (entry_of z s d place)) / 512 in
          ap (λ (w : ℕ). get z r (owner (tag_of w / 512))) placed
          ∙ tree_left g 0 (omega (arith, b.tag_range place place_below)) (omega arith)
          ∙ b.tag_own place place_below

      before_it : block_in_order z r t (c / 8) < head_in_order z r d → availability_of (get z r (entry t c)) ≡ 0
      before_it less = ap availability_of placed ∙ b.before place (omega (arith, block_order, head_order b.below))

      after_it : head_in_order z r d < block_in_order z r t (c / 8) → 0 < availability_of (get z r (entry t c))
      after_it less =
          subst (λ (w : ℕ). 0 < availability_of w) (sym placed) (b.after place (omega (arith, block_order, head_order b.below)) place_below)

    -- Slots and pages.
    abbrev x : ℕ
    x = slot_number (get z s (leaf f))

    -- The domain's entries are those of e, the others' those of s.
    own_free_lem : (y : ℕ) → own_free z s d r y ≡ own_free z s d e y
    unfolding own_free
    own_free_lem y =
        count_cong (512 * owned z s d) (λ j. marks_free z s y (get z r (entry_of z s d j))) (λ j. marks_free z s y (get z e (entry_of z s d j))) λ j less.
        ap (marks_free z s y) (entry_left j less)

    other_free_lem : (y : ℕ) → other_free z s d r y ≡ other_free z s d s y
    unfolding other_free
    other_free_lem y =
        sum_cong (512 * z.treelings) (λ j. cond (own (j / 512)) 0 (entry_free z s d r y j)) (λ j. cond (own (j / 512)) 0 (entry_free z s d s y j)) (λ j lj. by_test j lj (own (j / 512)) refl)
      where
        own : ℕ → Bool
        own t = eqb (get z s (owner t)) (suc d)

        by_test : (j : ℕ) → j < 512 * z.treelings → (c : Bool) → own (j / 512) ≡ c → cond c 0 (entry_free z s d r y j) ≡ cond c 0 (entry_free z s d s y j)
        by_test j lj true is = refl
        by_test j lj false is =
            ap (λ (w : ℕ). one (is_ordinary z s (j / 512) && marks_free z s y w))
            (sym (entry_through z r (j / 512) (j % 512) j (omega arith))
            ∙ framed.same_entry (j / 512) (j % 512) (omega arith) (omega arith) (eqb-false (get z s (owner (j / 512))) (suc d) is)
            ∙ entry_through z s (j / 512) (j % 512) j (omega arith))

    -- Each TreeLing is of the same kind.
    kinds : (t : ℕ) → t < z.treelings → is_ordinary z r t ≡ is_ordinary z s t
    kinds t lt =
        kind_kept z s r t (tree_left t 0 lt (omega arith)) (domain_left (get z s (owner t) - 1) 0 (omega (arith, h.owner_range t lt)) (omega arith) (λ _. omega arith))

    -- Slot x is free once more, the others as often as before.
    times_free_lem : (y : ℕ) → y < 4096 * z.treelings → times_free z r y ≡ times_free z s y + one (eqb x y)
    times_free_lem y ly =
        omega (arith, free_parts z s d h l o r kinds y, free_parts z s d h l o s (λ _ _. refl) y, own_free_lem y, other_free_lem y, b.slots y ly)

    -- And named once less.
    times_named_lem : (y : ℕ) → times_named z r y + one (eqb x y) ≡ times_named z s y
    times_named_lem y =
        let same : eqb (get z s (leaf f)) (suc y) ≡ eqb x y = ap (λ (w : ℕ). eqb w (suc y)) (named z s h d l o f k m).number_is ∙ eqb-suc-suc x y in
        let none : eqb (get z r (leaf f)) (suc y) ≡ false = ne_eqb (get z r (leaf f)) (suc y) (λ is. omega (arith, leaf_at_lem)) in
        omega (arith, times_named_change z s r f k leaf_left y, ap one same, ap one none)

    -- So each slot is free or named as often as it should be,
    once : (y : ℕ) → y < 4096 * z.treelings → times_free z r y + times_named z r y ≡ cond (is_ordinary z r (y / 4096)) 1 0
    once y ly =
        let same = ap one (kinds (y / 4096) (omega arith)) in
        omega (arith, times_free_lem y ly, times_named_lem y, h.slot_once y ly)

    -- the pages are the true number,
    pages : (g : ℕ) → g < z.domains → get z r (pages_mapped g) ≡ true_number z r g
    pages g lg =
        let none : is_mapped_by z r g f ≡ false =
        ap (λ (w : ℕ). ltb 0 w && eqb (get z r (owner (treeling_of w))) (suc g)) leaf_at_lem in
        let change = true_number_change z s r f k leaf_left h.laid_out.laid.sizes.some_treelings (λ t lt. tree_left t 0 lt (omega arith)) h.leaf_range g in
        let some : ltb 0 (get z s (leaf f)) ≡ true = lt-ltb 0 (get z s (leaf f)) m.some in
        either g d
        (λ is.
        let mapped : is_mapped_by z s g f ≡ true = and_of some (eq-eqb _ (suc g) (m.own ∙ ap suc (sym is))) in
        omega (arith, ap one none, ap one mapped, ap (λ (c : ℕ). get z r (pages_mapped c)) is, ap (λ (c : ℕ). get z s (pages_mapped c)) is, pages_at, h.pages_true_lem g lg))
        (λ apart.
        let mapped : is_mapped_by z s g f ≡ false = and_no (ltb 0 (get z s (leaf f))) _ (ne_eqb (get z s (owner (treeling_of (get z s (leaf f))))) (suc g) (λ is. apart (omega (arith, m.own)))) in
        omega (arith, ap one none, ap one mapped, domain_left g 5 lg (omega arith) (λ is. absurd (apart is)), h.pages_true_lem g lg))

    -- and the leaf map words are in range.
    leaves : LeavesFit z r
    leaves g lg =
        either g f
        (λ is. ap (leaf_fits z.treelings) (ap (λ (c : ℕ). get z r (leaf c)) is ∙ leaf_at_lem) ∙ none_fits z.treelings)
        (λ apart. ap (leaf_fits z.treelings) (leaf_left g lg apart) ∙ h.leaf_range g lg)

    -- Holes stay unmapped.
    holes : HoleZero z r
    holes =
        hole_kept z s r h.laid_out.holes_fit_lem (λ j low high. content_left j high)
        (λ g lg _ none. either g f (λ is. ap (λ (c : ℕ). get z r (leaf c)) is ∙ leaf_at_lem) (λ apart. leaf_left g lg apart ∙ none))
        h.hole_zero

    bodied : Bodied z r d
    bodied =
        record {
          head = of_rank z s d (q / 64);
          head_is = head_at_lem;
          head_below = head_of.below;
          head_own = tree_left (of_rank z s d (q / 64)) 0 head_of.below (omega arith) ∙ head_of.owner_is;
          block_range = omega (arith, block_at);
          tag_range = λ t c lt lc own. subst (λ (w : ℕ). tag_of w < 512 * z.treelings) (sym (placed t c lt lc own)) (b.tag_range (place t c lt lc own) (place_below t c lt lc own));
          tag_own = tag_owner;
          before_head_lem = before_it;
          after_head_lem = after_it;
          leaf_range = leaves;
          slot_once = once;
          hole_zero = holes;
          pages_true_lem = pages;
        }

    -- The state left is sound.
    pub refilled_sound : Sound z r
    refilled_sound =
        let some = one_more (get z s (first d)) (lt_of_not-le λ none. omega (arith, first_none z s h d l (omega arith), mapped_some z s h d l f k m)) in
        framed_sound z s r d some.0 h l some.1 framed bodied
