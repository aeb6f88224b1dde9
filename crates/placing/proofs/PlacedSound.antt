-- Placing keeps a state sound: an entry gives its lowest free position to a frame, and its block becomes the head.
-- Assumes nothing.
use Prim.Native.Nat.{ℕ, suc, ◌+◌, ◌-◌, ◌*◌, ◌/◌, ◌%◌, ◌^◌, ◌<◌, ◌≤◌}
use mathlib.Core.Path.{◌≡◌, refl, sym, ap, ap₂, subst, ◌∙◌}
use mathlib.Core.List.{List, [], ◌∷◌, ◌++◌}
use mathlib.Core.Bool.{Bool, true, false, cond, ◌&&◌, false≢true}
use native.Mathlib.Omega.{arith}
use borrow.Author.Tests.{eq-eqb, ne_eqb, lt-ltb, ltb-true, ltb-false, leb-true, leb-false}
use lib.Dec.{eqb, ltb, leb, eqb-zero-suc, eqb-suc-suc}
use lib.ListN.{length, take, drop}
use Rattle.layout.specs.declared.Sizes.{Sizes}
use Rattle.geometry.specs.Tables.{bit}
use Rattle.leaf_map.specs.LeafIds.{LeafFits, leaf_fits, treeling_of}
use Rattle.geometry.specs.Entries.{tag_of, availability_of}
use Rattle.layout.specs.Places.{Place, Within, Laid, get, address, content, domain, treeling, entry, leaf, head_treeling, head_block, pages_mapped, owner, rank}
use Rattle.board.specs.Holes.{outside}
use Rattle.leaf_map.proofs.LeafIdLaws.{at_fits, at_number, at_treeling}
use Rattle.geometry.proofs.FirstLaws.{first_from_lem, first_holds, first-before}
use Rattle.layout.proofs.PlaceLaws.{in_state, one_address}
use Rattle.sound.specs.Sentences.{marks_free, times_free, times_named, true_number, is_mapped_by, block_in_order, head_in_order, is_ordinary, of_rank}
use Rattle.sound.proofs.TestLaws.{ordinary_test, kind_kept}
use Rattle.sound.specs.Sound.{Sound, LeavesFit, HoleZero, Ordinary}
use Rattle.sound.proofs.ChainLaws.{has_first, sound_followed}
use Rattle.sound.proofs.HoleZeroLaws.{hole_kept}
use Rattle.world.specs.World.{world, owned}
use Rattle.placing.specs.Placing.{place_entry, position_given, leaf_given, after_giving}
use Rattle.world.proofs.ChangeLaws.{times_free_change, times_named_change, true_number_change}
use Rattle.world.proofs.ClearLaws.{lowest_below, lowest_bit, clear_tag, clear_marks}
use Rattle.world.proofs.FrameLaws.{either, Framed, Bodied, framed_sound}
use Rattle.world.proofs.WorldLaws.{OfRank, of_rank_lem, head_some, entry_back}
use Rattle.world.proofs.WriteLaws.{Write, write, written, Apart, written_length, read_apart, read_written}

-- ---- The words
-- Words r after words s: entry k of TreeLing t gave its lowest free position to frame f of domain d.
pub record Given (z : Sizes) (s r : List ℕ) (d f t k : ℕ) : Type 0 where
  pub long : length r ≡ length s
  -- The words that change,
  pub entry_is : get z r (entry t k) ≡ get z s (entry t k) - 2 ^ position_given z s t k
  pub head_is : get z r (head_treeling d) ≡ suc t
  pub block_is : get z r (head_block d) ≡ k / 8
  pub leaf_is : get z r (leaf f) ≡ leaf_given z s t k
  pub pages_are : get z r (pages_mapped d) ≡ suc (get z s (pages_mapped d))
  -- and those that stay.
  pub same_content : (i : ℕ) → i < 25 → get z r (content i) ≡ get z s (content i)
  pub same_domain : (e j : ℕ) → e < z.domains → j < 6 → (e ≡ d → j < 3) → get z r (domain e j) ≡ get z s (domain e j)
  pub same_treeling : (u j : ℕ) → u < z.treelings → j < 5 → get z r (treeling u j) ≡ get z s (treeling u j)
  pub same_entry : (u i : ℕ) → u < z.treelings → i < 512 → (entry u i ≡ entry t k → ⊥) → get z r (entry u i) ≡ get z s (entry u i)
  pub same_leaf : (g : ℕ) → g < z.frames → (g ≡ f → ⊥) → get z r (leaf g) ≡ get z s (leaf g)

module _ (z : Sizes) (s : List ℕ) (d f t k : ℕ) (laid : Laid z s) (ld : d < z.domains) (lf : f < z.frames) (lt : t < z.treelings) (lk : k < 512) where
  -- Its writes, the last one first.
  abbrev writes : List Write
  writes =
      write (address z (pages_mapped d)) (suc (get z s (pages_mapped d)))
      ∷ write (address z (leaf f)) (leaf_given z s t k)
      ∷ write (address z (head_block d)) (k / 8)
      ∷ write (address z (head_treeling d)) (suc t)
      ∷ write (address z (entry t k)) (get z s (entry t k) - 2 ^ position_given z s t k)
      ∷ []

  -- It is them.
  as_written : after_giving z s d f t k ≡ written s writes
  unfolding after_giving
  as_written = refl

  -- What is read apart from them, and at one of them.
  apart : (q : Place) → Apart (address z q) writes → get z (after_giving z s d f t k) q ≡ get z s q
  apart q a = ap (λ (w : List ℕ). get z w q) as_written ∙ read_apart s writes (address z q) a

  at : (q : Place) (v : ℕ) (later ws : List Write) → Within z q → writes ≡ later ++ write (address z q) v ∷ ws → Apart (address z q) later → get z (after_giving z s d f t k) q ≡ v
  at q v later ws w is a =
      ap (λ (x : List ℕ). get z x q) (as_written ∙ ap (written s) is)
      ∙ read_written s later (write (address z q) v) ws a (rw laid.long (in_state z q w))

  -- So every word is known.
  pub placed_given : Given z s (after_giving z s d f t k) d f t k
  placed_given =
      record {
        long = ap length as_written ∙ written_length s writes;
        entry_is = at (entry t k) _ (take 4 writes) [] (lt, lk) refl (omega arith, (omega arith, (omega arith, (omega arith, tt))));
        head_is = at (head_treeling d) _ (take 3 writes) (drop 4 writes) (ld, omega arith) refl (omega arith, (omega arith, (omega arith, tt)));
        block_is = at (head_block d) _ (take 2 writes) (drop 3 writes) (ld, omega arith) refl (omega arith, (omega arith, tt));
        leaf_is = at (leaf f) _ (take 1 writes) (drop 2 writes) lf refl (omega arith, tt);
        pages_are = at (pages_mapped d) _ [] (drop 1 writes) (ld, omega arith) refl tt;
        same_content = λ i l. apart (content i) (omega arith, (omega arith, (omega arith, (omega arith, (omega arith, tt)))));
        same_domain = λ e j l m own.
            let no : (x : ℕ) → 3 ≤ x → x < 6 → address z (domain e j) ≡ address z (domain d x) → ⊥ =
            λ x low high is. let own_word = own (omega arith) in omega arith in
            apart (domain e j) (no 5 (omega arith) (omega arith), (omega arith, (no 4 (omega arith) (omega arith), (no 3 (omega arith) (omega arith), (omega arith, tt)))));
        same_treeling = λ u j l m. apart (treeling u j) (omega arith, (omega arith, (omega arith, (omega arith, (omega arith, tt)))));
        same_entry = λ u i l m other. apart (entry u i) (omega arith, (omega arith, (omega arith, (omega arith, ((λ e. other (one_address z (entry u i) (entry t k) (l, m) (lt, lk) e)), tt)))));
        same_leaf = λ g l other. apart (leaf g) (omega arith, (λ e. other (omega arith), (omega arith, (omega arith, (omega arith, tt)))));
      }

-- ---- What is kept
module _ (z : Sizes) (s r : List ℕ) (d f t k : ℕ) (g : Given z s r d f t k) (lf : f < z.frames) (lt : t < z.treelings) (lk : k < 512) (free : 0 < availability_of (get z s (entry t k))) where
  -- The position given lies in the entry, and it was free.
  low : position_given z s t k < 8
  low = lowest_below (availability_of (get z s (entry t k))) free (omega arith)

  was_free : bit (position_given z s t k) (availability_of (get z s (entry t k))) ≡ 1
  was_free = lowest_bit (availability_of (get z s (entry t k))) free (omega arith)

  -- No tag changes.
  pub placed_tag : (u i : ℕ) → u < z.treelings → i < 512 → tag_of (get z r (entry u i)) ≡ tag_of (get z s (entry u i))
  placed_tag u i l m =
      either u t
      (λ is. either i k
      (λ same.
      let there = ap₂ entry is same in
      ap (λ (q : Place). tag_of (get z r q)) there
      ∙ ap tag_of g.entry_is
      ∙ clear_tag (get z s (entry t k)) (position_given z s t k) low was_free
      ∙ ap (λ (q : Place). tag_of (get z s q)) (sym there))
      (λ other. ap tag_of (g.same_entry u i l m (λ e. other (cc)))))
      (λ other. ap tag_of (g.same_entry u i l m (λ e. other (cc))))

  -- A slot is free or named as often as before: the one given is named now and was free.
  pub placed_slots : ((u : ℕ) → u < z.treelings → is_ordinary z r u ≡ is_ordinary z s u) → is_ordinary z s t ≡ true → get z s (leaf f) ≡ 0 → (y : ℕ) → times_free z r y + times_named z r y ≡ times_free z s y + times_named z s y
  placed_slots kinds is_ordinary_lem unmapped y =
      omega (
        arith,
        times_free_change z s r t k lt lk kinds is_ordinary_lem g.same_entry y,
        times_named_change z s r f lf g.same_leaf y,
        clear_marks (get z s (entry t k)) (position_given z s t k) low was_free z s y,
        ap (λ (w : ℕ). cond {A = ℕ} (marks_free z s y w) 1 0) g.entry_is,
        ap (λ (x : ℕ). cond {A = ℕ} (eqb x (suc y)) 1 0) g.leaf_is,
        ap (λ (x : ℕ). cond {A = ℕ} (eqb x (suc y)) 1 0) unmapped ∙ ap (λ (b : Bool). cond {A = ℕ} b 1 0) (eqb-zero-suc y),
      )

  -- The leaf ID given is in range where the tag is.
  pub placed_range : tag_of (get z s (entry t k)) < 512 * z.treelings → LeafFits z.treelings (get z r (leaf f))
  placed_range tag = ap (leaf_fits z.treelings) g.leaf_is ∙ at_fits z.treelings (tag_of (get z s (entry t k))) (position_given z s t k) tag low

  -- Where the entry's tag is of domain d, frame f is mapped by d and by no other, so d has one page more.
  module _ (laid : Laid z s) (tag : tag_of (get z s (entry t k)) < 512 * z.treelings) (own : get z s (owner (tag_of (get z s (entry t k)) / 512)) ≡ suc d) where
    mapped : (e : ℕ) → is_mapped_by z r e f ≡ eqb d e
    mapped e =
        let x = leaf_given z s t k in
        let node : treeling_of x ≡ tag_of (get z s (entry t k)) / 512 = at_treeling (tag_of (get z s (entry t k))) (position_given z s t k) (omega (arith, tag, laid.sizes.max_treelings)) low in
        let its : get z r (owner (treeling_of x)) ≡ suc d =
        g.same_treeling (treeling_of x) 0 (omega (arith, node, tag)) (omega arith) ∙ ap (λ (u : ℕ). get z s (owner u)) node ∙ own in
        ap (λ (v : ℕ). ltb 0 v && eqb (get z r (owner (treeling_of v))) (suc e)) g.leaf_is
        ∙ ap₂ (λ (b : Bool) (o : ℕ). b && eqb o (suc e)) (lt-ltb 0 x (omega (arith, at_number (tag_of (get z s (entry t k))) (position_given z s t k)))) its
        ∙ eqb-suc-suc d e

    pub placed_pages : get z s (leaf f) ≡ 0 → LeavesFit z s → (e : ℕ) → true_number z r e ≡ true_number z s e + cond (eqb d e) 1 0
    placed_pages unmapped range e =
        omega (
          arith,
          true_number_change z s r f lf g.same_leaf laid.sizes.some_treelings (λ u l. g.same_treeling u 0 l (omega arith)) range e,
          ap (λ (b : Bool). cond {A = ℕ} b 1 0) (mapped e),
          ap (λ (x : ℕ). cond {A = ℕ} (ltb 0 x && eqb (get z s (owner (treeling_of x))) (suc e)) 1 0) unmapped,
        )

  -- The write is within domain d where the TreeLing is its own.
  pub placed_framed : get z s (owner t) ≡ suc d → Framed z s r d
  placed_framed own =
      record {
        long = g.long;
        same_content = g.same_content;
        same_domain = g.same_domain;
        same_treeling = g.same_treeling;
        same_entry = λ u i l m other. g.same_entry u i l m (λ e.
            let is : u ≡ t = cc in
            other (ap (λ (v : ℕ). get z s (owner v)) is ∙ own));
      }

  -- Its block is the head.
  placed_head : head_in_order z r d ≡ block_in_order z s t (k / 8)
  placed_head =
      let its : get z r (head_treeling d) - 1 ≡ t = omega (arith, g.head_is) in
      omega (arith, ap (λ (u : ℕ). get z r (rank u)) its, g.same_treeling t 3 lt (omega arith), g.block_is)

  -- An entry of another block stays.
  other_block : (u i : ℕ) → u < z.treelings → i < 512 → (block_in_order z s u (i / 8) ≡ block_in_order z s t (k / 8) → ⊥) → get z r (entry u i) ≡ get z s (entry u i)
  other_block u i l m apart =
      g.same_entry u i l m (λ e.
      let is : u ≡ t = cc in
      let same : i ≡ k = cc in
      apart (ap₂ (λ (v j : ℕ). block_in_order z s v (j / 8)) is same))

-- ---- Soundness
-- Entry k of TreeLing t of domain d has a free position; in rank order, entries of blocks before its block have none and entries of blocks after it have one.
pub record Next (z : Sizes) (s : List ℕ) (d t k : ℕ) : Type 0 where
  pub below : t < z.treelings
  pub small : k < 512
  pub own : get z s (owner t) ≡ suc d
  pub free : 0 < availability_of (get z s (entry t k))
  pub before : (u i : ℕ) → u < z.treelings → i < 512 → get z s (owner u) ≡ suc d → block_in_order z s u (i / 8) < block_in_order z s t (k / 8) → availability_of (get z s (entry u i)) ≡ 0
  pub after : (u i : ℕ) → u < z.treelings → i < 512 → get z s (owner u) ≡ suc d → block_in_order z s t (k / 8) < block_in_order z s u (i / 8) → 0 < availability_of (get z s (entry u i))

module _ (z : Sizes) (s r : List ℕ) (d f t k : ℕ) (h : Sound z s) (ld : d < z.domains) (ordinary : Ordinary z s d) (lf : f < z.frames) (out : outside s f ≡ true) (unmapped : get z s (leaf f) ≡ 0) (n : Next z s d t k) (g : Given z s r d f t k) where
  -- TreeLings are of the kind that they were, owners and tags are as they were.
  kinds : (u : ℕ) → u < z.treelings → is_ordinary z r u ≡ is_ordinary z s u
  kinds u l =
      kind_kept z s r u (g.same_treeling u 0 l (omega arith))
      (g.same_domain (get z s (owner u) - 1) 0 (omega (arith, h.owner_range u l, h.laid_out.laid.sizes.some_domains)) (omega arith) (λ _. omega arith))

  owner_was : (u : ℕ) → u < z.treelings → get z r (owner u) ≡ suc d → get z s (owner u) ≡ suc d
  owner_was u l o = sym (g.same_treeling u 0 l (omega arith)) ∙ o

  tag_is : (u i : ℕ) → u < z.treelings → i < 512 → tag_of (get z r (entry u i)) ≡ tag_of (get z s (entry u i))
  tag_is = placed_tag z s r d f t k g lf n.below n.small n.free

  -- The head is the entry's block, and blocks are where they were.
  head_now : head_in_order z r d ≡ block_in_order z s t (k / 8)
  head_now = placed_head z s r d f t k g lf n.below n.small n.free

  block_now : (u b : ℕ) → u < z.treelings → block_in_order z r u b ≡ block_in_order z s u b
  block_now u b l = ap (λ (x : ℕ). 64 * x + b) (g.same_treeling u 3 l (omega arith))

  -- So entries of other blocks stay, and those before and after the new head are as they should be.
  stays : (u i : ℕ) → u < z.treelings → i < 512 → (block_in_order z s u (i / 8) ≡ block_in_order z s t (k / 8) → ⊥) → get z r (entry u i) ≡ get z s (entry u i)
  stays = other_block z s r d f t k g lf n.below n.small n.free

  spent-before : (u i : ℕ) → u < z.treelings → i < 512 → get z r (owner u) ≡ suc d → block_in_order z r u (i / 8) < head_in_order z r d → availability_of (get z r (entry u i)) ≡ 0
  spent-before u i l m o less =
      let less_s : block_in_order z s u (i / 8) < block_in_order z s t (k / 8) = omega (arith, less, head_now, block_now u (i / 8) l) in
      ap availability_of (stays u i l m (λ e. omega (arith, less_s, e))) ∙ n.before u i l m (owner_was u l o) less_s

  some_after : (u i : ℕ) → u < z.treelings → i < 512 → get z r (owner u) ≡ suc d → head_in_order z r d < block_in_order z r u (i / 8) → 0 < availability_of (get z r (entry u i))
  some_after u i l m o more =
      let more_s : block_in_order z s t (k / 8) < block_in_order z s u (i / 8) = omega (arith, more, head_now, block_now u (i / 8) l) in
      subst (λ (w : ℕ). 0 < availability_of w) (sym (stays u i l m (λ e. omega (arith, more_s, e)))) (n.after u i l m (owner_was u l o) more_s)

  -- Leaf IDs are in range, each slot is free or named once, and pages mapped is the true number.
  leaves : LeavesFit z r
  leaves c l =
      either c f
      (λ is. subst (λ (x : ℕ). LeafFits z.treelings (get z r (leaf x))) (sym is) (placed_range z s r d f t k g lf n.below n.small n.free (h.tag_range d t k n.below n.small n.own ordinary)))
      (λ other. ap (leaf_fits z.treelings) (g.same_leaf c l other) ∙ h.leaf_range c l)

  once : (y : ℕ) → y < 4096 * z.treelings → times_free z r y + times_named z r y ≡ cond (is_ordinary z r (y / 4096)) 1 0
  once y l =
      placed_slots z s r d f t k g lf n.below n.small n.free kinds (ordinary_test z s t d n.own ordinary) unmapped y
      ∙ h.slot_once y l
      ∙ ap (λ (b : Bool). cond {A = ℕ} b 1 0) (sym (kinds (y / 4096) (omega arith)))

  -- The frame lies in no hole, so that holes stay unmapped.
  holes : HoleZero z r
  holes =
      hole_kept z s r h.laid_out.holes_fit_lem (λ j low high. g.same_content j high)
      (λ c l inside none. either c f (λ is. absurd (false≢true (sym inside ∙ ap (outside s) is ∙ out))) (λ other. g.same_leaf c l other ∙ none))
      h.hole_zero

  pages : (e : ℕ) → e < z.domains → get z r (pages_mapped e) ≡ true_number z r e
  pages e l =
      let grown = placed_pages z s r d f t k g lf n.below n.small n.free h.laid_out.laid (h.tag_range d t k n.below n.small n.own ordinary) (h.tag_own d t k n.below n.small n.own ordinary) unmapped h.leaf_range e in
      either e d
      (λ is.
      omega (
        arith,
        grown,
        ap (λ (b : Bool). cond {A = ℕ} b 1 0) (eq-eqb d e (sym is)),
        h.pages_true_lem e l,
        g.pages_are,
        ap (λ (c : ℕ). get z r (pages_mapped c)) is,
        ap (λ (c : ℕ). get z s (pages_mapped c)) is,
      ))
      (λ other.
      omega (
        arith,
        grown,
        ap (λ (b : Bool). cond {A = ℕ} b 1 0) (ne_eqb d e (λ is. other (sym is))),
        h.pages_true_lem e l,
        g.same_domain e 5 l (omega arith) (λ is. absurd (other is)),
      ))

  -- That is all there is to show.
  bodied : Bodied z r d
  bodied =
      record {
        head = t;
        head_is = g.head_is;
        head_below = n.below;
        head_own = g.same_treeling t 0 n.below (omega arith) ∙ n.own;
        block_range = omega (arith, g.block_is, n.small);
        tag_range = λ u i l m o. omega (arith, tag_is u i l m, h.tag_range d u i l m (owner_was u l o) ordinary);
        tag_own = λ u i l m o.
            ap (λ (x : ℕ). get z r (owner (x / 512))) (tag_is u i l m)
            ∙ g.same_treeling (tag_of (get z s (entry u i)) / 512) 0 (omega (arith, h.tag_range d u i l m (owner_was u l o) ordinary)) (omega arith)
            ∙ h.tag_own d u i l m (owner_was u l o) ordinary;
        before_head_lem = spent-before;
        after_head_lem = some_after;
        leaf_range = leaves;
        slot_once = once;
        hole_zero = holes;
        pages_true_lem = pages;
      }

  -- A sound state is sound after.
  pub given_sound : Sound z r
  given_sound =
      let u = has_first z s (sound_followed z s h) h.previous_range d t n.below n.own in
      framed_sound z s r d u.0 h ld u.1 (placed_framed z s r d f t k g lf n.below n.small n.free n.own) bodied

-- ---- The entry found
module _ (z : Sizes) (s : List ℕ) (d j : ℕ) (h : Sound z s) (ld : d < z.domains) (ordinary : Ordinary z s d) (is : j ≡ place_entry (world z s d)) (found : j < 512 * owned z s d) where
  abbrev at_head : ℕ
  at_head = (world z s d).nfl.head

  abbrev is_free : ℕ → Bool
  is_free i = ltb 0 ((world z s d).nfl.free i)

  -- The head is that of the audit, and the entry lies from its block on, in the TreeLing of its rank.
  heads : (head_in_order z s d ≡ at_head) × (at_head < 64 * owned z s d)
  heads =
      let w = head_some z s h d ld ordinary (omega arith) in
      let its : get z s (head_treeling d) - 1 ≡ w.0 = omega (arith, w.1) in
      (ap (λ (u : ℕ). 64 * get z s (rank u) + get z s (head_block d)) its ∙ sym w.3, w.4)

  from_head : 8 * at_head ≤ j
  from_head = omega (arith, is, first_from_lem is_free (8 * at_head) (512 * owned z s d - 8 * at_head))

  here : OfRank z s d (j / 512) (of_rank z s d (j / 512))
  here = of_rank_lem z s h d ld (j / 512) (omega arith)

  -- It has a free position,
  free_here : 0 < (world z s d).nfl.free j
  free_here =
      let n = 512 * owned z s d - 8 * at_head in
      ltb-true 0 ((world z s d).nfl.free j) (ap is_free is ∙ first_holds is_free (8 * at_head) n (omega (arith, is, found, heads.1)))

  -- and an entry of a block before has none: it was passed, or it lies before the head.
  none_before : (u i : ℕ) → u < z.treelings → i < 512 → get z s (owner u) ≡ suc d → 64 * get z s (rank u) + i / 8 < j / 8 → availability_of (get z s (entry u i)) ≡ 0
  none_before u i l m o less = by_head (leb (8 * at_head) q) refl
    where
      q : ℕ
      q = 512 * get z s (rank u) + i

      passed : 8 * at_head ≤ q → (world z s d).nfl.free q ≡ 0
      passed low =
          let p = first-before is_free (8 * at_head) (512 * owned z s d - 8 * at_head) q low (omega (arith, is, less)) in
          omega (arith, ltb-false 0 ((world z s d).nfl.free q) p)

      by_head : (b : Bool) → leb (8 * at_head) q ≡ b → availability_of (get z s (entry u i)) ≡ 0
      by_head true e =
          ap (λ (p : Place). availability_of (get z s p)) (sym (entry_back z s h d ld u i l o m)) ∙ passed (leb-true (8 * at_head) q e)
      by_head false e =
          h.before_head_lem d u i l m o ordinary (omega (arith, leb-false (8 * at_head) q e, heads.0))

  -- So it is the next one to give.
  pub found_next : Next z s d (of_rank z s d (j / 512)) (j % 512)
  found_next =
      record {
        below = here.below;
        small = omega arith;
        own = here.owner_is;
        free = free_here;
        before = λ u i l m o less. none_before u i l m o (omega (arith, less, here.rank_is));
        after = λ u i l m o more. h.after_head_lem d u i l m o ordinary (omega (arith, more, heads.0, from_head, here.rank_is));
      }

-- Placing in an own entry keeps a state sound.
pub placed_sound : (z : Sizes) (s : List ℕ) (d f j : ℕ) → Sound z s → d < z.domains → Ordinary z s d → f < z.frames → outside s f ≡ true → get z s (leaf f) ≡ 0 → j ≡ place_entry (world z s d) → j < 512 * owned z s d
    → Sound z (after_giving z s d f (of_rank z s d (j / 512)) (j % 512))
placed_sound z s d f j h ld ordinary lf out unmapped is found =
    let n = found_next z s d j h ld ordinary is found in
    let t = of_rank z s d (j / 512) in
    given_sound z s (after_giving z s d f t (j % 512)) d f t (j % 512) h ld ordinary lf out unmapped n (placed_given z s d f t (j % 512) h.laid_out.laid ld lf n.below n.small)
