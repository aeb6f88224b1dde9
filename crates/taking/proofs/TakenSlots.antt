-- The slots of a TreeLing just taken are all free, once; those of the others are as before, and so are the pages of each domain.
-- Assumes nothing.
use Prim.Native.Nat.{ℕ, zero, suc, ◌+◌, ◌-◌, ◌*◌, ◌/◌, ◌%◌, ◌<◌}
use mathlib.Core.Path.{◌≡◌, refl, sym, ap, ap₂, ◌∙◌}
use mathlib.Core.List.{List}
use mathlib.Core.Bool.{Bool, true, false, cond, ◌&&◌}
use native.Mathlib.Omega.{arith}
use borrow.Author.Tests.{eqb-true, eq-eqb, ne_eqb}
use lib.Dec.{eqb, ltb}
use lib.ListN.{get_or}
use Rattle.layout.specs.declared.Sizes.{Sizes}
use Rattle.leaf_map.specs.LeafIds.{LeafFits, treeling_of}
use Rattle.geometry.specs.Tables.{bit}
use Rattle.geometry.specs.Entries.{entry_word, tag_of, availability_of}
use Rattle.layout.specs.Places.{get, entry, leaf, live, owner}
use Rattle.sound.specs.Sentences.{is_ordinary, is_mapped_by, marks_free, times_free, times_named, true_number}
use Rattle.sound.specs.Sound.{Sound, Ordinary}
use Rattle.leaf_map.proofs.LeafIdLaws.{treeling_fits}
use Rattle.sound.proofs.MappedLaws.{page_owned}
use Rattle.layout.proofs.BoundedLaws.{and_both, and_of, and_no, count_cong}
use Rattle.sound.proofs.BitLaws.{bit_none, full_bits}
use Rattle.sound.proofs.TestLaws.{ordinary_test, not_ordinary, kind_kept, same_test}
use Rattle.world.proofs.MatchingLaws.{count_at}
use Rattle.world.proofs.FrameLaws.{either}
use Rattle.world.proofs.ChangeLaws.{count_zero}
use Rattle.taking.proofs.TakenLaws.{Taken}

-- An entry without a free position marks no slot free.
pub spent_marks : (z : Sizes) (s : List ℕ) (y w : ℕ) → availability_of w ≡ 0 → marks_free z s y w ≡ false
spent_marks z s y w e =
    and_no (eqb (tag_of w) (y / 8)) (eqb (bit (y % 8) (availability_of w)) 1)
    (ne_eqb (bit (y % 8) (availability_of w)) 1 (λ one. omega (arith, ap (bit (y % 8)) e, bit_none (y % 8))))

-- Entry k of TreeLing t has number j through all TreeLings.
pub entry_through : (z : Sizes) (s : List ℕ) (t k j : ℕ) → 512 * t + k ≡ j → get z s (entry t k) ≡ get z s (entry 0 j)
entry_through z s t k j e = ap (λ (a : ℕ). get_or s a 0) (omega arith)

module _ (z : Sizes) (s m : List ℕ) (d t : ℕ) (h : Sound z s) (alive : Ordinary z s d) (none : get z s (owner t) ≡ 0) (g : Taken z s m d t) where
  -- ---- Before
  -- No entry marks a slot of t free, and no leaf map word names one.
  no_slots : (y : ℕ) → y < 4096 * z.treelings → y / 4096 ≡ t → times_free z s y + times_named z s y ≡ 0
  no_slots y l is =
      h.slot_once y l ∙ ap (λ (b : Bool). cond b 1 0) (not_ordinary z s (y / 4096) (ap (λ (u : ℕ). get z s (owner u)) is ∙ none))

  not_marked : (y : ℕ) → y < 4096 * z.treelings → y / 4096 ≡ t → (j : ℕ) → j < 512 * z.treelings → (is_ordinary z s (j / 512) && marks_free z s y (get z s (entry 0 j))) ≡ false
  unfolding times_free
  not_marked y l is =
      count_zero (512 * z.treelings) (λ j. is_ordinary z s (j / 512) && marks_free z s y (get z s (entry 0 j))) (omega (arith, no_slots y l is))

  not_named : (f : ℕ) → f < z.frames → 0 < get z s (leaf f) → treeling_of (get z s (leaf f)) ≡ t → ⊥
  not_named f l some is = omega (arith, page_owned z s h f l some, ap (λ (u : ℕ). get z s (owner u)) is)

  zero_entry : (j : ℕ) → j < 512 * z.treelings → j / 512 ≡ t → get z s (entry 0 j) ≡ 0
  zero_entry j l is =
      sym (entry_through z s (j / 512) (j % 512) j (omega arith))
      ∙ h.unowned_entry (j / 512) (j % 512) (omega arith) (omega arith) (ap (λ (u : ℕ). get z s (owner u)) is ∙ none)

  -- ---- After
  -- TreeLing t is of an ordinary domain, and the others are of the kind that they were.
  live_same : (e : ℕ) → e < z.domains → get z m (live e) ≡ get z s (live e)
  live_same e l =
      either e d
      (λ is. ap (λ (c : ℕ). get z m (live c)) is ∙ g.same_own 0 (omega arith) (omega arith) (omega arith) ∙ ap (λ (c : ℕ). get z s (live c)) (sym is))
      (λ apart. g.same_domain e 0 l (omega arith) apart)

  own_kind : is_ordinary z m t ≡ true
  own_kind = ordinary_test z m t d g.owner_is (g.same_own 0 (omega arith) (omega arith) (omega arith) ∙ alive)

  other_kind : (u : ℕ) → u < z.treelings → (u ≡ t → ⊥) → is_ordinary z m u ≡ is_ordinary z s u
  other_kind u l apart =
      kind_kept z s m u (g.same_treeling u 0 l (omega arith) apart (omega arith))
      (live_same (get z s (owner u) - 1) (omega (arith, h.owner_range u l, h.laid_out.laid.sizes.some_domains)))

  -- Entry j, where it is one of t and where it is not.
  own_entry_lem : (j : ℕ) → j / 512 ≡ t → get z m (entry 0 j) ≡ entry_word j 255
  own_entry_lem j is =
      sym (entry_through z m (j / 512) (j % 512) j (omega arith))
      ∙ ap (λ (u : ℕ). get z m (entry u (j % 512))) is
      ∙ g.fresh (j % 512) (omega arith)
      ∙ ap (λ (n : ℕ). entry_word n 255) (omega arith)

  other_entry : (j : ℕ) → j < 512 * z.treelings → (j / 512 ≡ t → ⊥) → get z m (entry 0 j) ≡ get z s (entry 0 j)
  other_entry j l apart =
      sym (entry_through z m (j / 512) (j % 512) j (omega arith)) ∙ g.same_entry (j / 512) (j % 512) (omega arith) (omega arith) apart ∙ entry_through z s (j / 512) (j % 512) j (omega arith)

  -- An entry of t marks the slots of its node free.
  own_marks : (y j : ℕ) → j / 512 ≡ t → marks_free z m y (get z m (entry 0 j)) ≡ eqb (y / 8) j
  own_marks y j is =
      let w = entry_word j 255 in
      let node : tag_of w ≡ j = omega arith in
      let full : availability_of w ≡ 255 = omega arith in
      ap (marks_free z m y) (own_entry_lem j is)
      ∙ same_test (marks_free z m y w) (eqb (y / 8) j)
      (λ e.
      let both = and_both (eqb (tag_of w) (y / 8)) (eqb (bit (y % 8) (availability_of w)) 1) e in
      eq-eqb (y / 8) j (sym (eqb-true (tag_of w) (y / 8) both.0) ∙ node))
      (λ e.
      and_of
      (eq-eqb (tag_of w) (y / 8) (node ∙ sym (eqb-true (y / 8) j e)))
      (eq-eqb (bit (y % 8) (availability_of w)) 1 (ap (bit (y % 8)) full ∙ full_bits true (y % 8) (omega arith))))

  -- The entries that mark a slot of t free: the one of its node.
  free_slots : (y : ℕ) → y < 4096 * z.treelings → y / 4096 ≡ t → times_free z m y ≡ 1
  unfolding times_free
  free_slots y l is =
      count_cong (512 * z.treelings) (λ j. is_ordinary z m (j / 512) && marks_free z m y (get z m (entry 0 j))) (λ j. eqb (y / 8) j) each
      ∙ count_at (512 * z.treelings) (y / 8) (omega arith)
    where
      each : (j : ℕ) → j < 512 * z.treelings → (is_ordinary z m (j / 512) && marks_free z m y (get z m (entry 0 j))) ≡ eqb (y / 8) j
      each j lj =
          either (j / 512) t
          (λ own. ap₂ ◌&&◌ (ap (is_ordinary z m) own ∙ own_kind) (own_marks y j own))
          (λ apart.
          ap₂ ◌&&◌ (other_kind (j / 512) (omega arith) apart) (ap (marks_free z m y) (other_entry j lj apart))
          ∙ not_marked y l is j lj
          ∙ sym (ne_eqb (y / 8) j (λ same. apart (omega arith))))

  -- Those that mark another one.
  free_others : (y : ℕ) → y < 4096 * z.treelings → (y / 4096 ≡ t → ⊥) → times_free z m y ≡ times_free z s y
  unfolding times_free
  free_others y l apart =
      count_cong (512 * z.treelings) (λ j. is_ordinary z m (j / 512) && marks_free z m y (get z m (entry 0 j))) (λ j. is_ordinary z s (j / 512) && marks_free z s y (get z s (entry 0 j))) each
    where
      each : (j : ℕ) → j < 512 * z.treelings → (is_ordinary z m (j / 512) && marks_free z m y (get z m (entry 0 j))) ≡ (is_ordinary z s (j / 512) && marks_free z s y (get z s (entry 0 j)))
      each j lj =
          either (j / 512) t
          (λ is.
          and_no (is_ordinary z m (j / 512)) (marks_free z m y (get z m (entry 0 j))) (own_marks y j is ∙ ne_eqb (y / 8) j (λ same. apart (omega arith)))
          ∙ sym (and_no (is_ordinary z s (j / 512)) (marks_free z s y (get z s (entry 0 j))) (spent_marks z s y (get z s (entry 0 j)) (ap availability_of (zero_entry j lj is)))))
          (λ other. ap₂ ◌&&◌ (other_kind (j / 512) (omega arith) other) (ap (marks_free z m y) (other_entry j lj other)))

  named_same : (y : ℕ) → times_named z m y ≡ times_named z s y
  unfolding times_named
  named_same y =
      count_cong z.frames (λ f. eqb (get z m (leaf f)) (suc y)) (λ f. eqb (get z s (leaf f)) (suc y)) λ f _.
      ap (λ (x : ℕ). eqb x (suc y)) (g.same_leaf f)

  -- Each slot is free or named, once.
  pub taken_once : (y : ℕ) → y < 4096 * z.treelings → times_free z m y + times_named z m y ≡ cond (is_ordinary z m (y / 4096)) 1 0
  taken_once y l =
      let named = named_same y in
      let u = y / 4096 in
      either u t
      (λ is.
      let now : is_ordinary z m u ≡ true = ap (is_ordinary z m) is ∙ own_kind in
      let one : times_free z m y + times_named z m y ≡ 1 = omega (arith, free_slots y l is, no_slots y l is) in
      one ∙ ap (λ (b : Bool). cond b 1 0) (sym now))
      (λ apart.
      ap₂ ◌+◌ (free_others y l apart) named ∙ h.slot_once y l ∙ ap (λ (b : Bool). cond b 1 0) (sym (other_kind u (omega arith) apart)))

  -- The pages of each domain are as before.
  pub taken_pages : (e : ℕ) → true_number z m e ≡ true_number z s e
  unfolding true_number
  taken_pages e =
      count_cong z.frames (is_mapped_by z m e) (is_mapped_by z s e) λ f l.
      let x = get z s (leaf f) in
      ap (λ (v : ℕ). ltb 0 v && eqb (get z m (owner (treeling_of v))) (suc e)) (g.same_leaf f)
      ∙ by_word x (h.leaf_range f l) (not_named f l)
    where
      by_word : (x : ℕ) → LeafFits z.treelings x → (0 < x → treeling_of x ≡ t → ⊥)
          → (ltb 0 x && eqb (get z m (owner (treeling_of x))) (suc e)) ≡ (ltb 0 x && eqb (get z s (owner (treeling_of x))) (suc e))
      by_word zero most apart = refl
      by_word (suc x) most apart =
          ap (λ (o : ℕ). ltb 0 (suc x) && eqb o (suc e))
          (g.same_treeling (treeling_of (suc x)) 0 (treeling_fits z.treelings (suc x) (omega arith) most) (omega arith) (apart (omega arith)) (omega arith))
