-- Regathering keeps a state sound: every leaf node of the domain has one entry, with its whole availability and the released slot's bit.
-- Assumes nothing.
use Prim.Native.Nat.{ℕ, zero, suc, ◌+◌, ◌*◌, ◌/◌, ◌%◌, ◌<◌, ◌≤◌}
use mathlib.Core.Path.{◌≡◌, refl, sym, ap, ap₂, subst, ◌∙◌}
use mathlib.Core.List.{List}
use mathlib.Core.Bool.{Bool, true, false, cond, not, ◌&&◌}
use native.Mathlib.Nat.{lt_of_not-le}
use native.Mathlib.Omega.{arith}
use borrow.Author.Tests.{not-false, ltb-true, ltb-false, eqb-true, eqb-false, eq-eqb, ne_eqb}
use lib.Dec.{eqb, ltb}
use lib.ListN.{length, get_or, length-set}
use lib.Seq.{get_or-set_same, get_or-set_other}
use Rattle.layout.specs.declared.Sizes.{Sizes}
use Rattle.leaf_map.specs.LeafIds.{node_of_leaf, position_of_leaf, slot_number, treeling_of}
use Rattle.geometry.specs.Tables.{bit}
use Rattle.geometry.specs.Entries.{entry_word, tag_of, availability_of}
use Rattle.layout.specs.Places.{address, get, leaf, owner, rank}
use Rattle.sound.proofs.MappedLaws.{MappedBy, mapped_id, mapped_slot}
use Rattle.leaf_map.proofs.LeafIdLaws.{Names, names, position_below}
use Rattle.geometry.proofs.GeometryLaws.{entry_tag, entry_availability}
use Rattle.layout.proofs.PlaceLaws.{in_state}
use Rattle.layout.specs.Bounded.{count, sum}
use Rattle.sound.specs.Sentences.{marks_free, of_rank}
use Rattle.sound.specs.Sound.{Sound, Ordinary}
use Rattle.layout.proofs.BoundedLaws.{sum_cong, sum_zero, sum_at, count-sum, count_no}
use Rattle.sound.proofs.BitLaws.{bit_none}
use Rattle.world.specs.World.{world, owned, entry_of, node_of}
use Rattle.gathering.specs.Regathering.{is_spent, gathered, gathered_word, entries_gathered, head_gathered, head_at, whole_with}
use Rattle.releasing.specs.Releasing.{unmapped}
use Rattle.sound.proofs.TestLaws.{same_test}
use Rattle.world.proofs.WorldLaws.{of_rank_lem, rank_below_owned, of_rank_back, node_one}
use Rattle.world.proofs.FrameLaws.{either}
use Rattle.gathering.proofs.GatherListLaws.{count_both}
use Rattle.gathering.proofs.GatherLaws.{own_chain}
use Rattle.gathering.proofs.SettleLaws.{head_some}
use Rattle.gathering.proofs.SelectLaws.{parted_first, parted_rest, parted_sum}
use Rattle.releasing.proofs.FreeBitLaws.{marks_bit}
use Rattle.world.proofs.ChangeLaws.{count_zero}
use Rattle.releasing.proofs.RefillLaws.{one, own_free, Rewritten, Refilled, entry_within, entry_apart, slot_not_free, refilled_sound}
use Rattle.releasing.proofs.WholeBits.{with_byte_lem, with_bit}

-- ---- The words regathered
module _ (z : Sizes) (s : List ℕ) (h : Sound z s) (d : ℕ) (l : d < z.domains) (whole : ℕ → ℕ) where
  long : (m : ℕ) → length (entries_gathered z s d (owned z s d) whole m) ≡ length s
  unfolding entries_gathered
  long zero = refl
  long (suc m) = length-set (entries_gathered z s d (owned z s d) whole m) (address z (entry_of z s d m)) (gathered_word z s d (owned z s d) whole m) ∙ long m

  -- Only the domain's entries are written,
  pub gathered_rewritten : (m : ℕ) → m ≤ 512 * owned z s d → Rewritten z s d (entries_gathered z s d (owned z s d) whole m)
  unfolding entries_gathered
  gathered_rewritten zero most = record { long = refl; same = λ a apart. refl }
  gathered_rewritten (suc m) most =
      record {
        long = long (suc m);
        same = λ a apart. get_or-set_other (entries_gathered z s d (owned z s d) whole m) (address z (entry_of z s d m)) a (gathered_word z s d (owned z s d) whole m) 0 (apart m most) ∙ (gathered_rewritten m (omega arith)).same a apart;
      }

  -- each with its word.
  pub gathered-word : (m : ℕ) → m ≤ 512 * owned z s d → (j : ℕ) → j < m → get z (entries_gathered z s d (owned z s d) whole m) (entry_of z s d j) ≡ gathered_word z s d (owned z s d) whole j
  unfolding entries_gathered
  gathered-word zero most j less = absurd (omega arith)
  gathered-word (suc m) most j less =
      let here : address z (entry_of z s d m) < length (entries_gathered z s d (owned z s d) whole m) = rw (long m, h.laid_out.laid.long) (in_state z (entry_of z s d m) (entry_within z s d h l m most)) in
      either j m
      (λ is.
      ap (λ (c : ℕ). get z (entries_gathered z s d (owned z s d) whole (suc m)) (entry_of z s d c)) is
      ∙ get_or-set_same (entries_gathered z s d (owned z s d) whole m) (address z (entry_of z s d m)) (gathered_word z s d (owned z s d) whole m) 0 here
      ∙ ap (gathered_word z s d (owned z s d) whole) (sym is))
      (λ apart.
      get_or-set_other (entries_gathered z s d (owned z s d) whole m) (address z (entry_of z s d m)) (address z (entry_of z s d j)) (gathered_word z s d (owned z s d) whole m) 0 (λ is. apart (entry_apart z s d h l j m (omega arith) most is))
      ∙ gathered-word m (omega arith) j (omega arith))

module _ (z : Sizes) (s : List ℕ) (h : Sound z s) (d : ℕ) (l : d < z.domains) (o : Ordinary z s d) (f : ℕ) (k : f < z.frames) (m : MappedBy z s d f) where
  -- The page's slot, its node and its position.
  abbrev x : ℕ
  x = slot_number (get z s (leaf f))

  abbrev n : ℕ
  n = node_of_leaf (get z s (leaf f))

  abbrev i : ℕ
  i = position_of_leaf (get z s (leaf f))

  small : i < 8
  small = position_below (get z s (leaf f))

  named : Names (get z s (leaf f))
  named = names (get z s (leaf f)) (mapped_id z s d f h k m o)

  -- ---- A node's whole availability
  abbrev whole : ℕ → ℕ
  whole g = whole_with (world z s d) n i g

  -- It is a byte, with a bit for each slot that is free or released.
  whole_byte : (g : ℕ) → g < 512 * z.treelings → whole g < 256
  whole_byte g lg = rw (named.node_is, named.position_is) (with_byte_lem z s h d l o x (slot_not_free z s h d l o f k m) g lg)

  whole_bit : (g : ℕ) → g < 512 * z.treelings → (c : ℕ) → c < 8 → bit c (whole g) ≡ own_free z s d s (8 * g + c) + one (eqb x (8 * g + c))
  whole_bit g lg c lc = rw (named.node_is, named.position_is) (with_bit z s h d l o x (slot_not_free z s h d l o f k m) g lg c lc)

  -- ---- Leaf nodes in rank order
  abbrev total : ℕ
  total = 512 * owned z s d

  node_below : (p : ℕ) → p < total → node_of z s d p < 512 * z.treelings
  node_below p lp = omega (arith, (of_rank_lem z s h d l (p / 512) (omega arith)).below)

  node_own : (p : ℕ) → p < total → get z s (owner (node_of z s d p / 512)) ≡ suc d
  node_own p lp =
      let is : node_of z s d p / 512 ≡ of_rank z s d (p / 512) = omega arith in
      ap (λ (t : ℕ). get z s (owner t)) is ∙ (of_rank_lem z s h d l (p / 512) (omega arith)).owner_is

  -- Each leaf node of the domain's TreeLings is one of them.
  node_back : (g : ℕ) → g < 512 * z.treelings → get z s (owner (g / 512)) ≡ suc d → (p : ℕ) × (p < total) × (node_of z s d p ≡ g)
  node_back g lg own =
      let t = g / 512 in
      let r = get z s (rank t) in
      let q : (512 * r + g % 512) / 512 ≡ r = omega arith in
      (512 * r + g % 512, omega (arith, rank_below_owned z s h d l t (omega arith) own), omega (arith, ap (of_rank z s d) q, of_rank_back z s h d l t (omega arith) own))

  -- ---- The entries regathered
  abbrev order : ℕ → ℕ
  order j = get_or (gathered z s d (owned z s d) whole) j 0

  -- The first of them are spent, the rest not.
  abbrev spent_count : ℕ
  spent_count = count total (is_spent z s d (owned z s d) whole)

  order_first : (j : ℕ) → j < spent_count → (order j < total) × (is_spent z s d (owned z s d) whole (order j) ≡ true)
  unfolding gathered
  order_first j less = parted_first (is_spent z s d (owned z s d) whole) total j less

  order_rest : (j : ℕ) → spent_count ≤ j → j < total → (order j < total) × (is_spent z s d (owned z s d) whole (order j) ≡ false)
  unfolding gathered
  order_rest j low less = parted_rest (is_spent z s d (owned z s d) whole) total j low less

  order_sum : (v : ℕ → ℕ) → sum total (λ j. v (order j)) ≡ sum total v
  unfolding gathered
  order_sum v = parted_sum (is_spent z s d (owned z s d) whole) total v

  order_below : (j : ℕ) → j < total → order j < total
  order_below j less = go (ltb j spent_count) refl
    where
      go : (b : Bool) → ltb j spent_count ≡ b → order j < total
      go true e = (order_first j (ltb-true j spent_count e)).0
      go false e = (order_rest j (ltb-false j spent_count e) less).0

  abbrev e : List ℕ
  e = entries_gathered z s d (owned z s d) whole total

  -- Entry j has its node as tag and the whole of it.
  new_word : (j : ℕ) → j < total → get z e (entry_of z s d j) ≡ entry_word (node_of z s d (order j)) (whole (node_of z s d (order j)))
  new_word j less = gathered-word z s h d l whole total (omega arith) j less

  node_byte : (p : ℕ) → p < total → whole (node_of z s d p) < 256
  node_byte p lp = whole_byte (node_of z s d p) (node_below p lp)

  new_tag : (j : ℕ) → j < total → tag_of (get z e (entry_of z s d j)) ≡ node_of z s d (order j)
  new_tag j less = ap tag_of (new_word j less) ∙ entry_tag (node_of z s d (order j)) (whole (node_of z s d (order j))) (node_byte (order j) (order_below j less))

  new_free : (j : ℕ) → j < total → availability_of (get z e (entry_of z s d j)) ≡ whole (node_of z s d (order j))
  new_free j less = ap availability_of (new_word j less) ∙ entry_availability (node_of z s d (order j)) (whole (node_of z s d (order j))) (node_byte (order j) (order_below j less))

  -- ---- Slots
  -- What node p has of slot y, in the one entry that it has.
  abbrev part : ℕ → ℕ → ℕ
  part y p = cond (eqb (node_of z s d p) (y / 8)) (bit (y % 8) (whole (node_of z s d p))) 0

  new_slots : (y : ℕ) → own_free z s d e y ≡ sum total (part y)
  unfolding own_free
  new_slots y =
      count-sum total (λ j. marks_free z s y (get z e (entry_of z s d j)))
      ∙ sum_cong total (λ j. one (marks_free z s y (get z e (entry_of z s d j)))) (λ j. part y (order j))
      (λ j less. marks_bit z s y (get z e (entry_of z s d j)) ∙ ap₂ (λ (g a : ℕ). cond (eqb g (y / 8)) (bit (y % 8) a) 0) (new_tag j less) (new_free j less))
      ∙ order_sum (part y)

  -- A slot of the domain's,
  own_slots : (y : ℕ) → y < 4096 * z.treelings → get z s (owner (y / 8 / 512)) ≡ suc d → sum total (part y) ≡ own_free z s d s y + one (eqb x y)
  own_slots y ly own =
      let home = node_back (y / 8) (omega arith) own in
      let p = home.0 in
      let whose : 8 * (y / 8) + y % 8 ≡ y = omega arith in
      sum_cong total (part y) (λ c. cond (eqb p c) (bit (y % 8) (whole (node_of z s d c))) 0) (λ c lc. ap (λ (b : Bool). cond b (bit (y % 8) (whole (node_of z s d c))) 0) (same p home.1 home.2 c lc))
      ∙ sum_at total p (λ c. bit (y % 8) (whole (node_of z s d c))) home.1
      ∙ ap (λ (g : ℕ). bit (y % 8) (whole g)) home.2
      ∙ whole_bit (y / 8) (omega arith) (y % 8) (omega arith)
      ∙ ap (λ (v : ℕ). own_free z s d s v + one (eqb x v)) whose
    where
      same : (p : ℕ) → p < total → node_of z s d p ≡ y / 8 → (c : ℕ) → c < total → eqb (node_of z s d c) (y / 8) ≡ eqb p c
      same p lp is c lc =
          same_test (eqb (node_of z s d c) (y / 8)) (eqb p c)
          (λ t. eq-eqb p c (node_one z s h d l p c lp lc (is ∙ sym (eqb-true (node_of z s d c) (y / 8) t))))
          (λ t. eq-eqb (node_of z s d c) (y / 8) (ap (node_of z s d) (sym (eqb-true p c t)) ∙ is))

  -- and a slot of no TreeLing of the domain: no entry of the domain marks it, before or after.
  other_slots : (y : ℕ) → (get z s (owner (y / 8 / 512)) ≡ suc d → ⊥) → sum total (part y) ≡ own_free z s d s y + one (eqb x y)
  unfolding own_free
  other_slots y other =
      let after : sum total (part y) ≡ 0 =
      sum_cong total (part y) (λ _. 0) (λ c lc. ap (λ (b : Bool). cond b (bit (y % 8) (whole (node_of z s d c))) 0) (ne_eqb (node_of z s d c) (y / 8) (λ is. other (ap (λ (g : ℕ). get z s (owner (g / 512))) (sym is) ∙ node_own c lc))))
      ∙ sum_zero total in
      let before : count total (λ j. marks_free z s y (get z s (entry_of z s d j))) ≡ 0 =
      count_no total (λ j. marks_free z s y (get z s (entry_of z s d j))) not_tagged in
      let apart : eqb x y ≡ false =
      ne_eqb x y (λ is. let own : treeling_of (get z s (leaf f)) ≡ y / 8 / 512 = omega (arith, named.treeling_is) in other (ap (λ (t : ℕ). get z s (owner t)) (sym own) ∙ m.own)) in
      omega (arith, ap one apart)
    where
      not_tagged : (j : ℕ) → j < total → marks_free z s y (get z s (entry_of z s d j)) ≡ false
      not_tagged j less =
          let w = get z s (entry_of z s d j) in
          let t = of_rank_lem z s h d l (j / 512) (omega arith) in
          ap (λ (b : Bool). b && eqb (bit (y % 8) (availability_of w)) 1)
          (ne_eqb (tag_of w) (y / 8) (λ is. other (ap (λ (g : ℕ). get z s (owner (g / 512))) (sym is) ∙ h.tag_own d (of_rank z s d (j / 512)) (j % 512) t.below (omega arith) t.owner_is o)))

  -- ---- The head
  -- The released slot's node is not spent, so not all are.
  some_left : spent_count < total
  some_left =
      let own : treeling_of (get z s (leaf f)) ≡ n / 512 = omega (arith, named.treeling_is, named.node_is) in
      let lg : n < 512 * z.treelings = omega (arith, named.node_is, mapped_slot z s d f h k m o) in
      let home = node_back n lg (ap (λ (t : ℕ). get z s (owner t)) (sym own) ∙ m.own) in
      let is : x ≡ 8 * n + i = omega (arith, named.node_is, named.position_is) in
      let has : 0 < bit i (whole n) = omega (arith, whole_bit n lg i small, ap one (eq-eqb x (8 * n + i) is)) in
      let not_spent : is_spent z s d (owned z s d) whole home.0 ≡ true → ⊥ =
      λ t. omega (arith, ap (λ (g : ℕ). bit i (whole g)) home.2, ap (bit i) (eqb-true (whole (node_of z s d home.0)) 0 t), bit_none i) in
      lt_of_not-le λ all.
      not_spent (not-false (is_spent z s d (owned z s d) whole home.0) (count_zero total (λ p. not (is_spent z s d (owned z s d) whole p)) (omega (arith, count_both (is_spent z s d (owned z s d) whole) total)) home.0 home.1))

  head_is : head_gathered z s d (owned z s d) whole ≡ spent_count / 8
  head_is = head_some z s d (owned z s d) (own_chain z s h d l) whole some_left

  regathered_refilled : Refilled z s d e (head_gathered z s d (owned z s d) whole) x
  regathered_refilled =
      record {
        tag_range = λ j less. subst (λ (g : ℕ). g < 512 * z.treelings) (sym (new_tag j less)) (node_below (order j) (order_below j less));
        tag_own = λ j less. ap (λ (g : ℕ). get z s (owner (g / 512))) (new_tag j less) ∙ node_own (order j) (order_below j less);
        below = omega (arith, head_is, some_left);
        before = λ j less. new_free j (omega (arith, head_is, some_left)) ∙ eqb-true (whole (node_of z s d (order j))) 0 (order_first j (omega (arith, head_is))).1;
        after = λ j low less. lt_of_not-le λ none. eqb-false (whole (node_of z s d (order j))) 0 (order_rest j (omega (arith, head_is)) less).1 (omega (arith, new_free j less));
        slots = λ y ly.
            new_slots y
            ∙ either (get z s (owner (y / 8 / 512))) (suc d) (own_slots y ly) (other_slots y);
      }

  pub regathered_sound : Sound z (unmapped z s d f (head_at z s d (head_gathered z s d (owned z s d) whole) e))
  regathered_sound = refilled_sound z s h d l f k e (gathered_rewritten z s h d l whole total (omega arith)) (head_gathered z s d (owned z s d) whole) o m regathered_refilled
