-- After a trim: each slot is free or named as often as it should be.
-- Assumes nothing.
use Prim.Native.Nat.{ℕ, suc, ◌+◌, ◌*◌, ◌/◌, ◌%◌, ◌<◌}
use mathlib.Core.Path.{◌≡◌, refl, sym, ap, ap₂, subst, ◌∙◌}
use mathlib.Core.List.{List}
use mathlib.Core.Bool.{Bool, true, false, cond, ◌&&◌}
use native.Mathlib.Omega.{arith}
use borrow.Author.Tests.{eqb-true, eqb-false, eq-eqb}
use lib.Dec.{eqb}
use Rattle.layout.specs.declared.Sizes.{Sizes}
use Rattle.geometry.specs.Tables.{bit}
use Rattle.layout.specs.Places.{get, entry, leaf, owner, rank}
use Rattle.layout.specs.Bounded.{sum}
use Rattle.layout.proofs.BoundedLaws.{is_false, sum_cong, sum_at, count-sum, count_cong}
use Rattle.sound.specs.Sentences.{is_ordinary, marks_free, times_free, times_named}
use Rattle.sound.specs.Sound.{Sound, Ordinary}
use Rattle.sound.proofs.TestLaws.{same_test, ordinary_test, not_ordinary}
use Rattle.world.specs.World.{world}
use Rattle.world.proofs.MatchingLaws.{Matched}
use Rattle.gathering.specs.Regathering.{whole_of}
use Rattle.releasing.proofs.FreeBitLaws.{marks_bit}
use Rattle.releasing.proofs.RefillLaws.{rows_matched}
use Rattle.gathering.proofs.SelectLaws.{parted_sum}
use Rattle.returning.specs.Returning.{number_kept, kept_of}
use Rattle.returning.proofs.OthersLaws.{marked_owner, none_free, kind_other, free_other}
use Rattle.returning.proofs.TrimFacts.{Kept, Trimmed, kept_node, kept_whole, kept_spent, kept_order}
use Rattle.returning.proofs.TrimmedChain.{sorts, own_each, others}
use Rattle.returning.proofs.TrimmedEntries.{Wholes, node_one, new_tag, new_free, tag_owner}

module _ (z : Sizes) (s r : List ℕ) (d : ℕ) (h : Sound z s) (l : d < z.domains) (o : Ordinary z s d) (k : Kept z s d) (c : Trimmed z s r d) (w : Wholes z s d) where
  abbrev number : ℕ
  number = number_kept z s d

  abbrev kept : ℕ → ℕ
  kept q = kept_of z s d q

  abbrev total : ℕ
  total = 512 * number

  abbrev node : ℕ → ℕ
  node p = kept_node z s d p

  abbrev whole : ℕ → ℕ
  whole p = kept_whole z s d p

  abbrev order : ℕ → ℕ
  order j = kept_order z s d j

  -- An entry that marks a slot free has its owner.
  marked_now : (y j : ℕ) → j < 512 * z.treelings → (is_ordinary z r (j / 512) && marks_free z r y (get z r (entry 0 j))) ≡ true → (e : ℕ) × (get z r (owner (j / 512)) ≡ suc e) × (get z r (owner (y / 4096)) ≡ suc e)
  marked_now = marked_owner z r (tag_owner z s r d h l k c w)

  -- The domain is ordinary still.
  ordinary_now : Ordinary z r d
  ordinary_now = c.same_live ∙ o

  -- The domain's TreeLings and their new ranks.
  ranks : Matched z.treelings number (λ t. eqb (get z r (owner t)) (suc d)) (λ t. get z r (rank t)) kept
  ranks =
      record {
        there_below = λ t m o. own_each z s r d h l k c (λ x. get z r (rank x) < number) (λ q lq. omega (arith, c.kept_rank q lq)) t m (eqb-true (get z r (owner t)) (suc d) o);
        there_back = λ t m o. own_each z s r d h l k c (λ x. kept (get z r (rank x)) ≡ x) (λ q lq. ap kept (c.kept_rank q lq)) t m (eqb-true (get z r (owner t)) (suc d) o);
        back_below = k.below;
        back_holds = λ q lq. eq-eqb (get z r (owner (kept q))) (suc d) (c.kept_owner q lq);
        back_there = c.kept_rank;
      }

  -- A slot of the domain's is free as often as its entries mark it,
  abbrev marks : ℕ → ℕ → ℕ
  marks y j = cond (is_ordinary z r (j / 512) && marks_free z r y (get z r (entry 0 j))) 1 0

  own_free_lem : (y : ℕ) → get z r (owner (y / 4096)) ≡ suc d → times_free z r y ≡ sum total (λ j. marks y (node j))
  unfolding times_free
  own_free_lem y own =
      count-sum (512 * z.treelings) (λ j. is_ordinary z r (j / 512) && marks_free z r y (get z r (entry 0 j)))
      ∙ sum_cong (512 * z.treelings) (marks y) (λ j. cond (eqb (get z r (owner (j / 512))) (suc d)) (marks y j) 0) (λ j lj. each j lj (eqb (get z r (owner (j / 512))) (suc d)) refl)
      ∙ rows_matched z.treelings number (λ t. eqb (get z r (owner t)) (suc d)) (λ t. get z r (rank t)) kept ranks (marks y)
    where
      each : (j : ℕ) → j < 512 * z.treelings → (b : Bool) → eqb (get z r (owner (j / 512))) (suc d) ≡ b → marks y j ≡ cond b (marks y j) 0
      each j lj true is = refl
      each j lj false is =
          ap (λ (b : Bool). cond {A = ℕ} b 1 0)
          (is_false (is_ordinary z r (j / 512) && marks_free z r y (get z r (entry 0 j))) λ marked.
          let a = marked_now y j lj marked in
          eqb-false (get z r (owner (j / 512))) (suc d) is (a.1 ∙ sym a.2 ∙ own))

  -- as the bits of its node say,
  abbrev part : ℕ → ℕ → ℕ
  part y p = cond (eqb (node p) (y / 8)) (bit (y % 8) (whole p)) 0

  node_kind : (j : ℕ) → j < total → is_ordinary z r (node j / 512) ≡ true
  node_kind j lj =
      let home : node j / 512 ≡ kept (j / 512) = omega arith in
      ap (is_ordinary z r) home ∙ ordinary_test z r (kept (j / 512)) d (c.kept_owner (j / 512) (omega arith)) ordinary_now

  new_slots : (y : ℕ) → sum total (λ j. marks y (node j)) ≡ sum total (part y)
  new_slots y =
      sum_cong total (λ j. marks y (node j)) (λ j. part y (order j))
      (λ j lj. ap (λ (b : Bool). cond {A = ℕ} (b && marks_free z r y (get z r (entry 0 (node j)))) 1 0) (node_kind j lj) ∙ marks_bit z r y (get z r (entry 0 (node j))) ∙ ap₂ (λ (g a : ℕ). cond (eqb g (y / 8)) (bit (y % 8) a) 0) (new_tag z s r d h l k c w j lj) (new_free z s r d h l k c w j lj))
      ∙ parted_sum (kept_spent z s d) total (part y)

  -- and that is as often as before: slot y is of the TreeLing that gets rank q.
  module _ (y q : ℕ) (lq : q < number) (at : kept q ≡ y / 4096) where
    -- Its node, by new rank.
    abbrev home : ℕ
    home = 512 * q + (y / 8) % 512

    home_below : home < total
    home_below = omega arith

    home_is : node home ≡ y / 8
    home_is =
        let row : home / 512 ≡ q = omega arith in
        omega (arith, ap kept row)

    home_one : (p : ℕ) → p < total → eqb (node p) (y / 8) ≡ eqb home p
    home_one p lp =
        same_test (eqb (node p) (y / 8)) (eqb home p)
        (λ e. eq-eqb home p (node_one z s r d h l k c w home p home_below lp (home_is ∙ sym (eqb-true (node p) (y / 8) e))))
        (λ e. eq-eqb (node p) (y / 8) (ap node (sym (eqb-true home p e)) ∙ home_is))

    kept_free : times_free z r y ≡ times_free z s y
    kept_free =
        let here : kept q ≡ y / 8 / 512 = omega arith in
        let slot : 8 * (y / 8) + y % 8 ≡ y = omega arith in
        own_free_lem y (ap (λ (t : ℕ). get z r (owner t)) (sym at) ∙ c.kept_owner q lq)
        ∙ new_slots y
        ∙ sum_cong total (part y) (λ p. cond (eqb home p) (bit (y % 8) (whole p)) 0) (λ p lp. ap (λ (b : Bool). cond b (bit (y % 8) (whole p)) 0) (home_one p lp))
        ∙ sum_at total home (λ p. bit (y % 8) (whole p)) home_below
        ∙ ap (λ (g : ℕ). bit (y % 8) (whole_of (world z s d) g)) home_is
        ∙ w.bits (y / 8) (y % 8) (omega (arith, k.below q lq)) (omega arith) (ap (λ (t : ℕ). get z s (owner t)) (sym here) ∙ k.own q lq)
        ∙ ap (times_free z s) slot

  -- The leaf map is the same.
  same_named : (y : ℕ) → times_named z r y ≡ times_named z s y
  unfolding times_named
  same_named y =
      count_cong z.frames (λ f. eqb (get z r (leaf f)) (suc y)) (λ f. eqb (get z s (leaf f)) (suc y)) λ f m.
      ap (λ (x : ℕ). eqb x (suc y)) (c.same_leaf f m)

  -- So each slot is free or named as often as it should be.
  pub slots_once_lem : (y : ℕ) → y < 4096 * z.treelings → times_free z r y + times_named z r y ≡ cond (is_ordinary z r (y / 4096)) 1 0
  slots_once_lem y ly =
      sorts z s r d h l k c (y / 4096) (omega arith)
      (λ apart. still (free_other z s r d h (others z s r d h l k c) (tag_owner z s r d h l k c w) y ly apart) (kind_other z s r d h (others z s r d h l k c) (y / 4096) (omega arith) apart))
      (λ own empty.
      let none = c.gone_zero (y / 4096) 0 (omega arith) (omega arith) own empty in
      ap₂ ◌+◌ (none_free z r (tag_owner z s r d h l k c w) y none) (same_named y ∙ w.unnamed (y / 4096) y (omega arith) empty refl)
      ∙ sym (ap (λ (b : Bool). cond b 1 0) (not_ordinary z r (y / 4096) none)))
      (λ q lq at. still (kept_free y q lq at) (subst (λ (t : ℕ). is_ordinary z r t ≡ is_ordinary z s t) at (ordinary_test z r (kept q) d (c.kept_owner q lq) ordinary_now ∙ sym (ordinary_test z s (kept q) d (k.own q lq) o))))
    where
      still : times_free z r y ≡ times_free z s y → is_ordinary z r (y / 4096) ≡ is_ordinary z s (y / 4096) → times_free z r y + times_named z r y ≡ cond (is_ordinary z r (y / 4096)) 1 0
      still free same_kind =
          ap₂ ◌+◌ free (same_named y)
          ∙ h.slot_once y ly
          ∙ ap (λ (b : Bool). cond {A = ℕ} b 1 0) (sym same_kind)
