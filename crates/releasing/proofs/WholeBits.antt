-- A leaf node's whole availability in a sound state: a byte, with a bit for each slot of the node that is free. The same with a released position, whose slot is not free yet.
-- Assumes nothing.
use Prim.Native.Nat.{ℕ, suc, ◌+◌, ◌*◌, ◌/◌, ◌%◌, ◌^◌, ◌<◌, ◌≤◌}
use mathlib.Core.Path.{◌≡◌, refl, sym, ap, ap₂, ◌∙◌}
use mathlib.Core.List.{List}
use mathlib.Core.Bool.{Bool, true, false, cond, ◌&&◌}
use native.Mathlib.Omega.{arith}
use borrow.Author.Tests.{eqb-true, eq-eqb, ne_eqb}
use lib.Dec.{eqb}
use Rattle.layout.specs.declared.Sizes.{Sizes}
use Rattle.geometry.specs.Tables.{bit}
use Rattle.geometry.specs.Entries.{tag_of, availability_of}
use Rattle.layout.specs.Places.{Place, get, entry, owner, rank}
use Rattle.layout.specs.Bounded.{sum}
use Rattle.layout.proofs.BoundedLaws.{and_both, sum_cong, count-sum, count_some, count_found}
use Rattle.sound.specs.Sentences.{is_ordinary, marks_free, times_free}
use Rattle.sound.specs.Sound.{Sound, Ordinary}
use Rattle.sound.proofs.BitLaws.{bit_none}
use Rattle.sound.proofs.TestLaws.{and_left, same_test, an_ordinary}
use Rattle.world.specs.World.{world, owned, entry_of}
use Rattle.world.proofs.WorldLaws.{rank_below_owned, entry_back}
use Rattle.world.proofs.FrameLaws.{either}
use Rattle.taking.proofs.TakenSlots.{entry_through}
use Rattle.placing.proofs.NoPlace.{once}
use Rattle.gathering.specs.Regathering.{whole_of, whole_with}
use Rattle.releasing.proofs.FreeBitLaws.{byte_added, bits_added, bytes_summed, power_below, marks_bit, slot_bit}
use Rattle.releasing.proofs.RefillLaws.{one, own_free, own_most}

-- A number where a test holds, else none: at most the number, and its bits.
pub cond_most : (b : Bool) (a : ℕ) → cond b a 0 ≤ a
cond_most true a = omega arith
cond_most false a = omega arith

cond_bit : (b : Bool) (c a : ℕ) → bit c (cond b a 0) ≡ cond b (bit c a) 0
cond_bit true c a = refl
cond_bit false c a = bit_none c

-- Bit c of node g is slot 8g + c.
module _ (g c : ℕ) (lc : c < 8) where
  slot_node : (8 * g + c) / 8 ≡ g
  slot_node = omega arith

  slot_place : (8 * g + c) % 8 ≡ c
  slot_place = omega arith

module _ (z : Sizes) (s : List ℕ) (h : Sound z s) (d : ℕ) (l : d < z.domains) (o : Ordinary z s d) where
  -- What entry j in rank order has of node g.
  abbrev share : ℕ → ℕ → ℕ
  share g j = cond (eqb ((world z s d).nfl.tag j) g) ((world z s d).nfl.free j) 0

  -- The shares have a bit as often as its slot is free in the domain's entries,
  shares_bit : (g c : ℕ) → c < 8 → sum (512 * owned z s d) (λ j. bit c (share g j)) ≡ own_free z s d s (8 * g + c)
  unfolding own_free
  shares_bit g c lc =
      sum_cong (512 * owned z s d) (λ j. bit c (share g j)) (λ j. one (marks_free z s (8 * g + c) (get z s (entry_of z s d j)))) (λ j _. by_word (get z s (entry_of z s d j)))
      ∙ sym (count-sum (512 * owned z s d) (λ j. marks_free z s (8 * g + c) (get z s (entry_of z s d j))))
    where
      by_word : (w : ℕ) → bit c (cond (eqb (tag_of w) g) (availability_of w) 0) ≡ one (marks_free z s (8 * g + c) w)
      by_word w =
          cond_bit (eqb (tag_of w) g) c (availability_of w)
          ∙ sym (ap₂ (λ (u v : ℕ). cond (eqb (tag_of w) u) (bit v (availability_of w)) 0) (slot_node g c lc) (slot_place g c lc))
          ∙ sym (marks_bit z s (8 * g + c) w)

  -- and that is at most once.
  free_once : (y : ℕ) → y < 4096 * z.treelings → own_free z s d s y ≤ 1
  free_once y ly = omega (arith, own_most z s d h l o y, h.slot_once y ly, cond_most (is_ordinary z s (y / 4096)) 1)

  -- So they make a byte, with a bit for each slot that is free there.
  whole_bits : (g : ℕ) → g < 512 * z.treelings → (whole_of (world z s d) g < 256) × ((c : ℕ) → c < 8 → bit c (whole_of (world z s d) g) ≡ sum (512 * owned z s d) (λ j. bit c (share g j)))
  unfolding whole_of
  whole_bits g lg =
      bytes_summed (512 * owned z s d) (share g)
      (λ j _. omega (arith, cond_most (eqb ((world z s d).nfl.tag j) g) ((world z s d).nfl.free j)))
      (λ c lc. omega (arith, shares_bit g c lc, free_once (8 * g + c) (omega arith)))

  pub whole_byte : (g : ℕ) → g < 512 * z.treelings → whole_of (world z s d) g < 256
  whole_byte g lg = (whole_bits g lg).0

  pub whole_own_bit : (g c : ℕ) → g < 512 * z.treelings → c < 8 → bit c (whole_of (world z s d) g) ≡ own_free z s d s (8 * g + c)
  whole_own_bit g c lg lc = (whole_bits g lg).1 c lc ∙ shares_bit g c lc

  -- ---- Slots of the domain's TreeLings
  -- An entry of an ordinary domain that marks one free is the domain's: those of others name their own leaf nodes.
  module _ (y : ℕ) (own : get z s (owner (y / 4096)) ≡ suc d) where
    whose : (j : ℕ) → j < 512 * z.treelings → is_ordinary z s (j / 512) ≡ true → marks_free z s y (get z s (entry 0 j)) ≡ true → get z s (owner (j / 512)) ≡ suc d
    whose j lj kind marks =
        let c = an_ordinary z s (j / 512) kind in
        let through = entry_through z s (j / 512) (j % 512) j (omega arith) in
        let tag = eqb-true (tag_of (get z s (entry 0 j))) (y / 8) (and_left (eqb (tag_of (get z s (entry 0 j))) (y / 8)) (eqb (bit (y % 8) (availability_of (get z s (entry 0 j)))) 1) marks) in
        let home : tag_of (get z s (entry (j / 512) (j % 512))) / 512 ≡ y / 4096 = omega arith in
        c.1 ∙ sym (h.tag_own c.0 (j / 512) (j % 512) (omega arith) (omega arith) c.1 c.2) ∙ ap (λ (u : ℕ). get z s (owner u)) home ∙ own

    own_marks : (j : ℕ) → j < 512 * z.treelings → is_ordinary z s (j / 512) ≡ true → marks_free z s y (get z s (entry 0 j)) ≡ true → 0 < own_free z s d s y
    unfolding own_free
    own_marks j lj kind marks =
        let t = j / 512 in
        let mine = whose j lj kind marks in
        count_some (512 * owned z s d) (λ q. marks_free z s y (get z s (entry_of z s d q))) (512 * get z s (rank t) + j % 512)
        (omega (arith, rank_below_owned z s h d l t (omega arith) mine))
        (ap (λ (p : Place). marks_free z s y (get z s p)) (entry_back z s h d l t (j % 512) (omega arith) mine (omega arith))
        ∙ ap (marks_free z s y) (entry_through z s t (j % 512) j (omega arith))
        ∙ marks)

  -- So it is free in the domain's entries as often as in all.
  pub own_free_all : (y : ℕ) → y < 4096 * z.treelings → get z s (owner (y / 4096)) ≡ suc d → own_free z s d s y ≡ times_free z s y
  unfolding times_free
  own_free_all y ly own =
      let most = own_most z s d h l o y in
      either (times_free z s y) 0
      (λ none. omega arith)
      (λ some.
      let found = count_found (512 * z.treelings) (λ j. is_ordinary z s (j / 512) && marks_free z s y (get z s (entry 0 j))) (omega arith) in
      let both = and_both (is_ordinary z s (found.0 / 512)) (marks_free z s y (get z s (entry 0 found.0))) found.2 in
      omega (arith, once z s d h l o y ly own, own_marks y own found.0 found.1 both.0 both.1))

  -- So the whole has a bit for each slot that is free.
  pub whole_bit : (g c : ℕ) → g < 512 * z.treelings → c < 8 → get z s (owner (g / 512)) ≡ suc d → bit c (whole_of (world z s d) g) ≡ times_free z s (8 * g + c)
  whole_bit g c lg lc own =
      let home : (8 * g + c) / 4096 ≡ g / 512 = omega arith in
      whole_own_bit g c lg lc ∙ own_free_all (8 * g + c) (omega arith) (ap (λ (t : ℕ). get z s (owner t)) home ∙ own)

  -- ---- With a released position, that of slot x, which is not free yet
  module _ (x : ℕ) (taken : times_free z s x ≡ 0) where
    -- What it adds to node g.
    abbrev added : ℕ → ℕ
    added g = cond (eqb g (x / 8)) (2 ^ (x % 8)) 0

    -- It is that slot's bit.
    added_bit : (g c : ℕ) → c < 8 → bit c (added g) ≡ one (eqb x (8 * g + c))
    added_bit g c lc =
        let n = x / 8 in
        let i = x % 8 in
        let is : 8 * n + i ≡ x = omega arith in
        let turned : eqb g n ≡ eqb n g = same_test (eqb g n) (eqb n g) (λ e. eq-eqb n g (sym (eqb-true g n e))) (λ e. eq-eqb g n (sym (eqb-true n g e))) in
        cond_bit (eqb g n) c (2 ^ i)
        ∙ ap (λ (b : Bool). cond b (bit c (2 ^ i)) 0) turned
        ∙ sym (ap₂ (λ (u v : ℕ). cond (eqb n u) (bit v (2 ^ i)) 0) (slot_node g c lc) (slot_place g c lc))
        ∙ sym (slot_bit n i (8 * g + c) (omega arith))
        ∙ ap (λ (v : ℕ). one (eqb v (8 * g + c))) is

    -- A slot is free or released, at most once.
    released_once : (y : ℕ) → y < 4096 * z.treelings → own_free z s d s y + one (eqb x y) ≤ 1
    released_once y ly =
        either x y
        (λ is. omega (arith, ap one (eq-eqb x y is), own_most z s d h l o y, ap (times_free z s) is))
        (λ apart. omega (arith, ap one (ne_eqb x y apart), free_once y ly))

    -- So the whole with it is a byte too, with a bit for each slot that is free or released.
    module _ (g : ℕ) (lg : g < 512 * z.treelings) where
      more : added g < 256
      more = omega (arith, cond_most (eqb g (x / 8)) (2 ^ (x % 8)), power_below (x % 8) (omega arith))

      apart : (c : ℕ) → c < 8 → bit c (whole_of (world z s d) g) + bit c (added g) ≤ 1
      apart c lc = omega (arith, whole_own_bit g c lg lc, added_bit g c lc, released_once (8 * g + c) (omega arith))

      pub with_byte_lem : whole_with (world z s d) (x / 8) (x % 8) g < 256
      unfolding whole_with
      with_byte_lem = byte_added (whole_of (world z s d) g) (added g) (whole_byte g lg) more apart

      pub with_bit : (c : ℕ) → c < 8 → bit c (whole_with (world z s d) (x / 8) (x % 8) g) ≡ own_free z s d s (8 * g + c) + one (eqb x (8 * g + c))
      unfolding whole_with
      with_bit c lc =
          bits_added (whole_of (world z s d) g) (added g) (whole_byte g lg) more apart c
          ∙ ap₂ ◌+◌ (whole_own_bit g c lg lc) (added_bit g c lc)
