-- Regathering for a released page: what is gathered above, with the position released, is each leaf node's whole availability.
-- Assumes nothing.
use Prim.Native.Nat.{ℕ, suc, ◌+◌, ◌-◌, ◌*◌, ◌/◌, ◌^◌, ◌<◌}
use mathlib.Core.Path.{◌≡◌, sym, ap, ◌∙◌}
use mathlib.Core.List.{List}
use mathlib.Core.Bool.{Bool, true, false, cond}
use native.Mathlib.Omega.{arith}
use borrow.Author.Tests.{eqb-true, eq-eqb}
use lib.Dec.{eqb}
use Rattle.layout.specs.declared.Sizes.{Sizes}
use Rattle.geometry.specs.Entries.{tag_of, availability_of}
use Rattle.layout.specs.Places.{Laid, get, put, last, owner}
use Rattle.layout.specs.Bounded.{sum}
use Rattle.sound.specs.Sound.{Sound, Ordinary}
use Rattle.sound.proofs.BitLaws.{shifted_one}
use Rattle.sound.specs.Sentences.{of_rank}
use Rattle.world.specs.World.{world, owned, node_of}
use Rattle.gathering.specs.Regathering.{whole_of, regathered, whole_with}
use Rattle.gathering.specs.CodeGathering.{Chain, Filled, room, home_of, word_of, above_at, above_in, gathered_above, gathering_word}
use Rattle.sound.proofs.TestLaws.{same_test}
use Rattle.world.proofs.WorldLaws.{owned_most}
use Rattle.gathering.proofs.GatherLaws.{fill_chain, fill_word, fill_domain, fill_ranks, own_chain, own_last, word_small, home, home_small, fill_home, above_small}
use Rattle.gathering.proofs.SettleLaws.{above_node, regathered_same}

module _ (z : Sizes) (s : List ℕ) (h : Sound z s) (d : ℕ) (l : d < z.domains) (n i : ℕ) (few : i < 8) where
  -- The whole availability of leaf node p in rank order.
  abbrev whole : ℕ → ℕ
  whole p = whole_with (world z s d) n i (node_of z s d p)

  -- It is what is gathered, and the position released.
  whole_is : (p : ℕ) → whole p ≡ gathered_above z s d (512 * owned z s d) p + cond (eqb n (node_of z s d p)) (2 ^ i) 0
  unfolding whole_of whole_with gathered_above
  whole_is p =
      ap (λ (b : Bool). sum (512 * owned z s d) (λ q. cond (eqb (tag_of (word_of z s d q)) (node_of z s d p)) (availability_of (word_of z s d q)) 0) + cond b (2 ^ i) 0)
      (same_test (eqb (node_of z s d p) n) (eqb n (node_of z s d p))
      (λ e. eq-eqb n (node_of z s d p) (sym (eqb-true (node_of z s d p) n e)))
      (λ e. eq-eqb (node_of z s d p) n (sym (eqb-true n (node_of z s d p) e))))

  -- A position's bit and a whole availability are small.
  position_small : 2 ^ i < 256
  position_small = omega (arith, shifted_one i few)

  whole_small : (p : ℕ) → whole p < 1073741824
  whole_small p =
      omega (arith, whole_is p, by_test (eqb n (node_of z s d p)), above_small z s h d l (512 * owned z s d) p, owned_most z s h d l, h.laid_out.laid.sizes.max_treelings)
    where
      by_test : (b : Bool) → cond b (2 ^ i) 0 < 256
      by_test true = position_small
      by_test false = omega arith

  -- After the first pass the position released can be added, and then each leaf node's whole availability stands above its own entry.
  module _ (o : Ordinary z s d) (below : n < 512 * z.treelings) (own : get z s (owner (n / 512)) ≡ suc d) (bits : ℕ) (bits_are : bits ≡ 2 ^ i)
      {r : List ℕ} (f : Filled z s d r (owned z s d) (gathering_word z s d (512 * owned z s d))) where
    -- What adding asks for.
    pub add_asks : Laid z r × ((n < 512 * z.treelings) × (bits < 256) × (get z r (home_of n) < 9223372036854775808))
    add_asks =
        let at = home z s h d l n below own in
        ((fill_chain (own_chain z s h d l) f).laid, (below, omega (arith, position_small), home_small z s h d l o r (512 * owned z s d) n at.0 at.1 f (omega arith)))

    some : 0 < owned z s d
    some = omega (arith, (home z s h d l n below own).1.below)

    -- What it leaves.
    module _ (q : List ℕ) (is : q ≡ put z r (home_of n) (get z r (home_of n) + room * bits)) where
      abbrev added : ℕ → ℕ
      added p = word_of z s d p + room * whole p

      filled : Filled z s d q (owned z s d) added
      filled =
          let at = home z s h d l n below own in
          rw (is, bits_are) (fill_home z s h d l r (gathering_word z s d (512 * owned z s d)) added n at.0 (2 ^ i) at.1 f (λ p k. omega (arith, whole_is p)))

      above : (p : ℕ) → p < 512 * owned z s d → above_in z q d p ≡ whole p
      above p k = omega (arith, fill_word (own_chain z s h d l) filled p k, word_small z s h d l o p k)

      -- So the passes that follow can be made, by the number of TreeLings m as the code has it,
      module _ (m : ℕ) (e : m ≡ owned z s d) where
        pub settle_asks : Chain z q d m × (((0 < m) × (get z q (last d) ≡ suc (of_rank z q d (m - 1)))) × ((p : ℕ) → p < 512 * m → above_in z q d p < 1073741824))
        settle_asks =
            let chain = own_chain z s h d l in
            rw e (
              fill_chain chain filled,
              (
                (some, fill_domain chain filled d 2 l (omega arith) ∙ own_last z s h d l some ∙ ap suc (sym (fill_ranks chain filled (owned z s d - 1) (omega (arith, some))))),
                λ p k. omega (arith, above p k, whole_small p),
              ),
            )

        -- and leave the NFL regathered.
        pub regather_is : (w : List ℕ) → w ≡ regathered z q d m (above_at z q) → w ≡ regathered z s d (owned z s d) (whole_with (world z s d) n i)
        regather_is w to =
            to
            ∙ ap (λ (k : ℕ). regathered z q d k (above_at z q)) e
            ∙ regathered_same z s d (owned z s d) (own_chain z s h d l) (whole_with (world z s d) n i) q filled (above_at z q) (λ p k. sym (above_node z q d p) ∙ above p k) some
