-- What a release finds in a sound state: an entry to mark in a block that may be the head, or the NFL is to be regathered. A block entered by moving back has one.
-- Assumes nothing.
use Prim.Native.Nat.{ℕ, zero, suc, ◌+◌, ◌-◌, ◌*◌, ◌/◌, ◌%◌, ◌^◌, ◌<◌, ◌≤◌}
use mathlib.Core.Path.{◌≡◌, refl, sym, ap, subst, ◌∙◌}
use mathlib.Core.List.{List}
use mathlib.Core.Bool.{Bool, true, false, cond}
use native.Mathlib.Nat.{lt_of_not-le}
use native.Mathlib.Omega.{arith}
use borrow.Author.Tests.{eqb-true, eqb-false, eq-eqb, ne_eqb, lt-ltb, ltb-true, ltb-false}
use lib.Dec.{eqb, ltb}
use Rattle.layout.specs.declared.Sizes.{Sizes}
use Rattle.leaf_map.specs.LeafIds.{treeling_of}
use Rattle.layout.specs.Places.{get, leaf, live, owner, head_treeling, head_block}
use Rattle.sound.proofs.MappedLaws.{MappedBy, page_below}
use Rattle.geometry.proofs.FirstLaws.{first_here, first_holds, first-before}
use Rattle.sound.specs.Sentences.{block_in_order, head_in_order, of_rank}
use Rattle.sound.specs.Sound.{Sound, Ordinary}
use Rattle.world.specs.World.{World, world, owned}
use Rattle.releasing.specs.Releasing.{Step, mark, regather, tagged, spent, in_block, back_from, release_step}
use Rattle.releasing.specs.MovingBack.{MovesBack, one_block, into_previous, HasSpent}
use Rattle.world.proofs.FrameLaws.{either}
use Rattle.world.proofs.WorldLaws.{none_first, of_rank_lem, head_some, previous_some, rank_below_owned}

-- Block q may be the head of a world: entries of blocks before it have no free position, entries of blocks after it have one.
pub record HeadFits (w : World) (q : ℕ) : Type 0 where
  pub below : q < 64 * w.treelings
  pub before : (j : ℕ) → j < 8 * q → w.nfl.free j ≡ 0
  pub after : (j : ℕ) → 8 * q + 8 ≤ j → j < 512 * w.treelings → 0 < w.nfl.free j

-- The block before it may be the head where each of its own entries has a free position.
one_back : (w : World) (q : ℕ) → HeadFits w (suc q) → ((k : ℕ) → k < 8 → 0 < w.nfl.free (8 * suc q + k)) → HeadFits w q
one_back w q h some =
    record {
      below = omega (arith, h.below);
      before = λ j l. h.before j (omega arith);
      after = λ j l m. go j l m (ltb j (8 * suc q + 8)) refl;
    }
  where
    go : (j : ℕ) → 8 * q + 8 ≤ j → j < 512 * w.treelings → (b : Bool) → ltb j (8 * suc q + 8) ≡ b → 0 < w.nfl.free j
    go j l m true e =
        let less = ltb-true j (8 * suc q + 8) e in
        let is : 8 * suc q + (j - 8 * suc q) ≡ j = omega arith in
        subst (λ (x : ℕ). 0 < w.nfl.free x) is (some (j - 8 * suc q) (omega arith))
    go j l m false e = h.after j (omega (arith, ltb-false j (8 * suc q + 8) e)) m

-- The step of a release is one of these: the mark of an entry with tag n, the mark of an entry without a free position, or regathering.
module _ (w : World) (n i : ℕ) (P : Step → Type 0)
    (by_tag : (q k : ℕ) → HeadFits w q → k < 8 → w.nfl.tag (8 * q + k) ≡ n → P (mark (8 * q + k) (w.nfl.free (8 * q + k) + 2 ^ i)))
    (by_spent : (q k : ℕ) → HeadFits w q → k < 8 → w.nfl.free (8 * q + k) ≡ 0 → P (mark (8 * q + k) (2 ^ i)))
    (by_regather : P regather) where
  -- Steps 1 and 2 in block q: where they find nothing, each of its entries has a free position.
  in_block_lem : (q : ℕ) (otherwise : Step) → HeadFits w q → (((k : ℕ) → k < 8 → 0 < w.nfl.free (8 * q + k)) → P otherwise) → P (in_block w n i q otherwise)
  in_block_lem q otherwise fits more = on_tag (ltb (tagged w n i q) 8) refl
    where
      on_spent : (b : Bool) → ltb (spent w n i q) 8 ≡ b → P (cond b (mark (8 * q + spent w n i q) (2 ^ i)) otherwise)
      on_spent true e =
          let less = ltb-true (spent w n i q) 8 e in
          by_spent q (spent w n i q) fits less
          (eqb-true (w.nfl.free (8 * q + spent w n i q)) 0 (first_holds (λ k. eqb (w.nfl.free (8 * q + k)) 0) 0 8 less))
      on_spent false e =
          more λ k l.
          let none = eqb-false (w.nfl.free (8 * q + k)) 0 (first-before (λ x. eqb (w.nfl.free (8 * q + x)) 0) 0 8 k (omega arith) (omega (arith, ltb-false (spent w n i q) 8 e))) in
          lt_of_not-le (λ le. none (omega arith))

      on_tag : (b : Bool) → ltb (tagged w n i q) 8 ≡ b
          → P (cond b (mark (8 * q + tagged w n i q) (w.nfl.free (8 * q + tagged w n i q) + 2 ^ i)) (cond (ltb (spent w n i q) 8) (mark (8 * q + spent w n i q) (2 ^ i)) otherwise))
      on_tag true e =
          let less = ltb-true (tagged w n i q) 8 e in
          by_tag q (tagged w n i q) fits less
          (eqb-true (w.nfl.tag (8 * q + tagged w n i q)) n (first_holds (λ k. eqb (w.nfl.tag (8 * q + k)) n) 0 8 less))
      on_tag false e = on_spent (ltb (spent w n i q) 8) refl

  -- Steps 3 and 4 with block q the head.
  back : (q : ℕ) → HeadFits w q → ((k : ℕ) → k < 8 → 0 < w.nfl.free (8 * q + k)) → P (back_from w n i q)
  unfolding back_from
  back zero fits some = by_regather
  back (suc q) fits some = let before = one_back w q fits some in in_block_lem q (back_from w n i q) before (back q before)

  pub release_cases : HeadFits w w.nfl.head → P (release_step w n i)
  unfolding release_step
  release_cases fits = in_block_lem w.nfl.head (back_from w n i w.nfl.head) fits (back w.nfl.head fits)

-- ---- In a sound state
module _ (z : Sizes) (s : List ℕ) (h : Sound z s) (d : ℕ) (l : d < z.domains) where
  -- The head of an ordinary domain with TreeLings, by its words.
  head_words : Ordinary z s d → 0 < owned z s d → head_in_order z s d ≡ (world z s d).nfl.head
  head_words o some =
      let a = head_some z s h d l o some in
      sym (ap (λ (b : Bool). cond b 0 (head_in_order z s d)) (ne_eqb (get z s (head_treeling d)) 0 (λ e. omega (arith, a.1))))

  -- It fits.
  pub head_fits : Ordinary z s d → 0 < owned z s d → HeadFits (world z s d) (world z s d).nfl.head
  head_fits o some =
      let a = head_some z s h d l o some in
      let is = head_words o some in
      record {
        below = a.4;
        before = λ j less. let t = of_rank_lem z s h d l (j / 512) (omega (arith, a.4)) in h.before_head_lem d (of_rank z s d (j / 512)) (j % 512) t.below (omega arith) t.owner_is o (omega (arith, is, t.rank_is));
        after = λ j more less. let t = of_rank_lem z s h d l (j / 512) (omega arith) in h.after_head_lem d (of_rank z s d (j / 512)) (j % 512) t.below (omega arith) t.owner_is o (omega (arith, is, t.rank_is));
      }

  -- In a block before it step 2 finds the first entry: none there has a free position.
  pub spent-before : Ordinary z s d → 0 < owned z s d → (n i q : ℕ) → q < (world z s d).nfl.head → spent (world z s d) n i q ≡ 0
  spent-before o some n i q less =
      let w = world z s d in
      first_here (λ k. eqb (w.nfl.free (8 * q + k)) 0) 0 7
      (eq-eqb (w.nfl.free (8 * q + 0)) 0 ((head_fits o some).before (8 * q + 0) (omega arith)))

  -- So any step may stand for finding none one block back: the head moves back one block at most.
  pub back_once : Ordinary z s d → 0 < owned z s d → (n i q : ℕ) (x : Step) → (world z s d).nfl.head ≡ suc q → back_from (world z s d) n i (suc q) ≡ in_block (world z s d) n i q x
  unfolding back_from
  back_once o some n i q x is =
      let w = world z s d in
      let by : Step → Bool → Step = λ y b. cond (ltb (tagged w n i q) 8) (mark (8 * q + tagged w n i q) (w.nfl.free (8 * q + tagged w n i q) + 2 ^ i)) (cond b (mark (8 * q + spent w n i q) (2 ^ i)) y) in
      let found : ltb (spent w n i q) 8 ≡ true = lt-ltb (spent w n i q) 8 (omega (arith, spent-before o some n i q (omega arith))) in
      ap (by (back_from w n i q)) found ∙ sym (ap (by x) found)

  -- A domain with a head block is ordinary,
  pub head_ordinary : (u : ℕ) → get z s (head_treeling d) ≡ suc u → Ordinary z s d
  head_ordinary u is =
      either (get z s (live d)) 0
      (λ dead. absurd (omega (arith, h.dead_zero d 3 l (omega arith) dead)))
      (λ alive. omega (arith, h.live_range d l))

  moves_ordinary : (t b : ℕ) → MovesBack z s d t b → Ordinary z s d
  moves_ordinary _ _ (one_block t b head block) = head_ordinary t head
  moves_ordinary _ _ (into_previous u t head block before) = head_ordinary u head

  -- and the block is in a TreeLing of its own.
  head_owner : (u : ℕ) → get z s (head_treeling d) ≡ suc u → (u < z.treelings) × (get z s (owner u) ≡ suc d) × ((world z s d).nfl.head ≡ block_in_order z s u (get z s (head_block d)))
  head_owner u is =
      let some : 0 < owned z s d = lt_of_not-le (λ none. omega (arith, h.empty_zero d 2 l (omega arith) (none_first z s h d l (omega arith)))) in
      let a = head_some z s h d l (head_ordinary u is) some in
      let same : a.0 ≡ u = omega (arith, a.1) in
      (omega (arith, h.head_range d l), ap (λ (t : ℕ). get z s (owner t)) (sym same) ∙ a.2.owner_is, a.3 ∙ ap (λ (t : ℕ). block_in_order z s t (get z s (head_block d))) same)

  -- A block entered by moving back is the domain's, right before the head in rank order, as `back_from` has it;
  pub entered : (t b : ℕ) → MovesBack z s d t b → (t < z.treelings) × (b < 64) × (get z s (owner t) ≡ suc d) × ((world z s d).nfl.head ≡ suc (block_in_order z s t b))
  entered _ _ (one_block t b head block) =
      let own = head_owner t head in
      (own.0, omega (arith, h.block_range d l), own.1, omega (arith, own.2))
  entered _ _ (into_previous u t head block before) =
      let own = head_owner u head in
      let a = previous_some z s h d l u t own.0 own.1 before in
      (a.1.below, omega arith, a.1.owner_is, omega (arith, own.2, a.1.rank_is, a.2))

  -- so it has an entry without a free position: each of its entries is one.
  pub never_stuck : (t b : ℕ) → MovesBack z s d t b → HasSpent z s t b
  never_stuck t b back =
      let e = entered t b back in
      let o = moves_ordinary t b back in
      let is = head_words o (omega (arith, rank_below_owned z s h d l t e.0 e.2)) in
      record { index = 0; index_below = omega arith; none_free = h.before_head_lem d t (8 * b + 0) e.0 (omega (arith, e.1)) e.2 o (omega (arith, is, e.3)) }

  module _ (f : ℕ) (k : f < z.frames) (m : MappedBy z s d f) where
    -- The TreeLing of a mapped page is one of the state's, and the domain's.
    pub mapped_below : treeling_of (get z s (leaf f)) < z.treelings
    mapped_below = page_below z s h f k m.some

    pub mapped_some : 0 < owned z s d
    mapped_some =
        omega (arith, rank_below_owned z s h d l (treeling_of (get z s (leaf f))) mapped_below m.own)
