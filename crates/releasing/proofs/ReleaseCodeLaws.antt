-- Laws for the code of releasing: what is decided in a block and in the one before it by the words read, the writes, and what a release leaves.
-- Assumes nothing.
use Prim.Native.Nat.{ℕ, suc, ◌+◌, ◌-◌, ◌*◌, ◌/◌, ◌%◌, ◌^◌, ◌<◌, ◌≤◌}
use mathlib.Core.Path.{◌≡◌, refl, sym, ap, ap₂, subst, ◌∙◌}
use mathlib.Core.Bool.{Bool, true, false, cond, false≢true}
use mathlib.Core.List.{List}
use native.Mathlib.Nat.{one-mul, lt_of_not-le}
use native.Mathlib.Omega.{arith}
use borrow.Author.Tests.{ltb-true, ltb-false, eq-eqb, ne_eqb, eqb-true, eqb-false}
use lib.Dec.{eqb, ltb}
use lib.ListN.{get_or, set}
use lib.Pow.{shl_exact}
use Rattle.layout.specs.declared.Sizes.{Sizes}
use Rattle.geometry.specs.Entries.{entry_word, tag_of, availability_of}
use Rattle.leaf_map.specs.LeafIds.{node_of_leaf, position_of_leaf, slot_number, treeling_of}
use Rattle.layout.specs.Places.{Place, entry, address, get, put, leaf, pages_mapped, owner, previous, rank, head_treeling, head_block}
use Rattle.blocks.specs.Blocks.{block}
use Rattle.geometry.specs.Tables.{bit, first_from}
use Rattle.sound.proofs.MappedLaws.{MappedBy, mapped_by, mapped_id, mapped_slot}
use Rattle.leaf_map.proofs.LeafIdLaws.{SlotId, names, node_treeling, position_below}
use Rattle.geometry.proofs.FirstLaws.{first_cong, first_holds}
use Rattle.sound.specs.Sound.{Sound, Ordinary}
use Rattle.sound.specs.Sentences.{block_in_order, is_mapped_by, true_number, of_rank}
use Rattle.sound.proofs.BitLaws.{bit_most, single_bit}
use Rattle.std.specs.Prelude.{Option, Some, None}
use Rattle.std.specs.Option.{IsSome, option_or}
use Rattle.std.proofs.lemmas.Option.{none-some, same_Some}
use Rattle.world.specs.Find.{find_from}
use Rattle.releasing.specs.declared.Plan.{Plan}
use Rattle.releasing.specs.declared.Plan.TheVariants.{Mark, Regather}
use Rattle.placing.specs.declared.Spot.{Spot}
use Rattle.world.specs.World.{world, owned, entry_of, head_to}
use Rattle.gathering.specs.Regathering.{regathered, whole_with}
use Rattle.releasing.specs.Releasing.{Step, mark, regather, tagged, spent, in_block, back_from, release_step, unmapped, after_step, releasing}
use Rattle.placing.specs.Placing.{spot_at}
use Rattle.releasing.specs.CodePlan.{plan_of}
use Rattle.world.proofs.WorldLaws.{rank_below_owned, of_rank_lem, entry_back, of_rank_back, previous_some, previous_none, head_some}
use Rattle.world.proofs.BlockCodeLaws.{block-word}
use Rattle.world.proofs.FrameLaws.{either}
use Rattle.releasing.proofs.FreeBitLaws.{byte_added, power_below, marks_bit}
use Rattle.releasing.proofs.NeverStuck.{mapped_some, head_fits, release_cases, spent-before}
use Rattle.releasing.proofs.RefillLaws.{not_marked}
use Rattle.world.proofs.ChangeLaws.{count_zero}
use Rattle.releasing.proofs.ReleasedSound.{released_sound}

-- ---- Steps 1 and 2 by the words of a block
-- The bit of position i, as the code makes it.
pub shifted : (i : ℕ) → i < 8 → (1 * 2 ^ i) % 2 ^ 64 ≡ 2 ^ i
shifted i small = shl_exact 1 i 64 (omega arith) (omega arith) ∙ one-mul (2 ^ i)

-- Entry k of TreeLing t gets it,
abbrev marks : Sizes → List ℕ → ℕ → ℕ → ℕ → Plan
marks z s t k i = Mark (spot_at t k) (availability_of (get z s (entry t k)) + 2 ^ i)

-- by the word read at a.
pub marks_read : (z : Sizes) (s : List ℕ) (t k i a : ℕ) → i < 8 → a ≡ address z (entry t k) → Mark (spot_at t k) (availability_of (get_or s a 0) + (1 * 2 ^ i) % 2 ^ 64) ≡ marks z s t k i
marks_read z s t k i a small at =
    ap₂ (λ (c v : ℕ). Mark (spot_at t k) (availability_of (get_or s c 0) + v)) at (shifted i small)

-- The two searches of a block's words,
abbrev first_tagged : List ℕ → ℕ → ℕ
first_tagged ws n = first_from (λ k. eqb (tag_of (get_or ws k 0)) n) 0 8

abbrev first_spent : List ℕ → ℕ
first_spent ws = first_from (λ k. eqb (availability_of (get_or ws k 0)) 0) 0 8

-- and the entry that they give, by their answers.
abbrev first_of : ℕ → ℕ → ℕ
first_of k e = cond (ltb k 8) k e

abbrev taker : List ℕ → ℕ → ℕ
taker ws n = first_of (first_tagged ws n) (first_spent ws)

-- What the code's search answers: that entry, or none.
abbrev taker_found : List ℕ → ℕ → Option ℕ
taker_found ws n = option_or (find_from (λ k. eqb (tag_of (get_or ws k 0)) n) 0 8) (find_from (λ k. eqb (availability_of (get_or ws k 0)) 0) 0 8)

-- One search, and where it finds none another one.
pub found_or : (r q a b : Option ℕ) → r ≡ a → (r ≡ None → q ≡ b) → ((k : ℕ) → r ≡ Some k → q ≡ Some k) → q ≡ option_or a b
found_or None q a b is none some = rw (sym is) (none refl)
found_or (Some k) q a b is none some = rw (sym is) (some k refl)

module _ (ws : List ℕ) (n : ℕ) where
  abbrev by_both : Bool → Bool → Option ℕ
  by_both x y = option_or (cond x (Some (first_tagged ws n)) None) (cond y (Some (first_spent ws)) None)

  pub some_taken : (k : ℕ) → taker_found ws n ≡ Some k → (k ≡ taker ws n) × (k < 8)
  some_taken k = by (ltb (first_tagged ws n) 8) (ltb (first_spent ws) 8) refl refl
    where
      by : (x y : Bool) → ltb (first_tagged ws n) 8 ≡ x → ltb (first_spent ws) 8 ≡ y → by_both x y ≡ Some k → (k ≡ taker ws n) × (k < 8)
      by true y hx hy e =
          let is = sym (same_Some (first_tagged ws n) k e) in
          (is ∙ rw hx refl, omega (arith, ltb-true (first_tagged ws n) 8 hx))
      by false true hx hy e =
          let is = sym (same_Some (first_spent ws) k e) in
          (is ∙ rw hx refl, omega (arith, ltb-true (first_spent ws) 8 hy))
      by false false hx hy e = absurd (none-some k e)

  pub none_taken : taker_found ws n ≡ None → 8 ≤ taker ws n
  none_taken = by (ltb (first_tagged ws n) 8) (ltb (first_spent ws) 8) refl refl
    where
      by : (x y : Bool) → ltb (first_tagged ws n) 8 ≡ x → ltb (first_spent ws) 8 ≡ y → by_both x y ≡ None → 8 ≤ taker ws n
      by true y hx hy e = absurd (none-some _ (sym e))
      by false true hx hy e = absurd (none-some _ (sym e))
      by false false hx hy e = rw hx (ltb-false (first_spent ws) 8 hy)

  pub taker_some : (r : Option ℕ) → r ≡ taker_found ws n → taker ws n < 8 → IsSome r
  taker_some None is below = absurd (omega (arith, none_taken (sym is)))
  taker_some (Some k) is below = refl

-- ---- A block in rank order
-- Block b of TreeLing t is one of domain d's.
abbrev pub OwnBlock : Sizes → List ℕ → ℕ → ℕ → ℕ → Type 0
OwnBlock z s d t b =
    Sound z s × (((d < z.domains) × (t < z.treelings) × (b < 64)) × (get z s (owner t) ≡ suc d))

-- The block before block q in rank order, as the code has it: there is none, or not, by x.
abbrev before_by : Sizes → List ℕ → ℕ → ℕ → Bool → Option (ℕ × ℕ)
before_by z s d q x = cond x None (Some (of_rank z s d ((q - 1) / 64), (q - 1) % 64))

abbrev block_before : Sizes → List ℕ → ℕ → ℕ → Option (ℕ × ℕ)
block_before z s d q = before_by z s d q (eqb q 0)

module _ (z : Sizes) (s : List ℕ) (d t b : ℕ) (own : OwnBlock z s d t b) where
  -- Its number in rank order.
  abbrev q : ℕ
  q = block_in_order z s t b

  -- ---- The block before it
  -- Block e of TreeLing u, where this one comes next after it:
  after_block : (u e : ℕ) → OwnBlock z s d u e → q ≡ suc (block_in_order z s u e) → Some (u, e) ≡ block_before z s d q
  after_block u e there is =
      let rank_is : (q - 1) / 64 ≡ get z s (rank u) = omega arith in
      let number_is : (q - 1) % 64 ≡ e = omega arith in
      sym (ap₂ (λ (x y : ℕ). Some (x, y)) (ap (of_rank z s d) rank_is ∙ of_rank_back z s there.0 d there.1.0.0 u there.1.0.1 there.1.1) number_is)
      ∙ ap (before_by z s d q) (sym (ne_eqb q 0 (λ none. omega arith)))

  -- of the same TreeLing,
  pub before_here : 0 < b → Some (t, b - 1) ≡ block_before z s d q
  before_here some =
      after_block t (b - 1) (own.0, ((own.1.0.0, own.1.0.1, omega arith), own.1.1)) (omega arith)

  -- or of the previous one, whose link is the word at a,
  module _ (a : ℕ) (at_a : a ≡ address z (previous t)) (start : b ≤ 0) where
    link : get_or s a 0 ≡ get z s (previous t)
    link = ap (λ (k : ℕ). get_or s k 0) at_a

    pub before-previous : (get_or s a 0 ≡ 0 → ⊥) → Some (get_or s a 0 - 1, 63) ≡ block_before z s d q
    before-previous some =
        let u = get_or s a 0 - 1 in
        let f = previous_some z s own.0 d own.1.0.0 t u own.1.0.1 own.1.1 (omega (arith, link)) in
        after_block u 63 (own.0, ((own.1.0.0, f.1.below, omega arith), f.1.owner_is)) (omega (arith, f.1.rank_is, f.2))

    -- or there is none.
    pub before_none : get_or s a 0 ≡ 0 → None ≡ block_before z s d q
    before_none none =
        let first = previous_none z s own.0 d own.1.0.0 t own.1.0.1 own.1.1 (sym link ∙ none) in
        ap (before_by z s d q) (sym (eq-eqb q 0 (omega arith)))

  -- What it tells.
  abbrev Told : Option (ℕ × ℕ) → Type 0
  Told (Some p) = OwnBlock z s d p.0 p.1 × (q ≡ suc (block_in_order z s p.0 p.1))
  Told None = q ≡ 0

  telling : (x : Bool) → eqb q 0 ≡ x → Told (before_by z s d q x)
  telling true e = eqb-true q 0 e
  telling false e =
      let some = eqb-false q 0 e in
      let f = of_rank_lem z s own.0 d own.1.0.0 ((q - 1) / 64) (omega (arith, rank_below_owned z s own.0 d own.1.0.0 t own.1.0.1 own.1.1)) in
      ((own.0, ((own.1.0.0, f.below, omega arith), f.owner_is)), omega (arith, f.rank_is))

  pub told : (x y : Option (ℕ × ℕ)) → x ≡ block_before z s d q → x ≡ y → Told y
  told x y is same = subst Told (sym is ∙ same) (telling (eqb q 0) refl)

  -- ---- Its entries
  -- Its entry k,
  block_entry : (k : ℕ) → k < 8 → entry_of z s d (8 * q + k) ≡ entry t (8 * b + k)
  block_entry k less =
      ap (entry_of z s d) (omega arith)
      ∙ entry_back z s own.0 d own.1.0.0 t (8 * b + k) own.1.0.1 own.1.1 (omega arith)

  -- as it is marked.
  block_mark : (k i : ℕ) → k < 8 → marks z s t (8 * b + k) i ≡ plan_of z s d (mark (8 * q + k) ((world z s d).nfl.free (8 * q + k) + 2 ^ i))
  unfolding plan_of
  block_mark k i less =
      let rank_is : (8 * q + k) / 512 ≡ get z s (rank t) = omega arith in
      let entry_is : (8 * q + k) % 512 ≡ 8 * b + k = omega arith in
      ap (λ (e : Place). Mark (spot_at t (8 * b + k)) (availability_of (get z s e) + 2 ^ i)) (sym (block_entry k less))
      ∙ sym (ap₂ (λ (u e : ℕ). Mark (spot_at u e) ((world z s d).nfl.free (8 * q + k) + 2 ^ i)) (ap (of_rank z s d) rank_is ∙ of_rank_back z s own.0 d own.1.0.0 t own.1.0.1 own.1.1) entry_is)

  -- Node n and position i are released, and the words of the block are read:
  module _ (n i : ℕ) (ws : List ℕ) (read : ws ≡ block z s t b) where
    -- each of them, the first of which a test holds,
    block_read : (k : ℕ) → k < 8 → get_or ws k 0 ≡ get z s (entry_of z s d (8 * q + k))
    block_read k less =
        ap (λ (l : List ℕ). get_or l k 0) read ∙ block-word z s t b k less ∙ ap (get z s) (sym (block_entry k less))

    block-first : (p : ℕ → Bool) → first_from (λ k. p (get_or ws k 0)) 0 8 ≡ first_from (λ k. p (get z s (entry_of z s d (8 * q + k)))) 0 8
    block-first p =
        first_cong (λ k. p (get_or ws k 0)) (λ k. p (get z s (entry_of z s d (8 * q + k)))) 0 8 (λ k from less. ap p (block_read k less))

    -- and so the answers of the two searches.
    abbrev k1 : ℕ
    k1 = tagged (world z s d) n i q

    abbrev k2 : ℕ
    k2 = spent (world z s d) n i q

    spent_is : first_spent ws ≡ k2
    spent_is = block-first (λ w. eqb (availability_of w) 0)

    taker_is : (k : ℕ) → k ≡ taker ws n → k ≡ first_of k1 k2
    taker_is k is = is ∙ ap₂ first_of (block-first (λ w. eqb (tag_of w) n)) spent_is

    -- Steps 1 and 2, and otherwise step c, by their tests.
    abbrev picked : Step → Bool → Bool → Plan
    picked c x y =
        plan_of z s d
        (cond x (mark (8 * q + k1) ((world z s d).nfl.free (8 * q + k1) + 2 ^ i)) (cond y (mark (8 * q + k2) (2 ^ i)) c))

    abbrev plan_in : Step → Plan
    plan_in c = plan_of z s d (in_block (world z s d) n i q c)

    module _ (c : Step) (k : ℕ) (taken_at : k ≡ taker ws n) where
      by_tests : (x y : Bool) → ltb k1 8 ≡ x → ltb k2 8 ≡ y → picked c x y ≡ plan_in c
      by_tests x y hx hy = ap₂ (picked c) (sym hx) (sym hy)

      -- The entry is that of step 1, or else that of step 2,
      by_first : (x : Bool) → ltb k1 8 ≡ x → k ≡ cond x k1 k2
      by_first x hx = taker_is k taken_at ∙ ap (λ (v : Bool). cond v k1 k2) hx

      -- which has no free position;
      none_free : k2 < 8 → (world z s d).nfl.free (8 * q + k2) ≡ 0
      none_free less =
          eqb-true ((world z s d).nfl.free (8 * q + k2)) 0 (first_holds (λ j. eqb ((world z s d).nfl.free (8 * q + j)) 0) 0 8 less)

      abbrev marked_at : ℕ → Plan
      marked_at j = plan_of z s d (mark (8 * q + j) ((world z s d).nfl.free (8 * q + j) + 2 ^ i))

      pub plan_taken : k < 8 → (r : Plan) → r ≡ marks z s t (8 * b + k) i → r ≡ plan_in c
      plan_taken less r is = is ∙ block_mark k i less ∙ by (ltb k1 8) (ltb k2 8) refl refl
        where
          by : (x y : Bool) → ltb k1 8 ≡ x → ltb k2 8 ≡ y → marked_at k ≡ plan_in c
          by true y hx hy = ap marked_at (by_first true hx) ∙ by_tests true y hx hy
          by false true hx hy =
              ap marked_at (by_first false hx)
              ∙ ap (λ (a : ℕ). plan_of z s d (mark (8 * q + k2) a)) (omega (arith, none_free (ltb-true k2 8 hy)))
              ∙ by_tests false true hx hy
          by false false hx hy = absurd (omega (arith, by_first false hx, ltb-false k2 8 hy))

      -- or there is neither.
      pub plan_otherwise : 8 ≤ k → (r : Plan) → r ≡ plan_of z s d c → r ≡ plan_in c
      plan_otherwise none r is = is ∙ by (ltb k1 8) (ltb k2 8) refl refl
        where
          by : (x y : Bool) → ltb k1 8 ≡ x → ltb k2 8 ≡ y → plan_of z s d c ≡ plan_in c
          by true y hx hy = absurd (omega (arith, by_first true hx, ltb-true k1 8 hx))
          by false true hx hy = absurd (omega (arith, by_first false hx, ltb-true k2 8 hy))
          by false false hx hy = by_tests false false hx hy

    -- ---- Step 3
    abbrev plan_back : ℕ → Plan
    plan_back p = plan_of z s d (back_from (world z s d) n i p)

    -- Into this block, one before the head: steps 1 and 2 find an entry.
    module _ (o : Ordinary z s d) (before : q < (world z s d).nfl.head) (k : ℕ) (taken_at : k ≡ taker ws n) where
      spent_below : k2 < 8
      spent_below =
          let some : 0 < owned z s d = omega (arith, rank_below_owned z s own.0 d own.1.0.0 t own.1.0.1 own.1.1) in
          omega (arith, spent-before z s own.0 d own.1.0.0 o some n i q before)

      pub taken_below : k < 8
      taken_below = by (ltb k1 8) refl
        where
          by : (x : Bool) → ltb k1 8 ≡ x → k < 8
          by true hx = omega (arith, by_first regather k taken_at true hx, ltb-true k1 8 hx)
          by false hx = omega (arith, by_first regather k taken_at false hx, spent_below)

      pub plan_there : (r : Plan) → r ≡ marks z s t (8 * b + k) i → r ≡ plan_back (suc q)
      unfolding back_from
      plan_there r is = plan_taken (back_from (world z s d) n i q) k taken_at taken_below r is

    -- ---- The head block first, then the block before it
    module _ (head_is : (world z s d).nfl.head ≡ q) (k : ℕ) (taken_at : k ≡ taker ws n) where
      abbrev plan_head : Plan
      plan_head = plan_of z s d (release_step (world z s d) n i)

      from_head : plan_in (back_from (world z s d) n i q) ≡ plan_head
      unfolding release_step
      from_head =
          ap (λ (r : ℕ). plan_of z s d (in_block (world z s d) n i r (back_from (world z s d) n i r))) (sym head_is)

      pub plan_here : k < 8 → (r : Plan) → r ≡ marks z s t (8 * b + k) i → r ≡ plan_head
      plan_here less r is = plan_taken (back_from (world z s d) n i q) k taken_at less r is ∙ from_head

      -- It has no entry for the node, and is
      module _ (none : 8 ≤ k) (x : Option (ℕ × ℕ)) (is : x ≡ block_before z s d q) where
        back_at : (p : ℕ) → q ≡ p → (r : Plan) → r ≡ plan_back p → r ≡ plan_head
        back_at p same r e =
            plan_otherwise (back_from (world z s d) n i q) k taken_at none r (e ∙ ap plan_back (sym same)) ∙ from_head

        -- block 0 of rank 0,
        pub plan_first : x ≡ None → Regather ≡ plan_head
        unfolding back_from plan_of
        plan_first same = back_at 0 (told x None is same) Regather refl

        -- or one with a block before it.
        module _ (u e : ℕ) (same : x ≡ Some (u, e)) where
          pub before_own : OwnBlock z s d u e × (block_in_order z s u e < (world z s d).nfl.head)
          before_own = let a = told x (Some (u, e)) is same in (a.0, omega (arith, a.1))

          pub plan_before : (r : Plan) → r ≡ plan_back (suc (block_in_order z s u e)) → r ≡ plan_head
          plan_before = back_at (suc (block_in_order z s u e)) (told x (Some (u, e)) is same).1

-- The two head words of domain d, read at a and at e: the TreeLing's + 1, and the block.
pub record HeadIs (z : Sizes) (s : List ℕ) (d x b : ℕ) : Type 0 where
  pub some : 1 ≤ x
  pub own : OwnBlock z s d (x - 1) b
  pub place : (world z s d).nfl.head ≡ block_in_order z s (x - 1) b

pub head_read : (z : Sizes) (s : List ℕ) (d i : ℕ) → Sound z s × ((d < z.domains) × (i < 8) × (0 < owned z s d) × Ordinary z s d) → (a e : ℕ) → a ≡ address z (head_treeling d) → e ≡ address z (head_block d) → HeadIs z s d (get_or s a 0) (get_or s e 0)
head_read z s d i pre a e at_a at_e =
    let w = head_some z s pre.0 d pre.1.0 pre.1.3 pre.1.2 in
    let x : get_or s a 0 ≡ suc w.0 = ap (λ (k : ℕ). get_or s k 0) at_a ∙ w.1 in
    let b : get_or s e 0 ≡ get z s (head_block d) = ap (λ (k : ℕ). get_or s k 0) at_e in
    let u : get_or s a 0 - 1 ≡ w.0 = omega arith in
    let below : get_or s a 0 - 1 < z.treelings = omega (arith, w.2.below) in
    let small : get_or s e 0 < 64 = omega (arith, pre.0.block_range d pre.1.0) in
    let mine : get z s (owner (get_or s a 0 - 1)) ≡ suc d = ap (λ (k : ℕ). get z s (owner k)) u ∙ w.2.owner_is in
    record {
      some = omega arith;
      own = (pre.0, ((pre.1.0, below, small), mine));
      place = w.3 ∙ sym (ap₂ (λ (k c : ℕ). block_in_order z s k c) u b);
    }

-- ---- The writes
-- The page's leaf ID and the pages word, the latter at a.
pub unmapped-words : (z : Sizes) (s r : List ℕ) (d f a v : ℕ) → r ≡ put z s (leaf f) 0 → a ≡ address z (pages_mapped d) → set r a v ≡ put z (put z s (leaf f) 0) (pages_mapped d) v
unmapped-words z s r d f a v written is = ap₂ (λ (w : List ℕ) (c : ℕ). set w c v) written is

-- ---- The release
-- Domain d releases the page of frame f, position i of leaf node n.
module _ (z : Sizes) (s : List ℕ) (d f : ℕ) (pre : Sound z s × (((d < z.domains) × (f < z.frames) × Ordinary z s d) × (is_mapped_by z s d f ≡ true))) where
  -- The frame's leaf ID names a slot of the domain's.
  page : MappedBy z s d f
  page = mapped_by z s d f pre.1.1

  -- It has a TreeLing,
  pub some_owned : 0 < owned z s d
  some_owned = mapped_some z s pre.0 d pre.1.0.0 f pre.1.0.1 page

  -- and a page.
  pub pages_some : (a : ℕ) → a ≡ address z (pages_mapped d) → 1 ≤ get_or s a 0
  unfolding true_number
  pages_some a is =
      lt_of_not-le λ none.
      false≢true
      (sym (count_zero z.frames (is_mapped_by z s d) (omega (arith, ap (λ (c : ℕ). get_or s c 0) is, pre.0.pages_true_lem d pre.1.0.0)) f pre.1.0.1) ∙ pre.1.1)

  -- The words left are sound.
  pub left_unmapped : (a : ℕ) → a ≡ address z (pages_mapped d) → (r e : List ℕ) → e ≡ put z (put z r (leaf f) 0) (pages_mapped d) (get_or s a 0 - 1) → unmapped z s d f r ≡ releasing z s d f → (e ≡ releasing z s d f) × Sound z e
  left_unmapped a at_a r e written is =
      let left : e ≡ releasing z s d f =
      written ∙ ap (λ (c : ℕ). put z (put z r (leaf f) 0) (pages_mapped d) (get_or s c 0 - 1)) at_a ∙ is in
      (left, subst (Sound z) (sym left) (released_sound z s d f pre.0 pre.1.0.0 pre.1.0.2 pre.1.0.1 page))

  -- Its node and position.
  module _ (n i : ℕ) (node_of : n ≡ node_of_leaf (get z s (leaf f))) (position_of : i ≡ position_of_leaf (get z s (leaf f))) where
    id : SlotId (get z s (leaf f))
    id = mapped_id z s d f pre.0 pre.1.0.1 page pre.1.0.2

    small : i < 8
    small = omega (arith, position_of, position_below (get z s (leaf f)))

    pub node_below : n < 512 * z.treelings
    node_below = omega (arith, node_of, (names (get z s (leaf f)) id).node_is, mapped_slot z s d f pre.0 pre.1.0.1 page pre.1.0.2)

    pub node_own : get z s (owner (n / 512)) ≡ suc d
    node_own = let is : n / 512 ≡ treeling_of (get z s (leaf f)) = ap (λ (g : ℕ). g / 512) node_of ∙ node_treeling (get z s (leaf f)) id in ap (λ (t : ℕ). get z s (owner t)) is ∙ page.own

    -- An entry with tag n has not marked the slot, so with bit i it has a byte.
    byte_more : (j : ℕ) → j < 512 * owned z s d → (world z s d).nfl.tag j ≡ n → (world z s d).nfl.free j + 2 ^ i < 256
    byte_more j less tag = byte_added ((world z s d).nfl.free j) (2 ^ i) (omega arith) (power_below i small) once
      where
        unmarked : bit i ((world z s d).nfl.free j) ≡ 0
        unmarked =
            let y = slot_number (get z s (leaf f)) in
            let w = get z s (entry_of z s d j) in
            let node : y / 8 ≡ n = sym (node_of ∙ (names (get z s (leaf f)) id).node_is) in
            let place : y % 8 ≡ i = sym (position_of ∙ (names (get z s (leaf f)) id).position_is) in
            ap (λ (b : ℕ). bit b (availability_of w)) (sym place)
            ∙ sym (ap (λ (b : Bool). cond b (bit (y % 8) (availability_of w)) 0) (eq-eqb (tag_of w) (y / 8) (tag ∙ sym node)))
            ∙ sym (marks_bit z s y w)
            ∙ ap (λ (b : Bool). cond {A = ℕ} b 1 0) (not_marked z s pre.0 d pre.1.0.0 pre.1.0.2 f pre.1.0.1 page j less)

        once : (b : ℕ) → b < 8 → bit b ((world z s d).nfl.free j) + bit b (2 ^ i) ≤ 1
        once b lb =
            either b i
            (λ is. omega (arith, ap (λ (c : ℕ). bit c ((world z s d).nfl.free j)) is, unmarked, bit_most b (2 ^ i)))
            (λ apart. omega (arith, bit_most b ((world z s d).nfl.free j), single_bit b i lb small, ap (λ (x : Bool). cond {A = ℕ} x 1 0) (ne_eqb b i apart)))

    -- What a plan writes fits: the entry marked is one of the domain's, and gets a byte.
    abbrev Fitting : Plan → Type 0
    Fitting (Mark sp a) = (sp.treeling < z.treelings) × (sp.entry < 512) × (a < 256)
    Fitting Regather = Unit

    mark_fits : (j a : ℕ) → j < 512 * owned z s d → a < 256 → Fitting (plan_of z s d (mark j a))
    unfolding plan_of
    mark_fits j a less byte = ((of_rank_lem z s pre.0 d pre.1.0.0 (j / 512) (omega arith)).below, omega arith, byte)

    plan_fits : Fitting (plan_of z s d (release_step (world z s d) n i))
    unfolding plan_of
    plan_fits =
        release_cases (world z s d) n i (λ x. Fitting (plan_of z s d x))
        (λ q c fits less tag. mark_fits (8 * q + c) ((world z s d).nfl.free (8 * q + c) + 2 ^ i) (omega (arith, fits.below)) (byte_more (8 * q + c) (omega (arith, fits.below)) tag))
        (λ q c fits less none. mark_fits (8 * q + c) (2 ^ i) (omega (arith, fits.below)) (power_below i small))
        tt
        (head_fits z s pre.0 d pre.1.0.0 pre.1.0.2 some_owned)

    -- What a plan does.
    abbrev doing : Plan → List ℕ
    doing (Mark sp a) =
        head_to z d sp.treeling (sp.entry / 8) (put z s (entry sp.treeling sp.entry) (entry_word n a))
    doing Regather = regathered z s d (owned z s d) (whole_with (world z s d) n i)

    doing_step : (x : Step) → doing (plan_of z s d x) ≡ after_step z s d n i x
    unfolding plan_of after_step
    doing_step (mark j a) =
        let rank : j / 512 ≡ j / 8 / 64 = omega arith in
        let number : j % 512 / 8 ≡ j / 8 % 64 = omega arith in
        ap₂ (λ (c b : ℕ). head_to z d (of_rank z s d c) b (put z s (entry_of z s d j) (entry_word n a))) rank number
    doing_step regather = refl

    -- The plan p of the release is q:
    module _ (p q : Plan) (is : p ≡ plan_of z s d (release_step (world z s d) n i)) (told : p ≡ q) where
      doing_is : unmapped z s d f (doing q) ≡ releasing z s d f
      unfolding releasing
      doing_is =
          ap (λ (o : Plan). unmapped z s d f (doing o)) (sym told ∙ is)
          ∙ ap (unmapped z s d f) (doing_step (release_step (world z s d) n i))
          ∙ ap₂ (λ (c b : ℕ). unmapped z s d f (after_step z s d c b (release_step (world z s d) c b))) node_of position_of

      fitting : Fitting q
      fitting = subst Fitting (sym is ∙ told) plan_fits

    -- an entry to mark,
    module _ (p : Plan) (sp : Spot) (a : ℕ) (is : p ≡ plan_of z s d (release_step (world z s d) n i)) (told : p ≡ Mark sp a) where
      pub mark_fitting : (sp.treeling < z.treelings) × (sp.entry < 512) × (a < 256)
      mark_fitting = fitting p (Mark sp a) is told

      pub mark_done : (v : ℕ) (r : List ℕ) → v ≡ entry_word n a → r ≡ head_to z d sp.treeling (sp.entry / 8) (put z s (entry sp.treeling sp.entry) v) → unmapped z s d f r ≡ releasing z s d f
      mark_done v r word written =
          ap (unmapped z s d f)
          (written ∙ ap (λ (b : ℕ). head_to z d sp.treeling (sp.entry / 8) (put z s (entry sp.treeling sp.entry) b)) word)
          ∙ doing_is p (Mark sp a) is told

    -- or the NFL is regathered.
    pub regather_done : (p : Plan) → p ≡ plan_of z s d (release_step (world z s d) n i) → p ≡ Regather → (r : List ℕ) → r ≡ regathered z s d (owned z s d) (whole_with (world z s d) n i) → unmapped z s d f r ≡ releasing z s d f
    regather_done p is told r written = ap (unmapped z s d f) written ∙ doing_is p Regather is told
