-- After a trim: the NFL entries of the domain in their new order, and its head block.
-- Assumes nothing.
use Prim.Native.Nat.{ℕ, suc, ◌+◌, ◌-◌, ◌*◌, ◌/◌, ◌%◌, ◌<◌, ◌≤◌}
use mathlib.Core.Path.{◌≡◌, refl, sym, ap, subst, ◌∙◌}
use mathlib.Core.List.{List}
use mathlib.Core.Bool.{Bool, true, false, cond}
use mathlib.Core.Logic.{⊎_elim}
use native.Mathlib.Nat.{lt_of_not-le}
use native.Mathlib.Omega.{arith}
use borrow.Author.Tests.{eqb-true, eqb-false, ltb-true, ltb-false}
use lib.Dec.{ltb}
use Rattle.std.proofs.lemmas.Bool.{cases_lt}
use Rattle.layout.specs.declared.Sizes.{Sizes}
use Rattle.geometry.specs.Tables.{bit}
use Rattle.geometry.specs.Entries.{entry_word, tag_of, availability_of}
use Rattle.layout.specs.Places.{get, entry, live, head_treeling, owner, rank}
use Rattle.geometry.proofs.GeometryLaws.{entry_tag, entry_availability}
use Rattle.sound.specs.Sentences.{block_in_order, head_in_order, times_free, times_named}
use Rattle.sound.specs.Sound.{Sound, Ordinary}
use Rattle.world.specs.World.{world}
use Rattle.world.proofs.FrameLaws.{at_or_other}
use Rattle.taking.proofs.TakenSlots.{entry_through}
use Rattle.gathering.specs.Regathering.{whole_of}
use Rattle.gathering.proofs.SelectLaws.{parted_first, parted_rest}
use Rattle.returning.specs.Returning.{is_empty, number_kept, kept_of}
use Rattle.returning.proofs.OthersLaws.{tag_other, before_other, after_other}
use Rattle.returning.proofs.TrimFacts.{Kept, Trimmed, kept_node, kept_whole, kept_spent, kept_order, spent_number, kept_head}
use Rattle.returning.proofs.TrimmedChain.{sorts, was_owned, own_each, others, owner_most}

-- The whole availabilities of the domain's leaf nodes before: bytes, with a bit for each free slot. And no page has a slot in an empty TreeLing.
pub record Wholes (z : Sizes) (s : List ℕ) (d : ℕ) : Type 0 where
  pub byte : (g : ℕ) → g < 512 * z.treelings → whole_of (world z s d) g < 256
  pub bits : (g i : ℕ) → g < 512 * z.treelings → i < 8 → get z s (owner (g / 512)) ≡ suc d → bit i (whole_of (world z s d) g) ≡ times_free z s (8 * g + i)
  pub unnamed : (t y : ℕ) → t < z.treelings → is_empty z s t ≡ true → y / 4096 ≡ t → times_named z s y ≡ 0

-- The head block is that of the first entry with a free position, or the last one.
module _ (z : Sizes) (s : List ℕ) (d : ℕ) where
  head_cases : (P : ℕ → Type 0) → (spent_number z s d < 512 * number_kept z s d → P (spent_number z s d / 8)) → (512 * number_kept z s d ≤ spent_number z s d → P (64 * number_kept z s d - 1)) → P (kept_head z s d)
  head_cases P some none = go (ltb (spent_number z s d) (512 * number_kept z s d)) refl
    where
      go : (b : Bool) → ltb (spent_number z s d) (512 * number_kept z s d) ≡ b → P (cond b (spent_number z s d / 8) (64 * number_kept z s d - 1))
      go true e = some (ltb-true (spent_number z s d) (512 * number_kept z s d) e)
      go false e = none (ltb-false (spent_number z s d) (512 * number_kept z s d) e)

  -- The TreeLing that has it stays.
  pub head_rank_lem : 0 < number_kept z s d → kept_head z s d / 64 < number_kept z s d
  head_rank_lem some = head_cases (λ p. p / 64 < number_kept z s d) (λ less. omega arith) (λ all. omega arith)

module _ (z : Sizes) (s r : List ℕ) (d : ℕ) (h : Sound z s) (l : d < z.domains) (k : Kept z s d) (c : Trimmed z s r d) (w : Wholes z s d) where
  abbrev number : ℕ
  number = number_kept z s d

  abbrev kept : ℕ → ℕ
  kept q = kept_of z s d q

  abbrev total : ℕ
  total = 512 * number

  abbrev node : ℕ → ℕ
  node p = kept_node z s d p

  abbrev whole : ℕ → ℕ
  whole p = kept_whole z s d p

  abbrev order : ℕ → ℕ
  order j = kept_order z s d j

  abbrev spent : ℕ
  spent = spent_number z s d

  -- ---- Leaf nodes by new rank
  node_below : (p : ℕ) → p < total → node p < 512 * z.treelings
  node_below p lp = omega (arith, k.below (p / 512) (omega arith))

  pub node_one : (i j : ℕ) → i < total → j < total → node i ≡ node j → i ≡ j
  node_one i j li lj is =
      let same : kept (i / 512) ≡ kept (j / 512) = omega arith in
      let q = k.one (i / 512) (j / 512) (omega arith) (omega arith) same in
      omega arith

  -- In their order in the NFL the first are spent, the rest not.
  order_first : (j : ℕ) → j < spent → (order j < total) × (kept_spent z s d (order j) ≡ true)
  order_first j less = parted_first (kept_spent z s d) total j less

  order_rest : (j : ℕ) → spent ≤ j → j < total → (order j < total) × (kept_spent z s d (order j) ≡ false)
  order_rest j low less = parted_rest (kept_spent z s d) total j low less

  order_below : (j : ℕ) → j < total → order j < total
  order_below j lj =
      ⊎_elim (λ less. (order_first j less).0) (λ low. (order_rest j low lj).0) (cases_lt j spent)

  -- ---- Entries
  -- Entry j in rank order has its node as tag and the whole of it.
  new_word : (j : ℕ) → j < total → get z r (entry 0 (node j)) ≡ entry_word (node (order j)) (whole (order j))
  new_word j lj = sym (entry_through z r (kept (j / 512)) (j % 512) (node j) refl) ∙ c.kept_entry j lj

  whole_byte : (j : ℕ) → j < total → whole (order j) < 256
  whole_byte j lj = w.byte (node (order j)) (node_below (order j) (order_below j lj))

  pub new_tag : (j : ℕ) → j < total → tag_of (get z r (entry 0 (node j))) ≡ node (order j)
  new_tag j lj = ap tag_of (new_word j lj) ∙ entry_tag (node (order j)) (whole (order j)) (whole_byte j lj)

  pub new_free : (j : ℕ) → j < total → availability_of (get z r (entry 0 (node j))) ≡ whole (order j)
  new_free j lj = ap availability_of (new_word j lj) ∙ entry_availability (node (order j)) (whole (order j)) (whole_byte j lj)

  -- Entry i of the TreeLing that gets rank q.
  entry_at : (q i : ℕ) → i < 512 → get z r (entry (kept q) i) ≡ get z r (entry 0 (node (512 * q + i)))
  entry_at q i li =
      let row : (512 * q + i) / 512 ≡ q = omega arith in
      entry_through z r (kept q) i (node (512 * q + i)) (omega (arith, ap kept row))

  tag_at : (q i : ℕ) → q < number → i < 512 → tag_of (get z r (entry (kept q) i)) ≡ node (order (512 * q + i))
  tag_at q i lq li = ap tag_of (entry_at q i li) ∙ new_tag (512 * q + i) (omega arith)

  free_at_lem : (q i : ℕ) → q < number → i < 512 → availability_of (get z r (entry (kept q) i)) ≡ whole (order (512 * q + i))
  free_at_lem q i lq li = ap availability_of (entry_at q i li) ∙ new_free (512 * q + i) (omega arith)

  -- An owner is a domain.
  owner_below : (e t : ℕ) → t < z.treelings → get z r (owner t) ≡ suc e → e < z.domains
  owner_below e t m o = omega (arith, owner_most z s r d h l k c t m)

  -- It was ordinary if it is.
  ordinary_before : (e : ℕ) → e < z.domains → Ordinary z r e → Ordinary z s e
  ordinary_before e m now = sym (at_or_other (λ x. get z r (live x) ≡ get z s (live x)) d e c.same_live (c.same_domain e 0 m (omega arith))) ∙ now

  -- The tags of ordinary domains name leaf nodes of their owner.
  pub tag_below : (e t i : ℕ) → t < z.treelings → i < 512 → get z r (owner t) ≡ suc e → Ordinary z r e → tag_of (get z r (entry t i)) < 512 * z.treelings
  tag_below e t i m n o now =
      sorts z s r d h l k c t m
      (λ apart. subst (λ (x : ℕ). tag_of x < 512 * z.treelings) (sym (c.same_entry t i m n apart)) (h.tag_range e t i m n (was_owned z s r d h l k c t e m o) (ordinary_before e (owner_below e t m o) now)))
      (λ own empty. omega (arith, c.gone_entry t i m n own empty))
      (λ q lq is.
      let j = 512 * q + i in
      subst (λ (x : ℕ). tag_of (get z r (entry x i)) < 512 * z.treelings) is
      (subst (λ (g : ℕ). g < 512 * z.treelings) (sym (tag_at q i lq n)) (node_below (order j) (order_below j (omega arith)))))

  pub tag_owner : (e t i : ℕ) → t < z.treelings → i < 512 → get z r (owner t) ≡ suc e → Ordinary z r e → get z r (owner (tag_of (get z r (entry t i)) / 512)) ≡ suc e
  tag_owner e t i m n =
      at_or_other (λ x. get z r (owner t) ≡ suc x → Ordinary z r x → get z r (owner (tag_of (get z r (entry t i)) / 512)) ≡ suc x) d e
      (λ o _. own_each z s r d h l k c (λ x. get z r (owner (tag_of (get z r (entry x i)) / 512)) ≡ suc d)
      (λ q lq.
      let p = order (512 * q + i) in
      let home : node p / 512 ≡ kept (p / 512) = omega arith in
      ap (λ (g : ℕ). get z r (owner (g / 512))) (tag_at q i lq n)
      ∙ ap (λ (x : ℕ). get z r (owner x)) home
      ∙ c.kept_owner (p / 512) (omega (arith, order_below (512 * q + i) (omega arith))))
      t m o)
      (λ apart o now. tag_other z s r d h (others z s r d h l k c) e (owner_below e t m o) apart t m o now i n)

  -- ---- The head block
  -- Where it is in rank order.
  head_order : 0 < number → head_in_order z r d ≡ kept_head z s d
  head_order some =
      let a = c.head_is some in
      let named : get z r (head_treeling d) - 1 ≡ kept (kept_head z s d / 64) = omega (arith, a.0) in
      omega (arith, ap (λ (x : ℕ). get z r (rank x)) named, c.kept_rank (kept_head z s d / 64) (head_rank_lem z s d some), a.1)

  -- Before it all is spent, after it nothing is.
  spent-before : (j : ℕ) → j < total → j / 8 < kept_head z s d → whole (order j) ≡ 0
  spent-before j lj before =
      let less = head_cases z s d (λ p. j / 8 < p → j < spent) (λ some m. omega arith) (λ none m. omega arith) before in
      eqb-true (whole (order j)) 0 (order_first j less).1

  some_after : (j : ℕ) → j < total → kept_head z s d < j / 8 → 0 < whole (order j)
  some_after j lj after =
      let low = head_cases z s d (λ p. p < j / 8 → spent ≤ j) (λ some m. omega arith) (λ none m. omega arith) after in
      lt_of_not-le λ none. eqb-false (whole (order j)) 0 (order_rest j low lj).1 (omega arith)

  -- The entries of any owner.
  module _ (e t i : ℕ) (m : t < z.treelings) (n : i < 512) where
    pub before_head_lem : get z r (owner t) ≡ suc e → Ordinary z r e → block_in_order z r t (i / 8) < head_in_order z r e → availability_of (get z r (entry t i)) ≡ 0
    before_head_lem =
        at_or_other (λ x. get z r (owner t) ≡ suc x → Ordinary z r x → block_in_order z r t (i / 8) < head_in_order z r x → availability_of (get z r (entry t i)) ≡ 0) d e
        (λ o _. own_each z s r d h l k c (λ x. block_in_order z r x (i / 8) < head_in_order z r d → availability_of (get z r (entry x i)) ≡ 0)
        (λ q lq before.
        free_at_lem q i lq n
        ∙ spent-before (512 * q + i) (omega arith) (omega (arith, c.kept_rank q lq, head_order (omega arith))))
        t m o)
        (λ apart o now. before_other z s r d h (others z s r d h l k c) e (owner_below e t m o) apart t m o now i n)

    pub after_head_lem : get z r (owner t) ≡ suc e → Ordinary z r e → head_in_order z r e < block_in_order z r t (i / 8) → 0 < availability_of (get z r (entry t i))
    after_head_lem =
        at_or_other (λ x. get z r (owner t) ≡ suc x → Ordinary z r x → head_in_order z r x < block_in_order z r t (i / 8) → 0 < availability_of (get z r (entry t i))) d e
        (λ o _. own_each z s r d h l k c (λ x. head_in_order z r d < block_in_order z r x (i / 8) → 0 < availability_of (get z r (entry x i)))
        (λ q lq after.
        subst (λ (a : ℕ). 0 < a) (sym (free_at_lem q i lq n))
        (some_after (512 * q + i) (omega arith) (omega (arith, c.kept_rank q lq, head_order (omega arith)))))
        t m o)
        (λ apart o now. after_other z s r d h (others z s r d h l k c) e (owner_below e t m o) apart t m o now i n)
