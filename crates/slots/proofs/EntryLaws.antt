-- Laws of the pass over the NFL words: where the head splits a TreeLing's entries, which entries fit, what is counted.
-- Assumes nothing.
use Prim.Native.Nat.{ℕ, zero, suc, ◌+◌, ◌-◌, ◌*◌, ◌/◌, ◌%◌, ◌<◌, ◌≤◌}
use mathlib.Core.Path.{◌≡◌, refl, sym, ap, ap₂, subst, ◌∙◌}
use mathlib.Core.Bool.{Bool, true, false, cond, not, ◌&&◌, false≢true, and-true, or-true, or-false}
use mathlib.Core.List.{List}
use native.Mathlib.Nat.{add-zero}
use native.Mathlib.Omega.{arith}
use borrow.Author.Tests.{leb-true, ltb-true, ltb-false, eqb-true, eqb-false, lt-ltb, le-leb, eq-eqb, ne_eqb}
use lib.Dec.{eqb, leb, ltb}
use lib.Bits.{bit_and}
use lib.ListN.{get_or, length, set, length-set}
use lib.Seq.{get_or-set_same, get_or-set_other}
use Rattle.layout.specs.declared.Sizes.{Sizes}
use Rattle.geometry.specs.Tables.{number_free}
use Rattle.geometry.specs.Entries.{tag_of, availability_of}
use Rattle.layout.specs.Places.{get, address, entry, live, owner, rank, head_block, head_treeling}
use Rattle.std.specs.Prelude.{Option, Some, None}
use Rattle.layout.specs.Bounded.{all, sum}
use Rattle.sound.specs.Sentences.{entry_in_range, tag_is_own, is_in_order, block_in_order, head_in_order, fits_order, is_live, is_owned, is_ordinary}
use Rattle.sound.specs.Sound.{Sound}
use Rattle.sound.specs.CodeChained.{Records}
use Rattle.slots.specs.CodeMarks.{Marks, Counted, TallyIs, treeling_entries, before_head, after_head, entry_fits, head_rank, span_start, span_end}
use Rattle.sound.specs.CodeCounting.{free_in, pages_left}
use Rattle.layout.proofs.BoundedLaws.{and_of, all_cong, sum_none, sum-next}
use Rattle.sound.proofs.TestLaws.{and_left, and_right, or_rest, or_of, an_ordinary, same_test, unowned}
use Rattle.sound.proofs.ZeroLaws.{zeros_at, sound_entries_zero}
use Rattle.sound.proofs.RecordLaws.{records_head}
use Rattle.slots.proofs.FitLaws.{sound_fits}
use Rattle.sound.proofs.CountingLaws.{number_most, none_free, free_most}
use Rattle.slots.proofs.MarkLaws.{mark_entry, entry_clash, skip_entry}

-- Two orders that hold together are one test.
same_order : (m n i j : ℕ) → (m ≤ n → i ≤ j) × (i ≤ j → m ≤ n) → leb m n ≡ leb i j
same_order m n i j h =
    same_test (leb m n) (leb i j) (λ e. le-leb i j (h.0 (leb-true m n e))) (λ e. le-leb m n (h.1 (leb-true i j e)))

-- ---- Where the head splits the entries of a TreeLing
-- The three cases of a span: before, after and at the TreeLing of the head.
span_cases : (P : ℕ → ℕ → Type 0) (r h b : ℕ) → (r < h → P 512 512) → (h < r → P 0 0) → (r ≡ h → P (8 * b) (8 * b + 8)) → P (before_head r h b) (after_head r h b)
span_cases P r h b low high same = before (ltb r h) refl
  where
    after : (x : Bool) → ltb h r ≡ x → h ≤ r → P (cond x 0 (8 * b)) (cond x 0 (8 * b + 8))
    after true e l = high (ltb-true h r e)
    after false e l = same (let g = ltb-false h r e in omega arith)

    before : (x : Bool) → ltb r h ≡ x → P (cond x 512 (cond (ltb h r) 0 (8 * b))) (cond x 512 (cond (ltb h r) 0 (8 * b + 8)))
    before true e = low (ltb-true r h e)
    before false e = after (ltb h r) refl (ltb-false r h e)

module _ (r h b k : ℕ) (block : b ≤ 63) (below : k < 512) where
  -- Entries from the start on do not lie in blocks before the head's.
  order_start : leb (before_head r h b) k ≡ leb (64 * h + b) (64 * r + k / 8)
  order_start =
      same_order (before_head r h b) k (64 * h + b) (64 * r + k / 8)
      (span_cases (λ x y. (x ≤ k → 64 * h + b ≤ 64 * r + k / 8) × (64 * h + b ≤ 64 * r + k / 8 → x ≤ k)) r h b
      (λ e. (omega arith, omega arith))
      (λ e. (omega arith, omega arith))
      (λ e. (omega arith, omega arith)))

  -- Entries below the end do not lie in blocks after it.
  order_end : ltb k (after_head r h b) ≡ leb (64 * r + k / 8) (64 * h + b)
  order_end =
      same_order (suc k) (after_head r h b) (64 * r + k / 8) (64 * h + b)
      (span_cases (λ x y. (k < y → 64 * r + k / 8 ≤ 64 * h + b) × (64 * r + k / 8 ≤ 64 * h + b → k < y)) r h b
      (λ e. (omega arith, omega arith))
      (λ e. (omega arith, omega arith))
      (λ e. (omega arith, omega arith)))

-- ---- What `span_of` reads
-- The owner of an ordinary domain's TreeLing, and its head.
pub head_range : (z : Sizes) (s : List ℕ) → Records z s → (t : ℕ) → t < z.treelings → is_ordinary z s t ≡ true
    → (get z s (owner t) ≤ z.domains) × (0 < get z s (head_treeling (get z s (owner t) - 1))) × (get z s (head_treeling (get z s (owner t) - 1)) ≤ z.treelings) × (get z s (head_block (get z s (owner t) - 1)) ≤ 63)
head_range z s records t below kind =
    let owned = ltb-true 0 (get z s (owner t)) (and_left (is_owned z s t) (is_live z s (get z s (owner t) - 1)) kind) in
    let ordinary = eqb-true (get z s (live (get z s (owner t) - 1))) 1 (and_right (is_owned z s t) (is_live z s (get z s (owner t) - 1)) kind) in
    let head = records_head z s records (get z s (owner t) - 1) t below (omega arith) ordinary in
    let facts = head.1 in
    (omega arith, omega arith, omega arith, facts.block_range)

module _ (z : Sizes) (s : List ℕ) (t at : ℕ) (records : Records z s) (below : t < z.treelings) (kind : is_ordinary z s t ≡ true) (at_is : at ≡ address z (owner t)) where
  -- The owner is a domain.
  pub owner_read : (0 < get_or s at 0) × (get_or s at 0 ≤ z.domains)
  owner_read =
      let h = head_range z s records t below kind in
      let o = (an_ordinary z s t kind).1 in
      let e = ap (λ (k : ℕ). get_or s k 0) at_is in
      (omega arith, omega arith)

  module _ (head : ℕ) (head_is : head ≡ address z (head_treeling (get_or s at 0 - 1))) where
    -- The words read are those of the head.
    head_read : (get_or s head 0 ≡ get z s (head_treeling (get z s (owner t) - 1))) × (get_or s (head + 1) 0 ≡ get z s (head_block (get z s (owner t) - 1)))
    head_read =
        let e = ap (λ (k : ℕ). get_or s k 0) at_is in
        (ap (λ (k : ℕ). get_or s k 0) (omega arith), ap (λ (k : ℕ). get_or s k 0) (omega arith))

    -- They name a TreeLing and one of its blocks.
    pub head_read_range : (0 < get_or s head 0) × (get_or s head 0 ≤ z.treelings) × (get_or s (head + 1) 0 ≤ 63)
    head_read_range =
        let h = head_range z s records t below kind in
        let e = head_read in
        (omega arith, omega arith, omega arith)

    -- With the ranks they give the span.
    pub span_read : (ranked start end : ℕ) → ranked ≡ address z (rank (get_or s head 0 - 1)) → start ≡ before_head (get_or s (at + 3) 0) (get_or s ranked 0) (get_or s (head + 1) 0) → end ≡ after_head (get_or s (at + 3) 0) (get_or s ranked 0) (get_or s (head + 1) 0) → (start ≡ span_start z s t) × (end ≡ span_end z s t)
    span_read ranked start end ranked_is start_is end_is =
        let e = head_read in
        let r : get_or s (at + 3) 0 ≡ get z s (rank t) = ap (λ (k : ℕ). get_or s k 0) (omega arith) in
        let h : get_or s ranked 0 ≡ head_rank z s t = ap (λ (k : ℕ). get_or s k 0) (omega arith) in
        (start_is ∙ rw (r, h, e.1), end_is ∙ rw (r, h, e.1))

-- ---- Which entries fit
-- An entry without a free position may not stand after the head, one with some not before it.
fits_none : (here head a : ℕ) → a ≡ 0 → fits_order here head a ≡ leb here head
fits_none here head a none = rw (none, or-true (leb head here), or-false (leb here head))

fits_some : (here head a : ℕ) → 0 < a → fits_order here head a ≡ leb head here
fits_some here head a some =
    rw (ne_eqb a 0 (λ e. omega arith), lt-ltb 0 a some, or-false (leb head here), or-true (leb here head)) (and-true (leb head here))

module _ (z : Sizes) (s : List ℕ) (t k w : ℕ) (word : w ≡ get z s (entry t k)) (kind : is_ordinary z s t ≡ true) where
  module _ (in_range_lem : w / 256 < 512 * z.treelings) (a b : ℕ) (a_is : a ≡ address z (owner (w / 256 / 512))) (b_is : b ≡ address z (owner t)) where
    -- The owners of the tag's TreeLing and of this one, as they are read.
    tag_read : get_or s a 0 ≡ get z s (owner (tag_of (get z s (entry t k)) / 512))
    tag_read = ap (λ (i : ℕ). get_or s i 0) (omega arith)

    owner_again : get_or s b 0 ≡ get z s (owner t)
    owner_again = ap (λ (i : ℕ). get_or s i 0) b_is

    -- The tag is the domain's own: the order decides.
    fits_by_order : (x : Bool) → get_or s a 0 ≡ get_or s b 0 → fits_order (block_in_order z s t (k / 8)) (head_in_order z s (get z s (owner t) - 1)) (availability_of (get z s (entry t k))) ≡ x → x ≡ entry_fits z s t k
    fits_by_order x same order =
        let tag : entry_in_range z s t k ≡ true = or_of (not (is_ordinary z s t)) _ (λ _. lt-ltb (get z s (entry t k) / 256) (512 * z.treelings) (omega arith)) in
        let own : tag_is_own z s t k ≡ true = or_of (not (is_ordinary z s t)) _ (λ _. eq-eqb _ _ (sym tag_read ∙ same ∙ owner_again)) in
        let place : is_in_order z s t k ≡ x = rw kind order in
        sym (ap₂ ◌&&◌ (and_of tag own) place)

    module _ (same : get_or s a 0 ≡ get_or s b 0) (below : k < 512) (block : get z s (head_block (get z s (owner t) - 1)) ≤ 63) (start end : ℕ) (start_is : start ≡ span_start z s t) (end_is : end ≡ span_end z s t) where
      -- No position is free: not after the head.
      pub fits_spent : w % 256 ≡ 0 → ltb k end ≡ entry_fits z s t k
      fits_spent none =
          let here : availability_of (get z s (entry t k)) ≡ 0 = omega arith in
          fits_by_order _ same
          (fits_none (block_in_order z s t (k / 8)) (head_in_order z s (get z s (owner t) - 1)) _ here ∙ sym (order_end (get z s (rank t)) (head_rank z s t) (get z s (head_block (get z s (owner t) - 1))) k block below) ∙ ap (ltb k) (sym end_is))

      -- Some position is free: not before the head.
      pub fits_free : (w % 256 ≡ 0 → ⊥) → leb start k ≡ entry_fits z s t k
      fits_free some =
          let here : 0 < availability_of (get z s (entry t k)) = omega arith in
          fits_by_order _ same
          (fits_some (block_in_order z s t (k / 8)) (head_in_order z s (get z s (owner t) - 1)) _ here ∙ sym (order_start (get z s (rank t)) (head_rank z s t) (get z s (head_block (get z s (owner t) - 1))) k block below) ∙ ap (λ (x : ℕ). leb x k) (sym start_is))

-- ---- A sound state
-- An entry that does not fit shows that the state is not sound.
pub not_fitting : (z : Sizes) (s : List ℕ) (t k : ℕ) (r : Bool) → r ≡ entry_fits z s t k → t < z.treelings → k < 512 → r ≡ false → Sound z s → ⊥
not_fitting z s t k r test l below fails sound =
    false≢true (sym fails ∙ test ∙ sound_fits z s sound t k l below)

-- The tag of an entry that fits is in range.
pub fits_tag : (z : Sizes) (s : List ℕ) (t k : ℕ) → is_ordinary z s t ≡ true → entry_fits z s t k ≡ true → tag_of (get z s (entry t k)) < 512 * z.treelings
fits_tag z s t k kind fits =
    let range : entry_in_range z s t k ≡ true = search (and_left, and_right) in
    ltb-true (tag_of (get z s (entry t k))) (512 * z.treelings) (or_rest (not (is_ordinary z s t)) _ range (ap not kind))

-- ---- Free positions
module _ (z : Sizes) (s : List ℕ) (t : ℕ) where
  -- None before the first entry, then those of each entry.
  pub free_none : free_in z s t 0 ≡ 0
  unfolding free_in
  free_none = sum_none _

  pub free_next : (k w n m : ℕ) → w ≡ get z s (entry t k) → n ≡ free_in z s t k → m ≡ number_free (availability_of w) → n + m ≡ free_in z s t (k + 1)
  unfolding free_in
  free_next k w n m word before here =
      ap₂ ◌+◌ before (here ∙ ap (λ (v : ℕ). number_free (availability_of v)) word) ∙ sym (sum-next k _)

  -- An entry without a free position adds none.
  pub free_skip : (k w n : ℕ) → w ≡ get z s (entry t k) → w % 256 ≡ 0 → n ≡ free_in z s t k → n ≡ free_in z s t (k + 1)
  free_skip k w n word none before =
      sym (add-zero n) ∙ free_next k w n 0 word before (sym (ap number_free none ∙ none_free))

  -- The sum stays small.
  pub free_next_most : (k n m a : ℕ) → n ≡ free_in z s t k → m ≡ number_free a → n + m ≤ 8 * (k + 1)
  free_next_most k n m a before here = omega (arith, free_most z s t k, number_most a)

-- ---- Marks of a TreeLing's entries
module _ (z : Sizes) (s : List ℕ) (t k : ℕ) (marks : List ℕ) (w : ℕ) (word : w ≡ get z s (entry t k)) (before : Marks z s (512 * t + k) 0 marks) where
  -- The entry, numbered through all TreeLings.
  same_word_lem : w ≡ get z s (entry 0 (512 * t + k))
  same_word_lem = word ∙ ap (λ (i : ℕ). get_or s i 0) (omega arith)

  -- One without a free position marks nothing.
  pub tally_skip : w % 256 ≡ 0 → Marks z s (512 * t + (k + 1)) 0 marks
  tally_skip none =
      let n : 512 * t + k + 1 ≡ 512 * t + (k + 1) = omega arith in
      subst (λ (i : ℕ). Marks z s i 0 marks) n (skip_entry z s (512 * t + k) marks w same_word_lem before none)

  module _ (below : k < 512) (kind : is_ordinary z s t ≡ true) (fits : entry_fits z s t k ≡ true) (r : Bool) (marked : r ≡ eqb (bit_and (get_or marks (w / 256) 0) (w % 256)) 0) where
    same_tag : tag_of w < 512 * z.treelings
    same_tag = omega (arith, fits_tag z s t k kind fits)

    same_kind : is_ordinary z s ((512 * t + k) / 512) ≡ true
    same_kind =
        let here : (512 * t + k) / 512 ≡ t = omega arith in
        ap (is_ordinary z s) here ∙ kind

    -- One more entry is marked.
    pub tally_next : (after : List ℕ) → after ≡ cond r (set marks (w / 256) (get_or marks (w / 256) 0 + w % 256)) marks → r ≡ true → Marks z s (512 * t + (k + 1)) 0 after
    tally_next after after_is none =
        let more = set marks (w / 256) (get_or marks (w / 256) 0 + w % 256) in
        let is : after ≡ more = after_is ∙ ap (λ (b : Bool). cond b more marks) none in
        let n : 512 * t + k + 1 ≡ 512 * t + (k + 1) = omega arith in
        subst (λ (l : List ℕ). Marks z s (512 * t + (k + 1)) 0 l) (sym is)
        (subst (λ (i : ℕ). Marks z s i 0 more) n
        (mark_entry z s (512 * t + k) marks w same_word_lem before same_kind same_tag (eqb-true _ _ (sym marked ∙ none))))

    -- A position is marked already.
    pub tally_clash : t < z.treelings → r ≡ false → Sound z s → ⊥
    tally_clash l test =
        entry_clash z s (512 * t + k) marks w same_word_lem before same_kind (omega arith) same_tag (eqb-false _ _ (sym marked ∙ test))

-- Entries that are zero mark nothing.
skip_entries : (z : Sizes) (s : List ℕ) (n m : ℕ) (marks : List ℕ) → Marks z s n 0 marks → ((j : ℕ) → j < m → get z s (entry 0 (n + j)) ≡ 0) → Marks z s (n + m) 0 marks
skip_entries z s n zero marks before none =
    subst (λ (i : ℕ). Marks z s i 0 marks) (sym (add-zero n)) before
skip_entries z s n (suc m) marks before none =
    let e : n + m + 1 ≡ n + suc m = omega arith in
    subst (λ (i : ℕ). Marks z s i 0 marks) e
    (skip_entry z s (n + m) marks 0 (sym (none m (omega arith))) (skip_entries z s n m marks before (λ j l. none j (omega arith))) refl)

-- ---- Pages counted
-- A TreeLing adds to its owner's pages alone.
left_next : (z : Sizes) (s : List ℕ) (d n : ℕ) → pages_left z s d (n + 1) ≡ pages_left z s d n + cond (eqb (get z s (owner n)) (suc d)) (4096 - free_in z s n 512) 0
unfolding pages_left
left_next z s d n = sum-next n _

-- At most 4,096 for each TreeLing.
left_most : (z : Sizes) (s : List ℕ) (d n : ℕ) → pages_left z s d n ≤ 4096 * n
unfolding pages_left sum
left_most z s d zero = omega arith
left_most z s d (suc n) = omega (arith, left_most z s d n, most (eqb (get z s (owner n)) (suc d)))
  where
    most : (b : Bool) → cond b (4096 - free_in z s n 512) 0 ≤ 4096
    most true = omega arith
    most false = omega arith

module _ (z : Sizes) (s : List ℕ) (t : ℕ) (pages : List ℕ) (before : Counted z s t pages) where
  -- Domain e's pages do not change with a TreeLing that it does not own.
  other_pages : (e : ℕ) → e < z.domains → (get z s (owner t) ≡ suc e → ⊥) → get_or pages e 0 ≡ pages_left z s e (t + 1)
  other_pages e l other =
      let no = ne_eqb (get z s (owner t)) (suc e) other in
      omega (arith, before.pages_are e l, left_next z s e t, ap {B = ℕ} (λ (b : Bool). cond b (4096 - free_in z s t 512) 0) no)

  -- An unowned TreeLing has no pages.
  counted_none : get z s (owner t) ≡ 0 → Counted z s (t + 1) pages
  counted_none none =
      record { room = before.room; pages_are = λ e l. other_pages e l (λ own. omega arith) }

  -- An owned TreeLing's pages are its owner's.
  pub counted_next : (d free : ℕ) → get z s (owner t) ≡ suc d → d < z.domains → free ≡ free_in z s t 512 → Counted z s (t + 1) (set pages d (get_or pages d 0 + (4096 - free)))
  counted_next d free own within free_is =
      record { room = simp length-set before.room; pages_are = λ e l. go e l (eqb e d) refl }
    where
      go : (e : ℕ) → e < z.domains → (b : Bool) → eqb e d ≡ b → get_or (set pages d (get_or pages d 0 + (4096 - free))) e 0 ≡ pages_left z s e (t + 1)
      go e l true test =
          let same = eqb-true e d test in
          let yes = eq-eqb (get z s (owner t)) (suc d) own in
          let inside : d < length pages = omega (arith, before.room) in
          ap (λ (i : ℕ). get_or (set pages d (get_or pages d 0 + (4096 - free))) i 0) same
          ∙ get_or-set_same pages d (get_or pages d 0 + (4096 - free)) 0 inside
          ∙ omega (arith, before.pages_are d within, left_next z s d t, ap {B = ℕ} (λ (b : Bool). cond b (4096 - free_in z s t 512) 0) yes)
          ∙ ap (λ (i : ℕ). pages_left z s i (t + 1)) (sym same)
      go e l false test =
          let apart = eqb-false e d test in
          get_or-set_other pages d e (get_or pages d 0 + (4096 - free)) 0 apart
          ∙ other_pages e l (λ mine. apart (omega arith))

  -- Few enough to add to.
  pub pages_most : (d : ℕ) → d < z.domains → get_or pages d 0 ≤ 4096 * t
  pages_most d l = omega (arith, before.pages_are d l, left_most z s d t)

-- ---- A TreeLing's entries
module _ (z : Sizes) (s : List ℕ) (t : ℕ) where
  -- What a tally says, by its two cases.
  pub tally_free : (marks : List ℕ) (r : Option ℕ) (n : ℕ) → TallyIs z s t marks r → r ≡ Some n → (all 512 (entry_fits z s t) ≡ true) × Marks z s (512 * (t + 1)) 0 marks × (n ≡ free_in z s t 512)
  unfolding TallyIs
  tally_free marks r n h e = subst (λ (x : Option ℕ). TallyIs z s t marks x) e h

  pub tally_fault : (marks : List ℕ) (r : Option ℕ) → TallyIs z s t marks r → r ≡ None → Sound z s → ⊥
  unfolding TallyIs
  tally_fault marks r h e = subst (λ (x : Option ℕ). TallyIs z s t marks x) e h

  -- An owned TreeLing's entries fit.
  pub owned_entries : 0 < get z s (owner t) → all 512 (entry_fits z s t) ≡ true → treeling_entries z s t ≡ true
  owned_entries owned fit = rw (lt-ltb 0 (get z s (owner t)) owned) fit

  module _ (at : ℕ) (r : Bool) (at_is : at ≡ address z (entry t 0)) (none : get z s (owner t) ≡ 0) (r_is : r ≡ all 512 (λ j. eqb (get_or s (at + j) 0) 0)) where
    -- The words tested are its entries.
    zero_entries : r ≡ all 512 (λ k. eqb (get z s (entry t k)) 0)
    zero_entries = r_is ∙ all_cong 512 _ _ (λ k l. ap (λ (i : ℕ). eqb (get_or s i 0) 0) (omega arith))

    -- An unowned TreeLing's are zero: they mark nothing and count nothing.
    pub unowned_entries : (marks pages : List ℕ) → Marks z s (512 * t) 0 marks → Counted z s t pages → r ≡ true → (treeling_entries z s t ≡ true) × Marks z s (512 * (t + 1)) 0 marks × Counted z s (t + 1) pages
    unowned_entries marks pages marked counted passes =
        let zeros = sym zero_entries ∙ passes in
        let n : 512 * t + 512 ≡ 512 * (t + 1) = omega arith in (
          rw (unowned z s t none) zeros,
          subst (λ (i : ℕ). Marks z s i 0 marks) n
              (skip_entries z s (512 * t) 512 marks marked
              (λ j l. ap (λ (i : ℕ). get_or s i 0) (omega arith) ∙ zeros_at 512 (λ k. get z s (entry t k)) zeros j l)),
          counted_none z s t pages counted none,
        )

    -- Where one is not, the state is not sound.
    pub unowned_not_sound : t < z.treelings → r ≡ false → Sound z s → ⊥
    unowned_not_sound l fails sound =
        false≢true (sym fails ∙ zero_entries ∙ sound_entries_zero z s sound t l (unowned z s t none))
