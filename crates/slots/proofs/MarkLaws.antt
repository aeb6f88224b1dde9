-- Laws of the marks: a mark added for a word keeps them true, a mark that is there already contradicts a sound state, and full marks are slots taken once.
-- Assumes nothing.
use Prim.Native.Nat.{ℕ, zero, suc, ◌+◌, ◌*◌, ◌/◌, ◌%◌, ◌<◌, ◌≤◌}
use mathlib.Core.Path.{◌≡◌, refl, sym, ap, ap₂, ◌∙◌}
use mathlib.Core.List.{List}
use mathlib.Core.Bool.{Bool, true, false, cond, ◌&&◌}
use native.Mathlib.Nat.{add-zero}
use native.Mathlib.Omega.{arith}
use lib.Bits.{bit_and, and_zero_r}
use lib.Dec.{eqb}
use lib.ListN.{length, get_or, set, length-set}
use lib.Seq.{get_or-set_same, get_or-set_other}
use borrow.Author.Tests.{eqb-true, eqb-false, eq-eqb}
use Rattle.layout.specs.declared.Sizes.{Sizes}
use Rattle.geometry.specs.Tables.{bit}
use Rattle.geometry.specs.Entries.{tag_of, availability_of}
use Rattle.layout.specs.Places.{get, entry, leaf}
use Rattle.layout.specs.Bounded.{all}
use Rattle.sound.specs.Sentences.{is_owned, is_ordinary, marks_free, times_free, times_named, slots_once}
use Rattle.sound.specs.Sound.{Sound}
use Rattle.sound.specs.CodeChained.{Records}
use Rattle.slots.specs.CodeMarks.{Marked, Marks, times_marked}
use Rattle.layout.proofs.BoundedLaws.{and_of, and_no, all_at, all_of, count_next, count_le}
use Rattle.sound.proofs.RecordLaws.{records_kind, sound_kind}
use Rattle.sound.proofs.BitLaws.{bit_most, bit_none, disjoint_bits, disjoint_below, common_bit, same_bits, full_bits, full_below}

-- Positions a of node g cover slot y.
abbrev pub covers : ℕ → ℕ → ℕ → Bool
covers g a y = eqb g (y / 8) && eqb (bit (y % 8) a) 1

-- What is 0 or 1, as a test.
as_test : (x : ℕ) → x ≤ 1 → x ≡ cond (eqb x 1) 1 0
as_test zero h = refl
as_test (suc zero) h = refl
as_test (suc (suc x)) h = absurd (omega arith)

-- A test counts for at most one.
one_most : (b : Bool) → cond b 1 0 ≤ 1
one_most true = omega arith
one_most false = omega arith

-- A bit of positions that may be left out, as a test.
part_bit : (i a : ℕ) (b : Bool) → bit i (cond b a 0) ≡ cond (b && eqb (bit i a) 1) 1 0
part_bit i a true = as_test (bit i a) (bit_most i a)
part_bit i a false = bit_none i

-- ---- marks with positions a of node g added, none of which is marked
module _ (marks : List ℕ) (g a : ℕ) (inside : g < length marks) (none : bit_and (get_or marks g 0) a ≡ 0) where
  -- What is added at node i.
  abbrev part : ℕ → ℕ
  part i = cond (eqb g i) a 0

  abbrev added : List ℕ
  added = set marks g (get_or marks g 0 + a)

  -- A node's mark grows by its part, which has no bit in common with it.
  part_added : (i : ℕ) → (get_or added i 0 ≡ get_or marks i 0 + part i) × (bit_and (get_or marks i 0) (part i) ≡ 0)
  part_added i = go (eqb g i) refl
    where
      go : (b : Bool) → eqb g i ≡ b → (get_or added i 0 ≡ get_or marks i 0 + cond b a 0) × (bit_and (get_or marks i 0) (cond b a 0) ≡ 0)
      go true e =
          let same = eqb-true g i e in (
            ap (λ (k : ℕ). get_or added k 0) (sym same)
                ∙ get_or-set_same marks g (get_or marks g 0 + a) 0 inside
                ∙ ap (λ (k : ℕ). get_or marks k 0 + a) same,
            ap (λ (k : ℕ). bit_and (get_or marks k 0) a) (sym same) ∙ none,
          )
      go false e = (
        get_or-set_other marks g i (get_or marks g 0 + a) 0 (λ same. eqb-false g i e (sym same))
            ∙ sym (add-zero (get_or marks i 0)),
        and_zero_r (get_or marks i 0),
      )

  -- The marks stay bytes.
  added_byte : a < 256 → ((i : ℕ) → get_or marks i 0 < 256) → (i : ℕ) → get_or added i 0 < 256
  added_byte small bytes i =
      let grown = part_added i in
      let below = disjoint_below (get_or marks i 0) (part i) (bytes i) (go (eqb g i)) grown.1 in
      omega arith
    where
      go : (b : Bool) → cond b a 0 < 256
      go true = small
      go false = omega arith

  -- The bit of each slot grows by one where the positions cover it.
  added_bit : (y : ℕ) → bit (y % 8) (get_or added (y / 8) 0) ≡ bit (y % 8) (get_or marks (y / 8) 0) + cond (covers g a y) 1 0
  added_bit y =
      let grown = part_added (y / 8) in
      ap (λ (k : ℕ). bit (y % 8) k) grown.0
      ∙ disjoint_bits (y % 8) (get_or marks (y / 8) 0) (part (y / 8)) grown.1
      ∙ ap (λ (k : ℕ). bit (y % 8) (get_or marks (y / 8) 0) + k) (part_bit (y % 8) a (eqb g (y / 8)))

-- In a sound state no slot is free or named more than once, in whatever part of the words.
pub times_most : (z : Sizes) (s : List ℕ) (n p y : ℕ) → Sound z s → n ≤ 512 * z.treelings → p ≤ z.frames → y < 4096 * z.treelings → times_marked z s n p y ≤ 1
unfolding times_free times_named
times_most z s n p y sound hn hp hy =
    let free = count_le n (512 * z.treelings) (λ j. is_ordinary z s (j / 512) && marks_free z s y (get z s (entry 0 j))) hn in
    let named = count_le p z.frames (λ f. eqb (get z s (leaf f)) (suc y)) hp in
    omega (arith, sound.slot_once y hy, one_most (is_ordinary z s (y / 4096)))

-- Words that mark or name no slot leave the marks as they are.
pub unmarked : (z : Sizes) (old new : ℕ → ℕ) (marks : List ℕ) → Marked z old marks → ((y : ℕ) → new y ≡ old y) → Marked z new marks
unmarked z old new marks h same =
    record { room = h.room; byte = h.byte; bits = λ y l. h.bits y l ∙ sym (same y) }

-- ---- one more word, which covers positions a of node g
module _ (z : Sizes) (old new : ℕ → ℕ) (marks : List ℕ) (h : Marked z old marks) (g a : ℕ) (inside : g < 512 * z.treelings) (more : (y : ℕ) → new y ≡ old y + cond (covers g a y) 1 0) where
  -- None of them is marked: marked, they are counted.
  pub marked : a < 256 → bit_and (get_or marks g 0) a ≡ 0 → Marked z new (set marks g (get_or marks g 0 + a))
  marked small none =
      let within : g < length marks = omega (arith, h.room) in
      record {
        room = simp length-set h.room;
        byte = added_byte marks g a within none small h.byte;
        bits = λ y l. added_bit marks g a within none y ∙ ap (λ (k : ℕ). k + cond (covers g a y) 1 0) (h.bits y l) ∙ sym (more y);
      }

  -- One of them is marked already: its slot is counted twice.
  pub clash : ((y : ℕ) → y < 4096 * z.treelings → new y ≤ 1) → (bit_and (get_or marks g 0) a ≡ 0 → ⊥) → ⊥
  clash most some =
      let found = common_bit (get_or marks g 0) a (h.byte g) some in
      twice (8 * g + found.0) found.0 (omega arith) (omega arith) (omega arith) found.2 found.3
    where
      twice : (y i : ℕ) → y < 4096 * z.treelings → y / 8 ≡ g → y % 8 ≡ i → bit i (get_or marks g 0) ≡ 1 → bit i a ≡ 1 → ⊥
      twice y i l node place here there =
          let before : old y ≡ 1 = sym (h.bits y l) ∙ ap₂ (λ (k m : ℕ). bit k (get_or marks m 0)) place node ∙ here in
          let again : covers g a y ≡ true = and_of (eq-eqb g (y / 8) (sym node)) (eq-eqb (bit (y % 8) a) 1 (ap (λ (k : ℕ). bit k a) place ∙ there)) in
          omega (arith, more y, ap {B = ℕ} (λ (b : Bool). cond b 1 0) again, most y l)

-- ---- one more NFL entry, whose word is w
module _ (z : Sizes) (s : List ℕ) (n : ℕ) (marks : List ℕ) (w : ℕ) (word : w ≡ get z s (entry 0 n)) (h : Marks z s n 0 marks) where
  -- The entry of an ordinary domain adds one where its positions cover the slot.
  entry_next : (y : ℕ) → times_marked z s (n + 1) 0 y ≡ times_marked z s n 0 y + cond (is_ordinary z s (n / 512) && covers (tag_of w) (availability_of w) y) 1 0
  entry_next y =
      let next = count_next n (λ j. is_ordinary z s (j / 512) && marks_free z s y (get z s (entry 0 j))) in
      let here = ap {B = ℕ} (λ (v : ℕ). cond (is_ordinary z s (n / 512) && covers (tag_of v) (availability_of v) y) 1 0) word in
      omega arith

  entry_more : is_ordinary z s (n / 512) ≡ true → (y : ℕ) → times_marked z s (n + 1) 0 y ≡ times_marked z s n 0 y + cond (covers (tag_of w) (availability_of w) y) 1 0
  entry_more kind y =
      entry_next y ∙ ap (λ (b : Bool). times_marked z s n 0 y + cond {A = ℕ} (b && covers (tag_of w) (availability_of w) y) 1 0) kind

  -- No position of it is marked: marked, they are the marks of n + 1 entries.
  pub mark_entry : is_ordinary z s (n / 512) ≡ true → tag_of w < 512 * z.treelings → bit_and (get_or marks (tag_of w) 0) (availability_of w) ≡ 0
      → Marks z s (n + 1) 0 (set marks (tag_of w) (get_or marks (tag_of w) 0 + availability_of w))
  mark_entry kind tag none =
      marked z (times_marked z s n 0) (times_marked z s (n + 1) 0) marks h (tag_of w) (availability_of w) tag (entry_more kind) (omega arith) none

  -- A position of it is marked already: the state is not sound.
  pub entry_clash : is_ordinary z s (n / 512) ≡ true → n < 512 * z.treelings → tag_of w < 512 * z.treelings → (bit_and (get_or marks (tag_of w) 0) (availability_of w) ≡ 0 → ⊥)
      → Sound z s → ⊥
  entry_clash kind l tag some sound =
      clash z (times_marked z s n 0) (times_marked z s (n + 1) 0) marks h (tag_of w) (availability_of w) tag (entry_more kind) (λ y hy. times_most z s (n + 1) 0 y sound (omega arith) (omega arith) hy) some

  -- It has no position.
  pub skip_entry : availability_of w ≡ 0 → Marks z s (n + 1) 0 marks
  skip_entry none = unmarked z (times_marked z s n 0) (times_marked z s (n + 1) 0) marks h same
    where
      same : (y : ℕ) → times_marked z s (n + 1) 0 y ≡ times_marked z s n 0 y
      same y =
          let free : eqb (bit (y % 8) (availability_of w)) 1 ≡ false = ap (λ (a : ℕ). eqb (bit (y % 8) a) 1) none ∙ ap (λ (k : ℕ). eqb k 1) (bit_none (y % 8)) in
          let covered = and_no (eqb (tag_of w) (y / 8)) (eqb (bit (y % 8) (availability_of w)) 1) free in
          let uncounted = and_no (is_ordinary z s (n / 512)) (covers (tag_of w) (availability_of w) y) covered in
          omega (arith, entry_next y, ap {B = ℕ} (λ (b : Bool). cond b 1 0) uncounted)

-- ---- all words marked
-- The mark of node k of TreeLing t is full where it is owned, else empty.
abbrev pub is_full : Sizes → List ℕ → List ℕ → ℕ → ℕ → Bool
is_full z s marks t k = eqb (get_or marks (512 * t + k) 0) (cond (is_owned z s t) 255 0)

module _ (z : Sizes) (s : List ℕ) (marks : List ℕ) (h : Marks z s (512 * z.treelings) z.frames marks) where
  -- Marks as they should be: each slot is taken once.
  pub marks_once : Records z s → all z.treelings (λ t. all 512 (is_full z s marks t)) ≡ true → slots_once z s ≡ true
  unfolding slots_once times_free times_named
  marks_once records full =
      all_of (4096 * z.treelings) _ (λ y l. eq-eqb _ _ (sym (h.bits y l) ∙ once y l ∙ ap {B = ℕ} (λ (b : Bool). cond b 1 0) (sym (records_kind z s records (y / 4096) (omega arith)))))
    where
      once : (y : ℕ) → y < 4096 * z.treelings → bit (y % 8) (get_or marks (y / 8) 0) ≡ cond (is_owned z s (y / 4096)) 1 0
      once y l =
          let node : 512 * (y / 4096) + y / 8 % 512 ≡ y / 8 = omega arith in
          let mark = all_at 512 (is_full z s marks (y / 4096)) (all_at z.treelings (λ t. all 512 (is_full z s marks t)) full (y / 4096) (omega arith)) (y / 8 % 512) (omega arith) in
          ap (λ (g : ℕ). bit (y % 8) (get_or marks g 0)) (sym node)
          ∙ ap (λ (m : ℕ). bit (y % 8) m) (eqb-true (get_or marks (512 * (y / 4096) + y / 8 % 512) 0) (cond (is_owned z s (y / 4096)) 255 0) mark)
          ∙ full_bits (is_owned z s (y / 4096)) (y % 8) (omega arith)

  -- And back, in a sound state.
  pub once_marks : Sound z s → all z.treelings (λ t. all 512 (is_full z s marks t)) ≡ true
  unfolding times_free times_named
  once_marks sound = all_of z.treelings _ (λ t ht. all_of 512 (is_full z s marks t) (λ k hk. eq-eqb _ _ (full t k ht hk)))
    where
      marked_at : (y t g i : ℕ) → y < 4096 * z.treelings → y / 4096 ≡ t → y / 8 ≡ g → y % 8 ≡ i → bit i (get_or marks g 0) ≡ cond (is_owned z s t) 1 0
      marked_at y t g i l treeling node place =
          sym (ap₂ (λ (a b : ℕ). bit a (get_or marks b 0)) place node)
          ∙ h.bits y l
          ∙ sound.slot_once y l
          ∙ ap {B = ℕ} (λ (b : Bool). cond b 1 0) (sound_kind z s sound (y / 4096) (omega arith))
          ∙ ap {B = ℕ} (λ (u : ℕ). cond (is_owned z s u) 1 0) treeling

      full : (t k : ℕ) → t < z.treelings → k < 512 → get_or marks (512 * t + k) 0 ≡ cond (is_owned z s t) 255 0
      full t k ht hk =
          same_bits 8 (get_or marks (512 * t + k) 0) (cond (is_owned z s t) 255 0) (h.byte (512 * t + k)) (full_below (is_owned z s t))
          (λ i l. marked_at (8 * (512 * t + k) + i) t (512 * t + k) i (omega arith) (omega arith) (omega arith) (omega arith) ∙ sym (full_bits (is_owned z s t) i l))
