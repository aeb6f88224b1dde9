-- Laws of the passes in order: what each answer says of the whole audit.
-- Assumes nothing.
use Prim.Native.Nat.{ℕ, ◌*◌, ◌%◌, ◌<◌, ◌≤◌}
use mathlib.Core.Path.{◌≡◌, refl, sym, ap, ◌∙◌}
use mathlib.Core.List.{List}
use mathlib.Core.Bool.{Bool, true, false, false≢true}
use native.Mathlib.Omega.{arith}
use borrow.Author.Tests.{eqb-true}
use lib.Dec.{eqb}
use lib.ListN.{length, get_or, replicate, length-replicate}
use Rattle.layout.specs.declared.Sizes.{Sizes}
use Rattle.layout.specs.Places.{get, pages_mapped, entry}
use Rattle.layout.specs.Bounded.{all}
use Rattle.sound.specs.Sentences.{domain_in_range, treeling_in_range, leaf_in_range, slots_once, holes_unmapped, pages_true, true_number, is_once}
use Rattle.sound.specs.Audit.{passes}
use Rattle.sound.specs.Sound.{Sound}
use Rattle.sound.specs.CodeChained.{Records, domain_chained, treeling_chained}
use Rattle.slots.specs.CodeMarks.{Marks, Counted, treeling_entries, entry_fits}
use Rattle.sound.specs.Contents.{as_laid_out, LaidOut}
use Rattle.sound.specs.CodeCounting.{pages_left}
use Rattle.layout.proofs.BoundedLaws.{is_false, all_at, all_cong, sum_none, count_none}
use Rattle.sound.proofs.BitLaws.{bit_none}
use Rattle.sound.proofs.CountingLaws.{Placed, pages_left_lem}
use Rattle.sound.proofs.SoundLaws.{tests_passes, passes_sound, sound_pages}
use Rattle.slots.proofs.FitLaws.{entries_as, unowned_tests, all_fit}
use Rattle.sound.proofs.ContentsLaws.{laid_out}
use Rattle.sound.proofs.TestLaws.{and_left, and_right, unowned}
use Rattle.sound.proofs.OwnLaws.{tag_ranged, tag_owner}
use Rattle.sound.proofs.RecordLaws.{records_ordinary}
use Rattle.sound.proofs.ZeroLaws.{zero_at, zeros_at}

-- What is not false is true.
pub is_true : (b : Bool) → (b ≡ false → ⊥) → b ≡ true
is_true true h = refl
is_true false h = absurd (h refl)

module _ (z : Sizes) (s : List ℕ) where
  -- Cleared marks and counts: nothing is marked, nothing counted.
  pub marks_none : (n : ℕ) → 512 * z.treelings ≤ n → Marks z s 0 0 (replicate n 0)
  marks_none n l =
      record {
        room = rw length-replicate l;
        byte = λ i. rw zero_at (omega arith);
        bits = λ y h. rw (zero_at, bit_none (y % 8), count_none, count_none);
      }

  pub counted_none : (n : ℕ) → z.domains ≤ n → Counted z s 0 (replicate n 0)
  unfolding pages_left
  counted_none n l = record { room = rw length-replicate l; pages_are = λ d h. rw (zero_at, sum_none) }

  -- A fault that no sound state has: the audit does not pass.
  pub fault : LaidOut z s → (Sound z s → ⊥) → false ≡ passes z s
  fault l h = sym (is_false (passes z s) (λ e. h (passes_sound z s l e)))

  -- A test that every sound state passes, and that failed.
  pub refused : (b : Bool) → LaidOut z s → (Sound z s → b ≡ true) → b ≡ false → false ≡ passes z s
  refused b l h e = fault l (λ snd. false≢true (sym e ∙ h snd))

  -- The passes' answers together are the audit's.
  records_passes : Records z s
      → all z.treelings (treeling_entries z s) ≡ true → all z.frames (leaf_in_range z s) ≡ true → slots_once z s ≡ true → holes_unmapped z s ≡ true → pages_true z s ≡ true
      → passes z s ≡ true
  records_passes r entries leaves once holes pages =
      let domain : (d : ℕ) → d < z.domains → domain_chained z s d ≡ true = all_at z.domains (domain_chained z s) r.domains-chained in
      let treeling_is : (t : ℕ) → t < z.treelings → treeling_chained z s t ≡ true = all_at z.treelings (treeling_chained z s) r.treelings_chained in
      let entries_are : (t : ℕ) → t < z.treelings → treeling_entries z s t ≡ true = all_at z.treelings (treeling_entries z s) entries in
      let fits : (t k : ℕ) → t < z.treelings → k < 512 → entry_fits z s t k ≡ true = λ t k m n. all_fit z s t k m n (entries_are t m) in
      tests_passes z s
      (record {
        domain_range = all_at z.domains (domain_in_range z s) r.domains_range;
        treeling_range = all_at z.treelings (treeling_in_range z s) r.treelings_range;
        entry_range = λ t k m n. let h = fits t k m n in search (and_left, and_right);
        leaf_range = all_at z.frames (leaf_in_range z s) leaves;
        dead = λ d m. let h = domain d m in search (and_left, and_right);
        unowned_zero = λ t m. unowned_tests z s t (treeling_is t m) (entries_are t m);
        former = λ t m. let h = treeling_is t m in search (and_left, and_right);
        follow = λ d m. let h = domain d m in search (and_left, and_right);
        followed = λ t m. let h = treeling_is t m in search (and_left, and_right);
        empty = λ d m. let h = domain d m in search (and_left, and_right);
        head = λ d m. let h = domain d m in search (and_left, and_right);
        tag = λ t k m n. let h = fits t k m n in search (and_left, and_right);
        order = λ t k m n. let h = fits t k m n in search (and_left, and_right);
        once = once;
        holes = holes;
        pages = pages;
      })

  -- Entries, leaf map and marks in order: the places of pages are as they should be.
  placed : LaidOut z s → all z.treelings (treeling_entries z s) ≡ true → all z.frames (leaf_in_range z s) ≡ true → slots_once z s ≡ true → Placed z s
  unfolding slots_once
  placed laid entries leaves once =
      let entries_are : (t : ℕ) → t < z.treelings → treeling_entries z s t ≡ true = all_at z.treelings (treeling_entries z s) entries in
      let fits : (t k : ℕ) → t < z.treelings → k < 512 → entry_fits z s t k ≡ true = λ t k m n. all_fit z s t k m n (entries_are t m) in
      record {
        max_treelings = laid.laid.sizes.max_treelings;
        tag_range = λ d t k m n o ordinary. let h = fits t k m n in tag_ranged z s d t k (search (and_left, and_right)) o ordinary;
        leaf_range = all_at z.frames (leaf_in_range z s) leaves;
        unowned_entry = λ t k m n o. zeros_at 512 (λ i. get z s (entry t i)) (entries_as z s t false (entries_are t m) (unowned z s t o)) k n;
        tag_own = λ d t k m n o ordinary. let h = fits t k m n in tag_owner z s d t k (search (and_left, and_right)) o ordinary;
        slot_once = λ y l. eqb-true _ _ (all_at (4096 * z.treelings) (is_once z s) once y l);
      }

  -- All passes but the last passed: the pages counted decide.
  pub pages_decide : LaidOut z s → Records z s → all z.treelings (treeling_entries z s) ≡ true → all z.frames (leaf_in_range z s) ≡ true → slots_once z s ≡ true → holes_unmapped z s ≡ true
      → (pages : List ℕ) → Counted z s z.treelings pages → (r : Bool) → r ≡ all z.domains (λ d. eqb (get z s (pages_mapped d)) (get_or pages d 0)) → r ≡ passes z s
  unfolding pages_true
  pages_decide laid records entries leaves once holes pages counted r e = go r refl
    where
      counts : r ≡ pages_true z s
      counts =
          e
          ∙ all_cong z.domains (λ d. eqb (get z s (pages_mapped d)) (get_or pages d 0)) (λ d. eqb (get z s (pages_mapped d)) (true_number z s d))
          (λ d l. ap (λ (n : ℕ). eqb (get z s (pages_mapped d)) n) (counted.pages_are d l ∙ pages_left_lem z s d (placed laid entries leaves once) (records_ordinary z s records d)))

      go : (b : Bool) → r ≡ b → r ≡ passes z s
      go true h = h ∙ sym (records_passes records entries leaves once holes (sym counts ∙ h))
      go false h = h ∙ refused (pages_true z s) laid (sound_pages z s) (sym counts ∙ h)

-- Contents laid out as they should be are of 25 words at least.
pub laid_long : (s : List ℕ) → as_laid_out s ≡ true → 25 ≤ length s
laid_long s h = omega (arith, (laid_out s h).laid)
