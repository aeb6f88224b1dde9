-- "At least 25 words, contents as laid out and within their ranges, length exact": the test and the facts.
-- Assumes nothing.
use Prim.Native.Nat.{ℕ, ◌+◌, ◌-◌, ◌*◌, ◌<◌, ◌≤◌}
use mathlib.Core.Path.{◌≡◌, sym, ap, ◌∙◌}
use mathlib.Core.List.{List}
use mathlib.Core.Bool.{true}
use native.Mathlib.Omega.{arith}
use borrow.Author.Tests.{eqb-true, eq-eqb, leb-true, le-leb, ltb-true, lt-ltb}
use lib.Dec.{leb, ltb, eqb}
use lib.ListN.{length, get_or, take}
use lib.Seq.{get_or-take}
use Rattle.layout.specs.declared.Sizes.{Sizes}
use Rattle.layout.specs.Places.{Allowed, allowed, one_to, get, hand, content, domain, treeling, entry, leaf, address, word_count}
use Rattle.board.specs.Holes.{HolesFit, hole_count, hole_words, holes_fit, unused_zero, holes_as_laid_out}
use Rattle.board.specs.NewState.{first_eight}
use Rattle.layout.proofs.PlaceLaws.{allowed_facts}
use Rattle.layout.proofs.WindowLaws.{eight_read}
use Rattle.sound.specs.Contents.{sizes_in, starts_as_laid_out, as_laid_out, LaidOut}
use Rattle.layout.proofs.BoundedLaws.{and_both, and_of, all_at, all_of}
use Rattle.board.proofs.HoleLaws.{HolesKept, fit_facts, fit_test, fit_kept, word_kept}
use Rattle.sound.proofs.TestLaws.{and_left, and_right}

-- The limits, as a test.
one_to_test : (x most : ℕ) → 1 ≤ x → x ≤ most → one_to x most ≡ true
one_to_test x most low high = and_of (le-leb 1 x low) (le-leb x most high)

pub allowed_test : (z : Sizes) → Allowed z → allowed z ≡ true
unfolding allowed
allowed_test z a =
    and_of
    (and_of
    (one_to_test z.treelings 4096 a.some_treelings a.max_treelings)
    (one_to_test z.domains 4096 a.some_domains a.max_domains))
    (one_to_test z.frames 8388608 a.some_frames a.max_frames)

-- The starts of the four bodies in their places make the contents.
starts_contents : (s : List ℕ) → 8 ≤ length s → starts_as_laid_out (sizes_in s) s ≡ true → take 8 s ≡ first_eight (sizes_in s) (get_or s 3 0)
starts_contents s l h =
    let w4 = eqb-true (get_or s 4 0) (address (sizes_in s) (domain 0 0)) (search (and_left, and_right)) in
    let w5 = eqb-true (get_or s 5 0) (address (sizes_in s) (treeling 0 0)) (search (and_left, and_right)) in
    let w6 = eqb-true (get_or s 6 0) (address (sizes_in s) (entry 0 0)) (search (and_left, and_right)) in
    let w7 = eqb-true (get_or s 7 0) (address (sizes_in s) (leaf 0)) (search (and_left, and_right)) in
    sym (eight_read s 0 l) ∙ rw (w4, w5, w6, w7)

-- The holes, from the test to the facts, and back.
holes_facts : (p : ℕ) (s : List ℕ) → holes_as_laid_out p s ≡ true → HolesFit p (hole_count s) (hole_words s) × ((j : ℕ) → 2 * hole_count s ≤ j → j < 16 → get_or (hole_words s) j 0 ≡ 0)
unfolding holes_as_laid_out
holes_facts p s h =
    let both = and_both (holes_fit p (hole_count s) (hole_words s)) (unused_zero s) h in
    let n = 2 * hole_count s in
    let zero_at : (i : ℕ) → i < 16 - n → get_or (hole_words s) (n + i) 0 ≡ 0 =
    λ i l. eqb-true (get_or (hole_words s) (n + i) 0) 0 (all_at (16 - n) (λ k. eqb (get_or (hole_words s) (n + k) 0) 0) both.1 i l) in (
      fit_facts p (hole_count s) (hole_words s) both.0,
      λ j low high. let is : n + (j - n) ≡ j = omega arith in ap (λ (k : ℕ). get_or (hole_words s) k 0) (sym is) ∙ zero_at (j - n) (omega arith),
    )

holes_test : (p : ℕ) (s : List ℕ) → HolesFit p (hole_count s) (hole_words s) → ((j : ℕ) → 2 * hole_count s ≤ j → j < 16 → get_or (hole_words s) j 0 ≡ 0) → holes_as_laid_out p s ≡ true
unfolding holes_as_laid_out
holes_test p s fit unused =
    let n = 2 * hole_count s in
    and_of (fit_test p (hole_count s) (hole_words s) fit)
    (all_of (16 - n) (λ k. eqb (get_or (hole_words s) (n + k) 0) 0) (λ k l. eq-eqb (get_or (hole_words s) (n + k) 0) 0 (unused (n + k) (omega arith) (omega arith))))

-- Contents as laid out, from the test to the facts, and back below.
pub laid_out : (s : List ℕ) → as_laid_out s ≡ true → LaidOut (sizes_in s) s
unfolding as_laid_out
laid_out s h =
    let long : leb 25 (length s) ≡ true = search (and_left, and_right) in
    let sizes : allowed (sizes_in s) ≡ true = search (and_left, and_right) in
    let below : ltb (get_or s 3 0) (get_or s 0 0) ≡ true = search (and_left, and_right) in
    let starts : starts_as_laid_out (sizes_in s) s ≡ true = search (and_left, and_right) in
    let holes : holes_as_laid_out (sizes_in s).frames s ≡ true = search (and_left, and_right) in
    let both = holes_facts (sizes_in s).frames s holes in
    let exact : eqb (length s) (word_count (sizes_in s)) ≡ true = search (and_left, and_right) in
    record {
      laid = record { sizes = allowed_facts (sizes_in s) sizes; long = eqb-true (length s) (word_count (sizes_in s)) exact };
      first_eight_are = starts_contents s (omega (arith, leb-true 25 (length s) long)) starts;
      hand_range = ltb-true (get_or s 3 0) (get_or s 0 0) below;
      holes_fit_lem = both.0;
      unused_zero_lem = both.1;
    }

-- A word of the contents.
pub content_word : (z : Sizes) (s : List ℕ) → take 8 s ≡ first_eight z (get z s hand) → (i : ℕ) → i < 8
    → get_or s i 0 ≡ get_or (first_eight z (get z s hand)) i 0
content_word z s h i l = sym (get_or-take 8 s i 0 l) ∙ ap (λ (w : List ℕ). get_or w i 0) h

-- The sizes are those that the contents name.
pub sizes_named : (z : Sizes) (s : List ℕ) → take 8 s ≡ first_eight z (get z s hand) → sizes_in s ≡ z
sizes_named z s h =
    rw (content_word z s h 0 (omega arith), content_word z s h 1 (omega arith), content_word z s h 2 (omega arith))

pub laid_out_back : (s : List ℕ) → LaidOut (sizes_in s) s → as_laid_out s ≡ true
unfolding as_laid_out
laid_out_back s h =
    let z = sizes_in s in
    let l = h.laid in
    let word = content_word z s h.first_eight_are in
    and_of
    (and_of
    (and_of
    (and_of
    (and_of
    (le-leb 25 (length s) (omega arith))
    (allowed_test z l.sizes))
    (lt-ltb (get_or s 3 0) (get_or s 0 0) h.hand_range))
    (and_of
    (and_of
    (and_of
    (eq-eqb (get_or s 4 0) (address z (domain 0 0)) (word 4 (omega arith)))
    (eq-eqb (get_or s 5 0) (address z (treeling 0 0)) (word 5 (omega arith))))
    (eq-eqb (get_or s 6 0) (address z (entry 0 0)) (word 6 (omega arith))))
    (eq-eqb (get_or s 7 0) (address z (leaf 0)) (word 7 (omega arith)))))
    (holes_test z.frames s h.holes_fit_lem h.unused_zero_lem))
    (eq-eqb (length s) (word_count z) l.long)

-- Words of the same length with the same contents but for a hand in its range.
pub laid_kept : (z : Sizes) (s r : List ℕ) → length r ≡ length s → ((i : ℕ) → i < 25 → (i ≡ 3 → ⊥) → get z r (content i) ≡ get z s (content i)) → get z r hand < z.treelings → LaidOut z s → LaidOut z r
laid_kept z s r long same below h =
    let word : (i : ℕ) → i < 8 → (i ≡ 3 → ⊥) → get_or r i 0 ≡ get_or (first_eight z (get z s hand)) i 0 =
    λ i l apart. same i (omega arith) apart ∙ content_word z s h.first_eight_are i l in
    let kept : HolesKept s r = λ j low high. same j high (omega arith) in
    record {
      laid = record { sizes = h.laid.sizes; long = long ∙ h.laid.long };
      first_eight_are =
          sym (eight_read r 0 (omega (arith, h.laid.long)))
          ∙ rw (
            word 0 (omega arith) (omega arith),
            word 1 (omega arith) (omega arith),
            word 2 (omega arith) (omega arith),
            word 4 (omega arith) (omega arith),
            word 5 (omega arith) (omega arith),
            word 6 (omega arith) (omega arith),
            word 7 (omega arith) (omega arith),
          );
      hand_range = below;
      holes_fit_lem = fit_kept s r kept z.frames h.holes_fit_lem;
      unused_zero_lem = λ j low high. word_kept s r kept j high ∙ h.unused_zero_lem j (omega (arith, kept 8 (omega arith) (omega arith))) high;
    }
