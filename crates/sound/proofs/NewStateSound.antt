-- A new state is sound: it passes the audit. Its holes are those that it was made with.
-- Assumes nothing.
use Prim.Native.Nat.{ℕ, zero, suc, ◌+◌, ◌-◌, ◌*◌, ◌/◌, ◌%◌, ◌^◌, ◌<◌, ◌≤◌}
use mathlib.Core.Path.{◌≡◌, refl, sym, ap, ap₂, ◌∙◌}
use mathlib.Core.List.{List, [], ◌++◌}
use mathlib.Core.Bool.{Bool, cond, ◌&&◌}
use native.Mathlib.Nat.{le_dest, zero-div}
use native.Mathlib.Omega.{arith}
use borrow.Author.Tests.{ne_eqb}
use lib.Dec.{eqb, ltb}
use lib.ListN.{length, get_or, take, replicate, length-append, length-replicate, get_or-append}
use lib.Seq.{get_or-append-add}
use Rattle.layout.specs.declared.Sizes.{Sizes}
use Rattle.geometry.specs.Tables.{bit}
use Rattle.geometry.specs.Entries.{tag_of, availability_of}
use Rattle.leaf_map.specs.LeafIds.{leaf_fits, treeling_of}
use Rattle.board.specs.Holes.{HolesAllowed, HolesFit, hole_count, hole_words}
use Rattle.board.specs.NewState.{first_eight, contents, new_state}
use Rattle.layout.specs.Places.{Allowed, get, hand, domain, treeling, entry, leaf, address, word_count, owner}
use Rattle.sound.specs.Sentences.{is_ordinary, marks_free, times_free, times_named, is_mapped_by, true_number}
use Rattle.sound.specs.Audit.{audit_number}
use Rattle.sound.specs.Sound.{Sound}
use Rattle.layout.proofs.BoundedLaws.{and_no, count_no}
use Rattle.leaf_map.proofs.LeafIdLaws.{none_fits}
use Rattle.board.proofs.HoleLaws.{fit_none, fit_same}
use Rattle.sound.proofs.TestLaws.{not_ordinary}
use Rattle.sound.proofs.SoundLaws.{sound_number}

-- A word of zeros.
zeros-word : (n i : ℕ) → ◌≡◌ {A = ℕ} (get_or (replicate n 0) i 0) 0
zeros-word zero i = refl
zeros-word (suc n) zero = refl
zeros-word (suc n) (suc i) = zeros-word n i

module _ (z : Sizes) (hs : List ℕ) (few : length hs ≤ 16) where
  -- The contents are 25 words.
  contents-length : length (contents z hs 0) ≡ 25
  contents-length =
      let l = length-append hs (replicate (16 - length hs) 0) in
      omega (arith, length-replicate {A = ℕ} (16 - length hs) 0)

  -- Every word past the contents is 0.
  new_word : (a : ℕ) → 25 ≤ a → get_or (new_state z hs) a 0 ≡ 0
  unfolding new_state
  new_word a h =
      let i = le_dest h in
      ap (λ (k : ℕ). get_or (new_state z hs) k 0) (sym i.1)
      ∙ ap (λ (k : ℕ). get_or (new_state z hs) (k + i.0) 0) (sym contents-length)
      ∙ get_or-append-add (contents z hs 0) (replicate (word_count z - 25) 0) i.0 0
      ∙ zeros-word (word_count z - 25) i.0

  -- By place.
  pub new_domain : (d j : ℕ) → get z (new_state z hs) (domain d j) ≡ 0
  new_domain d j = new_word (address z (domain d j)) (omega arith)

  pub new_treeling : (t j : ℕ) → get z (new_state z hs) (treeling t j) ≡ 0
  new_treeling t j = new_word (address z (treeling t j)) (omega arith)

  pub new_entry : (t k : ℕ) → get z (new_state z hs) (entry t k) ≡ 0
  new_entry t k = new_word (address z (entry t k)) (omega arith)

  pub new_leaf : (f : ℕ) → get z (new_state z hs) (leaf f) ≡ 0
  new_leaf f = new_word (address z (leaf f)) (omega arith)

  -- The length and the contents.
  new_length : length (new_state z hs) ≡ word_count z
  unfolding new_state
  new_length =
      let l = length-append (contents z hs 0) (replicate (word_count z - 25) 0) in
      omega (arith, contents-length, length-replicate {A = ℕ} (word_count z - 25) 0)

  new_contents : take 8 (new_state z hs) ≡ first_eight z (get z (new_state z hs) hand)
  unfolding new_state
  new_contents = refl

  new_hand : Allowed z → get z (new_state z hs) hand < z.treelings
  unfolding new_state
  new_hand a = a.some_treelings

  -- The holes: those given, then zeros.
  pub new_count : hole_count (new_state z hs) ≡ length hs / 2
  unfolding new_state
  new_count = refl

  new_pairs : (j : ℕ) → j < 16 → get_or (hole_words (new_state z hs)) j 0 ≡ get_or (hs ++ replicate (16 - length hs) 0) j 0
  unfolding new_state
  new_pairs j l =
      get_or-append (hs ++ replicate (16 - length hs) 0) (replicate (word_count z - 25) 0) 0 j
      (omega (arith, length-append hs (replicate (16 - length hs) 0), length-replicate {A = ℕ} (16 - length hs) 0))

  pub new_hole : (j : ℕ) → j < length hs → get_or (hole_words (new_state z hs)) j 0 ≡ get_or hs j 0
  new_hole j l = new_pairs j (omega arith) ∙ get_or-append hs (replicate (16 - length hs) 0) 0 j l

  new_unused : (j : ℕ) → length hs ≤ j → j < 16 → get_or (hole_words (new_state z hs)) j 0 ≡ 0
  new_unused j low high =
      let i = le_dest low in
      new_pairs j high
      ∙ ap (λ (k : ℕ). get_or (hs ++ replicate (16 - length hs) 0) k 0) (sym i.1)
      ∙ get_or-append-add hs (replicate (16 - length hs) 0) i.0 0
      ∙ zeros-word (16 - length hs) i.0

  new_fit : HolesFit z.frames (length hs / 2) hs → HolesFit z.frames (hole_count (new_state z hs)) (hole_words (new_state z hs))
  unfolding new_state
  new_fit h = fit_same z.frames (length hs / 2) hs (hole_words (new_state z hs)) (λ j l. new_hole j (omega arith)) h

  -- No slot is free, none is named, and no page is mapped.
  new_free : (y : ℕ) → times_free z (new_state z hs) y ≡ 0
  unfolding times_free
  new_free y =
      count_no (512 * z.treelings) (λ j. is_ordinary z (new_state z hs) (j / 512) && marks_free z (new_state z hs) y (get z (new_state z hs) (entry 0 j))) λ j l.
      let w = get z (new_state z hs) (entry 0 j) in
      let none : bit (y % 8) (availability_of w) ≡ 0 =
      ap (λ (v : ℕ). bit (y % 8) (availability_of v)) (new_entry 0 j) ∙ ap (λ (v : ℕ). v % 2) (zero-div (2 ^ (y % 8))) in
      and_no (is_ordinary z (new_state z hs) (j / 512)) (marks_free z (new_state z hs) y w)
      (and_no (eqb (tag_of w) (y / 8)) (eqb (bit (y % 8) (availability_of w)) 1) (ne_eqb (bit (y % 8) (availability_of w)) 1 (omega arith)))

  new_named : (y : ℕ) → times_named z (new_state z hs) y ≡ 0
  unfolding times_named
  new_named y =
      count_no z.frames (λ f. eqb (get z (new_state z hs) (leaf f)) (suc y)) λ f l.
      ne_eqb (get z (new_state z hs) (leaf f)) (suc y) (omega (arith, new_leaf f))

  new_pages : (d : ℕ) → true_number z (new_state z hs) d ≡ 0
  unfolding true_number
  new_pages d =
      count_no z.frames (is_mapped_by z (new_state z hs) d) λ f l.
      let t = treeling_of (get z (new_state z hs) (leaf f)) in
      and_no
      (ltb 0 (get z (new_state z hs) (leaf f)))
      (eqb (get z (new_state z hs) (owner t)) (suc d))
      (ne_eqb (get z (new_state z hs) (owner t)) (suc d) (omega (arith, new_treeling t 0)))

  -- A new state passes the audit.
  new_passes : Allowed z → HolesAllowed z hs → Sound z (new_state z hs)
  new_passes a allowed =
      record {
        laid_out =
            record {
              laid = record { sizes = a; long = new_length };
              first_eight_are = new_contents;
              hand_range = new_hand a;
              holes_fit_lem = new_fit allowed.fit;
              unused_zero_lem = λ j low high. new_unused j (omega (arith, new_count, allowed.even)) high;
            };
        live_range = λ d l. omega (arith, new_domain d 0);
        first_range = λ d l. omega (arith, new_domain d 1);
        last_range = λ d l. omega (arith, new_domain d 2);
        head_range = λ d l. omega (arith, new_domain d 3);
        block_range = λ d l. omega (arith, new_domain d 4);
        owner_range = λ t l. omega (arith, new_treeling t 0);
        previous_range = λ t l. omega (arith, new_treeling t 1);
        next_range = λ t l. omega (arith, new_treeling t 2);
        former_range = λ t l. omega (arith, new_treeling t 4);
        tag_range = λ d t k l m e o. omega (arith, new_entry t k);
        leaf_range = λ f l. ap (leaf_fits z.treelings) (new_leaf f) ∙ none_fits z.treelings;
        dead_zero = λ d j l m e. new_domain d j;
        unowned_zero = λ t j l m e. new_treeling t j;
        unowned_entry = λ t k l m e. new_entry t k;
        former-owner = λ d t l e. absurd (omega (arith, new_treeling t 0));
        at_first = λ d u l e. absurd (omega (arith, new_domain d 1));
        at_next = λ d t u l m e. absurd (omega (arith, new_treeling t 0));
        at_last = λ d t l m e. absurd (omega (arith, new_treeling t 0));
        followed = λ d t l m e. absurd (omega (arith, new_treeling t 0));
        empty_zero = λ d j l m e. new_domain d (suc j);
        head_own = λ d u l o e. absurd (omega (arith, new_domain d 1));
        tag_own = λ d t k l m e o. absurd (omega (arith, new_treeling t 0));
        before_head_lem = λ d t k l m e o. absurd (omega (arith, new_treeling t 0));
        after_head_lem = λ d t k l m e o. absurd (omega (arith, new_treeling t 0));
        slot_once = λ y l.
            ap₂ ◌+◌ (new_free y) (new_named y)
            ∙ sym (ap (λ (b : Bool). cond b 1 0) (not_ordinary z (new_state z hs) (y / 4096) (new_treeling (y / 4096) 0)));
        hole_zero = λ i j l m. new_leaf _;
        pages_true_lem = λ d l. new_domain d 5 ∙ sym (new_pages d);
      }

-- Holes that are allowed have at most sixteen words.
pub allowed_few : (z : Sizes) (hs : List ℕ) → HolesAllowed z hs → length hs ≤ 16
allowed_few z hs h = omega (arith, h.even, h.fit.at_most)

-- No holes are allowed holes.
pub none_allowed : (z : Sizes) → HolesAllowed z []
none_allowed z = record { even = refl; fit = fit_none z.frames [] }

pub new_sound : (z : Sizes) (hs : List ℕ) → Allowed z → HolesAllowed z hs → Sound z (new_state z hs)
new_sound z hs a h = new_passes z hs (allowed_few z hs h) a h

pub new_number : (z : Sizes) (hs : List ℕ) → Allowed z → HolesAllowed z hs → audit_number (new_state z hs) ≡ 0
new_number z hs a h = sound_number z (new_state z hs) (new_sound z hs a h)
