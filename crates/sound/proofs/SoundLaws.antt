-- A state passes the audit where it is sound, and a sound state passes.
-- Assumes nothing.
use Prim.Native.Nat.{ℕ, ◌+◌, ◌*◌, ◌/◌, ◌<◌, ◌≤◌}
use mathlib.Core.Path.{◌≡◌, refl, sym, ap, ap₂, subst, ◌∙◌}
use mathlib.Core.List.{List}
use mathlib.Core.Bool.{Bool, true, false, cond}
use native.Mathlib.Omega.{arith}
use borrow.Author.Tests.{eqb-true, eq-eqb}
use lib.Dec.{eqb}
use Rattle.layout.specs.declared.Sizes.{Sizes}
use Rattle.layout.specs.Places.{get, treeling, entry, first, pages_mapped, previous}
use Rattle.layout.specs.Bounded.{all}
use Rattle.sound.specs.Contents.{sizes_in, as_laid_out, LaidOut}
use Rattle.sound.specs.Sentences.{domain_in_range, treeling_in_range, entry_in_range, leaf_in_range, words_in_range, is_ordinary, dead_is_zero, unowned_is_zero, rest_is_zero, former_is_owner, formers_agree, empty_is_zero, empties_zero, head_is_own, heads_own, tag_is_own, tags_own, is_in_order, in_order, times_free, times_named, is_once, slots_once, holes_unmapped, true_number, pages_true}
use Rattle.sound.specs.Audit.{passes, audit_number}
use Rattle.sound.specs.Sound.{Sound}
use Rattle.sound.specs.CodeChained.{follows, is_followed}
use Rattle.layout.proofs.BoundedLaws.{all_at, all_of, and_of}
use Rattle.sound.proofs.TestLaws.{and_left, and_right}
use Rattle.sound.proofs.RangeLaws.{DomainRanges, domain_ranges, TreelingRanges, treeling_ranges, sound_domain_range, sound_treeling_range, sound_entry_range}
use Rattle.sound.proofs.ZeroLaws.{zeros_at, dead_zeros, empty_zeros, unowned_both, sound_dead, sound_unowned, sound_empty}
use Rattle.sound.proofs.LinkLaws.{Chain, follows_chain}
use Rattle.sound.proofs.FollowLaws.{follower, led, follows-chained, chained-follows}
use Rattle.sound.proofs.ChainLaws.{first_linked, next_linked, last_linked, sound_follows, sound_followed}
use Rattle.sound.proofs.OwnLaws.{tag_ranged, last-owner, head_owner, tag_owner, in_order_lem, sound_former, sound_head, sound_tag, sound_order}
use Rattle.sound.proofs.ContentsLaws.{sizes_named, laid_out, laid_out_back}
use Rattle.sound.proofs.HoleZeroLaws.{hole_facts, hole_test}

-- Every test of the audit, for each domain, TreeLing, entry, frame and slot.
pub record Tests (z : Sizes) (s : List ℕ) : Type 0 where
  pub domain_range : (d : ℕ) → d < z.domains → domain_in_range z s d ≡ true
  pub treeling_range : (t : ℕ) → t < z.treelings → treeling_in_range z s t ≡ true
  pub entry_range : (t k : ℕ) → t < z.treelings → k < 512 → entry_in_range z s t k ≡ true
  pub leaf_range : (f : ℕ) → f < z.frames → leaf_in_range z s f ≡ true
  pub dead : (d : ℕ) → d < z.domains → dead_is_zero z s d ≡ true
  pub unowned_zero : (t : ℕ) → t < z.treelings → unowned_is_zero z s t ≡ true
  pub former : (t : ℕ) → t < z.treelings → former_is_owner z s t ≡ true
  pub follow : (d : ℕ) → d < z.domains → follows z s d z.treelings 0 0 (get z s (first d)) ≡ true
  pub followed : (t : ℕ) → t < z.treelings → is_followed z s t ≡ true
  pub empty : (d : ℕ) → d < z.domains → empty_is_zero z s d ≡ true
  pub head : (d : ℕ) → d < z.domains → head_is_own z s d ≡ true
  pub tag : (t k : ℕ) → t < z.treelings → k < 512 → tag_is_own z s t k ≡ true
  pub order : (t k : ℕ) → t < z.treelings → k < 512 → is_in_order z s t k ≡ true
  pub once : slots_once z s ≡ true
  pub holes : holes_unmapped z s ≡ true
  pub pages : pages_true z s ≡ true

-- For all entries of all TreeLings.
entries_at : (n : ℕ) (p : ℕ → ℕ → Bool) → all n (λ t. all 512 (p t)) ≡ true → (t k : ℕ) → t < n → k < 512 → p t k ≡ true
entries_at n p h t k l m = all_at 512 (p t) (all_at n (λ u. all 512 (p u)) h t l) k m

entries_of : (n : ℕ) (p : ℕ → ℕ → Bool) → ((t k : ℕ) → t < n → k < 512 → p t k ≡ true) → all n (λ t. all 512 (p t)) ≡ true
entries_of n p h = all_of n (λ t. all 512 (p t)) (λ t l. all_of 512 (p t) (λ k m. h t k l m))

module _ (z : Sizes) (s : List ℕ) where
  -- ---- the audit's sentences and their tests
  -- Where the audit passes, every test does, and back.
  pub passes_tests : passes z s ≡ true → Tests z s
  unfolding passes words_in_range rest_is_zero formers_agree empties_zero heads_own tags_own in_order
  passes_tests h =
      let domain_range : all z.domains (domain_in_range z s) ≡ true = search (and_left, and_right) depth 12 in
      let treeling_range : all z.treelings (treeling_in_range z s) ≡ true = search (and_left, and_right) depth 12 in
      let entry_range : all z.treelings (λ t. all 512 (entry_in_range z s t)) ≡ true = search (and_left, and_right) depth 12 in
      let leaf_range : all z.frames (leaf_in_range z s) ≡ true = search (and_left, and_right) depth 12 in
      let dead : all z.domains (dead_is_zero z s) ≡ true = search (and_left, and_right) depth 12 in
      let unowned_zero : all z.treelings (unowned_is_zero z s) ≡ true = search (and_left, and_right) depth 12 in
      let former : all z.treelings (former_is_owner z s) ≡ true = search (and_left, and_right) depth 12 in
      let treelings : (t : ℕ) → t < z.treelings → treeling_in_range z s t ≡ true = all_at z.treelings (treeling_in_range z s) treeling_range in
      let chains = chained-follows z s (λ t m. treeling_ranges z s t (treelings t m)) (search (and_left, and_right) depth 12) in
      let empty : all z.domains (empty_is_zero z s) ≡ true = search (and_left, and_right) depth 12 in
      let head : all z.domains (head_is_own z s) ≡ true = search (and_left, and_right) depth 12 in
      let tag : all z.treelings (λ t. all 512 (tag_is_own z s t)) ≡ true = search (and_left, and_right) depth 12 in
      let order : all z.treelings (λ t. all 512 (is_in_order z s t)) ≡ true = search (and_left, and_right) depth 12 in
      record {
        domain_range = all_at z.domains (domain_in_range z s) domain_range;
        treeling_range = treelings;
        entry_range = entries_at z.treelings (entry_in_range z s) entry_range;
        leaf_range = all_at z.frames (leaf_in_range z s) leaf_range;
        dead = all_at z.domains (dead_is_zero z s) dead;
        unowned_zero = all_at z.treelings (unowned_is_zero z s) unowned_zero;
        former = all_at z.treelings (former_is_owner z s) former;
        follow = chains.0;
        followed = chains.1;
        empty = all_at z.domains (empty_is_zero z s) empty;
        head = all_at z.domains (head_is_own z s) head;
        tag = entries_at z.treelings (tag_is_own z s) tag;
        order = entries_at z.treelings (is_in_order z s) order;
        once = search (and_left, and_right) depth 12;
        holes = search (and_left, and_right) depth 12;
        pages = search (and_left, and_right) depth 12;
      }

  pub tests_passes : Tests z s → passes z s ≡ true
  unfolding passes words_in_range rest_is_zero formers_agree empties_zero heads_own tags_own in_order
  tests_passes h =
      let ranges =
      and_of
      (and_of
      (and_of
      (all_of z.domains (domain_in_range z s) h.domain_range)
      (all_of z.treelings (treeling_in_range z s) h.treeling_range))
      (entries_of z.treelings (entry_in_range z s) h.entry_range))
      (all_of z.frames (leaf_in_range z s) h.leaf_range) in
      let rest =
      and_of
      (all_of z.domains (dead_is_zero z s) h.dead)
      (all_of z.treelings (unowned_is_zero z s) h.unowned_zero) in
      let formers = all_of z.treelings (former_is_owner z s) h.former in
      let chains = follows-chained z s (λ t m. treeling_ranges z s t (h.treeling_range t m)) h.follow h.followed in
      let empties = all_of z.domains (empty_is_zero z s) h.empty in
      let heads = all_of z.domains (head_is_own z s) h.head in
      let tags = entries_of z.treelings (tag_is_own z s) h.tag in
      let orders = entries_of z.treelings (is_in_order z s) h.order in
      and_of (and_of (and_of (and_of (and_of (and_of (and_of (and_of (and_of (and_of ranges rest) formers) chains) empties) heads) tags) orders) h.once) h.holes) h.pages

  -- ---- the tests and the facts
  -- Where every test passes, every fact of a sound state holds, and back.
  tests_sound : LaidOut z s → Tests z s → Sound z s
  unfolding slots_once pages_true
  tests_sound l h =
      let domains : (d : ℕ) → d < z.domains → DomainRanges z s d = λ d m. domain_ranges z s d (h.domain_range d m) in
      let treelings : (t : ℕ) → t < z.treelings → TreelingRanges z s t = λ t m. treeling_ranges z s t (h.treeling_range t m) in
      let back : (t : ℕ) → t < z.treelings → get z s (previous t) ≤ z.treelings = λ t m. (treelings t m).previous_range in
      let chain : (d : ℕ) → d < z.domains → Chain z s d = λ d m. follows_chain z s d (h.follow d m) in
      record {
        laid_out = l;
        live_range = λ d m. (domains d m).live_range;
        first_range = λ d m. (domains d m).first_range;
        last_range = λ d m. (domains d m).last_range;
        head_range = λ d m. (domains d m).head_range;
        block_range = λ d m. (domains d m).block_range;
        owner_range = λ t m. (treelings t m).owner_range;
        previous_range = back;
        next_range = λ t m. (treelings t m).next_range;
        former_range = λ t m. (treelings t m).former_range;
        tag_range = λ d t k m n e o. tag_ranged z s d t k (h.entry_range t k m n) e o;
        leaf_range = h.leaf_range;
        dead_zero = λ d j m n e. dead_zeros z s d j (h.dead d m) n e;
        unowned_zero = λ t j m n e. zeros_at 4 (λ i. get z s (treeling t i)) (unowned_both z s t (h.unowned_zero t m) e).0 j n;
        unowned_entry = λ t k m n e. zeros_at 512 (λ i. get z s (entry t i)) (unowned_both z s t (h.unowned_zero t m) e).1 k n;
        former-owner = λ d t m e. last-owner z s d t (h.former t m) e;
        at_first = λ d u m e. first_linked z s d (chain d m) u e;
        at_next = λ d t u m n e. next_linked z s d (chain d m) t (led z s h.followed back d t n e) u;
        at_last = λ d t m n e. last_linked z s d (chain d m) t (led z s h.followed back d t n e);
        followed = λ d t m n e. follower z s d t (h.followed t n) e;
        empty_zero = λ d j m n e. empty_zeros z s d j (h.empty d m) n e;
        head_own = λ d u m o e. head_owner z s d u (h.head d m) o e;
        tag_own = λ d t k m n e o. tag_owner z s d t k (h.tag t k m n) e o;
        before_head_lem = λ d t k m n e o. (in_order_lem z s d t k (h.order t k m n) e o).0;
        after_head_lem = λ d t k m n e o. (in_order_lem z s d t k (h.order t k m n) e o).1;
        slot_once = λ y m. eqb-true (times_free z s y + times_named z s y) (cond (is_ordinary z s (y / 4096)) 1 0) (all_at (4096 * z.treelings) (is_once z s) h.once y m);
        hole_zero = hole_facts z s h.holes;
        pages_true_lem = λ d m. eqb-true (get z s (pages_mapped d)) (true_number z s d) (all_at z.domains (λ c. eqb (get z s (pages_mapped c)) (true_number z s c)) h.pages d m);
      }

  -- Each slot is free or named once; the pages mapped are the true number.
  pub sound_once : Sound z s → slots_once z s ≡ true
  unfolding slots_once
  sound_once h =
      all_of (4096 * z.treelings) (is_once z s) λ y l.
      eq-eqb (times_free z s y + times_named z s y) (cond (is_ordinary z s (y / 4096)) 1 0) (h.slot_once y l)

  pub sound_pages : Sound z s → pages_true z s ≡ true
  unfolding pages_true
  sound_pages h =
      all_of z.domains (λ d. eqb (get z s (pages_mapped d)) (true_number z s d)) λ d l.
      eq-eqb (get z s (pages_mapped d)) (true_number z s d) (h.pages_true_lem d l)

  sound_tests : Sound z s → Tests z s
  sound_tests h =
      record {
        domain_range = sound_domain_range z s h;
        treeling_range = sound_treeling_range z s h;
        entry_range = sound_entry_range z s h;
        leaf_range = h.leaf_range;
        dead = sound_dead z s h;
        unowned_zero = sound_unowned z s h;
        former = sound_former z s h;
        follow = sound_follows z s h;
        followed = sound_followed z s h;
        empty = sound_empty z s h;
        head = sound_head z s h;
        tag = sound_tag z s h;
        order = sound_order z s h;
        once = sound_once h;
        holes = hole_test z s h.hole_zero;
        pages = sound_pages h;
      }

  -- A state that passes is sound, and a sound state passes.
  pub passes_sound : LaidOut z s → passes z s ≡ true → Sound z s
  passes_sound l h = tests_sound l (passes_tests h)

  pub sound_passes : Sound z s → passes z s ≡ true
  sound_passes h = tests_passes (sound_tests h)

  -- ---- the audit's answer
  -- The sizes are those that the contents name.
  pub sound_sizes : Sound z s → sizes_in s ≡ z
  sound_sizes h = sizes_named z s h.laid_out.first_eight_are

  -- A sound state is answered 0, and a state answered 0 is sound.
  pub sound_number : Sound z s → audit_number s ≡ 0
  unfolding audit_number
  sound_number h =
      let z_is = sound_sizes h in
      let laid = laid_out_back s (subst (λ (y : Sizes). LaidOut y s) (sym z_is) h.laid_out) in
      let passed = ap (λ (y : Sizes). passes y s) z_is ∙ sound_passes h in
      ap₂ (λ (a b : Bool). cond a (cond b 0 4) 3) laid passed

-- Both questions answered yes.
both_yes : (a b : Bool) → ◌≡◌ {A = ℕ} (cond a (cond b 0 4) 3) 0 → (a ≡ true) × (b ≡ true)
both_yes true true h = (refl, refl)
both_yes true false h = absurd (omega arith)
both_yes false b h = absurd (omega arith)

pub number_sound : (s : List ℕ) → audit_number s ≡ 0 → Sound (sizes_in s) s
unfolding audit_number
number_sound s h =
    let yes = both_yes (as_laid_out s) (passes (sizes_in s) s) h in
    passes_sound (sizes_in s) s (laid_out s yes.0) yes.1
