-- Closing a domain keeps a state sound.
-- Assumes nothing.
use Prim.Native.Nat.{ℕ, suc, ◌+◌, ◌*◌, ◌/◌, ◌<◌, ◌≤◌}
use mathlib.Core.Path.{◌≡◌, refl, sym, ap, ap₂, ◌∙◌}
use mathlib.Core.List.{List}
use mathlib.Core.Bool.{Bool, true, false, cond, false≢true}
use native.Mathlib.Omega.{arith}
use borrow.Author.Tests.{ne_eqb}
use lib.Dec.{eqb}
use Rattle.layout.specs.declared.Sizes.{Sizes}
use Rattle.leaf_map.specs.LeafIds.{leaf_fits, treeling_of}
use Rattle.layout.specs.Places.{get, entry, leaf, domain, treeling, first, pages_mapped, owner}
use Rattle.sound.specs.Sentences.{is_ordinary, times_free, times_named, is_mapped_by, true_number}
use Rattle.sound.specs.Sound.{Sound, LeavesFit}
use Rattle.leaf_map.proofs.LeafIdLaws.{none_fits, slot_treeling, treeling_below}
use Rattle.layout.proofs.BoundedLaws.{count_no, count_cong}
use Rattle.sound.proofs.TestLaws.{not_ordinary, same_test}
use Rattle.sound.proofs.MappedLaws.{mapped_by, by_mapped, unmapped_by, not_mapped_by}
use Rattle.sound.proofs.ContentsLaws.{laid_kept}
use Rattle.sound.proofs.HoleZeroLaws.{hole_kept}
use Rattle.world.proofs.FrameLaws.{either, at_or_other}
use Rattle.returning.proofs.OthersLaws.{OthersStay, dead_other, empty_other, first_other, next_other, last_other, followed_other, head_other, tag_other, before_other, after_other, TagsOwn, ordinary_before, none_free, kind_other, free_other}
use Rattle.domains.specs.Closing.{closing}
use Rattle.domains.proofs.ClosingLaws.{Closed, closed}

module _ (z : Sizes) (s r : List ℕ) (d : ℕ) (h : Sound z s) (c : Closed z s r d) where
  -- ---- Who owns what
  -- No TreeLing is d's any more, and the others have their owners.
  owner_cases : {P : Type 0} (t : ℕ) → t < z.treelings → (get z s (owner t) ≡ suc d → get z r (owner t) ≡ 0 → P) → ((get z s (owner t) ≡ suc d → ⊥) → get z r (owner t) ≡ get z s (owner t) → P) → P
  owner_cases t m own other =
      either (get z s (owner t)) (suc d)
      (λ o. own o (c.owned_zero t 0 m (omega arith) o))
      (λ apart. other apart (c.same_treeling t 0 m (omega arith) apart))

  -- A TreeLing that is e's now was e's, and e is another domain.
  was_owned : (t e : ℕ) → t < z.treelings → get z r (owner t) ≡ suc e → (get z s (owner t) ≡ suc e) × (e ≡ d → ⊥)
  was_owned t e m o =
      owner_cases t m
      (λ _ none. absurd (omega arith))
      (λ apart same. (sym same ∙ o, λ is. apart (omega arith)))

  owner_below : (t e : ℕ) → t < z.treelings → get z r (owner t) ≡ suc e → e < z.domains
  owner_below t e m o = omega (arith, (was_owned t e m o).0, h.owner_range t m)

  -- A domain with TreeLings is another one.
  first_apart : (e u : ℕ) → get z r (first e) ≡ suc u → e ≡ d → ⊥
  first_apart e u some is = omega (arith, ap (λ (x : ℕ). get z r (first x)) is, c.own_zero 1 (omega arith))

  -- The others' words stay.
  others : OthersStay z s r d
  others =
      record {
        same_domain = c.same_domain;
        same_treeling = c.same_treeling;
        same_entry = c.same_entry;
        was_owned = λ t e m o. (was_owned t e m o).0;
      }

  -- A bound of a domain's word, and of a TreeLing's.
  domain_most : (j n : ℕ) → j < 6 → ((e : ℕ) → e < z.domains → get z s (domain e j) ≤ n) → (e : ℕ) → e < z.domains → get z r (domain e j) ≤ n
  domain_most j n k most e m =
      at_or_other (λ x. get z r (domain x j) ≤ n) d e
      (omega (arith, c.own_zero j k))
      (λ apart. omega (arith, c.same_domain e j m k apart, most e m))

  treeling_most : (j n : ℕ) → j < 4 → ((t : ℕ) → t < z.treelings → get z s (treeling t j) ≤ n) → (t : ℕ) → t < z.treelings → get z r (treeling t j) ≤ n
  treeling_most j n k most t m =
      either (get z s (owner t)) (suc d)
      (λ o. omega (arith, c.owned_zero t j m k o))
      (λ apart. omega (arith, c.same_treeling t j m (omega arith) apart, most t m))

  -- A frame that d has mapped, and one that it has not.
  leaf_cases : {P : Type 0} (f : ℕ) → f < z.frames → (is_mapped_by z s d f ≡ true → get z r (leaf f) ≡ 0 → P) → (is_mapped_by z s d f ≡ false → get z r (leaf f) ≡ get z s (leaf f) → P) → P
  leaf_cases {P} f m own other = go (is_mapped_by z s d f) refl
    where
      go : (b : Bool) → is_mapped_by z s d f ≡ b → P
      go true e = own e (c.leaf_zero f m e)
      go false e = other e (c.same_leaf f m e)

  -- ---- The slots
  unowned-words : (t k : ℕ) → t < z.treelings → k < 512 → get z r (owner t) ≡ 0 → get z r (entry t k) ≡ 0
  unowned-words t k m n none =
      owner_cases t m
      (λ o _. c.owned_entry t k m n o)
      (λ apart same. c.same_entry t k m n apart ∙ h.unowned_entry t k m n (sym same ∙ none))

  tags_own_lem : TagsOwn z r
  tags_own_lem e t k m n o now = tag_other z s r d h others e (owner_below t e m o) (was_owned t e m o).1 t m o now k n

  -- No leaf map word names a slot of d's, and another slot is named as before.
  slot_at : (y : ℕ) → y < 4096 * z.treelings → (x : ℕ) → x ≡ suc y → treeling_of x ≡ y / 4096
  slot_at y m x is = ap treeling_of is ∙ slot_treeling y (omega (arith, h.laid_out.laid.sizes.max_treelings))

  none_named : (y : ℕ) → y < 4096 * z.treelings → get z s (owner (y / 4096)) ≡ suc d → times_named z r y ≡ 0
  unfolding times_named
  none_named y m o =
      count_no z.frames (λ f. eqb (get z r (leaf f)) (suc y)) λ f n.
      ne_eqb (get z r (leaf f)) (suc y) λ is.
      leaf_cases f n
      (λ _ none. omega arith)
      (λ not same.
      let at = slot_at y m (get z s (leaf f)) (sym same ∙ is) in
      false≢true (sym not ∙ by_mapped z s d f (record { some = omega arith; own = ap (λ (u : ℕ). get z s (owner u)) at ∙ o })))

  same_named : (y : ℕ) → y < 4096 * z.treelings → (get z s (owner (y / 4096)) ≡ suc d → ⊥) → times_named z r y ≡ times_named z s y
  unfolding times_named
  same_named y m apart =
      count_cong z.frames (λ f. eqb (get z r (leaf f)) (suc y)) (λ f. eqb (get z s (leaf f)) (suc y)) λ f n.
      leaf_cases f n
      (λ mapped none.
      ne_eqb (get z r (leaf f)) (suc y) (λ is. omega arith)
      ∙ sym (ne_eqb (get z s (leaf f)) (suc y) (λ is.
      apart (ap (λ (u : ℕ). get z s (owner u)) (sym (slot_at y m (get z s (leaf f)) is)) ∙ (mapped_by z s d f mapped).own))))
      (λ _ same. ap (λ (x : ℕ). eqb x (suc y)) same)

  slots_once_lem : (y : ℕ) → y < 4096 * z.treelings → times_free z r y + times_named z r y ≡ cond (is_ordinary z r (y / 4096)) 1 0
  slots_once_lem y m =
      owner_cases (y / 4096) (omega arith)
      (λ o none.
      ap₂ ◌+◌ (none_free z r tags_own_lem y none) (none_named y m o)
      ∙ sym (ap (λ (b : Bool). cond b 1 0) (not_ordinary z r (y / 4096) none)))
      (λ apart _.
      ap₂ ◌+◌ (free_other z s r d h others tags_own_lem y m apart) (same_named y m apart)
      ∙ h.slot_once y m
      ∙ ap (λ (b : Bool). cond {A = ℕ} b 1 0) (sym (kind_other z s r d h others (y / 4096) (omega arith) apart)))

  -- ---- The pages
  leaf_most : LeavesFit z r
  leaf_most f m =
      leaf_cases f m (λ _ none. ap (leaf_fits z.treelings) none ∙ none_fits z.treelings) (λ _ same. ap (leaf_fits z.treelings) same ∙ h.leaf_range f m)

  -- d has none mapped, and another domain has the same.
  none_mapped : (f : ℕ) → f < z.frames → is_mapped_by z r d f ≡ false
  none_mapped f m =
      not_mapped_by z r d f λ o.
      (was_owned (treeling_of (get z r (leaf f))) d (treeling_below z.treelings (get z r (leaf f)) h.laid_out.laid.sizes.some_treelings (leaf_most f m)) o).1 refl

  same_mapped : (e f : ℕ) → f < z.frames → (e ≡ d → ⊥) → is_mapped_by z r e f ≡ is_mapped_by z s e f
  same_mapped e f m apart =
      leaf_cases f m
      (λ mapped none.
      unmapped_by z r e f none
      ∙ sym (not_mapped_by z s e f (λ o. apart (omega (arith, (mapped_by z s d f mapped).own)))))
      (λ not same.
      same_test (is_mapped_by z r e f) (is_mapped_by z s e f)
      (λ t.
      let k = mapped_by z r e f t in
      let o : get z r (owner (treeling_of (get z s (leaf f)))) ≡ suc e = ap (λ (x : ℕ). get z r (owner (treeling_of x))) (sym same) ∙ k.own in
      by_mapped z s e f (record { some = omega (arith, k.some); own = (was_owned (treeling_of (get z s (leaf f))) e below o).0 }))
      (λ t.
      let k = mapped_by z s e f t in
      by_mapped z r e f (record {
        some = omega (arith, k.some);
        own = ap (λ (x : ℕ). get z r (owner (treeling_of x))) same ∙ c.same_treeling (treeling_of (get z s (leaf f))) 0 below (omega arith) (λ is. apart (omega (arith, k.own))) ∙ k.own;
      })))
    where
      below : treeling_of (get z s (leaf f)) < z.treelings
      below = treeling_below z.treelings (get z s (leaf f)) h.laid_out.laid.sizes.some_treelings (h.leaf_range f m)

  pages_still : (e : ℕ) → e < z.domains → get z r (pages_mapped e) ≡ true_number z r e
  unfolding true_number
  pages_still e m =
      at_or_other (λ x. get z r (pages_mapped x) ≡ true_number z r x) d e
      (c.own_zero 5 (omega arith) ∙ sym (count_no z.frames (is_mapped_by z r d) none_mapped))
      (λ apart.
      c.same_domain e 5 m (omega arith) apart
      ∙ h.pages_true_lem e m
      ∙ sym (count_cong z.frames (is_mapped_by z r e) (is_mapped_by z s e) (λ f n. same_mapped e f n apart)))

  -- ---- All of it
  sound : Sound z r
  sound =
      record {
        laid_out =
            laid_kept z s r c.long (λ i m _. c.same_content i m) (omega (arith, c.same_content 3 (omega arith), h.laid_out.hand_range)) h.laid_out;
        live_range = domain_most 0 1 (omega arith) h.live_range;
        first_range = domain_most 1 z.treelings (omega arith) h.first_range;
        last_range = domain_most 2 z.treelings (omega arith) h.last_range;
        head_range = domain_most 3 z.treelings (omega arith) h.head_range;
        block_range = domain_most 4 63 (omega arith) h.block_range;
        owner_range = treeling_most 0 z.domains (omega arith) h.owner_range;
        previous_range = treeling_most 1 z.treelings (omega arith) h.previous_range;
        next_range = treeling_most 2 z.treelings (omega arith) h.next_range;
        former_range = λ t m. omega (arith, c.same_former t m, h.former_range t m);
        tag_range = λ e t k m n o now.
            let was = was_owned t e m o in
            omega (arith, c.same_entry t k m n (λ is. was.1 (omega (arith, was.0))), h.tag_range e t k m n was.0 (ordinary_before z s r d h others e (owner_below t e m o) was.1 now));
        leaf_range = leaf_most;
        dead_zero = λ e j m n dead.
            at_or_other (λ x. get z r (domain x j) ≡ 0) d e (c.own_zero j n) (λ apart. dead_other z s r d h others e m apart j n dead);
        unowned_zero = λ t j m n none.
            owner_cases t m
            (λ o _. c.owned_zero t j m n o)
            (λ apart same. c.same_treeling t j m (omega arith) apart ∙ h.unowned_zero t j m n (sym same ∙ none));
        unowned_entry = unowned-words;
        former-owner = λ e t m o. c.same_former t m ∙ h.former-owner e t m (was_owned t e m o).0;
        at_first = λ e u m some. first_other z s r d h others e m (first_apart e u some) u some;
        at_next = λ e t u m n o. next_other z s r d h others e m (was_owned t e n o).1 t n o u;
        at_last = λ e t m n o. last_other z s r d h others e m (was_owned t e n o).1 t n o;
        followed = λ e t m n o. followed_other z s r d h others e m (was_owned t e n o).1 t n o;
        empty_zero = λ e j m n none.
            at_or_other (λ x. get z r (domain x (suc j)) ≡ 0) d e (c.own_zero (suc j) (omega arith)) (λ apart. empty_other z s r d h others e m apart j n none);
        head_own = λ e u m now some. head_other z s r d h others e m (first_apart e u some) now u some;
        tag_own = tags_own_lem;
        before_head_lem = λ e t k m n o now. before_other z s r d h others e (owner_below t e m o) (was_owned t e m o).1 t m o now k n;
        after_head_lem = λ e t k m n o now. after_other z s r d h others e (owner_below t e m o) (was_owned t e m o).1 t m o now k n;
        slot_once = slots_once_lem;
        hole_zero = hole_kept z s r h.laid_out.holes_fit_lem (λ i low high. c.same_content i high) (λ f m _ none. leaf_cases f m (λ _ gone. gone) (λ _ same. same ∙ none)) h.hole_zero;
        pages_true_lem = pages_still;
      }

pub closing_sound : (z : Sizes) (s : List ℕ) (d : ℕ) → Sound z s → d < z.domains → Sound z (closing z s d)
closing_sound z s d h l = sound z s (closing z s d) d h (closed z s h d l)
