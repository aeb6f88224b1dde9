-- A change of one domain's record and of the TreeLings that it had alone: what holds of every other domain after it, of the slots too.
-- Assumes nothing.
use Prim.Native.Nat.{ℕ, zero, suc, ◌-◌, ◌*◌, ◌/◌, ◌%◌, ◌<◌}
use mathlib.Core.Path.{◌≡◌, refl, sym, ap, ap₂, subst, ◌∙◌}
use mathlib.Core.List.{List}
use mathlib.Core.Bool.{true, ◌&&◌}
use mathlib.Core.Logic.{◌⊎◌, ⊎_elim, inl, inr}
use native.Mathlib.Omega.{arith}
use borrow.Author.Tests.{eqb-true}
use lib.Dec.{eqb}
use Rattle.layout.specs.declared.Sizes.{Sizes}
use Rattle.geometry.specs.Tables.{bit}
use Rattle.geometry.specs.Entries.{tag_of, availability_of}
use Rattle.layout.specs.Places.{get, domain, treeling, entry, live, first, last, head_treeling, owner, previous, next, rank}
use Rattle.layout.proofs.BoundedLaws.{and_both, is_false, count_no, count_cong}
use Rattle.sound.specs.Sentences.{is_ordinary, block_in_order, head_in_order, marks_free, times_free}
use Rattle.sound.specs.Sound.{Sound, Ordinary, Linked, Follows}
use Rattle.sound.proofs.ChainLaws.{has_first, sound_followed}
use Rattle.sound.proofs.TestLaws.{same_test, an_ordinary, not_ordinary, kind_kept}
use Rattle.world.proofs.FrameLaws.{either}
use Rattle.taking.proofs.TakenSlots.{entry_through}

-- Words r after words s: the records of the other domains and the TreeLings that were not domain d's stay. A TreeLing loses its owner or keeps it.
pub record OthersStay (z : Sizes) (s r : List ℕ) (d : ℕ) : Type 0 where
  pub same_domain : (e j : ℕ) → e < z.domains → j < 6 → (e ≡ d → ⊥) → get z r (domain e j) ≡ get z s (domain e j)
  pub same_treeling : (t j : ℕ) → t < z.treelings → j < 5 → (get z s (owner t) ≡ suc d → ⊥) → get z r (treeling t j) ≡ get z s (treeling t j)
  pub same_entry : (t i : ℕ) → t < z.treelings → i < 512 → (get z s (owner t) ≡ suc d → ⊥) → get z r (entry t i) ≡ get z s (entry t i)
  pub was_owned : (t e : ℕ) → t < z.treelings → get z r (owner t) ≡ suc e → get z s (owner t) ≡ suc e

-- ---- Another domain
module _ (z : Sizes) (s r : List ℕ) (d : ℕ) (h : Sound z s) (c : OthersStay z s r d) (e : ℕ) (le : e < z.domains) (apart : e ≡ d → ⊥) where
  -- Its record and the words of its TreeLings.
  same_record : (j : ℕ) → j < 6 → get z r (domain e j) ≡ get z s (domain e j)
  same_record j n = c.same_domain e j le n apart

  same_words : (t j : ℕ) → t < z.treelings → j < 5 → get z s (owner t) ≡ suc e → get z r (treeling t j) ≡ get z s (treeling t j)
  same_words t j m n o = c.same_treeling t j m n (λ is. apart (omega arith))

  same_entries : (t i : ℕ) → t < z.treelings → i < 512 → get z s (owner t) ≡ suc e → get z r (entry t i) ≡ get z s (entry t i)
  same_entries t i m n o = c.same_entry t i m n (λ is. apart (omega arith))

  -- It was ordinary if it is.
  pub ordinary_before : Ordinary z r e → Ordinary z s e
  ordinary_before now = sym (same_record 0 (omega arith)) ∙ now

  -- A dead domain, and one without TreeLings.
  pub dead_other : (j : ℕ) → j < 6 → get z r (live e) ≡ 0 → get z r (domain e j) ≡ 0
  dead_other j n dead = same_record j n ∙ h.dead_zero e j le n (sym (same_record 0 (omega arith)) ∙ dead)

  pub empty_other : (j : ℕ) → j < 5 → get z r (first e) ≡ 0 → get z r (domain e (suc j)) ≡ 0
  empty_other j n none =
      same_record (suc j) (omega arith) ∙ h.empty_zero e j le n (sym (same_record 1 (omega arith)) ∙ none)

  -- ---- Its chain
  linked : (u before n : ℕ) → u < z.treelings → Linked z s e u before n → Linked z r e u before n
  linked u before n m a =
      record {
        owner_is = same_words u 0 m (omega arith) a.owner_is ∙ a.owner_is;
        previous_is = same_words u 1 m (omega arith) a.owner_is ∙ a.previous_is;
        rank_is = same_words u 3 m (omega arith) a.owner_is ∙ a.rank_is;
      }

  follows : (t p : ℕ) → t < z.treelings → p < z.treelings → get z s (owner t) ≡ suc e → Follows z s e t p → Follows z r e t p
  follows t p m n o a =
      record {
        owner_is = same_words p 0 n (omega arith) a.owner_is ∙ a.owner_is;
        next_is = same_words p 2 n (omega arith) a.owner_is ∙ a.next_is;
        rank_is = ap suc (same_words p 3 n (omega arith) a.owner_is) ∙ a.rank_is ∙ sym (same_words t 3 m (omega arith) o);
      }

  pub first_other : (u : ℕ) → get z r (first e) ≡ suc u → Linked z r e u 0 0
  first_other u some =
      let was : get z s (first e) ≡ suc u = sym (same_record 1 (omega arith)) ∙ some in
      linked u 0 0 (omega (arith, h.first_range e le)) (h.at_first e u le was)

  -- A TreeLing of its own.
  module _ (t : ℕ) (m : t < z.treelings) (own : get z r (owner t) ≡ suc e) where
    o : get z s (owner t) ≡ suc e
    o = c.was_owned t e m own

    pub next_other : (u : ℕ) → get z r (next t) ≡ suc u → Linked z r e u (suc t) (suc (get z r (rank t)))
    next_other u is =
        let was : get z s (next t) ≡ suc u = sym (same_words t 2 m (omega arith) o) ∙ is in
        linked u (suc t) (suc (get z r (rank t))) (omega (arith, h.next_range t m))
        (subst (λ (x : ℕ). Linked z s e u (suc t) (suc x)) (sym (same_words t 3 m (omega arith) o)) (h.at_next e t u le m o was))

    pub last_other : get z r (next t) ≡ 0 → get z r (last e) ≡ suc t
    last_other none =
        same_record 2 (omega arith) ∙ h.at_last e t le m o (sym (same_words t 2 m (omega arith) o) ∙ none)

    pub followed_other : (get z r (first e) ≡ suc t) ⊎ ((p : ℕ) × (get z r (previous t) ≡ suc p) × Follows z r e t p)
    followed_other =
        ⊎_elim
        (λ is. inl (same_record 1 (omega arith) ∙ is))
        (λ a. inr (a.0, same_words t 1 m (omega arith) o ∙ a.1, follows t a.0 m (omega (arith, a.1, h.previous_range t m)) o a.2))
        (h.followed e t le m o)

    -- ---- Its entries, where it is ordinary
    pub tag_other : Ordinary z r e → (i : ℕ) → i < 512 → get z r (owner (tag_of (get z r (entry t i)) / 512)) ≡ suc e
    tag_other now i n =
        let was = ordinary_before now in
        let own_s = h.tag_own e t i m n o was in
        ap (λ (x : ℕ). get z r (owner (tag_of x / 512))) (same_entries t i m n o)
        ∙ same_words (tag_of (get z s (entry t i)) / 512) 0 (omega (arith, h.tag_range e t i m n o was)) (omega arith) own_s
        ∙ own_s

    -- Its head is where it was.
    same_head : Ordinary z s e → head_in_order z r e ≡ head_in_order z s e
    same_head alive =
        let some = has_first z s (sound_followed z s h) h.previous_range e t m o in
        let a = h.head_own e some.0 le alive some.1 in
        let v = a.0 in
        let named : get z r (head_treeling e) - 1 ≡ v = omega (arith, same_record 3 (omega arith), a.1) in
        let was : get z s (head_treeling e) - 1 ≡ v = omega (arith, a.1) in
        omega (
          arith,
          ap (λ (x : ℕ). get z r (rank x)) named,
          ap (λ (x : ℕ). get z s (rank x)) was,
          same_words v 3 (omega (arith, a.1, h.head_range e le)) (omega arith) a.2,
          same_record 4 (omega arith),
        )

    pub before_other : Ordinary z r e → (i : ℕ) → i < 512 → block_in_order z r t (i / 8) < head_in_order z r e → availability_of (get z r (entry t i)) ≡ 0
    before_other now i n before =
        ap availability_of (same_entries t i m n o)
        ∙ h.before_head_lem e t i m n o (ordinary_before now) (omega (arith, same_head (ordinary_before now), same_words t 3 m (omega arith) o))

    pub after_other : Ordinary z r e → (i : ℕ) → i < 512 → head_in_order z r e < block_in_order z r t (i / 8) → 0 < availability_of (get z r (entry t i))
    after_other now i n after =
        subst (λ (x : ℕ). 0 < availability_of x) (sym (same_entries t i m n o))
        (h.after_head_lem e t i m n o (ordinary_before now) (omega (arith, same_head (ordinary_before now), same_words t 3 m (omega arith) o)))

  pub head_other : Ordinary z r e → (u : ℕ) → get z r (first e) ≡ suc u → (v : ℕ) × (get z r (head_treeling e) ≡ suc v) × (get z r (owner v) ≡ suc e)
  head_other now u some =
      let a = h.head_own e u le (ordinary_before now) (sym (same_record 1 (omega arith)) ∙ some) in
      (a.0, same_record 3 (omega arith) ∙ a.1, same_words a.0 0 (omega (arith, a.1, h.head_range e le)) (omega arith) a.2 ∙ a.2)

-- ---- Slots
-- Where the tags of ordinary domains name leaf nodes of their owner, an entry of one that marks a slot free has the slot's owner.
abbrev pub TagsOwn : Sizes → List ℕ → Type 0
TagsOwn z s =
    (e t i : ℕ) → t < z.treelings → i < 512 → get z s (owner t) ≡ suc e → Ordinary z s e → get z s (owner (tag_of (get z s (entry t i)) / 512)) ≡ suc e

pub marked_owner : (z : Sizes) (s : List ℕ) → TagsOwn z s → (y j : ℕ) → j < 512 * z.treelings → (is_ordinary z s (j / 512) && marks_free z s y (get z s (entry 0 j))) ≡ true
    → (e : ℕ) × (get z s (owner (j / 512)) ≡ suc e) × (get z s (owner (y / 4096)) ≡ suc e)
marked_owner z s tags y j l marked =
    let a = get z s (entry 0 j) in
    let both = and_both (is_ordinary z s (j / 512)) (marks_free z s y a) marked in
    let e = an_ordinary z s (j / 512) both.0 in
    let node = eqb-true (tag_of a) (y / 8) (and_both (eqb (tag_of a) (y / 8)) (eqb (bit (y % 8) (availability_of a)) 1) both.1).0 in
    let is : tag_of (get z s (entry (j / 512) (j % 512))) / 512 ≡ y / 4096 = omega (arith, entry_through z s (j / 512) (j % 512) j (omega arith)) in
    (e.0, e.1, ap (λ (t : ℕ). get z s (owner t)) (sym is) ∙ tags e.0 (j / 512) (j % 512) (omega arith) (omega arith) e.1 e.2)

-- So a slot without an owner is free in no entry,
pub none_free : (z : Sizes) (s : List ℕ) → TagsOwn z s → (y : ℕ) → get z s (owner (y / 4096)) ≡ 0 → times_free z s y ≡ 0
unfolding times_free
none_free z s tags y none =
    count_no (512 * z.treelings) (λ j. is_ordinary z s (j / 512) && marks_free z s y (get z s (entry 0 j))) λ j lj.
    is_false (is_ordinary z s (j / 512) && marks_free z s y (get z s (entry 0 j))) (λ marked. let a = marked_owner z s tags y j lj marked in omega (arith, a.2))

-- A TreeLing that was not domain d's is of the same kind,
pub kind_other : (z : Sizes) (s r : List ℕ) (d : ℕ) → Sound z s → OthersStay z s r d → (t : ℕ) → t < z.treelings → (get z s (owner t) ≡ suc d → ⊥) → is_ordinary z r t ≡ is_ordinary z s t
kind_other z s r d h c t m apart = by_owner (get z s (owner t)) refl
  where
    same : get z r (owner t) ≡ get z s (owner t)
    same = c.same_treeling t 0 m (omega arith) apart

    by_owner : (x : ℕ) → get z s (owner t) ≡ x → is_ordinary z r t ≡ is_ordinary z s t
    by_owner zero none = not_ordinary z r t (same ∙ none) ∙ sym (not_ordinary z s t none)
    by_owner (suc e) own =
        kind_kept z s r t same (c.same_domain (get z s (owner t) - 1) 0 (omega (arith, h.owner_range t m)) (omega arith) (λ is. apart (omega arith)))

-- and a slot of it is free as often as before.
pub free_other : (z : Sizes) (s r : List ℕ) (d : ℕ) → Sound z s → OthersStay z s r d → TagsOwn z r
    → (y : ℕ) → y < 4096 * z.treelings → (get z s (owner (y / 4096)) ≡ suc d → ⊥) → times_free z r y ≡ times_free z s y
unfolding times_free
free_other z s r d h c tags y ly apart =
    count_cong (512 * z.treelings) (λ j. is_ordinary z r (j / 512) && marks_free z r y (get z r (entry 0 j))) (λ j. is_ordinary z s (j / 512) && marks_free z s y (get z s (entry 0 j))) λ j lj.
    either (get z s (owner (j / 512))) (suc d)
    (λ own.
    same_test (is_ordinary z r (j / 512) && marks_free z r y (get z r (entry 0 j))) (is_ordinary z s (j / 512) && marks_free z s y (get z s (entry 0 j)))
    (λ marked.
    let a = marked_owner z r tags y j lj marked in
    let there = c.was_owned (j / 512) a.0 (omega arith) a.1 in
    absurd (apart (c.was_owned (y / 4096) a.0 (omega arith) a.2 ∙ sym there ∙ own)))
    (λ marked.
    let a = marked_owner z s h.tag_own y j lj marked in
    absurd (apart (a.2 ∙ sym a.1 ∙ own))))
    (λ other.
    ap₂ ◌&&◌ (kind_other z s r d h c (j / 512) (omega arith) other)
    (ap (marks_free z s y)
    (sym (entry_through z r (j / 512) (j % 512) j (omega arith))
    ∙ c.same_entry (j / 512) (j % 512) (omega arith) (omega arith) other
    ∙ entry_through z s (j / 512) (j % 512) j (omega arith))))
