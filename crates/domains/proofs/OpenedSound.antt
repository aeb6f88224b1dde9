-- Opening a dead domain keeps a state sound.
-- Assumes nothing.
use Prim.Native.Nat.{ℕ, zero, suc, ◌+◌, ◌-◌, ◌*◌, ◌/◌, ◌<◌}
use mathlib.Core.Path.{◌≡◌, refl, sym, ap, ap₂, subst, ◌∙◌}
use mathlib.Core.List.{List}
use mathlib.Core.Bool.{Bool, cond, ◌&&◌}
use mathlib.Core.Logic.{⊎_elim, inl, inr}
use native.Mathlib.Omega.{arith}
use lib.Dec.{eqb, ltb}
use lib.ListN.{get_or, length-set}
use lib.Seq.{get_or-set_same, get_or-set_other}
use Rattle.layout.specs.declared.Sizes.{Sizes}
use Rattle.leaf_map.specs.LeafIds.{leaf_fits, treeling_of}
use Rattle.geometry.specs.Entries.{tag_of, availability_of}
use Rattle.layout.specs.Places.{address, get, put, content, domain, treeling, entry, leaf, live, first, head_treeling, owner, rank}
use Rattle.sound.specs.Sentences.{is_ordinary, head_in_order, marks_free, times_free, times_named, is_mapped_by, true_number}
use Rattle.sound.specs.Sound.{Sound, Live, Ordinary, Linked, Follows}
use Rattle.layout.proofs.BoundedLaws.{count_cong}
use Rattle.world.proofs.FrameLaws.{either}
use Rattle.sound.proofs.TestLaws.{not_ordinary, kind_kept}
use Rattle.sound.proofs.RecordLaws.{sound_live}
use Rattle.sound.proofs.ContentsLaws.{laid_kept}
use Rattle.sound.proofs.HoleZeroLaws.{hole_kept}

module _ (z : Sizes) (s : List ℕ) (d : ℕ) (l : d < z.domains) where
  abbrev opened : List ℕ
  opened = put z s (live d) 1

  -- Every other word stays.
  kept : (b : ℕ) → (b ≡ address z (live d) → ⊥) → get_or opened b 0 ≡ get_or s b 0
  kept b apart = get_or-set_other s (address z (live d)) b 1 0 apart

  pub opened_content : (i : ℕ) → i < 25 → get z opened (content i) ≡ get z s (content i)
  opened_content i m = kept (address z (content i)) (λ e. omega arith)

  pub opened_domain : (e j : ℕ) → j < 6 → (e ≡ d → 0 < j) → get z opened (domain e j) ≡ get z s (domain e j)
  opened_domain e j m later =
      kept (address z (domain e j)) λ same.
      let is : e ≡ d = omega arith in
      omega (arith, later is)

  pub opened_treeling : (t j : ℕ) → get z opened (treeling t j) ≡ get z s (treeling t j)
  opened_treeling t j = kept (address z (treeling t j)) (λ e. omega arith)

  pub opened_entry : (t k : ℕ) → get z opened (entry t k) ≡ get z s (entry t k)
  opened_entry t k = kept (address z (entry t k)) (λ e. omega arith)

  pub opened_leaf : (f : ℕ) → get z opened (leaf f) ≡ get z s (leaf f)
  opened_leaf f = kept (address z (leaf f)) (λ e. omega arith)

  -- What is counted stays too, and so does every head.
  same_named : (y : ℕ) → times_named z opened y ≡ times_named z s y
  unfolding times_named
  same_named y =
      count_cong z.frames (λ f. eqb (get z opened (leaf f)) (suc y)) (λ f. eqb (get z s (leaf f)) (suc y))
      (λ f _. ap (λ (x : ℕ). eqb x (suc y)) (opened_leaf f))

  same_number : (e : ℕ) → true_number z opened e ≡ true_number z s e
  unfolding true_number
  same_number e =
      count_cong z.frames (is_mapped_by z opened e) (is_mapped_by z s e) λ f _.
      ap (λ (x : ℕ). ltb 0 x && eqb (get z opened (owner (treeling_of x))) (suc e)) (opened_leaf f)
      ∙ ap (λ (x : ℕ). ltb 0 (get z s (leaf f)) && eqb x (suc e)) (opened_treeling (treeling_of (get z s (leaf f))) 0)

  same_head : (e : ℕ) → head_in_order z opened e ≡ head_in_order z s e
  same_head e =
      ap₂ (λ (x y : ℕ). 64 * x + y)
      (ap (λ (x : ℕ). get z opened (rank (x - 1))) (opened_domain e 3 (omega arith) (λ _. omega arith)) ∙ opened_treeling (get z s (head_treeling e) - 1) 3)
      (opened_domain e 4 (omega arith) (λ _. omega arith))

  linked : (e u before n : ℕ) → Linked z s e u before n → Linked z opened e u before n
  linked e u before n k =
      record {
        owner_is = opened_treeling u 0 ∙ k.owner_is;
        previous_is = opened_treeling u 1 ∙ k.previous_is;
        rank_is = opened_treeling u 3 ∙ k.rank_is;
      }

  follows : (e t p : ℕ) → Follows z s e t p → Follows z opened e t p
  follows e t p k =
      record {
        owner_is = opened_treeling p 0 ∙ k.owner_is;
        next_is = opened_treeling p 2 ∙ k.next_is;
        rank_is = ap suc (opened_treeling p 3) ∙ k.rank_is ∙ sym (opened_treeling t 3);
      }

  module _ (h : Sound z s) where
    pub opened_live : Live z opened d
    opened_live = get_or-set_same s (address z (live d)) 1 0 (omega (arith, h.laid_out.laid.long))

    -- The words of the domains' records after live.
    later : (e j : ℕ) → j < 5 → get z opened (domain e (suc j)) ≡ get z s (domain e (suc j))
    later e j m = opened_domain e (suc j) (omega arith) (λ _. omega arith)

    was_owned : (t e : ℕ) → get z opened (owner t) ≡ suc e → get z s (owner t) ≡ suc e
    was_owned t e o = sym (opened_treeling t 0) ∙ o

    -- A dead domain owns nothing: another that is ordinary now was so before, and each TreeLing is of the same kind.
    owner_apart : get z s (live d) ≡ 0 → (e t : ℕ) → t < z.treelings → get z s (owner t) ≡ suc e → e ≡ d → ⊥
    owner_apart dead e t m o is = omega (arith, sound_live z s h e t m o, ap (λ (x : ℕ). get z s (live x)) is)

    was_ordinary : (e : ℕ) → (e ≡ d → ⊥) → Ordinary z opened e → Ordinary z s e
    was_ordinary e apart now = sym (opened_domain e 0 (omega arith) (λ is. absurd (apart is))) ∙ now

    kinds : get z s (live d) ≡ 0 → (t : ℕ) → t < z.treelings → is_ordinary z opened t ≡ is_ordinary z s t
    kinds dead t m = by_owner (get z s (owner t)) refl
      where
        by_owner : (x : ℕ) → get z s (owner t) ≡ x → is_ordinary z opened t ≡ is_ordinary z s t
        by_owner zero none = not_ordinary z opened t (opened_treeling t 0 ∙ none) ∙ sym (not_ordinary z s t none)
        by_owner (suc e) o =
            kind_kept z s opened t (opened_treeling t 0) (opened_domain (get z s (owner t) - 1) 0 (omega arith) (λ is. absurd (owner_apart dead e t m o (omega arith))))

    same_free : get z s (live d) ≡ 0 → (y : ℕ) → times_free z opened y ≡ times_free z s y
    unfolding times_free
    same_free dead y =
        count_cong (512 * z.treelings) (λ j. is_ordinary z opened (j / 512) && marks_free z opened y (get z opened (entry 0 j))) (λ j. is_ordinary z s (j / 512) && marks_free z s y (get z s (entry 0 j)))
        (λ j less. ap₂ ◌&&◌ (kinds dead (j / 512) (omega arith)) (ap (marks_free z s y) (opened_entry 0 j)))

    pub opened_sound : get z s (live d) ≡ 0 → Sound z opened
    opened_sound dead =
        let before : (e t : ℕ) → t < z.treelings → get z opened (owner t) ≡ suc e → Ordinary z opened e → Ordinary z s e =
        λ e t m o. was_ordinary e (owner_apart dead e t m (was_owned t e o)) in
        record {
          laid_out =
              laid_kept z s opened (length-set s (address z (live d)) 1) (λ i m _. opened_content i m) (omega (arith, opened_content 3 (omega arith), h.laid_out.hand_range)) h.laid_out;
          live_range = λ e m.
              either e d
              (λ is. omega (arith, ap (λ (x : ℕ). get z opened (live x)) is, opened_live))
              (λ apart. omega (arith, opened_domain e 0 (omega arith) (λ is. absurd (apart is)), h.live_range e m));
          first_range = λ e m. omega (arith, later e 0 (omega arith), h.first_range e m);
          last_range = λ e m. omega (arith, later e 1 (omega arith), h.last_range e m);
          head_range = λ e m. omega (arith, later e 2 (omega arith), h.head_range e m);
          block_range = λ e m. omega (arith, later e 3 (omega arith), h.block_range e m);
          owner_range = λ t m. omega (arith, opened_treeling t 0, h.owner_range t m);
          previous_range = λ t m. omega (arith, opened_treeling t 1, h.previous_range t m);
          next_range = λ t m. omega (arith, opened_treeling t 2, h.next_range t m);
          former_range = λ t m. omega (arith, opened_treeling t 4, h.former_range t m);
          tag_range = λ e t k m n o now. omega (arith, opened_entry t k, h.tag_range e t k m n (was_owned t e o) (before e t m o now));
          leaf_range = λ f m. ap (leaf_fits z.treelings) (opened_leaf f) ∙ h.leaf_range f m;
          dead_zero = λ e j m n none.
              either e d
              (λ is. absurd (omega (arith, ap (λ (x : ℕ). get z opened (live x)) is, opened_live)))
              (λ apart.
              opened_domain e j n (λ is. absurd (apart is))
              ∙ h.dead_zero e j m n (sym (opened_domain e 0 (omega arith) (λ is. absurd (apart is))) ∙ none));
          unowned_zero = λ t j m n none. opened_treeling t j ∙ h.unowned_zero t j m n (sym (opened_treeling t 0) ∙ none);
          unowned_entry = λ t k m n none. opened_entry t k ∙ h.unowned_entry t k m n (sym (opened_treeling t 0) ∙ none);
          former-owner = λ e t m o. opened_treeling t 4 ∙ h.former-owner e t m (was_owned t e o);
          at_first = λ e u m some. linked e u 0 0 (h.at_first e u m (sym (later e 0 (omega arith)) ∙ some));
          at_next = λ e t u m n o some.
              linked e u (suc t) (suc (get z opened (rank t)))
              (subst (λ (x : ℕ). Linked z s e u (suc t) (suc x)) (sym (opened_treeling t 3)) (h.at_next e t u m n (was_owned t e o) (sym (opened_treeling t 2) ∙ some)));
          at_last = λ e t m n o none. later e 1 (omega arith) ∙ h.at_last e t m n (was_owned t e o) (sym (opened_treeling t 2) ∙ none);
          followed = λ e t m n o.
              ⊎_elim
              (λ is. inl (later e 0 (omega arith) ∙ is))
              (λ w. inr (w.0, opened_treeling t 1 ∙ w.1, follows e t w.0 w.2))
              (h.followed e t m n (was_owned t e o));
          empty_zero = λ e j m n none. later e j n ∙ h.empty_zero e j m n (sym (later e 0 (omega arith)) ∙ none);
          head_own = λ e u m now some.
              let first_is = sym (later e 0 (omega arith)) ∙ some in
              let apart : e ≡ d → ⊥ = λ is. omega (arith, first_is, ap (λ (x : ℕ). get z s (first x)) is, h.dead_zero d 1 l (omega arith) dead) in
              let w = h.head_own e u m (was_ordinary e apart now) first_is in
              (w.0, later e 2 (omega arith) ∙ w.1, opened_treeling w.0 0 ∙ w.2);
          tag_own = λ e t k m n o now.
              ap (λ (x : ℕ). get z opened (owner (tag_of x / 512))) (opened_entry t k)
              ∙ opened_treeling (tag_of (get z s (entry t k)) / 512) 0
              ∙ h.tag_own e t k m n (was_owned t e o) (before e t m o now);
          before_head_lem = λ e t k m n o now less.
              ap availability_of (opened_entry t k) ∙ h.before_head_lem e t k m n (was_owned t e o) (before e t m o now) (omega (arith, less, same_head e, opened_treeling t 3));
          after_head_lem = λ e t k m n o now after.
              subst (λ (x : ℕ). 0 < availability_of x) (sym (opened_entry t k))
              (h.after_head_lem e t k m n (was_owned t e o) (before e t m o now) (omega (arith, after, same_head e, opened_treeling t 3)));
          slot_once = λ y m.
              ap₂ ◌+◌ (same_free dead y) (same_named y) ∙ h.slot_once y m
              ∙ ap (λ (b : Bool). cond {A = ℕ} b 1 0) (sym (kinds dead (y / 4096) (omega arith)));
          hole_zero = hole_kept z s opened h.laid_out.holes_fit_lem (λ i low high. opened_content i high) (λ f m _ none. opened_leaf f ∙ none) h.hole_zero;
          pages_true_lem = λ e m. later e 4 (omega arith) ∙ h.pages_true_lem e m ∙ sym (same_number e);
        }
