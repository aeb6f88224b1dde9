-- Trimming keeps a state sound, its holes, the last owners of unowned TreeLings and the places of all pages, and leaves the domain no empty TreeLing.
-- Assumes nothing.
use Prim.Native.Nat.{ℕ, suc, ◌/◌, ◌<◌, ◌≤◌}
use mathlib.Core.Path.{◌≡◌, sym, ap, ◌∙◌}
use mathlib.Core.List.{List}
use mathlib.Core.Bool.{false, ◌&&◌}
use native.Mathlib.Omega.{arith}
use lib.Dec.{eqb, ltb}
use Rattle.layout.specs.declared.Sizes.{Sizes}
use Rattle.leaf_map.specs.LeafIds.{leaf_fits, treeling_of}
use Rattle.layout.specs.Places.{get, first, head_treeling, head_block, pages_mapped, owner}
use Rattle.layout.proofs.BoundedLaws.{count_cong}
use Rattle.board.proofs.HoleLaws.{HolesKept}
use Rattle.sound.specs.Sentences.{is_mapped_by, true_number}
use Rattle.sound.specs.Sound.{Sound, Ordinary}
use Rattle.sound.proofs.ContentsLaws.{laid_kept}
use Rattle.sound.proofs.FormersKept.{FormersKept}
use Rattle.sound.proofs.HoleZeroLaws.{hole_kept}
use Rattle.world.proofs.FrameLaws.{either, at_or_other}
use Rattle.returning.specs.Returning.{lies_in, is_empty, number_kept, kept_of}
use Rattle.returning.proofs.OthersLaws.{head_other}
use Rattle.returning.proofs.TrimFacts.{Kept, Trimmed, kept_head}
use Rattle.returning.proofs.TrimmedChain.{was_owned, own_each, others, domain_most, owner_most, previous_most, next_most, first_most, last_most, unowned_record, unowned-words, first_linked, next_linked, last_linked, each_followed, same_mapped, empty_record, dead_record, some_stay}
use Rattle.returning.proofs.TrimmedEntries.{Wholes, head_rank_lem, tag_below, tag_owner, before_head_lem, after_head_lem}
use Rattle.returning.proofs.TrimmedSlots.{slots_once_lem}

module _ (z : Sizes) (s r : List ℕ) (d : ℕ) (h : Sound z s) (l : d < z.domains) (k : Kept z s d) (c : Trimmed z s r d) where
  -- The last owners and the holes stay.
  pub trimmed_formers : FormersKept z s r
  trimmed_formers t m none = c.same_former t m

  pub trimmed_holes : HolesKept s r
  trimmed_holes i low high = c.same_content i high

  -- A TreeLing is empty where it was.
  same_empty : (t : ℕ) → is_empty z r t ≡ is_empty z s t
  unfolding is_empty
  same_empty t =
      ap (λ (n : ℕ). eqb n 0)
      (count_cong z.frames (lies_in z r t) (lies_in z s t) λ f m.
      ap (λ (x : ℕ). ltb 0 x && eqb (treeling_of x) t) (c.same_leaf f m))

  -- The domain's own are not.
  pub none_left : (t : ℕ) → t < z.treelings → get z r (owner t) ≡ suc d → is_empty z r t ≡ false
  none_left = own_each z s r d h l k c (λ x. is_empty z r x ≡ false) (λ q lq. same_empty (kept_of z s d q) ∙ k.not_empty_lem q lq)

  -- “Pages mapped” is the true number still.
  pages_still : (e : ℕ) → e < z.domains → get z r (pages_mapped e) ≡ true_number z r e
  unfolding true_number
  pages_still e m =
      at_or_other (λ x. get z r (pages_mapped x) ≡ get z s (pages_mapped x)) d e c.same_pages (c.same_domain e 5 m (omega arith))
      ∙ h.pages_true_lem e m
      ∙ sym (count_cong z.frames (is_mapped_by z r e) (is_mapped_by z s e) (same_mapped z s r d h l k c e))

  -- The head words of the domain, with no TreeLing and with some.
  own_head : (get z r (head_treeling d) ≤ z.treelings) × (get z r (head_block d) ≤ 63)
  own_head =
      either (number_kept z s d) 0
      (λ none. let a = c.head_none none in (omega (arith, a.0), omega (arith, a.1)))
      (λ some.
      let many : 0 < number_kept z s d = omega arith in
      let a = c.head_is many in
      (omega (arith, a.0, k.below (kept_head z s d / 64) (head_rank_lem z s d many)), omega (arith, a.1)))

  head_owner : (e u : ℕ) → e < z.domains → Ordinary z r e → get z r (first e) ≡ suc u → (v : ℕ) × (get z r (head_treeling e) ≡ suc v) × (get z r (owner v) ≡ suc e)
  head_owner e u m =
      at_or_other (λ x. Ordinary z r x → get z r (first x) ≡ suc u → (v : ℕ) × (get z r (head_treeling x) ≡ suc v) × (get z r (owner v) ≡ suc x)) d e
      (λ _ some.
      let many = some_stay z s r d h l k c u some in
      let p = kept_head z s d / 64 in
      (kept_of z s d p, (c.head_is many).0, c.kept_owner p (head_rank_lem z s d many)))
      (λ apart now. head_other z s r d h (others z s r d h l k c) e m apart now u)

  module _ (o : Ordinary z s d) (w : Wholes z s d) where
    pub trimmed_sound : Sound z r
    trimmed_sound =
        record {
          laid_out =
              laid_kept z s r c.long (λ i m _. c.same_content i m) (omega (arith, c.same_content 3 (omega arith), h.laid_out.hand_range)) h.laid_out;
          live_range = domain_most z s r d h l k c 0 1 (omega arith) h.live_range (omega (arith, c.same_live, h.live_range d l));
          first_range = first_most z s r d h l k c;
          last_range = last_most z s r d h l k c;
          head_range = domain_most z s r d h l k c 3 z.treelings (omega arith) h.head_range own_head.0;
          block_range = domain_most z s r d h l k c 4 63 (omega arith) h.block_range own_head.1;
          owner_range = owner_most z s r d h l k c;
          previous_range = previous_most z s r d h l k c;
          next_range = next_most z s r d h l k c;
          former_range = λ t m. omega (arith, c.same_former t m, h.former_range t m);
          tag_range = tag_below z s r d h l k c w;
          leaf_range = λ f m. ap (leaf_fits z.treelings) (c.same_leaf f m) ∙ h.leaf_range f m;
          dead_zero = dead_record z s r d h l k c;
          unowned_zero = unowned_record z s r d h l k c;
          unowned_entry = unowned-words z s r d h l k c;
          former-owner = λ e t m o. c.same_former t m ∙ h.former-owner e t m (was_owned z s r d h l k c t e m o);
          at_first = first_linked z s r d h l k c;
          at_next = next_linked z s r d h l k c;
          at_last = last_linked z s r d h l k c;
          followed = each_followed z s r d h l k c;
          empty_zero = empty_record z s r d h l k c;
          head_own = head_owner;
          tag_own = tag_owner z s r d h l k c w;
          before_head_lem = before_head_lem z s r d h l k c w;
          after_head_lem = after_head_lem z s r d h l k c w;
          slot_once = slots_once_lem z s r d h l o k c w;
          hole_zero = hole_kept z s r h.laid_out.holes_fit_lem trimmed_holes (λ f m _ none. c.same_leaf f m ∙ none) h.hole_zero;
          pages_true_lem = pages_still;
        }
