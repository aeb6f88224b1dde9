-- What a trim keeps and what it returns, whether something goes or nothing does.
-- Assumes nothing.
use Prim.Native.Nat.{ℕ, suc, ◌<◌}
use mathlib.Core.Path.{◌≡◌, refl, sym, ap, subst, ◌∙◌}
use mathlib.Core.List.{List}
use mathlib.Core.Bool.{Bool, true, false, cond, ◌&&◌, false≢true}
use native.Mathlib.Omega.{arith}
use borrow.Author.Tests.{eq-eqb, ne_eqb}
use lib.Dec.{eqb}
use Rattle.layout.specs.declared.Sizes.{Sizes}
use Rattle.layout.specs.Places.{get, content, leaf, live, owner, rank}
use Rattle.layout.specs.Bounded.{count}
use Rattle.layout.proofs.BoundedLaws.{sum_cong, count-sum, count_no, count_zero, count_le}
use Rattle.board.proofs.HoleLaws.{HolesKept}
use Rattle.sound.specs.Sentences.{of_rank}
use Rattle.sound.specs.Sound.{Sound, Ordinary}
use Rattle.sound.proofs.FormersKept.{FormersKept}
use Rattle.world.specs.World.{owned}
use Rattle.world.proofs.FrameLaws.{either}
use Rattle.world.proofs.MatchingLaws.{sum_matched}
use Rattle.world.proofs.WorldLaws.{of_rank_lem, of_rank_back, rank_below_owned}
use Rattle.gathering.proofs.GatherListLaws.{count_both}
use Rattle.releasing.proofs.RefillLaws.{ranks}
use Rattle.releasing.proofs.WholeBits.{whole_byte, whole_bit}
use Rattle.returning.specs.Returning.{is_empty, goes, stays, number_returned, trimmed, trimming}
use Rattle.returning.proofs.KeptLaws.{kept_at, kept_facts}
use Rattle.returning.proofs.ReturnedLaws.{trimmed_facts}
use Rattle.returning.proofs.EmptyLaws.{empty_named}
use Rattle.returning.proofs.TrimFacts.{Trimmed}
use Rattle.returning.proofs.TrimmedSound.{trimmed_sound, trimmed_formers, trimmed_holes, none_left}

-- None goes, or some do.
pub trimming_cases : (z : Sizes) (s : List ℕ) (d : ℕ) (P : List ℕ → Type 0) → (number_returned z s d ≡ 0 → P s) → (0 < number_returned z s d → P (trimmed z s d)) → P (trimming z s d)
unfolding trimming
trimming_cases z s d P none some =
    either (number_returned z s d) 0
    (λ e. subst (λ (b : Bool). P (cond b s (trimmed z s d))) (sym (eq-eqb (number_returned z s d) 0 e)) (none e))
    (λ apart. subst (λ (b : Bool). P (cond b s (trimmed z s d))) (sym (ne_eqb (number_returned z s d) 0 apart)) (some (omega arith)))

-- Where none of its TreeLings is empty, a trim changes nothing.
module _ (z : Sizes) (s : List ℕ) (h : Sound z s) (d : ℕ) (l : d < z.domains) where
  pub none_goes : ((t : ℕ) → t < z.treelings → get z s (owner t) ≡ suc d → is_empty z s t ≡ false) → number_returned z s d ≡ 0
  unfolding number_returned
  none_goes full =
      count_no (owned z s d) (goes z s d) λ r k.
      let a = of_rank_lem z s h d l r k in
      full (of_rank z s d r) a.below a.owner_is

  pub none_empty : number_returned z s d ≡ 0 → (t : ℕ) → t < z.treelings → get z s (owner t) ≡ suc d → is_empty z s t ≡ false
  unfolding number_returned
  none_empty none t m own =
      ap (is_empty z s) (sym (of_rank_back z s h d l t m own))
      ∙ count_zero (owned z s d) (goes z s d) none (get z s (rank t)) (rank_below_owned z s h d l t m own)

  pub nothing_changes : number_returned z s d ≡ 0 → trimming z s d ≡ s
  unfolding trimming
  nothing_changes none = ap (λ (b : Bool). cond b s (trimmed z s d)) (eq-eqb (number_returned z s d) 0 none)

  -- ---- What it keeps
  pub trim_facts : Trimmed z s (trimmed z s d) d
  trim_facts = trimmed_facts z s h d l

  pub trimming_sound : Ordinary z s d → Sound z (trimming z s d)
  trimming_sound o =
      trimming_cases z s d (Sound z) (λ _. h) λ _.
      trimmed_sound z s (trimmed z s d) d h l (kept_facts z s h d l) trim_facts o
      (record { byte = whole_byte z s h d l o; bits = whole_bit z s h d l o; unnamed = λ t y m e is. empty_named z s t e (omega (arith, h.laid_out.laid.sizes.max_treelings)) y is })

  pub trimming_holes : HolesKept s (trimming z s d)
  trimming_holes =
      trimming_cases z s d (HolesKept s) (λ _ i low high. refl) (λ _. trimmed_holes z s (trimmed z s d) d h l (kept_facts z s h d l) trim_facts)

  pub trimming_formers : FormersKept z s (trimming z s d)
  trimming_formers =
      trimming_cases z s d (FormersKept z s) (λ _ t m none. refl) (λ _. trimmed_formers z s (trimmed z s d) d h l (kept_facts z s h d l) trim_facts)

  -- Contents, the hand among them, and the leaf map stay,
  pub trimming_content : (i : ℕ) → i < 25 → get z (trimming z s d) (content i) ≡ get z s (content i)
  trimming_content i m = trimming_cases z s d (λ r. get z r (content i) ≡ get z s (content i)) (λ _. refl) (λ _. trim_facts.same_content i m)

  pub trimming_leaf : (f : ℕ) → f < z.frames → get z (trimming z s d) (leaf f) ≡ get z s (leaf f)
  trimming_leaf f m = trimming_cases z s d (λ r. get z r (leaf f) ≡ get z s (leaf f)) (λ _. refl) (λ _. trim_facts.same_leaf f m)

  pub trimming-live : get z (trimming z s d) (live d) ≡ get z s (live d)
  trimming-live = trimming_cases z s d (λ r. get z r (live d) ≡ get z s (live d)) (λ _. refl) (λ _. trim_facts.same_live)

  -- ---- What it returns
  -- An empty TreeLing of the domain is unowned,
  pub trimming_gone : (t : ℕ) → t < z.treelings → get z s (owner t) ≡ suc d → is_empty z s t ≡ true → get z (trimming z s d) (owner t) ≡ 0
  trimming_gone t m own empty =
      trimming_cases z s d (λ r. get z r (owner t) ≡ 0)
      (λ none. absurd (false≢true (sym (none_empty none t m own) ∙ empty)))
      (λ _. trim_facts.gone_zero t 0 m (omega arith) own empty)

  -- every other has the owner that it had,
  pub trimming-stays : (t : ℕ) → t < z.treelings → (get z s (owner t) ≡ suc d → is_empty z s t ≡ false) → get z (trimming z s d) (owner t) ≡ get z s (owner t)
  trimming-stays t m kept =
      trimming_cases z s d (λ r. get z r (owner t) ≡ get z s (owner t)) (λ _. refl) λ _.
      either (get z s (owner t)) (suc d)
      (λ own.
      let q = (kept_facts z s h d l).found t m own (kept own) in
      ap (λ (u : ℕ). get z (trimmed z s d) (owner u)) (sym q.2) ∙ trim_facts.kept_owner q.0 q.1 ∙ sym own)
      (λ other. trim_facts.same_treeling t 0 m (omega arith) other)

  -- one that stays has before it those that stayed before it,
  pub trimming-rank : (t : ℕ) → t < z.treelings → get z s (owner t) ≡ suc d → is_empty z s t ≡ false → get z (trimming z s d) (rank t) ≡ count (get z s (rank t)) (stays z s d)
  unfolding number_returned
  trimming-rank t m own used =
      let r = get z s (rank t) in
      let below = rank_below_owned z s h d l t m own in
      let back = of_rank_back z s h d l t m own in
      let at = kept_at z s h d l r below (ap (is_empty z s) back ∙ used) in
      trimming_cases z s d (λ w. get z w (rank t) ≡ count r (stays z s d))
      (λ none. omega (arith, count_both (goes z s d) r, count_le r (owned z s d) (goes z s d) (omega arith), none))
      (λ _. ap (λ (u : ℕ). get z (trimmed z s d) (rank u)) (sym (at.1 ∙ back)) ∙ trim_facts.kept_rank (count r (stays z s d)) at.0)

  -- and those returned are as many as were empty.
  pub returned_number : number_returned z s d ≡ count z.treelings (λ t. eqb (get z s (owner t)) (suc d) && is_empty z s t)
  unfolding number_returned
  returned_number =
      count-sum (owned z s d) (goes z s d)
      ∙ sym (sum_matched z.treelings (owned z s d) own (λ t. get z s (rank t)) (of_rank z s d) (ranks z s d h l) (λ t. cond (is_empty z s t) 1 0))
      ∙ sum_cong z.treelings (λ t. cond (own t) (cond (is_empty z s t) 1 0) 0) (λ t. cond (own t && is_empty z s t) 1 0) (λ t _. both (own t) (is_empty z s t))
      ∙ sym (count-sum z.treelings (λ t. own t && is_empty z s t))
    where
      own : ℕ → Bool
      own t = eqb (get z s (owner t)) (suc d)

      both : (a b : Bool) → cond a (cond {A = ℕ} b 1 0) 0 ≡ cond (a && b) 1 0
      both true b = refl
      both false b = refl

  -- After it the domain owns no empty TreeLing, so another trim changes nothing.
  pub trimming_none : (t : ℕ) → t < z.treelings → get z (trimming z s d) (owner t) ≡ suc d → is_empty z (trimming z s d) t ≡ false
  trimming_none =
      trimming_cases z s d (λ r. (t : ℕ) → t < z.treelings → get z r (owner t) ≡ suc d → is_empty z r t ≡ false)
      none_empty
      (λ _. none_left z s (trimmed z s d) d h l (kept_facts z s h d l) trim_facts)
