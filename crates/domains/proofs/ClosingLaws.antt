-- What every word is after a domain is closed.
-- Assumes nothing.
use Prim.Native.Nat.{ℕ, zero, suc, ◌+◌, ◌<◌}
use mathlib.Core.Path.{◌≡◌, refl, sym, ap, ◌∙◌}
use mathlib.Core.List.{List}
use mathlib.Core.Bool.{Bool, true, false, cond, false≢true}
use native.Mathlib.Nat.{add-zero, not-suc-le-zero}
use native.Mathlib.Omega.{arith}
use lib.ListN.{length, get_or, set, length-set}
use lib.Seq.{get_or-set_same, get_or-set_other}
use Rattle.layout.specs.declared.Sizes.{Sizes}
use Rattle.layout.specs.Places.{address, get, zeros, content, domain, treeling, entry, leaf, owner, rank, former}
use Rattle.layout.proofs.PlaceLaws.{domain_start}
use Rattle.sound.specs.Sentences.{is_mapped_by, of_rank}
use Rattle.sound.specs.Sound.{Sound}
use Rattle.world.specs.World.{owned}
use Rattle.world.proofs.WorldLaws.{of_rank_lem, of_rank_back, rank_below_owned}
use Rattle.world.proofs.FrameLaws.{either}
use Rattle.clearing.specs.Clearing.{treelings_cleared}
use Rattle.clearing.proofs.ClearingLaws.{set-stays, zeros-length, zeros_apart, zeros_in, cleared, Outside, cleared_record, cleared_entry, treelings_length, treelings_apart, treelings_in}
use Rattle.domains.specs.Closing.{leaves_cleared, closing}

-- Words r after domain d is closed in words s.
pub record Closed (z : Sizes) (s r : List ℕ) (d : ℕ) : Type 0 where
  pub long : length r ≡ length s
  pub same_content : (i : ℕ) → i < 25 → get z r (content i) ≡ get z s (content i)
  -- Its record, and those of the other domains.
  pub own_zero : (j : ℕ) → j < 6 → get z r (domain d j) ≡ 0
  pub same_domain : (e j : ℕ) → e < z.domains → j < 6 → (e ≡ d → ⊥) → get z r (domain e j) ≡ get z s (domain e j)
  -- The records and the NFL words of its TreeLings, and of the others.
  pub owned_zero : (t j : ℕ) → t < z.treelings → j < 4 → get z s (owner t) ≡ suc d → get z r (treeling t j) ≡ 0
  pub same_treeling : (t j : ℕ) → t < z.treelings → j < 5 → (get z s (owner t) ≡ suc d → ⊥) → get z r (treeling t j) ≡ get z s (treeling t j)
  pub same_former : (t : ℕ) → t < z.treelings → get z r (former t) ≡ get z s (former t)
  pub owned_entry : (t k : ℕ) → t < z.treelings → k < 512 → get z s (owner t) ≡ suc d → get z r (entry t k) ≡ 0
  pub same_entry : (t k : ℕ) → t < z.treelings → k < 512 → (get z s (owner t) ≡ suc d → ⊥) → get z r (entry t k) ≡ get z s (entry t k)
  -- The leaf IDs of its pages, and the others.
  pub leaf_zero : (f : ℕ) → f < z.frames → is_mapped_by z s d f ≡ true → get z r (leaf f) ≡ 0
  pub same_leaf : (f : ℕ) → f < z.frames → is_mapped_by z s d f ≡ false → get z r (leaf f) ≡ get z s (leaf f)

-- ---- The leaf IDs of the first n frames
module _ (z : Sizes) (s : List ℕ) (d : ℕ) where
  pub leaves_length : (n : ℕ) → length (leaves_cleared z s d n) ≡ length s
  unfolding leaves_cleared
  leaves_length zero = refl
  leaves_length (suc n) = by_test (is_mapped_by z s d n) (leaves_length n)
    where
      by_test : (b : Bool) → length (leaves_cleared z s d n) ≡ length s → length (cond b (set (leaves_cleared z s d n) (address z (leaf n)) 0) (leaves_cleared z s d n)) ≡ length s
      by_test true ih = length-set (leaves_cleared z s d n) (address z (leaf n)) 0 ∙ ih
      by_test false ih = ih

  -- A word that is no leaf ID of the domain's pages, and one that is.
  pub leaves_apart : (n b : ℕ) → ((f : ℕ) → f < n → is_mapped_by z s d f ≡ true → b ≡ address z (leaf f) → ⊥) → get_or (leaves_cleared z s d n) b 0 ≡ get_or s b 0
  unfolding leaves_cleared
  leaves_apart zero b h = refl
  leaves_apart (suc n) b h = by_test (is_mapped_by z s d n) refl (leaves_apart n b (λ f l. h f (omega arith)))
    where
      by_test : (t : Bool) → is_mapped_by z s d n ≡ t → get_or (leaves_cleared z s d n) b 0 ≡ get_or s b 0 → get_or (cond t (set (leaves_cleared z s d n) (address z (leaf n)) 0) (leaves_cleared z s d n)) b 0 ≡ get_or s b 0
      by_test true e ih = get_or-set_other (leaves_cleared z s d n) (address z (leaf n)) b 0 0 (h n (omega arith) e) ∙ ih
      by_test false e ih = ih

  leaves_in : (n f : ℕ) → f < n → address z (leaf f) < length s → is_mapped_by z s d f ≡ true → get z (leaves_cleared z s d n) (leaf f) ≡ 0
  unfolding leaves_cleared
  leaves_in zero f l m e = absurd (not-suc-le-zero l)
  leaves_in (suc n) f l m e = either f n here (λ apart. later (is_mapped_by z s d n) (leaves_in n f (omega arith) m e))
    where
      here : f ≡ n → get z (cond (is_mapped_by z s d n) (set (leaves_cleared z s d n) (address z (leaf n)) 0) (leaves_cleared z s d n)) (leaf f) ≡ 0
      here is =
          ap (λ (t : Bool). get z (cond t (set (leaves_cleared z s d n) (address z (leaf n)) 0) (leaves_cleared z s d n)) (leaf f)) (ap (is_mapped_by z s d) (sym is) ∙ e)
          ∙ ap (λ (g : ℕ). get z (set (leaves_cleared z s d n) (address z (leaf n)) 0) (leaf g)) is
          ∙ get_or-set_same (leaves_cleared z s d n) (address z (leaf n)) 0 0 (omega (arith, leaves_length n))

      later : (t : Bool) → get z (leaves_cleared z s d n) (leaf f) ≡ 0 → get z (cond t (set (leaves_cleared z s d n) (address z (leaf n)) 0) (leaves_cleared z s d n)) (leaf f) ≡ 0
      later true ih = set-stays (leaves_cleared z s d n) (address z (leaf n)) (address z (leaf f)) (omega (arith, leaves_length n)) ih
      later false ih = ih

-- ---- The whole
module _ (z : Sizes) (s : List ℕ) (h : Sound z s) (d : ℕ) (l : d < z.domains) where
  -- The words with the leaf IDs cleared, and with the TreeLings cleared too.
  abbrev first-words : List ℕ
  first-words = leaves_cleared z s d z.frames

  abbrev second_words : List ℕ
  second_words = treelings_cleared z s d (λ _. true) first-words (owned z s d)

  pub closing_is : closing z s d ≡ zeros second_words (domain_start z d) 6
  unfolding closing
  closing_is = ap (λ (i : ℕ). zeros second_words i 6) (add-zero (domain_start z d))

  second_length : length second_words ≡ length s
  second_length = treelings_length z s d (λ _. true) first-words (owned z s d) ∙ leaves_length z s d z.frames

  -- A word that is not of the domain's record, one of none of its TreeLings, and one of none of its pages.
  not_record : (b : ℕ) → ((j : ℕ) → j < 6 → b ≡ domain_start z d + j → ⊥) → get_or (closing z s d) b 0 ≡ get_or second_words b 0
  not_record b k = ap (λ (w : List ℕ). get_or w b 0) closing_is ∙ zeros_apart second_words (domain_start z d) 6 b k

  not_treeling : (b : ℕ) → ((t : ℕ) → t < z.treelings → get z s (owner t) ≡ suc d → Outside z t b) → get_or second_words b 0 ≡ get_or first-words b 0
  not_treeling b k =
      treelings_apart z s d (λ _. true) first-words (owned z s d) b λ i m _.
      let a = of_rank_lem z s h d l i m in
      k (of_rank z s d i) a.below a.owner_is

  not_page : (b : ℕ) → ((f : ℕ) → f < z.frames → is_mapped_by z s d f ≡ true → b ≡ address z (leaf f) → ⊥) → get_or first-words b 0 ≡ get_or s b 0
  not_page b k = leaves_apart z s d z.frames b k

  -- A word that every clearing of TreeLing t clears.
  of_treeling : (t b : ℕ) → t < z.treelings → get z s (owner t) ≡ suc d → b < length s → ((j : ℕ) → j < 6 → b ≡ domain_start z d + j → ⊥)
      → ((w : List ℕ) → length w ≡ length s → get_or (cleared z w t) b 0 ≡ 0) → get_or (closing z s d) b 0 ≡ 0
  of_treeling t b m o k apart all =
      not_record b apart
      ∙ treelings_in z s d (λ _. true) first-words (owned z s d) (get z s (rank t)) b (rank_below_owned z s h d l t m o) refl (omega (arith, leaves_length z s d z.frames))
      (λ w e. ap (λ (u : ℕ). get_or (cleared z w u) b 0) (of_rank_back z s h d l t m o) ∙ all w (e ∙ leaves_length z s d z.frames))

  pub closed : Closed z s (closing z s d) d
  closed =
      record {
        long = ap length closing_is ∙ zeros-length second_words (domain_start z d) 6 ∙ second_length;
        same_content = λ i m.
            let b = address z (content i) in
            not_record b (λ j n e. omega arith)
            ∙ not_treeling b (λ t n o. (λ j k e. omega arith, λ j k e. omega arith))
            ∙ not_page b (λ f n o e. omega arith);
        own_zero = λ j m. ap (λ (w : List ℕ). get_or w (address z (domain d j)) 0) closing_is ∙ zeros_in second_words (domain_start z d) 6 j m (omega (arith, second_length, h.laid_out.laid.long));
        same_domain = λ e j m n apart.
            let b = address z (domain e j) in
            not_record b (λ i k same. omega arith)
            ∙ not_treeling b (λ t k o. (λ i a same. omega arith, λ i a same. omega arith))
            ∙ not_page b (λ f k o same. omega arith);
        owned_zero = λ t j m n o.
            of_treeling t (address z (treeling t j)) m o (omega (arith, h.laid_out.laid.long)) (λ i k same. omega arith)
            (λ w e. cleared_record z w t j n (omega (arith, h.laid_out.laid.long)));
        same_treeling = λ t j m n apart.
            let b = address z (treeling t j) in
            not_record b (λ i k same. omega arith)
            ∙ not_treeling b (λ u k o. (λ i a same. apart (ap (λ (x : ℕ). get z s (owner x)) (omega arith) ∙ o), λ i a same. omega arith))
            ∙ not_page b (λ f k o same. omega arith);
        same_former = λ t m.
            let b = address z (former t) in
            not_record b (λ i k same. omega arith)
            ∙ not_treeling b (λ u k o. (λ i a same. omega arith, λ i a same. omega arith))
            ∙ not_page b (λ f k o same. omega arith);
        owned_entry = λ t k m n o.
            of_treeling t (address z (entry t k)) m o (omega (arith, h.laid_out.laid.long)) (λ i a same. omega arith)
            (λ w e. cleared_entry z w t k n (omega (arith, h.laid_out.laid.long)));
        same_entry = λ t k m n apart.
            let b = address z (entry t k) in
            not_record b (λ i a same. omega arith)
            ∙ not_treeling b (λ u a o. (λ i c same. omega arith, λ i c same. apart (ap (λ (x : ℕ). get z s (owner x)) (omega arith) ∙ o)))
            ∙ not_page b (λ f a o same. omega arith);
        leaf_zero = λ f m e.
            let b = address z (leaf f) in
            not_record b (λ i a same. omega arith)
            ∙ not_treeling b (λ u a o. (λ i c same. omega arith, λ i c same. omega arith))
            ∙ leaves_in z s d z.frames f m (omega (arith, h.laid_out.laid.long)) e;
        same_leaf = λ f m e.
            let b = address z (leaf f) in
            not_record b (λ i a same. omega arith)
            ∙ not_treeling b (λ u a o. (λ i c same. omega arith, λ i c same. omega arith))
            ∙ not_page b (λ g a o same. false≢true (sym e ∙ ap (is_mapped_by z s d) (omega arith) ∙ o));
      }
