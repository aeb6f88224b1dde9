-- Laws of the code that closes a domain: the leaf map, the whole.
-- Assumes nothing.
use Prim.Native.Nat.{ℕ, zero, suc, ◌+◌, ◌-◌, ◌<◌, ◌≤◌}
use mathlib.Core.Path.{◌≡◌, refl, sym, ap, ap₂, subst, ◌∙◌}
use mathlib.Core.List.{List}
use mathlib.Core.Bool.{Bool, true, false, ◌&&◌}
use native.Mathlib.Numerals.{add-one}
use native.Mathlib.Omega.{arith}
use lib.Dec.{eqb, ltb}
use lib.ListN.{length, get_or}
use Rattle.layout.specs.declared.Sizes.{Sizes}
use Rattle.leaf_map.specs.LeafIds.{LeafFits, leaf_fits, treeling_of}
use Rattle.layout.specs.Outcomes.{outcome}
use Rattle.layout.specs.Places.{Laid, address, get, put, zeros, domain, treeling, leaf, next, owner, pages_mapped}
use Rattle.leaf_map.proofs.LeafIdLaws.{treeling_below}
use Rattle.layout.proofs.PlaceLaws.{domain_start}
use Rattle.sound.specs.Sentences.{is_mapped_by, of_rank, link_of}
use Rattle.sound.specs.Sound.{Sound}
use Rattle.world.specs.World.{owned}
use Rattle.gathering.specs.CodeGathering.{Chain}
use Rattle.gathering.proofs.GatherLaws.{own_chain}
use Rattle.clearing.specs.Clearing.{treeling_cleared, treelings_cleared}
use Rattle.pages.specs.Answers.{Finished}
use Rattle.domains.specs.Closing.{close_call, leaves_cleared, closing}
use Rattle.pages.proofs.CallCodeLaws.{asked_frame}
use Rattle.domains.proofs.ClosingLaws.{leaves_length, leaves_apart, closing_is}
use Rattle.domains.proofs.ClosedSound.{closing_sound}

-- ---- The leaf map
pub leaves_none : (z : Sizes) (s : List ℕ) (d : ℕ) → s ≡ leaves_cleared z s d 0
unfolding leaves_cleared
leaves_none z s d = refl

-- What clearing leaf IDs leaves.
module _ (z : Sizes) (s : List ℕ) (d n : ℕ) where
  leaves_domain : (e j : ℕ) → e < z.domains → j < 6 → get z (leaves_cleared z s d n) (domain e j) ≡ get z s (domain e j)
  leaves_domain e j l m = leaves_apart z s d n (address z (domain e j)) (λ f k t is. omega arith)

  leaves_treeling : (t j : ℕ) → t < z.treelings → j < 5 → get z (leaves_cleared z s d n) (treeling t j) ≡ get z s (treeling t j)
  leaves_treeling t j l m = leaves_apart z s d n (address z (treeling t j)) (λ f k e is. omega arith)

-- The first f frames are done, which leaves words r.
module _ (z : Sizes) (s : List ℕ) (h : Sound z s) (d f : ℕ) (l : f < z.frames) (r : List ℕ) (is : r ≡ leaves_cleared z s d f) where
  pub leaves_laid : Laid z r
  leaves_laid = record { sizes = h.laid_out.laid.sizes; long = ap length is ∙ leaves_length z s d f ∙ h.laid_out.laid.long }

  same_leaf : get z r (leaf f) ≡ get z s (leaf f)
  same_leaf =
      ap (λ (w : List ℕ). get z w (leaf f)) is
      ∙ leaves_apart z s d f (address z (leaf f)) (λ g k t e. omega arith)

  module _ (id : ℕ) (read : id ≡ get z r (leaf f)) where
    pub leaves_range : LeafFits z.treelings id
    leaves_range = ap (leaf_fits z.treelings) (read ∙ same_leaf) ∙ h.leaf_range f l

    -- What is asked of the leaf ID read is asked of the frame.
    own_mapped : (own : Bool) → own ≡ (ltb 0 id && eqb (get z r (owner (treeling_of id))) (suc d)) → own ≡ is_mapped_by z s d f
    own_mapped own e =
        let below : treeling_of id < z.treelings = treeling_below z.treelings id h.laid_out.laid.sizes.some_treelings leaves_range in
        let same : get z r (owner (treeling_of id)) ≡ get z s (owner (treeling_of id)) =
        ap (λ (w : List ℕ). get z w (owner (treeling_of id))) is ∙ leaves_treeling z s d f (treeling_of id) 0 below (omega arith) in
        asked_frame z s d f id (read ∙ same_leaf) own (e ∙ ap (λ (o : ℕ). ltb 0 id && eqb o (suc d)) same)

    module _ (own : Bool) (asked : own ≡ (ltb 0 id && eqb (get z r (owner (treeling_of id))) (suc d))) (u : List ℕ) where
      pub leaves_more : own ≡ true → u ≡ put z r (leaf f) 0 → u ≡ leaves_cleared z s d (f + 1)
      unfolding leaves_cleared
      leaves_more e w =
          let yes : is_mapped_by z s d f ≡ true = sym (own_mapped own asked) ∙ e in
          rw (add-one, yes, w, is)

      pub leaves_pass : own ≡ false → u ≡ r → u ≡ leaves_cleared z s d (f + 1)
      unfolding leaves_cleared
      leaves_pass e w =
          let no : is_mapped_by z s d f ≡ false = sym (own_mapped own asked) ∙ e in
          rw (add-one, no, w, is)

-- ---- The whole
module _ (z : Sizes) (s : List ℕ) (h : Sound z s) (d : ℕ) (l : d < z.domains) where
  -- The words with the leaf IDs cleared.
  abbrev unmapped : List ℕ
  unmapped = leaves_cleared z s d z.frames

  -- They have the same TreeLings by rank.
  same_rank : (q : ℕ) → q < owned z s d → of_rank z unmapped d q ≡ of_rank z s d q
  unfolding link_of of_rank
  same_rank zero m = ap (λ (x : ℕ). x - 1) (leaves_domain z s d z.frames d 1 l (omega arith))
  same_rank (suc q) m =
      ap (λ (t : ℕ). get z unmapped (next t) - 1) (same_rank q (omega arith))
      ∙ ap (λ (x : ℕ). x - 1) (leaves_treeling z s d z.frames (of_rank z s d q) 2 ((own_chain z s h d l).below q (omega arith)) (omega arith))

  same_link : (q : ℕ) → q < owned z s d → link_of z unmapped d q ≡ link_of z s d q
  unfolding link_of of_rank
  same_link zero m = leaves_domain z s d z.frames d 1 l (omega arith)
  same_link (suc q) m =
      ap (λ (t : ℕ). get z unmapped (next t)) (same_rank q (omega arith))
      ∙ leaves_treeling z s d z.frames (of_rank z s d q) 2 ((own_chain z s h d l).below q (omega arith)) (omega arith)

  unmapped_chain : Chain z unmapped d (owned z s d)
  unmapped_chain =
      let k = own_chain z s h d l in
      record {
        laid = record { sizes = h.laid_out.laid.sizes; long = leaves_length z s d z.frames ∙ h.laid_out.laid.long };
        domain_below = l;
        most = k.most;
        below = λ r m. subst (λ (t : ℕ). t < z.treelings) (sym (same_rank r m)) (k.below r m);
        linked = λ r m. same_link r m ∙ k.linked r m ∙ ap suc (sym (same_rank r m));
        one = λ q r i j e. k.one q r i j (sym (same_rank q i) ∙ e ∙ same_rank r j);
      }

  -- The chain that the code walks, and the number of its TreeLings.
  pub close_chain : (r : List ℕ) (m : ℕ) → r ≡ unmapped → m ≡ owned z s d → Chain z r d m
  close_chain r m e is =
      subst (λ (w : List ℕ). Chain z w d m) (sym e) (subst (λ (k : ℕ). Chain z unmapped d k) (sym is) unmapped_chain)

  same_treelings : (w : List ℕ) (q : ℕ) → q ≤ owned z s d → treelings_cleared z unmapped d (λ _. true) w q ≡ treelings_cleared z s d (λ _. true) w q
  unfolding treelings_cleared
  same_treelings w zero m = refl
  same_treelings w (suc q) m =
      ap₂ (treeling_cleared z) (same_treelings w q (omega arith)) (same_rank q m)

  -- The leaf IDs, then the TreeLings, then the domain's record.
  pub close_right : (r u v : List ℕ) (m i pages : ℕ) → i ≡ address z (domain d 0) → pages ≡ get_or s (i + 5) 0 → m ≡ owned z s d → r ≡ unmapped → u ≡ treelings_cleared z r d (λ _. true) r m → v ≡ zeros u i 6
      → (outcome (Finished pages) v ≡ close_call z s d) × Sound z v
  unfolding close_call
  close_right r u v m i pages ei ep em er eu ev =
      let at : i ≡ domain_start z d = omega arith in
      let word : i + 5 ≡ address z (pages_mapped d) = omega arith in
      let second : u ≡ treelings_cleared z s d (λ _. true) unmapped (owned z s d) =
      eu
      ∙ ap (λ (w : List ℕ). treelings_cleared z w d (λ _. true) w m) er
      ∙ ap (treelings_cleared z unmapped d (λ _. true) unmapped) em
      ∙ same_treelings unmapped (owned z s d) (omega arith) in
      let all : v ≡ closing z s d =
      ev
      ∙ ap (λ (w : List ℕ). zeros w i 6) second
      ∙ ap (λ (k : ℕ). zeros (treelings_cleared z s d (λ _. true) unmapped (owned z s d)) k 6) at
      ∙ sym (closing_is z s h d l) in
      let released : pages ≡ get z s (pages_mapped d) = ep ∙ ap (λ (k : ℕ). get_or s k 0) word in (
        ap (λ (p : ℕ). outcome (Finished p) v) released ∙ ap (outcome (Finished (get z s (pages_mapped d)))) all,
        subst (Sound z) (sym all) (closing_sound z s d h l),
      )
