-- Each single call of a domain changes only what is its own or nobody's.
-- Assumes nothing.
use Prim.Native.Nat.{ℕ, suc, ◌-◌, ◌*◌, ◌/◌, ◌%◌, ◌<◌, ◌≤◌}
use mathlib.Core.Path.{◌≡◌, refl, sym, ap, ◌∙◌}
use mathlib.Core.List.{List, [], ◌∷◌}
use mathlib.Core.Logic.{⊎_elim, inl, inr}
use native.Mathlib.Omega.{arith}
use lib.ListN.{get_or}
use lib.Seq.{get_or-set_other}
use Rattle.layout.specs.declared.Sizes.{Sizes}
use Rattle.leaf_map.specs.LeafIds.{leaf_fits, treeling_of}
use Rattle.leaf_map.proofs.LeafIdLaws.{at_number, at_treeling, treeling_fits}
use Rattle.geometry.specs.Entries.{tag_of, availability_of}
use Rattle.layout.specs.Places.{Place, address, get, put, content, domain, treeling, entry, leaf, live, head_treeling, head_block, pages_mapped, owner}
use Rattle.sound.specs.Sentences.{is_mapped_by, of_rank}
use Rattle.sound.specs.Sound.{LeavesFit, Sound, Ordinary}
use Rattle.layout.proofs.BoundedLaws.{is_false}
use Rattle.world.specs.World.{world, owned}
use Rattle.taking.specs.Taking.{to_take, taking}
use Rattle.placing.specs.Placing.{place_entry, leaf_given, after_giving, placing, position_given}
use Rattle.gathering.specs.Regathering.{head_at}
use Rattle.releasing.specs.Releasing.{unmapped, releasing}
use Rattle.world.proofs.FrameLaws.{either, Framed}
use Rattle.world.proofs.ClearLaws.{lowest_below}
use Rattle.world.proofs.WorldLaws.{of_rank_lem, last_some}
use Rattle.placing.proofs.PlacedSound.{Given, placed_given, placed_framed, found_next}
use Rattle.taking.proofs.TakenLaws.{Taken, taken}
use Rattle.placing.proofs.NoPlace.{sought_found}
use Rattle.placing.proofs.PlacingSound.{placing_cases}
use Rattle.world.proofs.WriteLaws.{Write, write, Apart, written_length, read_apart}
use Rattle.releasing.proofs.RefillLaws.{Rewritten, leaf_at_lem, tree_left, leaf_left}
use Rattle.releasing.proofs.ReleasedSound.{released_as}
use Rattle.domains.specs.Closing.{closing}
use Rattle.histories.proofs.ViewLaws.{Mine}
use Rattle.domains.proofs.ClosingLaws.{Closed, closed}
use Rattle.sound.proofs.MappedLaws.{MappedBy, mapped_by, by_mapped, unmapped_by, mapped_ordinary}
use Rattle.histories.proofs.HarmlessLaws.{Free, Moved, Harmless, harmless_same, harmless_trans, moved_harmless}

-- A frame whose leaf ID stays is domain e's still, where its TreeLings are.
mine_same : (z : Sizes) (s r : List ℕ) (e f : ℕ) → LeavesFit z s → f < z.frames → get z r (leaf f) ≡ get z s (leaf f) → ((t : ℕ) → t < z.treelings → get z s (owner t) ≡ suc e → get z r (owner t) ≡ suc e) → Mine z s e f → Mine z r e f
mine_same z s r e f range lf same own =
    ⊎_elim
    (λ none. inl (same ∙ none))
    (λ m. inr (record {
      some = omega (arith, same, m.some);
      own = ap (λ (x : ℕ). get z r (owner (treeling_of x))) same ∙ own (treeling_of (get z s (leaf f))) (treeling_fits z.treelings (get z s (leaf f)) m.some (range f lf)) m.own;
    }))

-- ---- Open
-- Only the word live of its own record is written.
pub open_moved : (z : Sizes) (s : List ℕ) (e : ℕ) (Named : ℕ → Type 0) → LeavesFit z s → e < z.domains → Moved z s (put z s (live e) 1) e Named
open_moved z s e Named range le =
    record {
      same_domain = λ d j l m apart. elsewhere (address z (domain d j)) (omega arith);
      same_treeling = λ t j l m not. elsewhere (address z (treeling t j)) (omega arith);
      same_entry = λ t k l m not. elsewhere (address z (entry t k)) (omega arith);
      owner_now = λ t l.
          let same = elsewhere (address z (owner t)) (omega arith) in
          ⊎_elim (λ none. inl (same ∙ none)) (λ own. inr (same ∙ own));
      same_leaf = λ f l not. elsewhere (address z (leaf f)) (omega arith);
      leaf_now = λ f l. mine_same z s (put z s (live e) 1) e f range l (elsewhere (address z (leaf f)) (omega arith)) (λ t m o. elsewhere (address z (owner t)) (omega arith) ∙ o);
      unnamed = λ f l not none. elsewhere (address z (leaf f)) (omega arith) ∙ none;
    }
  where
    elsewhere : (a : ℕ) → (a ≡ address z (live e) → ⊥) → get_or (put z s (live e) 1) a 0 ≡ get_or s a 0
    elsewhere a apart = get_or-set_other s (address z (live e)) a 1 0 apart

-- ---- A write within the domain
-- Frame f alone gets another leaf ID, and was and is domain e's or unmapped.
framed_moved : (z : Sizes) (s r : List ℕ) (e f : ℕ) (Named : ℕ → Type 0) → LeavesFit z s → Framed z s r e → ((g : ℕ) → g < z.frames → (g ≡ f → ⊥) → get z r (leaf g) ≡ get z s (leaf g))
    → Mine z s e f → Mine z r e f → ((Named f → ⊥) → get z s (leaf f) ≡ 0 → get z r (leaf f) ≡ 0) → Moved z s r e Named
framed_moved z s r e f Named range w same before after none =
    record {
      same_domain = λ d j l m apart. w.same_domain d j l m (λ is. absurd (apart is));
      same_treeling = λ t j l m not. w.same_treeling t j l m;
      same_entry = λ t k l m not. w.same_entry t k l m (λ own. not (inr own));
      owner_now = λ t l.
          let now = w.same_treeling t 0 l (omega arith) in
          ⊎_elim (λ nobody. inl (now ∙ nobody)) (λ own. inr (now ∙ own));
      same_leaf = λ g l not. same g l (λ is. not (rw is before));
      leaf_now = λ g l m.
          either g f
          (λ is. rw is after)
          (λ apart. mine_same z s r e g range l (same g l apart) (λ t lt o. w.same_treeling t 0 lt (omega arith) ∙ o) m);
      unnamed = λ g l not was.
          either g f
          (λ is. rw is (none (rw is at not) (rw is at was)))
          (λ apart. same g l apart ∙ was);
    }

-- ---- Map
-- Domain e takes TreeLing t, which was nobody's.
taken_moved : (z : Sizes) (s r : List ℕ) (e t : ℕ) (Named : ℕ → Type 0) → Sound z s → e < z.domains → get z s (owner t) ≡ 0 → Taken z s r e t → Moved z s r e Named
taken_moved z s r e t Named h le nobody w =
    record {
      same_domain = λ d j l m apart. w.same_domain d j l m apart;
      same_treeling = λ u j l m not.
          either j 2
          (λ is. ap (λ (i : ℕ). get z r (treeling u i)) is ∙ w.same_next u l (λ end. not (inr (last_some z s h e le u end).0.owner_is)) ∙ ap (λ (i : ℕ). get z s (treeling u i)) (sym is))
          (w.same_treeling u j l m (other u not));
      same_entry = λ u k l m not. w.same_entry u k l m (other u not);
      owner_now = λ u l free.
          either u t
          (λ is. inr (ap (λ (v : ℕ). get z r (owner v)) is ∙ w.owner_is))
          (λ apart.
          let same = w.same_treeling u 0 l (omega arith) apart (omega arith) in
          ⊎_elim (λ none. inl (same ∙ none)) (λ own. inr (same ∙ own)) free);
      same_leaf = λ f l not. w.same_leaf f;
      leaf_now = λ f l. mine_same z s r e f h.leaf_range l (w.same_leaf f)
          (λ u lu o. w.same_treeling u 0 lu (omega arith) (λ is. omega (arith, ap (λ (v : ℕ). get z s (owner v)) is, o, nobody)) (omega arith) ∙ o);
      unnamed = λ f l not none. w.same_leaf f ∙ none;
    }
  where
    other : (u : ℕ) → (Free z s e u → ⊥) → u ≡ t → ⊥
    other u not is = not (inl (ap (λ (v : ℕ). get z s (owner v)) is ∙ nobody))

-- An entry of domain e gives a position to frame f, which was unmapped.
given_moved : (z : Sizes) (s r : List ℕ) (e f t k : ℕ) (Named : ℕ → Type 0) → Given z s r e f t k → z.treelings ≤ 4096 → LeavesFit z s → f < z.frames → t < z.treelings → k < 512 → Named f → get z s (owner t) ≡ suc e → get z s (leaf f) ≡ 0
    → 0 < availability_of (get z s (entry t k)) → tag_of (get z s (entry t k)) < 512 * z.treelings → get z s (owner (tag_of (get z s (entry t k)) / 512)) ≡ suc e → Moved z s r e Named
given_moved z s r e f t k Named g few range lf lt lk named own none free tag tag_own =
    framed_moved z s r e f Named range (placed_framed z s r e f t k g lf lt lk free own) g.same_leaf (inl none) (inr mapped) (λ not. absurd (not named))
  where
    mapped : MappedBy z r e f
    mapped =
        let x = leaf_given z s t k in
        let low = lowest_below (availability_of (get z s (entry t k))) free (omega arith) in
        let g_at = at_number (tag_of (get z s (entry t k))) (position_given z s t k) in
        let node : treeling_of x ≡ tag_of (get z s (entry t k)) / 512 = at_treeling (tag_of (get z s (entry t k))) (position_given z s t k) (omega arith) low in
        record {
          some = omega (arith, g.leaf_is);
          own =
              ap (λ (y : ℕ). get z r (owner (treeling_of y))) g.leaf_is
              ∙ g.same_treeling (treeling_of x) 0 (omega arith) (omega arith)
              ∙ ap (λ (u : ℕ). get z s (owner u)) node
              ∙ tag_own;
        }

module _ (z : Sizes) (s : List ℕ) (e f : ℕ) (Named : ℕ → Type 0) (named : Named f) (h : Sound z s) (le : e < z.domains) (o : Ordinary z s e) (lf : f < z.frames) (none : get z s (leaf f) ≡ 0) where
  -- Placing in an own entry.
  own_entry_lem : (j : ℕ) → j ≡ place_entry (world z s e) → j < 512 * owned z s e → Harmless z s (after_giving z s e f (of_rank z s e (j / 512)) (j % 512)) e Named
  own_entry_lem j is found =
      let t = of_rank z s e (j / 512) in
      let k = j % 512 in
      let n = found_next z s e j h le o is found in
      let g = placed_given z s e f t k h.laid_out.laid le lf n.below n.small in
      moved_harmless z s (after_giving z s e f t k) e Named
      (given_moved z s (after_giving z s e f t k) e f t k Named g h.laid_out.laid.sizes.max_treelings h.leaf_range lf n.below n.small named n.own none n.free
      (h.tag_range e t k n.below n.small n.own o) (h.tag_own e t k n.below n.small n.own o))
      h.leaf_range

  -- Placing in a TreeLing taken.
  taken_entry : (t : ℕ) → t < z.treelings → get z s (owner t) ≡ 0 → Harmless z s (after_giving z (taking z s e t) e f t 0) e Named
  taken_entry t lt nobody =
      let m = taking z s e t in
      let w = taken z s e t h.laid_out.laid le lt (λ v is. omega (arith, h.last_range e le, is)) in
      let r = after_giving z m e f t 0 in
      let g = placed_given z m e f t 0 (record { sizes = h.laid_out.laid.sizes; long = w.long ∙ h.laid_out.laid.long }) le lf lt (omega arith) in
      let leaves : LeavesFit z m = λ c l. ap (leaf_fits z.treelings) (w.same_leaf c) ∙ h.leaf_range c l in
      let fresh = w.fresh 0 (omega arith) in
      let node : tag_of (get z m (entry t 0)) / 512 ≡ t = omega arith in
      harmless_trans z s m r e Named h.leaf_range
      (moved_harmless z s m e Named (taken_moved z s m e t Named h le nobody w) h.leaf_range)
      (moved_harmless z m r e Named
      (given_moved z m r e f t 0 Named g h.laid_out.laid.sizes.max_treelings leaves lf lt (omega arith) named w.owner_is (w.same_leaf f ∙ none)
      (omega arith) (omega arith) (ap (λ (u : ℕ). get z m (owner u)) node ∙ w.owner_is))
      leaves)

  -- In an own entry, in a TreeLing taken, or not at all.
  pub placing_harmless : Harmless z s (placing z s e f).words e Named
  placing_harmless =
      placing_cases z s e f (λ r. Harmless z s r e Named)
      (own_entry_lem (place_entry (world z s e)) refl)
      (λ _ is. let w = sought_found z s e h le e is in taken_entry (to_take z s e) w.0 w.1)
      (harmless_same z s e Named)

-- ---- Unmap
module _ (z : Sizes) (s : List ℕ) (e f : ℕ) (Named : ℕ → Type 0) (h : Sound z s) (le : e < z.domains) (lf : f < z.frames) (m : MappedBy z s e f) where
  -- Entries of the domain have other words, block q is its head and frame f is unmapped.
  module _ (x : List ℕ) (b : Rewritten z s e x) (q : ℕ) where
    abbrev r : List ℕ
    r = unmapped z s e f (head_at z s e q x)

    abbrev writes : List Write
    writes =
        write (address z (pages_mapped e)) (get z s (pages_mapped e) - 1)
        ∷ write (address z (leaf f)) 0
        ∷ write (address z (head_block e)) (q % 64)
        ∷ write (address z (head_treeling e)) (suc (of_rank z s e (q / 64)))
        ∷ []

    -- What is no entry of its TreeLings, nor one of these words, is as before.
    kept : (p : Place) → Apart (address z p) writes → ((t k : ℕ) → t < z.treelings → k < 512 → get z s (owner t) ≡ suc e → address z p ≡ address z (entry t k) → ⊥) → get z r p ≡ get z s p
    kept p apart other =
        read_apart x writes (address z p) apart
        ∙ b.same (address z p) (λ j less is.
        let a = of_rank_lem z s h e le (j / 512) (omega arith) in
        other (of_rank z s e (j / 512)) (j % 512) a.below (omega arith) a.owner_is is)

    -- So it is a write within the domain,
    left_framed : Framed z s r e
    left_framed =
        record {
          long = written_length x writes ∙ b.long;
          same_content = λ i l. kept (content i) (omega arith, (omega arith, (omega arith, (omega arith, tt)))) (λ _ _ _ _ _ is. omega arith);
          same_domain = λ d j l n own.
              let no : (w : ℕ) → 3 ≤ w → w < 6 → address z (domain d j) ≡ address z (domain e w) → ⊥ = λ w low high is. omega (arith, own (omega arith)) in
              kept (domain d j) (no 5 (omega arith) (omega arith), (omega arith, (no 4 (omega arith) (omega arith), (no 3 (omega arith) (omega arith), tt)))) (λ _ _ _ _ _ is. omega arith);
          same_treeling = tree_left z s h e le f lf x b q;
          same_entry = λ t k l n other.
              kept (entry t k) (omega arith, (omega arith, (omega arith, (omega arith, tt))))
              (λ u i lu li own is. let there : t ≡ u = omega arith in other (ap (λ (v : ℕ). get z s (owner v)) there ∙ own));
        }

    -- and frame f was its own.
    left_harmless : Harmless z s r e Named
    left_harmless =
        moved_harmless z s r e Named
        (framed_moved z s r e f Named h.leaf_range left_framed (leaf_left z s h e le f lf x b q)
        (inr m) (inl (leaf_at_lem z s h e le f lf x b q)) (λ _ none. omega (arith, m.some, none)))
        h.leaf_range

  pub releasing_harmless : Harmless z s (releasing z s e f) e Named
  releasing_harmless = released_as z s e f h le (mapped_ordinary z s e f h lf m) lf m (λ r. Harmless z s r e Named) left_harmless

-- ---- Close
-- Its record, its TreeLings and its frames become nobody's.
pub close_moved : (z : Sizes) (s : List ℕ) (e : ℕ) (Named : ℕ → Type 0) → Sound z s → e < z.domains → Moved z s (closing z s e) e Named
close_moved z s e Named h le =
    record {
      same_domain = λ d j l m apart. c.same_domain d j l m apart;
      same_treeling = λ t j l m not. c.same_treeling t j l m (λ own. not (inr own));
      same_entry = λ t k l m not. c.same_entry t k l m (λ own. not (inr own));
      owner_now = λ t l.
          ⊎_elim
          (λ none. inl (c.same_treeling t 0 l (omega arith) (λ own. omega arith) ∙ none))
          (λ own. inl (c.owned_zero t 0 l (omega arith) own));
      same_leaf = λ f l not. c.same_leaf f l (is_false (is_mapped_by z s e f) (λ is. not (inr (mapped_by z s e f is))));
      leaf_now = λ f l.
          ⊎_elim (λ none. inl (stays f l none)) (λ m. inl (c.leaf_zero f l (by_mapped z s e f m)));
      unnamed = λ f l not none. stays f l none;
    }
  where
    c : Closed z s (closing z s e) e
    c = closed z s h e le

    -- An unmapped frame is unmapped after.
    stays : (f : ℕ) → f < z.frames → get z s (leaf f) ≡ 0 → get z (closing z s e) (leaf f) ≡ 0
    stays f l none =
        c.same_leaf f l (unmapped_by z s e f none) ∙ none
