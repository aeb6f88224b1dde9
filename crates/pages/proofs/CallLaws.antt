-- The single calls by their cases, and the pages that they map and release.
-- Assumes nothing.
use Prim.Native.Nat.{ℕ, suc, ◌-◌, ◌/◌, ◌^◌, ◌<◌}
use mathlib.Core.Path.{◌≡◌, refl, sym, ap, subst, ◌∙◌}
use mathlib.Core.List.{List}
use mathlib.Core.Bool.{false, false≢true}
use native.Mathlib.Nat.{lt_of_not-le}
use native.Mathlib.Omega.{arith}
use borrow.Author.Tests.{eqb-true, eqb-false}
use lib.Dec.{eqb}
use lib.ListN.{length, length-set}
use lib.Seq.{get_or-set_same}
use Rattle.layout.specs.declared.Sizes.{Sizes}
use Rattle.leaf_map.specs.declared.LeafId.{LeafId}
use Rattle.leaf_map.specs.LeafIds.{node_of_leaf, position_of_leaf}
use Rattle.layout.specs.Outcomes.{OutcomeOf, outcome}
use Rattle.layout.specs.Places.{address, word_count, get, put, entry, leaf, live, pages_mapped}
use Rattle.sound.specs.Sentences.{is_mapped_by, true_number}
use Rattle.sound.specs.Sound.{Sound, Live}
use Rattle.world.specs.World.{world, head_to}
use Rattle.taking.specs.Taking.{to_take, taking}
use Rattle.placing.specs.Placing.{own_treeling, own_entry, placing, after_giving, position_given, leaf_given}
use Rattle.releasing.specs.Releasing.{after_step, releasing, release_step}
use Rattle.std.specs.Prelude.{Option, Some, None}
use Rattle.placing.proofs.DecisionLaws.{placing_by}
use Rattle.placing.proofs.NoPlace.{nothing_written, sought_found}
use Rattle.taking.proofs.TakenLaws.{taken}
use Rattle.releasing.proofs.ReleasedSound.{released_sound}
use Rattle.world.proofs.ChangeLaws.{count_zero}
use Rattle.pages.specs.Answers.{Finished, Outcome, refuse, page_at}
use Rattle.pages.specs.Mapping.{mapping, map_call}
use Rattle.pages.specs.Unmapping.{unmap_call}
use Rattle.pages.specs.Paths.{path_call}
use Rattle.sound.proofs.MappedLaws.{MappedBy, mapped_by, by_mapped, mapped_ordinary}
use Rattle.pages.proofs.CaseLaws.{by_test}

-- ---- By cases
module _ (z : Sizes) (s : List ℕ) (d f : ℕ) (P : Outcome → Type 0) where
  -- Map: 12, 13 with nothing written, or a page.
  pub map_cases : ((get z s (leaf f) ≡ 0 → ⊥) → P (refuse 12 s)) → (get z s (leaf f) ≡ 0 → (placing z s d f).answer ≡ None → P (refuse 13 s))
      → ((id : LeafId) → get z s (leaf f) ≡ 0 → (placing z s d f).answer ≡ Some id → P (outcome (page_at z (placing z s d f).words id.0 1) (placing z s d f).words))
      → P (map_call z s d f)
  unfolding map_call mapping
  map_cases taken none placed =
      by_test P (eqb (get z s (leaf f)) 0) _ _
      (λ e. on (eqb-true (get z s (leaf f)) 0 e) (placing z s d f).answer refl)
      (λ e. taken (eqb-false (get z s (leaf f)) 0 e))
    where
      on : get z s (leaf f) ≡ 0 → (p : Option LeafId) → (placing z s d f).answer ≡ p → P (mapping z p (placing z s d f).words)
      on e (Some id) is = placed id e is
      on e None is = subst (λ (r : List ℕ). P (refuse 13 r)) (sym (nothing_written z s d f is)) (none e is)

  -- Unmap: 14, or done.
  pub unmap_cases : (is_mapped_by z s d f ≡ false → P (refuse 14 s)) → (MappedBy z s d f → P (outcome (Finished 1) (releasing z s d f))) → P (unmap_call z s d f)
  unfolding unmap_call
  unmap_cases not released = by_test P (is_mapped_by z s d f) _ _ (λ e. released (mapped_by z s d f e)) not

  -- Path: 14, or the page.
  pub path_cases : (is_mapped_by z s d f ≡ false → P (refuse 14 s)) → (MappedBy z s d f → P (outcome (page_at z s (get z s (leaf f)) 0) s)) → P (path_call z s d f)
  unfolding path_call
  path_cases not found = by_test P (is_mapped_by z s d f) _ _ (λ e. found (mapped_by z s d f e)) not

-- ---- Pages mapped
module _ (z : Sizes) (d f : ℕ) (l : d < z.domains) where
  -- The pages, written last.
  pages_put : (r : List ℕ) (n : ℕ) → length (put z r (pages_mapped d) n) ≡ word_count z → get z (put z r (pages_mapped d) n) (pages_mapped d) ≡ n
  pages_put r n long =
      get_or-set_same r (address z (pages_mapped d)) n 0 (omega (arith, length-set r (address z (pages_mapped d)) n))

  -- An entry that gives a place counts one page more.
  given_pages : (s : List ℕ) (t k : ℕ) → length s ≡ word_count z → get z (after_giving z s d f t k) (pages_mapped d) ≡ suc (get z s (pages_mapped d))
  unfolding after_giving
  given_pages s t k long =
      let s1 = put z s (entry t k) (get z s (entry t k) - 2 ^ position_given z s t k) in
      let s2 = put z (head_to z d t (k / 8) s1) (leaf f) (leaf_given z s t k) in
      pages_put s2 (suc (get z s (pages_mapped d))) (simp length-set long)

  module _ (s : List ℕ) (h : Sound z s) where
    -- A page placed is one more,
    abbrev More : LeafId → OutcomeOf (Option LeafId) → Type 0
    More id p = p.answer ≡ Some id → get z p.words (pages_mapped d) ≡ suc (get z s (pages_mapped d))

    pub placing_pages : (id : LeafId) → (placing z s d f).answer ≡ Some id → get z (placing z s d f).words (pages_mapped d) ≡ suc (get z s (pages_mapped d))
    placing_pages id =
        placing_by z s d f (More id)
        (λ _ _. given_pages s (own_treeling z s d) (own_entry z s d) h.laid_out.laid.long)
        (λ _ some _.
        let w = sought_found z s d h l d some in
        let k = taken z s d (to_take z s d) h.laid_out.laid l w.0 (λ v e. omega (arith, h.last_range d l)) in
        given_pages (taking z s d (to_take z s d)) (to_take z s d) 0 (k.long ∙ h.laid_out.laid.long)
        ∙ ap suc (k.same_own 5 (omega arith) (omega arith) (omega arith)))
        (λ _ _ is. absurd (let no : ◌≡◌ {A = ℕ} 0 1 = cc in omega arith))

    -- and a page released one less, of some.
    some_page : f < z.frames → MappedBy z s d f → 0 < get z s (pages_mapped d)
    unfolding true_number
    some_page m mapped =
        lt_of_not-le λ none.
        false≢true
        (sym (count_zero z.frames (is_mapped_by z s d) (omega (arith, h.pages_true_lem d l)) f m) ∙ by_mapped z s d f mapped)

    pub releasing_pages : f < z.frames → MappedBy z s d f → suc (get z (releasing z s d f) (pages_mapped d)) ≡ get z s (pages_mapped d)
    unfolding releasing
    releasing_pages m mapped =
        let n = node_of_leaf (get z s (leaf f)) in
        let i = position_of_leaf (get z s (leaf f)) in
        let r = put z (after_step z s d n i (release_step (world z s d) n i)) (leaf f) 0 in
        omega (arith, some_page m mapped, pages_put r (get z s (pages_mapped d) - 1) (released_sound z s d f h l (mapped_ordinary z s d f h m mapped) m mapped).laid_out.laid.long)

    -- A domain with a page is live.
    pub pages_live : 0 < get z s (pages_mapped d) → Live z s d
    pages_live some =
        let not_dead : get z s (live d) ≡ 0 → ⊥ = λ dead. omega (arith, h.dead_zero d 5 l (omega arith) dead) in
        omega (arith, h.live_range d l)
