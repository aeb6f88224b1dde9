-- Laws of the code of the single calls: each answer, in the code's words.
-- Assumes nothing.
use Prim.Native.Nat.{ℕ, suc, ◌-◌, ◌/◌, ◌^◌, ◌<◌, ◌≤◌}
use mathlib.Core.Path.{◌≡◌, sym, ap, ◌∙◌}
use mathlib.Core.List.{List}
use mathlib.Core.Bool.{Bool, true, false, ◌&&◌}
use native.Mathlib.Omega.{arith}
use borrow.Author.Tests.{eq-eqb, ne_eqb}
use lib.Dec.{eqb, ltb}
use lib.ListN.{length, length-set}
use lib.Seq.{get_or-set_same, get_or-set_other}
use Rattle.layout.specs.declared.Sizes.{Sizes}
use Rattle.leaf_map.specs.declared.LeafId.{LeafId}
use Rattle.leaf_map.specs.LeafIds.{LeafFits, leaf_fits, treeling_of}
use Rattle.layout.specs.Outcomes.{OutcomeOf, outcome}
use Rattle.layout.specs.Places.{address, word_count, get, put, entry, leaf, owner, pages_mapped}
use Rattle.sound.specs.Sentences.{is_mapped_by}
use Rattle.geometry.specs.Entries.{tag_of}
use Rattle.sound.specs.Sound.{Sound}
use Rattle.world.specs.World.{head_to}
use Rattle.taking.specs.Taking.{to_take, taking}
use Rattle.placing.specs.Placing.{own_treeling, own_entry, placing, after_giving, position_given, leaf_given}
use Rattle.releasing.specs.Releasing.{releasing}
use Rattle.std.specs.Prelude.{Option, Some, None}
use Rattle.placing.proofs.NoPlace.{sought_found}
use Rattle.placing.proofs.DecisionLaws.{placing_by}
use Rattle.taking.proofs.TakenLaws.{taken}
use Rattle.pages.specs.Answers.{Answer, Finished, Refused, refuse, page_at}
use Rattle.pages.specs.Mapping.{mapping, map_call}
use Rattle.pages.specs.Paths.{path_call}
use Rattle.pages.specs.Unmapping.{unmap_call}
use Rattle.leaf_map.proofs.LeafIdLaws.{at_number}

-- ---- Mapped by the domain, and the page
-- The leaf ID of frame f.
module _ (z : Sizes) (s : List ℕ) (d f id : ℕ) (is : id ≡ get z s (leaf f)) where
  -- What is asked of it is asked of the frame.
  pub asked_frame : (own : Bool) → own ≡ (ltb 0 id && eqb (get z s (owner (treeling_of id))) (suc d)) → own ≡ is_mapped_by z s d f
  asked_frame own e =
      e ∙ ap (λ (x : ℕ). ltb 0 x && eqb (get z s (owner (treeling_of x))) (suc d)) is

  -- Path: the page.
  pub path_page : (a : Answer) → is_mapped_by z s d f ≡ true → a ≡ page_at z s id 0 → outcome a s ≡ path_call z s d f
  unfolding path_call
  path_page a e page = rw (page, is, e)

-- ---- Map
module _ (z : Sizes) (s : List ℕ) (d f : ℕ) where
  -- The frame is mapped.
  pub map_taken : (get z s (leaf f) ≡ 0 → ⊥) → refuse 12 s ≡ map_call z s d f
  unfolding map_call
  map_taken some = simp (ne_eqb (get z s (leaf f)) 0 some)

  -- It is not: the placement answers.
  module _ (free : get z s (leaf f) ≡ 0) (p : Option LeafId) (r : List ℕ) (is : outcome p r ≡ placing z s d f) where
    map_placed : mapping z p r ≡ map_call z s d f
    unfolding map_call
    map_placed = ap (λ (q : OutcomeOf (Option LeafId)). mapping z q.answer q.words) is ∙ simp (eq-eqb (get z s (leaf f)) 0 free)

    pub map_none : p ≡ None → outcome (Refused 13) r ≡ map_call z s d f
    unfolding mapping
    map_none e = ap (λ (q : Option LeafId). mapping z q r) (sym e) ∙ map_placed

    pub map_page : (id : LeafId) (a : Answer) → p ≡ Some id → a ≡ page_at z r id.0 1 → outcome a r ≡ map_call z s d f
    unfolding mapping
    map_page id a e page =
        ap (λ (b : Answer). outcome b r) page ∙ ap (λ (q : Option LeafId). mapping z q r) (sym e) ∙ map_placed

-- An entry that gives a place writes its leaf ID.
given_leaf : (z : Sizes) (s : List ℕ) (d f t k : ℕ) → length s ≡ word_count z → d < z.domains → f < z.frames → get z (after_giving z s d f t k) (leaf f) ≡ leaf_given z s t k
unfolding after_giving
given_leaf z s d f t k long ld lf =
    let s1 = put z s (entry t k) (get z s (entry t k) - 2 ^ position_given z s t k) in
    let s2 = head_to z d t (k / 8) s1 in
    get_or-set_other (put z s2 (leaf f) (leaf_given z s t k)) (address z (pages_mapped d)) (address z (leaf f)) (suc (get z s (pages_mapped d))) 0 (λ e. omega arith)
    ∙ get_or-set_same s2 (address z (leaf f)) (leaf_given z s t k) 0 (simp length-set (omega arith))

module _ (z : Sizes) (s : List ℕ) (d f : ℕ) (h : Sound z s) (ld : d < z.domains) (lf : f < z.frames) (id : LeafId) where
  -- So the leaf ID of a page placed is the one written,
  abbrev Written : OutcomeOf (Option LeafId) → Type 0
  Written p = p.answer ≡ Some id → (1 ≤ id.0) × (get z p.words (leaf f) ≡ id.0)

  given_written : (r : List ℕ) (t k : ℕ) → length r ≡ word_count z → Written (outcome (Some (record { 0 = leaf_given z r t k })) (after_giving z r d f t k))
  given_written r t k long is =
      let same : ◌≡◌ {A = LeafId} (record { 0 = leaf_given z r t k }) id = cc in
      let number : leaf_given z r t k ≡ id.0 = ap (λ (x : LeafId). x.0) same in
      (omega (arith, number, at_number (tag_of (get z r (entry t k))) (position_given z r t k)), given_leaf z r d f t k long ld lf ∙ number)

  placing_written : Written (placing z s d f)
  placing_written =
      placing_by z s d f Written
      (λ _. given_written s (own_treeling z s d) (own_entry z s d) h.laid_out.laid.long)
      (λ _ some.
      let w = sought_found z s d h ld d some in
      let k = taken z s d (to_take z s d) h.laid_out.laid ld w.0 (λ v e. omega (arith, h.last_range d ld)) in
      given_written (taking z s d (to_take z s d)) (to_take z s d) 0 (k.long ∙ h.laid_out.laid.long))
      (λ _ _ is. absurd (let no : ◌≡◌ {A = ℕ} 0 1 = cc in omega arith))

  -- and is in its range.
  pub placed_range : (p : Option LeafId) (r : List ℕ) → outcome p r ≡ placing z s d f → Sound z r → p ≡ Some id → (1 ≤ id.0) × LeafFits z.treelings id.0
  placed_range p r is sound e =
      let w = placing_written (ap (λ (q : OutcomeOf (Option LeafId)). q.answer) (sym is) ∙ e) in
      let there : get z r (leaf f) ≡ id.0 = ap (λ (q : OutcomeOf (Option LeafId)). get z q.words (leaf f)) is ∙ w.1 in
      (w.0, ap (leaf_fits z.treelings) (sym there) ∙ sound.leaf_range f lf)

-- ---- Unmap, and path of a page that the domain has not mapped
module _ (z : Sizes) (s : List ℕ) (d f : ℕ) where
  pub path_other : is_mapped_by z s d f ≡ false → refuse 14 s ≡ path_call z s d f
  unfolding path_call
  path_other e = rw e

  pub unmap_other : is_mapped_by z s d f ≡ false → refuse 14 s ≡ unmap_call z s d f
  unfolding unmap_call
  unmap_other e = rw e

  pub unmap_done : is_mapped_by z s d f ≡ true → (r : List ℕ) → r ≡ releasing z s d f → outcome (Finished 1) r ≡ unmap_call z s d f
  unfolding unmap_call
  unmap_done mapped r is = rw (is, mapped)
