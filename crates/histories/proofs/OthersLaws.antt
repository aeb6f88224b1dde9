-- Words that leave all that is a domain's as it is: its view of them is the same.
-- Assumes nothing.
use Prim.Native.Nat.{ℕ, zero, suc, ◌+◌, ◌-◌, ◌*◌, ◌/◌, ◌%◌, ◌<◌}
use mathlib.Core.Path.{◌≡◌, refl, sym, ap, ap₂, ◌∙◌}
use mathlib.Core.List.{List}
use mathlib.Core.Bool.{Bool, true, false, cond, ◌&&◌}
use native.Mathlib.Nat.{lt_of_not-le}
use native.Mathlib.Omega.{arith}
use borrow.Author.Tests.{eqb-true, eq-eqb, ltb-true}
use lib.Dec.{eqb, ltb}
use Rattle.layout.specs.declared.Sizes.{Sizes}
use Rattle.leaf_map.specs.LeafIds.{slot_of, treeling_of}
use Rattle.geometry.specs.Entries.{tag_of, availability_of}
use Rattle.layout.specs.Places.{get, domain, treeling, entry, leaf, first, head_treeling, head_block, owner, rank}
use Rattle.sound.specs.Sentences.{is_mapped_by, head_in_order, of_rank}
use Rattle.leaf_map.proofs.LeafIdLaws.{treeling_fits}
use Rattle.sound.specs.Sound.{LeavesFit, Sound}
use Rattle.sound.proofs.TestLaws.{one_more, same_test}
use Rattle.sound.proofs.RecordLaws.{sound_ordinary}
use Rattle.releasing.proofs.NeverStuck.{head_ordinary}
use Rattle.world.specs.World.{world, owned, entry_of}
use Rattle.world.proofs.WorldLaws.{of_rank_lem}
use Rattle.histories.proofs.View.{view_of, rank_node, rank_slot}
use Rattle.sound.proofs.MappedLaws.{MappedBy, mapped_by, by_mapped}
use Rattle.histories.proofs.ViewLaws.{list_eq, view_eq, SameChain, owned_same, of_rank_same}

-- Words r after words s: the record of domain d, its TreeLings and its pages are as before, and nothing else has become its own.
pub record Untouched (z : Sizes) (s r : List ℕ) (d : ℕ) : Type 0 where
  pub same_domain : (j : ℕ) → j < 6 → get z r (domain d j) ≡ get z s (domain d j)
  pub same_treeling : (t j : ℕ) → t < z.treelings → j < 5 → get z s (owner t) ≡ suc d → get z r (treeling t j) ≡ get z s (treeling t j)
  pub same_entry : (t k : ℕ) → t < z.treelings → k < 512 → get z s (owner t) ≡ suc d → get z r (entry t k) ≡ get z s (entry t k)
  pub no_more : (t : ℕ) → t < z.treelings → get z r (owner t) ≡ suc d → get z s (owner t) ≡ suc d
  pub same_leaf : (f : ℕ) → f < z.frames → MappedBy z s d f → get z r (leaf f) ≡ get z s (leaf f)
  pub no_page_more : (f : ℕ) → f < z.frames → MappedBy z r d f → MappedBy z s d f

-- Nothing changes.
pub untouched_same : (z : Sizes) (s : List ℕ) (d : ℕ) → Untouched z s s d
untouched_same z s d =
    record {
      same_domain = λ j m. refl;
      same_treeling = λ t j l m o. refl;
      same_entry = λ t k l m o. refl;
      no_more = λ t l o. o;
      same_leaf = λ f l m. refl;
      no_page_more = λ f l m. m;
    }

-- Its pages stay its pages.
pub mapped_still : (z : Sizes) (s r : List ℕ) (d f : ℕ) → LeavesFit z s → Untouched z s r d → f < z.frames → MappedBy z s d f → MappedBy z r d f
mapped_still z s r d f range u l m =
    let x = get z s (leaf f) in
    let same = u.same_leaf f l m in
    record {
      some = omega (arith, same, m.some);
      own =
          ap (λ (w : ℕ). get z r (owner (treeling_of w))) same
          ∙ u.same_treeling (treeling_of x) 0 (treeling_fits z.treelings x m.some (range f l)) (omega arith) m.own
          ∙ m.own;
    }

-- One after the other.
pub untouched_trans : (z : Sizes) (s r q : List ℕ) (d : ℕ) → LeavesFit z s → Untouched z s r d → Untouched z r q d → Untouched z s q d
untouched_trans z s r q d range u v =
    record {
      same_domain = λ j m. v.same_domain j m ∙ u.same_domain j m;
      same_treeling = λ t j l m o. v.same_treeling t j l m (still t l o) ∙ u.same_treeling t j l m o;
      same_entry = λ t k l m o. v.same_entry t k l m (still t l o) ∙ u.same_entry t k l m o;
      no_more = λ t l o. u.no_more t l (v.no_more t l o);
      same_leaf = λ f l m. v.same_leaf f l (mapped_still z s r d f range u l m) ∙ u.same_leaf f l m;
      no_page_more = λ f l m. u.no_page_more f l (v.no_page_more f l m);
    }
  where
    still : (t : ℕ) → t < z.treelings → get z s (owner t) ≡ suc d → get z r (owner t) ≡ suc d
    still t l o = u.same_treeling t 0 l (omega arith) o ∙ o

-- ---- The view
module _ (z : Sizes) (s r : List ℕ) (d : ℕ) (h : Sound z s) (ld : d < z.domains) (u : Untouched z s r d) where
  -- The domain has the same TreeLings in the same order,
  chain : SameChain z s r d
  chain =
      record {
        same_first = u.same_domain 1 (omega arith);
        same_owner = λ t l. same_test (eqb (get z r (owner t)) (suc d)) (eqb (get z s (owner t)) (suc d))
            (λ e. eq-eqb (get z s (owner t)) (suc d) (u.no_more t l (eqb-true (get z r (owner t)) (suc d) e)))
            (λ e.
            let o = eqb-true (get z s (owner t)) (suc d) e in
            eq-eqb (get z r (owner t)) (suc d) (u.same_treeling t 0 l (omega arith) o ∙ o));
        same_next = λ t l o. u.same_treeling t 2 l (omega arith) o;
      }

  -- of the same ranks,
  rank_same : (t : ℕ) → t < z.treelings → get z s (owner t) ≡ suc d → get z r (rank t) ≡ get z s (rank t)
  rank_same t l o = u.same_treeling t 3 l (omega arith) o

  -- its head where it was,
  head_same : (world z r d).nfl.head ≡ (world z s d).nfl.head
  head_same = by_head (get z s (head_treeling d)) refl
    where
      now : get z r (head_treeling d) ≡ get z s (head_treeling d)
      now = u.same_domain 3 (omega arith)

      by_head : (x : ℕ) → get z s (head_treeling d) ≡ x → (world z r d).nfl.head ≡ (world z s d).nfl.head
      by_head zero e =
          ap (λ (b : Bool). cond b 0 (head_in_order z r d)) (eq-eqb (get z r (head_treeling d)) 0 (now ∙ e))
          ∙ sym (ap (λ (b : Bool). cond b 0 (head_in_order z s d)) (eq-eqb (get z s (head_treeling d)) 0 e))
      by_head (suc c) e =
          let v = one_more (get z s (first d)) (lt_of_not-le λ none. omega (arith, h.empty_zero d 2 ld (omega arith) (omega arith))) in
          let w = h.head_own d v.0 ld (head_ordinary z s h d ld c e) v.1 in
          let at : get z s (head_treeling d) - 1 ≡ w.0 = omega (arith, w.1) in
          let own : get z s (owner (get z s (head_treeling d) - 1)) ≡ suc d = ap (λ (t : ℕ). get z s (owner t)) at ∙ w.2 in
          let order : head_in_order z r d ≡ head_in_order z s d =
          ap₂ (λ (t b : ℕ). 64 * get z r (rank (t - 1)) + b) now (u.same_domain 4 (omega arith))
          ∙ ap (λ (n : ℕ). 64 * n + get z s (head_block d)) (rank_same (get z s (head_treeling d) - 1) (omega (arith, h.head_range d ld)) own) in
          ap₂ (λ (b : Bool) (n : ℕ). cond b 0 n) (ap (λ (n : ℕ). eqb n 0) now) order

  -- each of its entries,
  entry_now : (j : ℕ) → j < 512 * owned z s d → get z r (entry_of z r d j) ≡ get z s (entry_of z s d j)
  entry_now j less =
      let a = of_rank_lem z s h d ld (j / 512) (omega arith) in
      ap (λ (t : ℕ). get z r (entry t (j % 512))) (of_rank_same z s r d chain h ld (j / 512) (omega arith))
      ∙ u.same_entry (of_rank z s d (j / 512)) (j % 512) a.below (omega arith) a.owner_is

  -- What is seen of them up to their number.
  up_to : (f g : ℕ → ℕ) → ((j : ℕ) → j < 512 * owned z s d → f j ≡ g j) → (j : ℕ) → cond (ltb j (512 * owned z r d)) (f j) 0 ≡ cond (ltb j (512 * owned z s d)) (g j) 0
  up_to f g same j =
      ap (λ (n : ℕ). cond (ltb j (512 * n)) (f j) 0) (owned_same z s r d chain) ∙ by_test (ltb j (512 * owned z s d)) refl
    where
      by_test : (b : Bool) → ltb j (512 * owned z s d) ≡ b → cond b (f j) 0 ≡ cond b (g j) 0
      by_test true e = same j (ltb-true j (512 * owned z s d) e)
      by_test false e = refl

  -- with the ranks of its tags,
  tag_same : (j : ℕ) → j < 512 * owned z s d → rank_node z r ((world z r d).nfl.tag j) ≡ rank_node z s ((world z s d).nfl.tag j)
  tag_same j less =
      let a = of_rank_lem z s h d ld (j / 512) (omega arith) in
      let t = of_rank z s d (j / 512) in
      let n = tag_of (get z s (entry_of z s d j)) in
      let ordinary = sound_ordinary z s h d t a.below a.owner_is in
      ap (λ (w : ℕ). rank_node z r (tag_of w)) (entry_now j less)
      ∙ ap (λ (x : ℕ). 512 * x + n % 512)
      (rank_same (n / 512) (omega (arith, h.tag_range d t (j % 512) a.below (omega arith) a.owner_is ordinary)) (h.tag_own d t (j % 512) a.below (omega arith) a.owner_is ordinary))

  -- and each of its pages.
  place_same : (f : ℕ) → cond (ltb f z.frames && is_mapped_by z r d f) (suc (rank_slot z r (get z r (leaf f)))) 0 ≡ cond (ltb f z.frames && is_mapped_by z s d f) (suc (rank_slot z s (get z s (leaf f)))) 0
  place_same f = by_frame_lem (ltb f z.frames) refl
    where
      page : ℕ
      page = get z s (leaf f)

      on_page : f < z.frames → (b : Bool) → is_mapped_by z s d f ≡ b → cond b (suc (rank_slot z r (get z r (leaf f)))) 0 ≡ cond b (suc (rank_slot z s page)) 0
      on_page l true e =
          let m = mapped_by z s d f e in
          ap (λ (w : ℕ). suc (rank_slot z r w)) (u.same_leaf f l m)
          ∙ ap (λ (x : ℕ). suc (4096 * x + slot_of page)) (rank_same (treeling_of page) (treeling_fits z.treelings page m.some (h.leaf_range f l)) m.own)
      on_page l false e = refl

      by_frame_lem : (b : Bool) → ltb f z.frames ≡ b → cond (b && is_mapped_by z r d f) (suc (rank_slot z r (get z r (leaf f)))) 0 ≡ cond (b && is_mapped_by z s d f) (suc (rank_slot z s page)) 0
      by_frame_lem true e =
          let l = ltb-true f z.frames e in
          let same : is_mapped_by z r d f ≡ is_mapped_by z s d f =
          same_test (is_mapped_by z r d f) (is_mapped_by z s d f)
          (λ k. by_mapped z s d f (u.no_page_more f l (mapped_by z r d f k)))
          (λ k. by_mapped z r d f (mapped_still z s r d f h.leaf_range u l (mapped_by z s d f k))) in
          ap (λ (b : Bool). cond b (suc (rank_slot z r (get z r (leaf f)))) 0) same ∙ on_page l (is_mapped_by z s d f) refl
      by_frame_lem false e = refl

  -- So the view is the same.
  pub view_same : view_of z r d ≡ view_of z s d
  unfolding view_of
  view_same =
      view_eq (view_of z r d) (view_of z s d)
      (u.same_domain 0 (omega arith))
      (owned_same z s r d chain)
      (list_eq head_same
      (up_to (λ j. rank_node z r ((world z r d).nfl.tag j)) (λ j. rank_node z s ((world z s d).nfl.tag j)) tag_same)
      (up_to (world z r d).nfl.free (world z s d).nfl.free (λ j less. ap availability_of (entry_now j less))))
      (u.same_domain 5 (omega arith))
      place_same
