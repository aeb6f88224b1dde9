-- Laws of views: when two are equal, what is seen of an answer, and what leaves the TreeLings of a domain as they are.
-- Assumes nothing.
use Prim.Native.Nat.{ℕ, zero, suc, ◌-◌, ◌*◌, ◌/◌, ◌%◌, ◌^◌, ◌<◌, ◌≤◌}
use mathlib.Core.Path.{◌≡◌, refl, ap, ◌∙◌}
use mathlib.Core.List.{List, [], ◌∷◌}
use mathlib.Core.Bool.{Bool, true, false, cond, ◌&&◌, ◌||◌}
use mathlib.Core.Logic.{◌⊎◌}
use native.Mathlib.Omega.{arith}
use borrow.Author.Tests.{ltb-true, ltb-false, eq-eqb, ne_eqb, lt-ltb, le-ltb}
use lib.Dec.{eqb, ltb}
use Rattle.layout.specs.declared.Sizes.{Sizes}
use Rattle.geometry.specs.Geometry.{leaf_node, path_node}
use Rattle.leaf_map.specs.LeafIds.{treeling_of, slot_of, position_of_leaf}
use Rattle.layout.specs.Places.{get, leaf, first, next, owner, rank}
use Rattle.geometry.proofs.FirstLaws.{first_cong}
use Rattle.geometry.proofs.GeometryLaws.{Level, node_within}
use Rattle.leaf_map.proofs.LeafIdLaws.{slot_below, slot_position}
use Rattle.sound.specs.Sentences.{is_mapped_by, of_rank, link_of}
use Rattle.sound.specs.Sound.{Sound}
use Rattle.layout.proofs.BoundedLaws.{count_cong, and_both, and_of, and_no}
use Rattle.world.specs.World.{FreeList, world, owned}
use Rattle.placing.specs.Placing.{place_entry}
use Rattle.world.proofs.WorldLaws.{of_rank_lem}
use Rattle.pages.specs.Answers.{Refused, Finished, answer_words, page_at}
use Rattle.histories.proofs.View.{View, view_of, world_of, rank_node, rank_slot, with', seen, seen_page, seen_number, seen_done}
use Rattle.sound.proofs.MappedLaws.{MappedBy, mapped_by, by_mapped}

-- ---- Views
-- Two free lists with equal fields are equal, and two views.
pub list_eq : {l m : FreeList} → l.head ≡ m.head → ((j : ℕ) → l.tag j ≡ m.tag j) → ((j : ℕ) → l.free j ≡ m.free j) → l ≡ m
list_eq h g a = λ i. record { head = h i; tag = λ j. g j i; free = λ j. a j i }

pub view_eq : (v w : View) → v.live-word ≡ w.live-word → v.treelings ≡ w.treelings → v.nfl ≡ w.nfl → v.pages ≡ w.pages → ((f : ℕ) → v.place f ≡ w.place f) → v ≡ w
view_eq v w l t n p f =
    λ i.
    record { live-word = l i; treelings = t i; nfl = n i; pages = p i; place = λ c. f c i }

-- A function with another value at k: there, and elsewhere.
pub with_here : (f : ℕ → ℕ) (k v j : ℕ) → j ≡ k → with' f k v j ≡ v
with_here f k v j e = ap (λ (b : Bool). cond b v (f j)) (eq-eqb j k e)

pub with_other : (f : ℕ → ℕ) (k v j : ℕ) → (j ≡ k → ⊥) → with' f k v j ≡ f j
with_other f k v j e = ap (λ (b : Bool). cond b v (f j)) (ne_eqb j k e)

-- Frame f is unmapped or mapped by domain d.
abbrev pub Mine : Sizes → List ℕ → ℕ → ℕ → Type 0
Mine z s d f = (get z s (leaf f) ≡ 0) ⊎ MappedBy z s d f

-- ---- What is seen
-- A page, by map and path: its slot with the rank in the place of the TreeLing.
pub seen_page_lem : (z : Sizes) (r : List ℕ) (c id pages : ℕ) → (eqb c 3 || eqb c 5) ≡ true → seen c (answer_words (page_at z r id pages)) ≡ seen_page (rank_slot z r id) pages
unfolding seen seen_page answer_words page_at
seen_page_lem z r c id pages call =
    let y = rank_slot z r id in
    let m = slot_of id in
    let node : (l : ℕ) → Level l → path_node l (treeling_of id) m % 8 ^ (l - 1) ≡ leaf_node m / 8 ^ (4 - l) =
    λ l h. node_within l h (treeling_of id) m (slot_below id) in
    let small = slot_below id in
    let ranked : get z r (rank (treeling_of id)) ≡ y / 4096 = omega arith in
    let two : path_node 2 (treeling_of id) m % 8 ≡ y % 4096 / 8 / 64 = omega (arith, node 2 (record { low = omega arith; high = omega arith })) in
    let three : path_node 3 (treeling_of id) m % 64 ≡ y % 4096 / 8 / 8 = omega (arith, node 3 (record { low = omega arith; high = omega arith })) in
    let four : path_node 4 (treeling_of id) m % 512 ≡ y % 4096 / 8 = omega (arith, node 4 (record { low = omega arith; high = omega arith })) in
    let position : position_of_leaf id ≡ y % 8 = omega (arith, slot_position id) in
    rw call (λ i. 0 ∷ ranked i ∷ 0 ∷ two i ∷ three i ∷ four i ∷ position i ∷ pages ∷ [])

-- A refusal and a call without a page are seen as they are.
pub seen_refused : (c n : ℕ) → (n ≡ 0 → ⊥) → seen c (answer_words (Refused n)) ≡ seen_number n
unfolding seen answer_words
seen_refused c n some = rw (and_no (eqb c 3 || eqb c 5) (eqb n 0) (ne_eqb n 0 some)) refl

pub seen_finished : (c p : ℕ) → (eqb c 3 || eqb c 5) ≡ false → seen c (answer_words (Finished p)) ≡ seen_done p
unfolding seen answer_words
seen_finished c p other = rw other refl

-- ---- The TreeLings of a domain
-- Words r have the TreeLings of domain d as words s do: the same ones in the same order.
pub record SameChain (z : Sizes) (s r : List ℕ) (d : ℕ) : Type 0 where
  pub same_first : get z r (first d) ≡ get z s (first d)
  pub same_owner : (t : ℕ) → t < z.treelings → eqb (get z r (owner t)) (suc d) ≡ eqb (get z s (owner t)) (suc d)
  pub same_next : (t : ℕ) → t < z.treelings → get z s (owner t) ≡ suc d → get z r (next t) ≡ get z s (next t)

module _ (z : Sizes) (s r : List ℕ) (d : ℕ) (c : SameChain z s r d) where
  -- It owns as many,
  pub owned_same : owned z r d ≡ owned z s d
  unfolding owned
  owned_same = count_cong z.treelings (λ t. eqb (get z r (owner t)) (suc d)) (λ t. eqb (get z s (owner t)) (suc d)) c.same_owner

  -- and each rank's is the same one.
  pub of_rank_same : Sound z s → d < z.domains → (q : ℕ) → q < owned z s d → of_rank z r d q ≡ of_rank z s d q
  unfolding link_of of_rank
  of_rank_same h l zero below = ap (λ (x : ℕ). x - 1) c.same_first
  of_rank_same h l (suc q) below =
      let a = of_rank_lem z s h d l q (omega arith) in
      ap (λ (t : ℕ). get z r (next t) - 1) (of_rank_same h l q (omega arith))
      ∙ ap (λ (x : ℕ). x - 1) (c.same_next (of_rank z s d q) a.below a.owner_is)

-- ---- The fields of a view
-- A number is below another or not.
pub by_end : {P : Type 0} (j n : ℕ) → (j < n → P) → (n ≤ j → P) → P
by_end {P} j n below past = go (ltb j n) refl
  where
    go : (b : Bool) → ltb j n ≡ b → P
    go true e = below (ltb-true j n e)
    go false e = past (ltb-false j n e)

-- A value where a test holds, else 0: two tests that agree.
pub when_same : (b c : Bool) (x y : ℕ) → b ≡ c → (c ≡ true → x ≡ y) → cond b x 0 ≡ cond c y 0
when_same b true x y e same = ap (λ (t : Bool). cond t x 0) e ∙ same refl
when_same b false x y e same = ap (λ (t : Bool). cond t x 0) e

module _ (z : Sizes) (s : List ℕ) (d : ℕ) where
  -- An entry below the end, and one past it.
  pub tag_at : (j : ℕ) → j < 512 * owned z s d → (view_of z s d).nfl.tag j ≡ rank_node z s ((world z s d).nfl.tag j)
  unfolding view_of
  tag_at j l = ap (λ (b : Bool). cond b (rank_node z s ((world z s d).nfl.tag j)) 0) (lt-ltb j (512 * owned z s d) l)

  pub tag_past : (j : ℕ) → 512 * owned z s d ≤ j → (view_of z s d).nfl.tag j ≡ 0
  unfolding view_of
  tag_past j l = ap (λ (b : Bool). cond b (rank_node z s ((world z s d).nfl.tag j)) 0) (le-ltb j (512 * owned z s d) l)

  pub free_at_lem : (j : ℕ) → j < 512 * owned z s d → (view_of z s d).nfl.free j ≡ (world z s d).nfl.free j
  unfolding view_of
  free_at_lem j l = ap (λ (b : Bool). cond b ((world z s d).nfl.free j) 0) (lt-ltb j (512 * owned z s d) l)

  pub free_past : (j : ℕ) → 512 * owned z s d ≤ j → (view_of z s d).nfl.free j ≡ 0
  unfolding view_of
  free_past j l = ap (λ (b : Bool). cond b ((world z s d).nfl.free j) 0) (le-ltb j (512 * owned z s d) l)

  -- A frame that the domain has mapped, and one that it has not.
  pub place_mapped : (f : ℕ) → f < z.frames → MappedBy z s d f → (view_of z s d).place f ≡ suc (rank_slot z s (get z s (leaf f)))
  unfolding view_of
  place_mapped f l m =
      ap (λ (b : Bool). cond b (suc (rank_slot z s (get z s (leaf f)))) 0) (and_of (lt-ltb f z.frames l) (by_mapped z s d f m))

  pub place_none : (f : ℕ) → is_mapped_by z s d f ≡ false → (view_of z s d).place f ≡ 0
  unfolding view_of
  place_none f e =
      ap (λ (b : Bool). cond b (suc (rank_slot z s (get z s (leaf f)))) 0) (and_no (ltb f z.frames) (is_mapped_by z s d f) e)

  pub place-unmapped : (f : ℕ) → get z s (leaf f) ≡ 0 → (view_of z s d).place f ≡ 0
  place-unmapped f e =
      place_none f (ap (λ (x : ℕ). ltb 0 x && eqb (get z s (owner (treeling_of x))) (suc d)) e)

  pub place_past : (f : ℕ) → z.frames ≤ f → (view_of z s d).place f ≡ 0
  unfolding view_of
  place_past f past = ap (λ (b : Bool). cond (b && is_mapped_by z s d f) (suc (rank_slot z s (get z s (leaf f)))) 0) (le-ltb f z.frames past)

  -- Placing finds the same entry through the view.
  pub place_entry_lem : place_entry (world_of (view_of z s d)) ≡ place_entry (world z s d)
  unfolding view_of
  place_entry_lem =
      let head = (world z s d).nfl.head in
      first_cong (λ j. ltb 0 ((view_of z s d).nfl.free j)) (λ j. ltb 0 ((world z s d).nfl.free j)) (8 * head) (512 * owned z s d - 8 * head)
      (λ j l k. ap (ltb 0) (free_at_lem j (omega arith)))

-- The frames of two words in a view: mapped in both or in neither, and then in the same slot by rank.
pub place_same : (z : Sizes) (s r : List ℕ) (d f : ℕ) → (f < z.frames → is_mapped_by z r d f ≡ is_mapped_by z s d f) → (f < z.frames → MappedBy z s d f → rank_slot z r (get z r (leaf f)) ≡ rank_slot z s (get z s (leaf f))) → (view_of z r d).place f ≡ (view_of z s d).place f
unfolding view_of
place_same z s r d f mapped slot =
    by_end f z.frames
    (λ l.
    when_same (ltb f z.frames && is_mapped_by z r d f) (ltb f z.frames && is_mapped_by z s d f) _ _ (ap (λ (b : Bool). ltb f z.frames && b) (mapped l))
    (λ both. ap suc (slot l (mapped_by z s d f (and_both (ltb f z.frames) (is_mapped_by z s d f) both).1))))
    (λ past. rw (le-ltb f z.frames past) refl)
