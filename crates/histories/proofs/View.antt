-- One domain's view of a state, by rank: what its own answers go by. No number of a TreeLing and nothing of another domain is in it.
-- Assumes nothing.
use Prim.Native.Nat.{ℕ, zero, suc, ◌+◌, ◌-◌, ◌*◌, ◌/◌, ◌%◌, ◌^◌}
use mathlib.Core.List.{List, [], ◌∷◌, ◌++◌}
use mathlib.Core.Bool.{cond, not, ◌&&◌, ◌||◌}
use lib.Dec.{eqb, ltb}
use lib.ListN.{get_or}
use Rattle.layout.specs.declared.Sizes.{Sizes}
use Rattle.geometry.specs.Tables.{lowest_free}
use Rattle.leaf_map.specs.LeafIds.{treeling_of, slot_of}
use Rattle.layout.specs.Places.{get, leaf, live, rank, pages_mapped}
use Rattle.layout.specs.Bounded.{count}
use Rattle.sound.specs.Sentences.{is_mapped_by}
use Rattle.world.specs.World.{FreeList, World, world, owned}
use Rattle.placing.specs.Placing.{place_entry}
use Rattle.gathering.specs.Regathering.{select, whole_with}
use Rattle.releasing.specs.Releasing.{Step, mark, regather, release_step}
use Rattle.pages.specs.Answers.{answer_words}
use Rattle.domains.specs.Filling.{fill_of}

-- Tags of its free list are leaf nodes by rank. The place of a frame is its slot by rank and 1, or 0.
pub record View : Type 0 where
  pub live-word : ℕ
  pub treelings : ℕ
  pub nfl : FreeList
  pub pages : ℕ
  pub place : ℕ → ℕ

-- A leaf node, and the slot of a leaf ID, with the rank of their TreeLing in the place of its number.
abbrev pub rank_node : Sizes → List ℕ → ℕ → ℕ
rank_node z s n = 512 * get z s (rank (n / 512)) + n % 512

abbrev pub rank_slot : Sizes → List ℕ → ℕ → ℕ
rank_slot z s x = 4096 * get z s (rank (treeling_of x)) + slot_of x

-- Domain d's free list by rank, and its view of the words s. Entries and frames past the end are 0.
abbrev pub list_of : Sizes → List ℕ → ℕ → FreeList
list_of z s d =
    record {
      head = (world z s d).nfl.head;
      tag = λ j. cond (ltb j (512 * owned z s d)) (rank_node z s ((world z s d).nfl.tag j)) 0;
      free = λ j. cond (ltb j (512 * owned z s d)) ((world z s d).nfl.free j) 0;
    }

unfoldable pub view_of : Sizes → List ℕ → ℕ → View
view_of z s d =
    record {
      live-word = get z s (live d);
      treelings = owned z s d;
      nfl = list_of z s d;
      pages = get z s (pages_mapped d);
      place = λ f. cond (ltb f z.frames && is_mapped_by z s d f) (suc (rank_slot z s (get z s (leaf f)))) 0;
    }

abbrev pub world_of : View → World
world_of v = record { treelings = v.treelings; nfl = v.nfl }

-- The same view with another live word; with another free list, other pages and places; with other TreeLings, their list and places.
abbrev pub with_live : View → ℕ → View
with_live v w =
    record { live-word = w; treelings = v.treelings; nfl = v.nfl; pages = v.pages; place = v.place }

abbrev pub with_pages : View → FreeList → ℕ → (ℕ → ℕ) → View
with_pages v l n f =
    record { live-word = v.live-word; treelings = v.treelings; nfl = l; pages = n; place = f }

abbrev pub with_treelings : View → ℕ → FreeList → (ℕ → ℕ) → View
with_treelings v m l f =
    record { live-word = v.live-word; treelings = m; nfl = l; pages = v.pages; place = f }

-- A function with another value at one place.
abbrev pub with' : (ℕ → ℕ) → ℕ → ℕ → ℕ → ℕ
with' f k v j = cond (eqb j k) v (f j)

-- What is seen of an answer: path words within the TreeLing, level 1 not at all.
unfoldable pub seen : ℕ → List ℕ → List ℕ
seen c a =
    cond ((eqb c 3 || eqb c 5) && eqb (get_or a 0 0) 0)
    (get_or a 0 0 ∷ get_or a 1 0 ∷ 0 ∷ get_or a 3 0 % 8 ∷ get_or a 4 0 % 64 ∷ get_or a 5 0 % 512 ∷ get_or a 6 0 ∷ get_or a 7 0 ∷ [])
    a

unfoldable pub seen_page : ℕ → ℕ → List ℕ
seen_page y pages =
    let n = y % 4096 / 8 in
    0 ∷ y / 4096 ∷ 0 ∷ n / 64 ∷ n / 8 ∷ n ∷ y % 8 ∷ pages ∷ []

abbrev pub seen_number : ℕ → List ℕ
seen_number n = n ∷ 0 ∷ 0 ∷ 0 ∷ 0 ∷ 0 ∷ 0 ∷ 0 ∷ []

abbrev pub seen_done : ℕ → List ℕ
seen_done p = 0 ∷ 0 ∷ 0 ∷ 0 ∷ 0 ∷ 0 ∷ 0 ∷ p ∷ []

-- A call on a view: what is seen of its answer, and the view after it.
pub record Look : Type 0 where
  pub sight : List ℕ
  pub view : View

abbrev pub look : List ℕ → View → Look
look a v = record { sight = a; view = v }

-- Entry j gives its lowest free position to frame f.
unfoldable pub given_view : View → ℕ → ℕ → Look
given_view v f j =
    let i = lowest_free (v.nfl.free j) in
    let y = 8 * v.nfl.tag j + i in
    look (seen_page y 1)
    (with_pages v
    (record { head = j / 8; tag = v.nfl.tag; free = with' v.nfl.free j (v.nfl.free j - 2 ^ i) })
    (suc v.pages)
    (with' v.place f (suc y)))

-- One TreeLing more, of the next rank, all free.
unfoldable pub taken_view : View → View
taken_view v =
    with_treelings v (suc v.treelings)
    (record {
      head = 64 * v.treelings;
      tag = λ j. cond (eqb (j / 512) v.treelings) j (v.nfl.tag j);
      free = λ j. cond (eqb (j / 512) v.treelings) 255 (v.nfl.free j);
    })
    v.place

-- 3 map, where there is a place.
unfoldable pub map_view : View → ℕ → Look
map_view v f =
    cond (eqb (v.place f) 0)
    (cond (ltb (place_entry (world_of v)) (512 * v.treelings))
    (given_view v f (place_entry (world_of v)))
    (given_view (taken_view v) f (512 * v.treelings)))
    (look (seen_number 12) v)

-- Releasing: frame f has no place, and the free list is l; the entries and the head after it.
abbrev pub unmapped_view : View → ℕ → FreeList → View
unmapped_view v f l = with_pages v l (v.pages - 1) (with' v.place f 0)

unfoldable pub marked_view : View → ℕ → ℕ → ℕ → ℕ → View
marked_view v f n j a =
    unmapped_view v f (record { head = j / 8; tag = with' v.nfl.tag j n; free = with' v.nfl.free j a })

-- Leaf nodes of m TreeLings with these whole availabilities, regathered: their order, and the head.
abbrev pub order_seen : ℕ → (ℕ → ℕ) → List ℕ
order_seen m whole = select (λ p. eqb (whole p) 0) (512 * m) ++ select (λ p. not (eqb (whole p) 0)) (512 * m)

abbrev pub head_seen : ℕ → (ℕ → ℕ) → ℕ
head_seen m whole =
    let spent = count (512 * m) (λ p. eqb (whole p) 0) in
    cond (ltb spent (512 * m)) (spent / 8) (64 * m - 1)

unfoldable pub gathered_view : View → ℕ → ℕ → ℕ → View
gathered_view v f n i =
    let m = 512 * v.treelings in
    let whole = whole_with (world_of v) n i in
    let order = order_seen v.treelings whole in
    unmapped_view v f
    (record {
      head = head_seen v.treelings whole;
      tag = λ j. cond (ltb j m) (get_or order j 0) 0;
      free = λ j. cond (ltb j m) (whole (get_or order j 0)) 0;
    })

unfoldable pub released_view : View → ℕ → ℕ → ℕ → Step → Look
released_view v f n i (mark j a) = look (seen_done 1) (marked_view v f n j a)
released_view v f n i regather = look (seen_done 1) (gathered_view v f n i)

-- 4 unmap; 5 path.
unfoldable pub unmap_view : View → ℕ → Look
unmap_view v f =
    let n = (v.place f - 1) / 8 in
    let i = (v.place f - 1) % 8 in
    cond (eqb (v.place f) 0) (look (seen_number 14) v) (released_view v f n i (release_step (world_of v) n i))

unfoldable pub path_view : View → ℕ → Look
path_view v f = cond (eqb (v.place f) 0) (look (seen_number 14) v) (look (seen_page (v.place f - 1) 0) v)

-- 1 open; 2 close.
unfoldable pub open_view : View → Look
open_view v = look (seen_done 0) (with_live v 1)

unfoldable pub empty_view : View
empty_view =
    record {
      live-word = 0;
      treelings = 0;
      nfl = record { head = 0; tag = λ _. 0; free = λ _. 0 };
      pages = 0;
      place = λ _. 0;
    }

unfoldable pub close_view : View → Look
close_view v = look (seen_done v.pages) empty_view

-- 11 fill: its words name no node, so they are seen as they are.
unfoldable pub fill_view : View → Look
fill_view v = look (answer_words (fill_of v.pages (4096 * v.treelings))) v

-- 6 and 7: the single calls in frame order, whole or not at all.
pub data RunView : Type 0 where
  going : View → RunView
  stopped : ℕ → RunView

unfoldable pub step_view : (View → ℕ → Look) → ℕ → RunView → RunView
step_view single f (going v) =
    let l = single v f in
    cond (eqb (get_or l.sight 0 0) 0) (going l.view) (stopped (get_or l.sight 0 0))
step_view single f (stopped n) = stopped n

unfoldable pub run_view : (View → ℕ → Look) → View → ℕ → ℕ → RunView
run_view single v f zero = going v
run_view single v f (suc n) = step_view single (f + n) (run_view single v f n)

unfoldable pub whole_view : View → ℕ → RunView → Look
whole_view v n (going w) = look (seen_done n) w
whole_view v n (stopped k) = look (seen_number k) v
