-- Request M-100: a trim "unowns each of the domain's TreeLings without a mapped page, with zeroed record and NFL words, renumbers ranks in order, and regathers the rest". The hand stays.
use Rattle.std.specs.Prelude.{ℕ, zero, suc, List, Bool, cond, not, ◌&&◌, eqb, ltb, get_or}
use Rattle.layout.specs.declared.Sizes.{Sizes}
use Rattle.leaf_map.specs.LeafIds.{treeling_of}
use Rattle.layout.specs.Places.{get, put, leaf, first, last, head_treeling, head_block, previous, next, rank}
use Rattle.layout.specs.Bounded.{count}
use Rattle.sound.specs.Sentences.{of_rank}
use Rattle.world.specs.World.{world, owned}
use Rattle.gathering.specs.Regathering.{whole_of, select, regathered}
use Rattle.clearing.specs.Clearing.{treelings_cleared}

module _ (z : Sizes) (s : List ℕ) where
  -- The leaf ID of frame f names a slot of TreeLing t.
  abbrev pub lies_in : ℕ → ℕ → Bool
  lies_in t f = ltb 0 (get z s (leaf f)) && eqb (treeling_of (get z s (leaf f))) t

  -- TreeLing t is "without a mapped page".
  unfoldable pub is_empty : ℕ → Bool
  is_empty t = eqb (count z.frames (lies_in t)) 0

  module _ (d : ℕ) where
    -- Domain d's TreeLing of rank r goes, or stays; and how many do.
    abbrev pub goes : ℕ → Bool
    goes r = is_empty (of_rank z s d r)

    abbrev pub stays : ℕ → Bool
    stays r = not (goes r)

    unfoldable pub number_returned : ℕ
    number_returned = count (owned z s d) goes

    unfoldable pub number_kept : ℕ
    number_kept = count (owned z s d) stays

    -- "renumbers ranks in order": the TreeLing that stays and gets rank q,
    unfoldable pub kept_of : ℕ → ℕ
    kept_of q = of_rank z s d (get_or (select stays (owned z s d)) q 0)

    -- the link to it, 0 past the last, and the link before it, 0 before the first.
    unfoldable pub kept_link : ℕ → ℕ
    kept_link q = cond (ltb q number_kept) (suc (kept_of q)) 0

    unfoldable pub kept_before : ℕ → ℕ
    kept_before zero = 0
    kept_before (suc q) = kept_link q

    -- The first n that stay, in words r: previous, next and rank.
    unfoldable pub renumbered : List ℕ → ℕ → List ℕ
    renumbered r zero = r
    renumbered r (suc q) =
        let r1 = put z (renumbered r q) (previous (kept_of q)) (kept_before q) in
        let r2 = put z r1 (next (kept_of q)) (kept_link (suc q)) in
        put z r2 (rank (kept_of q)) q

    -- The domain's record: first and last, and no head. All are 0 where none stays: "A domain without TreeLings has zeros after live."
    abbrev pub chained : List ℕ → List ℕ
    chained r =
        let r1 = put z r (first d) (kept_link 0) in
        let r2 = put z r1 (last d) (kept_before number_kept) in
        put z (put z r2 (head_treeling d) 0) (head_block d) 0

    -- The TreeLings that go are returned and the others renumbered, in words r.
    unfoldable pub returned_in : List ℕ → List ℕ
    returned_in r = chained (renumbered (treelings_cleared z s d goes r (owned z s d)) number_kept)

    -- "and regathers the rest": with the whole availabilities of before, since entries of leaf nodes that stay may stand in TreeLings that go.
    unfoldable pub trimmed : List ℕ
    trimmed =
        cond (eqb number_kept 0) (returned_in s) (regathered z (returned_in s) d number_kept (whole_of (world z s d)))

    -- "If none is empty nothing changes."
    unfoldable pub trimming : List ℕ
    trimming = cond (eqb number_returned 0) s trimmed
