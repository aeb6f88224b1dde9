-- Document 01, "Taking: from the pool hand upward and around, the first unowned TreeLing; the hand becomes the number after it, modulo T."
-- Request M-104: "Taking now first seeks, from the hand around, an unowned TreeLing last held by the same domain, then any."
use Rattle.std.specs.Prelude.{ℕ, zero, suc, ◌+◌, ◌-◌, ◌*◌, ◌%◌, List, Bool, cond, ◌&&◌, eqb, ltb}
use Rattle.layout.specs.declared.Sizes.{Sizes}
use Rattle.geometry.specs.Tables.{first_from}
use Rattle.geometry.specs.Entries.{entry_word}
use Rattle.layout.specs.Places.{Place, entry, get, put, hand, first, last, owner, previous, next, rank, former}
use Rattle.world.specs.World.{owned}

module _ (z : Sizes) (s : List ℕ) where
  -- The TreeLing i steps from the hand, upward and around.
  abbrev pub pooled : ℕ → ℕ
  pooled i = (get z s hand + i) % z.treelings

  -- The steps to the first unowned one, T if there is none.
  abbrev pub pool_steps : ℕ
  pool_steps = first_from (λ i. eqb (get z s (owner (pooled i))) 0) 0 z.treelings

  abbrev pub has_unowned : Bool
  has_unowned = ltb pool_steps z.treelings

  abbrev pub unowned : ℕ
  unowned = pooled pool_steps

  -- TreeLing t is unowned, and was last held by domain d.
  abbrev pub was_held : ℕ → ℕ → Bool
  was_held d t = eqb (get z s (owner t)) 0 && eqb (get z s (former t)) (suc d)

  -- The steps to the first such, T if there is none.
  abbrev pub former_steps : ℕ → ℕ
  former_steps d = first_from (λ i. was_held d (pooled i)) 0 z.treelings

  -- The one that domain d takes: one last held by it, then any.
  abbrev pub to_take : ℕ → ℕ
  to_take d = cond (ltb (former_steps d) z.treelings) (pooled (former_steps d)) unowned

  -- "NFL entry k becomes tag 512t + k, availability 255": the first n entries.
  unfoldable pub fresh_entries : ℕ → ℕ → List ℕ
  fresh_entries t zero = s
  fresh_entries t (suc n) = put z (fresh_entries t n) (entry t n) (entry_word (512 * t + n) 255)

  -- Where the link to the next TreeLing of domain d goes: to its last TreeLing, or to its record.
  abbrev pub link_to : ℕ → Place
  link_to d = cond (eqb (get z s (last d)) 0) (first d) (next (get z s (last d) - 1))

-- "Rank is the number already owned." Domain d takes TreeLing t, and is its last owner from now on.
unfoldable pub taking : Sizes → List ℕ → ℕ → ℕ → List ℕ
taking z s d t =
    let s1 = put z s hand (suc t % z.treelings) in
    let s2 = put z s1 (owner t) (suc d) in
    let s3 = put z s2 (previous t) (get z s (last d)) in
    let s4 = put z s3 (rank t) (owned z s d) in
    let s5 = put z s4 (former t) (suc d) in
    let s6 = put z s5 (link_to z s d) (suc t) in
    let s7 = put z s6 (last d) (suc t) in
    fresh_entries z s7 t 512
