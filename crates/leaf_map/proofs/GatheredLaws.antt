-- Laws of leaf IDs that are gathered.
-- Assumes nothing.
use Prim.Native.Nat.{ℕ, ◌+◌, ◌<◌, ◌≤◌}
use mathlib.Core.Path.{◌≡◌, sym, subst}
use mathlib.Core.List.{List}
use mathlib.Core.Bool.{not}
use native.Mathlib.Omega.{arith}
use lib.Dec.{eqb}
use lib.ListN.{length, get_or, set, take}
use mir.Val.{bool_byte}
use Rattle.std.proofs.lemmas.List.{length-map, map-set, take-map, length-take-le}
use Rattle.layout.specs.CodeWords.{Gathered}
use Rattle.layout.proofs.GatherLaws.{one_gathered, taken_gathered}
use Rattle.leaf_map.specs.declared.LeafId.{LeafId}
use Rattle.leaf_map.specs.GatheredIds.{words_of}

module _ (s : List ℕ) (at n : ℕ) (ids : List LeafId) (m : ℕ) (h : Gathered s at n (words_of ids) m) where
  -- Of one word more.
  pub id_gathered : (id : LeafId) → id.0 ≡ get_or s (at + n) 0 → m < length ids → Gathered s at (n + 1) (words_of (set ids m id)) (m + bool_byte (not (eqb id.0 0)))
  id_gathered id word room =
      subst (λ (ws : List ℕ). Gathered s at (n + 1) ws (m + bool_byte (not (eqb id.0 0)))) (sym (map-set (λ (i : LeafId). i.0) ids m id))
      (one_gathered s at n (words_of ids) m id.0 word (omega (arith, length-map ids (λ (i : LeafId). i.0))) h)

  -- The leaf IDs alone.
  pub ids_gathered : m ≤ length ids → Gathered s at n (words_of (take m ids)) (length (take m ids))
  ids_gathered room =
      subst (λ (k : ℕ). Gathered s at n (words_of (take m ids)) k) (sym (length-take-le m ids room))
      (subst (λ (ws : List ℕ). Gathered s at n ws m) (take-map (λ (i : LeafId). i.0) m ids) (taken_gathered s at n (words_of ids) m h))
