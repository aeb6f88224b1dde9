-- No list is refused as a batch: what is printed are numbers of answers, and not a buffer left as it was.
-- Assumes nothing.
use Prim.Native.Nat.{ℕ, ◌*◌, ◌%◌, ◌≤◌}
use mathlib.Core.Path.{◌≡◌, refl}
use mathlib.Core.List.{List, [], flatten}
use native.Mathlib.Omega.{arith}
use lib.ListN.{length, replicate, length-replicate}
use borrow.Author.Tests.{eq-eqb, le-leb}
use Rattle.layout.specs.Places.{Allowed, allowed}
use Rattle.layout.proofs.PlaceLaws.{allowed_facts}
use Rattle.sound.proofs.NewStateSound.{none_allowed, new_number}
use Rattle.batch.specs.Batch.{serving}
use Rattle.every_list.specs.Standing.{Stands}
use Rattle.every_list.specs.SmallRequests.{small_sizes}
use Rattle.every_list.specs.SmallLists.{small_lists}
use Rattle.every_list.proofs.EveryList.{none_else}
use Rattle.every_list.proofs.ListingLaws.{words-length}
use Rattle.small_lists.specs.Numbers.{served_new}

small_allowed : Allowed small_sizes
unfolding allowed
small_allowed = allowed_facts small_sizes refl

pub list_served : (l : List (List ℕ)) → Stands small_lists l → (served_new (flatten l)).number ≡ 0
unfolding serving
list_served l s =
    let q = flatten l in
    let made = none_else l s in
    let long : length q ≡ 4 * length l = words-length l made.1 in
    let whole : length q % 4 ≡ 0 = omega (arith, long) in
    let few : length q ≤ 262144 = omega (arith, long, made.0) in
    rw (new_number small_sizes [] small_allowed (none_allowed small_sizes), eq-eqb (length q % 4) 0 whole, le-leb (length q) 262144 few, eq-eqb (length (replicate {A = ℕ} (2 * length q) 0)) (2 * length q) (length-replicate (2 * length q) 0)) refl
