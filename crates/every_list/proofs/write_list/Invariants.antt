-- `every_list::write_list` meets its contract. The loop's invariant: the requests from number k on are written.
-- Assumes nothing.
use mathlib.Core.Path.{◌≡◌}
use mathlib.Core.List.{flatten}
use Prim.Native.Nat.{◌-◌, ◌*◌, ◌/◌, ◌^◌}
use lib.Seq.{sets}
use Rattle.every_list.specs.CodeLists.{ranked}
use Rattle.every_list.proofs.write_list.Given as goal

abbrev pub invariant-loop-k : goal.invariant-loop-k
invariant-loop-k l =
    (l.left ≡ l.rank / 16 ^ (l.requests - l.k))
    × (l.words ≡ sets l.initial.words (4 * l.k) (flatten (ranked (l.requests - l.k) l.rank)))
