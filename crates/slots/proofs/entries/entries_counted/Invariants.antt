-- `slots::entries::entries_counted` meets its contract.
-- Assumes nothing.
use Prim.Native.Nat.{◌*◌}
use mathlib.Core.Path.{◌≡◌}
use mathlib.Core.Bool.{true}
use Rattle.layout.specs.Bounded.{all}
use Rattle.slots.specs.CodeMarks.{Marks, Counted, treeling_entries}
use Rattle.slots.proofs.entries.entries_counted.Given as goal

abbrev pub invariant-loop-t : goal.invariant-loop-t
invariant-loop-t l =
    (all l.t (treeling_entries l.sizes l.state) ≡ true) × Marks l.sizes l.state (512 * l.t) 0 l.marks × Counted l.sizes l.state l.t l.pages
