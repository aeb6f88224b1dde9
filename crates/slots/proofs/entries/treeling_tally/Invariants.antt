-- `slots::entries::treeling_tally` meets its contract.
-- Assumes nothing.
use Prim.Native.Nat.{◌+◌, ◌*◌}
use mathlib.Core.Path.{◌≡◌}
use mathlib.Core.Bool.{true}
use Rattle.layout.specs.Bounded.{all}
use Rattle.slots.specs.CodeMarks.{Marks, entry_fits}
use Rattle.sound.specs.CodeCounting.{free_in}
use Rattle.slots.proofs.entries.treeling_tally.Given as goal

abbrev pub invariant-loop-k : goal.invariant-loop-k
invariant-loop-k l =
    (all l.k (entry_fits l.sizes l.state l.t) ≡ true) × Marks l.sizes l.state (512 * l.t + l.k) 0 l.marks × (l.free ≡ free_in l.sizes l.state l.t l.k)
