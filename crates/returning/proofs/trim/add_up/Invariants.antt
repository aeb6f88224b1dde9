-- `returning::trim::add_up` meets its contract. The loop's invariant: the entries of the TreeLings so far are added, and the link names the next one.
-- Assumes nothing.
use Prim.Native.Nat.{◌*◌}
use mathlib.Core.Path.{◌≡◌}
use Rattle.sound.specs.Sentences.{link_of}
use Rattle.clearing.specs.CodeKept.{Summed}
use Rattle.returning.proofs.trim.add_up.Given as goal

abbrev pub invariant-loop : goal.invariant-loop
invariant-loop l = (l.link ≡ link_of l.sizes l.state l.d l.counter) × Summed l.sizes l.state l.d (512 * l.counter) l.sums
