-- `gathering::clear_above` meets its contract. The loop's invariant: what stood above the entries of the TreeLings so far is gone, and the link names the next one.
-- Assumes nothing.
use Prim.Native.Nat.{◌*◌, ◌%◌}
use mathlib.Core.Path.{◌≡◌}
use Rattle.sound.specs.Sentences.{link_of}
use Rattle.gathering.specs.CodeGathering.{Filled, word_of, up_to, room}
use Rattle.gathering.proofs.clear_above.Given as goal

abbrev pub invariant-loop : goal.invariant-loop
invariant-loop l =
    (l.link ≡ link_of l.sizes l.initial.state l.d l.counter) × Filled l.sizes l.initial.state l.d l.state l.treelings (up_to l.sizes l.initial.state l.d (512 * l.counter) (λ p. word_of l.sizes l.initial.state l.d p % room))
