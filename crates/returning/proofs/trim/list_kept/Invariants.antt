-- `returning::trim::list_kept` meets its contract. The loop's invariant: of the TreeLings so far, those that stay are listed, and the link names the next one.
-- Assumes nothing.
use mathlib.Core.Path.{◌≡◌}
use Rattle.sound.specs.Sentences.{link_of}
use Rattle.clearing.specs.CodeKept.{Listed}
use Rattle.returning.proofs.trim.list_kept.Given as goal

abbrev pub invariant-loop : goal.invariant-loop
invariant-loop l = (l.link ≡ link_of l.sizes l.state l.d l.counter) × Listed l.sizes l.state l.d l.sums l.counter l.n l.kept
