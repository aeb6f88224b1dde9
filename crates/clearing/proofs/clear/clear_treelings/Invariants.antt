-- `clearing::clear::clear_treelings` meets its contract. The loop's invariant: those that go of the TreeLings so far are cleared, and the link names the next one.
-- Assumes nothing.
use mathlib.Core.Path.{◌≡◌}
use Rattle.sound.specs.Sentences.{link_of}
use Rattle.clearing.specs.CodeKept.{ClearedBy}
use Rattle.clearing.proofs.clear.clear_treelings.Given as goal

abbrev pub invariant-loop : goal.invariant-loop
invariant-loop g l =
    (l.link ≡ link_of l.sizes l.initial.state l.d l.counter) × ClearedBy l.sizes l.initial.state l.d (goal.F-post g l.goes) l.state l.counter
