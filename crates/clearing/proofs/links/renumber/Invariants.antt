-- `clearing::links::renumber` meets its contract. The loop's invariant: the TreeLings of the first q links are renumbered.
-- Assumes nothing.
use mathlib.Core.Path.{◌≡◌}
use Rattle.clearing.specs.CodeKept.{last_link, linked_by}
use Rattle.clearing.proofs.links.renumber.Given as goal

abbrev pub invariant-loop-q : goal.invariant-loop-q
invariant-loop-q l = (l.before ≡ last_link l.kept l.q) × (l.state ≡ linked_by l.sizes l.kept l.initial.state l.q)
