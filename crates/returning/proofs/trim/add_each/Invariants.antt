-- `returning::trim::add_each` meets its contract. The loop's invariant: the entries so far are added.
-- Assumes nothing.
use Rattle.clearing.specs.CodeKept.{Added}
use Rattle.returning.proofs.trim.add_each.Given as goal

abbrev pub invariant-loop-word : goal.invariant-loop-word
invariant-loop-word l = Added l.fn.state l.fn.at l.word-index l.initial.sums l.sums
