-- `layout::words::gather_nonzero` meets its contract.
use Rattle.layout.specs.CodeWords.{Gathered}
use Rattle.layout.proofs.words.gather_nonzero.Given as goal

abbrev pub invariant-loop-x : goal.invariant-loop-x
invariant-loop-x l = Gathered l.state l.at l.x-index l.words l.m
