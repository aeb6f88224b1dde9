-- `gathering::lower` meets its contract. The loop's invariant: of the TreeLing's entries, those before this one are lowered.
-- Assumes nothing.
use mathlib.Core.Path.{◌≡◌}
use Rattle.gathering.specs.CodeGathering.{lowered}
use Rattle.gathering.proofs.lower.Given as goal

abbrev pub invariant-loop-word : goal.invariant-loop-word
invariant-loop-word l = l.word-items ≡ lowered l.initial.word-items 0 l.word-index
