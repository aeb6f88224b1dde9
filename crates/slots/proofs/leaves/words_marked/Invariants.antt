-- `slots::leaves::words_marked` meets its contract.
-- Assumes nothing.
use Rattle.leaf_map.specs.GatheredIds.{words_of}
use Rattle.slots.specs.CodeMarks.{WordsMarked}
use Rattle.slots.proofs.leaves.words_marked.Given as goal

abbrev pub invariant-loop-id : goal.invariant-loop-id
invariant-loop-id l = WordsMarked l.sizes (words_of l.ids) l.id-index l.initial.marks l.marks
