-- `leaf_map::mapped_ids` meets its contract. The loop's invariant: the words so far are gathered.
-- Assumes nothing.
use Rattle.layout.specs.CodeWords.{Gathered}
use Rattle.leaf_map.specs.GatheredIds.{words_of}
use Rattle.leaf_map.proofs.mapped_ids.Given as goal

abbrev pub invariant-loop-word : goal.invariant-loop-word
invariant-loop-word l = Gathered l.state l.at l.word-index (words_of l.ids) l.m
