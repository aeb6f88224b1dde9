-- `runs::map_runs::map_frames` meets its contract. The loop's invariant: the first i frames are mapped.
-- Assumes nothing.
use Rattle.runs.proofs.RunCodeLaws.{MapsOn}
use Rattle.runs.proofs.map_runs.map_frames.Given as goal

abbrev pub invariant-loop-i : goal.invariant-loop-i
invariant-loop-i l = MapsOn l.sizes l.initial.state l.d l.frame.0 l.i l.state
