-- `runs::unmap_runs::release_frames` meets its contract. The loop's invariant: the pages of the first i frames are released.
-- Assumes nothing.
use Rattle.runs.proofs.RunCodeLaws.{ReleasesOn}
use Rattle.runs.proofs.unmap_runs.release_frames.Given as goal

abbrev pub invariant-loop-i : goal.invariant-loop-i
invariant-loop-i l = ReleasesOn l.sizes l.initial.state l.d l.frame.0 l.i l.state
