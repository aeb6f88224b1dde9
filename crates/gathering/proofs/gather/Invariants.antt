-- `gathering::gather` meets its contract. The loop's invariant: the pass has come to the entry that the loop counts.
-- Assumes nothing.
use mathlib.Core.Path.{◌≡◌}
use Rattle.world.specs.World.{owned}
use Rattle.gathering.specs.CodeGathering.{Walking, gathering_word}
use Rattle.gathering.proofs.gather.Given as goal

abbrev pub invariant-loop : goal.invariant-loop
invariant-loop l =
    Walking l.sizes l.initial.state l.d (owned l.sizes l.initial.state l.d) (gathering_word l.sizes l.initial.state l.d) l.state l.walk × (l.walk.at ≡ l.counter)
