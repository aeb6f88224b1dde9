-- `batch::serve::serve_all` meets its contract. The loop's invariant: the first k requests are served.
-- Assumes nothing.
use mathlib.Core.Path.{◌≡◌}
use Rattle.sound.specs.Sound.{Sound}
use Rattle.batch.specs.Batch.{state_after, answers_after}
use Rattle.batch.proofs.serve.serve_all.Given as goal

abbrev pub invariant-loop-k : goal.invariant-loop-k
invariant-loop-k l =
    record {
      state_is : l.state ≡ state_after l.sizes l.initial.state l.requests l.k;
      answers_are : l.answers ≡ answers_after l.sizes l.initial.state l.requests l.initial.answers l.k;
      sound : Sound l.sizes l.state;
    }
