-- What a release does, as the code has it. Readers may pass over this.
use Rattle.std.specs.Prelude.{ℕ, ◌/◌, ◌%◌, List}
use Rattle.layout.specs.declared.Sizes.{Sizes}
use Rattle.sound.specs.Sentences.{of_rank}
use Rattle.placing.specs.Placing.{spot_at}
use Rattle.releasing.specs.Releasing.{Step, mark, regather}
use Rattle.releasing.specs.declared.Plan.{Plan}
use Rattle.releasing.specs.declared.Plan.TheVariants.{Mark, Regather}

-- The step as the code has it: the entry by TreeLing and number.
unfoldable pub plan_of : Sizes → List ℕ → ℕ → Step → Plan
plan_of z s d (mark j a) = Mark (spot_at (of_rank z s d (j / 512)) (j % 512)) a
plan_of z s d regather = Regather
