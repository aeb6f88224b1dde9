-- `geometry::path_node` meets its contract.
-- Assumes nothing.
use Prim.Native.Nat.{ℕ, ◌+◌, ◌-◌, ◌*◌, ◌/◌}
use mathlib.Core.Path.{ap, ◌∙◌}
use native.Mathlib.Omega.{arith}
use Rattle.geometry.proofs.GeometryLaws.{Level, eights, from_leaf}
use Rattle.geometry.proofs.path_node.Goals as goal

pub returns : goal.returns
returns c =
    let a = c.args in
    let high : Level a.level = record { low = omega arith; high = omega arith } in
    ap (λ (k : ℕ). (512 * a.treeling + a.slot / 8) / k) (eights (4 - a.level))
    ∙ from_leaf a.level high a.treeling a.slot
