-- `geometry::tables::LowestTable::lowest` meets its contract.
use Prim.Native.Nat.{ℕ}
use mathlib.Core.Path.{ap, ◌∙◌}
use mathlib.Core.List.{List}
use lib.ListN.{get_or}
use Rattle.geometry.proofs.TableLaws.{lowest_at}
use Rattle.geometry.proofs.tables.LowestTable.lowest.Goals as goal

pub returns : goal.returns
returns c =
    c.from.ensures
    ∙ ap (λ (l : List ℕ). get_or l c.args.availability 0) c.args.self.now.tabulated
    ∙ lowest_at c.args.availability c.requires
