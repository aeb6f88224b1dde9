-- `geometry::tables::LowestTable::new` meets its contract.
use mathlib.Core.Path.{refl}
use Rattle.geometry.specs.Tables.{lowest_table, tabulate, first_from}
use Rattle.geometry.proofs.tables.LowestTable.new.Goals as goal

pub of-requires : goal.of-requires
unfolding lowest_table tabulate first_from
of-requires c = refl
