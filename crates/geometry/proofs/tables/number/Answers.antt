-- `geometry::tables::number` meets its contract.
-- Assumes nothing.
use mathlib.Core.Path.{◌∙◌}
use Rattle.geometry.proofs.CountedLaws.{counted}
use Rattle.geometry.proofs.tables.number.Goals as goal

pub returns : goal.returns
returns c = c.from.ensures ∙ counted c.args.availability c.requires
