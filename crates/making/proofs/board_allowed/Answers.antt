-- `making::board_allowed` meets its contract.
-- Assumes nothing.
use mathlib.Core.Path.{sym, ◌∙◌}
use Rattle.layout.proofs.BoundedLaws.{and_of}
use Rattle.making.proofs.MakingLaws.{board_facts}
use Rattle.making.proofs.board_allowed.Goals as goal

pub returns-then-allowed-clause-facts : goal.returns-then-allowed-clause-facts
returns-then-allowed-clause-facts c t =
    let a = c.args in
    board_facts a.sizes a.holes.now (and_of (sym c.allowed.ensures ∙ c.if-allowed.true) (sym c.holes_allowed.ensures ∙ t))
