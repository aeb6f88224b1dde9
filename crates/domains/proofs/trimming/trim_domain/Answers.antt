-- `domains::trimming::trim_domain` meets its contract.
-- Assumes nothing.
use Rattle.domains.proofs.TrimLaws.{trim_is}
use Rattle.domains.proofs.trimming.trim_domain.Goals as goal

pub returns-clause-state_after : goal.returns-clause-state_after
returns-clause-state_after c =
    let a = c.args in
    trim_is a.sizes a.state.now c.trim-returned.new.state a.d c.trim-returned.result c.trim-returned.ensures.value
