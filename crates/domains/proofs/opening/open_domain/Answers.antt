-- `domains::opening::open_domain` meets its contract.
-- Assumes nothing.
use Rattle.domains.proofs.OpenedSound.{opened_sound}
use Rattle.domains.proofs.opening.open_domain.Goals as goal

pub returns-clause-sound_2 : goal.returns-clause-sound_2
returns-clause-sound_2 c =
    rw c.domain-at.ensures (opened_sound c.args.sizes c.args.state.now c.args.d c.requires.d_lt_domains.0 c.requires.sound c.requires.d_lt_domains.1)
