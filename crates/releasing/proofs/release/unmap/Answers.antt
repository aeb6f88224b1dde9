-- `releasing::release::unmap` meets its contract.
-- Assumes nothing.
use Rattle.releasing.proofs.ReleaseCodeLaws.{unmapped-words}
use Rattle.releasing.proofs.release.unmap.Goals as goal

pub returns : goal.returns
returns c =
    let a = c.args in
    unmapped-words a.sizes a.state.now c.write_leaf.new.state a.d a.frame.0 c.domain-pages.result a.left (rw c.none.ensures at c.write_leaf.ensures) c.domain-pages.ensures
