-- `domains::filling::fill_of` meets its contract.
-- Assumes nothing.
use native.Mathlib.Omega.{arith}
use Rattle.world.proofs.WorldLaws.{owned_most}
use Rattle.pages.proofs.SlotsInUse.{pages_read}
use Rattle.domains.proofs.FillLaws.{fill_without, fill_with}
use Rattle.domains.proofs.filling.fill_of.Goals as goal

pub overflow_mul-slots : goal.overflow_mul-slots
overflow_mul-slots c =
    omega (arith, c.number_owned-treelings.ensures, owned_most c.args.sizes c.args.state.now c.requires.sound c.args.d c.requires.d_lt_domains, c.requires.sound.laid_out.laid.sizes.max_treelings)

pub returns-then-slots-eq0 : goal.returns-then-slots-eq0
returns-then-slots-eq0 c =
    let a = c.args in
    fill_without a.sizes a.state.now a.d c.number_owned-treelings.result c.number_owned-treelings.ensures (omega (arith, c.if-slots-eq0.true))

pub overflow_mul-thousands : goal.overflow_mul-thousands
overflow_mul-thousands c =
    let few = pages_read c.args.sizes c.args.state.now c.requires.sound c.args.d c.requires.d_lt_domains c.domain.result c.number_owned-treelings.result c.domain.ensures c.number_owned-treelings.ensures in
    omega (arith, few.0, few.1)

pub returns : goal.returns
returns c =
    let a = c.args in
    fill_with a.sizes a.state.now a.d c.number_owned-treelings.result c.number_owned-treelings.ensures c.domain.result c.domain.ensures (λ none. c.if-slots-eq0.false (omega arith))
    _ _ _ (omega arith) (omega arith) (omega arith)
