-- `taking::take` meets its contract.
-- Assumes nothing.
use Prim.Native.Nat.{ℕ, ◌%◌, ◌+◌}
use mathlib.Core.Path.{ap, ◌∙◌}
use native.Mathlib.Numerals.{add-one}
use Rattle.taking.proofs.TakeCodeLaws.{take_writes}
use Rattle.taking.proofs.take.Goals as goal

pub returns : goal.returns
returns c =
    c.write_fresh.ensures
    ∙ take_writes c.args.sizes c.args.state.now c.args.d c.args.t
    c.treeling-at.result c.domain-end.result c.link_to-link.result c.number_owned-rank.result ((c.args.t + 1) % c.args.sizes.treelings)
    c.treeling-at.ensures c.domain-end.ensures c.link_to-link.ensures c.number_owned-rank.ensures (ap (λ (k : ℕ). k % c.args.sizes.treelings) (add-one c.args.t))
