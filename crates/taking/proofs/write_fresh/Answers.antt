-- `taking::write_fresh` meets its contract.
use Rattle.taking.proofs.TakeCodeLaws.{fresh_none, fresh_next}
use Rattle.taking.proofs.write_fresh.Goals as goal

pub loop-k-init : goal.loop-k-init
loop-k-init c = fresh_none c.args.sizes c.args.state.now c.args.t

pub loop-k-preserved : goal.loop-k-preserved
loop-k-preserved c =
    let a = c.args in
    fresh_next a.sizes a.state.now a.t c.loop-k.state c.entry-at.result c.loop-k.k c.entry_word.result c.entry-at.ensures c.entry_word.ensures c.loop-k.invariant
