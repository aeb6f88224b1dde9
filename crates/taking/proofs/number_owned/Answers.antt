-- `taking::number_owned` meets its contract.
-- Assumes nothing.
use native.Mathlib.Omega.{arith}
use Rattle.taking.proofs.TakeCodeLaws.{number_none, number_some}
use Rattle.taking.proofs.number_owned.Goals as goal

pub overflow_add-result : goal.overflow_add-result
overflow_add-result c =
    let w = number_some c.args.sizes c.args.state.now c.requires.sound c.args.d c.requires.d_lt_domains c.in-Some.last c.in-Some.ensures c.treeling.result c.treeling.ensures in
    omega arith

pub returns-in-Some : goal.returns-in-Some
returns-in-Some c =
    (number_some c.args.sizes c.args.state.now c.requires.sound c.args.d c.requires.d_lt_domains c.in-Some.last c.in-Some.ensures c.treeling.result c.treeling.ensures).0

pub returns-in-None : goal.returns-in-None
returns-in-None c = number_none c.args.sizes c.args.state.now c.requires.sound c.args.d c.requires.d_lt_domains c.in-None.ensures
