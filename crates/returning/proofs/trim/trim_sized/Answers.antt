-- `returning::trim::trim_sized` meets its contract.
use mathlib.Core.Path.{subst, sym}
use native.Mathlib.Omega.{arith}
use Rattle.gathering.specs.CodeGathering.{Chain}
use Rattle.gathering.proofs.GatherLaws.{own_chain}
use Rattle.returning.proofs.SumLaws.{summed_none}
use Rattle.returning.proofs.ListLaws.{listed_none}
use Rattle.returning.proofs.TrimCodeLaws.{none_returned, some_returned, number_returned_lem, trimmed_is}
use Rattle.returning.proofs.trim.trim_sized.Goals as goal

pub add_up-requires : goal.add_up-requires
add_up-requires g c =
    record { sound = c.requires.sound; d_lt_domains = (c.requires.d_lt_domains.0, c.number_owned-treelings.ensures, c.requires.d_lt_domains.1); summed = summed_none c.args.sizes c.args.state.now c.args.d g.row.SUMS c.requires.room.0.0 }

pub list_kept-left-requires-clause-chain : goal.list_kept-left-requires-clause-chain
list_kept-left-requires-clause-chain g c =
    subst (Chain c.args.sizes c.args.state.now c.args.d) (sym c.number_owned-treelings.ensures) (own_chain c.args.sizes c.args.state.now c.requires.sound c.args.d c.requires.d_lt_domains.0)

pub list_kept-left-requires-clause-listed : goal.list_kept-left-requires-clause-listed
list_kept-left-requires-clause-listed g c =
    listed_none c.args.sizes c.args.state.now c.args.d c.add_up.new.sums g.row.KEPT c.requires.room.1.0

pub returns-then-left-treelings-clause-value : goal.returns-then-left-treelings-clause-value
returns-then-left-treelings-clause-value g c =
    none_returned c.requires.sound c.requires.d_lt_domains.0 c.requires.d_lt_domains.1 c.number_owned-treelings.ensures c.add_up.ensures c.list_kept-left.ensures c.if-left-treelings.true

pub give_back-requires-clause-d_lt_domains : goal.give_back-requires-clause-d_lt_domains
give_back-requires-clause-d_lt_domains g c =
    let less = some_returned c.requires.sound c.requires.d_lt_domains.0 c.requires.d_lt_domains.1 c.number_owned-treelings.ensures c.add_up.ensures c.list_kept-left.ensures c.if-left-treelings.false in
    (c.requires.d_lt_domains.0, c.number_owned-treelings.ensures, less, c.requires.d_lt_domains.1)

pub overflow_sub-result : goal.overflow_sub-result
overflow_sub-result g c =
    omega (arith, some_returned c.requires.sound c.requires.d_lt_domains.0 c.requires.d_lt_domains.1 c.number_owned-treelings.ensures c.add_up.ensures c.list_kept-left.ensures c.if-left-treelings.false)

pub returns : goal.returns
returns g c =
    let sound = c.requires.sound in
    let below = c.requires.d_lt_domains.0 in
    let ordinary = c.requires.d_lt_domains.1 in
    let all = c.number_owned-treelings.ensures in
    let left = trimmed_is sound below ordinary all c.add_up.ensures c.list_kept-left.ensures c.if-left-treelings.false c.give_back.ensures in
    record { value = (number_returned_lem sound below ordinary all c.add_up.ensures c.list_kept-left.ensures, left.0); sound_2 = left.1 }
