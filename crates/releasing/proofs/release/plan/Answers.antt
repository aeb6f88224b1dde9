-- `releasing::release::plan` meets its contract.
-- Assumes nothing.
use Prim.Native.Nat.{◌-◌, ◌<◌}
use mathlib.Core.Path.{sym, refl, ◌∙◌}
use native.Mathlib.Omega.{arith}
use lib.ListN.{get_or}
use Rattle.layout.specs.Places.{address, head_block}
use Rattle.sound.specs.Sentences.{block_in_order}
use Rattle.world.specs.World.{world}
use Rattle.releasing.proofs.ReleaseCodeLaws.{OwnBlock, HeadIs, head_read, some_taken, none_taken, taker_some, taken_below, plan_there, plan_here, plan_first, before_own, plan_before}
use Rattle.releasing.proofs.release.plan.Goals as goal

pub overflow_sub-t : goal.overflow_sub-t
overflow_sub-t c =
    let p = c.args in
    (head_read p.sizes p.state.now p.d p.position (c.requires.sound, c.requires.d_lt_domains) c.domain.result (address p.sizes (head_block p.d)) c.domain.ensures refl).some

-- head: the head words, both read. entered: the block before the head.
pub returns-in-Some : goal.returns-in-Some
returns-in-Some c =
    let p = c.args in
    let s = p.state.now in
    let head : HeadIs p.sizes s p.d (get_or s c.domain.result 0) (get_or s c.domain-2.result 0) =
    head_read p.sizes s p.d p.position (c.requires.sound, c.requires.d_lt_domains) c.domain.result c.domain-2.result c.domain.ensures c.domain-2.ensures in
    let here = some_taken c.read_block.result p.node c.in-Some.k (sym c.taker.ensures ∙ c.in-Some.is) in
    plan_here p.sizes s p.d (get_or s c.domain.result 0 - 1) (get_or s c.domain-2.result 0) head.own p.node p.position c.read_block.result c.read_block.ensures head.place c.in-Some.k here.0 here.1 c.marking.result c.marking.ensures

pub block_before-requires-clause-t_value : goal.block_before-requires-clause-t_value
block_before-requires-clause-t_value c =
    let p = c.args in
    let s = p.state.now in
    let head : HeadIs p.sizes s p.d (get_or s c.domain.result 0) (get_or s c.domain-2.result 0) =
    head_read p.sizes s p.d p.position (c.requires.sound, c.requires.d_lt_domains) c.domain.result c.domain-2.result c.domain.ensures c.domain-2.ensures in
    head.own.1.1

pub returns-in_default-block_before : goal.returns-in_default-block_before
returns-in_default-block_before c =
    let p = c.args in
    let s = p.state.now in
    let head : HeadIs p.sizes s p.d (get_or s c.domain.result 0) (get_or s c.domain-2.result 0) =
    head_read p.sizes s p.d p.position (c.requires.sound, c.requires.d_lt_domains) c.domain.result c.domain-2.result c.domain.ensures c.domain-2.ensures in
    let none = none_taken c.read_block.result p.node (sym c.taker.ensures ∙ c.in_default.is) in
    plan_first p.sizes s p.d (get_or s c.domain.result 0 - 1) (get_or s c.domain-2.result 0) head.own p.node p.position c.read_block.result c.read_block.ensures head.place _ refl none c.block_before.result c.block_before.ensures c.in_default-block_before.is

pub read_block-requires-2-clause-t_lt_treelings : goal.read_block-requires-2-clause-t_lt_treelings
read_block-requires-2-clause-t_lt_treelings c =
    let p = c.args in
    let s = p.state.now in
    let head : HeadIs p.sizes s p.d (get_or s c.domain.result 0) (get_or s c.domain-2.result 0) =
    head_read p.sizes s p.d p.position (c.requires.sound, c.requires.d_lt_domains) c.domain.result c.domain-2.result c.domain.ensures c.domain-2.ensures in
    let none = none_taken c.read_block.result p.node (sym c.taker.ensures ∙ c.in_default.is) in
    let entered : OwnBlock p.sizes s p.d c.in-Some-block_before.t c.in-Some-block_before.b × (block_in_order p.sizes s c.in-Some-block_before.t c.in-Some-block_before.b < (world p.sizes s p.d).nfl.head) =
    before_own p.sizes s p.d (get_or s c.domain.result 0 - 1) (get_or s c.domain-2.result 0) head.own p.node p.position c.read_block.result c.read_block.ensures head.place _ refl none c.block_before.result c.block_before.ensures c.in-Some-block_before.t c.in-Some-block_before.b c.in-Some-block_before.is in
    let o = entered.0 in
    (o.1.0.1, o.1.0.2)

-- The block entered by moving back has an entry for the node.
pub unwrap-k-requires : goal.unwrap-k-requires
unwrap-k-requires c =
    let p = c.args in
    let s = p.state.now in
    let head : HeadIs p.sizes s p.d (get_or s c.domain.result 0) (get_or s c.domain-2.result 0) =
    head_read p.sizes s p.d p.position (c.requires.sound, c.requires.d_lt_domains) c.domain.result c.domain-2.result c.domain.ensures c.domain-2.ensures in
    let none = none_taken c.read_block.result p.node (sym c.taker.ensures ∙ c.in_default.is) in
    let entered : OwnBlock p.sizes s p.d c.in-Some-block_before.t c.in-Some-block_before.b × (block_in_order p.sizes s c.in-Some-block_before.t c.in-Some-block_before.b < (world p.sizes s p.d).nfl.head) =
    before_own p.sizes s p.d (get_or s c.domain.result 0 - 1) (get_or s c.domain-2.result 0) head.own p.node p.position c.read_block.result c.read_block.ensures head.place _ refl none c.block_before.result c.block_before.ensures c.in-Some-block_before.t c.in-Some-block_before.b c.in-Some-block_before.is in
    let o = entered.0 in
    taker_some c.read_block-2.result p.node c.taker-2.result c.taker-2.ensures (taken_below p.sizes s p.d c.in-Some-block_before.t c.in-Some-block_before.b o p.node p.position c.read_block-2.result c.read_block-2.ensures c.requires.d_lt_domains.3 entered.1 _ refl)

pub marking-requires-2-clause-t_lt_treelings : goal.marking-requires-2-clause-t_lt_treelings
marking-requires-2-clause-t_lt_treelings c =
    let p = c.args in
    let s = p.state.now in
    let head : HeadIs p.sizes s p.d (get_or s c.domain.result 0) (get_or s c.domain-2.result 0) =
    head_read p.sizes s p.d p.position (c.requires.sound, c.requires.d_lt_domains) c.domain.result c.domain-2.result c.domain.ensures c.domain-2.ensures in
    let none = none_taken c.read_block.result p.node (sym c.taker.ensures ∙ c.in_default.is) in
    let entered : OwnBlock p.sizes s p.d c.in-Some-block_before.t c.in-Some-block_before.b × (block_in_order p.sizes s c.in-Some-block_before.t c.in-Some-block_before.b < (world p.sizes s p.d).nfl.head) =
    before_own p.sizes s p.d (get_or s c.domain.result 0 - 1) (get_or s c.domain-2.result 0) head.own p.node p.position c.read_block.result c.read_block.ensures head.place _ refl none c.block_before.result c.block_before.ensures c.in-Some-block_before.t c.in-Some-block_before.b c.in-Some-block_before.is in
    let o = entered.0 in
    let here = some_taken c.read_block-2.result p.node c.unwrap-k.result (sym c.taker-2.ensures ∙ c.unwrap-k.ensures) in
    (o.1.0.1, omega (arith, here.1, o.1.0.2), c.requires.d_lt_domains.1)

pub returns : goal.returns
returns c =
    let p = c.args in
    let s = p.state.now in
    let head : HeadIs p.sizes s p.d (get_or s c.domain.result 0) (get_or s c.domain-2.result 0) =
    head_read p.sizes s p.d p.position (c.requires.sound, c.requires.d_lt_domains) c.domain.result c.domain-2.result c.domain.ensures c.domain-2.ensures in
    let none = none_taken c.read_block.result p.node (sym c.taker.ensures ∙ c.in_default.is) in
    let entered : OwnBlock p.sizes s p.d c.in-Some-block_before.t c.in-Some-block_before.b × (block_in_order p.sizes s c.in-Some-block_before.t c.in-Some-block_before.b < (world p.sizes s p.d).nfl.head) =
    before_own p.sizes s p.d (get_or s c.domain.result 0 - 1) (get_or s c.domain-2.result 0) head.own p.node p.position c.read_block.result c.read_block.ensures head.place _ refl none c.block_before.result c.block_before.ensures c.in-Some-block_before.t c.in-Some-block_before.b c.in-Some-block_before.is in
    let o = entered.0 in
    let here = some_taken c.read_block-2.result p.node c.unwrap-k.result (sym c.taker-2.ensures ∙ c.unwrap-k.ensures) in
    plan_before p.sizes s p.d (get_or s c.domain.result 0 - 1) (get_or s c.domain-2.result 0) head.own p.node p.position c.read_block.result c.read_block.ensures head.place _ refl none c.block_before.result c.block_before.ensures c.in-Some-block_before.t c.in-Some-block_before.b c.in-Some-block_before.is c.marking-2.result
    (plan_there p.sizes s p.d c.in-Some-block_before.t c.in-Some-block_before.b o p.node p.position c.read_block-2.result c.read_block-2.ensures c.requires.d_lt_domains.3 entered.1 c.unwrap-k.result here.0 c.marking-2.result c.marking-2.ensures)
