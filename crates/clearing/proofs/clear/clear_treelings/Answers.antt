-- `clearing::clear::clear_treelings` meets its contract.
use native.Mathlib.Omega.{arith}
use Prim.Native.Nat.{◌-◌}
use mathlib.Core.Path.{◌≡◌}
use Rattle.gathering.proofs.WalkLaws.{links_begin, link_names, link_of_lem, link_below, link_next}
use Rattle.clearing.proofs.ClearCodeLaws.{cleared_none, cleared_laid, next-stays, cleared_more, cleared_pass}
use Rattle.clearing.proofs.clear.clear_treelings.Goals as goal
use Rattle.clearing.proofs.clear.clear_treelings.Goals.{then-goes, else-goes}

pub loop-init : goal.loop-init
loop-init g c = (links_begin c.requires.chain c.first_link-link.ensures, cleared_none)

pub overflow_sub-t : goal.overflow_sub-t
overflow_sub-t g c = omega (arith, link_names c.requires.chain c.loop-test.true c.loop.invariant.0)

pub next_link-link-requires : goal.next_link-link-requires
next_link-link-requires g c =
    record { laid = cleared_laid c.requires.chain c.loop-test.true c.loop.invariant.1; t_lt_treelings = link_below c.requires.chain c.loop-test.true c.loop.invariant.0 }

pub clear_treeling-requires : goal.clear_treeling-requires
clear_treeling-requires g c =
    record { laid = cleared_laid c.requires.chain c.loop-test.true c.loop.invariant.1; t_lt_treelings = link_below c.requires.chain c.loop-test.true c.loop.invariant.0 }

pub loop-preserved : goal.loop-preserved
loop-preserved g c =
    let h = c.requires.chain in
    let m = c.loop in
    let l = c.loop-test.true in
    let is = link_of_lem h l m.invariant.0 in (
      link_next h l m.invariant.0 m.state (next-stays h l m.invariant.1) c.next_link-link.ensures,
      elim c.if-goes.branch [
        | then-goes w ↦ rw w.state-is (cleared_more h l m.invariant.1 (m.link - 1) is (rw w.if-goes.true at c.goes.ensures) w.clear_treeling.ensures)
        | else-goes w ↦ rw w.state-is (cleared_pass h l m.invariant.1 (m.link - 1) is (rw w.if-goes.false at c.goes.ensures))
      ],
    )

pub returns : goal.returns
returns g c =
    let m = c.loop in
    let all : m.counter ≡ c.args.treelings = omega arith in
    rw all at m.invariant.1
