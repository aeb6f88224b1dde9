-- `gathering::clear_above` meets its contract.
use Prim.Native.Nat.{ℕ, ◌+◌, ◌-◌, ◌*◌, ◌%◌}
use mathlib.Core.Path.{sym, subst}
use mathlib.Core.List.{List}
use native.Mathlib.Omega.{arith}
use Rattle.sound.specs.Sentences.{of_rank}
use Rattle.gathering.specs.CodeGathering.{Filled, word_of, up_to, room}
use Rattle.gathering.proofs.WalkLaws.{links_begin, link_names, link_of_lem, link_below, link_next}
use Rattle.gathering.proofs.GatherLaws.{up_none, up_all, fill_treeling, fill_chain, row_clear}
use Rattle.gathering.proofs.clear_above.Goals as goal

pub loop-init : goal.loop-init
loop-init c = (links_begin c.requires c.first_link-link.ensures, up_none c.requires _)

pub overflow_sub-t : goal.overflow_sub-t
overflow_sub-t c = omega (arith, link_names c.requires c.loop-test.true c.loop.invariant.0)

pub next_link-link-requires : goal.next_link-link-requires
next_link-link-requires c =
    record { laid = (fill_chain c.requires c.loop.invariant.1).laid; t_lt_treelings = link_below c.requires c.loop-test.true c.loop.invariant.0 }

pub lower-requires : goal.lower-requires
lower-requires c =
    record { laid = (fill_chain c.requires c.loop.invariant.1).laid; t_lt_treelings = link_below c.requires c.loop-test.true c.loop.invariant.0 }

pub loop-preserved : goal.loop-preserved
loop-preserved c =
    let m = c.loop in
    let l = c.loop-test.true in
    let z = c.args.sizes in
    let s = c.args.state.now in
    let t = of_rank z s c.args.d m.counter in (
      link_next c.requires l m.invariant.0 m.state (fill_treeling c.requires m.invariant.1 t 2 (c.requires.below m.counter l) (omega arith)) c.next_link-link.ensures,
      subst (λ (w : List ℕ). Filled z s c.args.d w c.args.treelings (up_to z s c.args.d (512 * (m.counter + 1)) (λ p. word_of z s c.args.d p % room))) (sym c.lower.ensures) (row_clear c.requires m.counter (m.link - 1) m.invariant.1 l (link_of_lem c.requires l m.invariant.0)),
    )

pub returns : goal.returns
returns c =
    let m = c.loop in
    up_all c.requires (λ p. word_of c.args.sizes c.args.state.now c.args.d p % room) (512 * m.counter) m.invariant.1 (omega (arith, c.loop-test.false))
