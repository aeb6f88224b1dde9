-- `returning::trim::add_up` meets its contract.
use Prim.Native.Nat.{◌*◌}
use mathlib.Core.Path.{◌≡◌, refl, ap, ◌∙◌}
use native.Mathlib.Omega.{arith}
use Rattle.sound.specs.Sentences.{is_ordinary, of_rank}
use Rattle.gathering.specs.CodeGathering.{Chain}
use Rattle.gathering.proofs.GatherLaws.{own_chain}
use Rattle.gathering.proofs.WalkLaws.{links_begin, link_names, link_of_lem, link_below, link_next}
use Rattle.sound.proofs.TestLaws.{ordinary_test}
use Rattle.world.proofs.WorldLaws.{of_rank_lem}
use Rattle.returning.proofs.SumLaws.{summed_small, summed_next}
use Rattle.returning.proofs.trim.add_up.Goals as goal
use Rattle.returning.proofs.trim.add_up.Goals.{Start}

-- The domain's TreeLings can be walked through.
walked : (c : Start) → Chain c.args.sizes c.args.state.now c.args.d c.args.treelings
walked c = rw c.requires.d_lt_domains.1 (own_chain c.args.sizes c.args.state.now c.requires.sound c.args.d c.requires.d_lt_domains.0)

pub loop-init : goal.loop-init
loop-init c = (links_begin (walked (goal.at.loop-init c).Start) c.first_link-link.ensures, c.requires.summed)

pub overflow_sub-t : goal.overflow_sub-t
overflow_sub-t c = omega (arith, link_names (walked (goal.at.overflow_sub-t c).Start) c.loop-test.true c.loop.invariant.0)

pub add_entries-requires : goal.add_entries-requires
add_entries-requires c =
    let h = walked (goal.at.add_entries-requires c).Start in
    let m = c.loop in
    let l = c.loop-test.true in
    let z = c.args.sizes in
    let s = c.args.state.now in
    let d = c.args.d in
    let kind =
    ap (is_ordinary z s) (link_of_lem h l m.invariant.0)
    ∙ ordinary_test z s (of_rank z s d m.counter) d (of_rank_lem z s c.requires.sound d c.requires.d_lt_domains.0 m.counter (omega (arith, l, c.requires.d_lt_domains.1))).owner_is c.requires.d_lt_domains.2 in
    record {
      sound = c.requires.sound;
      t_lt_treelings = (link_below h l m.invariant.0, m.invariant.1.long, kind);
      by_index = summed_small z s d (512 * m.counter) m.sums (omega (arith, l, h.most, h.laid.sizes.max_treelings)) m.invariant.1;
    }

pub next_link-link-requires : goal.next_link-link-requires
next_link-link-requires c =
    let h = walked (goal.at.next_link-link-requires c).Start in
    record { laid = h.laid; t_lt_treelings = link_below h c.loop-test.true c.loop.invariant.0 }

pub loop-preserved : goal.loop-preserved
loop-preserved c =
    let h = walked (goal.at.loop-preserved c).Start in
    let m = c.loop in
    let l = c.loop-test.true in (
      link_next h l m.invariant.0 c.args.state.now refl c.next_link-link.ensures,
      summed_next c.args.sizes c.args.state.now c.args.d m.counter _ m.sums c.add_entries.new.sums (link_of_lem h l m.invariant.0) m.invariant.1 c.add_entries.ensures,
    )

pub returns : goal.returns
returns c =
    let m = c.loop in
    let all : m.counter ≡ c.args.treelings = omega arith in
    rw all at m.invariant.1
