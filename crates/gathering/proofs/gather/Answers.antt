-- `gathering::gather` meets its contract.
use Prim.Native.Nat.{suc, ◌*◌, ◌<◌}
use native.Mathlib.Omega.{arith}
use Rattle.world.specs.World.{owned}
use Rattle.world.proofs.WorldLaws.{owned_most}
use Rattle.gathering.specs.CodeGathering.{Chain, Filled, gathering_word}
use Rattle.gathering.proofs.GatherLaws.{pass_begin, pass_ready, pass_next, pass_all, walk_ready, own_chain, gather_none, gather_ready, gather_turn}
use Rattle.gathering.proofs.gather.Goals as goal
use Rattle.gathering.proofs.gather.Goals.{Start, In-loop, After-add_above}

-- The domain's TreeLings can be walked through, and the walk is at one of their entries.
walked : (c : Start) → Chain c.args.sizes c.args.state.now c.args.d (owned c.args.sizes c.args.state.now c.args.d)
walked c = own_chain c.args.sizes c.args.state.now c.requires.sound c.args.d c.requires.d_lt_domains.0

below : (c : In-loop) → c.loop.walk.at < 512 * owned c.args.sizes c.args.state.now c.args.d
below c = omega (arith, c.loop-test.true, c.loop.invariant.1, c.requires.d_lt_domains.1)

-- One entry more is gathered.
turned : (c : After-add_above) → Filled c.args.sizes c.args.state.now c.args.d c.add_above.new.state (owned c.args.sizes c.args.state.now c.args.d) (gathering_word c.args.sizes c.args.state.now c.args.d (suc c.loop.walk.at))
turned c =
    gather_turn c.args.sizes c.args.state.now c.requires.sound c.args.d c.requires.d_lt_domains.0 c.requires.d_lt_domains.2 c.loop.invariant.0 (omega (arith, c.loop-test.true, c.loop.invariant.1, c.requires.d_lt_domains.1)) c.read-word.ensures c.add_above.ensures

pub loop-init : goal.loop-init
loop-init c =
    (pass_begin (walked (goal.at.loop-init c).Start) (gather_none c.args.sizes c.args.state.now c.requires.sound c.args.d c.requires.d_lt_domains.0) c.begin-walk.ensures, c.begin-walk.ensures.1)

pub overflow_mul-end : goal.overflow_mul-end
overflow_mul-end c =
    omega (arith, c.requires.d_lt_domains.1, owned_most c.args.sizes c.args.state.now c.requires.sound c.args.d c.requires.d_lt_domains.0, c.requires.sound.laid_out.laid.sizes.max_treelings)

pub read-word-requires : goal.read-word-requires
read-word-requires c =
    pass_ready (walked (goal.at.read-word-requires c).Start) c.loop.invariant.0 (below (goal.at.read-word-requires c).In-loop)

pub add_above-requires : goal.add_above-requires
add_above-requires c =
    let k = below (goal.at.add_above-requires c).In-loop in
    let ready = gather_ready c.args.sizes c.args.state.now c.requires.sound c.args.d c.requires.d_lt_domains.0 c.requires.d_lt_domains.2 c.loop.invariant.0 k c.read-word.ensures in
    record { laid = (pass_ready (walked (goal.at.add_above-requires c).Start) c.loop.invariant.0 k).laid; node_bound = (ready.0, omega arith, ready.1) }

pub step-walk-requires : goal.step-walk-requires
step-walk-requires c =
    let at = goal.at.step-walk-requires c in
    walk_ready (walked at.Start) c.loop.invariant.0.link_is (below at.In-loop) (turned at.After-add_above)

pub loop-preserved : goal.loop-preserved
loop-preserved c =
    let at = goal.at.loop-preserved c in
    let filled = turned at.After-add_above in
    (pass_next (walked at.Start) c.loop.invariant.0 (below at.In-loop) filled filled c.step-walk.ensures, omega (arith, c.step-walk.ensures.at_is, c.loop.invariant.1))

pub returns : goal.returns
returns c =
    pass_all (walked (goal.at.returns c).Start) c.loop.invariant.0 (omega (arith, c.loop-test.false, c.loop.invariant.1, c.requires.d_lt_domains.1))
