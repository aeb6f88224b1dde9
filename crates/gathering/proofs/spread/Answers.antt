-- `gathering::spread` meets its contract.
use Prim.Native.Nat.{◌+◌, ◌*◌, ◌/◌, ◌<◌}
use mathlib.Core.Path.{◌≡◌, refl, ◌∙◌}
use native.Mathlib.Omega.{arith}
use Rattle.gathering.specs.CodeGathering.{Ready, room}
use Rattle.gathering.proofs.GatherSpreadLaws.{spread_begin, spread_ready, spread_pass, to_ready, word_fits, spread_turn, spread_all, chosen_is}
use Rattle.gathering.proofs.spread.Goals as goal
use Rattle.gathering.proofs.spread.Goals.{In-loop, Then-whole-spent, then-whole-spent, else-whole-spent}

-- The walk is at an entry, which can be read.
below : (c : In-loop) → c.loop.walk.at < 512 * c.args.treelings
below c = omega (arith, c.loop-test.true, c.loop.invariant.1)

ready : (c : In-loop) → Ready c.args.sizes c.loop.state c.loop.walk
ready c = spread_ready c.requires.chain c.requires.by_index c.requires.spent_bound c.loop.invariant.0 (below c)

-- The word that a chosen leaf node gets leaves the room above.
fits : (c : Then-whole-spent) → 256 * c.node-node.result + c.read-whole.result / room < room
fits c =
    word_fits c.requires.chain c.requires.by_index c.requires.spent_bound c.loop.invariant.0 (omega (arith, c.loop-test.true, c.loop.invariant.1)) c.read-whole.ensures (chosen_is c.args.spent (c.read-whole.result / room) ∙ c.if-whole-spent.true) c.node-node.result c.node-node.ensures

pub loop-init : goal.loop-init
loop-init c =
    (spread_begin c.requires.chain c.requires.by_index c.requires.spent_bound c.begin-walk.ensures c.requires.link_value refl, c.begin-walk.ensures.1)

pub overflow_mul-end : goal.overflow_mul-end
overflow_mul-end c = omega (arith, c.requires.chain.most, c.requires.chain.laid.sizes.max_treelings)

pub read-whole-requires : goal.read-whole-requires
read-whole-requires c = ready (goal.at.read-whole-requires c).In-loop

pub node-node-requires : goal.node-node-requires
node-node-requires c =
    let at = ready (goal.at.node-node-requires c).In-loop in
    (at.some, omega (arith, at.most, c.requires.chain.laid.sizes.max_treelings))

pub step-walk-requires : goal.step-walk-requires
step-walk-requires c = ready (goal.at.step-walk-requires c).In-loop

pub overflow_mul-node : goal.overflow_mul-node
overflow_mul-node c = omega (arith, fits (goal.at.overflow_mul-node c).Then-whole-spent)

pub overflow_add-node : goal.overflow_add-node
overflow_add-node c = omega (arith, fits (goal.at.overflow_add-node c).Then-whole-spent)

pub put_below-to-requires : goal.put_below-to-requires
put_below-to-requires c =
    let at = goal.at.put_below-to-requires c in
    record {
      ready = to_ready c.requires.chain c.requires.by_index c.requires.spent_bound c.loop.invariant.0 (below at.In-loop) c.read-whole.ensures (chosen_is c.args.spent (c.read-whole.result / room) ∙ c.if-whole-spent.true) c.node-node.result c.node-node.ensures;
      word_lt_room = fits at.Then-whole-spent;
    }

pub loop-preserved : goal.loop-preserved
loop-preserved c =
    let h = c.requires.chain in
    let i = c.loop in
    let l = below (goal.at.loop-preserved c).In-loop in
    let on : c.step-walk.result.at ≡ i.counter + 1 = omega (arith, c.step-walk.ensures.at_is, i.invariant.1) in
    elim c.if-whole-spent.branch [
      | then-whole-spent w ↦
          rw (w.state-is, w.to-is) (
            spread_turn h c.requires.by_index c.requires.spent_bound i.invariant.0 l c.read-whole.ensures (chosen_is c.args.spent (c.read-whole.result / room) ∙ w.if-whole-spent.true) c.node-node.result c.node-node.ensures w.put_below-to.ensures.state_after c.step-walk.ensures w.put_below-to.ensures.stepped,
            on,
          )
      | else-whole-spent w ↦
          rw (w.state-is, w.to-is) (
            spread_pass h c.requires.by_index c.requires.spent_bound i.invariant.0 l c.read-whole.ensures (chosen_is c.args.spent (c.read-whole.result / room) ∙ w.if-whole-spent.false) c.step-walk.ensures,
            on,
          )
    ]

pub returns : goal.returns
returns c =
    spread_all c.requires.chain c.requires.by_index c.requires.spent_bound c.loop.invariant.0 (omega (arith, c.loop-test.false, c.loop.invariant.1))
