-- `domains::closing::clear_leaves` meets its contract.
use native.Mathlib.Omega.{arith}
use mathlib.Core.Path.{◌≡◌, ap, ◌∙◌}
use Rattle.layout.specs.Places.{get, leaf}
use Rattle.domains.specs.Closing.{leaves_cleared}
use Rattle.domains.proofs.CloseCodeLaws.{leaves_none, leaves_laid, leaves_range, leaves_more, leaves_pass}
use Rattle.domains.proofs.closing.clear_leaves.Goals as goal
use Rattle.domains.proofs.closing.clear_leaves.Goals.{then-is_own, else-is_own}

pub loop-f-init : goal.loop-f-init
loop-f-init c = leaves_none c.args.sizes c.args.state.now c.args.d

pub read_leaf-id-requires : goal.read_leaf-id-requires
read_leaf-id-requires c =
    let m = c.loop-f in
    let l = c.loop-f-test.true in
    record { laid = leaves_laid c.args.sizes c.args.state.now c.requires.sound c.args.d m.f l m.state m.invariant; frame_lt_frames = rw c.numbered-frame.ensures l }

pub is_own-requires : goal.is_own-requires
is_own-requires c =
    let read_is : c.read_leaf-id.result.0 ≡ get c.args.sizes c.loop-f.state (leaf c.loop-f.f) = rw c.numbered-frame.ensures at c.read_leaf-id.ensures in
    let m = c.loop-f in
    let l = c.loop-f-test.true in
    record { laid = leaves_laid c.args.sizes c.args.state.now c.requires.sound c.args.d m.f l m.state m.invariant; d_lt_domains = (c.requires.d_lt_domains, leaves_range c.args.sizes c.args.state.now c.requires.sound c.args.d m.f l m.state m.invariant c.read_leaf-id.result.0 read_is) }

pub write_leaf-requires : goal.write_leaf-requires
write_leaf-requires c =
    let m = c.loop-f in
    let l = c.loop-f-test.true in
    record { laid = leaves_laid c.args.sizes c.args.state.now c.requires.sound c.args.d m.f l m.state m.invariant; frame_lt_frames = rw c.numbered-frame.ensures l }

pub loop-f-preserved : goal.loop-f-preserved
loop-f-preserved c =
    let read_is : c.read_leaf-id.result.0 ≡ get c.args.sizes c.loop-f.state (leaf c.loop-f.f) = rw c.numbered-frame.ensures at c.read_leaf-id.ensures in
    let m = c.loop-f in
    let l = c.loop-f-test.true in
    let asked = c.is_own in
    elim c.if-is_own.branch [
      | then-is_own w ↦ leaves_more c.args.sizes c.args.state.now c.requires.sound c.args.d m.f l m.state m.invariant c.read_leaf-id.result.0 read_is asked.result asked.ensures c.if-is_own.state w.if-is_own.true (w.state-is ∙ rw (w.none.ensures, c.numbered-frame.ensures) at w.write_leaf.ensures)
      | else-is_own w ↦ leaves_pass c.args.sizes c.args.state.now c.requires.sound c.args.d m.f l m.state m.invariant c.read_leaf-id.result.0 read_is asked.result asked.ensures c.if-is_own.state w.if-is_own.false w.state-is
    ]

pub returns : goal.returns
returns c =
    let m = c.loop-f in
    let all : m.f ≡ c.args.sizes.frames = omega arith in
    m.invariant ∙ ap (leaves_cleared c.args.sizes c.args.state.now c.args.d) all
