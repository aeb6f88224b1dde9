-- `runs::unmap_runs::release_frames` meets its contract. The loop's invariant: the pages of the first i frames are released.
use Prim.Native.Nat.{◌+◌}
use mathlib.Core.Path.{sym, ◌∙◌}
use native.Mathlib.Omega.{arith}
use Rattle.layout.proofs.BoundedLaws.{all_at}
use Rattle.sound.proofs.MappedLaws.{mapped_by, mapped_ordinary}
use Rattle.runs.proofs.RunCodeLaws.{mine, releases_none, release_turn, releases_all, still_mine}
use Rattle.runs.proofs.unmap_runs.release_frames.Goals as goal

pub loop-i-init : goal.loop-i-init
loop-i-init c = releases_none c.args.sizes c.args.state.now c.args.d c.args.frame.0 c.requires.sound

pub after-requires : goal.after-requires
after-requires c = omega (arith, c.requires.sound.laid_out.laid.sizes.max_frames)

pub release-requires : goal.release-requires
release-requires c =
    let a = c.args in
    let w = c.loop-i.invariant in
    let own = all_at a.count (mine a.sizes a.state.now a.d a.frame.0) c.requires.i_value c.loop-i.i (omega arith) in
    let mapped = still_mine a.sizes a.state.now a.d a.frame.0 c.requires.sound c.requires.d_lt_domains.0 c.loop-i.i c.loop-i.state w (omega arith) own in
    let ordinary = mapped_ordinary a.sizes c.loop-i.state a.d (a.frame.0 + c.loop-i.i) w.sound (omega arith) (mapped_by a.sizes c.loop-i.state a.d (a.frame.0 + c.loop-i.i) mapped) in
    record { sound = w.sound; d_lt_domains = (c.requires.d_lt_domains.0, omega (arith, c.after.ensures), ordinary); frame_value = rw c.after.ensures mapped }

pub loop-i-preserved : goal.loop-i-preserved
loop-i-preserved c =
    let a = c.args in
    let own = all_at a.count (mine a.sizes a.state.now a.d a.frame.0) c.requires.i_value c.loop-i.i (omega arith) in
    let p = c.release in
    release_turn a.sizes a.state.now a.d a.frame.0 c.requires.sound c.requires.d_lt_domains.0 c.loop-i.i c.loop-i.state c.loop-i.invariant (omega arith) own p.new.state (rw c.after.ensures at p.ensures.state_after)

pub shape_of-state : goal.shape_of-state
shape_of-state c = c.loop-i.invariant.sound.laid_out.laid.long ∙ sym c.requires.sound.laid_out.laid.long

pub returns : goal.returns
returns c =
    let a = c.args in
    let both = releases_all a.sizes a.state.now a.d a.frame.0 a.count c.loop-i.i c.loop-i.state c.loop-i.invariant (omega arith) (omega arith) in
    record { count_value = both.0; sound_2 = both.1 }
