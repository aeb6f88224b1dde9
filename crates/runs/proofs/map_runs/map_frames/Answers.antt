-- `runs::map_runs::map_frames` meets its contract. The loop's invariant: the first i frames are mapped.
use mathlib.Core.Path.{sym, ◌∙◌}
use native.Mathlib.Omega.{arith}
use Rattle.runs.proofs.RunCodeLaws.{maps_none, map_turn, maps_all, still_free, still_outside, before-first}
use Rattle.runs.proofs.map_runs.map_frames.Goals as goal

pub loop-i-init : goal.loop-i-init
loop-i-init c =
    maps_none c.args.sizes c.args.state.now c.args.d c.args.frame.0 c.requires.sound c.requires.d_lt_domains.2

pub after-requires : goal.after-requires
after-requires c = omega (arith, c.requires.sound.laid_out.laid.sizes.max_frames)

pub place-requires : goal.place-requires
place-requires c =
    let a = c.args in
    let w = c.loop-i.invariant in
    let q = c.requires.d_lt_domains in
    let free = before-first a.sizes a.state.now a.d a.frame.0 a.count c.loop-i.i (omega (arith, c.requires.count_value.0)) in
    let out = still_outside a.sizes a.state.now a.d a.frame.0 q.0 c.loop-i.i c.loop-i.state w (omega arith) c.requires.sound.laid_out.holes_fit_lem.at_most (c.requires.by_index c.loop-i.i (omega arith)) in
    record { sound = w.sound; d_lt_domains = (q.0, omega (arith, c.after.ensures), rw c.after.ensures out); ordinary = (w.ordinary, rw c.after.ensures (still_free a.sizes a.state.now a.d a.frame.0 q.0 c.loop-i.i c.loop-i.state w (omega arith) free)) }

pub loop-i-preserved : goal.loop-i-preserved
loop-i-preserved c =
    let a = c.args in
    let q = c.requires.d_lt_domains in
    let free = before-first a.sizes a.state.now a.d a.frame.0 a.count c.loop-i.i (omega (arith, c.requires.count_value.0)) in
    let out = still_outside a.sizes a.state.now a.d a.frame.0 q.0 c.loop-i.i c.loop-i.state c.loop-i.invariant (omega arith) c.requires.sound.laid_out.holes_fit_lem.at_most (c.requires.by_index c.loop-i.i (omega arith)) in
    let p = c.place in
    map_turn a.sizes a.state.now a.d a.frame.0 q.0 c.loop-i.i c.loop-i.state c.loop-i.invariant (omega arith) out (omega (arith, c.requires.count_value.1)) free p.result p.new.state (rw c.after.ensures at p.ensures.state_after)

pub shape_of-state : goal.shape_of-state
shape_of-state c = c.loop-i.invariant.sound.laid_out.laid.long ∙ sym c.requires.sound.laid_out.laid.long

pub returns : goal.returns
returns c =
    let a = c.args in
    let both = maps_all a.sizes a.state.now a.d a.frame.0 a.count c.loop-i.i c.loop-i.state c.loop-i.invariant (omega arith) (omega arith) in
    record { count_value_2 = both.0; sound_2 = both.1 }
