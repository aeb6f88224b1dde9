-- `runs::unmap_runs::unmap_run` meets its contract.
-- Assumes nothing.
use mathlib.Core.Path.{ap}
use mathlib.Core.Bool.{not}
use Rattle.runs.proofs.RunCodeLaws.{refuse_other, may_release, run_released}
use Rattle.runs.proofs.unmap_runs.unmap_run.Goals as goal

pub returns-then-not-all_mapped : goal.returns-then-not-all_mapped
returns-then-not-all_mapped c =
    let a = c.args in
    record { state_after = refuse_other a.sizes a.state.now a.d a.frame.0 a.count c.all_mapped.result c.all_mapped.ensures c.requires.sound c.requires.d_lt_domains.0 c.requires.d_lt_domains.1 (ap not c.if-not-all_mapped.true); sound_2 = c.requires.sound }

pub release_frames-requires : goal.release_frames-requires
release_frames-requires c =
    let a = c.args in
    record { sound = c.requires.sound; d_lt_domains = c.requires.d_lt_domains; i_value = may_release a.sizes a.state.now a.d a.frame.0 a.count c.all_mapped.result c.all_mapped.ensures (ap not c.if-not-all_mapped.false) }

pub returns : goal.returns
returns c =
    let a = c.args in
    let w = c.release_frames in
    record { state_after = run_released a.sizes a.state.now a.d a.frame.0 a.count w.new.state w.ensures.count_value; sound_2 = w.ensures.sound_2 }
