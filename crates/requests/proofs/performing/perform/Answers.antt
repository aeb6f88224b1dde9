-- `requests::performing::perform` meets its contract.
-- Assumes nothing.
use mathlib.Core.Path.{refl, ap}
use Rattle.layout.specs.Outcomes.{outcome}
use Rattle.sound.proofs.TestLaws.{live_ordinary}
use Rattle.calls.specs.Table.{calls, line_of}
use Rattle.calls.specs.Numbers.{call_number}
use Rattle.pages.specs.Answers.{answer_of, answer_of_done}
use Rattle.questions.proofs.RequestCodeLaws.{asked_as, does_as, dead_zero}
use Rattle.requests.proofs.performing.perform.Goals as goal

pub open_domain-requires : goal.open_domain-requires
unfolding line_of calls
open_domain-requires c =
    let p = asked_as c.args.sizes c.args.state.now (call_number c.args.call) 1 c.args.q.domain c.args.q.frame c.args.q.count (ap call_number c.in-Open.is) c.requires.count_value in
    record { sound = c.requires.sound; d_lt_domains = (p.below, dead_zero c.args.sizes c.args.state.now c.args.q.domain c.requires.sound p.below (p.dead refl)) }

pub close_domain-requires : goal.close_domain-requires
close_domain-requires c = record { sound = c.requires.sound; d_lt_domains = (asked_as c.args.sizes c.args.state.now (call_number c.args.call) 2 c.args.q.domain c.args.q.frame c.args.q.count (ap call_number c.in-Close.is) c.requires.count_value).below }

pub map_page-requires : goal.map_page-requires
unfolding line_of calls
map_page-requires c =
    let p = asked_as c.args.sizes c.args.state.now (call_number c.args.call) 3 c.args.q.domain c.args.q.frame c.args.q.count (ap call_number c.in-Map.is) c.requires.count_value in
    record { sound = c.requires.sound; d_lt_domains = (p.below, rw c.numbered-frame.ensures p.legal, live_ordinary c.args.sizes c.args.state.now c.args.q.domain (p.alive refl)); frame_value = rw c.numbered-frame.ensures p.in_no_hole }

pub unmap_page-requires : goal.unmap_page-requires
unfolding line_of calls
unmap_page-requires c =
    let p = asked_as c.args.sizes c.args.state.now (call_number c.args.call) 4 c.args.q.domain c.args.q.frame c.args.q.count (ap call_number c.in-Unmap.is) c.requires.count_value in
    record { sound = c.requires.sound; d_lt_domains = (p.below, rw c.numbered-frame.ensures p.legal) }

pub path_of-requires : goal.path_of-requires
unfolding line_of calls
path_of-requires c =
    let p = asked_as c.args.sizes c.args.state.now (call_number c.args.call) 5 c.args.q.domain c.args.q.frame c.args.q.count (ap call_number c.in-Path.is) c.requires.count_value in
    record { sound = c.requires.sound; d_lt_domains = (p.below, rw c.numbered-frame.ensures p.legal) }

pub map_run-requires : goal.map_run-requires
unfolding line_of calls
map_run-requires c =
    let p = asked_as c.args.sizes c.args.state.now (call_number c.args.call) 6 c.args.q.domain c.args.q.frame c.args.q.count (ap call_number c.in-MapRun.is) c.requires.count_value in
    record { sound = c.requires.sound; d_lt_domains = (p.below, rw c.numbered-frame.ensures p.legal.1, live_ordinary c.args.sizes c.args.state.now c.args.q.domain (p.alive refl), p.legal.2); by_index = rw c.numbered-frame.ensures p.in_no_hole }

pub unmap_run-requires : goal.unmap_run-requires
unfolding line_of calls
unmap_run-requires c =
    let p = asked_as c.args.sizes c.args.state.now (call_number c.args.call) 7 c.args.q.domain c.args.q.frame c.args.q.count (ap call_number c.in-UnmapRun.is) c.requires.count_value in
    record { sound = c.requires.sound; d_lt_domains = (p.below, rw c.numbered-frame.ensures p.legal.1) }

pub trim_domain-requires : goal.trim_domain-requires
unfolding line_of calls
trim_domain-requires c =
    let p = asked_as c.args.sizes c.args.state.now (call_number c.args.call) 8 c.args.q.domain c.args.q.frame c.args.q.count (ap call_number c.in-Trim.is) c.requires.count_value in
    record { sound = c.requires.sound; d_lt_domains = (p.below, live_ordinary c.args.sizes c.args.state.now c.args.q.domain (p.alive refl)) }

pub fill_of-requires : goal.fill_of-requires
fill_of-requires c =
    record { sound = c.requires.sound; d_lt_domains = (asked_as c.args.sizes c.args.state.now (call_number c.args.call) 11 c.args.q.domain c.args.q.frame c.args.q.count (ap call_number c.in-Fill.is) c.requires.count_value).below }

pub returns-in-Open : goal.returns-in-Open
unfolding line_of calls
returns-in-Open c =
    record { state_after = does_as c.args.sizes c.args.state.now (call_number c.args.call) 1 c.args.q.domain c.args.q.frame c.args.q.count (outcome (answer_of_done c.open_domain.result) c.open_domain.new.state) (ap call_number c.in-Open.is) c.open_domain.ensures.state_after; sound_2 = c.open_domain.ensures.sound_2 }

pub returns-in-Close : goal.returns-in-Close
unfolding line_of calls
returns-in-Close c =
    record { state_after = does_as c.args.sizes c.args.state.now (call_number c.args.call) 2 c.args.q.domain c.args.q.frame c.args.q.count (outcome (answer_of_done c.close_domain.result) c.close_domain.new.state) (ap call_number c.in-Close.is) c.close_domain.ensures.state_after; sound_2 = c.close_domain.ensures.sound_2 }

pub returns-in-Map : goal.returns-in-Map
unfolding line_of calls
returns-in-Map c =
    record { state_after = does_as c.args.sizes c.args.state.now (call_number c.args.call) 3 c.args.q.domain c.args.q.frame c.args.q.count (outcome (answer_of c.map_page.result) c.map_page.new.state) (ap call_number c.in-Map.is) (rw c.numbered-frame.ensures at c.map_page.ensures.state_after); sound_2 = c.map_page.ensures.sound_2 }

pub returns-in-Unmap : goal.returns-in-Unmap
unfolding line_of calls
returns-in-Unmap c =
    record { state_after = does_as c.args.sizes c.args.state.now (call_number c.args.call) 4 c.args.q.domain c.args.q.frame c.args.q.count (outcome (answer_of c.unmap_page.result) c.unmap_page.new.state) (ap call_number c.in-Unmap.is) (rw c.numbered-frame.ensures at c.unmap_page.ensures.state_after); sound_2 = c.unmap_page.ensures.sound_2 }

pub returns-in-Path : goal.returns-in-Path
unfolding line_of calls
returns-in-Path c =
    record { state_after = does_as c.args.sizes c.args.state.now (call_number c.args.call) 5 c.args.q.domain c.args.q.frame c.args.q.count (outcome (answer_of c.path_of.result) c.args.state.now) (ap call_number c.in-Path.is) (rw c.numbered-frame.ensures at c.path_of.ensures); sound_2 = c.requires.sound }

pub returns-in-MapRun : goal.returns-in-MapRun
unfolding line_of calls
returns-in-MapRun c =
    record { state_after = does_as c.args.sizes c.args.state.now (call_number c.args.call) 6 c.args.q.domain c.args.q.frame c.args.q.count (outcome (answer_of c.map_run.result) c.map_run.new.state) (ap call_number c.in-MapRun.is) (rw c.numbered-frame.ensures at c.map_run.ensures.state_after); sound_2 = c.map_run.ensures.sound_2 }

pub returns-in-UnmapRun : goal.returns-in-UnmapRun
unfolding line_of calls
returns-in-UnmapRun c =
    record { state_after = does_as c.args.sizes c.args.state.now (call_number c.args.call) 7 c.args.q.domain c.args.q.frame c.args.q.count (outcome (answer_of c.unmap_run.result) c.unmap_run.new.state) (ap call_number c.in-UnmapRun.is) (rw c.numbered-frame.ensures at c.unmap_run.ensures.state_after); sound_2 = c.unmap_run.ensures.sound_2 }

pub returns-in-Trim : goal.returns-in-Trim
unfolding line_of calls
returns-in-Trim c =
    record { state_after = does_as c.args.sizes c.args.state.now (call_number c.args.call) 8 c.args.q.domain c.args.q.frame c.args.q.count (outcome (answer_of_done c.trim_domain.result) c.trim_domain.new.state) (ap call_number c.in-Trim.is) c.trim_domain.ensures.state_after; sound_2 = c.trim_domain.ensures.sound_2 }

pub returns-in-Fill : goal.returns-in-Fill
unfolding line_of calls
returns-in-Fill c =
    record { state_after = does_as c.args.sizes c.args.state.now (call_number c.args.call) 11 c.args.q.domain c.args.q.frame c.args.q.count (outcome (answer_of_done c.fill_of.result) c.args.state.now) (ap call_number c.in-Fill.is) c.fill_of.ensures; sound_2 = c.requires.sound }
