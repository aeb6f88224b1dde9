-- `runs::map_runs::map_run` meets its contract.
-- Assumes nothing.
use mathlib.Core.Path.{sym, ap, ◌∙◌}
use mathlib.Core.Bool.{not}
use Rattle.runs.proofs.RunCodeLaws.{asked_few, refuse_nothing, refuse_taken, may_map, run_mapped}
use Rattle.runs.proofs.map_runs.map_run.Goals as goal

-- The frames before the first mapped one, all where none is, are those that the places are asked for.
pub has_places-requires : goal.has_places-requires
has_places-requires c =
    let a = c.args in
    let q = c.requires.d_lt_domains in
    let f = c.first_mapped-taken in
    record { sound = c.requires.sound; d_lt_domains = (q.0, asked_few a.sizes a.state.now a.d a.frame.0 a.count f.result c.unwrap_or.result f.ensures c.unwrap_or.ensures q.3) }

pub returns-then-not-has_places : goal.returns-then-not-has_places
returns-then-not-has_places c =
    let a = c.args in
    let q = c.requires.d_lt_domains in
    let f = c.first_mapped-taken in
    record { state_after = refuse_nothing a.sizes a.state.now a.d a.frame.0 a.count f.result c.unwrap_or.result f.ensures c.unwrap_or.ensures c.has_places.result c.has_places.ensures c.requires.sound q.2 q.0 q.1 c.requires.by_index (ap not c.if-not-has_places.true); sound_2 = c.requires.sound }

pub returns-then-is_some : goal.returns-then-is_some
returns-then-is_some c =
    let a = c.args in
    let q = c.requires.d_lt_domains in
    let f = c.first_mapped-taken in
    record { state_after = refuse_taken a.sizes a.state.now a.d a.frame.0 a.count f.result c.unwrap_or.result f.ensures c.unwrap_or.ensures c.has_places.result c.has_places.ensures c.requires.sound q.2 q.0 q.1 c.requires.by_index (ap not c.if-not-has_places.false) (sym c.is_some.ensures ∙ c.if-is_some.true); sound_2 = c.requires.sound }

pub map_frames-requires : goal.map_frames-requires
map_frames-requires c =
    let a = c.args in
    let q = c.requires.d_lt_domains in
    let f = c.first_mapped-taken in
    record { sound = c.requires.sound; d_lt_domains = (q.0, q.1, q.2); count_value = may_map a.sizes a.state.now a.d a.frame.0 a.count f.result c.unwrap_or.result f.ensures c.unwrap_or.ensures c.has_places.result c.has_places.ensures (ap not c.if-not-has_places.false) (sym c.is_some.ensures ∙ c.if-is_some.false); by_index = c.requires.by_index }

pub returns : goal.returns
returns c =
    let a = c.args in
    let w = c.map_frames in
    record { state_after = run_mapped a.sizes a.state.now a.d a.frame.0 a.count w.new.state w.ensures.count_value_2; sound_2 = w.ensures.sound_2 }
