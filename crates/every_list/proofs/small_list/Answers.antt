-- `every_list::small_list` meets its contract.
-- Assumes nothing.
use native.Mathlib.Omega.{arith}
use Rattle.every_list.proofs.CodeLaws.{no_room, list_written}
use Rattle.every_list.proofs.small_list.Goals as goal

pub returns-then-words-list : goal.returns-then-words-list
returns-then-words-list c =
    let rank = c.rank-list in
    let a = c.args in
    no_room a.words.now a.number rank.result.requests rank.result.rank rank.ensures.0 rank.ensures.1 rank.ensures.2 (omega arith)

pub returns : goal.returns
returns c =
    let written = c.write_list in
    let rank = c.rank-list in
    let a = c.args in
    list_written a.words.now written.new.words a.number rank.result.requests rank.result.rank rank.ensures.0 rank.ensures.1 rank.ensures.2 (omega arith) written.ensures
