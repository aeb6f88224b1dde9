-- `every_list::write_request` meets its contract.
-- Assumes nothing.
use mathlib.Core.Path.{◌≡◌, ◌∙◌}
use native.Mathlib.Omega.{arith}
use lib.ListN.{length}
use Rattle.std.proofs.Common.{rules}
use borrow.Author.Tests.{tests}
use Rattle.std.proofs.lemmas.List.Edits.{paste_none}
use Rattle.blocks.proofs.BlockLaws.{pasted_more, pasted_whole}
use Rattle.every_list.proofs.write_request.Goals as goal

pub loop-i-init : goal.loop-i-init
loop-i-init c = paste_none c.args.words.now c.args.at c.args.request

pub loop-i-preserved : goal.loop-i-preserved
loop-i-preserved c =
    let a = c.args in
    let four : length a.request ≡ 4 = search rules in
    pasted_more a.words.now a.at c.loop-i.i a.request c.loop-i.invariant (search (rules, tests)) (omega arith) (omega arith)

pub returns : goal.returns
returns c =
    let a = c.args in
    let four : length a.request ≡ 4 = search rules in
    c.loop-i.invariant ∙ pasted_whole a.words.now a.at c.loop-i.i a.request (omega arith) (omega arith)
