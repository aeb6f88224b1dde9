-- `blocks::write_eight` meets its contract.
-- Assumes nothing.
use mathlib.Core.Path.{◌≡◌, ◌∙◌}
use native.Mathlib.Omega.{arith}
use lib.ListN.{length}
use Rattle.std.proofs.Common.{rules}
use borrow.Author.Tests.{tests}
use Rattle.std.proofs.lemmas.List.Edits.{paste_none}
use Rattle.blocks.proofs.BlockLaws.{pasted_more, pasted_whole}
use Rattle.blocks.proofs.write_eight.Goals as goal

pub loop-i-init : goal.loop-i-init
loop-i-init c = paste_none c.args.to.now c.args.at c.args.words

pub loop-i-preserved : goal.loop-i-preserved
loop-i-preserved c =
    let a = c.args in
    let eight : length a.words ≡ 8 = search rules in
    pasted_more a.to.now a.at c.loop-i.i a.words c.loop-i.invariant (search (rules, tests)) (omega arith) (omega arith)

pub returns : goal.returns
returns c =
    let a = c.args in
    let eight : length a.words ≡ 8 = search rules in
    c.loop-i.invariant ∙ pasted_whole a.to.now a.at c.loop-i.i a.words (omega arith) (omega arith)
