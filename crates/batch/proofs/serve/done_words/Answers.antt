-- `batch::serve::done_words` meets its contract.
-- Assumes nothing.
use mathlib.Core.Path.{ap}
use native.Mathlib.Omega.{arith}
use Rattle.leaf_map.proofs.LeafIdLaws.{slot_below, treeling_fits}
use Rattle.pages.specs.Answers.{answer_of_done}
use Rattle.batch.proofs.ServeCodeLaws.{finished_words, page_range, page_words, fill_words}
use Rattle.batch.proofs.serve.done_words.Goals as goal

pub path-nodes-requires : goal.path-nodes-requires
path-nodes-requires c =
    let p = c.in-Page in
    let range = page_range (answer_of_done c.args.done) p.id p.rank p.pages (ap answer_of_done p.is) c.requires in
    (omega (arith, treeling_fits 4096 p.id.0 range.0 range.1, c.treeling.ensures), omega (arith, c.slot.ensures, slot_below p.id.0))

pub returns-in-Finished : goal.returns-in-Finished
returns-in-Finished c =
    let p = c.in-Finished in
    finished_words (answer_of_done c.args.done) p.pages (ap answer_of_done p.is)

pub returns-in-Page : goal.returns-in-Page
returns-in-Page c =
    let p = c.in-Page in
    page_words (answer_of_done c.args.done) p.id p.rank p.pages (ap answer_of_done p.is)
    c.treeling.result c.slot.result c.position.result c.path-nodes.result
    c.treeling.ensures c.slot.ensures c.position.ensures c.path-nodes.ensures

pub returns-in-Fill : goal.returns-in-Fill
returns-in-Fill c =
    let p = c.in-Fill in
    fill_words (answer_of_done c.args.done) p.quotient p.remainder p.slots (ap answer_of_done p.is)
