-- `slots::leaves::frames_marked` meets its contract.
-- Assumes nothing.
use mathlib.Core.Path.{sym, ◌∙◌}
use Rattle.slots.proofs.LeafLaws.{zeros_marked, words-all, words_sound}
use Rattle.slots.proofs.leaves.frames_marked.Goals as goal

pub returns-then-all_unmapped-clause-leaves_marked_2 : goal.returns-then-all_unmapped-clause-leaves_marked_2
returns-then-all_unmapped-clause-leaves_marked_2 c _ =
    zeros_marked c.args.sizes c.args.state.now c.args.from.0 c.args.n c.args.marks.now (sym c.all_unmapped.ensures ∙ c.if-all_unmapped.true) c.requires.leaves_marked

pub returns-clause-leaves_marked_2 : goal.returns-clause-leaves_marked_2
returns-clause-leaves_marked_2 c e =
    words-all c.args.sizes c.args.state.now c.args.from.0 c.args.n _ _ c.mapped_ids.ensures c.args.marks.now c.requires.leaves_marked _ (c.words_marked.ensures.words_marked e)

pub returns-clause-fact : goal.returns-clause-fact
returns-clause-fact c e =
    words_sound c.args.sizes c.args.state.now c.args.from.0 c.args.n _ _ c.mapped_ids.ensures c.args.marks.now c.requires.leaves_marked c.requires.n_bound.0 (c.words_marked.ensures.words_clash e)
