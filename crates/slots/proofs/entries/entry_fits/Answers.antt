-- `slots::entries::entry_fits` meets its contract: the place of the head decides of a tag that is its own.
use Rattle.slots.proofs.EntryLaws.{head_range, fits_spent, fits_free}
use Rattle.slots.proofs.entries.entry_fits.Goals as goal

pub returns-then-w-eq0 : goal.returns-then-w-eq0
returns-then-w-eq0 c =
    let a = c.args in
    fits_spent a.sizes a.state.now a.t a.k a.w c.requires.t_lt_treelings.3 c.requires.t_lt_treelings.1 c.if-sizes-tag.false c.treeling.result c.treeling-2.result c.treeling.ensures c.treeling-2.ensures c.if-state-treeling.false c.requires.t_lt_treelings.2 (head_range a.sizes a.state.now c.requires.records a.t c.requires.t_lt_treelings.0 c.requires.t_lt_treelings.1).3 a.span.now.start a.span.now.end c.requires.start_value.0 c.requires.start_value.1 c.if-w-eq0.true

pub returns-else-w-eq0 : goal.returns-else-w-eq0
returns-else-w-eq0 c =
    let a = c.args in
    fits_free a.sizes a.state.now a.t a.k a.w c.requires.t_lt_treelings.3 c.requires.t_lt_treelings.1 c.if-sizes-tag.false c.treeling.result c.treeling-2.result c.treeling.ensures c.treeling-2.ensures c.if-state-treeling.false c.requires.t_lt_treelings.2 (head_range a.sizes a.state.now c.requires.records a.t c.requires.t_lt_treelings.0 c.requires.t_lt_treelings.1).3 a.span.now.start a.span.now.end c.requires.start_value.0 c.requires.start_value.1 c.if-w-eq0.false
