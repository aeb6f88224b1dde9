-- `slots::entries::entries_counted` meets its contract.
use Rattle.layout.proofs.BoundedLaws.{all_none, all-next}
use Rattle.slots.specs.CodeMarks.{treeling_entries}
use Rattle.slots.proofs.entries.entries_counted.Goals as goal

pub loop-t-init : goal.loop-t-init
loop-t-init c = (all_none _, c.requires.marks.0, c.requires.marks.1)

pub loop-t-preserved : goal.loop-t-preserved
loop-t-preserved c =
    let counted = c.treeling_counted.ensures.t_value c.if-not-treeling_counted.false in (
      all-next c.loop-t.t (treeling_entries c.args.sizes c.args.state.now) c.loop-t.invariant.0 counted.0,
      counted.1,
      counted.2,
    )
