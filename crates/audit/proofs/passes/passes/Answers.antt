-- `audit::passes::passes` meets its contract: the records of a sound state pass each test in turn.
use mathlib.Core.Path.{◌≡◌, sym, ◌∙◌}
use mathlib.Core.Bool.{true, false≢true}
use Rattle.sound.proofs.RecordLaws.{sound_records}
use Rattle.audit.proofs.PassLaws.{refused}
use Rattle.audit.proofs.passes.passes.Goals as goal
use Rattle.audit.proofs.passes.passes.Goals.{then-domains_in_range, else-domains_in_range, then-treelings_in_range, else-treelings_in_range, then-domains_chained, else-domains_chained}

pub returns-else-treelings_chained : goal.returns-else-treelings_chained
returns-else-treelings_chained c =
    c.if-treelings_chained.false
    ∙ refused c.args.sizes c.args.state.now c.if-domains_chained.value c.requires
    (λ snd.
    let r = sound_records c.args.sizes c.args.state.now snd in
    let ranges : c.if-domains_in_range.value ≡ true =
    elim c.if-domains_in_range.branch [
      | then-domains_in_range w ↦ w.value-is ∙ w.treelings_in_range.ensures ∙ r.treelings_range
      | else-domains_in_range w ↦ absurd (false≢true (sym w.if-domains_in_range.false ∙ c.domains_in_range.ensures ∙ r.domains_range))
    ]
    in
    let chains : c.if-treelings_in_range.value ≡ true =
    elim c.if-treelings_in_range.branch [
      | then-treelings_in_range w ↦ w.value-is ∙ w.domains_chained.ensures ∙ r.domains-chained
      | else-treelings_in_range w ↦ absurd (false≢true (sym w.if-treelings_in_range.false ∙ ranges))
    ]
    in
    elim c.if-domains_chained.branch [
      | then-domains_chained w ↦ w.value-is ∙ w.treelings_chained.ensures ∙ r.treelings_chained
      | else-domains_chained w ↦ absurd (false≢true (sym w.if-domains_chained.false ∙ chains))
    ])
    c.if-treelings_chained.false
