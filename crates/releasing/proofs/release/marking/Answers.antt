-- `releasing::release::marking` meets its contract.
use Prim.Native.Nat.{◌+◌, ◌*◌, ◌%◌, ◌^◌}
use mathlib.Core.Path.{ap, ◌∙◌}
use lib.ListN.{get_or}
use Rattle.geometry.specs.Entries.{availability_of}
use Rattle.placing.specs.declared.Spot.{Spot}
use Rattle.releasing.specs.declared.Plan.TheVariants.{Mark}
use Rattle.releasing.proofs.ReleaseCodeLaws.{marks_read}
use Rattle.releasing.proofs.release.marking.Goals as goal

pub returns : goal.returns
returns c =
    let p = c.args in
    let word = get_or p.state.now c.entry.result 0 in
    ap (λ (sp : Spot). Mark sp (availability_of word + (1 * 2 ^ p.position) % 2 ^ 64)) c.at.ensures
    ∙ marks_read p.sizes p.state.now p.t p.k p.position c.entry.result c.requires.t_lt_treelings.2 c.entry.ensures
