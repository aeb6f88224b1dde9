-- `making::write_new` meets its contract.
-- Assumes nothing.
use mathlib.Core.Path.{refl, sym, ◌∙◌}
use mathlib.Core.List.{◌++◌}
use lib.ListN.{length, drop}
use Rattle.std.proofs.lemmas.Slice.{put_mid-paste}
use Rattle.making.proofs.MakingLaws.{written_at_once}
use Rattle.making.proofs.write_new.Goals as goal

pub returns : goal.returns
returns c =
    let a = c.args in
    let k = length a.holes.now in
    c.write_holes.ensures
    ∙ sym (put_mid-paste 9 k (c.copy_from_slice.new.self ++ drop 9 c.fill.new.self) a.holes.now a.holes.now k refl refl refl)
    ∙ written_at_once a.sizes a.holes.now (length a.state.now) c.domain.result c.treeling.result c.entry.result c.leaf.result k
    c.fill.new.self c.copy_from_slice.new.self a.holes.now
    c.requires.holes_len_bound c.requires.laid.long
    c.domain.ensures c.treeling.ensures c.entry.ensures c.leaf.ensures
    (c.fill.ensures.after (λ y k. k)) c.copy_from_slice.ensures.after refl refl
