-- `releasing::release::release` meets its contract.
-- Assumes nothing.
use Prim.Native.Nat.{◌<◌}
use mathlib.Core.Bool.{true}
use mathlib.Core.Path.{◌≡◌, ap, ◌∙◌}
use native.Mathlib.Omega.{arith}
use Rattle.leaf_map.specs.LeafIds.{node_of_leaf, position_of_leaf}
use Rattle.layout.specs.Places.{get, leaf}
use Rattle.sound.specs.Sentences.{is_mapped_by}
use Rattle.sound.specs.Sound.{Sound, Ordinary}
use Rattle.leaf_map.proofs.LeafIdLaws.{position_below}
use Rattle.releasing.specs.Releasing.{unmapped, releasing}
use Rattle.releasing.proofs.ReleaseCodeLaws.{some_owned, pages_some, node_below, node_own, mark_fitting, mark_done, regather_done, left_unmapped}
use Rattle.releasing.proofs.release.release.Goals as goal
use Rattle.releasing.proofs.release.release.Goals.{in-Mark, in-Regather}

pub overflow_sub-left : goal.overflow_sub-left
overflow_sub-left c =
    let p = c.args in
    let s = p.state.now in
    let pre : Sound p.sizes s × (((p.d < p.sizes.domains) × (p.frame.0 < p.sizes.frames) × Ordinary p.sizes s p.d) × (is_mapped_by p.sizes s p.d p.frame.0 ≡ true)) = (c.requires.sound, (c.requires.d_lt_domains, c.requires.frame_value)) in
    pages_some p.sizes s p.d p.frame.0 pre c.domain.result c.domain.ensures

-- node_of, position_of: the leaf ID read, by its node and position. marked_at: the entry to mark.
pub plan-requires : goal.plan-requires
plan-requires c =
    let p = c.args in
    let s = p.state.now in
    let pre : Sound p.sizes s × (((p.d < p.sizes.domains) × (p.frame.0 < p.sizes.frames) × Ordinary p.sizes s p.d) × (is_mapped_by p.sizes s p.d p.frame.0 ≡ true)) = (c.requires.sound, (c.requires.d_lt_domains, c.requires.frame_value)) in
    let small : c.position-position.result < 8 = omega (arith, c.position-position.ensures, position_below c.read_leaf-id.result.0) in
    record { sound = c.requires.sound; d_lt_domains = (c.requires.d_lt_domains.0, small, some_owned p.sizes s p.d p.frame.0 pre, c.requires.d_lt_domains.2) }

pub entry_word-word-requires : goal.entry_word-word-requires
entry_word-word-requires c =
    let p = c.args in
    let s = p.state.now in
    let pre : Sound p.sizes s × (((p.d < p.sizes.domains) × (p.frame.0 < p.sizes.frames) × Ordinary p.sizes s p.d) × (is_mapped_by p.sizes s p.d p.frame.0 ≡ true)) = (c.requires.sound, (c.requires.d_lt_domains, c.requires.frame_value)) in
    let node_of : c.node-node.result ≡ node_of_leaf (get p.sizes s (leaf p.frame.0)) = c.node-node.ensures ∙ ap node_of_leaf c.read_leaf-id.ensures in
    let position_of : c.position-position.result ≡ position_of_leaf (get p.sizes s (leaf p.frame.0)) = c.position-position.ensures ∙ ap position_of_leaf c.read_leaf-id.ensures in
    let marked_at : (c.in-Mark.spot.treeling < p.sizes.treelings) × (c.in-Mark.spot.entry < 512) × (c.in-Mark.availability < 256) =
    mark_fitting p.sizes s p.d p.frame.0 pre c.node-node.result c.position-position.result node_of position_of c.plan.result c.in-Mark.spot c.in-Mark.availability c.plan.ensures c.in-Mark.is in
    (omega (arith, c.requires.sound.laid_out.laid.sizes.max_treelings, node_below p.sizes s p.d p.frame.0 pre c.node-node.result c.position-position.result node_of position_of), marked_at.2)

pub mark-requires : goal.mark-requires
mark-requires c =
    let p = c.args in
    let s = p.state.now in
    let pre : Sound p.sizes s × (((p.d < p.sizes.domains) × (p.frame.0 < p.sizes.frames) × Ordinary p.sizes s p.d) × (is_mapped_by p.sizes s p.d p.frame.0 ≡ true)) = (c.requires.sound, (c.requires.d_lt_domains, c.requires.frame_value)) in
    let node_of : c.node-node.result ≡ node_of_leaf (get p.sizes s (leaf p.frame.0)) = c.node-node.ensures ∙ ap node_of_leaf c.read_leaf-id.ensures in
    let position_of : c.position-position.result ≡ position_of_leaf (get p.sizes s (leaf p.frame.0)) = c.position-position.ensures ∙ ap position_of_leaf c.read_leaf-id.ensures in
    let marked_at : (c.in-Mark.spot.treeling < p.sizes.treelings) × (c.in-Mark.spot.entry < 512) × (c.in-Mark.availability < 256) =
    mark_fitting p.sizes s p.d p.frame.0 pre c.node-node.result c.position-position.result node_of position_of c.plan.result c.in-Mark.spot c.in-Mark.availability c.plan.ensures c.in-Mark.is in
    record { laid = c.requires.sound.laid_out.laid; d_lt_domains = (c.requires.d_lt_domains.0, marked_at.0, marked_at.1) }

pub regather-requires : goal.regather-requires
regather-requires c =
    let p = c.args in
    let s = p.state.now in
    let pre : Sound p.sizes s × (((p.d < p.sizes.domains) × (p.frame.0 < p.sizes.frames) × Ordinary p.sizes s p.d) × (is_mapped_by p.sizes s p.d p.frame.0 ≡ true)) = (c.requires.sound, (c.requires.d_lt_domains, c.requires.frame_value)) in
    let node_of : c.node-node.result ≡ node_of_leaf (get p.sizes s (leaf p.frame.0)) = c.node-node.ensures ∙ ap node_of_leaf c.read_leaf-id.ensures in
    let position_of : c.position-position.result ≡ position_of_leaf (get p.sizes s (leaf p.frame.0)) = c.position-position.ensures ∙ ap position_of_leaf c.read_leaf-id.ensures in
    let small : c.position-position.result < 8 = omega (arith, c.position-position.ensures, position_below c.read_leaf-id.result.0) in
    record {
      sound = c.requires.sound;
      d_lt_domains = (c.requires.d_lt_domains.0, node_below p.sizes s p.d p.frame.0 pre c.node-node.result c.position-position.result node_of position_of, small, c.requires.d_lt_domains.2);
      node_value = node_own p.sizes s p.d p.frame.0 pre c.node-node.result c.position-position.result node_of position_of;
    }

-- refilled: where the arms meet, the NFL and the head are written.
pub returns : goal.returns
returns c =
    let p = c.args in
    let s = p.state.now in
    let pre : Sound p.sizes s × (((p.d < p.sizes.domains) × (p.frame.0 < p.sizes.frames) × Ordinary p.sizes s p.d) × (is_mapped_by p.sizes s p.d p.frame.0 ≡ true)) = (c.requires.sound, (c.requires.d_lt_domains, c.requires.frame_value)) in
    let node_of : c.node-node.result ≡ node_of_leaf (get p.sizes s (leaf p.frame.0)) = c.node-node.ensures ∙ ap node_of_leaf c.read_leaf-id.ensures in
    let position_of : c.position-position.result ≡ position_of_leaf (get p.sizes s (leaf p.frame.0)) = c.position-position.ensures ∙ ap position_of_leaf c.read_leaf-id.ensures in
    let refilled : unmapped p.sizes s p.d p.frame.0 c.match-plan.state ≡ releasing p.sizes s p.d p.frame.0 = elim c.match-plan.branch [
      | in-Mark w ↦ mark_done p.sizes s p.d p.frame.0 pre c.node-node.result c.position-position.result node_of position_of c.plan.result w.in-Mark.spot w.in-Mark.availability c.plan.ensures w.in-Mark.is w.entry_word-word.result c.match-plan.state w.entry_word-word.ensures (w.state-is ∙ w.mark.ensures)
      | in-Regather w ↦ regather_done p.sizes s p.d p.frame.0 pre c.node-node.result c.position-position.result node_of position_of c.plan.result c.plan.ensures w.in-Regather.is c.match-plan.state (w.state-is ∙ w.regather.ensures)
    ] in
    let both = left_unmapped p.sizes s p.d p.frame.0 pre c.domain.result c.domain.ensures c.match-plan.state c.unmap.new.state c.unmap.ensures refilled in
    record { state_after = both.0; sound_2 = both.1 }
