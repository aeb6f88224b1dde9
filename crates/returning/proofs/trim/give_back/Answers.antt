-- `returning::trim::give_back` meets its contract.
use Prim.Native.Nat.{ℕ, suc, ◌-◌, ◌*◌, ◌<◌}
use mathlib.Core.Path.{◌≡◌, refl, ap, subst, sym, ◌∙◌}
use mathlib.Core.List.{List}
use native.Mathlib.Omega.{arith}
use Rattle.layout.specs.Places.{get, last}
use Rattle.sound.specs.Sentences.{of_rank}
use Rattle.world.specs.World.{owned}
use Rattle.gathering.specs.Regathering.{regathered}
use Rattle.gathering.specs.CodeGathering.{Chain, Filled, above_at, above_in, word_of}
use Rattle.gathering.proofs.GatherLaws.{own_chain, fill_none}
use Rattle.returning.specs.Returning.{number_kept}
use Rattle.returning.proofs.TrimCodeLaws.{left_is, gathered_chain, kept_links, returned_is, all_returned, settle_asks, settled_is}
use Rattle.returning.proofs.trim.give_back.Goals as goal
use Rattle.returning.proofs.trim.give_back.Goals.{Start}

-- Nothing is written yet.
unwritten : (c : Start) → Filled c.args.sizes c.args.state.now c.args.d c.args.state.now (owned c.args.sizes c.args.state.now c.args.d) (word_of c.args.sizes c.args.state.now c.args.d)
unwritten c = fill_none (own_chain c.args.sizes c.args.state.now c.requires.sound c.args.d c.requires.d_lt_domains.0)

pub clear_full-requires-clause-chain : goal.clear_full-requires-clause-chain
clear_full-requires-clause-chain c =
    let r = c.requires in
    gathered_chain r.sound r.d_lt_domains.0 r.d_lt_domains.3 r.d_lt_domains.1 r.summed.0 r.summed.1 r.d_lt_domains.2 (unwritten (goal.at.clear_full-requires-clause-chain c).Start)

pub returns-then-left-eq0 : goal.returns-then-left-eq0
returns-then-left-eq0 c =
    let r = c.requires in
    all_returned r.sound r.d_lt_domains.0 r.d_lt_domains.3 r.d_lt_domains.1 r.summed.0 r.summed.1 r.d_lt_domains.2 (unwritten (goal.at.returns-then-left-eq0 c).Start) c.if-left-eq0.true c.clear_full.ensures c.chain.ensures

pub clear_full-requires-2-clause-chain : goal.clear_full-requires-2-clause-chain
clear_full-requires-2-clause-chain c =
    let r = c.requires in
    gathered_chain r.sound r.d_lt_domains.0 r.d_lt_domains.3 r.d_lt_domains.1 r.summed.0 r.summed.1 r.d_lt_domains.2 c.gather.ensures

pub renumber-end-requires-clause-links : goal.renumber-end-requires-clause-links
renumber-end-requires-clause-links c =
    let r = c.requires in
    kept_links r.sound r.d_lt_domains.0 r.d_lt_domains.3 r.d_lt_domains.1 r.summed.0 r.summed.1 r.d_lt_domains.2 c.gather.ensures

pub settle-requires : goal.settle-requires
settle-requires c =
    let r = c.requires in
    let z = c.args.sizes in
    let n = c.args.left in
    let some : 0 < number_kept z c.args.state.now c.args.d = omega (arith, c.if-left-eq0.false, left_is r.sound r.d_lt_domains.0 r.d_lt_domains.3 r.d_lt_domains.1 r.summed.0 r.summed.1) in
    let asks =
    subst (λ (w : List ℕ). Chain z w c.args.d n × (((0 < n) × (get z w (last c.args.d) ≡ suc (of_rank z w c.args.d (n - 1)))) × ((p : ℕ) → p < 512 * n → above_in z w c.args.d p < 1073741824)))
    (sym (returned_is r.sound r.d_lt_domains.0 r.d_lt_domains.3 r.d_lt_domains.1 r.summed.0 r.summed.1 r.d_lt_domains.2 c.gather.ensures c.clear_full-2.ensures c.renumber-end.ensures (rw c.from.ensures at c.chain-2.ensures)))
    (settle_asks r.sound r.d_lt_domains.0 r.d_lt_domains.3 r.d_lt_domains.1 r.summed.0 r.summed.1 r.d_lt_domains.2 c.gather.ensures (λ j _. refl) some) in
    record { chain = asks.0; treelings_nonzero = asks.1.0; by_index = asks.1.1 }

pub returns : goal.returns
returns c =
    let r = c.requires in
    let z = c.args.sizes in
    let n = c.args.left in
    let some : 0 < number_kept z c.args.state.now c.args.d = omega (arith, c.if-left-eq0.false, left_is r.sound r.d_lt_domains.0 r.d_lt_domains.3 r.d_lt_domains.1 r.summed.0 r.summed.1) in
    settled_is r.sound r.d_lt_domains.0 r.d_lt_domains.3 r.d_lt_domains.1 r.summed.0 r.summed.1 r.d_lt_domains.2 c.gather.ensures (λ j _. refl) some
    (c.settle.ensures
    ∙ ap (λ (w : List ℕ). regathered z w c.args.d n (above_at z w)) (returned_is r.sound r.d_lt_domains.0 r.d_lt_domains.3 r.d_lt_domains.1 r.summed.0 r.summed.1 r.d_lt_domains.2 c.gather.ensures c.clear_full-2.ensures c.renumber-end.ensures (rw c.from.ensures at c.chain-2.ensures)))
