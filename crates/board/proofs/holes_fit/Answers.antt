-- `board::holes_fit` meets its contract.
-- Assumes nothing.
use Prim.Native.Nat.{ℕ, ◌+◌, ◌-◌, ◌*◌}
use mathlib.Core.Path.{◌≡◌, sym, ap, subst, ◌∙◌}
use native.Mathlib.Omega.{arith}
use lib.ListN.{length, drop, take, get_or}
use Rattle.std.proofs.lemmas.List.{length_push}
use Rattle.board.proofs.HoleLaws.{Left, all_left, pair_taken, passed_none, fits_facts, passed_next, passed_stops, passed_all, too_many}
use Rattle.board.proofs.holes_fit.Goals as goal

pub returns-then-n-gt8-clause-value : goal.returns-then-n-gt8-clause-value
returns-then-n-gt8-clause-value c = let a = c.args in too_many a.frames a.n (drop a.at a.words.now) c.if-n-gt8.true

pub loop-pair-init : goal.loop-pair-init
loop-pair-init c =
    let a = c.args in
    let items = c.chunks_exact-pair-items in
    let same = c.into_iter-pair-iterator.ensures.into_iter_gives in
    let part : a.at + 2 * a.n - a.at ≡ 2 * a.n = omega arith in
    let left = all_left a.words.now a.at a.n (c.requires c.if-n-gt8.false) in
    let rest : c.into_iter-pair-iterator.result.rest.now ≡ take (2 * a.n) (drop a.at a.words.now) =
    ap (λ i. i.rest.now) same ∙ items.ensures.rest ∙ ap (λ (k : ℕ). take k (drop a.at a.words.now)) part in
    (ap (λ i. i.size) same ∙ items.ensures.size, subst (Left a.n 0 (drop a.at a.words.now)) (sym rest) left, passed_none a.frames (drop a.at a.words.now))

pub returns-then-not-hole_fits-clause-value : goal.returns-then-not-hole_fits-clause-value
returns-then-not-hole_fits-clause-value c =
    let a = c.args in
    let m = c.loop-pair in
    let e = c.in-Some.ensures.steps.1 in
    let h = pair_taken a.n (length m.yielded) (drop a.at a.words.now) m.pair-iterator.rest.now _ _ m.invariant.1 e.0 (e.1 ∙ m.invariant.0) in
    passed_stops a.frames (drop a.at a.words.now) a.n (length m.yielded) m.from _ _ h.some m.invariant.2 h.first_is h.length_is (sym c.hole_fits.ensures ∙ c.if-not-hole_fits.true)

pub overflow_add-from : goal.overflow_add-from
overflow_add-from c =
    let a = c.args in
    let pair = c.in-Some.pair.now in
    omega (arith, fits_facts a.frames c.loop-pair.from (get_or pair 0 0) (get_or pair 1 0) (sym c.hole_fits.ensures ∙ c.if-not-hole_fits.false))

pub loop-pair-preserved : goal.loop-pair-preserved
loop-pair-preserved c =
    let a = c.args in
    let m = c.loop-pair in
    let e = c.in-Some.ensures.steps.1 in
    let h = pair_taken a.n (length m.yielded) (drop a.at a.words.now) m.pair-iterator.rest.now _ _ m.invariant.1 e.0 (e.1 ∙ m.invariant.0) in
    let next = passed_next a.frames (drop a.at a.words.now) (length m.yielded) m.from _ _ (omega arith) m.invariant.2 h.first_is h.length_is (sym c.hole_fits.ensures ∙ c.if-not-hole_fits.false) in
    rw length_push (c.in-Some.ensures.steps.0 ∙ m.invariant.0, h.left, record { fit = next.fit; from_is = omega (arith, next.from_is) })

pub returns-clause-value : goal.returns-clause-value
returns-clause-value c =
    let a = c.args in
    let m = c.loop-pair in
    let e = c.in-None.ensures.steps in
    passed_all a.frames (drop a.at a.words.now) a.n (length m.yielded) m.from m.invariant.1.within (omega (arith, m.invariant.0, m.invariant.1.long, e)) m.invariant.2
