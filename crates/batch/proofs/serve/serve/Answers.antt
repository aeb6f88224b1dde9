-- `batch::serve::serve` meets its contract.
-- Assumes nothing.
use mathlib.Core.Path.{◌≡◌, sym, ap, ◌∙◌}
use mathlib.Core.Bool.{true, false}
use Prim.Native.Nat.{ℕ}
use native.Mathlib.Omega.{arith}
use Rattle.std.proofs.lemmas.Result.{err_from_is_err_and}
use Rattle.sound.specs.Contents.{sizes_in}
use Rattle.sound.specs.Sound.{Sound}
use Rattle.sound.proofs.SoundLaws.{number_sound}
use Rattle.batch.specs.Numbers.{refusal_number, number_of}
use Rattle.batch.specs.Batch.{requests_fit, served}
use Rattle.batch.proofs.ServeCodeLaws.{unsound_some, not_passed, not_fitting, not_twice, all-served}
use Rattle.batch.proofs.serve.serve.Goals as goal

pub returns-in_err-audit : goal.returns-in_err-audit
returns-in_err-audit c =
    let a = c.args in
    let p = err_from_is_err_and c.from_residual.result c.from_residual.ensures.1 in
    let e = c.in_err-audit.field-0.0 in
    let told = ap number_of p.1 ∙ ap refusal_number p.2 in
    ap (λ (n : ℕ). served n a.state.now a.answers.now) told ∙ not_passed a.state.now a.requests.now a.answers.now _ c.in_err-audit.ensures (unsound_some e)

pub returns-then-not-requests_fit : goal.returns-then-not-requests_fit
returns-then-not-requests_fit c =
    let a = c.args in
    let other : requests_fit a.requests.now ≡ false = cc in
    not_fitting a.state.now a.requests.now a.answers.now (sym c.in_ok-audit.ensures) other

pub returns-then-answers-requests : goal.returns-then-answers-requests
returns-then-answers-requests c =
    let a = c.args in
    let fitting : requests_fit a.requests.now ≡ true = cc in
    not_twice a.state.now a.requests.now a.answers.now (sym c.in_ok-audit.ensures) fitting c.if-answers-requests.true

pub read-sizes-requires : goal.read-sizes-requires
read-sizes-requires c =
    let sound : Sound (sizes_in c.args.state.now) c.args.state.now = number_sound c.args.state.now (sym c.in_ok-audit.ensures) in
    omega (arith, sound.laid_out.laid.long)

pub serve_all-requires-clause-sound : goal.serve_all-requires-clause-sound
serve_all-requires-clause-sound c =
    let sound : Sound (sizes_in c.args.state.now) c.args.state.now = number_sound c.args.state.now (sym c.in_ok-audit.ensures) in
    rw c.read-sizes.ensures sound

pub returns : goal.returns
returns c =
    let a = c.args in
    let fitting : requests_fit a.requests.now ≡ true = cc in
    all-served a.state.now a.requests.now a.answers.now (sym c.in_ok-audit.ensures) fitting c.if-answers-requests.false
    c.serve_all.new.state c.serve_all.new.answers (rw c.read-sizes.ensures at c.serve_all.ensures.state_after) (rw c.read-sizes.ensures at c.serve_all.ensures.answers_after)
