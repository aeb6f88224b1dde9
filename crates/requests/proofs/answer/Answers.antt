-- `requests::answer` meets its contract.
-- Assumes nothing.
use mathlib.Core.Path.{◌≡◌, sym, ap, ◌∙◌}
use Prim.Native.Nat.{ℕ}
use Rattle.std.specs.Prelude.{Result}
use Rattle.std.proofs.lemmas.Result.{err_from_is_err_and}
use Rattle.layout.specs.Outcomes.{outcome}
use Rattle.pages.specs.declared.Done.{Done}
use Rattle.pages.specs.declared.Refusal.{Refusal}
use Rattle.pages.specs.Answers.{Refused, answer_of, refusal_number}
use Rattle.calls.specs.Table.{call_of}
use Rattle.questions.specs.Questions.{refusal_of}
use Rattle.questions.proofs.RequestCodeLaws.{refusal_some, refused_right, done_right, does_as}
use Rattle.requests.proofs.answer.Goals as goal

pub returns-in_err-call : goal.returns-in_err-call
returns-in_err-call c =
    let a = c.args in
    let p = err_from_is_err_and c.from_residual.result c.from_residual.ensures.1 in
    let e = c.in_err-call.field-0.0 in
    let both = refused_right a.sizes a.state.now a.q.call a.q.domain a.q.frame a.q.count c.requires.sound (refusal_number e) c.in_err-call.ensures.number (refusal_some e) in
    let told : answer_of c.from_residual.result ≡ Refused (refusal_number e) = ap (λ (r : Result Done Refusal). answer_of r) p.1 ∙ ap (λ (r : Refusal). Refused (refusal_number r)) p.2 in
    record { state_after = ap (λ x. outcome x a.state.now) told ∙ both.0; sound_2 = both.1 }

pub perform-requires : goal.perform-requires
perform-requires c =
    let a = c.args in
    let q = c.in_ok-call.ensures in
    record { sound = c.requires.sound; count_value = ap (λ (x : ℕ). refusal_of a.sizes a.state.now (call_of x) a.q.domain a.q.frame a.q.count) q.call ∙ sym q.number }

pub returns : goal.returns
returns c =
    let a = c.args in
    let q = c.in_ok-call.ensures in
    let o = outcome (answer_of c.perform.result) c.perform.new.state in
    record { state_after = done_right a.sizes a.state.now a.q.call a.q.domain a.q.frame a.q.count (sym q.number) o (does_as a.sizes a.state.now a.q.call _ a.q.domain a.q.frame a.q.count o (sym q.call) c.perform.ensures.state_after); sound_2 = c.perform.ensures.sound_2 }
