-- `questions::passed` meets its contract: the number of the first question that is not passed.
use mathlib.Core.Path.{◌≡◌, sym, ap, ◌∙◌}
use Rattle.std.proofs.Common.{rules}
use Rattle.calls.specs.Table.{Uses, call_of}
use Rattle.questions.specs.Numbers.{number_of}
use Rattle.questions.specs.Questions.{well_formed}
use Rattle.questions.proofs.AnsweringCases.{number_7}
use Rattle.questions.proofs.RequestCodeLaws.{stops_at_7, stops_at_8, stops_at_9, stops_at_16, liveness_stops}
use Rattle.questions.proofs.passed.Goals as goal

pub returns-in_err-call-clause-number : goal.returns-in_err-call-clause-number
returns-in_err-call-clause-number c =
    let a = c.args in
    let is_7 : number_of c.from_residual.result ≡ 7 = search rules in
    is_7
    ∙ sym (number_7 a.sizes a.state.now (call_of a.q.call) a.q.domain a.q.frame a.q.count (ap (λ (u : Uses). well_formed u a.q.frame a.q.count) c.in_err-call.ensures.1))

pub returns-then-not-well_formed-clause-number : goal.returns-then-not-well_formed-clause-number
returns-then-not-well_formed-clause-number c =
    let a = c.args in
    stops_at_7 a.sizes a.state.now a.q.call a.q.domain a.q.frame a.q.count _ _ c.uses-u.ensures c.in_ok-call.ensures c.if-not-well_formed.ensures

pub returns-then-not-domain_fits-clause-number : goal.returns-then-not-domain_fits-clause-number
returns-then-not-domain_fits-clause-number c =
    let a = c.args in
    stops_at_8 a.sizes a.state.now a.q.call a.q.domain a.q.frame a.q.count _ _ c.uses-u.ensures c.in_ok-call.ensures c.if-not-well_formed.ensures c.if-not-domain_fits.ensures

pub returns-then-not-frames_fit-clause-number : goal.returns-then-not-frames_fit-clause-number
returns-then-not-frames_fit-clause-number c =
    let a = c.args in
    stops_at_9 a.sizes a.state.now a.q.call a.q.domain a.q.frame a.q.count _ _ c.uses-u.ensures c.in_ok-call.ensures c.if-not-well_formed.ensures c.if-not-domain_fits.ensures c.if-not-frames_fit.ensures

pub returns-then-not-frames_outside-clause-number : goal.returns-then-not-frames_outside-clause-number
returns-then-not-frames_outside-clause-number c =
    let a = c.args in
    stops_at_16 a.sizes a.state.now a.q.call a.q.domain a.q.frame a.q.count _ _ c.uses-u.ensures c.in_ok-call.ensures c.if-not-well_formed.ensures c.if-not-domain_fits.ensures c.if-not-frames_fit.ensures c.if-not-frames_outside.ensures

pub returns-in_err-liveness_refusal-clause-number : goal.returns-in_err-liveness_refusal-clause-number
returns-in_err-liveness_refusal-clause-number c =
    let a = c.args in
    let refused : number_of c.from_residual-in_err-liveness_refusal.result ≡ number_of c.liveness_refusal.result = search rules in
    refused
    ∙ c.liveness_refusal.ensures
    ∙ liveness_stops a.sizes a.state.now a.q.call a.q.domain a.q.frame a.q.count _ _ c.uses-u.ensures c.in_ok-call.ensures c.if-not-well_formed.ensures c.if-not-domain_fits.ensures c.if-not-frames_fit.ensures c.if-not-frames_outside.ensures c.opens.result c.is_live.result c.opens.ensures c.is_live.ensures

pub returns-clause-number : goal.returns-clause-number
returns-clause-number c =
    let a = c.args in
    let passed : 0 ≡ number_of c.liveness_refusal.result = search rules in
    passed
    ∙ c.liveness_refusal.ensures
    ∙ liveness_stops a.sizes a.state.now a.q.call a.q.domain a.q.frame a.q.count _ _ c.uses-u.ensures c.in_ok-call.ensures c.if-not-well_formed.ensures c.if-not-domain_fits.ensures c.if-not-frames_fit.ensures c.if-not-frames_outside.ensures c.opens.result c.is_live.result c.opens.ensures c.is_live.ensures
