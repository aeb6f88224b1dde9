-- `batch::serve::serve_all` meets its contract.
use Rattle.pages.specs.Answers.{answer_of}
use Rattle.batch.proofs.ServeCodeLaws.{answer_fits, none_served, state_next, answers_next}
use Rattle.batch.proofs.serve.serve_all.Goals as goal

pub loop-k-init : goal.loop-k-init
loop-k-init c =
    let a = c.args in
    let none = none_served a.sizes a.state.now a.requests.now a.answers.now in
    record { state_is = none.0; answers_are = none.1; sound = c.requires.sound }

pub words_of-requires : goal.words_of-requires
words_of-requires c =
    let q = c.request_at-q.result in
    answer_fits c.args.sizes c.loop-k.state c.answer-a.new.state (answer_of c.answer-a.result) q.call q.domain q.frame q.count c.loop-k.invariant.sound c.answer-a.ensures.state_after

pub loop-k-preserved : goal.loop-k-preserved
loop-k-preserved c =
    let a = c.args in
    let q = c.request_at-q.result in
    let i = c.loop-k.invariant in
    record {
      state_is = state_next a.sizes a.state.now a.requests.now a.answers.now c.loop-k.k c.loop-k.state c.loop-k.answers c.answer-a.new.state c.write_eight.new.to c.words_of.result
          (answer_of c.answer-a.result) q.call q.domain q.frame q.count i.state_is c.answer-a.ensures.state_after c.request_at-q.ensures.call_value c.request_at-q.ensures.frame_value;
      answers_are = answers_next a.sizes a.state.now a.requests.now a.answers.now c.loop-k.k c.loop-k.state c.loop-k.answers c.answer-a.new.state c.write_eight.new.to c.words_of.result
          (answer_of c.answer-a.result) q.call q.domain q.frame q.count i.state_is c.answer-a.ensures.state_after c.request_at-q.ensures.call_value c.request_at-q.ensures.frame_value
          i.answers_are c.words_of.ensures c.write_eight.ensures;
      sound = c.answer-a.ensures.sound_2;
    }
