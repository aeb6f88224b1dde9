-- `batch::serve::words_of` meets its contract.
-- Assumes nothing.
use mathlib.Core.Path.{sym, ap, ◌∙◌}
use Rattle.pages.specs.Answers.{Refused, answer_of}
use Rattle.batch.proofs.ServeCodeLaws.{refused_words}
use Rattle.batch.proofs.serve.words_of.Goals as goal

pub returns-in-Err : goal.returns-in-Err
returns-in-Err c =
    refused_words (answer_of c.args.answer) c.from.result (ap answer_of c.in-Err.is ∙ ap Refused (sym c.from.ensures))
