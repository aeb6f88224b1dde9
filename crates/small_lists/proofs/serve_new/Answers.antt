-- `small_lists::serve_new` meets its contract.
-- Assumes nothing.
use Rattle.small_lists.proofs.NumberLaws.{made, heard}
use Rattle.small_lists.proofs.serve_new.Goals as goal

pub returns : goal.returns
returns c =
    let make = c.make in
    let serve = c.serve in
    heard _ make.new.state c.args.requests.now serve.new.state serve.new.answers c.requires (made _ make.new.state make.ensures) serve.ensures
