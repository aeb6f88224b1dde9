-- `every_list::write_list` meets its contract. The loop's invariant: the requests from number k on are written.
-- Assumes nothing.
use native.Mathlib.Omega.{arith}
use mathlib.Core.Path.{ap, ◌∙◌}
use mathlib.Core.List.{List}
use Prim.Native.Nat.{ℕ, ◌-◌, ◌*◌}
use lib.Seq.{sets}
use Rattle.every_list.proofs.CodeLaws.{none_written, one_written, first_digit, next_digit}
use Rattle.every_list.proofs.write_list.Goals as goal

pub loop-k-init : goal.loop-k-init
loop-k-init c =
    let a = c.args in
    (first_digit a.requests a.rank, none_written a.words.now a.requests a.rank)

pub loop-k-preserved : goal.loop-k-preserved
loop-k-preserved c =
    let m = c.loop-k in
    let a = c.args in
    let r = c.request.result in (
      next_digit a.requests m.k a.rank m.left (omega arith) m.auto.k m.invariant.0,
      c.write_request.ensures
          ∙ ap (λ (l : List ℕ). sets l (4 * (m.k - 1)) r) m.invariant.1
          ∙ one_written a.words.now r a.requests m.k a.rank m.left _ (omega arith) m.auto.k m.invariant.0 (omega arith) c.request.ensures,
    )
