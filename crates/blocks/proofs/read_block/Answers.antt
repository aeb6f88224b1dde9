-- `blocks::read_block` meets its contract.
-- Assumes nothing.
use Prim.Native.Nat.{ℕ}
use mathlib.Core.Path.{ap, ◌∙◌}
use native.Mathlib.Omega.{arith}
use borrow.Author.Tests.{tests}
use lib.ListN.{take, drop}
use Rattle.std.proofs.Common.{rules}
use Rattle.layout.proofs.MadeLaws.{part_made}
use Rattle.blocks.proofs.read_block.Goals as goal

pub returns : goal.returns
returns c =
    let s = c.args.state.now in
    part_made s c.entry-at.result 8 (omega arith) c.from_fn.ensures.items (λ k y q h. search (rules, tests))
    ∙ ap (λ (a : ℕ). take 8 (drop a s)) c.entry-at.ensures
