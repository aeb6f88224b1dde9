-- `layout::words::clear_words` meets its contract.
-- Assumes nothing.
use mathlib.Core.Path.{◌≡◌, ap, ◌∙◌}
use Prim.Native.Nat.{ℕ, ◌+◌, ◌-◌}
use native.Mathlib.Omega.{arith}
use lib.ListN.{length, take, drop, replicate}
use Rattle.std.proofs.Common.{rules}
use Rattle.layout.proofs.WordLaws.{zeros_filled}
use Rattle.layout.proofs.words.clear_words.Goals as goal

pub returns : goal.returns
returns c =
    let a = c.args in
    let long : length (take (a.at + a.n - a.at) (drop a.at a.state.now)) ≡ a.n = search rules in
    zeros_filled a.state.now a.at (a.at + a.n - a.at) a.n c.fill.new.self c.requires (omega arith)
    (c.fill.ensures.after (λ y k. k) ∙ ap (λ (k : ℕ). replicate k 0) long)
