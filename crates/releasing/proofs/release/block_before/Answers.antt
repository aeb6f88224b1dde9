-- `releasing::release::block_before` meets its contract.
use Prim.Native.Nat.{ℕ, ◌-◌}
use mathlib.Core.Path.{◌≡◌, ap, ◌∙◌}
use native.Mathlib.Omega.{arith}
use lib.ListN.{get_or}
use borrow.Author.Rules.{rules}
use Rattle.std.specs.Prelude.{Some, None}
use Rattle.releasing.proofs.ReleaseCodeLaws.{before_here, before-previous, before_none}
use Rattle.releasing.proofs.release.block_before.Goals as goal

pub returns-in-Some : goal.returns-in-Some
returns-in-Some c =
    let p = c.args in
    let is : c.in-Some.before ≡ p.b - 1 = omega (arith, c.in-Some.ensures) in
    ap (λ (e : ℕ). Some (p.t, e)) is
    ∙ before_here p.sizes p.state.now p.d p.t p.b (c.requires.sound, (c.requires.d_lt_domains, c.requires.t_value)) (omega (arith, c.in-Some.ensures))

pub returns-in_err-previous : goal.returns-in_err-previous
returns-in_err-previous c =
    let p = c.args in
    let none : c.from_residual.result ≡ None = search rules in
    none
    ∙ before_none p.sizes p.state.now p.d p.t p.b (c.requires.sound, (c.requires.d_lt_domains, c.requires.t_value)) c.treeling.result c.treeling.ensures (omega (arith, c.in_default.ensures)) (omega (arith, c.in_err-previous.ensures))

pub returns : goal.returns
returns c =
    let p = c.args in
    let is : c.in_ok-previous.previous ≡ get_or p.state.now c.treeling.result 0 - 1 = omega (arith, c.in_ok-previous.ensures) in
    ap (λ (u : ℕ). Some (u, 63)) is
    ∙ before-previous p.sizes p.state.now p.d p.t p.b (c.requires.sound, (c.requires.d_lt_domains, c.requires.t_value)) c.treeling.result c.treeling.ensures (omega (arith, c.in_default.ensures)) (λ e. omega (arith, c.in_ok-previous.ensures))
