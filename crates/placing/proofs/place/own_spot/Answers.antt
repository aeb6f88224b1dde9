-- `placing::place::own_spot` meets its contract.
use mathlib.Core.Path.{◌≡◌, sym, ap, ◌∙◌}
use native.Mathlib.Omega.{arith}
use borrow.Author.Rules.{rules}
use Rattle.std.specs.Prelude.{Some, None}
use Rattle.placing.proofs.PlaceCodeLaws.{head_at_lem, search_none, search_here, search_next, search_following, search_full}
use Rattle.placing.proofs.place.own_spot.Goals as goal

pub returns-then-head-eq0 : goal.returns-then-head-eq0
returns-then-head-eq0 c =
    search_none c.args.sizes c.args.state.now c.requires.sound c.args.d c.requires.d_lt_domains c.requires.ordinary c.domain.result c.domain.ensures c.if-head-eq0.true

pub returns-in-Some : goal.returns-in-Some
returns-in-Some c =
    ap Some c.at.ensures
    ∙ search_here c.args.sizes c.args.state.now c.requires.sound c.args.d c.requires.d_lt_domains c.requires.ordinary _ _ (head_at_lem c.args.sizes c.args.state.now c.requires.sound c.args.d c.requires.d_lt_domains c.requires.ordinary c.domain.result c.domain.ensures c.domain-2.result _ c.domain-2.ensures (omega (arith, c.if-head-eq0.false))) c.read_block.result c.read_block.ensures c.in-Some.k (sym c.first_free.ensures ∙ c.in-Some.is)

pub returns-then-b-lt63 : goal.returns-then-b-lt63
returns-then-b-lt63 c =
    ap Some c.at-then-b-lt63.ensures
    ∙ search_next c.args.sizes c.args.state.now c.requires.sound c.args.d c.requires.d_lt_domains c.requires.ordinary _ _ (head_at_lem c.args.sizes c.args.state.now c.requires.sound c.args.d c.requires.d_lt_domains c.requires.ordinary c.domain.result c.domain.ensures c.domain-2.result _ c.domain-2.ensures (omega (arith, c.if-head-eq0.false))) c.read_block.result c.read_block.ensures (sym c.first_free.ensures ∙ c.in_default.is) c.if-b-lt63.true

pub returns-in_err-next : goal.returns-in_err-next
returns-in_err-next c =
    let none : c.from_residual.result ≡ None = search rules in
    none
    ∙ search_full c.args.sizes c.args.state.now c.requires.sound c.args.d c.requires.d_lt_domains c.requires.ordinary _ _ (head_at_lem c.args.sizes c.args.state.now c.requires.sound c.args.d c.requires.d_lt_domains c.requires.ordinary c.domain.result c.domain.ensures c.domain-2.result _ c.domain-2.ensures (omega (arith, c.if-head-eq0.false))) c.read_block.result c.read_block.ensures (sym c.first_free.ensures ∙ c.in_default.is) c.if-b-lt63.false c.treeling.result c.treeling.ensures (omega (arith, c.in_err-next.ensures))

pub returns : goal.returns
returns c =
    ap Some c.at-2.ensures
    ∙ search_following c.args.sizes c.args.state.now c.requires.sound c.args.d c.requires.d_lt_domains c.requires.ordinary _ _ (head_at_lem c.args.sizes c.args.state.now c.requires.sound c.args.d c.requires.d_lt_domains c.requires.ordinary c.domain.result c.domain.ensures c.domain-2.result _ c.domain-2.ensures (omega (arith, c.if-head-eq0.false))) c.read_block.result c.read_block.ensures (sym c.first_free.ensures ∙ c.in_default.is) c.if-b-lt63.false c.treeling.result c.treeling.ensures c.in_ok-next.next (omega (arith, c.in_ok-next.ensures))
