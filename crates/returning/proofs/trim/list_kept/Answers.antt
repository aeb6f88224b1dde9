-- `returning::trim::list_kept` meets its contract.
use Prim.Native.Nat.{ℕ, ◌-◌}
use mathlib.Core.Path.{◌≡◌, refl, ap, sym, ◌∙◌}
use native.Mathlib.Omega.{arith}
use borrow.Author.Tests.{ne_eqb, eq-eqb}
use lib.ListN.{get_or}
use Rattle.sound.specs.Sentences.{of_rank}
use Rattle.clearing.specs.CodeKept.{all_free}
use Rattle.returning.proofs.ListLaws.{listed_few, listed_more, listed_pass}
use Rattle.gathering.proofs.WalkLaws.{links_begin, link_names, link_of_lem, link_next}
use Rattle.returning.proofs.trim.list_kept.Goals as goal
use Rattle.returning.proofs.trim.list_kept.Goals.{then-sums-t-ne-ALL_FREE, else-sums-t-ne-ALL_FREE}

pub loop-init : goal.loop-init
loop-init c =
    (links_begin c.requires.chain c.first_link-link.ensures, c.requires.listed)

pub offset_bounds-kept-n : goal.offset_bounds-kept-n
offset_bounds-kept-n c =
    let m = c.loop in
    omega (arith, listed_few c.args.sizes c.args.state.now c.args.d c.args.sums.now m.counter m.n m.kept m.invariant.1, c.loop-test.true, c.requires.chain.most, c.requires.chain.laid.sizes.max_treelings)

pub overflow_add-n : goal.overflow_add-n
overflow_add-n c =
    let m = c.loop in
    omega (arith, listed_few c.args.sizes c.args.state.now c.args.d c.args.sums.now m.counter m.n m.kept m.invariant.1, c.loop-test.true, c.requires.chain.most, c.requires.chain.laid.sizes.max_treelings)

pub bounds-kept-n : goal.bounds-kept-n
bounds-kept-n c =
    let m = c.loop in
    omega (arith, listed_few c.args.sizes c.args.state.now c.args.d c.args.sums.now m.counter m.n m.kept m.invariant.1, c.loop-test.true, c.requires.chain.most, m.invariant.1.long)

pub loop-preserved : goal.loop-preserved
loop-preserved c =
    let z = c.args.sizes in
    let s = c.args.state.now in
    let d = c.args.d in
    let sums = c.args.sums.now in
    let m = c.loop in
    let l = c.loop-test.true in
    let h = c.requires.chain in
    let same : get_or sums (of_rank z s d m.counter) 0 ≡ get_or sums (m.link - 1) 0 = sym (ap (λ (i : ℕ). get_or sums i 0) (link_of_lem h l m.invariant.0)) in (
      link_next h l m.invariant.0 s refl c.next_link-link.ensures,
      elim c.if-sums-t-ne-ALL_FREE.branch [
        | then-sums-t-ne-ALL_FREE w ↦
            rw (w.kept-is, w.n-is)
            (listed_more z s d sums m.counter m.n m.kept m.invariant.1 m.link (omega (arith, listed_few z s d sums m.counter m.n m.kept m.invariant.1, l, h.most, m.invariant.1.long)) (ne_eqb _ all_free (λ e. w.if-sums-t-ne-ALL_FREE.true (sym same ∙ e))) (link_names h l m.invariant.0))
        | else-sums-t-ne-ALL_FREE w ↦
            rw (w.kept-is, w.n-is)
            (listed_pass z s d sums m.counter m.n m.kept m.invariant.1 (eq-eqb _ all_free (same ∙ w.if-sums-t-ne-ALL_FREE.false)))
      ],
    )

pub returns : goal.returns
returns c =
    let m = c.loop in
    let all : m.counter ≡ c.args.treelings = omega arith in
    rw all at m.invariant.1
