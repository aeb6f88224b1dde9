-- `answers::run` is safe and ends.
-- Assumes nothing.
use Prim.Native.Nat.{ℕ, ◌≤◌}
use mathlib.Core.Path.{sym, subst}
use lib.ListN.{length-replicate}
use Rattle.layout.specs.Places.{word_count}
use Rattle.answers.proofs.run.Goals as goal

pub slice_bounds-serve_in-end : goal.slice_bounds-serve_in-end
slice_bounds-serve_in-end g c = sym (length-replicate {A = ℕ} 524288 0)

pub slice_bounds-serve_in-end-2 : goal.slice_bounds-serve_in-end-2
slice_bounds-serve_in-end-2 g c = sym (length-replicate {A = ℕ} 262144 0)

pub slice_bounds-serve_in-end-3 : goal.slice_bounds-serve_in-end-3
slice_bounds-serve_in-end-3 g c = sym (length-replicate {A = ℕ} 32768 0)

pub serve_in-requires-clause-allowed : goal.serve_in-requires-clause-allowed
serve_in-requires-clause-allowed g c =
    let fits = c.in_ok-sizes.ensures in
    (fits.0, subst (λ (k : ℕ). word_count c.in_ok-sizes.sizes ≤ k) (sym (length-replicate {A = ℕ} 524288 0)) fits.1)

pub serve_in-requires-clause-value : goal.serve_in-requires-clause-value
serve_in-requires-clause-value g c = sym (length-replicate {A = ℕ} 32768 0)
