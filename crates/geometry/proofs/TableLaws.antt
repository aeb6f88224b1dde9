-- Laws of the table of lowest free positions.
-- Assumes nothing.
use Prim.Native.Nat.{ℕ, zero, suc, ◌+◌, ◌<◌}
use mathlib.Core.Path.{◌≡◌, sym, ap, ◌∙◌}
use native.Mathlib.Nat.{not-suc-le-zero, le_of_suc-le-suc, add-zero, zero-add, add-suc, suc-add}
use lib.ListN.{get_or}
use Rattle.geometry.specs.Tables.{tabulate, lowest_free, lowest_table}

-- Entry k of a table of f is f there.
pub tabulated : (f : ℕ → ℕ) (i n k : ℕ) → k < n → get_or (tabulate f i n) k 0 ≡ f (i + k)
unfolding tabulate
tabulated f i zero k h = absurd (not-suc-le-zero h)
tabulated f i (suc n) zero h = ap f (sym (add-zero i))
tabulated f i (suc n) (suc k) h =
    tabulated f (suc i) n k (le_of_suc-le-suc h) ∙ ap f (suc-add i k ∙ sym (add-suc i k))

pub lowest_at : (a : ℕ) → a < 256 → get_or lowest_table a 0 ≡ lowest_free a
unfolding lowest_table
lowest_at a h = tabulated lowest_free 0 256 a h ∙ ap lowest_free (zero-add a)
