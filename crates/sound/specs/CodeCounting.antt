-- The free positions of a TreeLing, and the pages that they leave, as the audit's code counts them. Readers may pass over this.
use Rattle.std.specs.Prelude.{ℕ, suc, ◌-◌, List, cond, eqb}
use Rattle.layout.specs.declared.Sizes.{Sizes}
use Rattle.layout.specs.Bounded.{sum}
use Rattle.geometry.specs.Tables.{number_free}
use Rattle.geometry.specs.Entries.{availability_of}
use Rattle.layout.specs.Places.{get, entry, owner}

module _ (z : Sizes) (s : List ℕ) where
  -- The free positions of TreeLing t among its first n entries.
  unfoldable pub free_in : ℕ → ℕ → ℕ
  free_in t n = sum n (λ k. number_free (availability_of (get z s (entry t k))))

  -- The pages of domain d in the first n TreeLings, as its free positions leave them.
  unfoldable pub pages_left : ℕ → ℕ → ℕ
  pages_left d n = sum n (λ t. cond (eqb (get z s (owner t)) (suc d)) (4096 - free_in t 512) 0)
