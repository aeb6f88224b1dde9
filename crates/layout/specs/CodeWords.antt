-- Words that are not 0, as the code gathers them in a row. Readers may pass over this.
use Rattle.std.specs.Prelude.{ℕ, ◌+◌, ◌<◌, ◌≤◌, ◌≡◌, List, Bool, false, get_or}
use Rattle.layout.specs.Bounded.{count}

-- The first m of these words are those that are not 0 of the n words of s from an address on: a test that 0 fails holds of as many.
pub record Gathered (s : List ℕ) (at n : ℕ) (words : List ℕ) (m : ℕ) : Type 0 where
  pub most : m ≤ n
  pub some : (k : ℕ) → k < m → 0 < get_or words k 0
  pub same : (p : ℕ → Bool) → p 0 ≡ false → count m (λ k. p (get_or words k 0)) ≡ count n (λ k. p (get_or s (at + k) 0))
