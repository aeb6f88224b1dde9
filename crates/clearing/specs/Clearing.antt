-- A TreeLing that is returned to the pool: document 01, of close, "its records, NFL words and leaf IDs become 0"; request M-100, of trim, "with zeroed record and NFL words".
-- Request M-104: "the last owner + 1, kept while the rest of an unowned record is zero".
use Rattle.std.specs.Prelude.{ℕ, zero, suc, List, Bool, cond}
use Rattle.layout.specs.declared.Sizes.{Sizes}
use Rattle.layout.specs.Places.{address, zeros, treeling, entry}
use Rattle.sound.specs.Sentences.{of_rank}

-- The NFL words of TreeLing t and its record, cleared; the record's fifth word, its last owner, stays.
abbrev pub treeling_cleared : Sizes → List ℕ → ℕ → List ℕ
treeling_cleared z r t = zeros (zeros r (address z (entry t 0)) 512) (address z (treeling t 0)) 4

-- Those of domain d's first n TreeLings by rank that go, in words r; ranks are those of words s.
unfoldable pub treelings_cleared : Sizes → List ℕ → ℕ → (ℕ → Bool) → List ℕ → ℕ → List ℕ
treelings_cleared z s d goes r zero = r
treelings_cleared z s d goes r (suc q) =
    let before = treelings_cleared z s d goes r q in
    cond (goes q) (treeling_cleared z before (of_rank z s d q)) before
