-- What the code asks of one hole after the other. Readers may pass over this.
use Rattle.std.specs.Prelude.{ℕ, ◌+◌, Bool, ◌&&◌, leb, ltb}

-- A hole of len frames from first on: from a frame on, not empty, below P.
abbrev pub hole_fits : ℕ → ℕ → ℕ → ℕ → Bool
hole_fits p from first len = leb from first && ltb 0 len && leb (first + len) p
