-- Laws of blocks: words written from an address on.
-- Assumes nothing.
use Prim.Native.Nat.{ℕ, ◌+◌, ◌<◌, ◌≤◌}
use mathlib.Core.Path.{◌≡◌, sym, ap, ap₂, ◌∙◌}
use mathlib.Core.List.{List, ◌++◌}
use native.Mathlib.Omega.{arith}
use lib.ListN.{length, take, drop, set, get_or}
use lib.Seq.{paste, sets, take-length}
use Rattle.std.proofs.lemmas.List.Edits.{sets-eq, paste_more}

-- One more, which is the next.
pub pasted_more : (s : List ℕ) (a i : ℕ) (ws : List ℕ) {l : List ℕ} {v : ℕ} → l ≡ paste s a ws i → v ≡ get_or ws i 0 → i < length ws → a + length ws ≤ length s → set l (a + i) v ≡ paste s a ws (i + 1)
pasted_more s a i ws is next more inside =
    ap₂ (λ (r : List ℕ) (x : ℕ). set r (a + i) x) is next ∙ paste_more s a ws i 0 (omega arith) (omega arith)

-- All of them.
pub pasted_whole : (s : List ℕ) (a n : ℕ) (ws : List ℕ) → n ≡ length ws → a + length ws ≤ length s → paste s a ws n ≡ sets s a ws
pasted_whole s a n ws whole h =
    ap (paste s a ws) whole
    ∙ ap (λ (l : List ℕ). take a s ++ l ++ drop (a + length ws) s) (take-length ws)
    ∙ sym (sets-eq ws s a h)
