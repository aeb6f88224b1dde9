-- Laws of words in a row: zeros.
-- Assumes nothing.
use Prim.Native.Nat.{ℕ, zero, suc, ◌+◌, ◌≤◌}
use mathlib.Core.Path.{◌≡◌, sym, ap, ◌∙◌}
use mathlib.Core.List.{List, []}
use native.Mathlib.Numerals.{add-one}
use native.Mathlib.Omega.{arith}
use lib.ListN.{length, set, replicate}
use lib.Seq.{paste}
use borrow.Rule.Slice.PartMut.{put_mid}
use Rattle.std.proofs.lemmas.List.{length-replicate}
use Rattle.std.proofs.lemmas.List.Edits.{paste_none, fill_from_more}
use Rattle.std.proofs.lemmas.Slice.{put_mid-paste}
use Rattle.layout.specs.Places.{zeros}

-- Written as a part.
zeros_pasted : (s : List ℕ) (at n : ℕ) → at + n ≤ length s → zeros s at n ≡ paste s at (replicate n 0) n
unfolding zeros
zeros_pasted s at zero l = paste_none s at []
zeros_pasted s at (suc n) l =
    ap (λ (w : List ℕ). set w (at + n) 0) (zeros_pasted s at n (omega arith)) ∙ fill_from_more s at n 0 (omega arith) ∙ ap (λ (k : ℕ). paste s at (replicate k 0) k) (add-one n)

-- A part that is filled with zeros.
pub zeros_filled : (s : List ℕ) (at k n : ℕ) (ws : List ℕ) → at + n ≤ length s → n ≡ k → ws ≡ replicate n 0 → put_mid at k s ws ≡ zeros s at n
zeros_filled s at k n ws l same filled =
    put_mid-paste at k s ws (replicate n 0) n filled same (sym (length-replicate n 0)) ∙ sym (zeros_pasted s at n l)
