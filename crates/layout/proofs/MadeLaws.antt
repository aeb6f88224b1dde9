-- Laws of an array made by a function of the index: what `array::from_fn` answers.
-- Assumes nothing.
use Prim.Native.Nat.{ℕ, zero, suc, ◌+◌, ◌<◌, ◌≤◌}
use mathlib.Core.Path.{◌≡◌, sym, ap, subst, ◌∙◌}
use mathlib.Core.List.{List}
use native.Mathlib.Nat.{not-suc-le-zero, zero-add}
use native.Mathlib.Omega.{arith}
use denote.Param.Members.{Mut}
use lib.ListN.{length, get_or, take, drop, length-drop}
use Rattle.std.specs.Array.{IsFromFnResult, IsFromFnResultFrom}
use Rattle.std.specs.Fn.{Called}
use Rattle.std.proofs.lemmas.Grind.{same_number_lists}
use Rattle.std.proofs.lemmas.List.{get_or-take, get_or-drop, length-take-le}

module _ {F : Type 0} {g : Mut F (ℕ × Unit {0}) ℕ} (h : ℕ → ℕ) (f : F) (each : (k y : ℕ) (q : F) → Called g f (k, tt) y q → (q ≡ f) × (y ≡ h k)) where
  -- Each word, of a closure that computes it and changes nothing.
  made_at : (ws : List ℕ) (i n : ℕ) → IsFromFnResultFrom g f ws i n → (k : ℕ) → k < n → get_or ws (i + k) 0 ≡ h (i + k)
  made_at ws i zero made k l = absurd (not-suc-le-zero l)
  made_at ws i (suc n) (q, y, element, called, rest) zero l =
      let here : i + 0 ≡ i = omega arith in
      ap (λ (j : ℕ). get_or ws j 0) here ∙ element.1 0 ∙ (each i y q called).1 ∙ sym (ap h here)
  made_at ws i (suc n) (q, y, element, called, rest) (suc k) l =
      let there : i + suc k ≡ i + 1 + k = omega arith in
      ap (λ (j : ℕ). get_or ws j 0) there
      ∙ made_at ws (i + 1) n (subst (λ (p : F). IsFromFnResultFrom g p ws (i + 1) n) (each i y q called).0 rest) k (omega arith)
      ∙ sym (ap h there)

  pub each_made : (ws : List ℕ) (n : ℕ) → IsFromFnResult g f ws n → (k : ℕ) → k < n → get_or ws k 0 ≡ h k
  each_made ws n made k l =
      ap (λ (j : ℕ). get_or ws j 0) (sym (zero-add k)) ∙ made_at ws 0 n made.each k l ∙ ap h (zero-add k)

-- The n words from an address on, read one by one.
pub part_made : {F : Type 0} {g : Mut F (ℕ × Unit {0}) ℕ} (s : List ℕ) (at n : ℕ) {f : F} {ws : List ℕ} → at + n ≤ length s → IsFromFnResult g f ws n
    → ((k y : ℕ) (q : F) → Called g f (k, tt) y q → (q ≡ f) × (y ≡ get_or s (at + k) 0)) → ws ≡ take n (drop at s)
part_made {F} {g} s at n {f} {ws} l made each =
    let long : length (take n (drop at s)) ≡ n = length-take-le n (drop at s) (let d = length-drop at s in omega arith) in
    same_number_lists ws (take n (drop at s)) (made.long ∙ sym long)
    (λ k m. let below : k < n = rw (sym made.long) m in each_made (λ j. get_or s (at + j) 0) f each ws n made k below ∙ sym (get_or-take n (drop at s) k 0 below ∙ get_or-drop at s k 0))
