-- What stands where in a list.
use Rattle.std.specs.Prelude.{ℕ, ◌<◌, ◌≡◌, List, [], ◌∷◌}
use Rattle.std.proofs.Math.Option.{some}
use Rattle.std.proofs.Math.ListN.{get_elem?}

-- Position i holds x.
abbrev pub At : {A : Type 0} → List A → ℕ → A → Type 0
At xs i x = get_elem? xs i ≡ some x

-- Some position holds x.
pub record Stands {A : Type 0} (xs : List A) (x : A) : Type 0 where
  pub position : ℕ
  pub held : At xs position x

-- "none twice": two positions that hold the same are one.
abbrev pub NoneTwice : {A : Type 0} → List A → Type 0
NoneTwice {A} xs = (i j : ℕ) (x : A) → At xs i x → At xs j x → i ≡ j

-- What stands earlier comes before what stands later.
abbrev pub InOrder : {A : Type 0} → (A → A → Type 0) → List A → Type 0
InOrder {A} Before xs = (i j : ℕ) (x y : A) → At xs i x → At xs j y → i < j → Before x y

-- P holds of each of a list.
abbrev pub Each : {A : Type 0} → (A → Type 0) → List A → Type 0
Each P [] = Unit
Each P (x ∷ xs) = P x × Each P xs
