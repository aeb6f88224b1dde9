-- What a function answers, and the words that it leaves in the state.
use Rattle.std.specs.Prelude.{ℕ, List}

pub record OutcomeOf (A : Type 0) : Type 0 where
  pub answer : A
  pub words : List ℕ

abbrev pub outcome : {A : Type 0} → A → List ℕ → OutcomeOf A
outcome a s = record { answer = a; words = s }
