-- Laws of tests in a row, which answer false at the first that fails.
-- Assumes nothing.
use mathlib.Core.Path.{◌≡◌, refl}
use mathlib.Core.Bool.{Bool, true, false, ◌&&◌}

-- A test that fails is enough, whatever follows.
pub and_left : {a : Bool} (b : Bool) → a ≡ false → (a && b) ≡ false
and_left b h = rw h

-- A last test that holds changes nothing.
pub and-true : (a : Bool) → a ≡ (a && true)
and-true true = refl
and-true false = refl
