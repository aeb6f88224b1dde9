-- `random_lists::draws::digest` is safe and ends: before each word the digest is below 2^31 - 1.
-- Assumes nothing.
use Prim.Native.Nat.{◌<◌}
use native.Mathlib.Omega.{arith}
use Rattle.std.proofs.Common.{rules}
use Rattle.std.proofs.lemmas.Fn.{serves_by}
use Rattle.random_lists.proofs.draws.digest.Goals as goal

pub fold-requires-clause-callable : goal.fold-requires-clause-callable
fold-requires-clause-callable c =
    serves_by _ (λ _ q. q.1 < 2147483647) (λ xs q x v j r. search rules) _ _ _ _ (omega arith) (λ xs t q x u y s j. search rules)
