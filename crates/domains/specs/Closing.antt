-- Document 01: "2 close (pages released; its records, NFL words and leaf IDs become 0)". The hand stays.
use Rattle.std.specs.Prelude.{ℕ, zero, suc, List, true, cond}
use Rattle.layout.specs.declared.Sizes.{Sizes}
use Rattle.layout.specs.Outcomes.{outcome}
use Rattle.layout.specs.Places.{address, get, put, zeros, domain, leaf, pages_mapped}
use Rattle.sound.specs.Sentences.{is_mapped_by}
use Rattle.world.specs.World.{owned}
use Rattle.clearing.specs.Clearing.{treelings_cleared}
use Rattle.pages.specs.Answers.{Finished, Outcome}

-- The leaf IDs of domain d's pages among the first n frames, cleared.
unfoldable pub leaves_cleared : Sizes → List ℕ → ℕ → ℕ → List ℕ
leaves_cleared z s d zero = s
leaves_cleared z s d (suc f) =
    cond (is_mapped_by z s d f) (put z (leaves_cleared z s d f) (leaf f) 0) (leaves_cleared z s d f)

-- Then all its TreeLings, and its record.
unfoldable pub closing : Sizes → List ℕ → ℕ → List ℕ
closing z s d =
    zeros (treelings_cleared z s d (λ _. true) (leaves_cleared z s d z.frames) (owned z s d)) (address z (domain d 0)) 6

-- The pages released.
unfoldable pub close_call : Sizes → List ℕ → ℕ → Outcome
close_call z s d = outcome (Finished (get z s (pages_mapped d))) (closing z s d)
