-- Request M-100: "Call 8, trim, uses the domain word only." "The pages word counts TreeLings returned."
use Rattle.std.specs.Prelude.{ℕ, suc, ◌<◌, ◌≡◌, List, true, false, not, ◌&&◌, eqb}
use Rattle.layout.specs.declared.Sizes.{Sizes}
use Rattle.layout.specs.Outcomes.{outcome}
use Rattle.layout.specs.Places.{get, hand, leaf, live, owner, rank}
use Rattle.layout.specs.Bounded.{count}
use Rattle.returning.specs.Returning.{is_empty, goes, number_returned, trimming}
use Rattle.pages.specs.Answers.{Finished, Outcome}

-- Domain d gives its TreeLings without a mapped page back.
unfoldable pub trim_call : Sizes → List ℕ → ℕ → Outcome
trim_call z s d = outcome (Finished (number_returned z s d)) (trimming z s d)

-- What is promised of a trim from a sound state. Its empty TreeLings are unowned, and every other one has the owner that it had; those returned are counted. The others of its own keep their order: the rank of each is the number of those before it that stay. Every leaf ID stays, so all pages keep their places; the hand stays, and the domain is live. "If none is empty nothing changes."
-- After it the domain owns no empty TreeLing, and a trim of what is left returns none and changes nothing.
pub record GivesBack (z : Sizes) (s : List ℕ) (d : ℕ) (o : Outcome) : Type 0 where
  pub told : o.answer ≡ Finished (count z.treelings (λ t. eqb (get z s (owner t)) (suc d) && is_empty z s t))
  pub returned : (t : ℕ) → t < z.treelings → get z s (owner t) ≡ suc d → is_empty z s t ≡ true → get z o.words (owner t) ≡ 0
  pub stays : (t : ℕ) → t < z.treelings → (get z s (owner t) ≡ suc d → is_empty z s t ≡ false) → get z o.words (owner t) ≡ get z s (owner t)
  pub order : (t : ℕ) → t < z.treelings → get z s (owner t) ≡ suc d → is_empty z s t ≡ false → get z o.words (rank t) ≡ count (get z s (rank t)) (λ r. not (goes z s d r))
  pub places : (f : ℕ) → f < z.frames → get z o.words (leaf f) ≡ get z s (leaf f)
  pub hand-stays : get z o.words hand ≡ get z s hand
  pub live-stays : get z o.words (live d) ≡ get z s (live d)
  pub nothing : count z.treelings (λ t. eqb (get z s (owner t)) (suc d) && is_empty z s t) ≡ 0 → o.words ≡ s
  pub none_empty : (t : ℕ) → t < z.treelings → get z o.words (owner t) ≡ suc d → is_empty z o.words t ≡ false
  pub again : trim_call z o.words d ≡ outcome (Finished 0) o.words
