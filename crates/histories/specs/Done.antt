-- Demand 2, of a request: what a done one leaves of the frames that it names, and what its last word counts.
use Rattle.std.specs.Prelude.{ℕ, ◌+◌, ◌<◌, ◌≡◌, List, true, get_or}
use Rattle.layout.specs.declared.Sizes.{Sizes}
use Rattle.layout.specs.Places.{get, leaf}
use Rattle.sound.specs.Sentences.{is_mapped_by}
use Rattle.pages.specs.Answers.{Answer, answer_words}

-- "Pages is the number of pages this request mapped or released": the last word.
abbrev pub pages_word : Answer → ℕ
pages_word a = get_or (answer_words a) 7 0

-- Words r after the n frames from f on were mapped by domain d in words s, or unmapped: no other leaf map word changes.
abbrev pub Elsewhere : Sizes → List ℕ → List ℕ → ℕ → ℕ → Type 0
Elsewhere z s r f n = (g : ℕ) → g < z.frames → ((i : ℕ) → i < n → g ≡ f + i → ⊥) → get z r (leaf g) ≡ get z s (leaf g)

pub record AllMapped (z : Sizes) (s r : List ℕ) (d f n : ℕ) : Type 0 where
  pub each : (i : ℕ) → i < n → is_mapped_by z r d (f + i) ≡ true
  pub rest : Elsewhere z s r f n

pub record AllUnmapped (z : Sizes) (s r : List ℕ) (f n : ℕ) : Type 0 where
  pub each : (i : ℕ) → i < n → get z r (leaf (f + i)) ≡ 0
  pub rest : Elsewhere z s r f n
