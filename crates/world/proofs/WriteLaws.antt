-- Several words written one after the other: what is read afterwards, at an address apart from them and at one of them.
-- Assumes nothing.
use Prim.Native.Nat.{ℕ, ◌<◌}
use mathlib.Core.Path.{◌≡◌, refl, ◌∙◌}
use mathlib.Core.List.{List, [], ◌∷◌, ◌++◌}
use lib.ListN.{length, get_or, set, length-set}
use lib.Seq.{get_or-set_same, get_or-set_other}

-- A word to be written: its address and its value.
pub record Write : Type 0 where
  pub at : ℕ
  pub word : ℕ

abbrev pub write : ℕ → ℕ → Write
write a v = record { at = a; word = v }

-- The words s with these written, the first of the list last.
abbrev pub written : List ℕ → List Write → List ℕ
written s [] = s
written s (w ∷ ws) = set (written s ws) w.at w.word

-- Address b is none of these.
abbrev pub Apart : ℕ → List Write → Type 0
Apart b [] = Unit
Apart b (w ∷ ws) = (b ≡ w.at → ⊥) × Apart b ws

pub written_length : (s : List ℕ) (ws : List Write) → length (written s ws) ≡ length s
written_length s [] = refl
written_length s (w ∷ ws) = length-set (written s ws) w.at w.word ∙ written_length s ws

-- Apart from all of them the word is as before.
pub read_apart : (s : List ℕ) (ws : List Write) (b : ℕ) → Apart b ws → get_or (written s ws) b 0 ≡ get_or s b 0
read_apart s [] b h = refl
read_apart s (w ∷ ws) b h =
    get_or-set_other (written s ws) w.at b w.word 0 h.0 ∙ read_apart s ws b h.1

-- At one of them, and apart from those written after it, it is the one written.
pub read_written : (s : List ℕ) (later : List Write) (w : Write) (ws : List Write) → Apart w.at later → w.at < length s
    → get_or (written s (later ++ w ∷ ws)) w.at 0 ≡ w.word
read_written s [] w ws h l = get_or-set_same (written s ws) w.at w.word 0 (rw (written_length s ws) l)
read_written s (v ∷ later) w ws h l =
    get_or-set_other (written s (later ++ w ∷ ws)) v.at w.at v.word 0 h.0 ∙ read_written s later w ws h.1 l
