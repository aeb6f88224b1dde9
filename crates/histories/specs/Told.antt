-- Demand 2, of a request: what a done one tells and leaves, by the state's own words, as statements about any controller. What speaks of slots is said of ordinary domains.
use Rattle.std.specs.Prelude.{ℕ, suc, ◌+◌, ◌*◌, ◌/◌, ◌%◌, ◌<◌, ◌≤◌, ◌≡◌, List, [], ◌∷◌, true, false, ◌⊎◌, get_or}
use Rattle.layout.specs.declared.Sizes.{Sizes}
use Rattle.layout.specs.Places.{Place, Within, get, hand, domain, leaf, live, owner, pages_mapped, rank, former}
use Rattle.sound.specs.Sentences.{is_mapped_by}
use Rattle.sound.specs.Sound.{Sound, Live, Ordinary}
use Rattle.pages.specs.Answers.{Refused, Outcome, Passed, answer_words}
use Rattle.histories.specs.Demands.{Answerer}

-- The words of an answer.
abbrev pub words : Outcome → List ℕ
words o = answer_words o.answer

-- "Map and path fill every word": frame f is mapped to a slot of a TreeLing, "A leaf ID is 4096t + s + 1"; the rank is that TreeLing's, and the nodes and the position are
-- "level 1 t; level 2 8t + n/64; level 3 64t + n/8; level 4 512t + n", n = s / 8, "position s mod 8".
pub record PageTold (z : Sizes) (s : List ℕ) (f pages : ℕ) (a : List ℕ) : Type 0 where
  pub treeling : ℕ
  pub slot : ℕ
  pub slot_below : slot < 4096
  pub mapped : get z s (leaf f) ≡ 4096 * treeling + slot + 1
  pub told : a ≡ 0 ∷ get z s (rank treeling) ∷ treeling ∷ (8 * treeling + slot / 8 / 64) ∷ (64 * treeling + slot / 8 / 8) ∷ (512 * treeling + slot / 8) ∷ slot % 8 ∷ pages ∷ []

-- A done map tells the page as the words that it leaves have it, with pages 1;
abbrev pub MapTold : Answerer → Type 0
MapTold answer =
    (z : Sizes) (s : List ℕ) (d f : ℕ) → Sound z s → Ordinary z s d → Passed (answer z s 3 d f 0)
    → PageTold z (answer z s 3 d f 0).words f 1 (words (answer z s 3 d f 0))

-- "path with pages 0": of the words as they are, which it leaves.
abbrev pub PathTold : Answerer → Type 0
PathTold answer =
    (z : Sizes) (s : List ℕ) (d f : ℕ) → Sound z s → Ordinary z s d → Passed (answer z s 5 d f 0)
    → PageTold z s f 0 (words (answer z s 5 d f 0)) × ((answer z s 5 d f 0).words ≡ s)

-- "other done calls give number 0 and pages, open with pages 0, and zeros between": calls 1, 2, 4, 6, 7 and 8.
abbrev pub ZerosBetween : Answerer → Type 0
ZerosBetween answer =
    (z : Sizes) (s : List ℕ) (c d f n : ℕ) → Sound z s → (c ≡ 1) ⊎ (c ≡ 2) ⊎ (c ≡ 4) ⊎ (c ≡ 6) ⊎ (c ≡ 7) ⊎ (c ≡ 8) → Passed (answer z s c d f n)
    → (i : ℕ) → i < 7 → get_or (words (answer z s c d f n)) i 0 ≡ 0

-- "1 open", "open with pages 0": the domain is live then, and no other word changes.
pub record Opened (z : Sizes) (s : List ℕ) (d : ℕ) (o : Outcome) : Type 0 where
  pub pages : get_or (words o) 7 0 ≡ 0
  pub alive : Live z o.words d
  pub rest : (p : Place) → Within z p → (p ≡ live d → ⊥) → get z o.words p ≡ get z s p

abbrev pub OpenDone : Answerer → Type 0
OpenDone answer =
    (z : Sizes) (s : List ℕ) (d : ℕ) → Sound z s → Passed (answer z s 1 d 0 0) → Opened z s d (answer z s 1 d 0 0)

-- "2 close (pages released; its records, NFL words and leaf IDs become 0)": its pages are told, it is dead, its TreeLings are unowned and its pages unmapped; every other page stays.
pub record ClosedDown (z : Sizes) (s : List ℕ) (d : ℕ) (o : Outcome) : Type 0 where
  pub pages : get_or (words o) 7 0 ≡ get z s (pages_mapped d)
  pub record_zero : (j : ℕ) → j < 6 → get z o.words (domain d j) ≡ 0
  pub unowned : (t : ℕ) → t < z.treelings → get z s (owner t) ≡ suc d → get z o.words (owner t) ≡ 0
  pub unmapped : (f : ℕ) → f < z.frames → is_mapped_by z s d f ≡ true → get z o.words (leaf f) ≡ 0
  pub others : (f : ℕ) → f < z.frames → is_mapped_by z s d f ≡ false → get z o.words (leaf f) ≡ get z s (leaf f)

abbrev pub CloseDone : Answerer → Type 0
CloseDone answer =
    (z : Sizes) (s : List ℕ) (d : ℕ) → Sound z s → Passed (answer z s 2 d 0 0) → ClosedDown z s d (answer z s 2 d 0 0)

-- Request M-110: "15 is not used again."
abbrev pub NeverFifteen : Answerer → Type 0
NeverFifteen answer = (z : Sizes) (s : List ℕ) (c d f n : ℕ) → Sound z s → (answer z s c d f n).answer ≡ Refused 15 → ⊥

-- "A run is its single calls in frame order": words r after single calls c of the first frames from f on, each done, from words s on.
pub data Singles (answer : Answerer) (c : ℕ) (z : Sizes) (s : List ℕ) (d f : ℕ) : ℕ → List ℕ → Type 0 where
  none_yet : Singles answer c z s d f 0 s
  one_more : {i : ℕ} {r : List ℕ} → Singles answer c z s d f i r → Passed (answer z r c d (f + i) 0) → Singles answer c z s d f (suc i) (answer z r c d (f + i) 0).words

abbrev pub RunInOrder : Answerer → Type 0
RunInOrder answer =
    (z : Sizes) (s : List ℕ) (d f n : ℕ) → Sound z s
    → (Passed (answer z s 6 d f n) → Singles answer 3 z s d f n (answer z s 6 d f n).words)
    × (Passed (answer z s 7 d f n) → Singles answer 4 z s d f n (answer z s 7 d f n).words)

-- "Taking: from the pool hand upward and around": the TreeLing i steps from the hand.
abbrev pub from_hand : Sizes → List ℕ → ℕ → ℕ
from_hand z s i = (get z s hand + i) % z.treelings

-- "the first unowned TreeLing", and by M-104 first "an unowned TreeLing last held by the same domain, then any": of those that it seeks a map takes the nearest.
abbrev pub MapTakesNearest : Answerer → Type 0
MapTakesNearest answer =
    (z : Sizes) (s : List ℕ) (d f i j : ℕ) → Sound z s → i < z.treelings → j < z.treelings
    → get z s (owner (from_hand z s i)) ≡ 0 → get z (answer z s 3 d f 0).words (owner (from_hand z s i)) ≡ suc d
    → get z s (owner (from_hand z s j)) ≡ 0 → (get z s (former (from_hand z s j)) ≡ suc d) ⊎ (get z s (former (from_hand z s i)) ≡ suc d → ⊥)
    → i ≤ j

-- "the hand becomes the number after it, modulo T", where a map has taken a TreeLing; where it has taken none the hand stays.
abbrev pub MapMovesHand : Answerer → Type 0
MapMovesHand answer =
    (z : Sizes) (s : List ℕ) (d f : ℕ) → Sound z s
    → ((t : ℕ) → t < z.treelings → get z s (owner t) ≡ 0 → get z (answer z s 3 d f 0).words (owner t) ≡ suc d → get z (answer z s 3 d f 0).words hand ≡ suc t % z.treelings)
    × (((t : ℕ) → t < z.treelings → get z (answer z s 3 d f 0).words (owner t) ≡ get z s (owner t)) → get z (answer z s 3 d f 0).words hand ≡ get z s hand)

-- No other call but a map run moves it, and a map run is its maps.
abbrev pub HandStays : Answerer → Type 0
HandStays answer =
    (z : Sizes) (s : List ℕ) (c d f n : ℕ) → Sound z s → (c ≡ 3 → ⊥) → (c ≡ 6 → ⊥) → get z (answer z s c d f n).words hand ≡ get z s hand
