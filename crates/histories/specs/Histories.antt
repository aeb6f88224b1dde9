-- Document 01, "Histories, for demand 3": "A history is a list of batches from a state just made with answer 0." Request M-101: "Two histories have equal holes."
use Rattle.std.specs.Prelude.{ℕ, zero, suc, ◌+◌, ◌-◌, ◌*◌, ◌/◌, ◌%◌, ◌^◌, ◌<◌, ◌≡◌, List, [], ◌∷◌, ◌++◌, map, Bool, true, false, cond, ◌&&◌, ◌||◌, eqb, leb, ltb, length, get_or, take, drop, replicate}
use Rattle.layout.specs.declared.Sizes.{Sizes}
use Rattle.board.specs.NewState.{new_state}
use Rattle.batch.specs.Batch.{Served, serving}

-- ---- What a history is made of
-- The words that a history carries along: "Each batch gets the state as the one before it left it, and nobody else writes the state in between."
-- A kind of entry that acts on words beside the state adds them here.
pub record Carried : Type 0 where
  pub state : List ℕ

-- The same words with another state.
abbrev pub leaving : Carried → List ℕ → Carried
leaving w s = record { state = s }

-- "from a state just made with answer 0": of these sizes and holes.
abbrev pub JustMade : Sizes → List ℕ → Carried → Type 0
JustMade z holes w = w.state ≡ new_state z holes

-- An entry of a history, a case for each kind. A batch: "Its request words and the length of its answer buffer come with the list, and the words may be any at all".
pub data Entry : Type 0 where
  batch : List ℕ → ℕ → Entry

-- What is asked, a case for each way to ask. A request of a batch, by its words.
pub data Asked : Type 0 where
  request : List ℕ → Asked

-- What was asked, and its answer.
pub record Heard : Type 0 where
  pub asked : Asked
  pub answer : List ℕ

-- ---- What an entry does
-- A controller: what it does with each kind of entry. With a batch: number, state and answers, of a state, request words and an answer buffer.
pub record Controller : Type 0 where
  pub serve : List ℕ → List ℕ → List ℕ → Served

-- One that serves batches so, and ours. Wrong ones stand in crate worked, WrongHistories.
abbrev pub serves : (List ℕ → List ℕ → List ℕ → Served) → Controller
serves f = record { serve = f }

abbrev pub ours : Controller
ours = serves serving

abbrev pub heard_at : List ℕ → List ℕ → ℕ → Heard
heard_at q a k = record { asked = request (take 4 (drop (4 * k) q)); answer = take 8 (drop (8 * k) a) }

-- The first n requests of a batch with their answers.
unfoldable pub heard_in : List ℕ → List ℕ → ℕ → List Heard
heard_in q a zero = []
heard_in q a (suc k) = heard_in q a k ++ heard_at q a k ∷ []

-- "A refused batch may stand anywhere in the list; the next one gets the state unchanged."
abbrev pub heard_of : Served → List ℕ → List Heard
heard_of r q = cond (eqb r.number 0) (heard_in q r.answers (length q / 4)) []

-- What is heard of an entry, and the words that it leaves.
pub record Effect : Type 0 where
  pub heard : List Heard
  pub after : Carried

unfoldable pub effect_of : Controller → Carried → Entry → Effect
effect_of c w (batch q room) =
    let r = c.serve w.state q (replicate room 0) in
    record { heard = heard_of r q; after = leaving w r.state }

-- One entry after the other, from words w on: all that is heard, and the state left.
unfoldable pub heard_from : Controller → Carried → List Entry → List Heard
heard_from c w [] = []
heard_from c w (e ∷ es) = (effect_of c w e).heard ++ heard_from c (effect_of c w e).after es

unfoldable pub state_from : Controller → Carried → List Entry → List ℕ
state_from c w [] = w.state
state_from c w (e ∷ es) = state_from c (effect_of c w e).after es

-- ---- Of what is asked
abbrev pub word : List ℕ → ℕ → ℕ
word q i = get_or q i 0

-- "Requests with that domain word are its own; all others are the others'"
abbrev pub is_own : ℕ → Asked → Bool
is_own d (request q) = eqb (word q 1) d

unfoldable pub only : (Heard → Bool) → List Heard → List Heard
only p [] = []
only p (h ∷ hs) = cond (p h) (h ∷ only p hs) (only p hs)

abbrev pub own_in : ℕ → List Heard → List Heard
own_in d hs = only (λ h. is_own d h.asked) hs

-- What a domain asks, in order.
abbrev pub asks : ℕ → List Heard → List Asked
asks d hs = map (λ (h : Heard). h.asked) (own_in d hs)

-- "Calls 3, 4 and 5 name their frame. Calls 6 and 7 name as many frames as their count says, from their frame upward, added without wrapping."
abbrev pub names_frame : Asked → ℕ → Bool
names_frame (request q) f =
    (leb 3 (word q 0) && leb (word q 0) 5 && eqb f (word q 2))
    || (leb 6 (word q 0) && leb (word q 0) 7 && leb (word q 2) f && ltb f (word q 2 + word q 3))

-- "Mappings are calls 3 and 6."
abbrev pub is_mapping : Asked → Bool
is_mapping (request q) = eqb (word q 0) 3 || eqb (word q 0) 6

-- Whose answers are compared: every call's. A request that leaves a call's answer out says so here.
unfoldable pub call_compared : ℕ → Bool
call_compared c = true

abbrev pub is_compared : Asked → Bool
is_compared (request q) = call_compared (word q 0)

abbrev pub number : Heard → ℕ
number h = word h.answer 0

-- "only the path words of a done 3 or 5 name nodes": word i of the answer. The words of calls 8 and 11 are counts, and name none.
abbrev pub node_named : Asked → List ℕ → ℕ → Bool
node_named (request q) a i = (eqb (word q 0) 3 || eqb (word q 0) 5) && eqb (word a 0) 0 && leb 2 i && leb i 5

abbrev pub names_node : Heard → ℕ → Bool
names_node h i = node_named h.asked h.answer i

-- The level of the node that it names: word i of an answer to a request is the node of level i − 1.
abbrev pub node_level : Asked → List ℕ → ℕ → ℕ
node_level (request q) a i = i - 1

-- For everything heard in a list.
abbrev pub Every : (Heard → Type 0) → List Heard → Type 0
Every P [] = Unit
Every P (h ∷ hs) = P h × Every P hs

-- The others' mappings name no frame that this domain names.
abbrev pub Apart : ℕ → List Heard → Type 0
Apart d hs =
    Every (λ own. is_own d own.asked ≡ true → (f : ℕ) → names_frame own.asked f ≡ true → Every (λ other. is_own d other.asked ≡ false → is_mapping other.asked ≡ true → names_frame other.asked f ≡ false) hs) hs

-- This domain is never answered 13: "To hear “no place” is to be answered 13."
abbrev pub NeverNoPlace : ℕ → List Heard → Type 0
NeverNoPlace d hs = Every (λ own. number own ≡ 13 → ⊥) (own_in d hs)

-- What is asked of each of the two histories. A kind of entry with a premise of its own adds it here.
pub record Fair (d : ℕ) (hs : List Heard) : Type 0 where
  pub apart : Apart d hs
  pub never_no_place : NeverNoPlace d hs

-- "A word names a node in both or in neither. A word that names none is equal." "Node numbers of levels 2, 3 and 4 have equal remainders by 8, 64 and 512".
pub record Agree (g h : Heard) : Type 0 where
  pub both : (i : ℕ) → i < 8 → names_node g i ≡ names_node h i
  pub equal : (i : ℕ) → i < 8 → names_node g i ≡ false → word g.answer i ≡ word h.answer i
  pub within : (i : ℕ) → i < 8 → names_node g i ≡ true
      → word g.answer i % 8 ^ (node_level g.asked g.answer i - 1) ≡ word h.answer i % 8 ^ (node_level h.asked h.answer i - 1)

-- "Its k-th answer in one history is compared with its k-th in the other."
abbrev pub AllAgree : List Heard → List Heard → Type 0
AllAgree [] [] = Unit
AllAgree (g ∷ gs) (h ∷ hs) = (is_compared g.asked ≡ true → Agree g h) × AllAgree gs hs
AllAgree (g ∷ gs) [] = ⊥
AllAgree [] (h ∷ hs) = ⊥
