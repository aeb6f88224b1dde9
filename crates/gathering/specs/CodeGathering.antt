-- What the passes of regathering keep. Readers may pass over this.
-- While the passes go, an NFL word has a leaf node's whole availability above its tag and availability, which are below `room`.
use Rattle.std.specs.Prelude.{ℕ, zero, suc, ◌+◌, ◌-◌, ◌*◌, ◌/◌, ◌%◌, ◌<◌, ◌≤◌, ◌≡◌, List, Bool, cond, not, ◌&&◌, eqb, leb, ltb, length, get_or, set}
use Rattle.layout.specs.declared.Sizes.{Sizes}
use Rattle.geometry.specs.Entries.{entry_word, tag_of, availability_of}
use Rattle.layout.specs.Places.{Laid, Place, address, entry, get, last, next}
use Rattle.layout.specs.Bounded.{count, sum}
use Rattle.sound.specs.Sentences.{link_of, of_rank}
use Rattle.world.specs.World.{entry_of, node_of}
use Rattle.gathering.specs.Regathering.{select}
use Rattle.gathering.specs.declared.Walk.{Walk}

abbrev pub room : ℕ
room = 4294967296

-- The words with what stands above n of them, from an address on, gone.
unfoldable pub lowered : List ℕ → ℕ → ℕ → List ℕ
lowered s at zero = s
lowered s at (suc n) = set (lowered s at n) (at + n) (get_or s (at + n) 0 % room)

-- The entry of a leaf node's own number.
abbrev pub home_of : ℕ → Place
home_of node = entry (node / 512) (node % 512)

-- What stands above the own entry of the leaf node with this number.
abbrev pub above_at : Sizes → List ℕ → ℕ → ℕ
above_at z s node = get z s (home_of node) / room

-- A walk at an entry of the state, and that entry.
pub record Ready (z : Sizes) (s : List ℕ) (walk : Walk) : Type 0 where
  pub laid : Laid z s
  pub some : 0 < walk.link
  pub most : walk.link ≤ z.treelings
  pub few : walk.at < 2097152

abbrev pub entry_at : Walk → Place
entry_at walk = entry (walk.link - 1) (walk.at % 512)

-- The head: the block of a walk, and the last block where the walk is past the last entry.
abbrev pub last_of : Sizes → List ℕ → ℕ → Walk → Walk
last_of z s d walk = record { link = get z s (last d); at = walk.at - 1 }

abbrev pub head_of : Sizes → List ℕ → ℕ → ℕ → Walk → Walk
head_of z s d m walk = cond (ltb walk.at (512 * m)) walk (last_of z s d walk)

-- The walk after it, one entry on.
pub record Stepped (z : Sizes) (s : List ℕ) (walk after : Walk) : Type 0 where
  pub link_is : after.link ≡ cond (eqb (walk.at % 512) 511) (get z s (next (walk.link - 1))) walk.link
  pub at_is : after.at ≡ suc walk.at

-- Of a node with this whole availability: is it one of the spent, or one of the others?
abbrev pub chosen : Bool → ℕ → Bool
chosen spent whole = cond spent (eqb whole 0) (not (eqb whole 0))

module _ (z : Sizes) (s : List ℕ) (d : ℕ) where
  -- The word of domain d's entry j, and what stands there above `room`.
  abbrev pub word_of : ℕ → ℕ
  word_of j = get z s (entry_of z s d j)

  abbrev pub above_in : ℕ → ℕ
  above_in j = word_of j / room

  -- Is leaf node q in rank order one of the spent, or one of the others, by what stands above?
  abbrev pub chosen_in : Bool → ℕ → Bool
  chosen_in spent q = chosen spent (above_in q)

  -- Its m TreeLings can be walked through.
  pub record Chain (m : ℕ) : Type 0 where
    pub laid : Laid z s
    pub domain_below : d < z.domains
    pub most : m ≤ z.treelings
    pub below : (r : ℕ) → r < m → of_rank z s d r < z.treelings
    pub linked : (r : ℕ) → r < m → link_of z s d r ≡ suc (of_rank z s d r)
    pub one : (q r : ℕ) → q < m → r < m → of_rank z s d q ≡ of_rank z s d r → q ≡ r

  -- Words r are those of s, but for its entries, which are the words w.
  pub record Filled (r : List ℕ) (m : ℕ) (w : ℕ → ℕ) : Type 0 where
    pub long : length r ≡ length s
    pub inside : (j : ℕ) → j < 512 * m → get z r (entry_of z s d j) ≡ w j
    pub outside : (a : ℕ) → ((j : ℕ) → j < 512 * m → a ≡ address z (entry_of z s d j) → ⊥) → get_or r a 0 ≡ get_or s a 0

  -- A pass in words r has come to this walk; after j entries, it leaves the words w j.
  pub record Walking (m : ℕ) (w : ℕ → ℕ → ℕ) (r : List ℕ) (walk : Walk) : Type 0 where
    pub below : walk.at ≤ 512 * m
    pub link_is : walk.link ≡ link_of z s d (walk.at / 512)
    pub filled : Filled r m (w walk.at)

  -- The first j entries are the words w, the others are as in s.
  abbrev pub up_to : ℕ → (ℕ → ℕ) → ℕ → ℕ
  up_to j w p = cond (ltb p j) (w p) (word_of p)

  -- After j entries, each leaf node's own entry has above what these j have of its availability.
  unfoldable pub gathered_above : ℕ → ℕ → ℕ
  gathered_above j p =
      sum j (λ q. cond (eqb (tag_of (word_of q)) (node_of z s d p)) (availability_of (word_of q)) 0)

  abbrev pub gathering_word : ℕ → ℕ → ℕ
  gathering_word j p = word_of p + room * gathered_above j p

  -- The entry word that leaf node q in rank order gets, from what stands above.
  abbrev pub word_for : ℕ → ℕ
  word_for q = entry_word (node_of z s d q) (above_in q)

  -- From one entry on, the leaf nodes qs are spread over the entries, one each, and what stands above stays.
  unfoldable pub spread_word : ℕ → List ℕ → ℕ → ℕ
  spread_word from qs p =
      room * above_in p
      + cond (leb from p && ltb p (from + length qs)) (word_for (get_or qs (p - from) 0)) (word_of p % room)

  -- The pass that spreads the spent leaf nodes, or the others, from one entry on: the walks that read and write.
  pub record Spreading (m : ℕ) (spent : Bool) (from : ℕ) (r : List ℕ) (walk to : Walk) : Type 0 where
    pub walking : Walking m (λ j. spread_word from (select (chosen_in spent) j)) r walk
    pub to_at : to.at ≡ from + count walk.at (chosen_in spent)
    pub to_link : to.link ≡ link_of z s d (to.at / 512)
