-- Laws of leaf IDs: all that is known of them outside specs/LeafIds.
-- Assumes nothing.
use Prim.Native.Nat.{ℕ, suc, ◌+◌, ◌*◌, ◌/◌, ◌%◌, ◌<◌, ◌≤◌}
use mathlib.Core.Path.{◌≡◌, sym, ap, ap₂, ◌∙◌}
use native.Mathlib.Omega.{arith}
use borrow.Author.Tests.{leb-true, le-leb}
use Rattle.leaf_map.specs.LeafIds.{leaf_id, treeling_of, slot_of, leaf_at, node_of_leaf, position_of_leaf, slot_number, leaf_fits, LeafFits}

-- ---- In range
-- 0 is in range, and so is the leaf ID of a slot of one of the TreeLings.
pub none_fits : (n : ℕ) → LeafFits n 0
unfolding leaf_fits
none_fits n = le-leb 0 (4096 * n) (omega arith)

pub at_fits : (n g i : ℕ) → g < 512 * n → i < 8 → LeafFits n (leaf_at g i)
unfolding leaf_fits leaf_at
at_fits n g i l m = le-leb (leaf_at g i) (4096 * n) (omega arith)

-- What is in range of some TreeLings is in range of more.
pub fits_more : (n m x : ℕ) → n ≤ m → LeafFits n x → LeafFits m x
unfolding leaf_fits
fits_more n m x l fits = le-leb x (4096 * m) (omega (arith, leb-true x (4096 * n) fits))

-- The TreeLing of a leaf ID in range is one of the TreeLings; so is that of 0, where there are any.
pub treeling_fits : (n x : ℕ) → 0 < x → LeafFits n x → treeling_of x < n
unfolding leaf_fits treeling_of
treeling_fits n x some fits = omega (arith, leb-true x (4096 * n) fits)

pub treeling_below : (n x : ℕ) → 1 ≤ n → LeafFits n x → treeling_of x < n
unfolding leaf_fits treeling_of
treeling_below n x some fits = omega (arith, leb-true x (4096 * n) fits)

-- ---- Leaf IDs of slots
-- A leaf ID that names a slot of one of at most 4,096 TreeLings.
pub record SlotId (x : ℕ) : Type 0 where
  pub some : 0 < x
  pub most : x ≤ 16777216

-- Of a state of at most 4,096 TreeLings, every leaf ID in range is one.
pub fits_id : (n x : ℕ) → n ≤ 4096 → 0 < x → LeafFits n x → SlotId x
unfolding leaf_fits
fits_id n x few some fits = record { some = some; most = omega (arith, leb-true x (4096 * n) fits) }

-- Its slot is of the TreeLings that it is in range of.
pub fits_slot : (n x : ℕ) → SlotId x → LeafFits n x → slot_number x < 4096 * n
unfolding leaf_fits slot_number
fits_slot n x id fits = omega (arith, leb-true x (4096 * n) fits)

-- What it names, by its slot's number.
pub record Names (x : ℕ) : Type 0 where
  pub number_is : x ≡ suc (slot_number x)
  pub treeling_is : treeling_of x ≡ slot_number x / 4096
  pub slot_is : slot_of x ≡ slot_number x % 4096
  pub node_is : node_of_leaf x ≡ slot_number x / 8
  pub position_is : position_of_leaf x ≡ slot_number x % 8

pub names : (x : ℕ) → SlotId x → Names x
unfolding treeling_of slot_of node_of_leaf position_of_leaf slot_number
names x id = record { number_is = omega arith; treeling_is = omega arith; slot_is = omega arith; node_is = omega arith; position_is = omega arith }

-- The leaf ID of slot y is y + 1, and its TreeLing y / 4096.
pub slot_id : (y : ℕ) → y < 16777216 → SlotId (suc y)
slot_id y l = record { some = omega arith; most = omega arith }

pub slot_number_lem : (y : ℕ) → slot_number (suc y) ≡ y
unfolding slot_number
slot_number_lem y = omega arith

pub slot_treeling : (y : ℕ) → y < 16777216 → treeling_of (suc y) ≡ y / 4096
slot_treeling y l = (names (suc y) (slot_id y l)).treeling_is ∙ ap (λ (k : ℕ). k / 4096) (slot_number_lem y)

-- ---- By TreeLing and slot, there and back
pub leaf_number : (t s : ℕ) → leaf_id t s ≡ suc (4096 * t + s)
unfolding leaf_id
leaf_number t s = omega arith

pub leaf_treeling : (t s : ℕ) → t < 4096 → s < 4096 → treeling_of (leaf_id t s) ≡ t
leaf_treeling t s l m = ap treeling_of (leaf_number t s) ∙ slot_treeling (4096 * t + s) (omega arith) ∙ omega arith

pub leaf_slot : (t s : ℕ) → t < 4096 → s < 4096 → slot_of (leaf_id t s) ≡ s
leaf_slot t s l m =
    ap slot_of (leaf_number t s) ∙ (names (suc (4096 * t + s)) (slot_id (4096 * t + s) (omega arith))).slot_is ∙ ap (λ (k : ℕ). k % 4096) (slot_number_lem (4096 * t + s)) ∙ omega arith

pub leaf_back : (x : ℕ) → SlotId x → leaf_id (treeling_of x) (slot_of x) ≡ x
leaf_back x id = let is = names x id in leaf_number (treeling_of x) (slot_of x) ∙ omega arith

-- ---- By leaf node and position, there and back
pub at_number : (n i : ℕ) → leaf_at n i ≡ suc (8 * n + i)
unfolding leaf_at
at_number n i = omega arith

pub leaf_at_lem : (t n i : ℕ) → leaf_at (512 * t + n) i ≡ leaf_id t (8 * n + i)
leaf_at_lem t n i = at_number (512 * t + n) i ∙ omega arith ∙ sym (leaf_number t (8 * n + i))

pub at_treeling : (n i : ℕ) → n < 2097152 → i < 8 → treeling_of (leaf_at n i) ≡ n / 512
at_treeling n i l m = ap treeling_of (at_number n i) ∙ slot_treeling (8 * n + i) (omega arith) ∙ omega arith

pub at_node : (n i : ℕ) → i < 8 → node_of_leaf (leaf_at n i) ≡ n
unfolding leaf_at node_of_leaf
at_node n i m = omega arith

pub at_position : (n i : ℕ) → i < 8 → position_of_leaf (leaf_at n i) ≡ i
unfolding leaf_at position_of_leaf
at_position n i m = omega arith

pub at_slot : (n i : ℕ) → i < 8 → slot_of (leaf_at n i) ≡ 8 * (n % 512) + i
unfolding leaf_at slot_of
at_slot n i m = omega arith

-- Of any word: its slot and position, and the one from the other.
pub slot_below : (x : ℕ) → slot_of x < 4096
unfolding slot_of
slot_below x = omega arith

pub position_below : (x : ℕ) → position_of_leaf x < 8
unfolding position_of_leaf
position_below x = omega arith

pub slot_position : (x : ℕ) → slot_of x % 8 ≡ position_of_leaf x
unfolding slot_of position_of_leaf
slot_position x = omega arith

module _ (x : ℕ) (id : SlotId x) where
  pub at_back : leaf_at (node_of_leaf x) (position_of_leaf x) ≡ x
  at_back = let is = names x id in at_number (node_of_leaf x) (position_of_leaf x) ∙ omega arith

  -- The leaf node is of the TreeLing.
  pub node_treeling : node_of_leaf x / 512 ≡ treeling_of x
  node_treeling = let is = names x id in omega arith

  -- Leaf IDs with one node and one position are one.
  pub same_id : (y : ℕ) → SlotId y → node_of_leaf x ≡ node_of_leaf y → position_of_leaf x ≡ position_of_leaf y → x ≡ y
  same_id y other node position = sym at_back ∙ ap₂ leaf_at node position ∙ at_number (node_of_leaf y) (position_of_leaf y) ∙ (let is = names y other in omega arith)
