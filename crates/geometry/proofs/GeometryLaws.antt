-- Laws of path nodes, with the level as a parameter, and of entries.
-- Assumes nothing.
use Prim.Native.Nat.{ℕ, zero, suc, ◌+◌, ◌-◌, ◌*◌, ◌/◌, ◌%◌, ◌^◌, ◌<◌, ◌≤◌}
use mathlib.Core.Path.{◌≡◌, refl, sym, ap, ◌∙◌}
use native.Mathlib.Nat.{pow-suc, mul_assoc, mul_comm, mul-le-mul_left, div-div-eq-div-mul, mul-add-div, mul-add-mod_self_left, mod-eq_of_lt, div-lt_iff_lt-mul, div-eq_of_lt, add-zero}
use native.Mathlib.Omega.{arith}
use lib.Pow.{pow-add}
use Rattle.geometry.specs.Geometry.{leaf_node, path_node}
use Rattle.geometry.specs.Entries.{entry_word, tag_of, availability_of}

-- A level is 1 to 4.
pub record Level (l : ℕ) : Type 0 where
  pub low : 1 ≤ l
  pub high : l ≤ 4

pow8_pos : (k : ℕ) → 0 < 8 ^ k
pow8_pos zero = omega arith
pow8_pos (suc k) = rw pow-suc (let h : 0 < 8 ^ k = pow8_pos k in omega arith)

-- A shift by three for each level is a division by 8 for each.
pub eights : (k : ℕ) → 2 ^ (3 * k) ≡ 8 ^ k
eights zero = refl
eights (suc k) =
    let one_more : 3 * suc k ≡ suc (suc (suc (3 * k))) = omega arith in
    ap (λ (n : ℕ). 2 ^ n) one_more ∙ omega (arith, eights k)

-- The nodes of a level times the leaf nodes beneath each.
pub nodes_beneath : (l : ℕ) → Level l → 8 ^ (l - 1) * 8 ^ (4 - l) ≡ 512
nodes_beneath l h =
    let three : (l - 1) + (4 - l) ≡ 3 = omega arith in
    sym (pow-add 8 (l - 1) (4 - l)) ∙ ap (λ (k : ℕ). 8 ^ k) three

module _ (l : ℕ) (h : Level l) (t s : ℕ) where
  -- A path node is the leaf node's number divided by the leaf nodes beneath it.
  pub from_leaf : (512 * t + leaf_node s) / 8 ^ (4 - l) ≡ path_node l t s
  unfolding path_node
  from_leaf =
      ap (λ (k : ℕ). (k * t + leaf_node s) / 8 ^ (4 - l)) (sym (nodes_beneath l h) ∙ mul_comm (8 ^ (l - 1)) (8 ^ (4 - l)))
      ∙ ap (λ (k : ℕ). (k + leaf_node s) / 8 ^ (4 - l)) (mul_assoc (8 ^ (4 - l)) (8 ^ (l - 1)) t)
      ∙ mul-add-div (pow8_pos (4 - l)) (8 ^ (l - 1) * t) (leaf_node s)

  module _ (in_treeling : s < 4096) where
    within : leaf_node s / 8 ^ (4 - l) < 8 ^ (l - 1)
    within =
        let fewer : leaf_node s < 8 ^ (l - 1) * 8 ^ (4 - l) = rw nodes_beneath (omega arith) in
        (div-lt_iff_lt-mul (pow8_pos (4 - l))).1 fewer

    -- "the node within the TreeLing": the remainder does not depend on the TreeLing's number.
    pub node_within : path_node l t s % 8 ^ (l - 1) ≡ leaf_node s / 8 ^ (4 - l)
    unfolding path_node
    node_within = mul-add-mod_self_left (8 ^ (l - 1)) t (leaf_node s / 8 ^ (4 - l)) ∙ mod-eq_of_lt within

    -- The quotient is the TreeLing.
    pub node_treeling : path_node l t s / 8 ^ (l - 1) ≡ t
    unfolding path_node
    node_treeling =
        mul-add-div (pow8_pos (l - 1)) t (leaf_node s / 8 ^ (4 - l))
        ∙ ap (λ (k : ℕ). t + k) (div-eq_of_lt within)
        ∙ add-zero t

    -- A node number is below 8^(level−1) times T.
    pub node_below : (T : ℕ) → t < T → path_node l t s < 8 ^ (l - 1) * T
    unfolding path_node
    node_below T fewer =
        omega (arith, within, mul-le-mul_left (8 ^ (l - 1)) fewer)

-- A path node is its child's number divided by 8, rounded down.
pub node_of_child : (l t s : ℕ) → Level l → l < 4 → path_node l t s ≡ path_node (l + 1) t s / 8
node_of_child l t s h above =
    let one_more : 4 - l ≡ suc (4 - (l + 1)) = omega arith in
    sym (from_leaf l h t s)
    ∙ ap (λ (k : ℕ). (512 * t + leaf_node s) / 8 ^ k) one_more
    ∙ ap (λ (k : ℕ). (512 * t + leaf_node s) / k) (pow-suc 8 (4 - (l + 1)))
    ∙ sym (div-div-eq-div-mul (512 * t + leaf_node s) (8 ^ (4 - (l + 1))) 8)
    ∙ ap (λ (k : ℕ). k / 8) (from_leaf (l + 1) (record { low = omega arith; high = omega arith }) t s)

-- Nodes of two different TreeLings never coincide, on any level.
pub nodes_apart : (l t s u r : ℕ) → Level l → s < 4096 → r < 4096 → path_node l t s ≡ path_node l u r → t ≡ u
nodes_apart l t s u r h hs hr same =
    sym (node_treeling l h t s hs) ∙ ap (λ (k : ℕ). k / 8 ^ (l - 1)) same ∙ node_treeling l h u r hr

-- NFL words, there and back.
pub entry_tag : (g a : ℕ) → a < 256 → tag_of (entry_word g a) ≡ g
entry_tag g a h = omega arith

pub entry_availability : (g a : ℕ) → a < 256 → availability_of (entry_word g a) ≡ a
entry_availability g a h = omega arith

pub entry_back : (w : ℕ) → entry_word (tag_of w) (availability_of w) ≡ w
entry_back w = omega arith
