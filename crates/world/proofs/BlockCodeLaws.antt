-- Laws of a block by value: its words, writing it back with one word changed, the head's words, and searching a block's words in turn.
-- Assumes nothing.
use Prim.Native.Nat.{ℕ, suc, ◌+◌, ◌-◌, ◌*◌, ◌/◌, ◌%◌, ◌<◌, ◌≤◌}
use mathlib.Core.Path.{◌≡◌, sym, ap, ap₂, ◌∙◌}
use mathlib.Core.Bool.{Bool, true, false}
use mathlib.Core.List.{List, ◌++◌}
use native.Mathlib.Numerals.{add-one}
use native.Mathlib.Omega.{arith}
use lib.ListN.{length, get_or, set, take, drop, length-set, length-drop, take-append-drop}
use lib.Seq.{sets, sets-eq, get_or-take, get_or-drop, length-take-le, take-set-le, take-set-lt, drop-set-lt, drop-set-add, take-add}
use Rattle.layout.specs.declared.Sizes.{Sizes}
use Rattle.layout.specs.Places.{Laid, entry, head_treeling, head_block, address, get, put}
use Rattle.blocks.specs.Blocks.{block, put_block}
use Rattle.geometry.specs.Tables.{first_from}
use Rattle.world.specs.World.{head_to}
use Rattle.geometry.proofs.FirstLaws.{first_none, first_here, first_later}

-- A part of a list written back with one element changed is one write.
part_one : (s : List ℕ) (a n k v : ℕ) → a + n ≤ length s → k < n → sets s a (set (take n (drop a s)) k v) ≡ set s (a + k) v
part_one s a n k v fits below =
    let r = set s (a + k) v in
    let ws = set (take n (drop a s)) k v in
    let long : length ws ≡ n = length-set (take n (drop a s)) k v ∙ length-take-le n (drop a s) (omega (arith, length-drop a s)) in
    let part : ws ≡ take n (drop a r) =
    sym (ap (take n) (drop-set-add a s k v) ∙ take-set-lt n (drop a s) k v below) in
    let before : take a s ≡ take a r = sym (take-set-le a s (a + k) v (omega arith)) in
    let after : drop (a + length ws) s ≡ drop (a + n) r =
    ap (λ (m : ℕ). drop (a + m) s) long ∙ sym (drop-set-lt (a + n) s (a + k) v (omega arith)) in
    sets-eq ws s a (omega arith)
    ∙ ap₂ ◌++◌ (ap₂ ◌++◌ before part ∙ sym (take-add a n r)) after
    ∙ take-append-drop (a + n) r

module _ (z : Sizes) (s : List ℕ) (t b k : ℕ) (below : k < 8) where
  -- Word k of block b of TreeLing t is its entry 8b + k.
  pub block-word : get_or (block z s t b) k 0 ≡ get z s (entry t (8 * b + k))
  block-word =
      get_or-take 8 (drop (address z (entry t (8 * b))) s) k 0 below
      ∙ get_or-drop (address z (entry t (8 * b))) s k 0
      ∙ ap (λ (a : ℕ). get_or s a 0) (omega arith)

  -- The block with that word changed, written back, is the entry changed.
  pub put-block_one : Laid z s → t < z.treelings → b < 64 → (v : ℕ) → put_block z s t b (set (block z s t b) k v) ≡ put z s (entry t (8 * b + k)) v
  put-block_one laid in_state in_treeling v =
      part_one s (address z (entry t (8 * b))) 8 k v (omega arith) below
      ∙ ap (λ (a : ℕ). set s a v) (omega arith)

-- Entry k is word k % 8 of block k / 8.
pub entry_split : (k : ℕ) → 8 * (k / 8) + k % 8 ≡ k
entry_split k = omega arith

-- So it is changed by handing back that block with one word changed.
entry_written : (z : Sizes) (s : List ℕ) (t k : ℕ) → Laid z s → t < z.treelings → k < 512 → (v : ℕ) → put_block z s t (k / 8) (set (block z s t (k / 8)) (k % 8) v) ≡ put z s (entry t k) v
entry_written z s t k laid in_state in_treeling v =
    put-block_one z s t (k / 8) (k % 8) (omega arith) laid in_state (omega arith) v
    ∙ ap (λ (e : ℕ). put z s (entry t e) v) (entry_split k)

-- The head's two words, written from address a on.
head_written : (z : Sizes) (s : List ℕ) (d t b a : ℕ) → a ≡ address z (head_treeling d) → set (set s a (t + 1)) (a + 1) b ≡ head_to z d t b s
head_written z s d t b a at =
    let next : a + 1 ≡ address z (head_block d) = omega arith in
    ap (λ (k : ℕ). set (set s a (t + 1)) k b) next
    ∙ ap (λ (k : ℕ). put z (set s k (t + 1)) (head_block d) b) at
    ∙ ap (λ (v : ℕ). put z (put z s (head_treeling d) v) (head_block d) b) (add-one t)

-- The block handed back and the two head words: the entry gets its word, and its block is the head.
pub marked : (z : Sizes) (s r : List ℕ) (d t k v h : ℕ) → Laid z s → t < z.treelings → k < 512 → r ≡ put_block z s t (k / 8) (set (block z s t (k / 8)) (k % 8) v) → h ≡ address z (head_treeling d)
    → set (set r h (t + 1)) (h + 1) (k / 8) ≡ head_to z d t (k / 8) (put z s (entry t k) v)
marked z s r d t k v h laid below small changed head =
    ap (λ (l : List ℕ). set (set l h (t + 1)) (h + 1) (k / 8)) (changed ∙ entry_written z s t k laid below small v)
    ∙ head_written z (put z s (entry t k) v) d t (k / 8) h head

-- A search for the first number below n that p holds of. At k what is left gives the whole answer,
abbrev pub LeftOf : (ℕ → Bool) → ℕ → ℕ → ℕ → Type 0
LeftOf p n k answer = first_from p k (n - k) ≡ answer

-- which is that of the search from 0 on.
abbrev pub Left : (ℕ → Bool) → ℕ → ℕ → Type 0
Left p n k = LeftOf p n k (first_from p 0 n)

-- The answer:
module _ (p : ℕ → Bool) (n k : ℕ) {answer : ℕ} (left : LeftOf p n k answer) where
  one_left : k < n → first_from p k (suc (n - suc k)) ≡ answer
  one_left more = ap (first_from p k) (omega arith) ∙ left

  -- it is k where p holds of k,
  pub left_here : k < n → p k ≡ true → k ≡ answer
  left_here more h = sym (first_here p k (n - suc k) h) ∙ one_left more

  -- it is among the others where it does not,
  pub left_later : k < n → p k ≡ false → LeftOf p n (k + 1) answer
  left_later more h = rw add-one (sym (first_later p k (n - suc k) h) ∙ one_left more)

  -- and it is n where none are left.
  pub left_none : n ≤ k → k ≤ n → n ≡ answer
  left_none none most =
      let is : k ≡ n = omega arith in
      let no : n - k ≡ 0 = omega arith in
      sym is ∙ sym (first_none p k) ∙ ap (first_from p k) (sym no) ∙ left
