-- Laws of the code that takes a TreeLing: the search of the pool, the fresh entries, the writes.
-- Assumes nothing.
use Prim.Native.Nat.{ℕ, zero, suc, ◌+◌, ◌-◌, ◌*◌, ◌%◌, ◌<◌}
use mathlib.Core.Path.{◌≡◌, refl, sym, ap, ap₂, ◌∙◌}
use mathlib.Core.List.{List, ◌∷◌, ◌++◌, map}
use mathlib.Core.Bool.{Bool, true, false, cond}
use native.Mathlib.Nat.{mod-eq_of_lt, add-mod_right, zero-add, add-zero, sub-zero}
use native.Mathlib.Numerals.{add-one}
use native.Mathlib.Omega.{arith}
use borrow.Author.Tests.{eq-eqb, ne_eqb}
use lib.Dec.{eqb}
use lib.ListN.{get_or, set}
use Rattle.layout.specs.declared.Sizes.{Sizes}
use Rattle.geometry.specs.Entries.{entry_word}
use Rattle.geometry.specs.Tables.{first_from}
use Rattle.layout.specs.Places.{get, hand, owner, entry, address, first, last, next, rank, previous, former}
use Rattle.sound.specs.Sound.{Sound}
use Rattle.world.specs.World.{owned}
use Rattle.world.specs.Find.{find_from}
use Rattle.std.specs.List.{find, range_with_len}
use Rattle.std.specs.Option.{option_map, option_or}
use Rattle.std.proofs.lemmas.List.{map-append, map-id}
use Rattle.std.proofs.lemmas.List.Folds.{find-append}
use Rattle.std.proofs.lemmas.Iterator.Adapters.{option_map_id}
use Rattle.taking.specs.Taking.{pooled, has_unowned, unowned, fresh_entries, link_to, taking}
use Rattle.taking.specs.CodePool.{is_unowned, pool}
use Rattle.std.specs.Prelude.{Option, Some, None}
use Rattle.world.proofs.FindLaws.{find_of_map}
use Rattle.world.proofs.WorldLaws.{last_none, last_some, owned_most}

-- ---- The search of the pool
-- Numbers in turn, each made by f of one of others in turn.
turned : (f : ℕ → ℕ) (a b n : ℕ) → ((k : ℕ) → k < n → f (a + k) ≡ b + k) → map f (range_with_len a n) ≡ range_with_len b n
turned f a b zero each = refl
turned f a b (suc n) each =
    ap₂ ◌∷◌
    (ap f (sym (add-zero a)) ∙ each 0 (omega arith) ∙ add-zero b)
    (turned f (a + 1) (b + 1) n (λ k l. ap f (omega arith) ∙ each (suc k) (omega arith) ∙ omega arith))

split : (a m n : ℕ) → range_with_len a (m + n) ≡ range_with_len a m ++ range_with_len (a + m) n
split a zero n = rw (zero-add, add-zero) refl
split a (suc m) n =
    let one : suc m + n ≡ suc (m + n) = omega arith in
    let next : a + 1 + m ≡ a + suc m = omega arith in
    rw one (ap (λ (l : List ℕ). a ∷ l) (split (a + 1) m n ∙ ap (λ (k : ℕ). range_with_len (a + 1) m ++ range_with_len k n) next))

module _ (z : Sizes) (s : List ℕ) (h : Sound z s) where
  -- Where the steps from the hand lead: upward, and then around.
  pub upward : (i t : ℕ) → get z s hand + i ≡ t → t < z.treelings → pooled z s i ≡ t
  upward i t is l = ap (λ (k : ℕ). k % z.treelings) is ∙ mod-eq_of_lt l

  pub around : (i t : ℕ) → get z s hand + i ≡ t + z.treelings → t < z.treelings → pooled z s i ≡ t
  around i t is l = ap (λ (k : ℕ). k % z.treelings) is ∙ add-mod_right t z.treelings ∙ mod-eq_of_lt l

  -- So the TreeLings of the pool in turn are the numbers from the hand on, and then those below it.
  abbrev pub in_turn : List ℕ
  in_turn = range_with_len (get z s hand) (z.treelings - get z s hand) ++ range_with_len 0 (get z s hand)

  ring : map (pooled z s) (range_with_len 0 z.treelings) ≡ in_turn
  ring =
      let most = h.laid_out.hand_range in
      let above = z.treelings - get z s hand in
      let both : z.treelings ≡ above + get z s hand = omega arith in
      ap (λ (n : ℕ). map (pooled z s) (range_with_len 0 n)) both
      ∙ ap (map (pooled z s)) (split 0 above (get z s hand))
      ∙ map-append (pooled z s) (range_with_len 0 above) (range_with_len (0 + above) (get z s hand))
      ∙ ap₂ ◌++◌
      (turned (pooled z s) 0 (get z s hand) above (λ k l. upward (0 + k) (get z s hand + k) (omega arith) (omega arith)))
      (turned (pooled z s) (0 + above) 0 (get z s hand) (λ k l. around (0 + above + k) (0 + k) (omega arith) (omega arith)))

  -- The first of them that is unowned is the answer.
  pub pool_found : (r : Option ℕ) → option_map (λ t. t) r ≡ find (λ t. eqb (get z s (owner t)) 0) in_turn → r ≡ pool z s
  pool_found r is =
      sym (option_map_id r)
      ∙ is
      ∙ ap (find (λ t. eqb (get z s (owner t)) 0)) (sym ring)
      ∙ find_of_map (λ t. eqb (get z s (owner t)) 0) (pooled z s) 0 z.treelings
      ∙ by_steps
    where
      free : ℕ → Bool
      free i = eqb (get z s (owner (pooled z s i))) 0

      by_test : (b : Bool) (i : ℕ) → option_map (pooled z s) (cond b (Some i) None) ≡ cond b (Some (pooled z s i)) None
      by_test true i = refl
      by_test false i = refl

      by_steps : option_map (pooled z s) (find_from free 0 z.treelings) ≡ pool z s
      by_steps = rw zero-add (by_test (has_unowned z s) (first_from free 0 z.treelings))

  -- So are two searches of numbers: from the hand on, and where that finds none, from 0 to the hand.
  pub pool_searched : (r q : Option ℕ) → r ≡ find_from (is_unowned z s) (get z s hand) (z.treelings - get z s hand) → (r ≡ None → q ≡ find_from (is_unowned z s) 0 (get z s hand - 0)) → ((t : ℕ) → r ≡ Some t → q ≡ Some t) → q ≡ pool z s
  pool_searched r q is none some =
      pool_found q
      (option_map_id q
      ∙ either r none some
      ∙ ap₂ option_or (is ∙ numbers (get z s hand) (z.treelings - get z s hand)) (numbers 0 (get z s hand))
      ∙ sym (find-append (is_unowned z s) (range_with_len (get z s hand) (z.treelings - get z s hand)) (range_with_len 0 (get z s hand))))
    where
      numbers : (a n : ℕ) → find_from (is_unowned z s) a n ≡ find (is_unowned z s) (range_with_len a n)
      numbers a n =
          sym (option_map_id (find_from (is_unowned z s) a n))
          ∙ sym (find_of_map (is_unowned z s) (λ t. t) a n)
          ∙ ap (find (is_unowned z s)) (map-id (range_with_len a n))

      either : (r : Option ℕ) → (r ≡ None → q ≡ find_from (is_unowned z s) 0 (get z s hand - 0)) → ((t : ℕ) → r ≡ Some t → q ≡ Some t) → q ≡ option_or r (find_from (is_unowned z s) 0 (get z s hand))
      either None none some = none refl ∙ ap (find_from (is_unowned z s) 0) (sub-zero (get z s hand))
      either (Some t) none some = some t refl

-- What the answer says of the tests.
module _ (z : Sizes) (s : List ℕ) where
  pub some_unowned : (t : ℕ) → pool z s ≡ Some t → (has_unowned z s ≡ true) × (unowned z s ≡ t)
  some_unowned t e = go (has_unowned z s) e
    where
      go : (b : Bool) → cond b (Some (unowned z s)) None ≡ Some t → (b ≡ true) × (unowned z s ≡ t)
      go true same = (refl, cc)
      go false same = absurd (let never : ◌≡◌ {A = ℕ} 0 1 = cc in omega arith)

  pub none_unowned : pool z s ≡ None → has_unowned z s ≡ false
  none_unowned e = go (has_unowned z s) e
    where
      go : (b : Bool) → cond b (Some (unowned z s)) None ≡ None → b ≡ false
      go true same = absurd (let never : ◌≡◌ {A = ℕ} 0 1 = cc in omega arith)
      go false same = refl

-- ---- The fresh entries
module _ (z : Sizes) (s : List ℕ) (t : ℕ) where
  -- None, and one more, written at its place from the first entry on.
  pub fresh_none : s ≡ fresh_entries z s t 0
  unfolding fresh_entries
  fresh_none = refl

  pub fresh_next : (r : List ℕ) (at k v : ℕ) → at ≡ address z (entry t 0) → v ≡ entry_word (512 * t + k) 255 → r ≡ fresh_entries z s t k
      → set r (at + k) v ≡ fresh_entries z s t (k + 1)
  unfolding fresh_entries
  fresh_next r at k v e w h =
      let where_k : at + k ≡ address z (entry t k) = omega arith in
      rw (add-one, where_k, w, h)

-- ---- The last TreeLing of a domain
-- The place for the link, from the test that there is none.
abbrev link_by : Sizes → List ℕ → ℕ → Bool → ℕ
link_by z s d b = address z (cond b (first d) (next (get z s (last d) - 1)))

module _ (z : Sizes) (s : List ℕ) (h : Sound z s) (d : ℕ) (l : d < z.domains) where
  -- None: no TreeLing is owned, and the link goes to first.
  pub number_none : get z s (last d) ≡ 0 → 0 ≡ owned z s d
  number_none e = sym (last_none z s h d l e)

  pub link_none : get z s (last d) ≡ 0 → address z (first d) ≡ address z (link_to z s d)
  link_none e = ap (link_by z s d) (sym (eq-eqb _ 0 e))

  -- One: it has the largest rank, and the link goes to its next.
  module _ (t : ℕ) (some : get z s (last d) ≡ suc t) where
    pub last_below : t < z.treelings
    last_below = omega (arith, h.last_range d l)

    pub number_some : (k : ℕ) → k ≡ address z (rank t) → (get_or s k 0 + 1 ≡ owned z s d) × (get_or s k 0 < 4096)
    number_some k e =
        let w = last_some z s h d l t some in
        let same = ap (λ (b : ℕ). get_or s b 0) e in
        (omega (arith, w.1), omega (arith, w.1, owned_most z s h d l, h.laid_out.laid.sizes.max_treelings))

    pub link_some : address z (next t) ≡ address z (link_to z s d)
    link_some =
        let is : t ≡ get z s (last d) - 1 = omega arith in
        ap (λ (x : ℕ). address z (next x)) is ∙ ap (link_by z s d) (sym (ne_eqb _ 0 (λ e. omega arith)))

-- ---- The writes, in the code's words.
pub take_writes : (z : Sizes) (s : List ℕ) (d t at end link n a : ℕ) → at ≡ address z (owner t) → end ≡ address z (last d) → link ≡ address z (link_to z s d) → n ≡ owned z s d → a ≡ suc t % z.treelings
    → fresh_entries z (set (set (set (set (set (set (set s 3 a) at (d + 1)) (at + 1) (get_or s end 0)) (at + 3) n) (at + 4) (d + 1)) link (t + 1)) end (t + 1)) t 512 ≡ taking z s d t
unfolding taking
take_writes z s d t at end link n a hat hend hlink hn ha =
    let one : at + 1 ≡ address z (previous t) = omega arith in
    let three : at + 3 ≡ address z (rank t) = omega arith in
    let four : at + 4 ≡ address z (former t) = omega arith in
    rw (one, three, four, hat, hend, hlink, hn, ha, add-one d, add-one t)
