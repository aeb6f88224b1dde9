-- Laws of placing as the code does it: where a page will go, and an entry that gives its lowest free position.
-- Assumes nothing.
use Prim.Native.Nat.{ℕ, suc, ◌+◌, ◌-◌, ◌*◌, ◌/◌, ◌%◌, ◌^◌, ◌<◌, ◌≤◌}
use mathlib.Core.Path.{◌≡◌, refl, sym, ap, ap₂, subst, ◌∙◌}
use mathlib.Core.Bool.{Bool, true, false, cond, false≢true}
use mathlib.Core.List.{List}
use native.Mathlib.Nat.{lt_of_not-le, one-mul}
use native.Mathlib.Numerals.{add-one}
use native.Mathlib.Omega.{arith}
use borrow.Author.Tests.{lt-ltb, le-ltb}
use lib.Dec.{ltb}
use lib.ListN.{get_or, set}
use lib.Seq.{get_or-set_other}
use lib.Pow.{shl_exact}
use Rattle.layout.specs.declared.Sizes.{Sizes}
use Rattle.geometry.specs.Entries.{tag_of, availability_of}
use Rattle.leaf_map.specs.LeafIds.{leaf_at}
use Rattle.layout.specs.Places.{Place, entry, get, head_treeling, head_block, next, rank, leaf, pages_mapped, address, put}
use Rattle.blocks.specs.Blocks.{block}
use Rattle.geometry.specs.Tables.{first_from, lowest_free}
use Rattle.geometry.proofs.FirstLaws.{first_from_lem, first_holds}
use Rattle.sound.specs.Sentences.{head_in_order, of_rank}
use Rattle.sound.specs.Sound.{Sound, Ordinary}
use Rattle.world.specs.World.{world, owned, entry_of, head_to}
use Rattle.world.specs.Find.{find_from}
use Rattle.placing.specs.Placing.{place_entry, spot_at, has_own_entry, own_treeling, own_entry, from_pool, decision, position_given, leaf_given, after_giving}
use Rattle.placing.specs.CodeSpot.{own_spot}
use Rattle.placing.specs.declared.Spot.{Spot}
use Rattle.placing.specs.declared.Decision.{Decision}
use Rattle.std.specs.Prelude.{Some, None}
use Rattle.std.proofs.lemmas.Option.{cond_some, none-some}
use Rattle.world.proofs.FindLaws.{NoneIn, first_is, found_told}
use Rattle.placing.specs.declared.Decision.TheVariants.{Own}
use Rattle.world.proofs.WorldLaws.{OfRank, none_first, head_some, rank_below_owned, of_rank_lem, of_rank_back, next_some, next_none, entry_back}
use Rattle.world.proofs.BlockCodeLaws.{block-word}
use Rattle.world.proofs.ClearLaws.{lowest_below, lowest_bit, bit_least}

-- None of them: it is past the last.
first_past : (p : ℕ → Bool) (i n : ℕ) → ((m : ℕ) → i ≤ m → m < i + n → p m ≡ false) → i + n ≤ first_from p i n
first_past p i n none =
    let not_before : first_from p i n < i + n → ⊥ =
    λ less. false≢true (sym (none (first_from p i n) (first_from_lem p i n) less) ∙ first_holds p i n less) in
    omega arith

-- An entry has a free position.
abbrev pub is_free : List ℕ → ℕ → Bool
is_free words k = ltb 0 (availability_of (get_or words k 0))

-- ---- The search
-- Block b of TreeLing t, one of domain d's, is its head.
pub record HeadAt (z : Sizes) (s : List ℕ) (d t b : ℕ) : Type 0 where
  pub own : OfRank z s d (get z s (rank t)) t
  pub small : b < 64
  pub order_is : head_in_order z s d ≡ 64 * get z s (rank t) + b
  pub head_is : (world z s d).nfl.head ≡ 64 * get z s (rank t) + b

module _ (z : Sizes) (s : List ℕ) (d : ℕ) where
  -- What the search finds is the entry in rank order, by TreeLing and number,
  found : (r k t : ℕ) → place_entry (world z s d) ≡ 512 * r + k → k < 512 → r < owned z s d → of_rank z s d r ≡ t → Some (spot_at t k) ≡ own_spot z s d
  found r k t is small below of =
      let same : of_rank z s d ((512 * r + k) / 512) ≡ t = ap (of_rank z s d) (omega arith) ∙ of in
      let rest : (512 * r + k) % 512 ≡ k = omega arith in
      rw is (rw (lt-ltb (512 * r + k) (512 * owned z s d) (omega arith)) (sym (ap₂ (λ (u e : ℕ). Some (spot_at u e)) same rest)))

  -- or there is none.
  full : 512 * owned z s d ≤ place_entry (world z s d) → None ≡ own_spot z s d
  full past = rw (le-ltb (place_entry (world z s d)) (512 * owned z s d) past)

  -- One that is found is the decision, and else the pool decides.
  pub own_decided : (sp : Spot) → own_spot z s d ≡ Some sp → Own sp ≡ decision z s d
  unfolding decision
  own_decided sp e =
      let w = cond_some (has_own_entry z s d) (spot_at (own_treeling z s d) (own_entry z s d)) sp e in
      rw w.0 (ap Own (sym w.1))

  pub pool_decided : own_spot z s d ≡ None → (x : Decision) → x ≡ from_pool z s d → x ≡ decision z s d
  unfolding decision
  pool_decided e x is = is ∙ by_test (has_own_entry z s d) e
    where
      by_test : (b : Bool) → cond b (Some (spot_at (own_treeling z s d) (own_entry z s d))) None ≡ None → from_pool z s d ≡ cond b (Own (spot_at (own_treeling z s d) (own_entry z s d))) (from_pool z s d)
      by_test true never = absurd (none-some _ (sym never))
      by_test false none = refl

module _ (z : Sizes) (s : List ℕ) (h : Sound z s) (d : ℕ) (l : d < z.domains) (ordinary : Ordinary z s d) where
  -- One with a head TreeLing has some.
  some_owned : 0 < get z s (head_treeling d) → 0 < owned z s d
  some_owned some =
      lt_of_not-le λ none.
      omega (arith, h.empty_zero d 2 l (omega arith) (none_first z s h d l (omega arith)))

  -- The words of its record say where its head is: the head TreeLing's at i,
  module _ (i : ℕ) (at_head : i ≡ address z (head_treeling d)) where
    head : get_or s i 0 ≡ get z s (head_treeling d)
    head = ap (λ (k : ℕ). get_or s k 0) at_head

    -- without which it has none at all,
    pub search_none : get_or s i 0 ≡ 0 → None ≡ own_spot z s d
    search_none e =
        let no : 0 < owned z s d → ⊥ = λ some. omega (arith, (head_some z s h d l ordinary some).1, head) in
        full z s d (omega arith)

    -- and the head block's at j.
    pub head_at_lem : (j t : ℕ) → j ≡ address z (head_block d) → get_or s i 0 ≡ suc t → HeadAt z s d t (get_or s j 0)
    head_at_lem j t at_block some =
        let number : get_or s j 0 ≡ get z s (head_block d) = ap (λ (k : ℕ). get_or s k 0) at_block in
        let w = head_some z s h d l ordinary (some_owned (omega (arith, head))) in
        let is : w.0 ≡ t = omega (arith, w.1, head) in
        let same : get z s (rank w.0) ≡ get z s (rank t) = ap (λ (u : ℕ). get z s (rank u)) is in
        let named : get z s (head_treeling d) - 1 ≡ t = omega (arith, head) in
        record {
          own = subst (λ (u : ℕ). OfRank z s d (get z s (rank u)) u) is w.2;
          small = omega (arith, h.block_range d l);
          order_is = omega (arith, ap (λ (u : ℕ). get z s (rank u)) named);
          head_is = omega (arith, w.3);
        }

  -- The words of the head block, read.
  module _ (t b : ℕ) (a : HeadAt z s d t b) (words : List ℕ) (read : words ≡ block z s t b) where
    -- Its TreeLing has a rank, and is that of its rank.
    rank-owned : get z s (rank t) < owned z s d
    rank-owned = rank_below_owned z s h d l t a.own.below a.own.owner_is

    of_own : of_rank z s d (get z s (rank t)) ≡ t
    of_own = of_rank_back z s h d l t a.own.below a.own.owner_is

    -- Entry j in rank order has a free position.
    abbrev has_free : ℕ → Bool
    has_free j = ltb 0 ((world z s d).nfl.free j)

    -- The first entry of the head block in rank order.
    abbrev start : ℕ
    start = 512 * get z s (rank t) + 8 * b

    -- From it on the place is looked for.
    place_from : place_entry (world z s d) ≡ first_from has_free start (512 * owned z s d - start)
    place_from =
        ap (λ (a : ℕ). first_from has_free a (512 * owned z s d - a)) (omega (arith, a.head_is))

    -- Entries of the head block, in rank order and by value.
    head_entry : (k : ℕ) → k < 8 → has_free (start + k) ≡ is_free words k
    head_entry k below =
        let at : start + k ≡ 512 * get z s (rank t) + (8 * b + k) = omega arith in
        ap has_free at
        ∙ ap (λ (e : Place). ltb 0 (availability_of (get z s e))) (entry_back z s h d l t (8 * b + k) a.own.below a.own.owner_is (omega (arith, a.small)))
        ∙ sym (ap (λ (ws : List ℕ). is_free ws k) read ∙ ap (λ (w : ℕ). ltb 0 (availability_of w)) (block-word z s t b k below))

    -- None of those before one of them, where by value none is.
    head_before : (k : ℕ) → k ≤ 8 → NoneIn (is_free words) 0 k → NoneIn has_free start (start + k)
    head_before k most none m low high =
        let at : m ≡ start + (m - start) = omega arith in
        ap has_free at ∙ head_entry (m - start) (omega arith) ∙ none (m - start) (omega arith) (omega arith)

    -- "the first entry with a free position"
    pub search_here : (k : ℕ) → find_from (is_free words) 0 8 ≡ Some k → Some (spot_at t (8 * b + k)) ≡ own_spot z s d
    search_here k is =
        let w = found_told (is_free words) 0 8 (Some k) (sym is) in
        let low : k < 8 = omega (arith, w.1) in
        let less = rank-owned in
        let here = first_is has_free start (512 * owned z s d - start) (start + k) (omega arith) (omega arith) (head_entry k low ∙ w.2) (head_before k (omega arith) w.3) in
        found z s d (get z s (rank t)) (8 * b + k) t (place_from ∙ here ∙ omega arith) (omega arith) less of_own

    -- The head block has none.
    module _ (none : find_from (is_free words) 0 8 ≡ None) where
      none_before : (m : ℕ) → start ≤ m → m < start + 8 → has_free m ≡ false
      none_before = head_before 8 (omega arith) (λ k low less. found_told (is_free words) 0 8 None (sym none) k low (omega arith))

      -- The next entry in rank order is in a block after it.
      search_after : (r k u : ℕ) → 512 * r + k ≡ start + 8 → k < 512 → r < owned z s d → OfRank z s d r u → of_rank z s d r ≡ u → Some (spot_at u k) ≡ own_spot z s d
      search_after r k u is small less own of =
          let here : entry_of z s d (512 * r + k) ≡ entry u k =
          ap (λ (q : ℕ). entry_of z s d (512 * q + k)) (sym own.rank_is) ∙ entry_back z s h d l u k own.below own.owner_is small in
          let after : 0 < availability_of (get z s (entry u k)) =
          h.after_head_lem d u k own.below small own.owner_is ordinary (omega (arith, a.order_is, own.rank_is)) in
          let holds : has_free (512 * r + k) ≡ true =
          ap (λ (e : Place). ltb 0 (availability_of (get z s e))) here ∙ lt-ltb 0 (availability_of (get z s (entry u k))) after in
          let place = first_is has_free start (512 * owned z s d - start) (512 * r + k) (omega arith) (omega arith) holds (λ m low high. none_before m low (omega arith)) in
          found z s d r k u (place_from ∙ place) small less of

      -- "the head moves to the next block": of the same TreeLing,
      pub search_next : b < 63 → Some (spot_at t (8 * b + 8)) ≡ own_spot z s d
      search_next more =
          search_after (get z s (rank t)) (8 * b + 8) t (omega arith) (omega arith) rank-owned a.own of_own

      -- or of the next one, whose link is the word at i,
      module _ (last : 63 ≤ b) (i : ℕ) (at_next : i ≡ address z (next t)) where
        link : get_or s i 0 ≡ get z s (next t)
        link = ap (λ (k : ℕ). get_or s k 0) at_next

        pub search_following : (u : ℕ) → get_or s i 0 ≡ suc u → Some (spot_at u 0) ≡ own_spot z s d
        search_following u some =
            let w = next_some z s h d l t u a.own.below a.own.owner_is (omega (arith, link)) in
            let r = suc (get z s (rank t)) in
            search_after r 0 u (omega (arith, a.small)) (omega arith) w.1 (subst (OfRank z s d r) w.0 (of_rank_lem z s h d l r w.1)) w.0

        -- or there is no next one.
        pub search_full : get_or s i 0 ≡ 0 → None ≡ own_spot z s d
        search_full end =
            let all = next_none z s h d l t a.own.below a.own.owner_is (sym link ∙ end) in
            let past = first_past has_free start (512 * owned z s d - start) (λ m low high. none_before m low (omega arith)) in
            full z s d (omega (arith, place_from))

-- ---- An entry gives its lowest free position
-- The word w of entry k of TreeLing t, and the position i that it gives.
pub record Given (z : Sizes) (s : List ℕ) (t k w i : ℕ) : Type 0 where
  pub word_is : w ≡ get z s (entry t k)
  pub position_is : i ≡ position_given z s t k
  pub position_below : i < 8
  pub shifted : (1 * 2 ^ i) % 18446744073709551616 ≡ 2 ^ i
  pub least : 2 ^ i ≤ w

-- By the word read at a.
pub given : (z : Sizes) (s : List ℕ) (t k a i : ℕ) → a ≡ address z (entry t k) → i ≡ lowest_free (get_or s a 0 % 256) → 0 < availability_of (get z s (entry t k)) → Given z s t k (get_or s a 0) i
given z s t k at i is_at lowest some =
    let word : get_or s at 0 ≡ get z s (entry t k) = ap (λ (j : ℕ). get_or s j 0) is_at in
    let is : i ≡ position_given z s t k = lowest ∙ ap (λ (w : ℕ). lowest_free (availability_of w)) word in
    let a = availability_of (get z s (entry t k)) in
    let byte : a < 256 = omega arith in
    let below : i < 8 = omega (arith, lowest_below a some byte) in
    let least : 2 ^ i ≤ a = subst (λ (j : ℕ). 2 ^ j ≤ a) (sym is) (bit_least (position_given z s t k) a (lowest_bit a some byte)) in
    record {
      word_is = word;
      position_is = is;
      position_below = below;
      shifted = shl_exact {a = 1} 1 i 64 (omega arith) (omega arith) ∙ one-mul (2 ^ i);
      least = omega arith;
    }

-- After the entry, the head and the leaf ID are written, what is left to write is the pages, at address a.
pub record Written (z : Sizes) (s : List ℕ) (d f t k id a : ℕ) (r : List ℕ) : Type 0 where
  pub leaf_is : id ≡ leaf_given z s t k
  pub pages_are : get_or r a 0 ≡ get z s (pages_mapped d)
  pub placed_is : set r a (get_or r a 0 + 1) ≡ after_giving z s d f t k

module _ (z : Sizes) (s : List ℕ) (d f t k w i : ℕ) (g : Given z s t k w i) (id a : ℕ) (leaf_at_lem : id ≡ leaf_at (w / 256) i) (at_pages : a ≡ address z (pages_mapped d)) (r1 r2 : List ℕ)
    (one : r1 ≡ head_to z d t (k / 8) (put z s (entry t k) (w - (1 * 2 ^ i) % 18446744073709551616)))
    (two : r2 ≡ put z r1 (leaf f) id) where
  -- The words with the entry written, as the definition has them,
  abbrev s1 : List ℕ
  s1 = put z s (entry t k) (get z s (entry t k) - 2 ^ position_given z s t k)

  one_is : r1 ≡ head_to z d t (k / 8) s1
  one_is =
      one
      ∙ ap₂ (λ (v e : ℕ). head_to z d t (k / 8) (put z s (entry t k) (v - e))) g.word_is (g.shifted ∙ ap (λ (j : ℕ). 2 ^ j) g.position_is)

  -- the leaf ID given,
  given_is : id ≡ leaf_given z s t k
  given_is = leaf_at_lem ∙ ap₂ (λ (v j : ℕ). leaf_at (tag_of v) j) g.word_is g.position_is

  -- and the words with it.
  two_is : r2 ≡ put z (head_to z d t (k / 8) s1) (leaf f) (leaf_given z s t k)
  two_is = two ∙ ap₂ (λ (r : List ℕ) (v : ℕ). put z r (leaf f) v) one_is given_is

  -- The pages are as before.
  pages_stay : d < z.domains → t < z.treelings → get_or r2 a 0 ≡ get z s (pages_mapped d)
  pages_stay ld lt =
      let pages = address z (pages_mapped d) in
      ap₂ (λ (r : List ℕ) (j : ℕ). get_or r j 0) two_is at_pages
      ∙ get_or-set_other (head_to z d t (k / 8) s1) (address z (leaf f)) pages (leaf_given z s t k) 0 (λ e. omega arith)
      ∙ get_or-set_other (put z s1 (head_treeling d) (suc t)) (address z (head_block d)) pages (k / 8) 0 (λ e. omega arith)
      ∙ get_or-set_other s1 (address z (head_treeling d)) pages (suc t) 0 (λ e. omega arith)
      ∙ get_or-set_other s (address z (entry t k)) pages (get z s (entry t k) - 2 ^ position_given z s t k) 0 (λ e. omega arith)

  -- With one more they are what the definition leaves.
  placed : get_or r2 a 0 ≡ get z s (pages_mapped d) → set r2 a (get_or r2 a 0 + 1) ≡ after_giving z s d f t k
  unfolding after_giving
  placed pages =
      ap₂ (λ (j v : ℕ). set r2 j v) at_pages (add-one (get_or r2 a 0) ∙ ap suc pages)
      ∙ ap (λ (r : List ℕ). put z r (pages_mapped d) (suc (get z s (pages_mapped d)))) two_is

  pub written : d < z.domains → t < z.treelings → Written z s d f t k id a r2
  written ld lt =
      let pages = pages_stay ld lt in
      record { leaf_is = given_is; pages_are = pages; placed_is = placed pages }
