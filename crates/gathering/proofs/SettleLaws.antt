-- The passes of regathering, one after another: the leaf nodes of a domain, with their whole availability above their own entries, are regathered.
-- Assumes nothing.
use Prim.Native.Nat.{ℕ, zero, suc, ◌+◌, ◌-◌, ◌*◌, ◌/◌, ◌%◌, ◌<◌, ◌≤◌}
use mathlib.Core.Path.{◌≡◌, refl, sym, ap, ap₂, ◌∙◌}
use mathlib.Core.List.{List, ◌++◌}
use mathlib.Core.Bool.{Bool, true, false, cond, not}
use mathlib.Core.Logic.{⊎_elim}
use native.Mathlib.Omega.{arith}
use borrow.Author.Tests.{lt-ltb, le-ltb}
use lib.Dec.{eqb, ltb}
use lib.ListN.{length, get_or}
use Rattle.std.proofs.lemmas.Bool.{cases_lt}
use Rattle.std.proofs.Math.ListN.{get_or-append}
use Rattle.std.proofs.Math.Seq.{get_or-append_right}
use Rattle.layout.specs.declared.Sizes.{Sizes}
use Rattle.geometry.specs.Entries.{entry_word}
use Rattle.layout.specs.Places.{get, put, entry, first, last, head_treeling, head_block}
use Rattle.layout.specs.Bounded.{count}
use Rattle.layout.proofs.BoundedLaws.{count_cong}
use Rattle.sound.specs.Sentences.{of_rank, link_of}
use Rattle.world.specs.World.{node_of}
use Rattle.gathering.specs.Regathering.{select, is_spent, gathered, gathered_word, entries_gathered, head_gathered, head_at, regathered}
use Rattle.gathering.specs.CodeGathering.{Chain, Filled, room, above_at, last_of, head_of, word_of, above_in, chosen, chosen_in, up_to, word_for, spread_word}
use Rattle.gathering.specs.declared.Walk.{Walk}
use Rattle.gathering.proofs.GatherListLaws.{select-length, select_cong, select_below, count_both}
use Rattle.gathering.proofs.GatherLaws.{walk_begin, fill_domain, fill_none, fill_as, fill_one, fill_then, fill_chain, fill_word, fill_node, fill_links, fill_ranks, up_none, up_next, up_all}
use Rattle.gathering.proofs.GatherSpreadLaws.{spread_keeps, spread_here, spread_before, word_for_small}

-- What stands above the own entry of leaf node p in rank order.
pub above_node : (z : Sizes) (s : List ℕ) (d p : ℕ) → above_in z s d p ≡ above_at z s (node_of z s d p)
above_node z s d p =
    let t : node_of z s d p / 512 ≡ of_rank z s d (p / 512) = omega arith in
    let k : node_of z s d p % 512 ≡ p % 512 = omega arith in
    sym (ap₂ (λ (u v : ℕ). get z s (entry u v) / room) t k)

module _ (z : Sizes) (s : List ℕ) (d m : ℕ) (o : Chain z s d m) (whole : ℕ → ℕ) where
  -- The definition, entry by entry.
  gathered_up : (j : ℕ) → j ≤ 512 * m → Filled z s d (entries_gathered z s d m whole j) m (up_to z s d j (gathered_word z s d m whole))
  unfolding entries_gathered
  gathered_up zero k = up_none o (gathered_word z s d m whole)
  gathered_up (suc j) k =
      up_next o (gathered_word z s d m whole) j (gathered_word z s d m whole j) (gathered_up j (omega arith)) (omega arith) refl

  -- All entries have their words.
  pub gathered_filled : Filled z s d (entries_gathered z s d m whole (512 * m)) m (gathered_word z s d m whole)
  gathered_filled = up_all o (gathered_word z s d m whole) (512 * m) (gathered_up (512 * m) (omega arith)) (omega arith)

  -- Each leaf node of the order is one of the domain's.
  pub order_below : (j : ℕ) → j < 512 * m → get_or (gathered z s d m whole) j 0 < 512 * m
  unfolding gathered
  order_below j k =
      let p = is_spent z s d m whole in
      let long = select-length p (512 * m) in
      ⊎_elim
      (λ a. rw (get_or-append (select p (512 * m)) (select (λ q. not (p q)) (512 * m)) 0 j (omega (arith, long))) (select_below p (512 * m) j a))
      (λ a.
      rw (get_or-append_right (select p (512 * m)) (select (λ q. not (p q)) (512 * m)) j 0 (omega (arith, long)))
      (select_below (λ q. not (p q)) (512 * m) (j - length (select p (512 * m))) (omega (arith, long, count_both p (512 * m)))))
      (cases_lt j (count (512 * m) p))

  -- The head, by whether some leaf node has a free position; it is a block of the domain.
  pub head_some : count (512 * m) (is_spent z s d m whole) < 512 * m → head_gathered z s d m whole ≡ count (512 * m) (is_spent z s d m whole) / 8
  unfolding head_gathered
  head_some less =
      let c = count (512 * m) (is_spent z s d m whole) in
      ap (λ (b : Bool). cond b (c / 8) (64 * m - 1)) (lt-ltb c (512 * m) less)

  pub head_none : 512 * m ≤ count (512 * m) (is_spent z s d m whole) → head_gathered z s d m whole ≡ 64 * m - 1
  unfolding head_gathered
  head_none all =
      let c = count (512 * m) (is_spent z s d m whole) in
      ap (λ (b : Bool). cond b (c / 8) (64 * m - 1)) (le-ltb c (512 * m) all)

  pub head_below : 0 < m → head_gathered z s d m whole < 64 * m
  head_below some =
      ⊎_elim (λ less. omega (arith, head_some less)) (λ all. omega (arith, head_none all)) (cases_lt (count (512 * m) (is_spent z s d m whole)) (512 * m))

-- ---- Regathered from other words in the entries, with the same whole availabilities
module _ (z : Sizes) (s : List ℕ) (d m : ℕ) (o : Chain z s d m) (whole : ℕ → ℕ) (r : List ℕ) {w : ℕ → ℕ} (f : Filled z s d r m w)
    (other : ℕ → ℕ) (same : (p : ℕ) → p < 512 * m → other (node_of z r d p) ≡ whole (node_of z s d p)) where
  spent_same : (p : ℕ) → p < 512 * m → is_spent z r d m other p ≡ is_spent z s d m whole p
  spent_same p k = ap (λ (x : ℕ). eqb x 0) (same p k)

  order_same : gathered z r d m other ≡ gathered z s d m whole
  unfolding gathered
  order_same =
      ap₂ ◌++◌
      (select_cong (is_spent z r d m other) (is_spent z s d m whole) (512 * m) spent_same)
      (select_cong (λ p. not (is_spent z r d m other p)) (λ p. not (is_spent z s d m whole p)) (512 * m) (λ p k. ap not (spent_same p k)))

  word_same : (j : ℕ) → j < 512 * m → gathered_word z r d m other j ≡ gathered_word z s d m whole j
  word_same j k =
      let at = get_or (gathered z s d m whole) j 0 in
      let below = order_below z s d m o whole j k in
      ap (λ (l : List ℕ). entry_word (node_of z r d (get_or l j 0)) (other (node_of z r d (get_or l j 0)))) order_same
      ∙ ap₂ entry_word (fill_node o f at below) (same at below)

  entries_same : entries_gathered z r d m other (512 * m) ≡ entries_gathered z s d m whole (512 * m)
  entries_same =
      let c = fill_chain o f in
      fill_one o (fill_then o f (fill_as c (gathered_filled z r d m c other) word_same)) (gathered_filled z s d m o whole)

  head_same : head_gathered z r d m other ≡ head_gathered z s d m whole
  unfolding head_gathered
  head_same =
      ap (λ (c : ℕ). cond (ltb c (512 * m)) (c / 8) (64 * m - 1)) (count_cong (512 * m) (is_spent z r d m other) (is_spent z s d m whole) spent_same)

  pub regathered_same : 0 < m → regathered z r d m other ≡ regathered z s d m whole
  regathered_same some =
      let q = head_gathered z s d m whole in
      let below = head_below z s d m o whole some in
      ap₂ (λ (e : List ℕ) (c : ℕ). head_at z r d c e) entries_same head_same
      ∙ ap (λ (t : ℕ). put z (put z (entries_gathered z s d m whole (512 * m)) (head_treeling d) (suc t)) (head_block d) (q % 64)) (fill_ranks o f (q / 64) (omega arith))

-- ---- The passes, from words with a whole availability above each entry
module _ (z : Sizes) (s : List ℕ) (d m : ℕ) (o : Chain z s d m) (small : (q : ℕ) → q < 512 * m → above_in z s d q < 1073741824) where
  -- The whole availability of leaf node p in rank order, and its entry word.
  abbrev whole : ℕ → ℕ
  whole = above_at z s

  abbrev whole_word : ℕ → ℕ
  whole_word q = entry_word (node_of z s d q) (whole (node_of z s d q))

  -- Is it one of the spent, or one of the others?
  abbrev sorted : Bool → ℕ → Bool
  sorted spent p = cond spent (is_spent z s d m whole p) (not (is_spent z s d m whole p))

  record Gathered (r : List ℕ) : Type 0 where
    words : ℕ → ℕ
    filled : Filled z s d r m words
    above : (p : ℕ) → p < 512 * m → above_in z r d p ≡ whole (node_of z s d p)

  gathered-first : Gathered s
  gathered-first = record { words = word_of z s d; filled = fill_none o; above = λ p k. above_node z s d p }

  -- They can be walked through and spread.
  module _ {r : List ℕ} (g : Gathered r) where
    gathered_chain : Chain z r d m
    gathered_chain = fill_chain o g.filled

    gathered_small : (p : ℕ) → p < 512 * m → above_in z r d p < 1073741824
    gathered_small p k = omega (arith, g.above p k, above_node z s d p, small p k)

    -- The leaf nodes chosen are the spent ones, or the others.
    gathered_test : (spent : Bool) (p : ℕ) → p < 512 * m → chosen_in z r d spent p ≡ sorted spent p
    gathered_test spent p k = ap (chosen spent) (g.above p k)

    gathered-count : (spent : Bool) → count (512 * m) (chosen_in z r d spent) ≡ count (512 * m) (sorted spent)
    gathered-count spent = count_cong (512 * m) (chosen_in z r d spent) (sorted spent) (gathered_test spent)

    gathered-select : (spent : Bool) → select (chosen_in z r d spent) (512 * m) ≡ select (sorted spent) (512 * m)
    gathered-select spent = select_cong (chosen_in z r d spent) (sorted spent) (512 * m) (gathered_test spent)

    -- And their words.
    gathered-word : (q : ℕ) → q < 512 * m → word_for z r d q ≡ whole_word q
    gathered-word q k = ap₂ entry_word (fill_node o g.filled q k) (g.above q k)

    -- And where spreading puts them, below what stands above.
    gathered_placed : (spent : Bool) (from p : ℕ) → from ≤ p → p < from + count (512 * m) (sorted spent)
        → spread_word z r d from (select (chosen_in z r d spent) (512 * m)) p % room ≡ whole_word (get_or (select (sorted spent) (512 * m)) (p - from) 0)
    gathered_placed spent from p a b =
        let qs = select (sorted spent) (512 * m) in
        let q = get_or qs (p - from) 0 in
        let inner : q < 512 * m = select_below (sorted spent) (512 * m) (p - from) (omega arith) in
        let word = ap (λ (l : List ℕ). spread_word z r d from l p) (gathered-select spent) ∙ spread_here gathered_chain gathered_small from qs p a (omega (arith, select-length (sorted spent) (512 * m))) in
        omega (arith, word, word_for_small gathered_chain gathered_small q inner) ∙ gathered-word q inner

    -- Spreading leaves them above.
    gathered_spread : {t : List ℕ} (spent : Bool) (from : ℕ) → Filled z r d t m (spread_word z r d from (select (chosen_in z r d spent) (512 * m))) → Gathered t
    gathered_spread spent from f =
        record {
          words = spread_word z r d from (select (chosen_in z r d spent) (512 * m));
          filled = fill_then o g.filled f;
          above = λ p k. spread_keeps gathered_chain gathered_small from (chosen_in z r d spent) (512 * m) p f (omega arith) k ∙ g.above p k;
        }

  -- What spreading asks for, and what it leaves.
  abbrev Asks : List ℕ → Bool → Walk → Type 0
  Asks r spent start =
      Chain z r d m
      × ((start.link ≡ link_of z r d (start.at / 512))
      × ((start.at + count (512 * m) (chosen_in z r d spent) ≤ 512 * m) × ((q : ℕ) → q < 512 * m → above_in z r d q < 1073741824)))

  abbrev Leaves : List ℕ → List ℕ → Bool → Walk → Walk → Type 0
  Leaves r t spent start end =
      (end.at ≡ start.at + count (512 * m) (chosen_in z r d spent))
      × (end.link ≡ link_of z r d (end.at / 512))
      × Filled z r d t m (spread_word z r d start.at (select (chosen_in z r d spent) (512 * m)))

  module _ (start : Walk) (begins : (start.link ≡ get z s (first d)) × (start.at ≡ 0)) where
    -- Each pass in its turn, and the end.
    pub first-asks : Asks s true start
    first-asks = (o, (walk_begin o begins, (omega (arith, begins.1, gathered-count gathered-first true, count_both (is_spent z s d m whole) (512 * m)), small)))

    module _ {t : List ℕ} (end : Walk) (left : Leaves s t true start end) where
      -- The entries written are as many as are spent.
      end_at : end.at ≡ count (512 * m) (is_spent z s d m whole)
      end_at = omega (arith, left.0, begins.1, gathered-count gathered-first true)

      end_few : end.at ≤ 512 * m
      end_few = omega (arith, end_at, count_both (is_spent z s d m whole) (512 * m))

      spread_once : Gathered t
      spread_once = gathered_spread gathered-first true start.at left.2

      pub then_asks : Asks t false end
      then_asks = (
        gathered_chain spread_once,
        (
          left.1 ∙ sym (fill_links o left.2 (end.at / 512) (omega (arith, end_few))),
          (omega (arith, end_at, gathered-count spread_once false, count_both (is_spent z s d m whole) (512 * m)), gathered_small spread_once),
        ),
      )

      module _ {u : List ℕ} {on : Walk} (left_then : Leaves t u false end on) where
        spread_twice : Gathered u
        spread_twice = gathered_spread spread_once false end.at left_then.2

        pub clear_asks : Chain z u d m
        clear_asks = gathered_chain spread_twice

        module _ {v : List ℕ} (cleared : Filled z u d v m (λ p. word_of z u d p % room)) where
          -- The spent ones, then the others, then cleared: the definition's words.
          spread_word_lem : (p : ℕ) → p < 512 * m → word_of z u d p % room ≡ gathered_word z s d m whole p
          unfolding gathered
          spread_word_lem p k =
              let spent = select (is_spent z s d m whole) (512 * m) in
              let others = select (λ q. not (is_spent z s d m whole q)) (512 * m) in
              let long = select-length (is_spent z s d m whole) (512 * m) in
              let last = fill_word (gathered_chain spread_once) left_then.2 p k in
              ⊎_elim
              (λ a.
              let word = last ∙ spread_before (gathered_chain spread_once) (gathered_small spread_once) end.at (select (chosen_in z t d false) (512 * m)) p a ∙ fill_word o left.2 p k in
              let from : p - start.at ≡ p = omega (arith, begins.1) in
              ap (λ (x : ℕ). x % room) word
              ∙ gathered_placed gathered-first true start.at p (omega (arith, begins.1)) (omega (arith, end_at, begins.1))
              ∙ ap whole_word (ap (λ (e : ℕ). get_or spent e 0) from ∙ sym (get_or-append spent others 0 p (omega (arith, long, end_at)))))
              (λ a.
              let from : p - end.at ≡ p - length spent = omega (arith, long, end_at) in
              ap (λ (x : ℕ). x % room) last
              ∙ gathered_placed spread_once false end.at p a (omega (arith, end_at, count_both (is_spent z s d m whole) (512 * m)))
              ∙ ap whole_word (ap (λ (e : ℕ). get_or others e 0) from ∙ sym (get_or-append_right spent others p 0 (omega (arith, long, end_at)))))
              (cases_lt p end.at)

          all_filled : Filled z s d v m (gathered_word z s d m whole)
          all_filled = fill_as o (fill_then o spread_twice.filled cleared) spread_word_lem

          pub cleared_chain : Chain z v d m
          cleared_chain = fill_chain o all_filled

          all_words : v ≡ entries_gathered z s d m whole (512 * m)
          all_words = fill_one o all_filled (gathered_filled z s d m o whole)

          -- The head is where the first pass of spreading ended, or the last block where it came to the end.
          module _ (some : 0 < m) (last_link_lem : get z s (last d) ≡ suc (of_rank z s d (m - 1))) where
            head_right : (head : Walk) → head ≡ head_of z v d m end
                → put z (put z v (head_treeling d) head.link) (head_block d) (head.at % 512 / 8) ≡ head_at z s d (head_gathered z s d m whole) v
            head_right head is =
                ⊎_elim
                (λ less.
                let link = ap (λ (b : Bool). (cond b end (last_of z v d end)).link) (lt-ltb end.at (512 * m) less) in
                let at = ap (λ (b : Bool). (cond b end (last_of z v d end)).at) (lt-ltb end.at (512 * m) less) in
                let q = head_some z s d m o whole (omega (arith, end_at)) in
                let rank : end.at / 512 < m = omega arith in
                let treeling : end.at / 512 ≡ head_gathered z s d m whole / 64 = omega (arith, q, end_at) in
                ap₂ (λ (a b : ℕ). put z (put z v (head_treeling d) a) (head_block d) b)
                (ap (λ (x : Walk). x.link) is ∙ link ∙ left.1 ∙ o.linked (end.at / 512) rank ∙ ap (λ (c : ℕ). suc (of_rank z s d c)) treeling)
                (omega (arith, ap (λ (x : Walk). x.at) is, at, q, end_at)))
                (λ all.
                let link = ap (λ (b : Bool). (cond b end (last_of z v d end)).link) (le-ltb end.at (512 * m) all) in
                let at = ap (λ (b : Bool). (cond b end (last_of z v d end)).at) (le-ltb end.at (512 * m) all) in
                let q = head_none z s d m o whole (omega (arith, end_at)) in
                let treeling : m - 1 ≡ head_gathered z s d m whole / 64 = omega (arith, q) in
                ap₂ (λ (a b : ℕ). put z (put z v (head_treeling d) a) (head_block d) b)
                (ap (λ (x : Walk). x.link) is ∙ link ∙ fill_domain o all_filled d 2 o.domain_below (omega arith) ∙ last_link_lem ∙ ap (λ (c : ℕ). suc (of_rank z s d c)) treeling)
                (omega (arith, ap (λ (x : Walk). x.at) is, at, q, end_few)))
                (cases_lt end.at (512 * m))

            pub settled : (head : Walk) → head ≡ head_of z v d m end
                → (w : List ℕ) → w ≡ put z (put z v (head_treeling d) head.link) (head_block d) (head.at % 512 / 8) → w ≡ regathered z s d m whole
            settled head is w to = to ∙ head_right head is ∙ ap (head_at z s d (head_gathered z s d m whole)) all_words
