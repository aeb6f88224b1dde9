-- Laws of the code that trims a domain: what the sums and the list say, and how the passes follow one another.
-- Assumes nothing.
use Prim.Native.Nat.{ℕ, zero, suc, ◌+◌, ◌-◌, ◌*◌, ◌/◌, ◌%◌, ◌<◌, ◌≤◌}
use mathlib.Core.Path.{◌≡◌, refl, sym, ap, ap₂, subst, ◌∙◌}
use mathlib.Core.List.{List}
use mathlib.Core.Bool.{Bool, true, false, cond, not}
use mathlib.Core.Logic.{⊎_elim}
use native.Mathlib.Nat.{eq-or-lt_of_le}
use native.Mathlib.Omega.{arith}
use borrow.Author.Tests.{eqb-true, eqb-false, eq-eqb, ne_eqb}
use lib.Dec.{eqb}
use lib.ListN.{get_or}
use lib.Seq.{ext_get_or}
use Rattle.layout.specs.declared.Sizes.{Sizes}
use Rattle.layout.specs.Places.{address, get, put, entry, first, last, head_treeling, head_block, owner}
use Rattle.layout.proofs.BoundedLaws.{count_cong}
use Rattle.sound.specs.Sentences.{of_rank}
use Rattle.sound.specs.Sound.{Sound, Ordinary}
use Rattle.world.specs.World.{world, owned, entry_of, node_of}
use Rattle.world.proofs.WorldLaws.{of_rank_lem, owned_most}
use Rattle.gathering.specs.Regathering.{whole_of, select, regathered}
use Rattle.gathering.specs.CodeGathering.{Chain, Filled, room, home_of, above_at, above_in, gathered_above, gathering_word}
use Rattle.gathering.proofs.GatherListLaws.{select_cong}
use Rattle.gathering.proofs.GatherLaws.{Home, home, own_chain, fill_chain, fill_ranks, word_small}
use Rattle.gathering.proofs.SettleLaws.{above_node, regathered_same}
use Rattle.releasing.proofs.WholeBits.{whole_byte}
use Rattle.clearing.specs.Clearing.{treeling_cleared, treelings_cleared}
use Rattle.returning.specs.Returning.{is_empty, goes, stays, number_returned, number_kept, kept_of, kept_link, kept_before, renumbered, returned_in, trimmed, trimming}
use Rattle.clearing.specs.CodeKept.{all_free, Summed, full_in, Listed, Links, last_link, linked_by}
use Rattle.returning.proofs.KeptLaws.{kept_link_lem, link_none, kept_facts}
use Rattle.returning.proofs.ReturnedLaws.{Returned, returned_facts, returned_rank, returned_chain, returned_last}
use Rattle.returning.proofs.EmptyLaws.{all_free_lem}
use Rattle.returning.proofs.TrimLaws.{nothing_changes, trimming_sound}
use Rattle.returning.proofs.OverLaws.{returned_agree}

module _ {z : Sizes} {s : List ℕ} (h : Sound z s) {d : ℕ} (l : d < z.domains) (o : Ordinary z s d) where
  -- ---- What is found
  module _ {m : ℕ} (all : m ≡ owned z s d) {sums : List ℕ} (sm : Summed z s d (512 * m) sums) where
    -- By the sums, every position of a TreeLing is free exactly where it goes.
    full_goes : (r : ℕ) → r < owned z s d → full_in z s d sums r ≡ goes z s d r
    full_goes r k =
        let a = of_rank_lem z s h d l r k in
        let t = of_rank z s d r in
        ap (λ (x : ℕ). eqb x all_free) (rw all at (sm.sum_is t a.below))
        ∙ all_free_lem z s h d l o t a.below a.owner_is

    module _ {left : ℕ} {kept : List ℕ} (k : Listed z s d sums m left kept) where
      pub left_is : left ≡ number_kept z s d
      unfolding number_kept
      left_is =
          rw all at k.number_is
          ∙ count_cong (owned z s d) (λ r. not (full_in z s d sums r)) (stays z s d) (λ r i. ap not (full_goes r i))

      both : number_returned z s d + left ≡ m
      both = omega (arith, (kept_facts z s h d l).all, left_is, all)

      -- The links are those of the TreeLings that stay.
      select_same : select (λ p. not (full_in z s d sums p)) m ≡ select (stays z s d) (owned z s d)
      select_same =
          ap (select (λ p. not (full_in z s d sums p))) all
          ∙ select_cong (λ p. not (full_in z s d sums p)) (stays z s d) (owned z s d) (λ r i. ap not (full_goes r i))

      link_kept : (q : ℕ) → q ≤ number_kept z s d → get_or kept q 0 ≡ kept_link z s d q
      unfolding kept_of
      link_kept q most =
          ⊎_elim
          (λ e. k.rest q (omega (arith, e, left_is)) ∙ sym (link_none z s d q (omega (arith, e))))
          (λ less.
          k.link_is q (omega (arith, left_is))
          ∙ ap (λ (x : List ℕ). suc (of_rank z s d (get_or x q 0))) select_same
          ∙ sym (kept_link_lem z s d q less))
          (eq-or-lt_of_le most)

      -- None goes: nothing is written.
      pub none_returned : left ≡ m → (0 ≡ number_returned z s d) × (s ≡ trimming z s d)
      unfolding trimming
      none_returned e =
          let none : number_returned z s d ≡ 0 = omega (arith, both) in
          (sym none, sym (nothing_changes z s h d l none))

      -- Some go.
      pub some_returned : (left ≡ m → ⊥) → left < m
      some_returned apart = omega (arith, both)

      pub number_returned_lem : m - left ≡ number_returned z s d
      number_returned_lem = omega (arith, both)

      pub trimmed_is : {r : List ℕ} → (left ≡ m → ⊥) → r ≡ trimmed z s d → (r ≡ trimming z s d) × Sound z r
      unfolding trimming
      trimmed_is apart e =
          let is = e ∙ sym (ap (λ (b : Bool). cond b s (trimmed z s d)) (ne_eqb (number_returned z s d) 0 (λ none. apart (omega (arith, both))))) in
          (is, subst (Sound z) (sym is) (trimming_sound z s h d l o))

      -- ---- What is written: after gathering
      module _ (less : left < m) {g : List ℕ} {words : ℕ → ℕ} (f : Filled z s d g (owned z s d) words) where
        pub gathered_chain : Chain z g d m
        gathered_chain = rw all (fill_chain (own_chain z s h d l) f)

        pub kept_links : Links z left kept
        kept_links =
            record {
              few = omega (arith, all, owned_most z s h d l, k.long);
              some = λ q i. omega (arith, link_kept q (omega (arith, left_is)), kept_link_lem z s d q (omega (arith, left_is)));
              most = λ q i. omega (arith, link_kept q (omega (arith, left_is)), kept_link_lem z s d q (omega (arith, left_is)), (kept_facts z s h d l).below q (omega (arith, left_is)));
            }

        -- Those that go are cleared,
        cleared_same : (q : ℕ) → q ≤ owned z s d → treelings_cleared z g d (full_in z g d sums) g q ≡ treelings_cleared z s d (goes z s d) g q
        unfolding treelings_cleared
        cleared_same zero i = refl
        cleared_same (suc q) i =
            let rank = fill_ranks (own_chain z s h d l) f q i in
            let test = ap (λ (t : ℕ). eqb (get_or sums t 0) all_free) rank ∙ full_goes q i in
            ap₂ (λ (b : Bool) (w : List ℕ). cond b (treeling_cleared z w (of_rank z g d q)) w) test (cleared_same q (omega arith))
            ∙ ap (λ (t : ℕ). cond (goes z s d q) (treeling_cleared z (treelings_cleared z s d (goes z s d) g q) t) (treelings_cleared z s d (goes z s d) g q)) rank

        -- those that stay renumbered,
        before_same : (q : ℕ) → q ≤ number_kept z s d → last_link kept q ≡ kept_before z s d q
        unfolding last_link kept_before
        before_same zero i = refl
        before_same (suc q) i = link_kept q (omega arith)

        linked_same : (r : List ℕ) (n : ℕ) → n ≤ number_kept z s d → linked_by z kept r n ≡ renumbered z s d r n
        unfolding linked_by renumbered
        linked_same r zero i = refl
        linked_same r (suc q) i =
            let t : get_or kept q 0 - 1 ≡ kept_of z s d q = omega (arith, link_kept q (omega arith), kept_link_lem z s d q i) in
            rw (linked_same r q (omega arith), t, before_same q (omega arith), link_kept (suc q) i)

        -- and the domain's record is written.
        module _ {u v x : List ℕ} {end : ℕ} (cleared : u ≡ treelings_cleared z g d (full_in z g d sums) g m) (numbered : (end ≡ last_link kept left) × (v ≡ linked_by z kept u left))
            (written : x ≡ put z (put z (put z (put z v (first d) (get_or kept 0 0)) (last d) end) (head_treeling d) 0) (head_block d) 0) where
          pub returned_is : x ≡ returned_in z s d g
          unfolding returned_in
          returned_is =
              let r = treelings_cleared z s d (goes z s d) g (owned z s d) in
              let one : u ≡ r = cleared ∙ ap (treelings_cleared z g d (full_in z g d sums) g) all ∙ cleared_same (owned z s d) (omega arith) in
              let two : v ≡ renumbered z s d r (number_kept z s d) = numbered.1 ∙ ap₂ (linked_by z kept) one left_is ∙ linked_same r (number_kept z s d) (omega arith) in
              let start = link_kept 0 (omega arith) in
              let stop : end ≡ kept_before z s d (number_kept z s d) = numbered.0 ∙ ap (last_link kept) left_is ∙ before_same (number_kept z s d) (omega arith) in
              written
              ∙ ap₂ (λ (w : List ℕ) (i : ℕ). put z (put z (put z (put z w (first d) i) (last d) end) (head_treeling d) 0) (head_block d) 0) two start
              ∙ ap (λ (i : ℕ). put z (put z (put z (put z (renumbered z s d r (number_kept z s d)) (first d) (kept_link z s d 0)) (last d) i) (head_treeling d) 0) (head_block d) 0) stop

        -- ---- The words after it, and those of the definition
        abbrev after : List ℕ
        after = returned_in z s d g

        abbrev base : List ℕ
        base = returned_in z s d s

        after_facts : Returned z s g after d
        after_facts = returned_facts z s h d l g f.long

        base_facts : Returned z s s base d
        base_facts = returned_facts z s h d l s refl

        -- They differ in entries of TreeLings that stay alone.
        same_else : (a : ℕ) → ((j : ℕ) → j < 512 * number_kept z s d → a ≡ address z (entry (kept_of z s d (j / 512)) (j % 512)) → ⊥) → get_or after a 0 ≡ get_or base a 0
        same_else a apart = by_test (eqb (get_or after a 0) (get_or base a 0)) refl
          where
            own_entry_lem : (get_or after a 0 ≡ get_or base a 0 → ⊥) → (j : ℕ) → j < 512 * owned z s d → a ≡ address z (entry_of z s d j) → ⊥
            own_entry_lem differ j i is =
                let t = of_rank z s d (j / 512) in
                let at = of_rank_lem z s h d l (j / 512) (omega arith) in
                by_kind (is_empty z s t) refl
              where
                by_kind : (b : Bool) → is_empty z s (of_rank z s d (j / 512)) ≡ b → ⊥
                by_kind true e =
                    let at = of_rank_lem z s h d l (j / 512) (omega arith) in
                    differ (ap (λ (i : ℕ). get_or after i 0) is ∙ after_facts.gone_entry (of_rank z s d (j / 512)) (j % 512) at.below (omega arith) at.owner_is e
                    ∙ sym (ap (λ (i : ℕ). get_or base i 0) is ∙ base_facts.gone_entry (of_rank z s d (j / 512)) (j % 512) at.below (omega arith) at.owner_is e))
                by_kind false e =
                    let at = of_rank_lem z s h d l (j / 512) (omega arith) in
                    let q = (kept_facts z s h d l).found (of_rank z s d (j / 512)) at.below at.owner_is e in
                    let p = 512 * q.0 + j % 512 in
                    let rank : p / 512 ≡ q.0 = omega arith in
                    let number : p % 512 ≡ j % 512 = omega arith in
                    apart p (omega (arith, q.1)) (is ∙ sym (ap₂ (λ (t k : ℕ). address z (entry t k)) (ap (kept_of z s d) rank ∙ q.2) number))

            by_test : (b : Bool) → eqb (get_or after a 0) (get_or base a 0) ≡ b → get_or after a 0 ≡ get_or base a 0
            by_test true e = eqb-true (get_or after a 0) (get_or base a 0) e
            by_test false e =
                let differ = eqb-false (get_or after a 0) (get_or base a 0) e in
                absurd (differ (returned_agree a z s d g s (record { long = f.long; same = f.outside a (own_entry_lem differ) })).same)

        -- None stays.
        none_left : number_kept z s d ≡ 0 → after ≡ trimmed z s d
        unfolding trimmed
        none_left none =
            ext_get_or 0 after base (after_facts.long ∙ f.long ∙ sym base_facts.long) (λ a _. same_else a (λ j i _. omega arith))
            ∙ sym (ap (λ (b : Bool). cond b base (regathered z base d (number_kept z s d) (whole_of (world z s d)))) (eq-eqb (number_kept z s d) 0 none))

        pub all_returned : left ≡ 0 → {u x : List ℕ} → u ≡ treelings_cleared z g d (full_in z g d sums) g m
            → x ≡ put z (put z (put z (put z u (first d) 0) (last d) 0) (head_treeling d) 0) (head_block d) 0 → x ≡ trimmed z s d
        unfolding last_link linked_by
        all_returned none {u} {x} cleared written =
            returned_is {u = u} {v = u} {x = x} {end = 0} cleared
            (subst (λ (n : ℕ). (0 ≡ last_link kept n) × (u ≡ linked_by z kept u n)) (sym none) (refl, refl))
            (written ∙ ap (λ (i : ℕ). put z (put z (put z (put z u (first d) i) (last d) 0) (head_treeling d) 0) (head_block d) 0) (sym (k.rest 0 (omega arith))))
            ∙ none_left (omega (arith, left_is))

        -- ---- Some stay: the rest is regathered
        module _ (is_gathered : (j : ℕ) → j < 512 * owned z s d → words j ≡ gathering_word z s d (512 * owned z s d) j) (some : 0 < number_kept z s d) where
          base_chain : Chain z base d (number_kept z s d)
          base_chain = returned_chain z s h d l refl base_facts

          after_chain : Chain z after d (number_kept z s d)
          after_chain = returned_chain z s h d l f.long after_facts

          -- What stands above the own entry of a leaf node that stays is its whole availability.
          gathered_whole : (node j : ℕ) → Home z s h d l node j → get z g (home_of node) / room ≡ whole_of (world z s d) node
          unfolding whole_of gathered_above
          gathered_whole node j at =
              let word = ap (get z g) (sym at.entry_is) ∙ f.inside j at.below ∙ is_gathered j at.below in
              let above : get z g (home_of node) / room ≡ gathered_above z s d (512 * owned z s d) j = omega (arith, word, word_small z s h d l o j at.below) in
              above ∙ ap (whole_of (world z s d)) at.node_is

          above_kept : (p : ℕ) → p < 512 * number_kept z s d → above_in z after d p ≡ whole_of (world z s d) (node_of z base d p)
          above_kept p i =
              let q = p / 512 in
              let t = kept_of z s d q in
              let node = 512 * t + p % 512 in
              let low : q < number_kept z s d = omega arith in
              let k = kept_facts z s h d l in
              let home_is : node / 512 ≡ t = omega arith in
              let number : node % 512 ≡ p % 512 = omega arith in
              let at = home z s h d l node (omega (arith, k.below q low)) (ap (λ (u : ℕ). get z s (owner u)) home_is ∙ k.own q low) in
              ap (λ (u : ℕ). get z after (entry u (p % 512)) / room) (returned_rank z s h d l f.long after_facts q low)
              ∙ ap (λ (x : ℕ). x / room) (after_facts.kept_entry q (p % 512) low (omega arith))
              ∙ sym (ap₂ (λ (u v : ℕ). get z g (entry u v) / room) home_is number)
              ∙ gathered_whole node at.0 at.1
              ∙ ap (λ (u : ℕ). whole_of (world z s d) (512 * u + p % 512)) (sym (returned_rank z s h d l refl base_facts q low))

          -- So the passes that follow can be made,
          pub settle_asks : Chain z after d left × (((0 < left) × (get z after (last d) ≡ suc (of_rank z after d (left - 1)))) × ((p : ℕ) → p < 512 * left → above_in z after d p < 1073741824))
          settle_asks =
              rw left_is (
                after_chain,
                (
                  (some, returned_last z s h d l f.long after_facts some),
                  λ p i.
                      let below = base_chain.below (p / 512) (omega arith) in
                      omega (arith, above_kept p i, whole_byte z s h d l o (node_of z base d p) (omega arith)),
                ),
              )

          -- and leave what the definition says.
          after_filled : Filled z base d after (number_kept z s d) (λ j. get z after (entry_of z base d j))
          after_filled =
              record {
                long = after_facts.long ∙ f.long ∙ sym base_facts.long;
                inside = λ j _. refl;
                outside = λ a apart. same_else a (λ j i is. apart j i (is ∙ ap (λ (t : ℕ). address z (entry t (j % 512))) (sym (returned_rank z s h d l refl base_facts (j / 512) (omega arith)))));
              }

          pub settled_is : {w : List ℕ} → w ≡ regathered z after d left (above_at z after) → w ≡ trimmed z s d
          unfolding trimmed
          settled_is to =
              to
              ∙ ap (λ (n : ℕ). regathered z after d n (above_at z after)) left_is
              ∙ regathered_same z base d (number_kept z s d) base_chain (whole_of (world z s d)) after after_filled (above_at z after) (λ p i. sym (above_node z after d p) ∙ above_kept p i) some
              ∙ sym (ap (λ (b : Bool). cond b base (regathered z base d (number_kept z s d) (whole_of (world z s d)))) (ne_eqb (number_kept z s d) 0 (λ none. omega arith)))
