-- "Following next from first gives a live domain's TreeLings ..": the sentence on a domain's chain, as facts and as the code's walk decides it.
-- Assumes nothing.
use Prim.Native.Nat.{ℕ, zero, suc, ◌<◌, ◌≤◌, zero-le}
use mathlib.Core.Path.{◌≡◌, refl, sym, ap, subst, ◌∙◌}
use mathlib.Core.List.{List}
use mathlib.Core.Bool.{Bool, true, false, ◌&&◌}
use mathlib.Core.Logic.{⊎_elim}
use native.Mathlib.Nat.{eq-or-lt_of_le, le_refl}
use native.Mathlib.Omega.{arith}
use borrow.Author.Tests.{eqb-true, eqb-false, eq-eqb}
use lib.Dec.{eqb}
use Rattle.layout.specs.declared.Sizes.{Sizes}
use Rattle.layout.specs.Bounded.{all}
use Rattle.geometry.specs.Tables.{first_from}
use Rattle.layout.specs.Places.{get, first, last, owner, previous, next, rank}
use Rattle.sound.specs.Sentences.{link_of, of_rank, chain_length, link_before, has_rank, ends_at_last, is_reverse, owner_agrees, is_chain}
use Rattle.sound.specs.CodeChained.{follows}
use Rattle.sound.specs.Sound.{Linked}
use Rattle.layout.proofs.BoundedLaws.{and_both, and_of, all_at, all_of}
use Rattle.geometry.proofs.FirstLaws.{first_none, first_here, first_later, first_from_lem, first-before}
use Rattle.sound.proofs.TestLaws.{and_left, and_right, same_test}

-- Three tests, in either order.
and_reverse : (a b c : Bool) → (a && b && c) ≡ (c && b && a)
and_reverse a b c =
    same_test (a && b && c) (c && b && a)
    (λ h. and_of (and_of (and_right (a && b) c h) (search (and_left, and_right))) (search (and_left, and_right)))
    (λ h. and_of (and_of (and_right (c && b) a h) (search (and_left, and_right))) (search (and_left, and_right)))

module _ (z : Sizes) (s : List ℕ) where
  -- Domain d's TreeLings as following next from first gives them, from rank r on, up to rank k.
  pub record ChainFrom (d r k : ℕ) : Type 0 where
    pub linked : (i : ℕ) → r ≤ i → i < k → Linked z s d (of_rank z s d i) (link_before z s d i) i
    pub last_is : get z s (last d) ≡ link_before z s d k
    pub ends : link_of z s d k ≡ 0

  abbrev pub Chain : ℕ → Type 0
  Chain d = ChainFrom d 0 (chain_length z s d)

  module _ (d : ℕ) where
    -- The sentence on the TreeLing of rank r, as facts, and back.
    abbrev in_chain : ℕ → Bool
    in_chain r = has_rank z s d r && is_reverse z s d r && owner_agrees z s d r

    linked_facts : (r : ℕ) → in_chain r ≡ true → Linked z s d (of_rank z s d r) (link_before z s d r) r
    linked_facts r h =
        record {
          owner_is = eqb-true (get z s (owner (of_rank z s d r))) (suc d) (search (and_left, and_right));
          previous_is = eqb-true (get z s (previous (of_rank z s d r))) (link_before z s d r) (search (and_left, and_right));
          rank_is = eqb-true (get z s (rank (of_rank z s d r))) r (search (and_left, and_right));
        }

    linked_test : (r : ℕ) → Linked z s d (of_rank z s d r) (link_before z s d r) r → in_chain r ≡ true
    linked_test r h =
        and_of
        (and_of
        (eq-eqb (get z s (rank (of_rank z s d r))) r h.rank_is)
        (eq-eqb (get z s (previous (of_rank z s d r))) (link_before z s d r) h.previous_is))
        (eq-eqb (get z s (owner (of_rank z s d r))) (suc d) h.owner_is)

    -- The sentences on a chain.
    pub chain_facts : is_chain z s d ≡ true → Chain d
    chain_facts h =
        let k = chain_length z s d in
        let each : all k in_chain ≡ true = and_left (all k in_chain) (ends_at_last z s d) h in
        record {
          linked = λ r _ l. linked_facts r (all_at k in_chain each r l);
          last_is = eqb-true (get z s (last d)) (link_before z s d k) (search (and_left, and_right));
          ends = eqb-true (link_of z s d k) 0 (search (and_left, and_right));
        }

    pub chain_test : Chain d → is_chain z s d ≡ true
    chain_test c =
        let k = chain_length z s d in
        and_of
        (all_of k in_chain (λ r l. linked_test r (c.linked r zero-le l)))
        (and_of (eq-eqb (get z s (last d)) (link_before z s d k) c.last_is) (eq-eqb (link_of z s d k) 0 c.ends))

    -- ---- the code's walk
    -- From rank r on, with at most n TreeLings left: it ends at a link that is 0, and goes on over any other.
    abbrev walk : ℕ → ℕ → Bool
    walk n r = follows z s d n r (link_before z s d r) (link_of z s d r)

    abbrev is_end : ℕ → Bool
    is_end r = eqb (link_of z s d r) 0

    abbrev is_last : ℕ → Bool
    is_last r = eqb (get z s (last d)) (link_before z s d r)

    walk_none : (r : ℕ) → walk 0 r ≡ (is_end r && is_last r)
    unfolding follows
    walk_none r = refl

    walk_end : (n r : ℕ) → is_end r ≡ true → walk (suc n) r ≡ is_last r
    unfolding follows
    walk_end n r e = rw e

    walk_on : (n r : ℕ) → is_end r ≡ false → walk (suc n) r ≡ (in_chain r && walk n (suc r))
    unfolding follows link_of of_rank link_before
    walk_on n r e = rw (e, and_reverse (owner_agrees z s d r) (is_reverse z s d r) (has_rank z s d r))

    ended : (r : ℕ) → is_end r ≡ true → is_last r ≡ true → ChainFrom d r r
    ended r e l =
        record {
          linked = λ i a b. absurd (omega arith);
          last_is = eqb-true (get z s (last d)) (link_before z s d r) l;
          ends = eqb-true (link_of z s d r) 0 e;
        }

    -- Following from rank r on says the same as the ranks from r on.
    walk_chain : (n r : ℕ) → walk n r ≡ true → ChainFrom d r (first_from is_end r n)
    walk_chain zero r h =
        let e = and_both (is_end r) (is_last r) (sym (walk_none r) ∙ h) in
        rw (first_none is_end r) (ended r e.0 e.1)
    walk_chain (suc n) r h = go (is_end r) refl (walk_chain n (suc r))
      where
        go : (b : Bool) → is_end r ≡ b → (walk n (suc r) ≡ true → ChainFrom d (suc r) (first_from is_end (suc r) n)) → ChainFrom d r (first_from is_end r (suc n))
        go true e on = rw (first_here is_end r n e) (ended r e (sym (walk_end n r e) ∙ h))
        go false e on =
            let both = and_both (in_chain r) (walk n (suc r)) (sym (walk_on n r e) ∙ h) in
            let c = on both.1 in
            rw (first_later is_end r n e)
            (record {
              linked = λ i a b.
                  ⊎_elim
                  (λ same. subst (λ (j : ℕ). Linked z s d (of_rank z s d j) (link_before z s d j) j) same (linked_facts r both.0))
                  (λ later. c.linked i later b)
                  (eq-or-lt_of_le a);
              last_is = c.last_is;
              ends = c.ends;
            })

    chain_walk : (n r : ℕ) → ChainFrom d r (first_from is_end r n) → walk n r ≡ true
    chain_walk zero r c =
        let e = rw (first_none is_end r) at c in
        walk_none r ∙ and_of (eq-eqb (link_of z s d r) 0 e.ends) (eq-eqb (get z s (last d)) (link_before z s d r) e.last_is)
    chain_walk (suc n) r c = go (is_end r) refl (chain_walk n (suc r))
      where
        go : (b : Bool) → is_end r ≡ b → (ChainFrom d (suc r) (first_from is_end (suc r) n) → walk n (suc r) ≡ true) → walk (suc n) r ≡ true
        go true e on =
            let f = rw (first_here is_end r n e) at c in
            walk_end n r e ∙ eq-eqb (get z s (last d)) (link_before z s d r) f.last_is
        go false e on =
            let f = rw (first_later is_end r n e) at c in
            walk_on n r e
            ∙ and_of
            (linked_test r (f.linked r (le_refl r) (first_from_lem is_end (suc r) n)))
            (on (record { linked = λ i a b. f.linked i (omega arith) b; last_is = f.last_is; ends = f.ends }))

    -- From first on.
    pub follows_chain : follows z s d z.treelings 0 0 (get z s (first d)) ≡ true → Chain d
    unfolding chain_length link_of link_before
    follows_chain h = walk_chain z.treelings 0 h

    pub chain_follows : Chain d → follows z s d z.treelings 0 0 (get z s (first d)) ≡ true
    unfolding chain_length link_of link_before
    chain_follows c = chain_walk z.treelings 0 c

    -- ---- links
    -- A link that is not 0 names the TreeLing of its rank.
    pub link_names : (r : ℕ) → 0 < link_of z s d r → link_of z s d r ≡ suc (of_rank z s d r)
    unfolding of_rank
    link_names r l = omega arith

    pub named_of : (r t : ℕ) → link_of z s d r ≡ suc t → of_rank z s d r ≡ t
    unfolding of_rank
    named_of r t e = omega arith

    -- The links of the chain are not 0.
    pub link_some : (r : ℕ) → r < chain_length z s d → link_of z s d r ≡ suc (of_rank z s d r)
    unfolding chain_length
    link_some r l =
        link_names r (omega (arith, eqb-false (link_of z s d r) 0 (first-before is_end 0 z.treelings r zero-le l)))

    -- After the link to TreeLing t comes its next.
    pub link_next : (r t : ℕ) → link_of z s d r ≡ suc t → link_of z s d (suc r) ≡ get z s (next t)
    unfolding link_of
    link_next r t e = ap (λ (u : ℕ). get z s (next u)) (omega arith)

    -- A link that is not 0, up to the chain's end, is to a TreeLing of the chain.
    pub link_linked : Chain d → (r t : ℕ) → r ≤ chain_length z s d → link_of z s d r ≡ suc t → Linked z s d t (link_before z s d r) r
    link_linked c r t l e =
        ⊎_elim
        (λ same. absurd (omega (arith, c.ends, ap (link_of z s d) same)))
        (λ less. subst (λ (u : ℕ). Linked z s d u (link_before z s d r) r) (named_of r t e) (c.linked r zero-le less))
        (eq-or-lt_of_le l)
