-- The writes of a trim say nothing of what stood there: two lists of words that agree at an address agree there after them.
-- Assumes nothing.
use Prim.Native.Nat.{ℕ, zero, suc}
use mathlib.Core.Path.{◌≡◌, sym, ap, ◌∙◌}
use mathlib.Core.List.{List}
use mathlib.Core.Bool.{Bool, true, false, cond}
use mathlib.Core.Logic.{⊎_elim}
use lib.ListN.{length, get_or, set, length-set}
use native.Mathlib.Omega.{arith}
use lib.Seq.{get_or-set_same, get_or-set_other, set_out}
use Rattle.std.proofs.lemmas.Bool.{cases_lt}
use Rattle.layout.specs.declared.Sizes.{Sizes}
use Rattle.layout.specs.Places.{address, zeros, treeling, entry, first, last, head_treeling, head_block, previous, next, rank}
use Rattle.sound.specs.Sentences.{of_rank}
use Rattle.world.specs.World.{owned}
use Rattle.world.proofs.FrameLaws.{either}
use Rattle.clearing.specs.Clearing.{treeling_cleared, treelings_cleared}
use Rattle.returning.specs.Returning.{goes, number_kept, kept_of, kept_link, kept_before, renumbered, returned_in}

-- Words of one length that agree at address a.
pub record Agree (a : ℕ) (r t : List ℕ) : Type 0 where
  pub long : length r ≡ length t
  pub same : get_or r a 0 ≡ get_or t a 0

module _ (a : ℕ) where
  -- One word written in both.
  set_agree : (r t : List ℕ) (b v : ℕ) → Agree a r t → Agree a (set r b v) (set t b v)
  set_agree r t b v g =
      record {
        long = length-set r b v ∙ g.long ∙ sym (length-set t b v);
        same =
            either a b
            (λ is.
            ⊎_elim
            (λ inside.
            ap (λ (i : ℕ). get_or (set r b v) i 0) is
            ∙ get_or-set_same r b v 0 inside
            ∙ sym (ap (λ (i : ℕ). get_or (set t b v) i 0) is ∙ get_or-set_same t b v 0 (omega (arith, g.long))))
            (λ out.
            ap (λ (w : List ℕ). get_or w a 0) (set_out r b v out)
            ∙ g.same
            ∙ sym (ap (λ (w : List ℕ). get_or w a 0) (set_out t b v (omega (arith, g.long)))))
            (cases_lt b (length r)))
            (λ apart. get_or-set_other r b a v 0 apart ∙ g.same ∙ sym (get_or-set_other t b a v 0 apart));
      }

  zeros_agree : (r t : List ℕ) (b n : ℕ) → Agree a r t → Agree a (zeros r b n) (zeros t b n)
  unfolding zeros
  zeros_agree r t b zero g = g
  zeros_agree r t b (suc n) g = set_agree (zeros r b n) (zeros t b n) _ 0 (zeros_agree r t b n g)

  module _ (z : Sizes) (s : List ℕ) (d : ℕ) where
    cleared_agree : (r t : List ℕ) (u : ℕ) → Agree a r t → Agree a (treeling_cleared z r u) (treeling_cleared z t u)
    cleared_agree r t u g =
        zeros_agree (zeros r (address z (entry u 0)) 512) (zeros t (address z (entry u 0)) 512) (address z (treeling u 0)) 4 (zeros_agree r t (address z (entry u 0)) 512 g)

    treelings_agree : (r t : List ℕ) (q : ℕ) → Agree a r t → Agree a (treelings_cleared z s d (goes z s d) r q) (treelings_cleared z s d (goes z s d) t q)
    unfolding treelings_cleared
    treelings_agree r t zero g = g
    treelings_agree r t (suc q) g = by_test (goes z s d q) (treelings_agree r t q g)
      where
        before : List ℕ → List ℕ
        before w = treelings_cleared z s d (goes z s d) w q

        by_test : (b : Bool) → Agree a (before r) (before t)
            → Agree a (cond b (treeling_cleared z (before r) (of_rank z s d q)) (before r)) (cond b (treeling_cleared z (before t) (of_rank z s d q)) (before t))
        by_test true h = cleared_agree (before r) (before t) (of_rank z s d q) h
        by_test false h = h

    renumbered_agree : (r t : List ℕ) (n : ℕ) → Agree a r t → Agree a (renumbered z s d r n) (renumbered z s d t n)
    unfolding renumbered
    renumbered_agree r t zero g = g
    renumbered_agree r t (suc q) g =
        let h = renumbered_agree r t q g in
        set_agree _ _ (address z (rank (kept_of z s d q))) q
        (set_agree _ _ (address z (next (kept_of z s d q))) (kept_link z s d (suc q))
        (set_agree _ _ (address z (previous (kept_of z s d q))) (kept_before z s d q) h))

    -- The whole.
    pub returned_agree : (r t : List ℕ) → Agree a r t → Agree a (returned_in z s d r) (returned_in z s d t)
    unfolding returned_in
    returned_agree r t g =
        let h = renumbered_agree _ _ (number_kept z s d) (treelings_agree r t (owned z s d) g) in
        set_agree _ _ (address z (head_block d)) 0
        (set_agree _ _ (address z (head_treeling d)) 0
        (set_agree _ _ (address z (last d)) (kept_before z s d (number_kept z s d))
        (set_agree _ _ (address z (first d)) (kept_link z s d 0) h)))
