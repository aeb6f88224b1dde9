-- Laws of the list of the TreeLings that stay: one rank more, and the links of all.
-- Assumes nothing.
use Prim.Native.Nat.{ℕ, suc, ◌+◌, ◌<◌, ◌≤◌}
use mathlib.Core.Path.{◌≡◌, sym, ap, ◌∙◌}
use mathlib.Core.List.{List, [], ◌∷◌, ◌++◌}
use mathlib.Core.Bool.{Bool, true, false, cond, not}
use native.Mathlib.Numerals.{add-one}
use native.Mathlib.Omega.{arith}
use lib.ListN.{length, get_or, set, replicate, length-set, length-replicate}
use lib.Seq.{get_or-set_same, get_or-set_other, get_or_at}
use Rattle.std.proofs.Math.ListN.{get_or-append}
use Rattle.layout.specs.declared.Sizes.{Sizes}
use Rattle.layout.proofs.BoundedLaws.{count_none, count_next}
use Rattle.sound.specs.Sentences.{of_rank}
use Rattle.world.proofs.FrameLaws.{either}
use Rattle.gathering.specs.Regathering.{select}
use Rattle.gathering.proofs.GatherListLaws.{select_yes, select_no, select-length, count_both}
use Rattle.clearing.specs.CodeKept.{full_in, Listed}
use Rattle.sound.proofs.ZeroLaws.{zero_at}

module _ (z : Sizes) (s : List ℕ) (d : ℕ) (sums : List ℕ) where
  -- The TreeLing of this rank stays.
  abbrev stayed : ℕ → Bool
  stayed r = not (full_in z s d sums r)

  pub listed_none : (m : ℕ) → z.treelings < m → Listed z s d sums 0 0 (replicate m 0)
  listed_none m room =
      record {
        long = rw (length-replicate {0} {A = ℕ} m 0) room;
        number_is = sym (count_none stayed);
        link_is = λ q l. absurd (omega arith);
        rest = λ q _. zero_at m q;
      }

  module _ (r n : ℕ) (links : List ℕ) (k : Listed z s d sums r n links) where
    -- There are no more than ranks.
    pub listed_few : n ≤ r
    listed_few = omega (arith, k.number_is, count_both stayed r)

    -- The next one stays,
    pub listed_more : (link : ℕ) → n < length links → full_in z s d sums r ≡ false → link ≡ suc (of_rank z s d r) → Listed z s d sums (r + 1) (n + 1) (set links n link)
    listed_more link low there is =
        record {
          long = rw (length-set links n link) k.long;
          number_is = omega (arith, k.number_is, count_next r stayed, ap (λ (b : Bool). cond {A = ℕ} (not b) 1 0) there);
          link_is = λ q l.
              either q n
              (λ here.
              ap (λ (i : ℕ). get_or (set links n link) i 0) here
              ∙ get_or-set_same links n link 0 low
              ∙ is
              ∙ ap (λ (i : ℕ). suc (of_rank z s d i)) (sym (ap (λ (i : ℕ). get_or (select stayed (r + 1)) i 0) here ∙ ap (λ (x : List ℕ). get_or x n 0) more ∙ get_or_at (select stayed r) r [] 0 n long_is)))
              (λ apart.
              get_or-set_other links n q link 0 apart
              ∙ k.link_is q (omega arith)
              ∙ ap (λ (i : ℕ). suc (of_rank z s d i)) (sym (ap (λ (x : List ℕ). get_or x q 0) more ∙ get_or-append (select stayed r) (r ∷ []) 0 q (omega (arith, long_is)))));
          rest = λ q l. get_or-set_other links n q link 0 (λ e. omega arith) ∙ k.rest q (omega arith);
        }
      where
        more : select stayed (r + 1) ≡ select stayed r ++ r ∷ []
        more = ap (select stayed) (add-one r) ∙ select_yes stayed r (ap not there)

        long_is : length (select stayed r) ≡ n
        long_is = select-length stayed r ∙ sym k.number_is

    -- or goes.
    pub listed_pass : full_in z s d sums r ≡ true → Listed z s d sums (r + 1) n links
    listed_pass full =
        record {
          long = k.long;
          number_is = omega (arith, k.number_is, count_next r stayed, ap (λ (b : Bool). cond {A = ℕ} (not b) 1 0) full);
          link_is = λ q l. k.link_is q l ∙ ap (λ (x : List ℕ). suc (of_rank z s d (get_or x q 0))) (sym (ap (select stayed) (add-one r) ∙ select_no stayed r (ap not full)));
          rest = k.rest;
        }
