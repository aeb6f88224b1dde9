-- What a count becomes when one word changes: of the leaf map words that name a slot or map a page of a domain, of the NFL entries that mark a slot free.
-- Assumes nothing.
use Prim.Native.Nat.{ℕ, zero, suc, ◌+◌, ◌*◌, ◌/◌, ◌%◌, ◌<◌, ◌≤◌}
use mathlib.Core.Path.{◌≡◌, refl, sym, ap, ap₂, ◌∙◌}
use mathlib.Core.List.{List}
use mathlib.Core.Bool.{Bool, true, false, cond, ◌&&◌}
use native.Mathlib.Nat.{not-suc-le-zero}
use native.Mathlib.Omega.{arith}
use lib.Dec.{eqb, ltb}
use lib.ListN.{get_or}
use Rattle.layout.specs.declared.Sizes.{Sizes}
use Rattle.leaf_map.specs.LeafIds.{treeling_of}
use Rattle.layout.specs.Places.{get, entry, leaf, owner}
use Rattle.layout.specs.Bounded.{count}
use Rattle.sound.specs.Sentences.{is_ordinary, is_mapped_by, marks_free, times_free, times_named, true_number}
use Rattle.sound.specs.Sound.{LeavesFit}
use Rattle.leaf_map.proofs.LeafIdLaws.{treeling_below}
use Rattle.layout.proofs.BoundedLaws.{count_cong}
use Rattle.world.proofs.FrameLaws.{either}

-- Where none are counted the test holds of none.
pub count_zero : (n : ℕ) (p : ℕ → Bool) → count n p ≡ 0 → (i : ℕ) → i < n → p i ≡ false
unfolding count
count_zero zero p e i l = absurd (not-suc-le-zero l)
count_zero (suc n) p e i l =
    either i n
    (λ is. ap p is ∙ not_counted (p n) (omega arith))
    (λ apart. count_zero n p (omega arith) i (omega arith))
  where
    not_counted : (b : Bool) → cond {A = ℕ} b 1 0 ≡ 0 → b ≡ false
    not_counted true h = absurd (omega arith)
    not_counted false h = refl

-- Two tests that agree on all numbers below n but k.
pub count_change : (n k : ℕ) (p q : ℕ → Bool) → k < n → ((i : ℕ) → i < n → (i ≡ k → ⊥) → q i ≡ p i) → count n q + cond (p k) 1 0 ≡ count n p + cond (q k) 1 0
unfolding count
count_change zero k p q l h = absurd (not-suc-le-zero l)
count_change (suc n) k p q l h =
    either k n
    (λ is.
    omega (
      arith,
      count_cong n q p (λ i m. h i (omega arith) (λ e. omega arith)),
      ap (λ (i : ℕ). cond {A = ℕ} (p i) 1 0) is,
      ap (λ (i : ℕ). cond {A = ℕ} (q i) 1 0) is,
    ))
    (λ apart.
    omega (
      arith,
      count_change n k p q (omega arith) (λ i m. h i (omega arith)),
      ap (λ (b : Bool). cond {A = ℕ} b 1 0) (h n (omega arith) (λ e. apart (sym e))),
    ))

module _ (z : Sizes) (s r : List ℕ) where
  -- The leaf map words of s and r agree but for that of frame f:
  module _ (f : ℕ) (l : f < z.frames) (same : (g : ℕ) → g < z.frames → (g ≡ f → ⊥) → get z r (leaf g) ≡ get z s (leaf g)) where
    -- the words that name slot y,
    pub times_named_change : (y : ℕ) → times_named z r y + cond (eqb (get z s (leaf f)) (suc y)) 1 0 ≡ times_named z s y + cond (eqb (get z r (leaf f)) (suc y)) 1 0
    unfolding times_named
    times_named_change y =
        count_change z.frames f (λ g. eqb (get z s (leaf g)) (suc y)) (λ g. eqb (get z r (leaf g)) (suc y)) l λ g m apart.
        ap (λ (x : ℕ). eqb x (suc y)) (same g m apart)

    -- and the pages mapped by domain e, where the owners agree.
    pub true_number_change : 1 ≤ z.treelings → ((t : ℕ) → t < z.treelings → get z r (owner t) ≡ get z s (owner t)) → LeavesFit z s
        → (e : ℕ) → true_number z r e + cond (is_mapped_by z s e f) 1 0 ≡ true_number z s e + cond (is_mapped_by z r e f) 1 0
    unfolding true_number
    true_number_change some owners range e =
        count_change z.frames f (is_mapped_by z s e) (is_mapped_by z r e) l λ g m apart.
        ap (λ (x : ℕ). ltb 0 x && eqb (get z r (owner (treeling_of x))) (suc e)) (same g m apart)
        ∙ ap (λ (o : ℕ). ltb 0 (get z s (leaf g)) && eqb o (suc e)) (owners (treeling_of (get z s (leaf g))) (treeling_below z.treelings (get z s (leaf g)) some (range g m)))

  -- The NFL entries of s and r agree but for entry k of TreeLing t: the entries that mark slot y free.
  -- The TreeLings are of the same kind, and t is of an ordinary domain.
  pub times_free_change : (t k : ℕ) → t < z.treelings → k < 512 → ((u : ℕ) → u < z.treelings → is_ordinary z r u ≡ is_ordinary z s u) → is_ordinary z s t ≡ true → ((u j : ℕ) → u < z.treelings → j < 512 → (entry u j ≡ entry t k → ⊥) → get z r (entry u j) ≡ get z s (entry u j))
      → (y : ℕ) → times_free z r y + cond (marks_free z s y (get z s (entry t k))) 1 0 ≡ times_free z s y + cond (marks_free z s y (get z r (entry t k))) 1 0
  unfolding times_free
  times_free_change t k l m kinds is_ordinary_lem same y =
      ap₂ (λ (b : Bool) (w : ℕ). times_free z r y + cond {A = ℕ} (b && marks_free z s y w) 1 0) (sym here) (through s t k (512 * t + k) refl)
      ∙ count_change (512 * z.treelings) (512 * t + k) (λ j. is_ordinary z s (j / 512) && marks_free z s y (get z s (entry 0 j))) (λ j. is_ordinary z r (j / 512) && marks_free z s y (get z r (entry 0 j))) (omega arith)
      (λ j n apart. ap₂ ◌&&◌ (kinds (j / 512) (omega arith)) (each j n apart))
      ∙ ap₂ (λ (b : Bool) (w : ℕ). times_free z s y + cond {A = ℕ} (b && marks_free z s y w) 1 0) (kinds ((512 * t + k) / 512) (omega arith) ∙ here) (sym (through r t k (512 * t + k) refl))
    where
      here : is_ordinary z s ((512 * t + k) / 512) ≡ true
      here = let is : (512 * t + k) / 512 ≡ t = omega arith in ap (is_ordinary z s) is ∙ is_ordinary_lem

      -- Entry k of TreeLing t, numbered through.
      through : (w : List ℕ) (t k j : ℕ) → 512 * t + k ≡ j → get z w (entry t k) ≡ get z w (entry 0 j)
      through w t k j e = ap (λ (a : ℕ). get_or w a 0) (omega arith)

      each : (j : ℕ) → j < 512 * z.treelings → (j ≡ 512 * t + k → ⊥) → marks_free z s y (get z r (entry 0 j)) ≡ marks_free z s y (get z s (entry 0 j))
      each j n apart =
          let whole : 512 * (j / 512) + j % 512 ≡ j = omega arith in
          ap (marks_free z s y)
          (sym (through r (j / 512) (j % 512) j whole)
          ∙ same (j / 512) (j % 512) (omega arith) (omega arith) (λ e.
          let node : j / 512 ≡ t = cc in
          let rest : j % 512 ≡ k = cc in
          apart (omega arith))
          ∙ through s (j / 512) (j % 512) j whole)
