-- What every word is after TreeLings of a domain are returned to the pool.
-- Assumes nothing.
use Prim.Native.Nat.{ℕ, zero, suc, ◌+◌, ◌<◌}
use mathlib.Core.Path.{◌≡◌, refl, sym, ap, ap₂, subst, ◌∙◌}
use mathlib.Core.List.{List}
use mathlib.Core.Bool.{Bool, true, false, cond, false≢true}
use native.Mathlib.Nat.{add-zero, not-suc-le-zero}
use native.Mathlib.Omega.{arith}
use lib.ListN.{length, get_or, set, length-set}
use lib.Seq.{get_or-set_same, get_or-set_other}
use Rattle.layout.specs.declared.Sizes.{Sizes}
use Rattle.layout.specs.Places.{zeros}
use Rattle.layout.proofs.PlaceLaws.{treeling_start, entry_start}
use Rattle.sound.specs.Sentences.{of_rank}
use Rattle.world.proofs.FrameLaws.{either}
use Rattle.clearing.specs.Clearing.{treeling_cleared, treelings_cleared}

-- ---- Words in a row, cleared
-- A word that is 0 stays so.
pub set-stays : (r : List ℕ) (a b : ℕ) → b < length r → get_or r b 0 ≡ 0 → get_or (set r a 0) b 0 ≡ 0
set-stays r a b l e =
    either b a
    (λ is. ap (λ (i : ℕ). get_or (set r a 0) i 0) is ∙ get_or-set_same r a 0 0 (subst (λ (i : ℕ). i < length r) is l))
    (λ apart. get_or-set_other r a b 0 0 apart ∙ e)

module _ (r : List ℕ) (a : ℕ) where
  pub zeros-length : (n : ℕ) → length (zeros r a n) ≡ length r
  unfolding zeros
  zeros-length zero = refl
  zeros-length (suc n) = length-set (zeros r a n) (a + n) 0 ∙ zeros-length n

  -- A word apart from them, a word that was 0, and one of them.
  pub zeros_apart : (n b : ℕ) → ((j : ℕ) → j < n → b ≡ a + j → ⊥) → get_or (zeros r a n) b 0 ≡ get_or r b 0
  unfolding zeros
  zeros_apart zero b h = refl
  zeros_apart (suc n) b h =
      get_or-set_other (zeros r a n) (a + n) b 0 0 (h n (omega arith)) ∙ zeros_apart n b (λ j l. h j (omega arith))

  zeros_stay : (n b : ℕ) → b < length r → get_or r b 0 ≡ 0 → get_or (zeros r a n) b 0 ≡ 0
  unfolding zeros
  zeros_stay zero b l e = e
  zeros_stay (suc n) b l e = set-stays (zeros r a n) (a + n) b (omega (arith, zeros-length n)) (zeros_stay n b l e)

  pub zeros_in : (n j : ℕ) → j < n → a + j < length r → get_or (zeros r a n) (a + j) 0 ≡ 0
  unfolding zeros
  zeros_in zero j l m = absurd (not-suc-le-zero l)
  zeros_in (suc n) j l m =
      either j n
      (λ is.
      ap (λ (i : ℕ). get_or (zeros r a (suc n)) (a + i) 0) is
      ∙ get_or-set_same (zeros r a n) (a + n) 0 0 (omega (arith, zeros-length n)))
      (λ apart. set-stays (zeros r a n) (a + n) (a + j) (omega (arith, zeros-length n)) (zeros_in n j (omega arith) m))

module _ (z : Sizes) where
  -- Where the words of a TreeLing begin.
  abbrev entries_at : ℕ → ℕ
  entries_at t = entry_start z t

  abbrev record_at : ℕ → ℕ
  record_at t = treeling_start z t

  -- ---- One TreeLing: its NFL words, then its record.
  abbrev pub cleared : List ℕ → ℕ → List ℕ
  cleared r t = zeros (zeros r (entries_at t) 512) (record_at t) 4

  pub cleared_is : (r : List ℕ) (t : ℕ) → treeling_cleared z r t ≡ cleared r t
  cleared_is r t =
      ap₂ (λ (i j : ℕ). zeros (zeros r i 512) j 4) (add-zero (entries_at t)) (add-zero (record_at t))

  -- An address that is none of the words of TreeLing t.
  abbrev pub Outside : ℕ → ℕ → Type 0
  Outside t b = ((j : ℕ) → j < 4 → b ≡ record_at t + j → ⊥) × ((k : ℕ) → k < 512 → b ≡ entries_at t + k → ⊥)

  module _ (r : List ℕ) (t : ℕ) where
    pub cleared_length : length (cleared r t) ≡ length r
    cleared_length = zeros-length (zeros r (entries_at t) 512) (record_at t) 4 ∙ zeros-length r (entries_at t) 512

    pub cleared_apart : (b : ℕ) → Outside t b → get_or (cleared r t) b 0 ≡ get_or r b 0
    cleared_apart b h =
        zeros_apart (zeros r (entries_at t) 512) (record_at t) 4 b h.0 ∙ zeros_apart r (entries_at t) 512 b h.1

    cleared_stays : (b : ℕ) → b < length r → get_or r b 0 ≡ 0 → get_or (cleared r t) b 0 ≡ 0
    cleared_stays b l e =
        zeros_stay (zeros r (entries_at t) 512) (record_at t) 4 b (omega (arith, zeros-length r (entries_at t) 512))
        (zeros_stay r (entries_at t) 512 b l e)

    pub cleared_record : (j : ℕ) → j < 4 → record_at t + j < length r → get_or (cleared r t) (record_at t + j) 0 ≡ 0
    cleared_record j m l =
        zeros_in (zeros r (entries_at t) 512) (record_at t) 4 j m (omega (arith, zeros-length r (entries_at t) 512))

    pub cleared_entry : (k : ℕ) → k < 512 → entries_at t + k < length r → get_or (cleared r t) (entries_at t + k) 0 ≡ 0
    cleared_entry k m l =
        zeros_stay (zeros r (entries_at t) 512) (record_at t) 4 (entries_at t + k) (omega (arith, zeros-length r (entries_at t) 512))
        (zeros_in r (entries_at t) 512 k m l)

  -- ---- Those of the first q TreeLings by rank that go
  module _ (s : List ℕ) (d : ℕ) (goes : ℕ → Bool) (r : List ℕ) where
    abbrev words : ℕ → List ℕ
    words q = treelings_cleared z s d goes r q

    none : words 0 ≡ r
    unfolding treelings_cleared
    none = refl

    -- One rank more, by whether its TreeLing goes.
    one_more : (P : List ℕ → Type 0) (q : ℕ) → (goes q ≡ true → P (cleared (words q) (of_rank z s d q))) → (goes q ≡ false → P (words q)) → P (words (suc q))
    unfolding treelings_cleared
    one_more P q gone stays = by_test (goes q) refl
      where
        by_test : (b : Bool) → goes q ≡ b → P (cond b (treeling_cleared z (words q) (of_rank z s d q)) (words q))
        by_test true e = subst P (sym (cleared_is (words q) (of_rank z s d q))) (gone e)
        by_test false e = stays e

    pub treelings_length : (q : ℕ) → length (words q) ≡ length r
    treelings_length zero = ap length none
    treelings_length (suc q) =
        one_more (λ w. length w ≡ length r) q
        (λ _. cleared_length (words q) (of_rank z s d q) ∙ treelings_length q)
        (λ _. treelings_length q)

    -- A word of none of them, and one that every clearing of the one of rank i clears.
    pub treelings_apart : (q b : ℕ) → ((i : ℕ) → i < q → goes i ≡ true → Outside (of_rank z s d i) b) → get_or (words q) b 0 ≡ get_or r b 0
    treelings_apart zero b h = ap (λ (w : List ℕ). get_or w b 0) none
    treelings_apart (suc q) b h =
        let before = treelings_apart q b (λ i l. h i (omega arith)) in
        one_more (λ w. get_or w b 0 ≡ get_or r b 0) q
        (λ e. cleared_apart (words q) (of_rank z s d q) b (h q (omega arith) e) ∙ before)
        (λ _. before)

    pub treelings_in : (q i b : ℕ) → i < q → goes i ≡ true → b < length r → ((w : List ℕ) → length w ≡ length r → get_or (cleared w (of_rank z s d i)) b 0 ≡ 0) → get_or (words q) b 0 ≡ 0
    treelings_in zero i b l e m h = absurd (not-suc-le-zero l)
    treelings_in (suc q) i b l e m h =
        either i q
        (λ is.
        one_more (λ w. get_or w b 0 ≡ 0) q
        (λ _. ap (λ (j : ℕ). get_or (cleared (words q) (of_rank z s d j)) b 0) (sym is) ∙ h (words q) (treelings_length q))
        (λ stays. absurd (false≢true (sym stays ∙ ap goes (sym is) ∙ e))))
        (λ apart.
        let before = treelings_in q i b (omega arith) e m h in
        one_more (λ w. get_or w b 0 ≡ 0) q
        (λ _. cleared_stays (words q) (of_rank z s d q) b (omega (arith, treelings_length q)) before)
        (λ _. before))
