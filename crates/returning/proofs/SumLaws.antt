-- Laws of the sums of availabilities, by TreeLing: one entry more, the entries of one TreeLing, all of a domain's.
-- Assumes nothing.
use Prim.Native.Nat.{ℕ, ◌+◌, ◌*◌, ◌/◌, ◌%◌, ◌<◌, ◌≤◌}
use mathlib.Core.Path.{◌≡◌, refl, sym, ap, ap₂, subst, ◌∙◌}
use mathlib.Core.List.{List}
use mathlib.Core.Bool.{Bool, true, false, cond, ◌&&◌}
use native.Mathlib.Nat.{add-zero}
use native.Mathlib.Omega.{arith}
use borrow.Author.Tests.{eqb-true, eq-eqb, ne_eqb}
use lib.Dec.{eqb}
use lib.ListN.{length, get_or, set, replicate, length-set, length-replicate}
use lib.Seq.{get_or-set_same, get_or-set_other}
use Rattle.layout.specs.declared.Sizes.{Sizes}
use Rattle.geometry.specs.Entries.{tag_of, availability_of}
use Rattle.layout.specs.Places.{address, get, entry}
use Rattle.layout.specs.Bounded.{all, sum}
use Rattle.layout.proofs.BoundedLaws.{all_at, sum_none, sum_suc, sum_le, sum_const, sum_plus, sum_cong, sum_zero}
use Rattle.sound.specs.Sentences.{is_ordinary, of_rank}
use Rattle.sound.specs.Sound.{Sound}
use Rattle.sound.proofs.TestLaws.{an_ordinary}
use Rattle.sound.proofs.ZeroLaws.{zero_at}
use Rattle.world.specs.World.{world}
use Rattle.world.proofs.FrameLaws.{either}
use Rattle.clearing.specs.CodeKept.{free_in, free_from, Summed, Added, all_name, free_of_four}

-- One word of the entries, by TreeLing.
abbrev part : ℕ → ℕ → ℕ
part w t = cond (eqb (tag_of w / 512) t) (availability_of w) 0

part_most : (w t : ℕ) → part w t ≤ 255
part_most w t = by_test (eqb (tag_of w / 512) t)
  where
    by_test : (b : Bool) → cond b (availability_of w) 0 ≤ 255
    by_test true = omega arith
    by_test false = omega arith

-- The tag of an entry of an ordinary domain names a TreeLing.
pub named_few : (z : Sizes) (s : List ℕ) (t k at : ℕ) → Sound z s → t < z.treelings → is_ordinary z s t ≡ true → k < 512 → at ≡ address z (entry t 0) → get_or s (at + k) 0 / 131072 < z.treelings
named_few z s t k at h l kind m is =
    let d = an_ordinary z s t kind in
    let here : at + k ≡ address z (entry t k) = omega arith in
    let word = ap (λ (i : ℕ). get_or s i 0) here in
    omega (arith, word, h.tag_range d.0 t k l m d.1 d.2)

-- ---- Words from an address on
module _ (s : List ℕ) (at : ℕ) where
  -- What they add is small.
  pub added_most : (k t : ℕ) → free_from s at k t ≤ 255 * k
  added_most k t =
      subst (λ (b : ℕ). free_from s at k t ≤ b) (sum_const k 255)
      (sum_le k (λ i. part (get_or s (at + i) 0) t) (λ _. 255) (λ i _. part_most (get_or s (at + i) 0) t))

  pub added_none : (sums : List ℕ) → Added s at 0 sums sums
  added_none sums = record { long = refl; sum_is = λ t l. omega (arith, sum_none (λ i. part (get_or s (at + i) 0) t)) }

  -- m of them whose tags name TreeLing n, added to its sum.
  added_at : (m n x : ℕ) (before : List ℕ) → ((i : ℕ) → i < m → tag_of (get_or s (at + i) 0) / 512 ≡ n) → n < length before
      → x ≡ get_or before n 0 + sum m (λ i. availability_of (get_or s (at + i) 0)) → Added s at m before (set before n x)
  added_at m n x before names low to = record { long = length-set before n x; sum_is = each }
    where
      each : (t : ℕ) → t < length before → get_or (set before n x) t 0 ≡ get_or before t 0 + free_from s at m t
      each t l =
          either t n
          (λ same.
          let all = sum_cong m (λ i. part (get_or s (at + i) 0) t) (λ i. availability_of (get_or s (at + i) 0))
          (λ i k. ap (λ (b : Bool). cond b (availability_of (get_or s (at + i) 0)) 0) (eq-eqb (tag_of (get_or s (at + i) 0) / 512) t (names i k ∙ sym same))) in
          ap (λ (i : ℕ). get_or (set before n x) i 0) same
          ∙ get_or-set_same before n x 0 low
          ∙ to
          ∙ ap₂ (λ (i y : ℕ). get_or before i 0 + y) (sym same) (sym all))
          (λ apart.
          let none = sum_cong m (λ i. part (get_or s (at + i) 0) t) (λ _. 0)
          (λ i k. ap (λ (b : Bool). cond b (availability_of (get_or s (at + i) 0)) 0) (ne_eqb (tag_of (get_or s (at + i) 0) / 512) t (λ e. apart (sym e ∙ names i k)))) in
          get_or-set_other before n t x 0 apart ∙ omega (arith, none, sum_zero m))

  -- Four of them.
  pub added_four : (n x : ℕ) (before : List ℕ) → all_name s at n ≡ true → n < length before → x ≡ get_or before n 0 + free_of_four s at → Added s at 4 before (set before n x)
  unfolding all sum
  added_four n x before same low to =
      let names : ℕ → Bool = λ i. eqb (get_or s (at + i) 0 / 131072) n in
      let four : all 4 names ≡ true = ap (λ (i : ℕ). ((eqb (get_or s i 0 / 131072) n && names 1) && names 2) && names 3) (add-zero at) ∙ same in
      let word = ap (λ (i : ℕ). get_or s i 0) (add-zero at) in
      added_at 4 n x before
      (λ i l. omega (arith, eqb-true (get_or s (at + i) 0 / 131072) n (all_at 4 names four i l)))
      low (omega (arith, to, word))

module _ (s : List ℕ) (at : ℕ) where
  -- k words, and the m after them.
  pub added_then : (k m : ℕ) (before sums after : List ℕ) → Added s at k before sums → Added s (at + k) m sums after → Added s at (k + m) before after
  added_then k m before sums after a b =
      record {
        long = b.long ∙ a.long;
        sum_is = λ t l.
            let moved = sum_cong m (λ i. part (get_or s (at + (k + i)) 0) t) (λ i. part (get_or s (at + k + i) 0) t) (λ i _. ap (λ (j : ℕ). part (get_or s j 0) t) (omega arith)) in
            omega (arith, a.sum_is t l, b.sum_is t (omega (arith, a.long)), sum_plus k m (λ i. part (get_or s (at + i) 0) t), moved);
      }

  -- One more, which names TreeLing n.
  pub added_next : (k n x : ℕ) (before sums : List ℕ) → Added s at k before sums → n ≡ get_or s (at + k) 0 / 131072 → n < length before → x ≡ get_or sums n 0 + get_or s (at + k) 0 % 256
      → Added s at (k + 1) before (set sums n x)
  added_next k n x before sums a names low to =
      let w = get_or s (at + k) 0 in
      let here : (i : ℕ) → i < 1 → get_or s (at + k + i) 0 ≡ w = λ i l. ap (λ (j : ℕ). get_or s j 0) (omega arith) in
      let free : ℕ → ℕ = λ i. availability_of (get_or s (at + k + i) 0) in
      added_then k 1 before sums (set sums n x) a
      (added_at s (at + k) 1 n x sums
      (λ i l. omega (arith, here i l, names))
      (omega (arith, a.long))
      (omega (arith, to, sum_suc 0 free, sum_none free, here 0 (omega arith))))

-- ---- All entries of domain d
module _ (z : Sizes) (s : List ℕ) (d : ℕ) where
  pub summed_none : (n : ℕ) → z.treelings ≤ n → Summed z s d 0 (replicate n 0)
  unfolding free_in
  summed_none n few =
      record {
        long = rw (length-replicate {0} {A = ℕ} n 0) few;
        sum_is = λ t l. zero_at n t ∙ sym (sum_none (λ q. cond (eqb ((world z s d).nfl.tag q / 512) t) ((world z s d).nfl.free q) 0));
      }

  pub free_most : (j t : ℕ) → free_in z s d j t ≤ 255 * j
  unfolding free_in
  free_most j t =
      subst (λ (b : ℕ). free_in z s d j t ≤ b) (sum_const j 255)
      (sum_le j (λ q. cond (eqb ((world z s d).nfl.tag q / 512) t) ((world z s d).nfl.free q) 0) (λ _. 255) (λ q _. part_most _ t))

  -- They are far below the word's end.
  pub summed_small : (j : ℕ) (sums : List ℕ) → j ≤ 2097152 → Summed z s d j sums → (t : ℕ) → t < z.treelings → get_or sums t 0 ≤ 2147483648
  summed_small j sums few a t l = omega (arith, a.sum_is t l, free_most j t)

  -- Those of the TreeLing of rank r.
  free_row : (r t : ℕ) → free_in z s d (512 * r + 512) t ≡ free_in z s d (512 * r) t + free_from s (address z (entry (of_rank z s d r) 0)) 512 t
  unfolding free_in
  free_row r t =
      let at = address z (entry (of_rank z s d r) 0) in
      sum_plus (512 * r) 512 (λ q. cond (eqb ((world z s d).nfl.tag q / 512) t) ((world z s d).nfl.free q) 0)
      ∙ ap (λ (x : ℕ). free_in z s d (512 * r) t + x)
      (sum_cong 512 (λ j. cond (eqb ((world z s d).nfl.tag (512 * r + j) / 512) t) ((world z s d).nfl.free (512 * r + j)) 0) (λ i. part (get_or s (at + i) 0) t)
      (λ j l.
      let q : (512 * r + j) / 512 ≡ r = omega arith in
      let k : (512 * r + j) % 512 ≡ j = omega arith in
      ap₂ (λ (a b : ℕ). part (get z s (entry (of_rank z s d a) b)) t) q k
      ∙ ap (λ (i : ℕ). part (get_or s i 0) t) (omega arith)))

  pub summed_next : (r t : ℕ) (sums after : List ℕ) → t ≡ of_rank z s d r → Summed z s d (512 * r) sums → Added s (address z (entry t 0)) 512 sums after → Summed z s d (512 * (r + 1)) after
  summed_next r t sums after is a b =
      let more : 512 * (r + 1) ≡ 512 * r + 512 = omega arith in
      record {
        long = rw b.long a.long;
        sum_is = λ u l.
            b.sum_is u (omega (arith, a.long))
            ∙ ap₂ (λ (x y : ℕ). x + free_from s (address z (entry y 0)) 512 u) (a.sum_is u l) is
            ∙ sym (free_row r u)
            ∙ ap (λ (j : ℕ). free_in z s d j u) (sym more);
      }
