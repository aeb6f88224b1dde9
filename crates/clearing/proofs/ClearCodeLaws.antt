-- Laws of the code that clears and renumbers TreeLings: one of them, those that go by rank, and those that stay by their links.
-- Assumes nothing.
use Prim.Native.Nat.{ℕ, zero, suc, ◌+◌, ◌-◌, ◌<◌}
use mathlib.Core.Path.{◌≡◌, refl, sym, ap, ap₂, subst, ◌∙◌}
use mathlib.Core.List.{List}
use mathlib.Core.Bool.{Bool, true, false, cond}
use native.Mathlib.Nat.{not-suc-le-zero}
use native.Mathlib.Numerals.{add-one}
use native.Mathlib.Omega.{arith}
use borrow.Author.Tests.{eq-eqb, ne_eqb}
use lib.Dec.{eqb}
use lib.ListN.{length, get_or, set, length-set}
use Rattle.layout.specs.declared.Sizes.{Sizes}
use Rattle.layout.specs.Places.{Laid, address, get, put, zeros, treeling, entry, previous, next, rank}
use Rattle.sound.specs.Sentences.{of_rank}
use Rattle.world.proofs.FrameLaws.{either}
use Rattle.gathering.specs.CodeGathering.{Chain}
use Rattle.clearing.specs.Clearing.{treeling_cleared, treelings_cleared}
use Rattle.clearing.specs.CodeKept.{ClearedBy, last_link, linked_by}
use Rattle.clearing.proofs.ClearingLaws.{treelings_apart, treelings_length}

-- The NFL words of a TreeLing, then its record.
pub treeling_cleared_lem : (z : Sizes) (s m r : List ℕ) (t i j : ℕ) → i ≡ address z (entry t 0) → j ≡ address z (treeling t 0) → m ≡ zeros s i 512 → r ≡ zeros m j 4
    → r ≡ treeling_cleared z s t
treeling_cleared_lem z s m r t i j ei ej em er = er ∙ ap₂ (λ (w : List ℕ) (k : ℕ). zeros w k 4) (em ∙ ap (λ (k : ℕ). zeros s k 512) ei) ej

-- ---- Those that go
-- Two tests that agree on the first n.
pub cleared_cong : (z : Sizes) (s : List ℕ) (d : ℕ) (p q : ℕ → Bool) (r : List ℕ) (n : ℕ) → ((i : ℕ) → i < n → p i ≡ q i) → treelings_cleared z s d p r n ≡ treelings_cleared z s d q r n
unfolding treelings_cleared
cleared_cong z s d p q r zero same = refl
cleared_cong z s d p q r (suc n) same =
    ap₂ (λ (b : Bool) (w : List ℕ). cond b (treeling_cleared z w (of_rank z s d n)) w) (same n (omega arith)) (cleared_cong z s d p q r n (λ i l. same i (omega arith)))

pub cleared_none : {z : Sizes} {s : List ℕ} {d : ℕ} {answers : ℕ → Bool → Type 0} → ClearedBy z s d answers s 0
unfolding treelings_cleared
cleared_none = record { test = λ _. false; answered = λ q l. absurd (not-suc-le-zero l); words = refl }

-- The first q are done, which leaves words r.
module _ {z : Sizes} {s : List ℕ} {d m : ℕ} (h : Chain z s d m) {answers : ℕ → Bool → Type 0} {r : List ℕ} {q : ℕ} (l : q < m) (k : ClearedBy z s d answers r q) where
  pub cleared_laid : Laid z r
  cleared_laid =
      record { sizes = h.laid.sizes; long = ap length k.words ∙ treelings_length z s d k.test s q ∙ h.laid.long }

  -- The record of the next one is not cleared yet.
  pub next-stays : get z r (next (of_rank z s d q)) ≡ get z s (next (of_rank z s d q))
  next-stays =
      ap (λ (w : List ℕ). get z w (next (of_rank z s d q))) k.words
      ∙ treelings_apart z s d k.test s q (address z (next (of_rank z s d q))) (λ p i _. (
        λ j small same.
            let one : of_rank z s d p ≡ of_rank z s d q = omega arith in
            omega (arith, h.one p q (omega arith) l one),
        λ j small same. omega (arith, h.below q l),
      ))

  -- One more: it goes, or it stays.
  cleared_on : (b : Bool) (u : List ℕ) → answers (of_rank z s d q) b → u ≡ cond b (treeling_cleared z r (of_rank z s d q)) r → ClearedBy z s d answers u (q + 1)
  unfolding treelings_cleared
  cleared_on b u given is =
      record {
        test = told;
        answered = λ p i.
            either p q
            (λ here. rw (here, eq-eqb q q refl) given)
            (λ apart. rw (ne_eqb p q apart) (k.answered p (omega arith)));
        words = is ∙ ap (λ (w : List ℕ). cond b (treeling_cleared z w (of_rank z s d q)) w) (k.words ∙ cleared_cong z s d k.test told s q (λ p i. sym (ap (λ (e : Bool). cond e b (k.test p)) (ne_eqb p q (λ e. omega arith)))))
            ∙ ap (λ (e : Bool). cond e (treeling_cleared z (treelings_cleared z s d told s q) (of_rank z s d q)) (treelings_cleared z s d told s q)) (sym (ap (λ (e : Bool). cond e b (k.test q)) (eq-eqb q q refl)))
            ∙ ap (treelings_cleared z s d told s) (sym (add-one q));
      }
    where
      told : ℕ → Bool
      told p = cond (eqb p q) b (k.test p)

  pub cleared_more : (t : ℕ) {u : List ℕ} → t ≡ of_rank z s d q → answers t true → u ≡ treeling_cleared z r t → ClearedBy z s d answers u (q + 1)
  cleared_more t {u} is given e = cleared_on true u (subst (λ (i : ℕ). answers i true) is given) (e ∙ ap (treeling_cleared z r) is)

  pub cleared_pass : (t : ℕ) → t ≡ of_rank z s d q → answers t false → ClearedBy z s d answers r (q + 1)
  cleared_pass t is given = cleared_on false r (subst (λ (i : ℕ). answers i false) is given) refl

-- All of them, of which the answers make a test.
pub cleared_by : {z : Sizes} {s : List ℕ} {d : ℕ} {answers : ℕ → Bool → Type 0} {r : List ℕ} {n : ℕ} (test : ℕ → Bool) → ClearedBy z s d answers r n
    → ((q : ℕ) (b : Bool) → q < n → answers (of_rank z s d q) b → b ≡ test q) → r ≡ treelings_cleared z s d test s n
cleared_by {z} {s} {d} {n = n} test k each =
    k.words ∙ cleared_cong z s d k.test test s n (λ q l. each q (k.test q) l (k.answered q l))

-- ---- Those that stay, by their links
pub linked_none : (z : Sizes) (links r : List ℕ) → r ≡ linked_by z links r 0
unfolding linked_by
linked_none z links r = refl

pub last_none : (links : List ℕ) → 0 ≡ last_link links 0
unfolding last_link
last_none links = refl

pub last-next : (links : List ℕ) (q : ℕ) → get_or links q 0 ≡ last_link links (q + 1)
unfolding last_link
last-next links q = ap (last_link links) (sym (add-one q))

pub linked_length : (z : Sizes) (links r : List ℕ) (n : ℕ) → length (linked_by z links r n) ≡ length r
unfolding linked_by
linked_length z links r zero = refl
linked_length z links r (suc q) =
    let t = get_or links q 0 - 1 in
    let w1 = put z (linked_by z links r q) (previous t) (last_link links q) in
    let w2 = put z w1 (next t) (get_or links (suc q) 0) in
    length-set w2 (address z (rank t)) q
    ∙ length-set w1 (address z (next t)) (get_or links (suc q) 0)
    ∙ length-set (linked_by z links r q) (address z (previous t)) (last_link links q)
    ∙ linked_length z links r q

-- One more, whose record begins at this address.
pub linked_more : (z : Sizes) (links r w : List ℕ) (q at before : ℕ) → at ≡ address z (treeling (get_or links q 0 - 1) 0) → before ≡ last_link links q → w ≡ linked_by z links r q
    → set (set (set w (at + 1) before) (at + 2) (get_or links (q + 1) 0)) (at + 3) q ≡ linked_by z links r (q + 1)
unfolding linked_by
linked_more z links r w q at before is last words =
    let t = get_or links q 0 - 1 in
    ap (λ (i : ℕ). set (set (set w (i + 1) before) (i + 2) (get_or links (q + 1) 0)) (i + 3) q) is
    ∙ ap₂ (λ (i j : ℕ). set (set (set w i before) j (get_or links (q + 1) 0)) (address z (treeling t 0) + 3) q) (omega arith) (omega arith)
    ∙ ap₂ (λ (i : ℕ) (u : List ℕ). set (set (set u (address z (previous t)) before) (address z (next t)) (get_or links (q + 1) 0)) i q) (omega arith) words
    ∙ ap₂ (λ (v j : ℕ). set (set (set (linked_by z links r q) (address z (previous t)) v) (address z (next t)) (get_or links j 0)) (address z (rank t)) q) last (add-one q)
    ∙ ap (linked_by z links r) (sym (add-one q))
