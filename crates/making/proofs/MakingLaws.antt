-- Laws of making a state: what the writes leave is the new state.
-- Assumes nothing.
use Prim.Native.Nat.{ℕ, suc, ◌+◌, ◌-◌, ◌/◌, ◌%◌, ◌≤◌}
use mathlib.Core.Path.{◌≡◌, refl, sym, ap, ap₂, ◌∙◌}
use mathlib.Core.List.{List, [], ◌∷◌, ◌++◌, append_assoc}
use mathlib.Core.Bool.{true, false}
use native.Mathlib.Omega.{arith}
use lib.Dec.{eqb}
use lib.ListN.{length, set, take, drop, replicate, replicate-append-replicate}
use lib.Seq.{take_at, take-length, drop-append-add, paste}
use borrow.Author.Tests.{eqb-true}
use borrow.Rule.Slice.PartMut.{put_mid}
use Rattle.std.proofs.lemmas.List.{drop-replicate}
use Rattle.std.proofs.lemmas.Slice.{put_mid-paste}
use Rattle.layout.specs.declared.Sizes.{Sizes}
use Rattle.layout.specs.Outcomes.{outcome}
use Rattle.layout.specs.Places.{domain, treeling, entry, leaf, address, word_count, Allowed, allowed}
use Rattle.board.specs.Holes.{holes_allowed, holes_fit}
use Rattle.board.specs.NewState.{board_allowed, contents, new_state, making}
use Rattle.layout.proofs.BoundedLaws.{and_both}
use Rattle.board.proofs.HoleLaws.{fit_facts}
use Rattle.layout.proofs.PlaceLaws.{allowed_facts}

-- Holes pasted over zeros after nine words.
pasted : (nine hs : List ℕ) (m : ℕ) → length nine ≡ 9 → length hs ≤ 16 → 16 ≤ m
    → paste (nine ++ replicate m 0) 9 hs (length hs) ≡ nine ++ (hs ++ replicate (16 - length hs) 0) ++ replicate (m - 16) 0
pasted nine hs m long most room =
    let k = length hs in
    let split : m - k ≡ 16 - k + (m - 16) = omega arith in
    let rest : ◌≡◌ {A = List ℕ} (drop (9 + k) (nine ++ replicate m 0)) (replicate (16 - k) 0 ++ replicate (m - 16) 0) =
    ap (λ (n : ℕ). drop {A = ℕ} (n + k) (nine ++ replicate m 0)) (sym long)
    ∙ drop-append-add nine (replicate m 0) k
    ∙ drop-replicate k m 0
    ∙ ap (λ (n : ℕ). replicate {A = ℕ} n 0) split
    ∙ sym (replicate-append-replicate (16 - k) (m - 16) 0) in
    ap₂ (λ (a b : List ℕ). (take 9 (nine ++ replicate m 0) ++ a) ++ b) (take-length hs) rest
    ∙ ap (λ (a : List ℕ). (a ++ hs) ++ (replicate (16 - k) 0 ++ replicate (m - 16) 0)) (take_at nine (replicate m 0) 9 long)
    ∙ append_assoc nine hs (replicate (16 - k) 0 ++ replicate (m - 16) 0)
    ∙ ap (λ (a : List ℕ). nine ++ a) (sym (append_assoc hs (replicate (16 - k) 0) (replicate (m - 16) 0)))
    ∙ sym (append_assoc nine (hs ++ replicate (16 - k) 0) (replicate (m - 16) 0))

-- Zeros everywhere, then word by word, then the holes.
pub written : (z : Sizes) (hs : List ℕ) (n d t e l c : ℕ) → length hs ≤ 16 → n ≡ word_count z → d ≡ address z (domain 0 0) → t ≡ address z (treeling 0 0) → e ≡ address z (entry 0 0) → l ≡ address z (leaf 0) → c ≡ length hs / 2
    → paste (set (set (set (set (set (set (set (set (replicate n 0) 0 z.treelings) 1 z.domains) 2 z.frames) 4 d) 5 t) 6 e) 7 l) 8 c) 9 hs (length hs) ≡ new_state z hs
unfolding new_state
written z hs n d t e l c most hn hd ht he hl hc =
    let past : n ≡ suc (suc (suc (suc (suc (suc (suc (suc (suc (word_count z - 9))))))))) = omega arith in
    let left : word_count z - 9 - 16 ≡ word_count z - 25 = omega arith in
    rw (past, hd, ht, he, hl, hc)
    (pasted (z.treelings ∷ z.domains ∷ z.frames ∷ 0 ∷ address z (domain 0 0) ∷ address z (treeling 0 0) ∷ address z (entry 0 0) ∷ address z (leaf 0) ∷ length hs / 2 ∷ []) hs (word_count z - 9) refl most (omega arith)
    ∙ ap (λ (m : ℕ). contents z hs 0 ++ replicate m 0) left)

-- The same with the first nine words at once.
pub written_at_once : (z : Sizes) (hs : List ℕ) (n d t e l k : ℕ) (zeros nine now : List ℕ) → length hs ≤ 16 → n ≡ word_count z → d ≡ address z (domain 0 0) → t ≡ address z (treeling 0 0) → e ≡ address z (entry 0 0) → l ≡ address z (leaf 0)
    → zeros ≡ replicate n 0 → nine ≡ z.treelings ∷ z.domains ∷ z.frames ∷ 0 ∷ d ∷ t ∷ e ∷ l ∷ length hs / 2 ∷ [] → now ≡ hs → length hs ≡ k
    → put_mid 9 k (nine ++ drop 9 zeros) now ≡ new_state z hs
unfolding new_state
written_at_once z hs n d t e l k zeros nine now most hn hd ht he hl clear first holes long =
    let words = z.treelings ∷ z.domains ∷ z.frames ∷ 0 ∷ address z (domain 0 0) ∷ address z (treeling 0 0) ∷ address z (entry 0 0) ∷ address z (leaf 0) ∷ length hs / 2 ∷ [] in
    let same : nine ≡ words = first ∙ rw (hd, ht, he, hl) refl in
    let rest : drop 9 zeros ≡ replicate (word_count z - 9) 0 = ap (drop 9) clear ∙ drop-replicate 9 n 0 ∙ ap (λ (m : ℕ). replicate {A = ℕ} (m - 9) 0) hn in
    put_mid-paste 9 k (nine ++ drop 9 zeros) now hs (length hs) holes long refl
    ∙ ap₂ (λ (a b : List ℕ). paste (a ++ b) 9 hs (length hs)) same rest
    ∙ ap (λ (s : List ℕ). paste s 9 hs (length hs)) one_by_one
    ∙ written z hs (word_count z) (address z (domain 0 0)) (address z (treeling 0 0)) (address z (entry 0 0)) (address z (leaf 0)) (length hs / 2) most refl refl refl refl refl refl
  where
    one_by_one : z.treelings ∷ z.domains ∷ z.frames ∷ 0 ∷ address z (domain 0 0) ∷ address z (treeling 0 0) ∷ address z (entry 0 0) ∷ address z (leaf 0) ∷ length hs / 2 ∷ replicate (word_count z - 9) 0
        ≡ set (set (set (set (set (set (set (set (replicate (word_count z) 0) 0 z.treelings) 1 z.domains) 2 z.frames) 4 (address z (domain 0 0))) 5 (address z (treeling 0 0))) 6 (address z (entry 0 0))) 7 (address z (leaf 0))) 8 (length hs / 2)
    one_by_one =
        let past : suc (suc (suc (suc (suc (suc (suc (suc (suc (word_count z - 9))))))))) ≡ word_count z = omega arith in
        ap (λ (m : ℕ). set (set (set (set (set (set (set (set (replicate m 0) 0 z.treelings) 1 z.domains) 2 z.frames) 4 (address z (domain 0 0))) 5 (address z (treeling 0 0))) 6 (address z (entry 0 0))) 7 (address z (leaf 0))) 8 (length hs / 2)) past

-- The three answers, each from the tests that lead to it.
module _ (z : Sizes) (hs s : List ℕ) where
  pub not_allowed : board_allowed z hs ≡ false → outcome 1 s ≡ making z hs s
  unfolding making
  not_allowed h = rw h

  pub wrong_length : board_allowed z hs ≡ true → eqb (length s) (word_count z) ≡ false → outcome 2 s ≡ making z hs s
  unfolding making
  wrong_length h e = rw (h, e)

  pub right_length : board_allowed z hs ≡ true → eqb (length s) (word_count z) ≡ true → outcome 0 (new_state z hs) ≡ making z hs s
  unfolding making
  right_length h e = rw (h, e)

-- Sizes and holes that are allowed, as facts: holes have at most sixteen words.
pub board_facts : (z : Sizes) (hs : List ℕ) → board_allowed z hs ≡ true → Allowed z × (length hs ≤ 16)
board_facts z hs h =
    let both = and_both (allowed z) (holes_allowed z hs) h in
    let holes = and_both (eqb (length hs % 2) 0) (holes_fit z.frames (length hs / 2) hs) both.1 in
    (allowed_facts z both.0, omega (arith, eqb-true (length hs % 2) 0 holes.0, (fit_facts z.frames (length hs / 2) hs holes.1).at_most))
