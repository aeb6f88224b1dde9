-- What an answer buffer holds before a batch does not matter: the zeros of a history's definition are no choice.
-- Assumes nothing.
use Prim.Native.Nat.{ℕ, zero, suc, ◌*◌, ◌/◌, ◌≤◌}
use mathlib.Core.Path.{◌≡◌, refl, sym, ap, ap₂, ◌∙◌}
use mathlib.Core.List.{List, [], ◌∷◌, ◌++◌, map}
use mathlib.Core.Bool.{Bool, true, false, cond, false≢true}
use native.Mathlib.Omega.{arith}
use borrow.Author.Tests.{eqb-true}
use lib.Dec.{eqb}
use lib.ListN.{length, replicate, length-replicate}
use Rattle.layout.specs.declared.Sizes.{Sizes}
use Rattle.sound.specs.Contents.{sizes_in}
use Rattle.sound.specs.Audit.{audit_number}
use Rattle.batch.specs.Batch.{Served, served, serving, state_after, answers_after, requests_fit, answers_fit}
use Rattle.histories.specs.Histories.{Carried, leaving, Entry, batch, Heard, ours, heard_at, heard_in, heard_of, effect_of, heard_from}
use Rattle.histories.proofs.Trace.{answer_words_lem}

-- ---- One batch
-- The first k of n answers are the same in two buffers with room for n.
module _ (z : Sizes) (s q a b : List ℕ) (n : ℕ) (fits_a : 8 * n ≤ length a) (fits_b : 8 * n ≤ length b) where
  same_heard : (k : ℕ) → k ≤ n → heard_in q (answers_after z s q a n) k ≡ heard_in q (answers_after z s q b n) k
  unfolding heard_in
  same_heard zero l = refl
  same_heard (suc k) l =
      let told = answer_words_lem z s q a n k l fits_a ∙ sym (answer_words_lem z s q b n k l fits_b) in
      let here : heard_at q (answers_after z s q a n) k ≡ heard_at q (answers_after z s q b n) k = λ i. record { asked = (heard_at q a k).asked; answer = told i } in
      ap₂ (λ (hs : List Heard) (h : Heard). hs ++ h ∷ []) (same_heard k (omega arith)) here

-- Two outcomes of a batch that differ in the buffer at most, where nothing was answered.
pub record SameHeard (q : List ℕ) (r t : Served) : Type 0 where
  pub same_number : r.number ≡ t.number
  pub same_state : r.state ≡ t.state
  pub same_heard_of : heard_of r q ≡ heard_of t q

pub any_buffer : (s q a b : List ℕ) → length a ≡ length b → SameHeard q (serving s q a) (serving s q b)
unfolding serving
any_buffer s q a b long = go (eqb (audit_number s) 0) (requests_fit q) (answers_fit q a) (answers_fit q b) refl refl refl refl
  where
    n : ℕ
    n = length q / 4

    done : List ℕ → Served
    done x = served 0 (state_after (sizes_in s) s q n) (answers_after (sizes_in s) s q x n)

    same_fit : answers_fit q a ≡ answers_fit q b
    same_fit = ap (λ (k : ℕ). eqb k (2 * length q)) long

    go : (u v x y : Bool) → eqb (audit_number s) 0 ≡ u → requests_fit q ≡ v → answers_fit q a ≡ x → answers_fit q b ≡ y
        → SameHeard q (cond u (cond v (cond x (done a) (served 6 s a)) (served 5 s a)) (served (audit_number s) s a)) (cond u (cond v (cond y (done b) (served 6 s b)) (served 5 s b)) (served (audit_number s) s b))
    go true true true true eu ev ex ey =
        let long_a = eqb-true (length a) (2 * length q) ex in
        record { same_number = refl; same_state = refl; same_heard_of = same_heard (sizes_in s) s q a b n (omega arith) (omega arith) n (omega arith) }
    go true true true false eu ev ex ey = absurd (false≢true (sym ey ∙ sym same_fit ∙ ex))
    go true true false true eu ev ex ey = absurd (false≢true (sym ex ∙ same_fit ∙ ey))
    go true true false false eu ev ex ey = record { same_number = refl; same_state = refl; same_heard_of = refl }
    go true false x y eu ev ex ey = record { same_number = refl; same_state = refl; same_heard_of = refl }
    go false v x y eu ev ex ey = record { same_number = refl; same_state = refl; same_heard_of = rw eu }

-- ---- A list of batches, each with a buffer
pub record Lent : Type 0 where
  pub requests : List ℕ
  pub buffer : List ℕ

-- As it stands in a history: its words and the length of its buffer.
abbrev pub posted : Lent → Entry
posted b = batch b.requests (length b.buffer)

unfoldable pub heard_lent : Carried → List Lent → List Heard
heard_lent w [] = []
heard_lent w (b ∷ bs) =
    let r = serving w.state b.requests b.buffer in
    heard_of r b.requests ++ heard_lent (leaving w r.state) bs

pub any_buffers : (w : Carried) (bs : List Lent) → heard_lent w bs ≡ heard_from ours w (map posted bs)
unfolding heard_lent heard_from effect_of
any_buffers w [] = refl
any_buffers w (b ∷ bs) =
    let same = any_buffer w.state b.requests b.buffer (replicate (length b.buffer) 0) (sym (length-replicate (length b.buffer) 0)) in
    ap₂ ◌++◌ same.same_heard_of (any_buffers (leaving w (serving w.state b.requests b.buffer).state) bs ∙ ap (λ (r : List ℕ). heard_from ours (leaving w r) (map posted bs)) same.same_state)
