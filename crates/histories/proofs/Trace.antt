-- A batch as a chain of single requests, each answered in the words that the one before it left.
-- Assumes nothing.
use Prim.Native.Nat.{ℕ, zero, suc, ◌+◌, ◌*◌, ◌/◌, ◌%◌, ◌<◌, ◌≤◌}
use mathlib.Core.Path.{◌≡◌, refl, sym, ap, subst, ◌∙◌}
use mathlib.Core.List.{List, [], ◌∷◌, ◌++◌, append_assoc}
use mathlib.Core.Bool.{Bool, true, false, cond}
use native.Mathlib.Omega.{arith}
use borrow.Author.Tests.{eqb-true, eqb-false, eq-eqb}
use lib.Dec.{eqb, leb}
use lib.ListN.{length, get_or, take, drop, length-drop, take-append-drop}
use lib.Seq.{sets, length-sets, sets-eq, length-take-le, take_at, drop_at, take-append-le, drop-append-le, get_or-drop}
use Rattle.layout.specs.declared.Sizes.{Sizes}
use Rattle.sound.specs.Contents.{sizes_in}
use Rattle.sound.specs.Audit.{audit_number}
use Rattle.sound.specs.Sound.{Sound}
use Rattle.layout.proofs.BoundedLaws.{and_both}
use Rattle.sound.proofs.SoundLaws.{sound_number, sound_sizes}
use Rattle.pages.specs.Answers.{Answer, Refused, Finished, Page, Fill, answer_words}
use Rattle.questions.specs.Questions.{answering}
use Rattle.batch.specs.Batch.{Served, served, serving, request_word, answered, state_after, answers_after, requests_fit, answers_fit}
use Rattle.histories.specs.Histories.{request, Heard, heard_at, heard_in, heard_of}

-- A request and its answer from words s.
abbrev pub heard : Sizes → List ℕ → ℕ → ℕ → ℕ → ℕ → Heard
heard z s c d f n = record { asked = request (c ∷ d ∷ f ∷ n ∷ []); answer = answer_words (answering z s c d f n).answer }

-- From words s these were heard, one after the other, and words r were left.
pub data Traced (z : Sizes) : List ℕ → List Heard → List ℕ → Type 0 where
  none : {s : List ℕ} → Traced z s [] s
  more : {s r : List ℕ} {hs : List Heard} (c d f n : ℕ) → Traced z (answering z s c d f n).words hs r → Traced z s (heard z s c d f n ∷ hs) r

-- One chain after another.
traced_append : {z : Sizes} {s r q : List ℕ} {hs gs : List Heard} → Traced z s hs r → Traced z r gs q → Traced z s (hs ++ gs) q
traced_append none u = u
traced_append (more c d f n t) u = more c d f n (traced_append t u)

-- ---- The words of a request and of an answer
-- Four words of a list, and those of the k-th request.
four_words : (l : List ℕ) → 4 ≤ length l → take 4 l ≡ get_or l 0 0 ∷ get_or l 1 0 ∷ get_or l 2 0 ∷ get_or l 3 0 ∷ []
four_words [] h = absurd (omega arith)
four_words (a ∷ []) h = absurd (omega arith)
four_words (a ∷ b ∷ []) h = absurd (omega arith)
four_words (a ∷ b ∷ c ∷ []) h = absurd (omega arith)
four_words (a ∷ b ∷ c ∷ d ∷ l) h = refl

request-words : (q : List ℕ) (k : ℕ) → 4 * k + 4 ≤ length q → take 4 (drop (4 * k) q) ≡ request_word q k 0 ∷ request_word q k 1 ∷ request_word q k 2 ∷ request_word q k 3 ∷ []
request-words q k h =
    let w : (i : ℕ) → get_or (drop (4 * k) q) i 0 ≡ request_word q k i = λ i. get_or-drop (4 * k) q i 0 in
    four_words (drop (4 * k) q) (simp length-drop (omega arith)) ∙ λ i. w 0 i ∷ w 1 i ∷ w 2 i ∷ w 3 i ∷ []

-- An answer is eight words.
pub answer_length : (a : Answer) → length (answer_words a) ≡ 8
unfolding answer_words
answer_length (Refused n) = refl
answer_length (Finished p) = refl
answer_length (Page id r p) = refl
answer_length (Fill q r n) = refl

-- A block of eight is what was set there, and a later one leaves it.
split_set : (l w : List ℕ) (n : ℕ) → length w ≡ 8 → 8 * n + 8 ≤ length l → sets l (8 * n) w ≡ take (8 * n) l ++ (w ++ drop (8 * n + length w) l)
split_set l w n eight fits = sets-eq w l (8 * n) (omega arith) ∙ append_assoc (take (8 * n) l) w (drop (8 * n + length w) l)

block-set : (l w : List ℕ) (n : ℕ) → length w ≡ 8 → 8 * n + 8 ≤ length l → take 8 (drop (8 * n) (sets l (8 * n) w)) ≡ w
block-set l w n eight fits =
    ap (λ (x : List ℕ). take 8 (drop (8 * n) x)) (split_set l w n eight fits)
    ∙ ap (take 8) (drop_at (take (8 * n) l) (w ++ drop (8 * n + length w) l) (8 * n) (length-take-le (8 * n) l (omega arith)))
    ∙ take_at w (drop (8 * n + length w) l) 8 eight

block_front : (l rest : List ℕ) (k n : ℕ) → k < n → 8 * n ≤ length l → take 8 (drop (8 * k) (take (8 * n) l ++ rest)) ≡ take 8 (drop (8 * k) (take (8 * n) l))
block_front l rest k n less fits =
    let long = length-take-le (8 * n) l fits in
    ap (take 8) (drop-append-le (8 * k) (take (8 * n) l) rest (omega arith))
    ∙ take-append-le 8 (drop (8 * k) (take (8 * n) l)) rest (omega (arith, length-drop (8 * k) (take (8 * n) l)))

block_kept : (l w : List ℕ) (k n : ℕ) → k < n → length w ≡ 8 → 8 * n + 8 ≤ length l → take 8 (drop (8 * k) (sets l (8 * n) w)) ≡ take 8 (drop (8 * k) l)
block_kept l w k n less eight fits =
    ap (λ (x : List ℕ). take 8 (drop (8 * k) x)) (split_set l w n eight fits)
    ∙ block_front l (w ++ drop (8 * n + length w) l) k n less (omega arith)
    ∙ sym (block_front l (drop (8 * n) l) k n less (omega arith))
    ∙ ap (λ (x : List ℕ). take 8 (drop (8 * k) x)) (take-append-drop (8 * n) l)

-- ---- A batch
module _ (z : Sizes) (s q a : List ℕ) where
  -- The answer buffer keeps its length.
  pub answers_length : (n : ℕ) → length (answers_after z s q a n) ≡ length a
  unfolding answers_after
  answers_length zero = refl
  answers_length (suc n) =
      length-sets (answers_after z s q a n) (8 * n) (answer_words (answered z (state_after z s q n) q n).answer) ∙ answers_length n

  -- The k-th answer after n requests.
  pub answer_words_lem : (n k : ℕ) → k < n → 8 * n ≤ length a → take 8 (drop (8 * k) (answers_after z s q a n)) ≡ answer_words (answered z (state_after z s q k) q k).answer
  unfolding answers_after
  answer_words_lem zero k less fits = absurd (omega arith)
  answer_words_lem (suc n) k less fits = go (eqb k n) refl (answer_words_lem n k)
    where
      l : List ℕ
      l = answers_after z s q a n

      w : ℕ → List ℕ
      w j = answer_words (answered z (state_after z s q j) q j).answer

      long : 8 * n + 8 ≤ length l
      long = omega (arith, answers_length n)

      go : (b : Bool) → eqb k n ≡ b → (k < n → 8 * n ≤ length a → take 8 (drop (8 * k) l) ≡ w k) → take 8 (drop (8 * k) (sets l (8 * n) (w n))) ≡ w k
      go true e before =
          subst (λ (j : ℕ). take 8 (drop (8 * j) (sets l (8 * n) (w n))) ≡ w j) (sym (eqb-true k n e))
          (block-set l (w n) n (answer_length (answered z (state_after z s q n) q n).answer) long)
      go false e before =
          let below : k < n = omega (arith, eqb-false k n e) in
          block_kept l (w n) k n below (answer_length (answered z (state_after z s q n) q n).answer) long ∙ before below (omega arith)

  -- Its first k requests, with the answers after n.
  batch_traced : (n k : ℕ) → k ≤ n → 4 * n ≤ length q → 8 * n ≤ length a → Traced z s (heard_in q (answers_after z s q a n) k) (state_after z s q k)
  unfolding heard_in state_after
  batch_traced n zero h m l = none
  batch_traced n (suc k) h m l =
      let asked = request-words q k (omega arith) in
      let told = answer_words_lem n k h l in
      let is : heard_at q (answers_after z s q a n) k ≡ heard z (state_after z s q k) (request_word q k 0) (request_word q k 1) (request_word q k 2) (request_word q k 3) =
      λ i. record { asked = request (asked i); answer = told i } in
      traced_append (batch_traced n k (omega arith) m l)
      (subst (λ (x : Heard). Traced z (state_after z s q k) (x ∷ []) (state_after z s q (suc k))) (sym is)
      (more (request_word q k 0) (request_word q k 1) (request_word q k 2) (request_word q k 3) none))

-- A batch, served or refused.
pub served_traced : (z : Sizes) (s q a : List ℕ) → Sound z s → Traced z s (heard_of (serving s q a) q) (serving s q a).state
unfolding serving
served_traced z s q a h =
    rw (eq-eqb (audit_number s) 0 (sound_number z s h)) (go (requests_fit q) (answers_fit q a) refl refl)
  where
    n : ℕ
    n = length q / 4

    after : Sizes → Served
    after y = served 0 (state_after y s q n) (answers_after y s q a n)

    go : (b c : Bool) → requests_fit q ≡ b → answers_fit q a ≡ c
        → Traced z s (heard_of (cond b (cond c (after (sizes_in s)) (served 6 s a)) (served 5 s a)) q) (cond b (cond c (after (sizes_in s)) (served 6 s a)) (served 5 s a)).state
    go true true e k =
        let length_is = eqb-true (length q % 4) 0 (and_both (eqb (length q % 4) 0) (leb (length q) 262144) e).0 in
        let twice = eqb-true (length a) (2 * length q) k in
        subst (λ (y : Sizes). Traced z s (heard_of (after y) q) (after y).state) (sym (sound_sizes z s h))
        (batch_traced z s q a n n (omega arith) (omega arith) (omega arith))
    go true false e k = none
    go false c e k = none
