-- Requests served in two batches are answered as in one: the audit between them passes and writes nothing.
-- Assumes nothing.
use Prim.Native.Nat.{ℕ, zero, suc, ◌+◌, ◌*◌, ◌/◌, ◌%◌, ◌<◌, ◌≤◌}
use mathlib.Core.Path.{◌≡◌, refl, sym, ap, ap₂, ◌∙◌}
use mathlib.Core.List.{List, [], ◌∷◌, ◌++◌}
use mathlib.Core.Bool.{true}
use native.Mathlib.Nat.{add-zero, add-suc, zero-add, suc-add}
use native.Mathlib.Omega.{arith}
use lib.Dec.{eqb, leb}
use lib.ListN.{length, get_or, set, length-set, length-append, get_or-append}
use lib.Seq.{sets, get_or-append-add, set-append_left}
use borrow.Author.Tests.{eqb-true, leb-true, eq-eqb, le-leb}
use Rattle.layout.specs.declared.Sizes.{Sizes}
use Rattle.sound.specs.Contents.{sizes_in}
use Rattle.sound.specs.Audit.{audit_number}
use Rattle.layout.proofs.BoundedLaws.{and_both, and_of}
use Rattle.sound.proofs.SoundLaws.{sound_sizes, sound_number, number_sound}
use Rattle.pages.specs.Answers.{Outcome, answer_words}
use Rattle.batch.specs.Batch.{request_word, answered, state_after, answers_after, Served, served, serving, requests_fit, answers_fit}
use Rattle.histories.proofs.BatchSound.{fits_served, after_sound}
use Rattle.histories.proofs.Trace.{answer_length, answers_length}

-- ---- Words set in one of two parts
set_right : (l b : List ℕ) (i x : ℕ) → set (l ++ b) (length l + i) x ≡ l ++ set b i x
set_right [] b i x = ap (λ (k : ℕ). set b k x) (zero-add i)
set_right (y ∷ l) b i x =
    ap (λ (k : ℕ). set (y ∷ (l ++ b)) k x) (suc-add (length l) i) ∙ ap (λ (w : List ℕ). y ∷ w) (set_right l b i x)

sets_left : (l b : List ℕ) (i : ℕ) (w : List ℕ) → i + length w ≤ length l → sets (l ++ b) i w ≡ sets l i w ++ b
sets_left l b i [] h = refl
sets_left l b i (x ∷ w) h =
    let room : i < length l = omega arith in
    ap (λ (v : List ℕ). sets v (suc i) w) (set-append_left l b i x room)
    ∙ sets_left (set l i x) b (suc i) w (omega (arith, length-set l i x))

sets_right : (l b : List ℕ) (i : ℕ) (w : List ℕ) → sets (l ++ b) (length l + i) w ≡ l ++ sets b i w
sets_right l b i [] = refl
sets_right l b i (x ∷ w) =
    ap₂ (λ (v : List ℕ) (k : ℕ). sets v k w) (set_right l b i x) (sym (add-suc (length l) i))
    ∙ sets_right l (set b i x) (suc i) w

-- ---- Two lists of requests, p and r, in a row
-- The answer to a request depends on its four words.
same_answered : (z : Sizes) (s t q u : List ℕ) (j k : ℕ) → s ≡ t → ((i : ℕ) → i < 4 → request_word q j i ≡ request_word u k i) → answered z s q j ≡ answered z t u k
same_answered z s t q u j k e h =
    rw (e, h 0 (omega arith), h 1 (omega arith), h 2 (omega arith), h 3 (omega arith))

module _ (z : Sizes) (s p r : List ℕ) (n : ℕ) (whole : 4 * n ≡ length p) where
  first-words : (j : ℕ) → j < n → (i : ℕ) → i < 4 → request_word (p ++ r) j i ≡ request_word p j i
  first-words j l i m = get_or-append p r 0 (4 * j + i) (omega arith)

  second_words : (j i : ℕ) → i < 4 → request_word (p ++ r) (n + j) i ≡ request_word r j i
  second_words j i m =
      let at : 4 * (n + j) + i ≡ length p + (4 * j + i) = omega arith in
      ap (λ (k : ℕ). get_or (p ++ r) k 0) at ∙ get_or-append-add p r (4 * j + i) 0

  -- The states.
  state_first : (j : ℕ) → j ≤ n → state_after z s (p ++ r) j ≡ state_after z s p j
  unfolding state_after
  state_first zero l = refl
  state_first (suc j) l =
      ap (λ (o : Outcome). o.words) (same_answered z _ _ (p ++ r) p j j (state_first j (omega arith)) (first-words j l))

  -- The state after the first piece.
  abbrev after : List ℕ
  after = state_after z s p n

  state_second : (j : ℕ) → state_after z s (p ++ r) (n + j) ≡ state_after z after r j
  unfolding state_after
  state_second zero = ap (state_after z s (p ++ r)) (add-zero n) ∙ state_first n (omega arith)
  state_second (suc j) =
      ap (state_after z s (p ++ r)) (add-suc n j)
      ∙ ap (λ (o : Outcome). o.words) (same_answered z _ _ (p ++ r) r (n + j) j (state_second j) (second_words j))

  -- The answers, in buffers a and b.
  module _ (a b : List ℕ) (room : 8 * n ≡ length a) where
    answers_first : (j : ℕ) → j ≤ n → answers_after z s (p ++ r) (a ++ b) j ≡ answers_after z s p a j ++ b
    unfolding answers_after
    answers_first zero l = refl
    answers_first (suc j) l =
        ap₂ (λ (v w : List ℕ). sets v (8 * j) w) (answers_first j (omega arith)) (ap (λ (o : Outcome). answer_words o.answer) (same_answered z _ _ (p ++ r) p j j (state_first j (omega arith)) (first-words j l)))
        ∙ sets_left (answers_after z s p a j) b (8 * j) (answer_words (answered z (state_after z s p j) p j).answer) (omega (arith, answer_length (answered z (state_after z s p j) p j).answer, answers_length z s p a j))

    answers_second : (j : ℕ) → answers_after z s (p ++ r) (a ++ b) (n + j) ≡ answers_after z s p a n ++ answers_after z after r b j
    unfolding answers_after
    answers_second zero = ap (answers_after z s (p ++ r) (a ++ b)) (add-zero n) ∙ answers_first n (omega arith)
    answers_second (suc j) =
        let at : 8 * (n + j) ≡ length (answers_after z s p a n) + 8 * j = omega (arith, answers_length z s p a n) in
        ap (answers_after z s (p ++ r) (a ++ b)) (add-suc n j)
        ∙ ap₂ (λ (v w : List ℕ). sets v (8 * (n + j)) w) (answers_second j) (ap (λ (o : Outcome). answer_words o.answer) (same_answered z _ _ (p ++ r) r (n + j) j (state_second j) (second_words j)))
        ∙ ap (λ (k : ℕ). sets (answers_after z s p a n ++ answers_after z after r b j) k (answer_words (answered z (state_after z after r j) r j).answer)) at
        ∙ sets_right (answers_after z s p a n) (answers_after z after r b j) (8 * j) (answer_words (answered z (state_after z after r j) r j).answer)

-- ---- The two batches and the one
module _ (s p r a b : List ℕ) (passed : audit_number s ≡ 0) (p_fits : requests_fit p ≡ true) (all_fit : requests_fit (p ++ r) ≡ true) (a_fits : answers_fit p a ≡ true) (b_fits : answers_fit r b ≡ true) where
  abbrev z : Sizes
  z = sizes_in s

  -- The state between them.
  abbrev between : List ℕ
  between = state_after z s p (length p / 4)

  -- Whole requests.
  first_fours : length p % 4 ≡ 0
  first_fours = eqb-true (length p % 4) 0 (and_both (eqb (length p % 4) 0) (leb (length p) 262144) p_fits).0

  all_fours : length (p ++ r) % 4 ≡ 0
  all_fours = eqb-true (length (p ++ r) % 4) 0 (and_both (eqb (length (p ++ r) % 4) 0) (leb (length (p ++ r)) 262144) all_fit).0

  r_fits : requests_fit r ≡ true
  r_fits =
      let most = leb-true (length (p ++ r)) 262144 (and_both (eqb (length (p ++ r) % 4) 0) (leb (length (p ++ r)) 262144) all_fit).1 in
      and_of (eq-eqb (length r % 4) 0 (omega (arith, first_fours, all_fours, length-append p r))) (le-leb (length r) 262144 (omega (arith, length-append p r)))

  whole : 4 * (length p / 4) ≡ length p
  whole = omega (arith, first_fours)

  count : length (p ++ r) / 4 ≡ length p / 4 + length r / 4
  count = omega (arith, first_fours, length-append p r)

  a_long : length a ≡ 2 * length p
  a_long = eqb-true (length a) (2 * length p) a_fits

  answers_fit_lem : answers_fit (p ++ r) (a ++ b) ≡ true
  answers_fit_lem =
      let b_long = eqb-true (length b) (2 * length r) b_fits in
      eq-eqb (length (a ++ b)) (2 * length (p ++ r)) (omega (arith, length-append p r, length-append a b, a_long))

  second : serving between r b ≡ served 0 (state_after z between r (length r / 4)) (answers_after z between r b (length r / 4))
  second =
      let sound = after_sound z s p (number_sound s passed) (length p / 4) in
      fits_served between r b (sound_number z between sound) r_fits b_fits
      ∙ ap (λ (y : Sizes). served 0 (state_after y between r (length r / 4)) (answers_after y between r b (length r / 4))) (sound_sizes z between sound)

  -- One batch leaves the state that the second one leaves, and the answers of both in a row.
  pub in_pieces : serving s (p ++ r) (a ++ b) ≡ served 0 (serving (serving s p a).state r b).state ((serving s p a).answers ++ (serving (serving s p a).state r b).answers)
  in_pieces =
      fits_served s (p ++ r) (a ++ b) passed all_fit answers_fit_lem
      ∙ ap (λ (k : ℕ). served 0 (state_after z s (p ++ r) k) (answers_after z s (p ++ r) (a ++ b) k)) count
      ∙ ap₂ (served 0) (state_second z s p r (length p / 4) whole (length r / 4)) (answers_second z s p r (length p / 4) whole a b (omega (arith, whole, a_long)) (length r / 4))
      ∙ sym
      (ap (λ (x : Served). served 0 (serving x.state r b).state (x.answers ++ (serving x.state r b).answers)) (fits_served s p a passed p_fits a_fits)
      ∙ ap (λ (y : Served). served 0 y.state (answers_after z s p a (length p / 4) ++ y.answers)) second)
