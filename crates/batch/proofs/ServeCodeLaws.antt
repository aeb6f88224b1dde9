-- Laws of the code that serves a batch: the range of a page's leaf ID, one request more, and the batch's questions.
-- Assumes nothing.
use Prim.Native.Nat.{ℕ, ◌+◌, ◌*◌, ◌/◌, ◌%◌, ◌≤◌}
use mathlib.Core.Path.{◌≡◌, refl, sym, ap, subst, ◌∙◌}
use mathlib.Core.Bool.{true, false}
use mathlib.Core.List.{List, [], ◌∷◌}
use native.Mathlib.Numerals.{add-one}
use native.Mathlib.Omega.{arith}
use borrow.Author.Tests.{leb-true, eq-eqb, ne_eqb}
use lib.Dec.{eqb, leb}
use lib.ListN.{length, get_or}
use lib.Seq.{sets}
use Rattle.layout.specs.declared.Sizes.{Sizes}
use Rattle.leaf_map.specs.declared.LeafId.{LeafId}
use Rattle.geometry.specs.Geometry.{path_of}
use Rattle.leaf_map.specs.LeafIds.{LeafFits, treeling_of, slot_of, position_of_leaf}
use Rattle.layout.specs.Outcomes.{outcome}
use Rattle.sound.specs.Contents.{sizes_in}
use Rattle.sound.specs.Audit.{audit_number}
use Rattle.audit.specs.declared.Unsound.{Unsound}
use Rattle.audit.specs.declared.Unsound.TheVariants.{Contents, Bodies}
use Rattle.audit.specs.Numbers.{unsound_number}
use Rattle.sound.specs.Sound.{Sound}
use Rattle.sound.proofs.TestLaws.{and_right}
use Rattle.pages.specs.Answers.{Answer, Refused, Finished, Page, Fill, Outcome, answer_words}
use Rattle.calls.specs.CodeFits.{PageFits}
use Rattle.questions.specs.Questions.{answering}
use Rattle.requests.proofs.AnsweringSound.{answering_fits}
use Rattle.batch.specs.Batch.{request_word, requests_fit, answered, state_after, answers_after, served, serving}

-- ---- The leaf ID of an answer
-- The answer to a request fits.
pub answer_fits : (z : Sizes) (s r : List ℕ) (a : Answer) (c d f n : ℕ) → Sound z s → outcome a r ≡ answering z s c d f n → PageFits a
answer_fits z s r a c d f n h is = subst (λ (o : Outcome). PageFits o.answer) (sym is) (answering_fits z s c d f n h)

-- ---- The words of an answer
module _ (a : Answer) where
  pub refused_words : (n : ℕ) → a ≡ Refused n → n ∷ 0 ∷ 0 ∷ 0 ∷ 0 ∷ 0 ∷ 0 ∷ 0 ∷ [] ≡ answer_words a
  unfolding answer_words
  refused_words n e = ap answer_words (sym e)

  pub finished_words : (pages : ℕ) → a ≡ Finished pages → 0 ∷ 0 ∷ 0 ∷ 0 ∷ 0 ∷ 0 ∷ 0 ∷ pages ∷ [] ≡ answer_words a
  unfolding answer_words
  finished_words pages e = ap answer_words (sym e)

  pub fill_words : (quotient remainder slots : ℕ) → a ≡ Fill quotient remainder slots → 0 ∷ quotient ∷ remainder ∷ slots ∷ 0 ∷ 0 ∷ 0 ∷ 0 ∷ [] ≡ answer_words a
  unfolding answer_words
  fill_words quotient remainder slots e = ap answer_words (sym e)

  module _ (id : LeafId) (rank pages : ℕ) (e : a ≡ Page id rank pages) where
    pub page_range : PageFits a → (1 ≤ id.0) × LeafFits 4096 id.0
    page_range h = subst (λ (b : Answer). PageFits b) e h

    pub page_words : (t s i : ℕ) (nodes : List ℕ) → t ≡ treeling_of id.0 → s ≡ slot_of id.0 → i ≡ position_of_leaf id.0 → nodes ≡ path_of t s
        → 0 ∷ rank ∷ get_or nodes 0 0 ∷ get_or nodes 1 0 ∷ get_or nodes 2 0 ∷ get_or nodes 3 0 ∷ i ∷ pages ∷ [] ≡ answer_words a
    unfolding answer_words
    page_words t s i nodes t_is s_is i_is nodes_are = rw (nodes_are, t_is, s_is, i_is) (ap answer_words (sym e))

-- ---- One request more
module _ (z : Sizes) (s q b : List ℕ) where
  pub none_served : (s ≡ state_after z s q 0) × (b ≡ answers_after z s q b 0)
  unfolding state_after answers_after
  none_served = (refl, refl)

  module _ (k : ℕ) (t m r v w : List ℕ) (a : Answer) (c d f n : ℕ) (before : t ≡ state_after z s q k) (is : outcome a r ≡ answering z t c d f n)
      (first : (c ≡ request_word q k 0) × (d ≡ request_word q k 1)) (rest : (f ≡ request_word q k 2) × (n ≡ request_word q k 3)) where
    one : outcome a r ≡ answered z (state_after z s q k) q k
    one =
        let c_is = first.0 in
        let d_is = first.1 in
        let f_is = rest.0 in
        let n_is = rest.1 in
        cc

    pub state_next : r ≡ state_after z s q (k + 1)
    unfolding state_after
    state_next = rw add-one (ap (λ (o : Outcome). o.words) one)

    pub answers_next : m ≡ answers_after z s q b k → w ≡ answer_words a → v ≡ sets m (8 * k) w → v ≡ answers_after z s q b (k + 1)
    unfolding answers_after
    answers_next so_far words_are written =
        let last : answer_words a ≡ answer_words (answered z (state_after z s q k) q k).answer = ap (λ (o : Outcome). answer_words o.answer) one in
        rw add-one (written ∙ ap (λ (l : List ℕ). sets l (8 * k) w) so_far ∙ ap (λ (l : List ℕ). sets (answers_after z s q b k) (8 * k) l) (words_are ∙ last))

-- ---- The batch's questions
module _ (q : List ℕ) where
  pub few : requests_fit q ≡ true → length q ≤ 262144
  few fit = leb-true (length q) 262144 (and_right (eqb (length q % 4) 0) (leb (length q) 262144) fit)

-- No question has the number 0.
pub unsound_some : (u : Unsound) → unsound_number u ≡ 0 → ⊥
unsound_some Contents e = omega arith
unsound_some Bodies e = omega arith

module _ (s q b : List ℕ) where
  pub not_passed : (n : ℕ) → n ≡ audit_number s → (n ≡ 0 → ⊥) → served n s b ≡ serving s q b
  unfolding serving
  not_passed n is some = simp (ne_eqb (audit_number s) 0 (λ e. some (is ∙ e))) (ap (λ (k : ℕ). served k s b) is)

  module _ (passed : audit_number s ≡ 0) where
    pub not_fitting : requests_fit q ≡ false → served 5 s b ≡ serving s q b
    unfolding serving
    not_fitting other = simp (eq-eqb (audit_number s) 0 passed, other)

    module _ (fit : requests_fit q ≡ true) where
      pub not_twice : (length b ≡ 2 * length q → ⊥) → served 6 s b ≡ serving s q b
      unfolding serving
      not_twice other = simp (eq-eqb (audit_number s) 0 passed, fit, ne_eqb (length b) (2 * length q) other)

      pub all-served : length b ≡ 2 * length q → (t v : List ℕ) → t ≡ state_after (sizes_in s) s q (length q / 4) → v ≡ answers_after (sizes_in s) s q b (length q / 4) → served 0 t v ≡ serving s q b
      unfolding serving
      all-served twice t v state_is answers_are =
          simp (eq-eqb (audit_number s) 0 passed, fit, eq-eqb (length b) (2 * length q) twice)
          (ap (λ (x : List ℕ). served 0 x v) state_is ∙ ap (λ (y : List ℕ). served 0 (state_after (sizes_in s) s q (length q / 4)) y) answers_are)
