-- Demand 3, of each way to ask: what is seen of an answer, how it looks to the domain that asks, and that answers that are seen the same agree. A record for each case of `Asked`.
-- Assumes nothing.
use Prim.Native.Nat.{ℕ, zero, suc, ◌-◌, ◌%◌, ◌^◌, ◌<◌}
use mathlib.Core.Path.{◌≡◌, refl, sym, ap, ◌∙◌}
use mathlib.Core.List.{List, [], ◌∷◌}
use mathlib.Core.Bool.{Bool, true, false, ◌&&◌, ◌||◌, false≢true}
use native.Mathlib.Omega.{arith}
use lib.Dec.{eqb, leb}
use lib.ListN.{get_or}
use Rattle.layout.specs.declared.Sizes.{Sizes}
use Rattle.layout.proofs.BoundedLaws.{and_both}
use Rattle.questions.specs.Questions.{frames_outside}
use Rattle.histories.specs.Histories.{Asked, request, Heard, word, Agree}
use Rattle.histories.proofs.View.{View, Look, seen}
use Rattle.histories.proofs.OwnRuns.{number_seen}
use Rattle.histories.proofs.AnsweringApart.{answer_view}

abbrev pub answered : Asked → List ℕ → Heard
answered a x = record { asked = a; answer = x }

pub record AskedApart (a : Asked) : Type 0 where
  -- What the domain may compare of an answer: no number of a TreeLing.
  pub sees : List ℕ → List ℕ
  -- What it is shown, and its view then: of the sizes, the words with the holes, and its view.
  pub looks : Sizes → List ℕ → View → Look
  pub agrees : (x y : List ℕ) → sees x ≡ sees y → Agree (answered a x) (answered a y)

-- ---- A request of a batch
-- What is not a path is seen whole; of a path, the words within the TreeLing.
abbrev masked : List ℕ → List ℕ
masked a = get_or a 0 0 ∷ get_or a 1 0 ∷ 0 ∷ get_or a 3 0 % 8 ∷ get_or a 4 0 % 64 ∷ get_or a 5 0 % 512 ∷ get_or a 6 0 ∷ get_or a 7 0 ∷ []

-- A fact of each of the eight words.
eight : (P : ℕ → Type 0) → P 0 → P 1 → P 2 → P 3 → P 4 → P 5 → P 6 → P 7 → (i : ℕ) → i < 8 → P i
eight P p0 p1 p2 p3 p4 p5 p6 p7 zero l = p0
eight P p0 p1 p2 p3 p4 p5 p6 p7 (suc zero) l = p1
eight P p0 p1 p2 p3 p4 p5 p6 p7 (suc (suc zero)) l = p2
eight P p0 p1 p2 p3 p4 p5 p6 p7 (suc (suc (suc zero))) l = p3
eight P p0 p1 p2 p3 p4 p5 p6 p7 (suc (suc (suc (suc zero)))) l = p4
eight P p0 p1 p2 p3 p4 p5 p6 p7 (suc (suc (suc (suc (suc zero))))) l = p5
eight P p0 p1 p2 p3 p4 p5 p6 p7 (suc (suc (suc (suc (suc (suc zero)))))) l = p6
eight P p0 p1 p2 p3 p4 p5 p6 p7 (suc (suc (suc (suc (suc (suc (suc zero))))))) l = p7
eight P p0 p1 p2 p3 p4 p5 p6 p7 (suc (suc (suc (suc (suc (suc (suc (suc i)))))))) l = absurd (omega arith)

-- The answer to a call is a path.
abbrev is_path : ℕ → List ℕ → Bool
is_path c a = (eqb c 3 || eqb c 5) && eqb (get_or a 0 0) 0

-- Answers x and y to call c, seen the same.
module _ (c : ℕ) (x y : List ℕ) (same : seen c x ≡ seen c y) where
  number_same : get_or x 0 0 ≡ get_or y 0 0
  number_same = sym (number_seen c x) ∙ ap (λ (a : List ℕ). get_or a 0 0) same ∙ number_seen c y

  path_same : is_path c x ≡ is_path c y
  path_same = ap (λ (n : ℕ). (eqb c 3 || eqb c 5) && eqb n 0) number_same

  seen_whole_lem : (a : List ℕ) → is_path c a ≡ false → seen c a ≡ a
  unfolding seen
  seen_whole_lem a e = rw e refl

  seen_masked : (a : List ℕ) → is_path c a ≡ true → seen c a ≡ masked a
  unfolding seen
  seen_masked a e = rw e refl

  whole_same : is_path c x ≡ false → x ≡ y
  whole_same e = sym (seen_whole_lem x e) ∙ same ∙ seen_whole_lem y (sym path_same ∙ e)

  masked_same : is_path c x ≡ true → (i : ℕ) → get_or (masked x) i 0 ≡ get_or (masked y) i 0
  masked_same e i = ap (λ (a : List ℕ). get_or a i 0) (sym (seen_masked x e) ∙ same ∙ seen_masked y (sym path_same ∙ e))

  -- Of a path: a word that names no node is equal, and a node within its TreeLing.
  path_equal : is_path c x ≡ true → (i : ℕ) → i < 8 → (leb 2 i && leb i 5) ≡ false → get_or x i 0 ≡ get_or y i 0
  path_equal e =
      let m = masked_same e in
      eight (λ i. (leb 2 i && leb i 5) ≡ false → get_or x i 0 ≡ get_or y i 0)
      (λ _. m 0) (λ _. m 1) (λ e. node e) (λ e. node e) (λ e. node e) (λ e. node e) (λ _. m 6) (λ _. m 7)
    where
      node : {P : Type 0} → true ≡ false → P
      node e = absurd (false≢true (sym e))

  path_within : is_path c x ≡ true → (i : ℕ) → i < 8 → get_or x i 0 % 8 ^ (i - 1 - 1) ≡ get_or y i 0 % 8 ^ (i - 1 - 1)
  path_within e =
      let m = masked_same e in
      eight (λ i. get_or x i 0 % 8 ^ (i - 1 - 1) ≡ get_or y i 0 % 8 ^ (i - 1 - 1))
      (omega arith) (omega arith) (omega arith) (m 3) (m 4) (m 5) (ap (λ (k : ℕ). k % 4096) (m 6)) (ap (λ (k : ℕ). k % 32768) (m 7))

  word_equal : (i : ℕ) → i < 8 → (b : Bool) → is_path c x ≡ b → (b && leb 2 i && leb i 5) ≡ false → get_or x i 0 ≡ get_or y i 0
  word_equal i l true is e = path_equal is i l e
  word_equal i l false is e = ap (λ (a : List ℕ). get_or a i 0) (whole_same is)

pub request_agrees : (q x y : List ℕ) → seen (word q 0) x ≡ seen (word q 0) y → Agree (answered (request q) x) (answered (request q) y)
request_agrees q x y same =
    let c = word q 0 in
    record {
      both = λ i l. ap (λ (b : Bool). b && leb 2 i && leb i 5) (path_same c x y same);
      equal = λ i l e. word_equal c x y same i l (is_path c x) refl e;
      within = λ i l e. path_within c x y same (and_both (is_path c x) (leb 2 i) (and_both (is_path c x && leb 2 i) (leb i 5) e).0).0 i l;
    }

abbrev pub request_apart : (q : List ℕ) → AskedApart (request q)
request_apart q =
    record {
      sees = seen (word q 0);
      looks = λ z o v. answer_view z (frames_outside o) v (word q 0) (word q 2) (word q 3);
      agrees = request_agrees q;
    }

-- ---- Each case
abbrev pub asked_apart : (a : Asked) → AskedApart a
asked_apart (request q) = request_apart q
