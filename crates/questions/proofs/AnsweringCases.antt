-- A request by its cases: refused, or a call of the table whose questions are passed.
-- Assumes nothing.
use Prim.Native.Nat.{ℕ, ◌+◌, ◌-◌, ◌<◌}
use mathlib.Core.Path.{◌≡◌, sym, subst, ◌∙◌}
use mathlib.Core.List.{List}
use mathlib.Core.Bool.{true, false, ◌&&◌, false≢true}
use native.Mathlib.Omega.{arith}
use borrow.Author.Tests.{eqb-true, eqb-false, ne_eqb, ltb-true, leb-true}
use lib.Dec.{leb, ltb}
use Rattle.layout.specs.declared.Sizes.{Sizes}
use Rattle.layout.specs.Places.{get, live, one_to}
use Rattle.board.specs.Holes.{outside}
use Rattle.sound.specs.Sound.{Live}
use Rattle.layout.proofs.BoundedLaws.{and_both, all_at}
use Rattle.sound.specs.Sentences.{is_live}
use Rattle.pages.specs.Answers.{Outcome, refuse}
use Rattle.calls.specs.Table.{Uses, DomainOnly, OneFrame, FrameAndCount, NoCall, Call, call_of}
use Rattle.pages.proofs.CaseLaws.{by_test}
use Rattle.calls.proofs.TableLaws.{Legal, OutsideHoles, Asked}
use Rattle.questions.specs.Questions.{well_formed, domain_fits, frames_fit, frames_outside, liveness_refusal, refusal_of, unless_refused, asking, answering}

-- Question 9, as facts.
pub legal_facts : (z : Sizes) (u : Uses) (f n : ℕ) → frames_fit z u f n ≡ true → Legal z u f n
legal_facts z DomainOnly f n e = tt
legal_facts z OneFrame f n e = ltb-true f z.frames e
legal_facts z FrameAndCount f n e =
    let parts = and_both (ltb f z.frames && one_to n (z.frames - f)) _ e in
    let both = and_both (ltb f z.frames) (one_to n (z.frames - f)) parts.0 in
    let range = and_both (leb 1 n) (leb n (z.frames - f)) both.1 in
    let low = leb-true 1 n range.0 in
    let high = leb-true n (z.frames - f) range.1 in
    let less = ltb-true f z.frames both.0 in
    (low, omega arith, omega (arith, leb-true n _ parts.1))
legal_facts z NoCall f n e = absurd (false≢true e)

-- Question 16, as facts.
pub outside_facts : (s : List ℕ) (u : Uses) (f n : ℕ) → frames_outside s u f n ≡ true → OutsideHoles s u f n
outside_facts s DomainOnly f n e = tt
outside_facts s OneFrame f n e = e
outside_facts s FrameAndCount f n e = all_at n (λ i. outside s (f + i)) e
outside_facts s NoCall f n e = tt

-- ---- Each number by the question that is not passed
module _ (z : Sizes) (s : List ℕ) (k : Call) (d f n : ℕ) where
  pub number_7 : well_formed k.uses f n ≡ false → refusal_of z s k d f n ≡ 7
  unfolding refusal_of
  number_7 e = rw e

  module _ (e : well_formed k.uses f n ≡ true) where
    pub number_8 : domain_fits z d ≡ false → refusal_of z s k d f n ≡ 8
    unfolding refusal_of
    number_8 above = rw (e, above)

    module _ (below : domain_fits z d ≡ true) where
      pub number_9 : frames_fit z k.uses f n ≡ false → refusal_of z s k d f n ≡ 9
      unfolding refusal_of
      number_9 illegal = rw (e, below, illegal)

      module _ (legal : frames_fit z k.uses f n ≡ true) where
        pub number_16 : frames_outside s k.uses f n ≡ false → refusal_of z s k d f n ≡ 16
        unfolding refusal_of
        number_16 inside = rw (e, below, legal, inside)

        pub liveness_last : frames_outside s k.uses f n ≡ true → refusal_of z s k d f n ≡ liveness_refusal k.opens (is_live z s d)
        unfolding refusal_of
        liveness_last clear = rw (e, below, legal, clear)

  -- Refused with it, or done.
  pub asking_refused : (j : ℕ) → j ≡ refusal_of z s k d f n → (j ≡ 0 → ⊥) → refuse j s ≡ asking z s k d f n
  unfolding asking
  asking_refused j is some = rw (← is, ne_eqb j 0 some)

  pub asking_done : refusal_of z s k d f n ≡ 0 → k.does z s d f n ≡ asking z s k d f n
  unfolding asking
  asking_done passed = rw passed

-- ---- The questions of call k, each with what was answered before it
module _ (z : Sizes) (s : List ℕ) (k : Call) (d f n : ℕ) (P : ℕ → Type 0) where
  pub record Questions : Type 0 where
    pub no_7 : well_formed k.uses f n ≡ false → P 7
    pub no_8 : well_formed k.uses f n ≡ true → ltb d z.domains ≡ false → P 8
    pub no_9 : well_formed k.uses f n ≡ true → d < z.domains → frames_fit z k.uses f n ≡ false → P 9
    pub no_16 : well_formed k.uses f n ≡ true → d < z.domains → Legal z k.uses f n → frames_outside s k.uses f n ≡ false → P 16
    pub no_10 : well_formed k.uses f n ≡ true → d < z.domains → Legal z k.uses f n → OutsideHoles s k.uses f n → k.opens ≡ true → Live z s d → P 10
    pub no_11 : well_formed k.uses f n ≡ true → d < z.domains → Legal z k.uses f n → OutsideHoles s k.uses f n → k.opens ≡ false → (Live z s d → ⊥) → P 11
    pub passed : well_formed k.uses f n ≡ true → Asked z s k d f n → P 0

  pub refusal_by : Questions → P (refusal_of z s k d f n)
  unfolding refusal_of
  refusal_by h =
      by_test P (well_formed k.uses f n) _ _
      (λ well.
      by_test P (ltb d z.domains) _ _
      (λ below.
      let l = ltb-true d z.domains below in
      by_test P (frames_fit z k.uses f n) _ _
      (λ legal.
      let facts = legal_facts z k.uses f n legal in
      by_test P (frames_outside s k.uses f n) _ _
      (λ clear.
      let out = outside_facts s k.uses f n clear in
      by_test P k.opens _ _
      (λ opens.
      by_test P (is_live z s d) _ _
      (λ alive. h.no_10 well l facts out opens (eqb-true (get z s (live d)) 1 alive))
      (λ dead. h.passed well (record { below = l; alive = λ no. absurd (false≢true (sym no ∙ opens)); dead = λ _. eqb-false (get z s (live d)) 1 dead; legal = facts; in_no_hole = out })))
      (λ others.
      by_test P (is_live z s d) _ _
      (λ alive. h.passed well (record { below = l; alive = λ _. eqb-true (get z s (live d)) 1 alive; dead = λ no. absurd (false≢true (sym others ∙ no)); legal = facts; in_no_hole = out }))
      (λ dead. h.no_11 well l facts out others (eqb-false (get z s (live d)) 1 dead))))
      (λ inside. h.no_16 well l facts inside))
      (λ illegal. h.no_9 well l illegal))
      (λ above. h.no_8 well above))
      (λ malformed. h.no_7 malformed)

-- What is known of a request that passes them.
pub all_passed : (z : Sizes) (s : List ℕ) (k : Call) (d f n : ℕ) → refusal_of z s k d f n ≡ 0 → (well_formed k.uses f n ≡ true) × Asked z s k d f n
all_passed z s k d f n =
    refusal_by z s k d f n (λ j. j ≡ 0 → (well_formed k.uses f n ≡ true) × Asked z s k d f n)
    (record { no_7 = λ _ e. absurd (omega arith); no_8 = λ _ _ e. absurd (omega arith); no_9 = λ _ _ _ e. absurd (omega arith); no_16 = λ _ _ _ _ e. absurd (omega arith); no_10 = λ _ _ _ _ _ _ e. absurd (omega arith); no_11 = λ _ _ _ _ _ _ e. absurd (omega arith); passed = λ well a _. (well, a) })

pub asking_by : (z : Sizes) (s : List ℕ) (k : Call) (d f n : ℕ) (P : Outcome → Type 0) → Questions z s k d f n (λ j. P (unless_refused j s (k.does z s d f n))) → P (asking z s k d f n)
unfolding asking
asking_by z s k d f n P = refusal_by z s k d f n (λ j. P (unless_refused j s (k.does z s d f n)))

module _ (z : Sizes) (s : List ℕ) (d f n : ℕ) (P : Outcome → Type 0) (refused : (j : ℕ) → P (refuse j s)) where
  -- A request with call word c.
  pub answering_cases : (c : ℕ) → (Asked z s (call_of c) d f n → P ((call_of c).does z s d f n)) → P (answering z s c d f n)
  answering_cases c done =
      asking_by z s (call_of c) d f n P
      (record { no_7 = λ _. refused 7; no_8 = λ _ _. refused 8; no_9 = λ _ _ _. refused 9; no_16 = λ _ _ _ _. refused 16; no_10 = λ _ _ _ _ _ _. refused 10; no_11 = λ _ _ _ _ _ _. refused 11; passed = λ _. done })

  -- The same, where the call word is known.
  pub answering_as : (c k : ℕ) → c ≡ k → (Asked z s (call_of k) d f n → P ((call_of k).does z s d f n)) → P (answering z s c d f n)
  answering_as c k is done = subst (λ (x : ℕ). P (answering z s x d f n)) (sym is) (answering_cases k done)
