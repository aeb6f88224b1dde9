-- The 16 requests: how many, where each stands, and which they are.
-- Assumes nothing.
use Prim.Native.Nat.{ℕ, zero, suc, ◌+◌, ◌-◌, ◌*◌, ◌/◌, ◌%◌, ◌<◌, ◌≤◌}
use mathlib.Core.Path.{◌≡◌, refl, sym, ap, ap₂, subst, ◌∙◌}
use mathlib.Core.Option.{some}
use mathlib.Core.Bool.{Bool, true, false, ◌&&◌}
use mathlib.Core.List.{List, [], ◌∷◌, map, flat_map}
use native.Mathlib.Omega.{arith}
use lib.Dec.{eqb, leb, ltb}
use lib.ListN.{length, get_or}
use borrow.Author.Tests.{eqb-true, ltb-true, ltb-false, leb-true}
use Rattle.layout.specs.Bounded.{all}
use Rattle.layout.specs.Places.{one_to}
use Rattle.layout.proofs.BoundedLaws.{all_at, and_both}
use Rattle.calls.specs.Table.{DomainOnly, calls, line_of}
use Rattle.questions.specs.Questions.{well_formed, frames_fit}
use Rattle.questions.proofs.RequestCodeLaws.{uses_domain, uses_frame}
use Rattle.every_list.specs.Standing.{At, Stands, InOrder}
use Rattle.every_list.specs.SmallRequests.{small_requests, before, domains, frames, request, by_domain, by_frame, is_small, passes, small_sizes}
use Rattle.every_list.specs.CodeLists.{request_at}
use Rattle.every_list.proofs.StandingLaws.{at_get_d, at_unique, at_within, at_left, at_right, at_map, at_part}

pub sixteen : length small_requests ≡ 16
unfolding small_requests flat_map
sixteen = refl

-- ---- By its number
each_small : all 16 (λ i. is_small (request_at i)) ≡ true
unfolding all small_requests flat_map calls line_of
each_small = refl

each_after : all 16 (λ j. all j (λ i. before (request_at i) (request_at j))) ≡ true
unfolding all small_requests flat_map before
each_after = refl

is_request : (i : ℕ) (r : List ℕ) → At small_requests i r → (i < 16) × (request_at i ≡ r)
is_request i r h =
    let l : i < length small_requests = at_within small_requests i r h in
    (omega (arith, sixteen), at_unique small_requests i (request_at i) r (at_get_d small_requests i [] l) h)

pub requests_small : (r : List ℕ) → Stands small_requests r → is_small r ≡ true
requests_small r s =
    let k = is_request s.position r s.held in
    ap is_small (sym k.1) ∙ all_at 16 (λ i. is_small (request_at i)) each_small s.position k.0

pub requests_in_order : InOrder (λ r s. before r s ≡ true) small_requests
requests_in_order i j r s h k l =
    let a = is_request i r h in
    let b = is_request j s k in
    let later = all_at 16 (λ j. all j (λ i. before (request_at i) (request_at j))) each_after j b.0 in
    ap₂ before (sym a.1) (sym b.1) ∙ all_at j (λ i. before (request_at i) (request_at j)) later i l

-- A request has four words.
pub request-words : (r : List ℕ) → Stands small_requests r → length r ≡ 4
request-words r s =
    let parts = and_both (eqb (length r) 4 && one_to (get_or r 0 0) 5) _ (requests_small r s) in
    eqb-true (length r) 4 (and_both (eqb (length r) 4) (one_to (get_or r 0 0) 5) parts.0).0

pub request-length : (i : ℕ) → i < 16 → length (request_at i) ≡ 4
request-length i l =
    request-words (request_at i) (record { position = i; held = at_get_d small_requests i [] (omega (arith, sixteen)) })

-- ---- By its call, domain and frame
-- n numbers from a on: number i is a + i.
abbrev from : ℕ → ℕ → List ℕ
from a zero = []
from a (suc n) = a ∷ from (suc a) n

from_at : (a n i c : ℕ) → i < n → c ≡ a + i → At (from a n) i c
from_at a zero i c l e = absurd (omega arith)
from_at a (suc n) zero c l e = ap some (omega (arith, e))
from_at a (suc n) (suc i) c l e = from_at (suc a) n i c (omega arith) (omega (arith, e))

domain_at : (c d : ℕ) → 1 ≤ c → c < 3 → d < 2 → At small_requests ((c - 1) * 2 + d) (request c d 0)
unfolding small_requests
domain_at c d l h k =
    at_left (flat_map by_domain (1 ∷ 2 ∷ [])) (flat_map by_frame (3 ∷ 4 ∷ 5 ∷ [])) ((c - 1) * 2 + d) (request c d 0)
    (at_part by_domain 2 (λ _. refl) (1 ∷ 2 ∷ []) (c - 1) d c (request c d 0) (from_at 1 2 (c - 1) c (omega arith) (omega arith))
    (at_map (λ x. request c x 0) domains d d (from_at 0 2 d d k (omega arith))))

frame_at : (c d f : ℕ) → 3 ≤ c → c < 6 → d < 2 → f < 2 → At small_requests (4 + ((c - 3) * 4 + (d * 2 + f))) (request c d f)
unfolding small_requests flat_map
frame_at c d f g h k l =
    at_right (flat_map by_domain (1 ∷ 2 ∷ [])) (flat_map by_frame (3 ∷ 4 ∷ 5 ∷ [])) ((c - 3) * 4 + (d * 2 + f)) (request c d f)
    (at_part by_frame 4 (λ _. refl) (3 ∷ 4 ∷ 5 ∷ []) (c - 3) (d * 2 + f) c (request c d f) (from_at 3 3 (c - 3) c (omega arith) (omega arith))
    (at_part (λ x. map (λ y. request c x y) frames) 2 (λ _. refl) domains d f d (request c d f) (from_at 0 2 d d k (omega arith))
    (at_map (λ y. request c d y) frames f f (from_at 0 2 f f l (omega arith)))))

-- ---- The code's arithmetic
at_number : (i j : ℕ) (r : List ℕ) → j ≡ i → At small_requests j r → r ≡ request_at i
at_number i j r e h =
    let here : At small_requests i r = subst (λ (k : ℕ). At small_requests k r) e h in
    at_unique small_requests i r (request_at i) here (at_get_d small_requests i [] (at_within small_requests i r here))

pub request_low : (i c d : ℕ) → i < 4 → c ≡ 1 + i / 2 → d ≡ i % 2 → request c d 0 ≡ request_at i
request_low i c d h call domain =
    at_number i ((c - 1) * 2 + d) (request c d 0) (omega arith) (domain_at c d (omega arith) (omega arith) (omega arith))

pub request_high : (i c d f : ℕ) → 4 ≤ i → i < 16 → c ≡ 2 + i / 4 → d ≡ i / 2 % 2 → f ≡ i % 2 → request c d f ≡ request_at i
request_high i c d f l h call domain frame =
    at_number i (4 + ((c - 3) * 4 + (d * 2 + f))) (request c d f) (omega arith)
    (frame_at c d f (omega arith) (omega arith) (omega arith) (omega arith))

-- ---- Each that passes is one of them
pub four_words : (r : List ℕ) → length r ≡ 4 → r ≡ get_or r 0 0 ∷ get_or r 1 0 ∷ get_or r 2 0 ∷ get_or r 3 0 ∷ []
four_words [] e = absurd (omega arith)
four_words (c ∷ []) e = absurd (omega arith)
four_words (c ∷ d ∷ []) e = absurd (omega arith)
four_words (c ∷ d ∷ f ∷ []) e = absurd (omega arith)
four_words (c ∷ d ∷ f ∷ n ∷ []) e = refl
four_words (c ∷ d ∷ f ∷ n ∷ x ∷ r) e = absurd (omega arith)

-- Of calls 1 and 2, and of calls 3, 4 and 5.
domain_stands : (c d f n : ℕ) → 1 ≤ c → c < 3 → passes small_sizes c d f n ≡ true → Stands small_requests (c ∷ d ∷ f ∷ n ∷ [])
domain_stands c d f n l h p =
    let asked = subst (λ u. (well_formed u f n && ltb d 2 && frames_fit small_sizes u f n) ≡ true) (sym (uses_domain c l h)) p in
    let front = and_both (well_formed DomainOnly f n) (ltb d 2) (and_both (well_formed DomainOnly f n && ltb d 2) true asked).0 in
    let unused = and_both (eqb f 0) (eqb n 0) front.0 in
    record {
      position = (c - 1) * 2 + d;
      held = rw (eqb-true f 0 unused.0, eqb-true n 0 unused.1) (domain_at c d l h (ltb-true d 2 front.1));
    }

frame_stands : (c d f n : ℕ) → 3 ≤ c → c < 6 → passes small_sizes c d f n ≡ true → Stands small_requests (c ∷ d ∷ f ∷ n ∷ [])
frame_stands c d f n l h p =
    let asked = subst (λ u. (well_formed u f n && ltb d 2 && frames_fit small_sizes u f n) ≡ true) (sym (uses_frame c l h)) p in
    let both = and_both (eqb n 0 && ltb d 2) (ltb f 2) asked in
    let front = and_both (eqb n 0) (ltb d 2) both.0 in
    record {
      position = 4 + ((c - 3) * 4 + (d * 2 + f));
      held = rw (eqb-true n 0 front.0) (frame_at c d f l h (ltb-true d 2 front.1) (ltb-true f 2 both.1));
    }

pub small_stands : (r : List ℕ) → is_small r ≡ true → Stands small_requests r
small_stands r h =
    let c = get_or r 0 0 in
    let d = get_or r 1 0 in
    let f = get_or r 2 0 in
    let n = get_or r 3 0 in
    let parts = and_both (eqb (length r) 4 && one_to c 5) (passes small_sizes c d f n) h in
    let shape = and_both (eqb (length r) 4) (one_to c 5) parts.0 in
    let range = and_both (leb 1 c) (leb c 5) shape.1 in
    subst (λ x. Stands small_requests x) (sym (four_words r (eqb-true (length r) 4 shape.0)))
    (by_call c d f n (leb-true 1 c range.0) (leb-true c 5 range.1) parts.1 (ltb c 3) refl)
  where
    by_call : (c d f n : ℕ) → 1 ≤ c → c ≤ 5 → passes small_sizes c d f n ≡ true → (b : Bool) → ltb c 3 ≡ b → Stands small_requests (c ∷ d ∷ f ∷ n ∷ [])
    by_call c d f n l h p true e = domain_stands c d f n l (ltb-true c 3 e) p
    by_call c d f n l h p false e = frame_stands c d f n (ltb-false c 3 e) (omega arith) p
