-- The lists of each length and of all lengths: how many, what stands where, and by which number.
-- Assumes nothing.
use Prim.Native.Nat.{ℕ, zero, suc, ◌+◌, ◌*◌, ◌/◌, ◌%◌, ◌^◌, ◌<◌, ◌≤◌}
use mathlib.Core.Path.{◌≡◌, refl, sym, ap, ap₂, subst, ◌∙◌}
use mathlib.Core.Option.{some-injective}
use mathlib.Core.Bool.{Bool, true, false, false≢true}
use mathlib.Core.List.{List, [], ◌∷◌, ◌++◌, map, flatten}
use mathlib.Core.Logic.{◌⊎◌, inl, inr, ⊎_elim}
use native.Mathlib.Nat.{zero-add, le_of_suc-le-suc, eq-or-lt_of_le, mod-one, mod-lt, mod-eq_of_lt, pow-succ'}
use native.Mathlib.Omega.{arith}
use lib.Arith.{mod-mul, digits_lt}
use lib.Dec.{lit<, ltb}
use lib.ListN.{length, get_elem?, length-append, length-map}
use borrow.Author.Tests.{ltb-true, ltb-false}
use Rattle.every_list.specs.Standing.{At, Stands, NoneTwice, InOrder, Each}
use Rattle.every_list.specs.SmallRequests.{small_requests, before}
use Rattle.every_list.specs.SmallLists.{lists_of, lists_to, small_lists, Precedes}
use Rattle.every_list.specs.CodeLists.{request_at, ranked, shorter}
use Rattle.every_list.proofs.StandingLaws.{Right, at_unique, at_within, at_left, at_right, at_joined, at_map, at_mapped, at_part, at_parted, at_get_d, at_none, length_parts}
use Rattle.every_list.proofs.OrderLaws.{before_not_self, before_behind, before_same, order_once}
use Rattle.every_list.proofs.RequestLaws.{sixteen, requests_in_order}

some_lists : (n : ℕ) → 0 < 16 ^ n
some_lists zero = lit< tt
some_lists (suc n) =
    let some : 0 < 16 ^ n = some_lists n in
    rw (pow-succ' 16 n) (omega arith)

-- ---- Lists of one length
abbrev headed : ℕ → List ℕ → List (List (List ℕ))
headed n r = map (λ l. r ∷ l) (lists_of n)

lists_length : (n : ℕ) → length (lists_of n) ≡ 16 ^ n
unfolding lists_of
lists_length zero = refl
lists_length (suc n) =
    length_parts (headed n) (16 ^ n) (λ r. length-map (lists_of n) (λ l. r ∷ l) ∙ lists_length n) small_requests
    ∙ ap (λ (k : ℕ). k * 16 ^ n) sixteen
    ∙ sym (pow-succ' 16 n)

headed_length : (n : ℕ) (r : List ℕ) → length (headed n r) ≡ 16 ^ n
headed_length n r = length-map (lists_of n) (λ l. r ∷ l) ∙ lists_length n

lists_next : (n i j : ℕ) (r : List ℕ) (l : List (List ℕ)) → At small_requests i r → At (lists_of n) j l → At (lists_of (suc n)) (i * 16 ^ n + j) (r ∷ l)
unfolding lists_of
lists_next n i j r l h k =
    at_part (headed n) (16 ^ n) (headed_length n) small_requests i j r (r ∷ l) h (at_map (λ t. r ∷ t) (lists_of n) j l k)

-- A list that is not empty, by its first request and the rest.
record Split (n k : ℕ) (l : List (List ℕ)) : Type 0 where
  first : List ℕ
  rest : List (List ℕ)
  i : ℕ
  j : ℕ
  place : k ≡ i * 16 ^ n + j
  whole : first ∷ rest ≡ l
  first_at : At small_requests i first
  rest_at : At (lists_of n) j rest

lists_split : (n k : ℕ) (l : List (List ℕ)) → At (lists_of (suc n)) k l → Split n k l
unfolding lists_of
lists_split n k l h =
    let p = at_parted (headed n) (16 ^ n) (headed_length n) small_requests k l h in
    let m = at_mapped (λ t. p.of ∷ t) (lists_of n) p.rest l p.within in
    record {
      first = p.of;
      rest = m.of;
      i = p.part;
      j = p.rest;
      place = p.place;
      whole = m.image;
      first_at = p.held;
      rest_at = m.held;
    }

-- In order of their words.
abbrev Earlier : List (List ℕ) → List (List ℕ) → Type 0
Earlier l m = before (flatten l) (flatten m) ≡ true

-- The first request decides; where it is the same, the others do.
first_decides : (n i j : ℕ) (l m : List (List ℕ)) (s : Split n i l) (t : Split n j m) → s.i < t.i → Earlier l m
unfolding flatten
first_decides n i j l m s t b =
    ap₂ (λ (x y : List (List ℕ)). before (flatten x) (flatten y)) (sym s.whole) (sym t.whole)
    ∙ before_behind s.first t.first (flatten s.rest) (flatten t.rest)
    (requests_in_order s.i t.i s.first t.first s.first_at t.first_at b)

rest_decides : (n i j : ℕ) (l m : List (List ℕ)) (s : Split n i l) (t : Split n j m) → s.i ≡ t.i → Earlier s.rest t.rest → Earlier l m
unfolding flatten
rest_decides n i j l m s t e h =
    let same : s.first ≡ t.first =
    at_unique small_requests t.i s.first t.first (subst (λ (k : ℕ). At small_requests k s.first) e s.first_at) t.first_at in
    ap₂ (λ (x y : List (List ℕ)). before (flatten x) (flatten y)) (sym s.whole) (sym t.whole)
    ∙ ap (λ (r : List ℕ). before (r ++ flatten s.rest) (flatten (t.first ∷ t.rest))) same
    ∙ before_same t.first (flatten s.rest) (flatten t.rest) h

splits_in_order : (n i j : ℕ) (l m : List (List ℕ)) → Split n i l → Split n j m → i < j → InOrder Earlier (lists_of n) → Earlier l m
splits_in_order n i j l m s t earlier order = by_test (ltb s.i t.i) refl (ltb t.i s.i) refl
  where
    by_test : (b : Bool) → ltb s.i t.i ≡ b → (c : Bool) → ltb t.i s.i ≡ c → Earlier l m
    by_test true e c g = first_decides n i j l m s t (ltb-true s.i t.i e)
    by_test false e true g =
        let within : t.j < length (lists_of n) = at_within (lists_of n) t.j t.rest t.rest_at in
        let past : t.i * 16 ^ n + t.j < s.i * 16 ^ n = digits_lt (ltb-true t.i s.i g) (omega (arith, lists_length n)) in
        absurd (omega (arith, s.place, t.place))
    by_test false e false g =
        let same : s.i ≡ t.i = omega (arith, ltb-false s.i t.i e, ltb-false t.i s.i g) in
        let rest_earlier : s.j < t.j = omega (arith, s.place, t.place, ap (λ (k : ℕ). k * 16 ^ n) same) in
        rest_decides n i j l m s t same (order s.j t.j s.rest t.rest s.rest_at t.rest_at rest_earlier)

lists_in_order : (n : ℕ) → InOrder Earlier (lists_of n)
unfolding lists_of
lists_in_order zero i zero l m h k b = absurd (omega arith)
lists_in_order zero i (suc j) l m h k b = absurd (at_none j m k)
lists_in_order (suc n) i j l m h k b =
    splits_in_order n i j l m (lists_split n i l h) (lists_split n j m k) b (lists_in_order n)

-- Each is a list of n of the requests, and each such list is there.
lists_made : (n k : ℕ) (l : List (List ℕ)) → At (lists_of n) k l → (length l ≡ n) × Each (Stands small_requests) l
unfolding lists_of
lists_made zero zero l h =
    subst (λ x. (length x ≡ 0) × Each (Stands small_requests) x) (some-injective [] l h) (refl, tt)
lists_made zero (suc k) l h = absurd (at_none k l h)
lists_made (suc n) k l h =
    let s = lists_split n k l h in
    let r = lists_made n s.j s.rest s.rest_at in
    subst (λ x. (length x ≡ suc n) × Each (Stands small_requests) x) s.whole
    (ap suc r.0, (record { position = s.i; held = s.first_at }, r.1))

pub lists_all : (l : List (List ℕ)) → Each (Stands small_requests) l → Stands (lists_of (length l)) l
unfolding lists_of
lists_all [] h = record { position = 0; held = refl }
lists_all (r ∷ l) h =
    let s = lists_all l h.1 in
    record {
      position = h.0.position * 16 ^ length l + s.position;
      held = lists_next (length l) h.0.position s.position r l h.0.held s.held;
    }

-- Two of one length.
alike : (n i j : ℕ) (l m : List (List ℕ)) → At (lists_of n) i l → At (lists_of n) j m → i < j → Precedes l m
alike n i j l m h k b =
    inr ((lists_made n i l h).0 ∙ sym (lists_made n j m k).0, lists_in_order n i j l m h k b)

-- ---- Lists of every length up to n
pub to_length : (n : ℕ) → length (lists_to n) ≡ shorter (suc n)
unfolding lists_to shorter
to_length zero = lists_length zero
to_length (suc n) = length-append (lists_to n) (lists_of (suc n)) ∙ ap₂ ◌+◌ (to_length n) (lists_length (suc n))

-- A list of length m stands behind all shorter ones.
pub to_at : (n m k : ℕ) (l : List (List ℕ)) → m ≤ n → At (lists_of m) k l → At (lists_to n) (shorter m + k) l
unfolding lists_to shorter
to_at zero zero k l b h = ap (λ (i : ℕ). get_elem? (lists_of zero) i) (zero-add k) ∙ h
to_at zero (suc m) k l b h = absurd (omega arith)
to_at (suc n) m k l b h = ⊎_elim last (earlier (λ b. to_at n m k l b h)) (eq-or-lt_of_le b)
  where
    last : m ≡ suc n → At (lists_to (suc n)) (shorter m + k) l
    last e =
        ap (λ (i : ℕ). get_elem? (lists_to n ++ lists_of (suc n)) (i + k)) (ap shorter e ∙ sym (to_length n))
        ∙ at_right (lists_to n) (lists_of (suc n)) k l (subst (λ (i : ℕ). At (lists_of i) k l) e h)

    earlier : (m ≤ n → At (lists_to n) (shorter m + k) l) → m < suc n → At (lists_to (suc n)) (shorter m + k) l
    earlier there b = at_left (lists_to n) (lists_of (suc n)) (shorter m + k) l (there (le_of_suc-le-suc b))

-- A list of length n + 1, behind all shorter ones.
abbrev Longer : ℕ → ℕ → List (List ℕ) → Type 0
Longer n k l = Right (length (lists_to n)) (lists_of (suc n)) k l

pub to_made : (n k : ℕ) (l : List (List ℕ)) → At (lists_to n) k l → (length l ≤ n) × Each (Stands small_requests) l
unfolding lists_to
to_made zero k l h =
    let m = lists_made zero k l h in
    (omega (arith, m.0), m.1)
to_made (suc n) k l h = ⊎_elim (earlier (to_made n k l)) last (at_joined (lists_to n) (lists_of (suc n)) k l h)
  where
    earlier : (At (lists_to n) k l → (length l ≤ n) × Each (Stands small_requests) l) → At (lists_to n) k l → (length l ≤ suc n) × Each (Stands small_requests) l
    earlier made a =
        let m = made a in
        (omega (arith, m.0), m.1)

    last : Longer n k l → (length l ≤ suc n) × Each (Stands small_requests) l
    last r =
        let m = lists_made (suc n) r.rest l r.held in
        (omega (arith, m.0), m.1)

pub to_in_order : (n : ℕ) → InOrder Precedes (lists_to n)
unfolding lists_to
to_in_order zero i j l m h k b = alike zero i j l m h k b
to_in_order (suc n) i j l m h k b =
    cases (at_joined (lists_to n) (lists_of (suc n)) i l h) (at_joined (lists_to n) (lists_of (suc n)) j m k) (to_in_order n i j l m)
  where
    cases : At (lists_to n) i l ⊎ Longer n i l → At (lists_to n) j m ⊎ Longer n j m → (At (lists_to n) i l → At (lists_to n) j m → i < j → Precedes l m) → Precedes l m
    cases (inl s) (inl t) order = order s t b
    cases (inl s) (inr t) order =
        inl (omega (arith, (to_made n i l s).0, (lists_made (suc n) t.rest m t.held).0))
    cases (inr s) (inl t) order = absurd (omega (arith, s.place, at_within (lists_to n) j m t))
    cases (inr s) (inr t) order =
        alike (suc n) s.rest t.rest l m s.held t.held (omega (arith, s.place, t.place))

pub to_once : (n : ℕ) → NoneTwice (lists_to n)
to_once n = order_once Precedes (lists_to n) (to_in_order n) never
  where
    never : (l : List (List ℕ)) → Precedes l l → ⊥
    never l (inl b) = omega arith
    never l (inr h) = false≢true (sym (before_not_self (flatten l)) ∙ h.1)

-- ---- By rank
pub ranked-length : (n k : ℕ) → length (ranked n k) ≡ n
unfolding ranked
ranked-length zero k = refl
ranked-length (suc n) k = ap suc (ranked-length n k)

ranked_at : (n k : ℕ) → At (lists_of n) (k % 16 ^ n) (ranked n k)
unfolding lists_of ranked
ranked_at zero k = ap (λ (i : ℕ). get_elem? (lists_of zero) i) (mod-one k)
ranked_at (suc n) k =
    let digit : k / 16 ^ n % 16 < 16 = mod-lt (k / 16 ^ n) (lit< tt) in
    ap (λ (i : ℕ). get_elem? (lists_of (suc n)) i) (ap (λ (m : ℕ). k % m) (pow-succ' 16 n) ∙ mod-mul k {m = 16} {c = 16 ^ n} (lit< tt) (some_lists n))
    ∙ lists_next n (k / 16 ^ n % 16) (k % 16 ^ n) (request_at (k / 16 ^ n % 16)) (ranked n k)
    (at_get_d small_requests (k / 16 ^ n % 16) [] (omega (arith, digit, sixteen))) (ranked_at n k)

pub listed_at : (n k : ℕ) → n ≤ 3 → k < 16 ^ n → At small_lists (shorter n + k) (ranked n k)
listed_at n k b l = to_at 3 n k (ranked n k) b (subst (λ (i : ℕ). At (lists_of n) i (ranked n k)) (mod-eq_of_lt l) (ranked_at n k))
