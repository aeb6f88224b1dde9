-- Laws of the code: a request put in front of those that are written, and the list that a number stands for.
-- Assumes nothing.
use Prim.Native.Nat.{ℕ, suc, ◌+◌, ◌-◌, ◌*◌, ◌/◌, ◌%◌, ◌^◌, ◌<◌, ◌≤◌}
use mathlib.Core.Path.{◌≡◌, refl, sym, ap, ◌∙◌}
use mathlib.Core.Option.{some}
use mathlib.Core.List.{List, [], ◌∷◌, ◌++◌, flatten}
use native.Mathlib.Nat.{add-zero, sub_self, div-one, div-div-eq-div-mul, pow-suc}
use native.Mathlib.Omega.{arith}
use lib.ListN.{length, set, get_elem?}
use lib.Seq.{sets, set_comm}
use borrow.Author.Tests.{le-leb, lt-leb}
use Rattle.layout.specs.Outcomes.{outcome}
use Rattle.std.specs.Prelude.{Some, None}
use Rattle.every_list.specs.SmallLists.{small_lists}
use Rattle.every_list.specs.Listing.{listed}
use Rattle.every_list.specs.CodeLists.{request_at, ranked, shorter}
use Rattle.every_list.proofs.StandingLaws.{at_past}
use Rattle.every_list.proofs.RequestLaws.{request-length}
use Rattle.every_list.proofs.ListLaws.{ranked-length, listed_at}
use Rattle.every_list.proofs.EveryList.{counted}

-- ---- Writing
set_before : (vs s : List ℕ) (a b v : ℕ) → a < b → set (sets s b vs) a v ≡ sets (set s a v) b vs
set_before [] s a b v h = refl
set_before (x ∷ vs) s a b v h =
    set_before vs (set s b x) a (suc b) v (omega arith)
    ∙ ap (λ (l : List ℕ). sets l (suc b) vs) (set_comm s b a x v (λ e. omega (arith, e)))

-- Words, then those before them, are both in a row.
sets-before : (us vs s : List ℕ) (a : ℕ) → sets (sets s (a + length us) vs) a us ≡ sets s a (us ++ vs)
sets-before [] vs s a = ap (λ (i : ℕ). sets s i vs) (add-zero a)
sets-before (u ∷ us) vs s a =
    ap (λ (l : List ℕ). sets l (suc a) us) (set_before vs s a (a + suc (length us)) u (omega arith))
    ∙ ap (λ (i : ℕ). sets (sets (set s a u) i vs) (suc a) us) (omega arith)
    ∙ sets-before us vs (set s a u) (suc a)

pub none_written : (s : List ℕ) (n rank : ℕ) → s ≡ sets s (4 * n) (flatten (ranked (n - n) rank))
unfolding ranked flatten
none_written s n rank = ap (λ (m : ℕ). sets s (4 * n) (flatten (ranked m rank))) (sym (sub_self n))

-- One more request, before the others.
pub one_written : (s r : List ℕ) (n k rank left digit : ℕ) → 0 < k → k ≤ n → left ≡ rank / 16 ^ (n - k) → digit ≡ left % 16 → r ≡ request_at digit
    → sets (sets s (4 * k) (flatten (ranked (n - k) rank))) (4 * (k - 1)) r ≡ sets s (4 * (k - 1)) (flatten (ranked (n - (k - 1)) rank))
unfolding ranked flatten
one_written s r n k rank left digit more_left within is_left is_digit is =
    let four : length r ≡ 4 = ap length is ∙ request-length digit (omega arith) in
    let behind : 4 * k ≡ 4 * (k - 1) + length r = omega arith in
    let more : n - (k - 1) ≡ suc (n - k) = omega arith in
    ap (λ (i : ℕ). sets (sets s i (flatten (ranked (n - k) rank))) (4 * (k - 1)) r) behind
    ∙ sets-before r (flatten (ranked (n - k) rank)) s (4 * (k - 1))
    ∙ ap (λ (x : List ℕ). sets s (4 * (k - 1)) (x ++ flatten (ranked (n - k) rank))) (is ∙ ap request_at (is_digit ∙ ap (λ (i : ℕ). i % 16) is_left))
    ∙ ap (λ (m : ℕ). sets s (4 * (k - 1)) (flatten (ranked m rank))) (sym more)

pub first_digit : (n rank : ℕ) → rank ≡ rank / 16 ^ (n - n)
first_digit n rank = sym (div-one rank) ∙ ap (λ (m : ℕ). rank / 16 ^ m) (sym (sub_self n))

pub next_digit : (n k rank left : ℕ) → 0 < k → k ≤ n → left ≡ rank / 16 ^ (n - k) → left / 16 ≡ rank / 16 ^ (n - (k - 1))
next_digit n k rank left more_left within is =
    let more : n - (k - 1) ≡ suc (n - k) = omega arith in
    ap (λ (i : ℕ). i / 16) is
    ∙ div-div-eq-div-mul rank (16 ^ (n - k)) 16
    ∙ ap (λ (m : ℕ). rank / m) (sym (pow-suc 16 (n - k)))
    ∙ ap (λ (m : ℕ). rank / 16 ^ m) (sym more)

-- ---- The list by its number
pub no_list : (s : List ℕ) (number : ℕ) → 4369 ≤ number → outcome None s ≡ listed (get_elem? small_lists number) s
unfolding listed
no_list s number h = ap (λ l. listed l s) (sym (at_past small_lists number (omega (arith, counted))))

is_listed_lem : (number n rank : ℕ) → n ≤ 3 → rank < 16 ^ n → number ≡ shorter n + rank → get_elem? small_lists number ≡ some (ranked n rank)
is_listed_lem number n rank b l e = ap (λ (i : ℕ). get_elem? small_lists i) e ∙ listed_at n rank b l

pub no_room : (s : List ℕ) (number n rank : ℕ) → n ≤ 3 → rank < 16 ^ n → number ≡ shorter n + rank → length s < 4 * n → outcome None s ≡ listed (get_elem? small_lists number) s
unfolding listed
no_room s number n rank b l e h =
    rw (is_listed_lem number n rank b l e, ranked-length n rank, lt-leb (4 * n) (length s) h)

pub list_written : (s t : List ℕ) (number n rank : ℕ) → n ≤ 3 → rank < 16 ^ n → number ≡ shorter n + rank → 4 * n ≤ length s
    → t ≡ sets s 0 (flatten (ranked n rank)) → outcome (Some n) t ≡ listed (get_elem? small_lists number) s
unfolding listed
list_written s t number n rank b l e h w =
    rw (is_listed_lem number n rank b l e, ranked-length n rank, le-leb (4 * n) (length s) h, w)
