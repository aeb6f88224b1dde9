-- What a caller learns of a list that it asked for by its number.
-- Assumes nothing.
use Prim.Native.Nat.{ℕ, ◌+◌, ◌*◌, ◌<◌, ◌≤◌}
use mathlib.Core.Path.{◌≡◌, refl, ap, ◌∙◌}
use mathlib.Core.List.{List, [], ◌∷◌, flatten}
use native.Mathlib.Omega.{arith}
use lib.ListN.{length, get_or, get_elem?, take, drop, length-append}
use lib.Seq.{sets, sets-eq, take_at}
use borrow.Author.Tests.{le-leb}
use Rattle.layout.specs.Outcomes.{OutcomeOf, outcome}
use Rattle.std.specs.Prelude.{Some}
use Rattle.every_list.specs.Standing.{At, Stands, Each}
use Rattle.every_list.specs.SmallRequests.{small_requests}
use Rattle.every_list.specs.SmallLists.{small_lists}
use Rattle.every_list.specs.Listing.{Listed, listed}
use Rattle.every_list.proofs.StandingLaws.{at_get_d}
use Rattle.every_list.proofs.RequestLaws.{request-words}
use Rattle.every_list.proofs.EveryList.{counted, none_else}

pub record Given (number : ℕ) (o : OutcomeOf Listed) : Type 0 where
  pub list : List (List ℕ)
  pub at : At small_lists number list
  pub short : length list ≤ 3
  pub is : o.answer ≡ Some (length list)
  pub front : take (4 * length list) o.words ≡ flatten list

pub words-length : (l : List (List ℕ)) → Each (Stands small_requests) l → length (flatten l) ≡ 4 * length l
unfolding flatten
words-length [] h = refl
words-length (r ∷ l) h =
    length-append r (flatten l) ∙ omega (arith, request-words r h.0, words-length l h.1)

-- A number below 4,369 has a list, and 12 words have room for it.
pub given : (number : ℕ) (ws : List ℕ) (o : OutcomeOf Listed) → number < 4369 → 12 ≤ length ws → o ≡ listed (get_elem? small_lists number) ws → Given number o
unfolding listed
given number ws o b room e =
    let l : List (List ℕ) = get_or small_lists number [] in
    let there : At small_lists number l = at_get_d small_lists number [] (omega (arith, counted)) in
    let made = none_else l (record { position = number; held = there }) in
    let long : length (flatten l) ≡ 4 * length l = words-length l made.1 in
    let fits : 4 * length l ≤ length ws = omega (arith, made.0) in
    let is : o ≡ outcome (Some (length l)) (sets ws 0 (flatten l)) =
    e ∙ rw (there, le-leb (4 * length l) (length ws) fits) refl in
    record {
      list = l;
      at = there;
      short = made.0;
      is = ap (λ (x : OutcomeOf Listed). x.answer) is;
      front =
          ap (λ (x : OutcomeOf Listed). take (4 * length l) x.words) is
          ∙ ap (take (4 * length l)) (sets-eq (flatten l) ws 0 (omega (arith, long)))
          ∙ take_at (flatten l) (drop (0 + length (flatten l)) ws) (4 * length l) long;
    }
