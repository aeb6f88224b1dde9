-- Request M-113: "16 requests in order of their words", "every list of length 0 to 3, shorter first, then by that order: 4,369 in all, none twice
-- and none missing."
-- Assumes nothing.
use Prim.Native.Nat.{ℕ, ◌+◌, ◌≤◌}
use mathlib.Core.Path.{◌≡◌, sym, ◌∙◌}
use mathlib.Core.Bool.{true, false≢true}
use mathlib.Core.List.{List}
use mathlib.Core.Logic.{◌↔◌}
use lib.ListN.{length}
use Rattle.every_list.specs.Standing.{Stands, NoneTwice, InOrder, Each}
use Rattle.every_list.specs.SmallRequests.{small_requests, before, is_small}
use Rattle.every_list.specs.SmallLists.{small_lists, Precedes}
use Rattle.every_list.specs.CodeLists.{shorter}
use Rattle.every_list.proofs.OrderLaws.{before_not_self, order_once}
use Rattle.every_list.proofs.RequestLaws.{sixteen, requests_small, small_stands, requests_in_order}
use Rattle.every_list.proofs.ListLaws.{lists_all, to_length, to_at, to_made, to_in_order, to_once}

-- ---- The requests
pub requests_counted : length small_requests ≡ 16
requests_counted = sixteen

-- They are exactly those of calls 1 to 5 that pass questions 7 to 9 for these sizes, each once.
pub requests_exactly : (r : List ℕ) → Stands small_requests r ↔ (is_small r ≡ true)
requests_exactly r = (requests_small r, small_stands r)

pub requests_ordered : InOrder (λ r s. before r s ≡ true) small_requests
requests_ordered = requests_in_order

pub requests_once : NoneTwice small_requests
requests_once =
    order_once (λ r s. before r s ≡ true) small_requests requests_in_order (λ r h. false≢true (sym (before_not_self r) ∙ h))

-- ---- The lists
pub counted : length small_lists ≡ 4369
unfolding shorter
counted = to_length 3

pub ordered : InOrder Precedes small_lists
ordered = to_in_order 3

pub none_twice : NoneTwice small_lists
none_twice = to_once 3

-- Every list of at most three of the requests stands somewhere, and no other does.
pub none_missing : (l : List (List ℕ)) → length l ≤ 3 → Each (Stands small_requests) l → Stands small_lists l
none_missing l b h =
    let s = lists_all l h in
    record { position = shorter (length l) + s.position; held = to_at 3 (length l) s.position l b s.held }

pub none_else : (l : List (List ℕ)) → Stands small_lists l → (length l ≤ 3) × Each (Stands small_requests) l
none_else l s = to_made 3 s.position l s.held
