-- Request M-113: "Generate every list of length 0 to 3, shorter first, then by that order".
use Rattle.std.specs.Prelude.{ℕ, zero, suc, ◌<◌, ◌≡◌, true, ◌⊎◌, length}
use mathlib.Core.List.{List, [], ◌∷◌, ◌++◌, map, flat_map, flatten}
use Rattle.every_list.specs.SmallRequests.{small_requests, before}

-- Every list of length n: each request, in order, before each list that is one shorter, in order.
unfoldable pub lists_of : ℕ → List (List (List ℕ))
lists_of zero = [] ∷ []
lists_of (suc n) = flat_map (λ r. map (λ l. r ∷ l) (lists_of n)) small_requests

-- Every list of length 0 to n.
unfoldable pub lists_to : ℕ → List (List (List ℕ))
lists_to zero = lists_of zero
lists_to (suc n) = lists_to n ++ lists_of (suc n)

-- "every list of length 0 to 3"
abbrev pub small_lists : List (List (List ℕ))
small_lists = lists_to 3

-- "shorter first, then by that order"
abbrev pub Precedes : List (List ℕ) → List (List ℕ) → Type 0
Precedes l m = (length l < length m) ⊎ ((length l ≡ length m) × (before (flatten l) (flatten m) ≡ true))
