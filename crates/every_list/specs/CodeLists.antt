-- A list by its rank, as the code finds it.
use Rattle.std.specs.Prelude.{ℕ, zero, suc, ◌+◌, ◌/◌, ◌%◌, ◌^◌, List, [], ◌∷◌, get_or}
use Rattle.every_list.specs.SmallRequests.{small_requests}

-- Request number i, from 0.
abbrev pub request_at : ℕ → List ℕ
request_at i = get_or small_requests i []

-- The list of length n and rank k among those: its requests are the n lowest digits of k by 16, the highest first.
unfoldable pub ranked : ℕ → ℕ → List (List ℕ)
ranked zero k = []
ranked (suc n) k = request_at (k / 16 ^ n % 16) ∷ ranked n k

-- How many lists are shorter than n.
unfoldable pub shorter : ℕ → ℕ
shorter zero = 0
shorter (suc n) = shorter n + 16 ^ n
