-- Request M-113: "take calls 1 to 5 with every domain and frame they use, 16 requests in order of their words."
use Rattle.std.specs.Prelude.{ℕ, Bool, false, cond, ◌&&◌, eqb, ltb, length, get_or}
use mathlib.Core.List.{List, [], ◌∷◌, ◌++◌, map, flat_map}
use Rattle.layout.specs.declared.Sizes.{Sizes}
use Rattle.layout.specs.Places.{sizes_of, one_to}
use Rattle.calls.specs.Table.{call_of}
use Rattle.questions.specs.Questions.{well_formed, domain_fits, frames_fit}

-- "For T = 1, D = 2, P = 2 without holes"
abbrev pub small_sizes : Sizes
small_sizes = sizes_of 1 2 2

-- Every domain below D, every frame below P.
abbrev pub domains : List ℕ
domains = 0 ∷ 1 ∷ []

abbrev pub frames : List ℕ
frames = 0 ∷ 1 ∷ []

-- Document 01: "A request is 4 words: call, domain, frame, count." Calls 1 to 5 use no count, 1 and 2 no frame.
abbrev pub request : ℕ → ℕ → ℕ → List ℕ
request c d f = c ∷ d ∷ f ∷ 0 ∷ []

-- A call's requests, where it uses a domain alone, and where it uses a frame too.
abbrev pub by_domain : ℕ → List (List ℕ)
by_domain c = map (λ d. request c d 0) domains

abbrev pub by_frame : ℕ → List (List ℕ)
by_frame c = flat_map (λ d. map (λ f. request c d f) frames) domains

-- "calls 1 to 5 with every domain and frame they use"
unfoldable pub small_requests : List (List ℕ)
small_requests = flat_map by_domain (1 ∷ 2 ∷ []) ++ flat_map by_frame (3 ∷ 4 ∷ 5 ∷ [])

-- "in order of their words": the first word that differs decides.
unfoldable pub before : List ℕ → List ℕ → Bool
before [] ws = false
before (v ∷ vs) [] = false
before (v ∷ vs) (w ∷ ws) = cond (eqb v w) (before vs ws) (ltb v w)

-- Questions 7 to 9, as a batch asks them.
abbrev pub passes : Sizes → ℕ → ℕ → ℕ → ℕ → Bool
passes z c d f n =
    well_formed (call_of c).uses f n && domain_fits z d && frames_fit z (call_of c).uses f n

-- Four words: a request of calls 1 to 5 that passes them for these sizes.
abbrev pub is_small : List ℕ → Bool
is_small r =
    eqb (length r) 4
    && one_to (get_or r 0 0) 5
    && passes small_sizes (get_or r 0 0) (get_or r 1 0) (get_or r 2 0) (get_or r 3 0)
