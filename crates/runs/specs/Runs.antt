-- Document 01, "Calls": "6 map run; 7 unmap run".
use Rattle.std.specs.Prelude.{ℕ, zero, suc, ◌+◌, List}
use Rattle.layout.specs.declared.Sizes.{Sizes}
use Rattle.layout.specs.Outcomes.{outcome}
use Rattle.pages.specs.Answers.{Answer, Refused, Finished, Page, Fill, Outcome, refuse}
use Rattle.pages.specs.Mapping.{map_call}
use Rattle.pages.specs.Unmapping.{unmap_call}

-- Request M-109: "The count limit becomes 2,048."
abbrev pub longest_run : ℕ
longest_run = 2048

-- "A run is its single calls in frame order, whole or not at all; the first frame refused gives the number."
pub data Run : Type 0 where
  going : List ℕ → Run
  stopped : ℕ → Run

unfoldable pub go_on : Outcome → Answer → Run
go_on o (Refused n) = stopped n
go_on o (Finished pages) = going o.words
go_on o (Page id rank pages) = going o.words
go_on o (Fill quotient remainder slots) = going o.words

unfoldable pub run_step : (List ℕ → ℕ → Outcome) → ℕ → Run → Run
run_step single f (going r) = go_on (single r f) (single r f).answer
run_step single f (stopped n) = stopped n

-- The single calls of the first n frames from f on.
unfoldable pub run_of : (List ℕ → ℕ → Outcome) → List ℕ → ℕ → ℕ → Run
run_of single s f zero = going s
run_of single s f (suc n) = run_step single (f + n) (run_of single s f n)

unfoldable pub whole_run : List ℕ → ℕ → Run → Outcome
whole_run s n (going r) = outcome (Finished n) r
whole_run s n (stopped k) = refuse k s

-- Domain d maps, or unmaps, the n frames from f on.
unfoldable pub map_run_call : Sizes → List ℕ → ℕ → ℕ → ℕ → Outcome
map_run_call z s d f n = whole_run s n (run_of (λ r. map_call z r d) s f n)

unfoldable pub unmap_run_call : Sizes → List ℕ → ℕ → ℕ → ℕ → Outcome
unmap_run_call z s d f n = whole_run s n (run_of (λ r. unmap_call z r d) s f n)
