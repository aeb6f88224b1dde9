-- Document 01, "Calls": every call by its number. A later call is a line of the table.
use Rattle.std.specs.Prelude.{ℕ, List, [], ◌∷◌, Bool, true, false, cond, eqb}
use Rattle.layout.specs.declared.Sizes.{Sizes}
use Rattle.pages.specs.Answers.{Outcome, refuse}
use Rattle.domains.specs.Opening.{open_call}
use Rattle.domains.specs.Closing.{close_call}
use Rattle.pages.specs.Mapping.{map_call}
use Rattle.pages.specs.Unmapping.{unmap_call}
use Rattle.pages.specs.Paths.{path_call}
use Rattle.runs.specs.Runs.{map_run_call, unmap_run_call}
use Rattle.domains.specs.Trimming.{trim_call}
use Rattle.domains.specs.Filling.{fill_call}

-- The words that a call uses beside the domain word: neither frame nor count; the frame; frame and count. Or the number is no call's.
pub data Uses : Type 0 where
  DomainOnly : Uses
  OneFrame : Uses
  FrameAndCount : Uses
  NoCall : Uses

-- A call: its number; the words that it uses beside the domain word; whether it opens the domain, and so asks 10 and not 11; and what it does, of sizes, state words, domain, frame and count, once the questions 7 to 11 are passed.
pub record Call : Type 0 where
  pub number : ℕ
  pub uses : Uses
  pub opens : Bool
  pub does : Sizes → List ℕ → ℕ → ℕ → ℕ → Outcome

abbrev pub call : ℕ → Uses → Bool → (Sizes → List ℕ → ℕ → ℕ → ℕ → Outcome) → Call
call c u o does = record { number = c; uses = u; opens = o; does = does }

-- "Calls: 1 open; 2 close (..); 3 map; 4 unmap; 5 path; 6 map run; 7 unmap run."
-- "(Calls 1 and 2 use neither frame nor count; 3, 4, 5 no count.)": DomainOnly, OneFrame, FrameAndCount.
-- Request M-100: "Call 8, trim, uses the domain word only." Request M-107: "Call 11", and by document 01 "A call added later uses the domain word, and others only where its ticket names them." A number without a line, as 9 and 10, is no call's.
unfoldable pub calls : List Call
calls =
    call 1 DomainOnly true (λ z s d f n. open_call z s d)
    ∷ call 2 DomainOnly false (λ z s d f n. close_call z s d)
    ∷ call 3 OneFrame false (λ z s d f n. map_call z s d f)
    ∷ call 4 OneFrame false (λ z s d f n. unmap_call z s d f)
    ∷ call 5 OneFrame false (λ z s d f n. path_call z s d f)
    ∷ call 6 FrameAndCount false map_run_call
    ∷ call 7 FrameAndCount false unmap_run_call
    ∷ call 8 DomainOnly false (λ z s d f n. trim_call z s d)
    ∷ call 11 DomainOnly false (λ z s d f n. fill_call z s d)
    ∷ []

-- The line of a number, and what stands for a number that has none.
abbrev pub unlisted : ℕ → Call
unlisted c = call c NoCall false (λ z s d f n. refuse 7 s)

unfoldable pub line_of : ℕ → List Call → Call
line_of c [] = unlisted c
line_of c (k ∷ ks) =
    let later = line_of c ks in
    cond (eqb c k.number) k later

abbrev pub call_of : ℕ → Call
call_of c = line_of c calls
