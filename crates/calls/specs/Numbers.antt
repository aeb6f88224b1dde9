-- The calls and their uses as the code has them: what each stands for in the table.
use Rattle.std.specs.Prelude.{ℕ, ◌≡◌, Result, MatchResult}
use Rattle.pages.specs.declared.Refusal.{Refusal}
use Rattle.pages.specs.declared.Refusal.TheVariants.{Malformed}
use Rattle.calls.specs.declared.Call.{Call}
use Rattle.calls.specs.declared.Call.TheVariants.{Open, Close, Map, Unmap, Path, MapRun, UnmapRun, Trim, Fill}
use Rattle.calls.specs.declared.Uses.TheVariants as code
use Rattle.calls.specs.Table.{Uses, DomainOnly, OneFrame, FrameAndCount, NoCall, call_of}

-- "Calls: 1 open; 2 close (..); 3 map; 4 unmap; 5 path; 6 map run; 7 unmap run."; by requests M-100 and M-107, 8 trim and 11 fill.
abbrev pub call_number : Call → ℕ
call_number Open = 1
call_number Close = 2
call_number Map = 3
call_number Unmap = 4
call_number Path = 5
call_number MapRun = 6
call_number UnmapRun = 7
call_number Trim = 8
call_number Fill = 11

abbrev pub uses_of : code.the_data → Uses
uses_of code.DomainOnly = DomainOnly
uses_of code.OneFrame = OneFrame
uses_of code.FrameAndCount = FrameAndCount

-- A number is a call's, or by question 7 no call's.
abbrev pub Numbered : ℕ → Result Call Refusal → Type 0
Numbered n r = MatchResult r (λ call. call_number call ≡ n) (λ refusal. (refusal ≡ Malformed) × ((call_of n).uses ≡ NoCall))
