-- `calls::Call::opens` meets its contract: call 1, and no other.
use mathlib.Core.Path.{◌≡◌, refl}
use native.Mathlib.Omega.{arith}
use Rattle.calls.specs.declared.Call.{Call}
use Rattle.calls.specs.declared.Call.TheVariants.{Open, Close, Map, Unmap, Path, MapRun, UnmapRun, Trim, Fill}
use Rattle.calls.specs.Numbers.{call_number}
use Rattle.calls.specs.Table.{call_of}
use Rattle.calls.proofs.TableLaws.{opens_first, others_open}
use Rattle.calls.proofs.Call.opens.Goals as goal

pub returns : goal.returns
returns c = by_number c.args.self refl
  where
    by_number : (k : Call) → c.args.self ≡ k → c.eq.result ≡ (call_of (call_number c.args.self)).opens
    by_number Open is = simp (c.eq.ensures, is, opens_first 1 refl)
    by_number Close is = simp (c.eq.ensures, is, others_open 2 (omega arith))
    by_number Map is = simp (c.eq.ensures, is, others_open 3 (omega arith))
    by_number Unmap is = simp (c.eq.ensures, is, others_open 4 (omega arith))
    by_number Path is = simp (c.eq.ensures, is, others_open 5 (omega arith))
    by_number MapRun is = simp (c.eq.ensures, is, others_open 6 (omega arith))
    by_number UnmapRun is = simp (c.eq.ensures, is, others_open 7 (omega arith))
    by_number Trim is = simp (c.eq.ensures, is, others_open 8 (omega arith))
    by_number Fill is = simp (c.eq.ensures, is, others_open 11 (omega arith))
