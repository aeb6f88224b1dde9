-- What the code of reading goes by.
use Prim.Native.Nat.{ℕ, suc, ◌+◌, ◌<◌}
use native.Mathlib.Numerals.{add-one}
use mathlib.Core.Path.{◌≡◌, refl, ap, sym, ◌∙◌}
use mathlib.Core.List.{List, [], ◌∷◌}
use lib.ListN.{length, drop, get_or}
use lib.Seq.{drop-cons, drop-length}
use Rattle.lines.specs.Reading.{after, After, read_byte, read_next, read_on, read_bytes, Read}
use Rattle.lines.specs.declared.reading.Place.{Place}
use Rattle.lines.specs.declared.reading.Fault.{Fault}
use Rattle.std.specs.Prelude.{Ok, Err}

-- After a fault nothing changes.
pub stays : (fault : Fault) (ws text : List ℕ) → read_on (after (Err fault) ws) text ≡ after (Err fault) ws
unfolding read_on read_next
stays fault ws [] = refl
stays fault ws (byte ∷ text) = stays fault ws text

module _ (text : List ℕ) (i : ℕ) (p : Place) (ws ws' : List ℕ) (r : Read) (below : i < length text) (e : after r ws' ≡ read_byte p (get_or text i 0) ws) where
  -- What is left of a text after its byte i.
  pub turn : read_bytes p (drop i text) ws ≡ read_on (after r ws') (drop (i + 1) text)
  unfolding read_on read_next
  turn = rw (add-one, drop-cons text i 0) (ap (λ (a : After). read_on a (drop (suc i) text)) (sym e))

  pub ends : (fault : Fault) → r ≡ Err fault → after (Err fault) ws' ≡ read_bytes p (drop i text) ws
  ends fault h =
      sym (stays fault ws' (drop (i + 1) text)) ∙ ap (λ (x : Read). read_on (after x ws') (drop (i + 1) text)) (sym h) ∙ sym turn

  pub goes_on : (q : Place) → r ≡ Ok q → read_bytes p (drop i text) ws ≡ read_bytes q (drop (i + 1) text) ws'
  goes_on q h = turn ∙ ap (λ (x : Read). read_on (after x ws') (drop (i + 1) text)) h

pub at_end : (text : List ℕ) (i : ℕ) (p : Place) (ws : List ℕ) → i ≡ length text → read_bytes p (drop i text) ws ≡ after (Ok p) ws
unfolding read_on
at_end text i p ws e = rw (e, drop-length text)
