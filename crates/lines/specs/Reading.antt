-- Request lines: what each byte of a text does to the place read to and to the words.
use Rattle.std.specs.Prelude.{ℕ, ◌+◌, ◌*◌, ◌/◌, ◌≤◌, List, [], ◌∷◌, cond, eqb, leb, ltb, length, set, Option, Some, None, Result, Ok, Err}
use Rattle.lines.specs.Decimal.{is_digit, with_digit}
use Rattle.lines.specs.declared.reading.Place.{Place}
use Rattle.lines.specs.declared.reading.Fault.{Fault}
use Rattle.lines.specs.declared.reading.Fault.TheVariants.{Malformed, TooMany}

-- The place that was read to, or the fault that ended the reading.
abbrev pub Read : Type 0
Read = Result Place Fault

-- What was read, and the words.
pub record After : Type 0 where
  pub read : Read
  pub words : List ℕ

abbrev pub after : Read → List ℕ → After
after r ws = record { read = r; words = ws }

abbrev pub place : ℕ → ℕ → ℕ → ℕ → Place
place requests here value last = record { requests = requests; here = here; value = value; last = last }

-- A digit grows the number at hand, as long as that is below 2^64.
unfoldable pub grown : Place → ℕ → ℕ → Option ℕ → Read
grown p line byte (Some value) = Ok (place p.requests p.here value byte)
grown p line byte None = Err (Malformed line)

abbrev pub digit_read : Place → ℕ → ℕ → Read
digit_read p line byte = grown p line byte (with_digit p.value byte)

-- A number that has ended is word `here` of its request; a fifth one is not kept.
unfoldable pub here_after : Place → ℕ
here_after p = cond (is_digit p.last) (cond (leb 4 p.here) 5 (p.here + 1)) p.here

unfoldable pub words_after : Place → List ℕ → List ℕ
words_after p ws =
    cond (is_digit p.last) (cond (leb 4 p.here) ws (set ws (4 * p.requests + p.here) p.value)) ws

-- A space leaves the line open; a line end after four numbers ends the request; any other byte is a fault.
unfoldable pub gap_read : ℕ → ℕ → ℕ → ℕ → Read
gap_read line here requests byte =
    cond (eqb byte 32)
    (Ok (place requests here 0 byte))
    (cond (eqb byte 10) (cond (eqb here 4) (Ok (place line 0 0 byte)) (Err (Malformed line))) (Err (Malformed line)))

-- One byte more. The line at hand is one more than the lines that have ended.
unfoldable pub read_byte : Place → ℕ → List ℕ → After
read_byte p byte ws =
    cond (ltb p.requests (length ws / 4))
    (cond (is_digit byte)
    (after (digit_read p (p.requests + 1) byte) ws)
    (after (gap_read (p.requests + 1) (here_after p) p.requests byte) (words_after p ws)))
    (after (Err TooMany) ws)

-- A fault ends the reading: the bytes after it do nothing.
unfoldable pub read_next : Read → ℕ → List ℕ → After
read_next (Ok p) byte ws = read_byte p byte ws
read_next (Err fault) byte ws = after (Err fault) ws

unfoldable pub read_on : After → List ℕ → After
read_on a [] = a
read_on a (byte ∷ text) = read_on (read_next a.read byte a.words) text

abbrev pub read_bytes : Place → List ℕ → List ℕ → After
read_bytes p text ws = read_on (after (Ok p) ws) text

-- The end of the text ends a line that has begun.
unfoldable pub end_read : Place → List ℕ → After
end_read p ws = cond (eqb p.last 10) (after (Ok p) ws) (read_byte p 10 ws)

-- No more requests than there are words for.
abbrev pub Within : Read → ℕ → Type 0
Within (Ok p) n = p.requests ≤ n / 4
Within (Err fault) n = Unit
