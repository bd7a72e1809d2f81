-- what a reader's buffer and its places show
use Rattle.std.specs.Prelude.{◌≡◌, ◌≢◌, ℕ, ◌+◌, ◌-◌, ◌≤◌, ◌<◌, List, [], ◌∷◌, ◌++◌, length, take, drop, min, Bool, true, false, Option, Some, None, Result, Ok, Err}
use Rattle.std.specs.Io.KnownBytes.{Consumes, IsAtEnd}
use Rattle.script_run.specs.declared.cursor.Cursor.{Cursor}
use Rattle.script_run.specs.declared.cursor.Span.{Span}
use Rattle.script_run.specs.declared.cursor.TheConstants.{KEPT, SIZE}
use Rattle.script_run.specs.declared.cursor.Came.{Came}
use Rattle.script_run.specs.declared.cursor.Came.TheVariants as came
use Rattle.script_run.specs.declared.end.LinesEnd.{LinesEnd}
use Rattle.script_run.specs.declared.end.Stage.{Stage}
use Rattle.script_run.specs.declared.end.Stage.TheVariants as stages
use Rattle.script_run.specs.Reading.{LineReading, ReadsOn, Stops, lines_at, line_at}

-- the bytes that weren't handed out
abbrev pub held : List ℕ → Cursor → List ℕ
held buffer c = take (c.end - c.start) (drop c.start buffer)

-- the bytes of a line that is handed out
abbrev pub spanned : List ℕ → Span → List ℕ
spanned buffer s = take (s.to - s.from) (drop s.from buffer)

-- what contracts see of a reader with these bytes
abbrev pub reading_with : ℕ → ℕ → Stage → List ℕ → LineReading
reading_with limit taken stage bytes = record { limit = limit; taken = taken; ready = lines_at stage bytes; line = line_at stage bytes; stage = stage }

abbrev pub reading : List ℕ → Cursor → LineReading
reading buffer c = reading_with c.limit c.taken c.stage (held buffer c)

-- places within the buffer, and a count within the limit, which is reached where a byte past it was seen
pub record IsCursor (buffer : List ℕ) (c : Cursor) : Type 0 where
  pub size : length buffer ≡ SIZE
  pub ordered : c.start ≤ c.end
  pub inside : c.end ≤ SIZE
  pub within : c.taken ≤ c.limit
  pub spent : c.stage ≡ stages.Spent → c.taken ≡ c.limit

-- no byte is a line feed
abbrev pub HasNoFeed : List ℕ → Type 0
HasNoFeed [] = Unit {0}
HasNoFeed (b ∷ bs) = (b ≢ 10) × HasNoFeed bs

-- the first line feed of some bytes stands at this place
pub record FeedAt (bytes : List ℕ) (at : ℕ) : Type 0 where
  pub inside : at < length bytes
  pub splits : bytes ≡ take at bytes ++ 10 ∷ drop (at + 1) bytes
  pub first : HasNoFeed (take at bytes)

-- the line under way stands at the front, and there is room for a piece
pub record IsFilling (buffer : List ℕ) (c : Cursor) : Type 0 where
  pub cursor : IsCursor buffer c
  pub front : c.start ≡ 0
  pub going : c.stage ≡ stages.Open
  pub short : c.end ≤ KEPT
  pub unended : HasNoFeed (held buffer c)

-- a piece came, and a line feed in it, or the end
abbrev pub Found : List ℕ → Cursor → Option (List ℕ) → Came → Type 0
Found buffer c left came.Part = IsFilling buffer c
Found buffer c left (came.Line at) = IsCursor buffer c × (c.start ≡ 0) × (c.stage ≡ stages.Open) × FeedAt (held buffer c) at
Found buffer c left came.End = IsCursor buffer c × (c.start ≡ 0) × (c.stage ≡ stages.Ended) × HasNoFeed (held buffer c) × IsAtEnd left

-- what a read of a piece makes of the reader
abbrev pub Fills : List ℕ → List ℕ → Cursor → Cursor → Option (List ℕ) → Option (List ℕ) → Result Came LinesEnd → Type 0
Fills old new c d left left' (Ok found) = (bytes : List ℕ) × Consumes left left' bytes × ReadsOn (reading old c) (reading new d) bytes [] × Found new d left' found
Fills old new c d left left' (Err end) = Stops (reading old c) (reading new d) left left' end × IsCursor new d × (d.stage ≢ stages.Ended)

-- the bytes of a line as it is handed out
abbrev pub IsLineSpan : Span → Type 0
IsLineSpan span = (span.from ≤ span.to) × (span.to ≤ SIZE) × (span.to ≤ span.from + KEPT)

-- what is left at the end is the last line, clipped; where nothing is left there is none
abbrev pub HandsLast : Cursor → Cursor → Option Span → Type 0
HandsLast c d None = (c.start ≡ c.end) × (d ≡ c)
HandsLast c d (Some span) =
    (c.start < c.end) × (span ≡ record { from = c.start; to = c.start + min (c.end - c.start) KEPT }) × (d ≡ record c { start = c.end })

-- one more byte came, or the end
abbrev pub AsksPast : Bool → Option (List ℕ) → Option (List ℕ) → Type 0
AsksPast true left left' = (byte : ℕ) × Consumes left left' (byte ∷ [])
AsksPast false left left' = Consumes left left' [] × IsAtEnd left'

-- what pieces brought up to the end of a line
abbrev pub came_of : Result (Option ℕ) LinesEnd → Result Came LinesEnd
came_of (Ok (Some at)) = Ok (came.Line at)
came_of (Ok None) = Ok came.End
came_of (Err end) = Err end
