-- What becomes of a line that isn't answered.
use Rattle.std.specs.Prelude.{◌≡◌, ℕ, false, List, None, Result, Ok}
use Rattle.block_model.specs.declared.reply.Point.{Point}
use Rattle.block_model.specs.declared.schema.Schema.{Schema}
use Rattle.query_words.specs.declared.line.Line.{Line}
use Rattle.query_words.specs.declared.line.Line.TheVariants as lines
use Rattle.query_words.specs.declared.line.LineFault.{LineFault}
use Rattle.query_words.specs.declared.line.Order.{Order}
use Rattle.query_words.specs.declared.line.Order.TheVariants as orders
use Rattle.query_words.specs.Lines.{line_of}
use Rattle.script_run.specs.declared.engine.AnswerFault.{AnswerFault}
use Rattle.script_run.specs.declared.engine.AnswerFault.TheVariants.{Memory, Full, Disk, Damaged}
use Rattle.store_layout.specs.declared.statement.Statement.{Statement}
use Rattle.store_layout.specs.SessionNumbers.{session_number, is_past_sessions}
use Rattle.script_semantics.specs.Place.{Place}
use Rattle.script_semantics.specs.StatementSteps.{Moved, Steps, LacksRoom}
use Rattle.script_semantics.specs.LineTexts.{Submits, IsLineText, named}

-- steps of session n's statement, behind each of which it goes on
pub data MovedTo (n : ℕ) : Place → Place → Type 0 where
  Still : (p : Place) → MovedTo n p p
  OnTo : (p q r : Place) (point : Point) → Steps p n (Moved point) q → MovedTo n q r → MovedTo n p r

-- The steps that an order makes before it stops: those before the one at which it stops, which go on. A step has none, a finish some, and a plain
-- statement is taken before.
pub data ComesTo (p : Place) (n : ℕ) : Order → Place → Type 0 where
  OfStep : ComesTo p n orders.Step p
  OfFinish : (q : Place) → MovedTo n p q → ComesTo p n orders.Finish q
  OfPlain : (statement : Statement) (q r : Place) → Submits p n statement None q → MovedTo n q r → ComesTo p n (orders.Whole statement) r

-- what a line says is an order of session n, which is made by it
pub data LineComesTo (p : Place) : Result Line LineFault → (n : ℕ) → Place → Type 0 where
  Begun : (name : List ℕ) (order : Order) (q : Place) → is_past_sessions p.names name ≡ false → ComesTo (named p name) (session_number p.names name) order q
      → LineComesTo p (Ok (lines.Say name order)) (session_number p.names name) q

-- the disk is the fault, or what stood on it
abbrev pub IsOfDisk : AnswerFault → Type 0
IsOfDisk Disk = Unit
IsOfDisk Damaged = Unit
IsOfDisk Memory = ⊥
IsOfDisk Full = ⊥

-- For want of memory nothing is done, or the session is made, or all that the line says, and its text is lost. Where the journal has no room for a step, and
-- where the disk fails in one, some steps are made before it.
pub data IsLineStopped (schema : Schema) (p : Place) (line : List ℕ) : AnswerFault → Place → Type 0 where
  Undone : IsLineStopped schema p line Memory p
  Named : (name : List ℕ) (order : Order) → line_of schema line ≡ Ok (lines.Say name order) → is_past_sessions p.names name ≡ false
      → IsLineStopped schema p line Memory (named p name)
  Unprinted : (text : List ℕ) (q : Place) → IsLineText schema p line text q → IsLineStopped schema p line Memory q
  PastRoom : (n : ℕ) (q : Place) → LineComesTo p (line_of schema line) n q → LacksRoom q n → IsLineStopped schema p line Full q
  OffDisk : (n : ℕ) (q : Place) (fault : AnswerFault) → LineComesTo p (line_of schema line) n q → IsOfDisk fault → IsLineStopped schema p line fault q
