-- A worked transcript: two sessions beside each other would delete the same row.
use Rattle.std.specs.Prelude.{ℕ, ◌<◌, pos, codes, List, [], ◌∷◌}
use Rattle.std.specs.FinMap as map
use Rattle.block_model.specs.declared.row.Query.{Query}
use Rattle.block_model.specs.declared.row.Row.{Row}
use Rattle.block_model.specs.declared.value.Value.TheVariants as values
use Rattle.block_model.specs.DatabaseState.{DatabaseState}
use Rattle.store_layout.specs.declared.statement.Statement.{Statement}
use Rattle.store_layout.specs.declared.statement.Statement.TheVariants as statements
use Rattle.transcripts.specs.Told.{Limits}
use Rattle.transcripts.specs.Transcript.{IsTranscript, Line, Said}

-- a store was opened whose table 0 has one row, put by transaction 1
abbrev pub old_row : Row
old_row = record { table = 0; id = record { t = 1; k = 0 }; values = values.Int (pos 7) ∷ [] }

abbrev pub worked_opening : DatabaseState
worked_opening = record { next = 2; table = map.from_sorted ((old_row.id, old_row) ∷ []); sessions = map.empty }

abbrev pub all_rows : Query
all_rows = record { table = 0; conds = [] }

abbrev pub says : ℕ → Statement → Line
says n statement = record { session = n; statement = statement }

-- four lines of session 0, and five of session 1
abbrev pub worked_script : List Line
worked_script =
    says 0 statements.Begin
    ∷ says 0 (statements.Select all_rows)
    ∷ says 0 (statements.Delete all_rows)
    ∷ says 0 statements.Commit
    ∷ says 1 statements.Begin
    ∷ says 1 (statements.Select all_rows)
    ∷ says 1 (statements.Delete all_rows)
    ∷ says 1 (statements.Insert 0 (values.Int (pos 8) ∷ []))
    ∷ says 1 statements.Commit
    ∷ []

abbrev pub told : ℕ → ℕ → List ℕ → Said
told n line text = record { session = n; line = line; text = text }

-- Session 1, named b, deletes the row and puts another. Session 0, named a, still finds the old row alone, as at its begin; its own delete comes too late.
abbrev pub worked_texts : List Said
worked_texts =
    told 0 0 (codes "a begun 2\n")
    ∷ told 1 4 (codes "b begun 3\n")
    ∷ told 1 5 (codes "b row 1.0 7\nb rows 1\n")
    ∷ told 1 6 (codes "b deleted 1\n")
    ∷ told 1 7 (codes "b inserted 3.0\n")
    ∷ told 0 1 (codes "a row 1.0 7\na rows 1\n")
    ∷ told 0 2 (codes "a error 7 1.0\n")
    ∷ told 1 8 (codes "b committed\n")
    ∷ told 0 3 (codes "a rolled back\n")
    ∷ []

-- these texts are a right transcript
abbrev pub WorkedIsRight : Type 0
WorkedIsRight = (limits : Limits) → 3 < limits.numbers → (after : DatabaseState) × IsTranscript limits (codes "a" ∷ codes "b" ∷ []) worked_script worked_opening worked_texts after
