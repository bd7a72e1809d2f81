-- a line that is read fits the schema
use Rattle.std.proofs.Common.{◌≡◌, ◌⊎◌, inl, inr, ℕ, ◌<◌, Bool, true, false, List, [], ◌∷◌, length, Option, None, Some, Ok, refl, sym, ap, ◌∙◌, subst}
use Rattle.std.specs.Prelude.{All, nat_lt, slice_get}
use Rattle.std.proofs.lemmas.List.Elements.{All-head}
use Rattle.std.proofs.lemmas.Option.{none-some, same_Some, slice_get_within}
use Rattle.block_model.specs.declared.schema.Schema.{Schema}
use Rattle.query_words.specs.declared.line_length.TheConstants.{MAX_LINE}
use Rattle.query_words.specs.Verbs.{answered}
use Rattle.query_words.specs.Words.{PlacedWord, words_of}
use Rattle.query_words.specs.declared.line.Line.{Line}
use Rattle.query_words.specs.Grammar.{SaidLine}
use Rattle.query_words.specs.LineFits.{IsLineFor}
use Rattle.query_words.specs.Lines.{line_in, line_judged, line_of, line_within}
use Rattle.query_words.specs.Parsed.{said_of}
use Rattle.query_words.specs.Syntax.{stop_of}
use Rattle.query_words.proofs.FitLemmas.{KnowsValues, words_fit}
use Rattle.store_layout.specs.declared.statement.Statement.{Statement}
use Rattle.store_layout.specs.declared.statement.Statement.TheVariants as statements
use Rattle.store_layout.specs.StatementFits.{IsIndexOf, IsStatementFor}
use Rattle.store_layout.specs.DiskLayout.{DiskLayout}
use Rattle.store_layout.specs.FirstBrokenRule.{KeepsLimits}
use Rattle.coverage.specs.Accounts.{Asked}
use Rattle.index_steps.specs.IndexTuples.{index_at}
use Rattle.index_steps.proofs.Lawful.{its_table}
use Rattle.script_semantics.specs.Beginnings.{IsIn, IsWorkIn}
use Rattle.script_semantics.specs.Place.{Place}

pub judged : (schema : Schema) (len : ℕ) (stop : Option ℕ) (said : Option (SaidLine PlacedWord)) (read : Line) → line_judged schema len stop said ≡ Ok read
    → (stop ≡ None) × (line_judged schema len None said ≡ Ok read)
judged schema len (Some at) said read h = absurd (cc)
judged schema len None said read h = (refl, h)

pub read_fits : KnowsValues → (schema : Schema) (line : List ℕ) (read : Line) → line_of schema line ≡ Ok read → IsLineFor schema read
unfolding line_in
read_fits knows schema line read h = by (nat_lt MAX_LINE (length line)) h
  where
    by : (b : Bool) → line_within b answered schema line ≡ Ok read → IsLineFor schema read
    by true e = absurd (cc)
    by false e =
        (words_fit answered knows schema (length line) (words_of line) read (judged schema (length line) (stop_of answered (length line) (words_of line)) (said_of answered (words_of line)) read e)).fits

-- the table in which a statement works; work may be in any
abbrev pub IsHome : DiskLayout → Statement → ℕ → Type 0
IsHome layout (statements.Insert table values) i = i ≡ table
IsHome layout (statements.Select q) i = i ≡ q.table
IsHome layout (statements.Delete q) i = i ≡ q.table
IsHome layout (statements.Explain q) i = i ≡ q.table
IsHome layout (statements.Summarize index block) i = i ≡ (index_at layout index).table
IsHome layout (statements.Desummarize index block) i = i ≡ (index_at layout index).table
IsHome layout (statements.Vacuum table) i = i ≡ table
IsHome layout statements.Work i = Unit {0}
IsHome layout statement i = ⊥

pub home_in : (layout : DiskLayout) (p : Place) (n i : ℕ) (statement : Statement) → p.layout ≡ layout → IsIn p n statement i → IsHome layout statement i
home_in layout p n i (statements.Summarize index block) same on = on ∙ ap (λ (l : DiskLayout). (index_at l index).table) same
home_in layout p n i (statements.Desummarize index block) same on = on ∙ ap (λ (l : DiskLayout). (index_at l index).table) same
home_in layout p n i statements.Work same on = tt
home_in layout p n i statement same on = on

-- each other statement has one home
pub home_one : (layout : DiskLayout) (statement : Statement) (i j : ℕ) → IsHome layout statement i → IsHome layout statement j → (statement ≡ statements.Work) ⊎ (i ≡ j)
home_one layout statements.Begin i j one two = absurd one
home_one layout statements.Commit i j one two = absurd one
home_one layout statements.Rollback i j one two = absurd one
home_one layout statements.Work i j one two = inl refl
home_one layout statement i j one two = inr (one ∙ sym two)

-- ---- tables of the layout

-- the summaries that are asked for are of such
abbrev pub IsOfTables : DiskLayout → Asked → Type 0
IsOfTables layout asked = asked.table < length layout.schema.tables

abbrev pub AreOfTables : DiskLayout → List Asked → Type 0
AreOfTables layout queue = All (IsOfTables layout) queue

first_of_tables : (layout : DiskLayout) (queue : List Asked) (asked : Asked) → AreOfTables layout queue → slice_get queue 0 ≡ Some asked → asked.table < length layout.schema.tables
first_of_tables layout [] asked all is = absurd (none-some _ is)
first_of_tables layout (first ∷ queue) asked all is = subst (IsOfTables layout) (same_Some _ _ is) (All-head (IsOfTables layout) first queue all)

below : (n m i : ℕ) → i ≡ n → n < m → i < m
below n m i is less = subst (λ k. k < m) (sym is) less

module _ (layout : DiskLayout) (p : Place) (n i : ℕ) (same : p.layout ≡ layout) (limits : KeepsLimits layout.schema layout.sizes) (queue : AreOfTables layout p.queue) where
  index_below : (index : ℕ) → IsIndexOf layout.schema index → i ≡ (index_at p.layout index).table → i < length layout.schema.tables
  index_below index fits on =
      below (index_at layout index).table _ i (on ∙ ap (λ (l : DiskLayout). (index_at l index).table) same) (its_table layout index (slice_get_within layout.schema.indexes index fits.0 fits.1) limits)

  work_below : IsWorkIn p n i → i < length layout.schema.tables
  work_below (inl busy) = subst (λ (l : DiskLayout). i < length l.schema.tables) same busy.0
  work_below (inr first) = below first.1.0.table _ i (sym first.1.2) (first_of_tables layout p.queue first.1.0 queue first.1.1)

  -- a statement makes its steps in such
  pub in_below : (statement : Statement) → IsStatementFor layout.schema statement → IsIn p n statement i → i < length layout.schema.tables
  in_below statements.Begin fits on = absurd on
  in_below statements.Commit fits on = absurd on
  in_below statements.Rollback fits on = absurd on
  in_below (statements.Insert table values) fits on = below table _ i on (slice_get_within layout.schema.tables table fits.into fits.table)
  in_below (statements.Select q) fits on = below q.table _ i on (slice_get_within layout.schema.tables q.table fits.of fits.table)
  in_below (statements.Delete q) fits on = below q.table _ i on (slice_get_within layout.schema.tables q.table fits.of fits.table)
  in_below (statements.Explain q) fits on = below q.table _ i on (slice_get_within layout.schema.tables q.table fits.of fits.table)
  in_below (statements.Summarize index block) fits on = index_below index fits on
  in_below (statements.Desummarize index block) fits on = index_below index fits on
  in_below (statements.Vacuum table) fits on = below table _ i on (slice_get_within layout.schema.tables table fits.0 fits.1)
  in_below statements.Work fits on = work_below on
