-- The words and texts of worked rows.
use Rattle.std.specs.Prelude.{ℕ, zero, suc, ◌+◌, ◌*◌, ◌-◌, min, codes, decimal, List, [], ◌∷◌, ◌++◌}
use Rattle.block_model.specs.declared.row.RowId.{RowId}
use Rattle.script_semantics.specs.Names.{index_name, name_of, table_name}
use Rattle.script_semantics.specs.Place.{Place}
use Rattle.coverage.specs.Table.{TableState}
use Rattle.coverage.specs.TableSteps.{first_block}

-- how many blocks of the table the range has
abbrev pub blocks_of : TableState → (at range : ℕ) → ℕ
blocks_of w at range = min w.blocks ((range + 1) * (w.index at).pages_per_range) - first_block w at range

-- so many passes, and then these words
abbrev pub passes : ℕ → List (List ℕ) → List (List ℕ)
passes zero more = more
passes (suc blocks) more = codes "pass" ∷ passes blocks more

-- the steps of a summarise at a range of so many blocks without a tuple, up to the last one
abbrev pub summary_words : ℕ → List (List ℕ)
summary_words blocks = codes "right" ∷ codes "map" ∷ codes "put" ∷ codes "set" ∷ codes "extent" ∷ passes blocks (codes "map" ∷ codes "copy" ∷ [])

abbrev pub inserted_text : List ℕ → RowId → List ℕ
inserted_text name id = name ++ codes " inserted " ++ decimal id.t ++ codes "." ++ decimal id.k ++ codes "\n"

abbrev pub ask_words : List (List ℕ)
ask_words = codes "row" ∷ codes "ask" ∷ []

abbrev pub vacuumed_text : List ℕ → (rows unnamed ranges : ℕ) → List ℕ
vacuumed_text name rows unnamed ranges =
    name ++ codes " vacuumed rows " ++ decimal rows ++ codes " orphans " ++ decimal unnamed ++ codes " ranges " ++ decimal ranges ++ codes "\n"

-- error 11 with `work`, the table's name and the holder's, and with `page`, the index's name, the page's number and the holder's name
abbrev pub work_text : Place → List ℕ → (table holder : ℕ) → List ℕ
work_text p name table holder = name ++ codes " error 11 work " ++ table_name p.layout table ++ codes " " ++ name_of p holder ++ codes "\n"

abbrev pub page_text : Place → List ℕ → (table at page holder : ℕ) → List ℕ
page_text p name table at page holder =
    name ++ codes " error 11 page " ++ index_name p.layout table at ++ codes " " ++ decimal page ++ codes " " ++ name_of p holder ++ codes "\n"
