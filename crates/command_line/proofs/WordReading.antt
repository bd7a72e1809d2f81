-- Declarations are what is read as them.
use Rattle.std.proofs.Common.{◌≡◌, ℕ, Bool, true, false, ◌==◌, List, [], ◌∷◌, ◌++◌, codes, None, Ok, Err, refl, sym, ap, ◌∙◌, append_assoc, append-nil}
use Rattle.block_model.specs.declared.schema.Column.{Column}
use Rattle.value_text.specs.TextReading.{mapped, both, begins, choice, byte_at, word_at}
use Rattle.value_text.proofs.Lawful.{Lawful, both_lawful, mapped_lawful, choice_lawful, same_lawful, byte_lawful, word_lawful, word_complete, both_read, mapped_read, both_stops, both_stops_behind, mapped_stops, choice_first, choice_second}
use Rattle.command_line.specs.DeclarationTexts.{column_bytes, listed_bytes, TableText, table_bytes, PartText, parts_bytes, IndexText, index_bytes, DeclarationText, OfTable, OfIndex, bytes_of, IsNamed, IsColumn, IsPart, AreListed, IsSetting, IsTable, IsIndex, IsAnswered, IsDeclaration}
use Rattle.command_line.specs.DeclarationReading.{name_at, columns_at, ending_at, table_head_at, table_at, index_head_at, on_at, parts_at, options_at, index_at, declaration_at}
use Rattle.command_line.proofs.NameReading.{one_letter, name_lawful, name_complete}
use Rattle.command_line.proofs.SettingReading.{Setting, ending_bytes, ending_lawful, nothing_ends, ending_complete}
use Rattle.command_line.proofs.ColumnReading.{some_column, is_some, columns_lawful, columns_complete}
use Rattle.command_line.proofs.PartReading.{some_part, are_some, parts_lawful, parts_complete}
use Rattle.command_line.proofs.OptionReading.{Options, options_bytes, AreOptions, options_lawful, options_complete}

abbrev rows_setting : List ℕ
rows_setting = codes " rows_per_page "

abbrev name_between : Unit {0} × (List ℕ × Unit {0}) → List ℕ
name_between x = x.1.0

-- a name between a word and a bracket
between_lawful : (word : List ℕ) → Lawful (mapped name_between (both (word_at word) (both name_at (byte_at 40)))) (λ name. word ++ (name ++ 40 ∷ [])) IsNamed
between_lawful word =
    mapped_lawful name_between (both (word_at word) (both name_at (byte_at 40))) (λ x. word ++ (x.1.0 ++ 40 ∷ [])) (λ name. word ++ (name ++ 40 ∷ [])) (λ x. Unit {0} × (IsNamed x.1.0 × Unit {0})) IsNamed (λ a i. (i.1.0, refl))
    (both_lawful (word_at word) (both name_at (byte_at 40)) (λ x. word) (λ x. x.0 ++ 40 ∷ []) (λ x. Unit {0}) (λ x. IsNamed x.0 × Unit {0}) (97 ∷ [], tt) (one_letter, tt) (word_lawful word)
    (both_lawful name_at (byte_at 40) (λ name. name) (λ x. 40 ∷ []) IsNamed (λ x. Unit {0}) tt tt name_lawful (byte_lawful 40)))

abbrev table_head_bytes : List ℕ → List ℕ
table_head_bytes name = codes "table " ++ (name ++ 40 ∷ [])

table_head_lawful : Lawful table_head_at table_head_bytes IsNamed
unfolding table_head_at
table_head_lawful = same_lawful table_head_at (mapped name_between (both (word_at (codes "table ")) (both name_at (byte_at 40)))) table_head_bytes IsNamed (λ bytes. refl) (between_lawful (codes "table "))

abbrev whole_table : List ℕ × (List Column × Setting) → TableText
whole_table x = record { name = x.0; columns = x.1.0; rows = x.1.1 }

-- the bytes of a table, one part behind another
table_grouped : (t : TableText) → table_bytes t ≡ table_head_bytes t.name ++ (listed_bytes column_bytes t.columns ++ ending_bytes rows_setting t.rows)
table_grouped t = simp append_assoc

table_lawful : Lawful table_at table_bytes IsTable
unfolding table_at
table_lawful =
    same_lawful table_at (mapped whole_table (both table_head_at (both columns_at (ending_at rows_setting)))) table_bytes IsTable (λ bytes. refl)
    (mapped_lawful whole_table (both table_head_at (both columns_at (ending_at rows_setting))) (λ x. table_head_bytes x.0 ++ (listed_bytes column_bytes x.1.0 ++ ending_bytes rows_setting x.1.1)) table_bytes
    (λ x. IsNamed x.0 × (AreListed IsColumn x.1.0 × IsSetting x.1.1)) IsTable (λ a i. (record { named = i.0; columns = i.1.0; rows = i.1.1 }, table_grouped (whole_table a)))
    (both_lawful table_head_at (both columns_at (ending_at rows_setting)) table_head_bytes (λ x. listed_bytes column_bytes x.0 ++ ending_bytes rows_setting x.1) IsNamed (λ x. AreListed IsColumn x.0 × IsSetting x.1)
    (some_column ∷ [], None) (is_some, tt) table_head_lawful
    (both_lawful columns_at (ending_at rows_setting) (listed_bytes column_bytes) (ending_bytes rows_setting) (AreListed IsColumn) IsSetting None tt columns_lawful (ending_lawful rows_setting))))

abbrev name_behind : Unit {0} × List ℕ → List ℕ
name_behind x = x.1

abbrev index_head_bytes : List ℕ → List ℕ
index_head_bytes name = codes "index " ++ name

index_head_lawful : Lawful index_head_at index_head_bytes IsNamed
unfolding index_head_at
index_head_lawful =
    same_lawful index_head_at (mapped name_behind (both (word_at (codes "index ")) name_at)) index_head_bytes IsNamed (λ bytes. refl)
    (mapped_lawful name_behind (both (word_at (codes "index ")) name_at) (λ x. codes "index " ++ x.1) index_head_bytes (λ x. Unit {0} × IsNamed x.1) IsNamed (λ a i. (i.1, refl))
    (both_lawful (word_at (codes "index ")) name_at (λ x. codes "index ") (λ name. name) (λ x. Unit {0}) IsNamed (97 ∷ []) one_letter (word_lawful (codes "index ")) name_lawful))

abbrev on_bytes : List ℕ → List ℕ
on_bytes name = codes " on " ++ (name ++ 40 ∷ [])

on_lawful : Lawful on_at on_bytes IsNamed
unfolding on_at
on_lawful = same_lawful on_at (mapped name_between (both (word_at (codes " on ")) (both name_at (byte_at 40)))) on_bytes IsNamed (λ bytes. refl) (between_lawful (codes " on "))

abbrev whole_index : List ℕ × (List ℕ × (List PartText × (Unit {0} × Options))) → IndexText
whole_index x = record { name = x.0; table = x.1.0; parts = x.1.1.0; pages = x.1.1.1.1.0; auto = x.1.1.1.1.1 }

-- the bracket behind the columns, and what is said behind it
abbrev closed_bytes : Options → List ℕ
closed_bytes options = (41 ∷ []) ++ options_bytes options

abbrev behind_on_bytes : List PartText → Options → List ℕ
behind_on_bytes parts options = parts_bytes parts ++ closed_bytes options

-- the bytes of an index, one part behind another
abbrev grouped_bytes : IndexText → List ℕ
grouped_bytes i = index_head_bytes i.name ++ (on_bytes i.table ++ behind_on_bytes i.parts (i.pages, i.auto))

index_grouped : (i : IndexText) → index_bytes i ≡ grouped_bytes i
index_grouped i = simp append_assoc

-- the index is of the grammar
abbrev IsWhole : Bool → IndexText → Type 0
IsWhole autos i = IsIndex i × IsAnswered autos i.auto

-- the parts of an index, one behind another
abbrev ArePartsOf : Bool → List ℕ × (List ℕ × (List PartText × (Unit {0} × Options))) → Type 0
ArePartsOf autos x = IsNamed x.0 × (IsNamed x.1.0 × (AreListed IsPart x.1.1.0 × (Unit {0} × AreOptions autos x.1.1.1.1)))

index_of : (autos : Bool) (x : List ℕ × (List ℕ × (List PartText × (Unit {0} × Options)))) → ArePartsOf autos x → IsWhole autos (whole_index x)
index_of autos x i = (record { named = i.0; table = i.1.0; parts = i.1.1.0; pages = i.1.1.1.1.0 }, i.1.1.1.1.1)

index_lawful : (autos : Bool) → Lawful (index_at autos) index_bytes (IsWhole autos)
unfolding index_at
index_lawful autos =
    same_lawful (index_at autos) (mapped whole_index (both index_head_at (both on_at (both parts_at (both (byte_at 41) (options_at autos)))))) index_bytes (IsWhole autos) (λ bytes. refl)
    (mapped_lawful whole_index (both index_head_at (both on_at (both parts_at (both (byte_at 41) (options_at autos))))) (λ x. grouped_bytes (whole_index x)) index_bytes
    (ArePartsOf autos) (IsWhole autos) (λ a i. (index_of autos a i, index_grouped (whole_index a)))
    (both_lawful index_head_at (both on_at (both parts_at (both (byte_at 41) (options_at autos)))) index_head_bytes (λ x. on_bytes x.0 ++ behind_on_bytes x.1.0 x.1.1.1) IsNamed
    (λ x. IsNamed x.0 × (AreListed IsPart x.1.0 × (Unit {0} × AreOptions autos x.1.1.1)))
    (97 ∷ [], (some_part ∷ [], (tt, (None, false)))) (one_letter, (are_some, (tt, (tt, tt)))) index_head_lawful
    (both_lawful on_at (both parts_at (both (byte_at 41) (options_at autos))) on_bytes (λ x. behind_on_bytes x.0 x.1.1) IsNamed (λ x. AreListed IsPart x.0 × (Unit {0} × AreOptions autos x.1.1))
    (some_part ∷ [], (tt, (None, false))) (are_some, (tt, (tt, tt))) on_lawful
    (both_lawful parts_at (both (byte_at 41) (options_at autos)) parts_bytes (λ x. closed_bytes x.1) (AreListed IsPart) (λ x. Unit {0} × AreOptions autos x.1) (tt, (None, false)) (tt, (tt, tt)) parts_lawful
    (both_lawful (byte_at 41) (options_at autos) (λ x. 41 ∷ []) options_bytes (λ x. Unit {0}) (AreOptions autos) (None, false) (tt, tt) (byte_lawful 41) (options_lawful autos))))))

abbrev pub is_t : ℕ → Bool
is_t c = c == 116

pub declaration_lawful : (autos : Bool) → Lawful (declaration_at autos) bytes_of (IsDeclaration autos)
unfolding declaration_at
declaration_lawful autos =
    same_lawful (declaration_at autos) (choice is_t (mapped OfTable table_at) (mapped OfIndex (index_at autos))) bytes_of (IsDeclaration autos) (λ bytes. refl)
    (choice_lawful is_t (mapped OfTable table_at) (mapped OfIndex (index_at autos)) bytes_of (IsDeclaration autos)
    (mapped_lawful OfTable table_at table_bytes bytes_of IsTable (IsDeclaration autos) (λ a i. (i, refl)) table_lawful)
    (mapped_lawful OfIndex (index_at autos) index_bytes bytes_of (IsWhole autos) (IsDeclaration autos) (λ a i. (i, refl)) (index_lawful autos)))

-- a setting at the end is read
last_complete : (word : List ℕ) (said : Setting) → IsSetting said → ending_at (32 ∷ word) (ending_bytes (32 ∷ word) said) ≡ Ok (said, [])
last_complete word said i = ap (ending_at (32 ∷ word)) (sym (append-nil (ending_bytes (32 ∷ word) said))) ∙ ending_complete word said [] i nothing_ends

between_complete : (word name rest : List ℕ) → IsNamed name → mapped name_between (both (word_at word) (both name_at (byte_at 40))) (word ++ (name ++ 40 ∷ rest)) ≡ Ok (name, rest)
between_complete word name rest i =
    mapped_read name_between (both (word_at word) (both name_at (byte_at 40))) (word ++ (name ++ 40 ∷ rest)) ((tt, (name, tt)), rest)
    (both_read (word_at word) (both name_at (byte_at 40)) (word ++ (name ++ 40 ∷ rest)) (tt, name ++ 40 ∷ rest) ((name, tt), rest) (word_complete word (name ++ 40 ∷ rest))
    (both_read name_at (byte_at 40) (name ++ 40 ∷ rest) (name, 40 ∷ rest) (tt, rest) (name_complete name (40 ∷ rest) i refl) refl))

table_complete : (t : TableText) → IsTable t → table_at (table_bytes t) ≡ Ok (t, [])
unfolding table_at table_head_at
table_complete t i =
    let ending : List ℕ = ending_bytes rows_setting t.rows in
    let grouped : table_bytes t ≡ codes "table " ++ (t.name ++ 40 ∷ (listed_bytes column_bytes t.columns ++ ending)) = simp append_assoc in
    ap (mapped whole_table (both table_head_at (both columns_at (ending_at rows_setting)))) grouped
    ∙ mapped_read whole_table (both table_head_at (both columns_at (ending_at rows_setting))) (codes "table " ++ (t.name ++ 40 ∷ (listed_bytes column_bytes t.columns ++ ending))) ((t.name, (t.columns, t.rows)), [])
    (both_read table_head_at (both columns_at (ending_at rows_setting)) (codes "table " ++ (t.name ++ 40 ∷ (listed_bytes column_bytes t.columns ++ ending))) (t.name, listed_bytes column_bytes t.columns ++ ending) ((t.columns, t.rows), [])
    (between_complete (codes "table ") t.name (listed_bytes column_bytes t.columns ++ ending) i.named)
    (both_read columns_at (ending_at rows_setting) (listed_bytes column_bytes t.columns ++ ending) (t.columns, ending) (t.rows, [])
    (columns_complete t.columns ending i.columns refl refl) (last_complete (codes "rows_per_page ") t.rows i.rows)))

index_head_complete : (name rest : List ℕ) → IsNamed name → index_head_at (codes "index " ++ (name ++ 32 ∷ rest)) ≡ Ok (name, 32 ∷ rest)
unfolding index_head_at
index_head_complete name rest i =
    mapped_read name_behind (both (word_at (codes "index ")) name_at) (codes "index " ++ (name ++ 32 ∷ rest)) ((tt, name), 32 ∷ rest)
    (both_read (word_at (codes "index ")) name_at (codes "index " ++ (name ++ 32 ∷ rest)) (tt, name ++ 32 ∷ rest) (name, 32 ∷ rest) (word_complete (codes "index ") (name ++ 32 ∷ rest)) (name_complete name (32 ∷ rest) i refl))

index_complete : (autos : Bool) (i : IndexText) → IsWhole autos i → index_at autos (index_bytes i) ≡ Ok (i, [])
unfolding index_at on_at
index_complete autos i h =
    let options : Options = (i.pages, i.auto) in
    let closed : List ℕ = closed_bytes options in
    let parts : List ℕ = parts_bytes i.parts ++ closed in
    let on : List ℕ = codes " on " ++ (i.table ++ 40 ∷ parts) in
    let grouped : index_bytes i ≡ codes "index " ++ (i.name ++ on) = simp append_assoc in
    ap (mapped whole_index (both index_head_at (both on_at (both parts_at (both (byte_at 41) (options_at autos)))))) grouped
    ∙ mapped_read whole_index (both index_head_at (both on_at (both parts_at (both (byte_at 41) (options_at autos))))) (codes "index " ++ (i.name ++ on)) ((i.name, (i.table, (i.parts, (tt, options)))), [])
    (both_read index_head_at (both on_at (both parts_at (both (byte_at 41) (options_at autos)))) (codes "index " ++ (i.name ++ on)) (i.name, on) ((i.table, (i.parts, (tt, options))), [])
    (index_head_complete i.name (codes "on " ++ (i.table ++ 40 ∷ parts)) h.0.named)
    (both_read on_at (both parts_at (both (byte_at 41) (options_at autos))) on (i.table, parts) ((i.parts, (tt, options)), [])
    (between_complete (codes " on ") i.table parts h.0.table)
    (both_read parts_at (both (byte_at 41) (options_at autos)) parts (i.parts, closed) ((tt, options), [])
    (parts_complete i.parts closed h.0.parts refl (record { no_space = refl; no_digit = refl }))
    (both_read (byte_at 41) (options_at autos) closed (tt, options_bytes options) (options, []) refl (options_complete autos options (h.0.pages, h.1))))))

-- a declaration is read
pub declaration_complete : (autos : Bool) (d : DeclarationText) → IsDeclaration autos d → declaration_at autos (bytes_of d) ≡ Ok (d, [])
unfolding declaration_at
declaration_complete autos (OfTable t) i = mapped_read OfTable table_at (table_bytes t) (t, []) (table_complete t i)
declaration_complete autos (OfIndex x) i = mapped_read OfIndex (index_at autos) (index_bytes x) (x, []) (index_complete autos x i)

pub table_stops_in_head : (text rest : List ℕ) → table_head_at text ≡ Err rest → table_at text ≡ Err rest
unfolding table_at
table_stops_in_head text rest e =
    mapped_stops whole_table (both table_head_at (both columns_at (ending_at rows_setting))) text rest (both_stops table_head_at (both columns_at (ending_at rows_setting)) text rest e)

module _ (text name : List ℕ) (behind : List ℕ) (head : table_head_at text ≡ Ok (name, behind)) where
  -- a table whose parts are read
  pub table_parts : (columns : List Column) (last : List ℕ) (rows : Setting) (rest : List ℕ) → columns_at behind ≡ Ok (columns, last) → ending_at rows_setting last ≡ Ok (rows, rest)
      → table_at text ≡ Ok (record { name = name; columns = columns; rows = rows }, rest)
  unfolding table_at
  table_parts columns last rows rest e k =
      mapped_read whole_table (both table_head_at (both columns_at (ending_at rows_setting))) text ((name, (columns, rows)), rest)
      (both_read table_head_at (both columns_at (ending_at rows_setting)) text (name, behind) ((columns, rows), rest) head
      (both_read columns_at (ending_at rows_setting) behind (columns, last) (rows, rest) e k))

  pub table_stops_in_columns : (rest : List ℕ) → columns_at behind ≡ Err rest → table_at text ≡ Err rest
  unfolding table_at
  table_stops_in_columns rest e =
      mapped_stops whole_table (both table_head_at (both columns_at (ending_at rows_setting))) text rest
      (both_stops_behind table_head_at (both columns_at (ending_at rows_setting)) text (name, behind) rest head (both_stops columns_at (ending_at rows_setting) behind rest e))

  pub table_stops_behind_columns : (columns : List Column) (last rest : List ℕ) → columns_at behind ≡ Ok (columns, last) → ending_at rows_setting last ≡ Err rest → table_at text ≡ Err rest
  unfolding table_at
  table_stops_behind_columns columns last rest e k =
      mapped_stops whole_table (both table_head_at (both columns_at (ending_at rows_setting))) text rest
      (both_stops_behind table_head_at (both columns_at (ending_at rows_setting)) text (name, behind) rest head (both_stops_behind columns_at (ending_at rows_setting) behind (columns, last) rest e k))

-- what begins with `t` is read as a table
pub declaration_table : (autos : Bool) (text : List ℕ) (t : TableText) (rest : List ℕ) → begins is_t text ≡ true → table_at text ≡ Ok (t, rest) → declaration_at autos text ≡ Ok (OfTable t, rest)
unfolding declaration_at
declaration_table autos text t rest b e = choice_first is_t (mapped OfTable table_at) (mapped OfIndex (index_at autos)) text b ∙ mapped_read OfTable table_at text (t, rest) e

pub declaration_table_stops : (autos : Bool) (text rest : List ℕ) → begins is_t text ≡ true → table_at text ≡ Err rest → declaration_at autos text ≡ Err rest
unfolding declaration_at
declaration_table_stops autos text rest b e = choice_first is_t (mapped OfTable table_at) (mapped OfIndex (index_at autos)) text b ∙ mapped_stops OfTable table_at text rest e

-- and else as an index
pub declaration_index : (autos : Bool) (text : List ℕ) (i : IndexText) (rest : List ℕ) → begins is_t text ≡ false → index_at autos text ≡ Ok (i, rest) → declaration_at autos text ≡ Ok (OfIndex i, rest)
unfolding declaration_at
declaration_index autos text i rest b e = choice_second is_t (mapped OfTable table_at) (mapped OfIndex (index_at autos)) text b ∙ mapped_read OfIndex (index_at autos) text (i, rest) e

pub declaration_index_stops : (autos : Bool) (text rest : List ℕ) → begins is_t text ≡ false → index_at autos text ≡ Err rest → declaration_at autos text ≡ Err rest
unfolding declaration_at
declaration_index_stops autos text rest b e = choice_second is_t (mapped OfTable table_at) (mapped OfIndex (index_at autos)) text b ∙ mapped_stops OfIndex (index_at autos) text rest e
