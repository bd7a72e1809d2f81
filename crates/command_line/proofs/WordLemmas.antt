-- What is known of the parts of a declaration.
use Rattle.std.proofs.Common.{◌≡◌, ℕ, ◌-◌, ◌≤◌, Bool, List, [], ◌∷◌, ◌++◌, length, Ok, Err, Option, None, Some, refl, sym, ap, subst, ◌∙◌}
use Rattle.std.specs.Prelude.{MatchOption}
use Rattle.block_model.specs.declared.schema.Column.{Column}
use Rattle.block_model.specs.declared.schema.Table.{Table}
use Rattle.block_model.specs.declared.schema.Index.{Index}
use Rattle.block_model.specs.declared.schema.Schema.{Schema}
use Rattle.value_text.specs.StopsAt.{StopsAt}
use Rattle.value_text.specs.TextReading.{whole}
use Rattle.value_text.proofs.Whole.{read_is_text, refused_leaves, refused_stops_at}
use Rattle.command_line.specs.declared.table.TableWord.{TableWord}
use Rattle.command_line.specs.declared.index.IndexWord.{IndexWord}
use Rattle.command_line.specs.declared.declaration.Declaration.{Declaration}
use Rattle.command_line.specs.declared.declaration.Declaration.TheVariants as code
use Rattle.command_line.specs.DeclarationTexts.{TableText, table_bytes, IndexText, index_bytes, DeclarationText, OfTable, OfIndex, bytes_of, IsTable, IsIndex, IsAnswered, IsDeclaration}
use Rattle.command_line.specs.DeclaredSchema.{number_said, most_rows, table_of, index_among, with_index, Declares}
use Rattle.command_line.specs.DeclarationReading.{declaration_at}
use Rattle.command_line.specs.Words.{said, KeepsMore, IsTableRead, table_with, index_text, IsIndexWord, IsRead, ReadsDeclaration}
use Rattle.command_line.proofs.WordReading.{declaration_lawful, declaration_complete}

-- what is read is a declaration
pub read_reads : (autos : Bool) (kept : Option (List Column)) (wanted bytes : List ℕ) (word : Declaration) (rest : List ℕ) (d : DeclarationText) → whole (declaration_at autos) bytes ≡ Ok (d, rest) → IsRead kept wanted word d → ReadsDeclaration autos kept wanted bytes word
read_reads autos kept wanted bytes word rest d e parts =
    let t = read_is_text (declaration_at autos) bytes_of (IsDeclaration autos) (declaration_lawful autos) (declaration_complete autos) bytes d rest e in
    record { text = d; of_grammar = t.0; bytes_are = t.1; parts = parts }

pub stops_leaves : (autos : Bool) (bytes rest : List ℕ) → whole (declaration_at autos) bytes ≡ Err rest → length rest ≤ length bytes
stops_leaves autos bytes rest e = refused_leaves (declaration_at autos) bytes_of (IsDeclaration autos) (declaration_lawful autos) (declaration_complete autos) bytes rest e

-- and else no declaration goes on
pub stops_there : (autos : Bool) (bytes rest : List ℕ) → whole (declaration_at autos) bytes ≡ Err rest → StopsAt bytes_of (IsDeclaration autos) bytes (length bytes - length rest)
stops_there autos bytes rest e = refused_stops_at (declaration_at autos) bytes_of (IsDeclaration autos) (declaration_lawful autos) (declaration_complete autos) bytes rest e (length bytes - length rest) refl

-- the text of a table that was read
pub record TableFacts (kept : Option (List Column)) (wanted bytes : List ℕ) (word : TableWord) : Type 0 where
  pub text : TableText
  pub of_grammar : IsTable text
  pub bytes_are : bytes ≡ table_bytes text
  pub parts : IsTableRead kept wanted word text

table_step : (autos : Bool) (kept : Option (List Column)) (wanted bytes : List ℕ) (word : TableWord) (d : DeclarationText) → IsDeclaration autos d → bytes ≡ bytes_of d → IsRead kept wanted (code.Table word) d → TableFacts kept wanted bytes word
table_step autos kept wanted bytes word (OfTable t) i e p = record { text = t; of_grammar = i; bytes_are = e; parts = p }
table_step autos kept wanted bytes word (OfIndex x) i e p = absurd p

pub table_facts : (autos : Bool) (kept : Option (List Column)) (wanted bytes : List ℕ) (word : TableWord) → ReadsDeclaration autos kept wanted bytes (code.Table word) → TableFacts kept wanted bytes word
table_facts autos kept wanted bytes word r = table_step autos kept wanted bytes word r.text r.of_grammar r.bytes_are r.parts

-- the text of an index that was read
pub record IndexFacts (autos : Bool) (bytes : List ℕ) (index : IndexWord) : Type 0 where
  pub is : IsIndexWord index
  pub answered : IsAnswered autos index.auto
  pub bytes_are : bytes ≡ index_bytes (index_text index)

-- the text is of the grammar
pub of_index : (autos : Bool) (bytes : List ℕ) (index : IndexWord) → IndexFacts autos bytes index → IsDeclaration autos (OfIndex (index_text index))
of_index autos bytes index f = (f.is.of_grammar, f.answered)

index_step : (autos : Bool) (kept : Option (List Column)) (wanted bytes : List ℕ) (word : IndexWord) (d : DeclarationText) → IsDeclaration autos d → bytes ≡ bytes_of d → IsRead kept wanted (code.Index word) d → IndexFacts autos bytes word
index_step autos kept wanted bytes word (OfTable t) i e p = absurd p
index_step autos kept wanted bytes word (OfIndex x) i e p = record {
  is = record { of_grammar = subst IsIndex (sym p.0) i.0; parts = p.1 };
  answered = subst (λ (x : IndexText). IsAnswered autos x.auto) (sym p.0) i.1;
  bytes_are = e ∙ ap index_bytes (sym p.0);
}

pub index_facts : (autos : Bool) (kept : Option (List Column)) (wanted bytes : List ℕ) (word : IndexWord) → ReadsDeclaration autos kept wanted bytes (code.Index word) → IndexFacts autos bytes word
index_facts autos kept wanted bytes word r = index_step autos kept wanted bytes word r.text r.of_grammar r.bytes_are r.parts

table_same : (word : TableWord) (t : TableText) (kept : Option (List Column)) → word.name.now ≡ t.name → said word.rows ≡ t.rows → KeepsMore (Some []) t.columns kept
    → (old new : List Table) → MatchOption kept ⊥ (λ cs. new ≡ old ++ table_with word cs ∷ []) → new ≡ old ++ table_of t ∷ []
table_same word t None n r k old new h = absurd h
table_same word t (Some cs) n r k old new h =
    let e : cs ≡ t.columns = k in
    h ∙ (λ i. old ++ (record { name = n i; rows_per_page = number_said 16 (most_rows (e i)) (r i); columns = e i }) ∷ [])

-- the table that is added is the one that is written
pub table_added : (wanted bytes : List ℕ) (word : TableWord) (f : TableFacts (Some []) wanted bytes word)
    → (old new : List Table) → MatchOption word.columns.kept ⊥ (λ cs. new ≡ old ++ table_with word cs ∷ []) → new ≡ old ++ table_of f.text ∷ []
table_added wanted bytes word f old new h = table_same word f.text word.columns.kept f.parts.name f.parts.rows f.parts.columns.keeps old new h

-- a table that was read with its columns kept
pub table_known : (autos : Bool) (kept : List Column) (wanted bytes : List ℕ) (word : Declaration) (table : TableWord) → kept ≡ [] → word ≡ code.Table table → ReadsDeclaration autos (Some kept) wanted bytes word → TableFacts (Some []) wanted bytes table
table_known autos kept wanted bytes word table e k r =
    table_facts autos (Some []) wanted bytes table (subst (λ (x : Declaration). ReadsDeclaration autos (Some []) wanted bytes x) k (subst (λ (l : List Column). ReadsDeclaration autos (Some l) wanted bytes word) e r))

-- an index that was read
pub index_known : (autos : Bool) (kept : Option (List Column)) (wanted bytes : List ℕ) (word : Declaration) (index : IndexWord) → word ≡ code.Index index → ReadsDeclaration autos kept wanted bytes word → IndexFacts autos bytes index
index_known autos kept wanted bytes word index k r = index_facts autos kept wanted bytes index (subst (λ (x : Declaration). ReadsDeclaration autos kept wanted bytes x) k r)

-- a table that is added is declared
pub declares-table : (autos : Bool) (s : Schema) (bytes : List ℕ) (word : TableWord) → TableFacts (Some []) [] bytes word
    → (new : List Table) → MatchOption word.columns.kept ⊥ (λ cs. new ≡ s.tables ++ table_with word cs ∷ []) → Declares autos bytes s (Ok (record { tables = new; indexes = s.indexes }))
declares-table autos s bytes word f new h = record {
  text = OfTable f.text;
  of_grammar = f.of_grammar;
  bytes_are = f.bytes_are;
  makes = ap (λ (l : List Table). Ok (record { tables = l; indexes = s.indexes })) (sym (table_added [] bytes word f s.tables new h));
}

module _ (autos : Bool) (s : Schema) (tables : List Table) (bytes : List ℕ) (word : IndexWord) (f : IndexFacts autos bytes word) (same : tables ≡ s.tables) where
  among : index_among s.tables (index_text word) ≡ index_among tables (index_text word)
  among = ap (λ (l : List Table). index_among l (index_text word)) (sym same)

  -- so is an index
  pub declares_index : (new : List Index) → (added : Index) × (index_among tables (index_text word) ≡ Ok added) × (new ≡ s.indexes ++ added ∷ [])
      → Declares autos bytes s (Ok (record { tables = s.tables; indexes = new }))
  declares_index new h = record {
    text = OfIndex (index_text word);
    of_grammar = of_index autos bytes word f;
    bytes_are = f.bytes_are;
    makes = ap (with_index s) (among ∙ h.1) ∙ ap (λ (l : List Index). Ok (record { tables = s.tables; indexes = l })) (sym h.2);
  }

  -- and one that names what isn't declared is at fault
  pub declares_fault : (at : ℕ) → index_among tables (index_text word) ≡ Err at → Declares autos bytes s (Err at)
  declares_fault at h = record {
    text = OfIndex (index_text word);
    of_grammar = of_index autos bytes word f;
    bytes_are = f.bytes_are;
    makes = ap (with_index s) (among ∙ h);
  }
