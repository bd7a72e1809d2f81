-- Words that are judged without memory: an index against the tables of the words before it.
use Rattle.std.proofs.Common.{◌≡◌, ℕ, ◌+◌, ◌<◌, ◌≤◌, Bool, true, false, cond, List, [], ◌∷◌, ◌++◌, length, take, get_or, min, Result, Ok, Err, None, Some, refl, sym, ap, subst, ◌∙◌, arith, length-take}
use Rattle.std.specs.Prelude.{MatchResult}
use Rattle.std.specs.Str.{bytes_eq}
use Rattle.std.proofs.lemmas.List.{take_more, take-take, get_or-take}
use Rattle.block_model.specs.declared.schema.Table.{Table}
use Rattle.block_model.specs.declared.schema.Part.{Part}
use Rattle.block_model.specs.declared.schema.Index.{Index}
use Rattle.block_model.specs.declared.schema.Schema.{Schema}
use Rattle.value_text.proofs.Whole.{one_text}
use Rattle.command_line.specs.declared.table.TableWord.{TableWord}
use Rattle.command_line.specs.declared.index.IndexWord.{IndexWord}
use Rattle.command_line.specs.declared.declaration.Declaration.{Declaration}
use Rattle.command_line.specs.declared.declaration.Declaration.TheVariants as code
use Rattle.command_line.specs.DeclarationTexts.{TableText, table_bytes, IndexText, before_table, DeclarationText, OfTable, OfIndex, bytes_of, IsTable, IsDeclaration}
use Rattle.command_line.specs.DeclaredSchema.{table_of, table_named, index_on, parts_among, on_parts, on_table, index_among, with_table, declared_behind, Declares, DeclareBehind, nothing_declared, DenotesWith}
use Rattle.command_line.specs.DeclarationReading.{declaration_at}
use Rattle.command_line.specs.Words.{index_text, has_column, ReadsDeclaration, declares_table}
use Rattle.command_line.proofs.WordReading.{declaration_lawful, declaration_complete}
use Rattle.command_line.proofs.WordLemmas.{table_facts, IndexFacts, index_facts, of_index, declares_index, declares_fault}
use Rattle.command_line.proofs.DeclaredLemmas.{Split, split, sought_behind, first_table, with_index_grows, split_table}

-- a declaration is written in one way
same_text : (autos : Bool) (a b : DeclarationText) (bytes : List ℕ) → IsDeclaration autos a → IsDeclaration autos b → bytes ≡ bytes_of a → bytes ≡ bytes_of b → a ≡ b
same_text autos a b bytes i j e k = one_text (declaration_at autos) bytes_of (IsDeclaration autos) (declaration_lawful autos) (declaration_complete autos) a b i j (sym e ∙ k)

abbrev table_in : TableText → DeclarationText → TableText
table_in other (OfTable t) = t
table_in other (OfIndex i) = other

module _ (autos : Bool) (kept : List ℕ) (bytes : List ℕ) (word : Declaration) (r : ReadsDeclaration autos None kept bytes word) where
  -- a table that was read is of the name that it has
  pub named_table : (name : List ℕ) (table : TableWord) → word ≡ code.Table table → (d : DeclarationText) → IsDeclaration autos d → bytes ≡ bytes_of d → bytes_eq name table.name.now ≡ declares_table name d
  named_table name table k d i e =
      let f = table_facts autos None kept bytes table (subst (λ (x : Declaration). ReadsDeclaration autos None kept bytes x) k r) in
      ap (bytes_eq name) f.parts.name ∙ ap (declares_table name) (same_text autos (OfTable f.text) d bytes f.of_grammar i f.bytes_are e)

  -- an index is no table
  pub named_index : (name : List ℕ) (index : IndexWord) → word ≡ code.Index index → (d : DeclarationText) → IsDeclaration autos d → bytes ≡ bytes_of d → false ≡ declares_table name d
  named_index name index k d i e =
      let f = index_facts autos None kept bytes index (subst (λ (x : Declaration). ReadsDeclaration autos None kept bytes x) k r) in
      ap (declares_table name) (same_text autos (OfIndex (index_text index)) d bytes (of_index autos bytes index f) i f.bytes_are e)

  -- whether a table that was read has the column that was wanted
  pub sought_table : (table : TableWord) → word ≡ code.Table table → (t : TableText) → IsTable t → bytes ≡ table_bytes t → table.columns.found ≡ has_column kept t.columns
  sought_table table k t i e =
      let f = table_facts autos None kept bytes table (subst (λ (x : Declaration). ReadsDeclaration autos None kept bytes x) k r) in
      let same : f.text ≡ t = ap (table_in t) (same_text autos (OfTable f.text) (OfTable t) bytes f.of_grammar i f.bytes_are e) in
      f.parts.columns.found ∙ ap (λ (x : TableText). has_column kept x.columns) same

  pub sought_index : (index : IndexWord) → word ≡ code.Index index → (t : TableText) → IsTable t → bytes ≡ table_bytes t → ⊥
  sought_index index k t i e =
      let f = index_facts autos None kept bytes index (subst (λ (x : Declaration). ReadsDeclaration autos None kept bytes x) k r) in
      let same : OfIndex (index_text index) ≡ OfTable t = same_text autos (OfIndex (index_text index)) (OfTable t) bytes (of_index autos bytes index f) i f.bytes_are e in
      cc

-- the last of some words, and those before it
record Last (autos : Bool) (s : Schema) (words : List (List ℕ)) (w : List ℕ) (t : Schema) : Type 0 where
  before : Schema
  front : DeclareBehind autos s words before
  here : Declares autos w before (Ok t)

last : (autos : Bool) (words : List (List ℕ)) (s t : Schema) (w : List ℕ) → DeclareBehind autos s (words ++ w ∷ []) t → Last autos s words w t
last autos [] s t w h = record { before = s; front = refl; here = subst (λ (x : Schema). Declares autos w s (Ok x)) h.2 h.1 }
last autos (x ∷ xs) s t w h = let l = last autos xs h.0 t w h.2 in record { before = l.before; front = (h.0, h.1, l.front); here = l.here }

abbrev LacksTable : List ℕ → Schema → Type 0
LacksTable name s = table_named name s.tables ≡ None

-- none of the words up to one is the table
abbrev pub NoTable : Bool → List (List ℕ) → ℕ → List ℕ → Type 0
NoTable autos words n name = (m : Schema) → DenotesWith autos (take n words) m → LacksTable name m

lacks_step : (name : List ℕ) (s : Schema) (t : Table) → LacksTable name s → bytes_eq name t.name ≡ false → LacksTable name (with_table s t)
lacks_step name s t h e = sought_behind name 0 s.tables (t ∷ []) h ∙ ap (λ b. cond b (Some (0 + length s.tables)) None) e

lacks_more : (name : List ℕ) (s t : Schema) (d : DeclarationText) → declared_behind s d ≡ Ok t → LacksTable name s → declares_table name d ≡ false → LacksTable name t
lacks_more name s t (OfTable x) e h k = let same : with_table s (table_of x) ≡ t = cc in subst (LacksTable name) same (lacks_step name s (table_of x) h k)
lacks_more name s t (OfIndex i) e h k = ap (table_named name) (sym (with_index_grows s t (index_among s.tables i) e)) ∙ h

-- one word more that isn't the table
pub no_table_more : (autos : Bool) (words : List (List ℕ)) (n : ℕ) (name : List ℕ) → n < length words → NoTable autos words n name
    → ((d : DeclarationText) → IsDeclaration autos d → get_or words n [] ≡ bytes_of d → declares_table name d ≡ false) → NoTable autos words (n + 1) name
no_table_more autos words n name below none here m h =
    let l = last autos (take n words) nothing_declared m (get_or words n []) (subst (λ (x : List (List ℕ)). DenotesWith autos x m) (take_more words n [] below) h) in
    lacks_more name l.before m l.here.text l.here.makes (none l.before l.front) (here l.here.text l.here.of_grammar l.here.bytes_are)

-- the word that is the index's table
record IsFound (s : Schema) (i : IndexText) (bytes : List ℕ) : Type 0 where
  number : ℕ
  table : TableText
  of_grammar : IsTable table
  bytes_are : bytes ≡ table_bytes table
  among : index_among s.tables i ≡ on_parts i number (parts_among table.columns i)

found_step : (autos : Bool) (s : Schema) (words : List (List ℕ)) (n : ℕ) (i : IndexText) (r : Split autos nothing_declared words n s) (d : DeclarationText) → r.here.text ≡ d → IsDeclaration autos d → get_or words n [] ≡ bytes_of d
    → LacksTable i.table r.before → declares_table i.table d ≡ true → IsFound s i (get_or words n [])
found_step autos s words n i r (OfIndex x) e g b none k = cc
found_step autos s words n i r (OfTable x) e g b none k =
    let more = split_table autos nothing_declared s words n r x e in
    record {
      number = length r.before.tables;
      table = x;
      of_grammar = g;
      bytes_are = b;
      among = ap (λ (l : List Table). index_among l i) more.1 ∙ first_table i r.before.tables more.0 (table_of x) none k;
    }

module _ (autos : Bool) (words : List (List ℕ)) (word n : ℕ) (i : IndexText) (below : n < word) (within : word ≤ length words) (none : NoTable autos words n i.table)
    (here : (d : DeclarationText) → IsDeclaration autos d → get_or words n [] ≡ bytes_of d → declares_table i.table d ≡ true) (s : Schema) (h : DenotesWith autos (take word words) s) where
  found : IsFound s i (get_or words n [])
  found =
      let long : length (take word words) ≡ word = length-take word words ∙ (let k : min word (length words) ≡ word = omega arith in k) in
      let r = split autos n (take word words) nothing_declared s (subst (λ m. n < m) (sym long) below) h in
      let lacks = none r.before (subst (λ (l : List (List ℕ)). DenotesWith autos l r.before) (take-take n word words (omega arith)) r.front) in
      let same : get_or (take word words) n [] ≡ get_or words n [] = get_or-take word words n [] below in
      let bytes : get_or words n [] ≡ bytes_of r.here.text = sym same ∙ r.here.bytes_are in
      subst (IsFound s i) same (found_step autos s (take word words) n i r r.here.text refl r.here.of_grammar r.here.bytes_are lacks (here r.here.text r.here.of_grammar bytes))

  -- the index is what its indexed columns are among the columns of that table
  pub judged_table : {U : Type 0} (o : Result U ℕ)
      → ((t : TableText) → IsTable t → get_or words n [] ≡ table_bytes t → MatchResult o (λ u. (parts : List Part) × (parts_among t.columns i ≡ Ok parts)) (λ at. parts_among t.columns i ≡ Err at))
      → MatchResult o (λ u. (added : Index) × (index_among s.tables i ≡ Ok added)) (λ at. index_among s.tables i ≡ Err at)
  judged_table (Ok u) has =
      let f = found in
      let k = has f.table f.of_grammar f.bytes_are in
      (index_on i f.number k.0, f.among ∙ ap (on_parts i f.number) k.1)
  judged_table (Err at) has =
      let f = found in
      f.among ∙ ap (on_parts i f.number) (has f.table f.of_grammar f.bytes_are)

-- where its table isn't declared, its name is at fault
pub judged_undeclared : (autos : Bool) (words : List (List ℕ)) (word : ℕ) (i : IndexText) → NoTable autos words word i.table
    → (s : Schema) → DenotesWith autos (take word words) s → index_among s.tables i ≡ Err (length (before_table i))
judged_undeclared autos words word i none s h = ap (on_table i s.tables) (none s h)

-- no table stands before all words
pub no_table_first : (autos : Bool) (words : List (List ℕ)) (name : List ℕ) → NoTable autos words 0 name
no_table_first autos words name m h = ap (λ (s : Schema). table_named name s.tables) (sym h)

module _ (autos : Bool) (bytes word : List ℕ) (s : Schema) (read : Declaration) (same : bytes ≡ word) where
  -- a table is declared behind anything
  pub declares_any_table : (table : TableWord) → read ≡ code.Table table → ReadsDeclaration autos None [] bytes read → (after : Schema) × Declares autos word s (Ok after)
  declares_any_table table k r =
      let f = table_facts autos None [] bytes table (subst (λ (x : Declaration). ReadsDeclaration autos None [] bytes x) k r) in
      (with_table s (table_of f.text), record { text = OfTable f.text; of_grammar = f.of_grammar; bytes_are = sym same ∙ f.bytes_are; makes = refl })

  module _ (index : IndexWord) (k : read ≡ code.Index index) (r : ReadsDeclaration autos None [] bytes read) where
    facts : IndexFacts autos word index
    facts = subst (λ (b : List ℕ). IndexFacts autos b index) same (index_facts autos None [] bytes index (subst (λ (x : Declaration). ReadsDeclaration autos None [] bytes x) k r))

    -- an index on a table and a column that are declared
    pub declares_judged : (added : Index) × (index_among s.tables (index_text index) ≡ Ok added) → (after : Schema) × Declares autos word s (Ok after)
    declares_judged h = (
      record { tables = s.tables; indexes = s.indexes ++ h.0 ∷ [] },
      declares_index autos s s.tables word index facts refl (s.indexes ++ h.0 ∷ []) (h.0, h.1, refl),
    )

    -- and one that names what isn't
    pub declares_misnamed : (at : ℕ) → index_among s.tables (index_text index) ≡ Err at → Declares autos word s (Err at)
    declares_misnamed at h = declares_fault autos s s.tables word index facts refl at h
