-- What words declare, one after another.
use Rattle.std.proofs.Common.{◌≡◌, ℕ, zero, suc, ◌+◌, ◌<◌, ◌≤◌, Bool, true, false, cond, ◌||◌, List, [], ◌∷◌, ◌++◌, length, take, get_or, Result, Ok, Err, None, Some, inl, inr, refl, sym, ap, subst, ◌∙◌, arith, append_assoc, append-nil}
use Rattle.std.specs.Prelude.{slice_get}
use Rattle.std.specs.List.{position_from}
use Rattle.block_model.specs.IndexedColumns.{columns_in}
use Rattle.std.specs.Str.{bytes_eq}
use Rattle.std.specs.Result.{is_ok}
use Rattle.std.proofs.lemmas.Bool.{false≢true}
use Rattle.std.proofs.lemmas.List.{take_more, take_all}
use Rattle.block_model.specs.declared.schema.Column.{Column}
use Rattle.block_model.specs.declared.schema.Table.{Table}
use Rattle.block_model.specs.declared.schema.Index.{Index}
use Rattle.block_model.specs.declared.schema.Schema.{Schema}
use Rattle.value_text.proofs.Whole.{one_text}
use Rattle.command_line.specs.DeclarationTexts.{TableText, DeclarationText, OfTable, OfIndex, IndexText, bytes_of, IsDeclaration}
use Rattle.command_line.specs.DeclaredSchema.{table_of, table_named, on_table, on_parts, parts_among, index_among, with_table, with_index, declared_behind, Declares, DeclareBehind, nothing_declared, DenotesWith}
use Rattle.command_line.specs.FirstFault.{IsFaulty, IsFirstFault, Answers}
use Rattle.command_line.specs.declared.declarations.DeclFault.{DeclFault}
use Rattle.command_line.specs.declared.declarations.DeclFault.TheVariants as faults
use Rattle.command_line.specs.DeclarationReading.{declaration_at}
use Rattle.command_line.specs.Words.{has_column}
use Rattle.command_line.proofs.WordReading.{declaration_lawful, declaration_complete}

abbrev Made : Type 0
Made = Result Schema ℕ

-- a word declares one thing
pub declares_one : (autos : Bool) (bytes : List ℕ) (s : Schema) (a b : Made) → Declares autos bytes s a → Declares autos bytes s b → a ≡ b
declares_one autos bytes s a b p q =
    let same : p.text ≡ q.text = one_text (declaration_at autos) bytes_of (IsDeclaration autos) (declaration_lawful autos) (declaration_complete autos) p.text q.text p.of_grammar q.of_grammar (sym p.bytes_are ∙ q.bytes_are) in
    sym p.makes ∙ ap (declared_behind s) same ∙ q.makes

-- and so do words one after another
pub words_one : (autos : Bool) (words : List (List ℕ)) (s a b : Schema) → DeclareBehind autos s words a → DeclareBehind autos s words b → a ≡ b
words_one autos [] s a b h k = sym h ∙ k
words_one autos (w ∷ ws) s a b h k =
    let made : Ok h.0 ≡ Ok k.0 = declares_one autos w s (Ok h.0) (Ok k.0) h.1 k.1 in
    let same : h.0 ≡ k.0 = cc in
    words_one autos ws k.0 a b (subst (λ (x : Schema). DeclareBehind autos x ws a) same h.2) k.2

-- one word more
pub behind_push : (autos : Bool) (words : List (List ℕ)) (s m t : Schema) (w : List ℕ) → DeclareBehind autos s words m → Declares autos w m (Ok t) → DeclareBehind autos s (words ++ w ∷ []) t
behind_push autos [] s m t w h d = (t, subst (λ (x : Schema). Declares autos w x (Ok t)) (sym h) d, refl)
behind_push autos (x ∷ xs) s m t w h d = (h.0, h.1, behind_push autos xs h.0 m t w h.2 d)

-- the words up to one, and it
pub record Split (autos : Bool) (s : Schema) (words : List (List ℕ)) (n : ℕ) (t : Schema) : Type 0 where
  pub before : Schema
  pub after : Schema
  pub front : DeclareBehind autos s (take n words) before
  pub here : Declares autos (get_or words n []) before (Ok after)
  pub rest : List (List ℕ)
  pub back : DeclareBehind autos after rest t

pub split : (autos : Bool) (n : ℕ) (words : List (List ℕ)) (s t : Schema) → n < length words → DeclareBehind autos s words t → Split autos s words n t
split autos n [] s t k h = absurd (omega arith)
split autos zero (w ∷ ws) s t k h = record { before = s; after = h.0; front = refl; here = h.1; rest = ws; back = h.2 }
split autos (suc n) (w ∷ ws) s t k h =
    let r = split autos n ws h.0 t (omega arith) h.2 in
    record { before = r.before; after = r.after; front = (h.0, h.1, r.front); here = r.here; rest = r.rest; back = r.back }

-- a word at fault declares nothing
pub faulty_declares_nothing : (autos : Bool) (s : Schema) (bytes : List ℕ) (at : ℕ) → IsFaulty autos s bytes at → (t : Schema) → Declares autos bytes s (Ok t) → ⊥
faulty_declares_nothing autos s bytes at (inl stops) t d = stops.refused d.text d.of_grammar d.bytes_are
faulty_declares_nothing autos s bytes at (inr fault) t d =
    let k : Err at ≡ Ok t = declares_one autos bytes s (Err at) (Ok t) fault d in
    false≢true (ap is_ok k)

-- words with a fault denote no schema
pub fault_denotes_nothing : (autos : Bool) (words : List (List ℕ)) (word at : ℕ) → IsFirstFault autos words word at → (schema : Schema) → DenotesWith autos words schema → ⊥
fault_denotes_nothing autos words word at f schema h =
    let r = split autos word words nothing_declared schema f.within h in
    let same : r.before ≡ f.before = words_one autos (take word words) nothing_declared r.before f.before r.front f.declared in
    faulty_declares_nothing autos f.before (get_or words word []) at f.faulty r.after (subst (λ (x : Schema). Declares autos (get_or words word []) x (Ok r.after)) same r.here)

abbrev pub is_table : List ℕ → Table → Bool
is_table name t = bytes_eq name t.name

abbrev is_column : List ℕ → Column → Bool
is_column name c = bytes_eq name c.name

none_step : (name : List ℕ) (n : ℕ) (xs ys : List Table) (b : Bool)
    → (position_from (is_table name) (n + 1) xs ≡ None → position_from (is_table name) (n + 1) (xs ++ ys) ≡ position_from (is_table name) (n + 1 + length xs) ys)
    → cond b (Some n) (position_from (is_table name) (n + 1) xs) ≡ None → cond b (Some n) (position_from (is_table name) (n + 1) (xs ++ ys)) ≡ position_from (is_table name) (n + suc (length xs)) ys
none_step name n xs ys true behind e = cc
none_step name n xs ys false behind e = behind e ∙ ap (λ m. position_from (is_table name) m ys) (let k : n + 1 + length xs ≡ n + suc (length xs) = omega arith in k)

-- a table that isn't among the first ones is sought behind them
pub sought_behind : (name : List ℕ) (n : ℕ) (xs ys : List Table) → position_from (is_table name) n xs ≡ None → position_from (is_table name) n (xs ++ ys) ≡ position_from (is_table name) (n + length xs) ys
sought_behind name n [] ys e = ap (λ m. position_from (is_table name) m ys) (let k : n ≡ n + 0 = omega arith in k)
sought_behind name n (x ∷ xs) ys e = none_step name n xs ys (is_table name x) (sought_behind name (n + 1) xs ys) e

found_step : (name : List ℕ) (n : ℕ) (cs : List Column) (b : Bool) → (has_column name cs ≡ true → (k : ℕ) × (position_from (is_column name) (n + 1) cs ≡ Some k))
    → (b || has_column name cs) ≡ true → (k : ℕ) × (cond b (Some n) (position_from (is_column name) (n + 1) cs) ≡ Some k)
found_step name n cs true behind e = (n, refl)
found_step name n cs false behind e = behind e

-- whether a column has the name tells whether it is found
pub column-found : (name : List ℕ) (n : ℕ) (cs : List Column) → has_column name cs ≡ true → (k : ℕ) × (position_from (is_column name) n cs ≡ Some k)
column-found name n [] e = cc
column-found name n (c ∷ cs) e = found_step name n cs (is_column name c) (column-found name (n + 1) cs) e

missing_step : (name : List ℕ) (n : ℕ) (cs : List Column) (b : Bool) → (has_column name cs ≡ false → position_from (is_column name) (n + 1) cs ≡ None)
    → (b || has_column name cs) ≡ false → cond b (Some n) (position_from (is_column name) (n + 1) cs) ≡ None
missing_step name n cs true behind e = cc
missing_step name n cs false behind e = behind e

pub column_missing : (name : List ℕ) (n : ℕ) (cs : List Column) → has_column name cs ≡ false → position_from (is_column name) n cs ≡ None
column_missing name n [] e = refl
column_missing name n (c ∷ cs) e = missing_step name n cs (is_column name c) (column_missing name (n + 1) cs) e

slice_get_seam : (xs ys : List Table) (t : Table) → slice_get (xs ++ t ∷ ys) (length xs) ≡ Some t
slice_get_seam [] ys t = refl
slice_get_seam (x ∷ xs) ys t = slice_get_seam xs ys t

-- the first table of a name behind tables that haven't it
pub first_table : (i : IndexText) (xs ys : List Table) (t : Table) → table_named i.table xs ≡ None → bytes_eq i.table t.name ≡ true
    → index_among (xs ++ t ∷ ys) i ≡ on_parts i (length xs) (parts_among t.columns i)
first_table i xs ys t none here =
    let at : table_named i.table (xs ++ t ∷ ys) ≡ Some (length xs) =
    sought_behind i.table 0 xs (t ∷ ys) none ∙ ap (λ b. cond b (Some (0 + length xs)) (position_from (is_table i.table) (0 + length xs + 1) ys)) here ∙ ap Some (let k : 0 + length xs ≡ length xs = omega arith in k) in
    ap (on_table i (xs ++ t ∷ ys)) at ∙ ap (λ o. on_parts i (length xs) (parts_among (columns_in o) i)) (slice_get_seam xs ys t)

-- the tables of before stand in front
abbrev Grows : Schema → Schema → Type 0
Grows s t = (more : List Table) × (t.tables ≡ s.tables ++ more)

-- an index leaves the tables
pub with_index_grows : (s t : Schema) (o : Result Index ℕ) → with_index s o ≡ Ok t → s.tables ≡ t.tables
with_index_grows s t (Ok index) e = let k : record { tables = s.tables; indexes = s.indexes ++ index ∷ [] } ≡ t = cc in ap (λ (x : Schema). x.tables) k
with_index_grows s t (Err at) e = absurd (false≢true (ap is_ok e))

declaration_grows : (s t : Schema) (d : DeclarationText) → declared_behind s d ≡ Ok t → Grows s t
declaration_grows s t (OfTable x) e = (table_of x ∷ [], (let k : with_table s (table_of x) ≡ t = cc in sym (ap (λ (x : Schema). x.tables) k)))
declaration_grows s t (OfIndex i) e = ([], sym (append-nil s.tables ∙ with_index_grows s t (index_among s.tables i) e))

-- words one after another keep the tables in front
pub words_grow : (autos : Bool) (words : List (List ℕ)) (s t : Schema) → DeclareBehind autos s words t → Grows s t
words_grow autos [] s t h = ([], sym (append-nil s.tables ∙ ap (λ (x : Schema). x.tables) h))
words_grow autos (w ∷ ws) s t h =
    let first = declaration_grows s h.0 h.1.text h.1.makes in
    let more = words_grow autos ws h.0 t h.2 in
    (first.0 ++ more.0, more.1 ∙ ap (λ l. l ++ more.0) first.1 ∙ append_assoc s.tables first.0 more.0)

-- and a table declared behind tables stands behind them
pub split_table : (autos : Bool) (s t : Schema) (words : List (List ℕ)) (n : ℕ) (r : Split autos s words n t) (x : TableText) → r.here.text ≡ OfTable x → (more : List Table) × (t.tables ≡ r.before.tables ++ table_of x ∷ more)
split_table autos s t words n r x e =
    let made : Ok (with_table r.before (table_of x)) ≡ Ok r.after = sym (ap (declared_behind r.before) e) ∙ r.here.makes in
    let same : with_table r.before (table_of x) ≡ r.after = cc in
    let more = words_grow autos r.rest r.after t r.back in
    (more.0, more.1 ∙ ap (λ (u : Schema). u.tables ++ more.0) (sym same) ∙ append_assoc r.before.tables (table_of x ∷ []) more.0)

-- one word more that is a declaration
pub denotes_push : (autos : Bool) (words : List (List ℕ)) (n : ℕ) (m t : Schema) (bytes : List ℕ) → n < length words → bytes ≡ get_or words n [] → DenotesWith autos (take n words) m → Declares autos bytes m (Ok t) → DenotesWith autos (take (n + 1) words) t
denotes_push autos words n m t bytes below same h d =
    subst (λ (l : List (List ℕ)). DenotesWith autos l t) (sym (take_more words n [] below))
    (behind_push autos (take n words) nothing_declared m t (get_or words n []) h (subst (λ (b : List ℕ). Declares autos b m (Ok t)) same d))

-- all words
pub denotes_all : (autos : Bool) (words : List (List ℕ)) (n : ℕ) (s : Schema) → length words ≤ n → DenotesWith autos (take n words) s → DenotesWith autos words s
denotes_all autos words n s h d = subst (λ (l : List (List ℕ)). DenotesWith autos l s) (take_all n words h) d

-- the first word that is at fault
pub first-fault : (autos : Bool) (words : List (List ℕ)) (n at : ℕ) (s : Schema) (bytes : List ℕ) → n < length words → bytes ≡ get_or words n [] → DenotesWith autos (take n words) s → IsFaulty autos s bytes at → IsFirstFault autos words n at
first-fault autos words n at s bytes below same h f = record { before = s; declared = h; within = below; faulty = subst (λ (b : List ℕ). IsFaulty autos s b at) same f }

-- a first fault that is told is the one that was found
pub told_fault : (autos : Bool) (words : List (List ℕ)) (n at : ℕ) → IsFirstFault autos words n at → (word place : ℕ) → faults.Form n at ≡ faults.Form word place → IsFirstFault autos words word place
told_fault autos words n at f word place e =
    let same : n ≡ word = cc in
    let here : at ≡ place = cc in
    subst (λ k. IsFirstFault autos words word k) here (subst (λ k. IsFirstFault autos words k at) same f)

-- a first fault, or want of memory, is answered rightly
pub answers_fault : (autos : Bool) (words : List (List ℕ)) (fault : DeclFault) → ((word at : ℕ) → fault ≡ faults.Form word at → IsFirstFault autos words word at) → (schema : Schema) → DenotesWith autos words schema → Answers schema (Err fault)
answers_fault autos words (faults.Form word at) f schema h = fault_denotes_nothing autos words word at (f word at refl) schema h
answers_fault autos words faults.Memory f schema h = tt
