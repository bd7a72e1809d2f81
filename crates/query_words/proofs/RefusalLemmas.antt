-- Statements are refused at their first word that is out of place.
use Rattle.std.proofs.Common.{◌≡◌, ◌⊎◌, inl, inr, ℕ, ◌+◌, ◌≤◌, Bool, true, false, cond, List, [], ◌∷◌, ◌++◌, map, Option, None, Some, Result, Ok, Err, refl, sym, ap, subst, ◌∙◌, arith}
use Rattle.std.specs.List.{AllByRecursion, flat_map}
use Rattle.std.specs.Option.{option_map, option_and_then}
use Rattle.std.specs.Str.{bytes_eq}
use Rattle.std.proofs.lemmas.Bool.{false≢true}
use Rattle.std.proofs.lemmas.Slice.Eq.{bytes_eq-Decides}
use Rattle.block_model.specs.declared.value.Kind.{Kind}
use Rattle.block_model.specs.declared.value.Value.{Value}
use Rattle.block_model.specs.declared.value.Value.TheVariants as values
use Rattle.block_model.specs.declared.value.Op.{Op}
use Rattle.block_model.specs.declared.value.Op.TheVariants as ops
use Rattle.block_model.specs.declared.row.Cond.{Cond}
use Rattle.block_model.specs.declared.row.Query.{Query}
use Rattle.block_model.specs.declared.schema.Schema.{Schema}
use Rattle.block_model.specs.declared.schema.Table.{Table}
use Rattle.block_model.specs.declared.schema.Column.{Column}
use Rattle.block_model.specs.declared.schema.Index.{Index}
use Rattle.value_text.specs.ValueTexts.{Denotes}
use Rattle.value_text.specs.ValueOf.{value_of, ValueOfIsDenoted}
use Rattle.store_layout.specs.OperatorKinds.{takes_operator}
use Rattle.store_layout.specs.declared.statement.Statement.{Statement}
use Rattle.store_layout.specs.declared.statement.Statement.TheVariants as statements
use Rattle.query_words.specs.Words.{PlacedWord}
use Rattle.query_words.specs.Operators.{op_of}
use Rattle.query_words.specs.Blocks.{block_of}
use Rattle.query_words.specs.declared.line.LineFault.{LineFault}
use Rattle.query_words.specs.declared.line.LineFault.TheVariants as faults
use Rattle.query_words.specs.Grammar.{SaidCond, Compared, Null, NotNull, SaidStatement, Begin, Commit, Rollback, Insert, Select, Delete, Explain, Summarize, Desummarize, Vacuum, Work}
use Rattle.query_words.specs.Statements.{◌>>=◌, or_fault, table_from, index_from, column_from, op_in, op_said, value_said, cond_on, conds_said, values_said, statement_said}
use Rattle.query_words.specs.RefusalPlaces.{IsFirstNamed, LacksTable, LacksIndex, LacksColumn, HasColumn, IsCondOut, AreCondsOut, AreValuesOut, table_word, index_word, IsOut, places_of, places_behind, Ascends, IsAnswered, PlacesOfRefusals}

told_step : (a b : List ℕ) (t : Bool) → bytes_eq a b ≡ t → (bytes_eq a b ≡ true) × (a ≡ b) ⊎ (bytes_eq a b ≡ false) × ¬ (a ≡ b)
told_step a b true e = inl (e, (bytes_eq-Decides a b).0 e)
told_step a b false e = inr (e, λ k. false≢true (sym e ∙ (bytes_eq-Decides a b).1 k))

-- two texts are told apart
told : (a b : List ℕ) → (bytes_eq a b ≡ true) × (a ≡ b) ⊎ (bytes_eq a b ≡ false) × ¬ (a ≡ b)
told a b = told_step a b (bytes_eq a b) refl

abbrev table_next : ℕ → Table → Option (ℕ × List Column) → Bool → Option (ℕ × List Column)
table_next n table rest b = cond b (Some (n, table.columns)) rest

-- a table that isn't there isn't found
table_none : (n : ℕ) (tables : List Table) (name : List ℕ) → AllByRecursion (λ t. ¬ (t.name ≡ name)) tables → table_from n tables name ≡ None
table_none n [] name h = refl
table_none n (table ∷ tables) name h =
    elim (told table.name name) as (λ _. table_from n (table ∷ tables) name ≡ None) [
      | inl same ↦ absurd (h.0 same.1)
      | inr other ↦ ap (table_next n table (table_from (n + 1) tables name)) other.0 ∙ table_none (n + 1) tables name h.1
    ]

-- and one that is, is
table_found : (n : ℕ) (tables : List Table) (name : List ℕ) (table : Table) → IsFirstNamed (λ (t : Table). t.name) name tables table → (k : ℕ) × (table_from n tables name ≡ Some (k, table.columns))
table_found n [] name table h = absurd h
table_found n (x ∷ xs) name table (inl h) =
    elim (told x.name name) as (λ _. (k : ℕ) × (table_from n (x ∷ xs) name ≡ Some (k, table.columns))) [
      | inl same ↦ (n, ap (table_next n x (table_from (n + 1) xs name)) same.0 ∙ ap (λ (t : Table). Some (n, t.columns)) h.1)
      | inr other ↦ absurd (other.1 h.0)
    ]
table_found n (x ∷ xs) name table (inr h) =
    elim (told x.name name) as (λ _. (k : ℕ) × (table_from n (x ∷ xs) name ≡ Some (k, table.columns))) [
      | inl same ↦ absurd (h.0 same.1)
      | inr other ↦ let r = table_found (n + 1) xs name table h.1 in (r.0, ap (table_next n x (table_from (n + 1) xs name)) other.0 ∙ r.1)
    ]

abbrev index_next : ℕ → Option ℕ → Bool → Option ℕ
index_next n rest b = cond b (Some n) rest

-- so it is with indexes
index_none : (n : ℕ) (indexes : List Index) (name : List ℕ) → AllByRecursion (λ (i : Index). ¬ (i.name ≡ name)) indexes → index_from n indexes name ≡ None
index_none n [] name h = refl
index_none n (index ∷ indexes) name h =
    elim (told index.name name) as (λ _. index_from n (index ∷ indexes) name ≡ None) [
      | inl same ↦ absurd (h.0 same.1)
      | inr other ↦ ap (index_next n (index_from (n + 1) indexes name)) other.0 ∙ index_none (n + 1) indexes name h.1
    ]

index_found : (n : ℕ) (indexes : List Index) (name : List ℕ) (index : Index) → IsFirstNamed (λ (i : Index). i.name) name indexes index → (k : ℕ) × (index_from n indexes name ≡ Some k)
index_found n [] name index h = absurd h
index_found n (x ∷ xs) name index (inl h) =
    elim (told x.name name) as (λ _. (k : ℕ) × (index_from n (x ∷ xs) name ≡ Some k)) [
      | inl same ↦ (n, ap (index_next n (index_from (n + 1) xs name)) same.0)
      | inr other ↦ absurd (other.1 h.0)
    ]
index_found n (x ∷ xs) name index (inr h) =
    elim (told x.name name) as (λ _. (k : ℕ) × (index_from n (x ∷ xs) name ≡ Some k)) [
      | inl same ↦ absurd (h.0 same.1)
      | inr other ↦ let r = index_found (n + 1) xs name index h.1 in (r.0, ap (index_next n (index_from (n + 1) xs name)) other.0 ∙ r.1)
    ]

abbrev column_next : ℕ → Column → Option (ℕ × Kind) → Bool → Option (ℕ × Kind)
column_next n column rest b = cond b (Some (n, column.kind)) rest

-- what the look for a column finds
abbrev Found : List Column → List ℕ → Option (ℕ × Kind) → Type 0
Found columns name None = AllByRecursion (λ (c : Column). ¬ (c.name ≡ name)) columns
Found columns name (Some x) = (column : Column) × IsFirstNamed (λ (c : Column). c.name) name columns column × (column.kind ≡ x.1)

found_behind : (c : Column) (cs : List Column) (name : List ℕ) (o : Option (ℕ × Kind)) → ¬ (c.name ≡ name) → Found cs name o → Found (c ∷ cs) name o
found_behind c cs name None ne h = (ne, h)
found_behind c cs name (Some x) ne h = (h.0, inr (ne, h.1), h.2)

column_found : (n : ℕ) (columns : List Column) (name : List ℕ) → Found columns name (column_from n columns name)
column_found n [] name = tt
column_found n (c ∷ cs) name =
    elim (told c.name name) as (λ _. Found (c ∷ cs) name (column_from n (c ∷ cs) name)) [
      | inl same ↦ subst (Found (c ∷ cs) name) (sym (ap (column_next n c (column_from (n + 1) cs name)) same.0)) (c, inl (same.1, refl), refl)
      | inr other ↦ subst (Found (c ∷ cs) name) (sym (ap (column_next n c (column_from (n + 1) cs name)) other.0)) (found_behind c cs name (column_from (n + 1) cs name) other.1 (column_found (n + 1) cs name))
    ]

-- a first name has one kind
one_kind : (columns : List Column) (word : PlacedWord) (kind other : Kind) → HasColumn columns word kind → HasColumn columns word other → kind ≡ other
one_kind [] word kind other h k = absurd h.1
one_kind (c ∷ cs) word kind other (a, inl p, e) (b, inl q, f) = sym e ∙ ap (λ (x : Column). x.kind) (sym p.1) ∙ ap (λ (x : Column). x.kind) q.1 ∙ f
one_kind (c ∷ cs) word kind other (a, inl p, e) (b, inr q, f) = absurd (q.0 p.0)
one_kind (c ∷ cs) word kind other (a, inr p, e) (b, inl q, f) = absurd (p.0 q.0)
one_kind (c ∷ cs) word kind other (a, inr p, e) (b, inr q, f) = one_kind cs word kind other (a, p.1, e) (b, q.1, f)

-- a column that is there isn't lacking
not_both : (columns : List Column) (word : PlacedWord) (kind : Kind) → HasColumn columns word kind → LacksColumn columns word → ⊥
not_both [] word kind h l = absurd h.1
not_both (c ∷ cs) word kind (a, inl p, e) l = l.0 p.0
not_both (c ∷ cs) word kind (a, inr p, e) l = not_both cs word kind (a, p.1, e) l.1

abbrev only_if : Op → Bool → Option Op
only_if op b = cond b (Some op) None

-- what the look for an operator of the kind finds
abbrev TookOp : Kind → List ℕ → Option Op → Type 0
TookOp kind word None = (op : Op) → op_of word ≡ Some op → takes_operator kind op ≡ false
TookOp kind word (Some op) = (op_of word ≡ Some op) × (takes_operator kind op ≡ true)

took_step : (kind : Kind) (word : List ℕ) (op : Op) (b : Bool) → op_of word ≡ Some op → takes_operator kind op ≡ b → TookOp kind word (only_if op b)
took_step kind word op true e k = (e, k)
took_step kind word op false e k = λ other f. let same : op ≡ other = (let s : Some op ≡ Some other = sym e ∙ f in cc) in subst (λ (o : Op). takes_operator kind o ≡ false) same k

took_of : (kind : Kind) (word : List ℕ) (o : Option Op) → op_of word ≡ o → TookOp kind word (option_and_then (λ op. only_if op (takes_operator kind op)) o)
took_of kind word None e = λ op f. let none : None ≡ Some op = sym e ∙ f in cc
took_of kind word (Some op) e = took_step kind word op (takes_operator kind op) e refl

took : (kind : Kind) (word : List ℕ) → TookOp kind word (op_in kind word)
took kind word = took_of kind word (op_of word) refl

-- each number that ascends is at least the bound
ascends_weaker : (a b : ℕ) (ns : List ℕ) → a ≤ b → Ascends b ns → Ascends a ns
ascends_weaker a b [] h k = tt
ascends_weaker a b (n ∷ ns) h k = (omega (arith, k.0), k.1)

module _ (denoted : ValueOfIsDenoted) where
  -- what the look for a value finds
  abbrev Valued : Kind → List ℕ → Option Value → Type 0
  Valued kind word None = (value : Value) → ¬ (Denotes kind word (Ok value))
  Valued kind word (Some value) = Denotes kind word (Ok value)

  valued_step : (kind : Kind) (word : List ℕ) (o : Option Value) → value_of kind word ≡ o → Valued kind word o
  valued_step kind word None e = λ value d. let k : Some value ≡ None = sym ((denoted kind word value).1 d) ∙ e in cc
  valued_step kind word (Some value) e = (denoted kind word value).0 e

  valued : (kind : Kind) (word : List ℕ) → Valued kind word (value_of kind word)
  valued kind word = valued_step kind word (value_of kind word) refl

  module _ (columns : List Column) where
    -- no place of a word is below the bound
    column_bound : (conds : List (SaidCond PlacedWord)) (bound : ℕ) → Ascends bound (flat_map places_of conds) → (at : ℕ) → AreCondsOut columns conds at → bound ≤ at
    column_bound [] bound h at o = absurd o
    column_bound (Compared c p v ∷ conds) bound h at (inl (inl o)) = omega (arith, h.0, o.0)
    column_bound (Compared c p v ∷ conds) bound h at (inl (inr (inl o))) = omega (arith, h.0, h.1.0, o.0)
    column_bound (Compared c p v ∷ conds) bound h at (inl (inr (inr o))) = omega (arith, h.0, h.1.0, h.1.1.0, o.0)
    column_bound (Compared c p v ∷ conds) bound h at (inr o) = omega (arith, h.0, h.1.0, h.1.1.0, column_bound conds (v.at + 1) h.1.1.1 at o)
    column_bound (Null c ∷ conds) bound h at (inl o) = omega (arith, h.0, o.0)
    column_bound (Null c ∷ conds) bound h at (inr o) = omega (arith, h.0, column_bound conds (c.at + 1) h.1 at o)
    column_bound (NotNull c ∷ conds) bound h at (inl o) = omega (arith, h.0, o.0)
    column_bound (NotNull c ∷ conds) bound h at (inr o) = omega (arith, h.0, column_bound conds (c.at + 1) h.1 at o)

    abbrev Out : List (SaidCond PlacedWord) → ℕ → Type 0
    Out conds at = AreCondsOut columns conds at

    -- behind a condition whose words are in place the others decide
    behind : {T : Type 0} (cond : SaidCond PlacedWord) (conds : List (SaidCond PlacedWord)) (r : Result T LineFault) → ((at : ℕ) → ¬ (IsCondOut columns cond at)) → IsAnswered (Out conds) r → IsAnswered (Out (cond ∷ conds)) r
    behind cond conds (Ok read) none h = λ at o. elim o as (λ _. ⊥) [ inl here ↦ none at here | inr there ↦ h at there ]
    behind cond conds (Err (faults.NoColumn at)) none h = (inr h.0, λ other o. elim o as (λ _. at ≤ other) [ inl here ↦ absurd (none other here) | inr there ↦ h.1 other there ])
    behind cond conds (Err (faults.Kind at)) none h = (inr h.0, λ other o. elim o as (λ _. at ≤ other) [ inl here ↦ absurd (none other here) | inr there ↦ h.1 other there ])
    behind cond conds (Err (faults.Syntax at)) none h = h
    behind cond conds (Err (faults.NoTable at)) none h = h
    behind cond conds (Err (faults.NoIndex at)) none h = h
    behind cond conds (Err faults.Memory) none h = h

    -- what is said of the value of a condition whose column and operator are in place
    value_step : (c p v : PlacedWord) (conds : List (SaidCond PlacedWord)) (done : List Cond) (n : ℕ) (kind : Kind) (op : Op) (o : Option Value) → HasColumn columns c kind → TookOp kind p.text (Some op) → Valued kind v.text o
        → Ascends 0 (flat_map places_of (Compared c p v ∷ conds)) → ((more : List Cond) → IsAnswered (Out conds) (conds_said columns more conds))
        → IsAnswered (Out (Compared c p v ∷ conds)) ((or_fault (faults.Kind v.at) o >>= λ v. Ok (cond_on n op v)) >>= λ c. conds_said columns (done ++ c ∷ []) conds)
    value_step c p v conds done n kind op None has took none up more = (
      inl (inr (inr (refl, (kind, has, none)))),
      λ other o. elim o as (λ _. v.at ≤ other) [
        | inl (inl here) ↦ absurd (not_both columns c kind has here.1)
        | inl (inr (inl here)) ↦ absurd (false≢true (sym (subst (λ (k : Kind). takes_operator k op ≡ false) (one_kind columns c here.1.0 kind here.1.1 has) (here.1.2 op took.0)) ∙ took.1))
        | inl (inr (inr here)) ↦ omega (arith, here.0)
        | inr there ↦ omega (arith, column_bound conds (v.at + 1) up.1.1.1 other there)
      ],
    )
    value_step c p v conds done n kind op (Some value) has took some up more =
        behind (Compared c p v) conds (conds_said columns (done ++ cond_on n op value ∷ []) conds)
        (λ at o. elim o as (λ _. ⊥) [
          | inl here ↦ not_both columns c kind has here.1
          | inr (inl here) ↦ false≢true (sym (subst (λ (k : Kind). takes_operator k op ≡ false) (one_kind columns c here.1.0 kind here.1.1 has) (here.1.2 op took.0)) ∙ took.1)
          | inr (inr here) ↦ here.1.2 value (subst (λ (k : Kind). Denotes k v.text (Ok value)) (one_kind columns c kind here.1.0 has here.1.1) some)
        ])
        (more (done ++ cond_on n op value ∷ []))

    -- of its operator
    op_step : (c p v : PlacedWord) (conds : List (SaidCond PlacedWord)) (done : List Cond) (n : ℕ) (kind : Kind) (o : Option Op) → HasColumn columns c kind → TookOp kind p.text o
        → Ascends 0 (flat_map places_of (Compared c p v ∷ conds)) → ((more : List Cond) → IsAnswered (Out conds) (conds_said columns more conds))
        → IsAnswered (Out (Compared c p v ∷ conds)) ((or_fault (faults.Kind p.at) o >>= λ op. value_said kind v >>= λ v. Ok (cond_on n op v)) >>= λ c. conds_said columns (done ++ c ∷ []) conds)
    op_step c p v conds done n kind None has none up more = (
      inl (inr (inl (refl, (kind, has, none)))),
      λ other o. elim o as (λ _. p.at ≤ other) [
        | inl (inl here) ↦ absurd (not_both columns c kind has here.1)
        | inl (inr (inl here)) ↦ omega (arith, here.0)
        | inl (inr (inr here)) ↦ omega (arith, here.0, up.1.1.0)
        | inr there ↦ omega (arith, up.1.1.0, column_bound conds (v.at + 1) up.1.1.1 other there)
      ],
    )
    op_step c p v conds done n kind (Some op) has took up more = value_step c p v conds done n kind op (value_of kind v.text) has took (valued kind v.text) up more

    -- and of its column
    column_step : (c p v : PlacedWord) (conds : List (SaidCond PlacedWord)) (done : List Cond) (o : Option (ℕ × Kind)) → Found columns c.text o
        → Ascends 0 (flat_map places_of (Compared c p v ∷ conds)) → ((more : List Cond) → IsAnswered (Out conds) (conds_said columns more conds))
        → IsAnswered (Out (Compared c p v ∷ conds)) ((or_fault (faults.NoColumn c.at) o >>= λ x. op_said x.1 p >>= λ op. value_said x.1 v >>= λ v. Ok (cond_on x.0 op v)) >>= λ c. conds_said columns (done ++ c ∷ []) conds)
    column_step c p v conds done None none up more = (
      inl (inl (refl, none)),
      λ other o. elim o as (λ _. c.at ≤ other) [
        | inl (inl here) ↦ omega (arith, here.0)
        | inl (inr (inl here)) ↦ omega (arith, here.0, up.1.0)
        | inl (inr (inr here)) ↦ omega (arith, here.0, up.1.0, up.1.1.0)
        | inr there ↦ omega (arith, up.1.0, up.1.1.0, column_bound conds (v.at + 1) up.1.1.1 other there)
      ],
    )
    column_step c p v conds done (Some x) found up more = op_step c p v conds done x.0 x.1 (op_in x.1 p.text) found (took x.1 p.text) up more

    -- a test for null has a column alone
    test_step : (cond : SaidCond PlacedWord) (c : PlacedWord) (op : Op) (conds : List (SaidCond PlacedWord)) (done : List Cond) (o : Option (ℕ × Kind)) → ((at : ℕ) → IsCondOut columns cond at → (c.at ≡ at) × LacksColumn columns c) → ((at : ℕ) → (c.at ≡ at) × LacksColumn columns c → IsCondOut columns cond at) → Found columns c.text o
        → Ascends 0 (c.at ∷ flat_map places_of conds) → ((more : List Cond) → IsAnswered (Out conds) (conds_said columns more conds))
        → IsAnswered (Out (cond ∷ conds)) ((or_fault (faults.NoColumn c.at) o >>= λ x. Ok (cond_on x.0 op values.Null)) >>= λ c. conds_said columns (done ++ c ∷ []) conds)
    test_step cond c op conds done None says said none up more = (
      inl (said c.at (refl, none)),
      λ other o. elim o as (λ _. c.at ≤ other) [
        | inl here ↦ omega (arith, (says other here).0)
        | inr there ↦ omega (arith, column_bound conds (c.at + 1) up.1 other there)
      ],
    )
    test_step cond c op conds done (Some x) says said found up more =
        behind cond conds (conds_said columns (done ++ cond_on x.0 op values.Null ∷ []) conds)
        (λ at o. not_both columns c x.1 found (says at o).1)
        (more (done ++ cond_on x.0 op values.Null ∷ []))

    conds_answered : (conds : List (SaidCond PlacedWord)) (done : List Cond) → Ascends 0 (flat_map places_of conds) → IsAnswered (Out conds) (conds_said columns done conds)
    conds_answered [] done up = λ at o. o
    conds_answered (Compared c p v ∷ conds) done up =
        column_step c p v conds done (column_from 0 columns c.text) (column_found 0 columns c.text) up (λ more. conds_answered conds more (ascends_weaker 0 (v.at + 1) (flat_map places_of conds) (omega arith) up.1.1.1))
    conds_answered (Null c ∷ conds) done up =
        test_step (Null c) c ops.IsNull conds done (column_from 0 columns c.text) (λ at o. o) (λ at o. o) (column_found 0 columns c.text) up (λ more. conds_answered conds more (ascends_weaker 0 (c.at + 1) (flat_map places_of conds) (omega arith) up.1))
    conds_answered (NotNull c ∷ conds) done up =
        test_step (NotNull c) c ops.NotNull conds done (column_from 0 columns c.text) (λ at o. o) (λ at o. o) (column_found 0 columns c.text) up (λ more. conds_answered conds more (ascends_weaker 0 (c.at + 1) (flat_map places_of conds) (omega arith) up.1))

  module _ (length : ℕ) where
    -- no place of a value is below the bound
    value_bound : (columns : List Column) (words : List PlacedWord) (bound : ℕ) → Ascends bound (map (λ v. v.at) words ++ length ∷ []) → (at : ℕ) → AreValuesOut length columns words at → bound ≤ at
    value_bound [] [] bound h at o = absurd o
    value_bound [] (w ∷ ws) bound h at (inl o) = omega (arith, h.0, o)
    value_bound [] (w ∷ ws) bound h at (inr o) = omega (arith, h.0, value_bound [] ws (w.at + 1) h.1 at o)
    value_bound (c ∷ cs) [] bound h at o = omega (arith, h.0, o)
    value_bound (c ∷ cs) (w ∷ ws) bound h at (inl o) = omega (arith, h.0, o.0)
    value_bound (c ∷ cs) (w ∷ ws) bound h at (inr o) = omega (arith, h.0, value_bound cs ws (w.at + 1) h.1 at o)

    -- behind a value that is in place the others decide
    behind_value : {T : Type 0} (c : Column) (cs : List Column) (w : PlacedWord) (ws : List PlacedWord) (value : Value) (r : Result T LineFault) → Denotes c.kind w.text (Ok value)
        → IsAnswered (AreValuesOut length cs ws) r → IsAnswered (AreValuesOut length (c ∷ cs) (w ∷ ws)) r
    behind_value c cs w ws value (Ok read) d h = λ at o. elim o as (λ _. ⊥) [ inl here ↦ here.1 value d | inr there ↦ h at there ]
    behind_value c cs w ws value (Err (faults.NoColumn at)) d h = (inr h.0, λ other o. elim o as (λ _. at ≤ other) [ inl here ↦ absurd (here.1 value d) | inr there ↦ h.1 other there ])
    behind_value c cs w ws value (Err (faults.Kind at)) d h = (inr h.0, λ other o. elim o as (λ _. at ≤ other) [ inl here ↦ absurd (here.1 value d) | inr there ↦ h.1 other there ])
    behind_value c cs w ws value (Err (faults.Syntax at)) d h = h
    behind_value c cs w ws value (Err (faults.NoTable at)) d h = h
    behind_value c cs w ws value (Err (faults.NoIndex at)) d h = h
    behind_value c cs w ws value (Err faults.Memory) d h = h

    values_step : (c : Column) (cs : List Column) (w : PlacedWord) (ws : List PlacedWord) (done : List Value) (o : Option Value) → Valued c.kind w.text o → Ascends 0 (w.at ∷ map (λ v. v.at) ws ++ length ∷ [])
        → ((more : List Value) → IsAnswered (AreValuesOut length cs ws) (values_said length more cs ws))
        → IsAnswered (AreValuesOut length (c ∷ cs) (w ∷ ws)) (or_fault (faults.Kind w.at) o >>= λ v. values_said length (done ++ v ∷ []) cs ws)
    values_step c cs w ws done None none up more =
        (inl (refl, none), λ other o. elim o as (λ _. w.at ≤ other) [ inl here ↦ omega (arith, here.0) | inr there ↦ omega (arith, value_bound cs ws (w.at + 1) up.1 other there) ])
    values_step c cs w ws done (Some value) some up more = behind_value c cs w ws value (values_said length (done ++ value ∷ []) cs ws) some (more (done ++ value ∷ []))

    values_answered : (columns : List Column) (words : List PlacedWord) (done : List Value) → Ascends 0 (map (λ v. v.at) words ++ length ∷ []) → IsAnswered (AreValuesOut length columns words) (values_said length done columns words)
    values_answered [] [] done up = λ at o. o
    values_answered [] (w ∷ ws) done up = (inl refl, λ other o. elim o as (λ _. w.at ≤ other) [ inl here ↦ omega (arith, here) | inr there ↦ omega (arith, value_bound [] ws (w.at + 1) up.1 other there) ])
    values_answered (c ∷ cs) [] done up = (refl, λ other o. omega (arith, o))
    values_answered (c ∷ cs) (w ∷ ws) done up =
        values_step c cs w ws done (value_of c.kind w.text) (valued c.kind w.text) up
        (λ more. values_answered cs ws more (ascends_weaker 0 (w.at + 1) (map (λ v. v.at) ws ++ length ∷ []) (omega arith) up.1))

  -- what is made of an answer is answered alike
  made : {S T : Type 0} (Out : ℕ → Type 0) (f : S → T) (r : Result S LineFault) → IsAnswered Out r → IsAnswered Out (r >>= λ x. Ok (f x))
  made Out f (Ok read) h = h
  made Out f (Err (faults.NoColumn at)) h = h
  made Out f (Err (faults.Kind at)) h = h
  made Out f (Err (faults.Syntax at)) h = h
  made Out f (Err (faults.NoTable at)) h = h
  made Out f (Err (faults.NoIndex at)) h = h
  made Out f (Err faults.Memory) h = h

  module _ (schema : Schema) (length : ℕ) where
    abbrev Tables : Type 0
    Tables = Option (ℕ × List Column)

    abbrev inserted : PlacedWord → List PlacedWord → Tables → Result Statement LineFault
    inserted table values o = or_fault (faults.NoTable table.at) o >>= λ t. values_said length [] t.1 values >>= λ vs. Ok (statements.Insert t.0 vs)

    abbrev queried : PlacedWord → List (SaidCond PlacedWord) → (Query → Statement) → Tables → Result Statement LineFault
    queried table conds f o = (or_fault (faults.NoTable table.at) o >>= λ t. conds_said t.1 [] conds >>= λ cs. Ok (record { table = t.0; conds = cs })) >>= λ q. Ok (f q)

    abbrev vacuumed : PlacedWord → Tables → Result Statement LineFault
    vacuumed table o = or_fault (faults.NoTable table.at) o >>= λ t. Ok (statements.Vacuum t.0)

    abbrev summarized : PlacedWord → Option PlacedWord → Option ℕ → Result Statement LineFault
    summarized index block o = or_fault (faults.NoIndex index.at) o >>= λ i. Ok (statements.Summarize i (option_map (λ (b : PlacedWord). block_of b.text) block))

    abbrev desummarized : PlacedWord → PlacedWord → Option ℕ → Result Statement LineFault
    desummarized index block o = or_fault (faults.NoIndex index.at) o >>= λ i. Ok (statements.Desummarize i (block_of block.text))

    abbrev found_in : PlacedWord → Tables
    found_in table = table_from 0 schema.tables table.text

    none_in : (table word : PlacedWord) → Some table ≡ Some word → LacksTable schema word → found_in table ≡ None
    none_in table word e h = let same : table ≡ word = cc in table_none 0 schema.tables table.text (subst (λ (w : PlacedWord). LacksTable schema w) (sym same) h)

    told_at : (table word : PlacedWord) → Some table ≡ Some word → table.at ≡ word.at
    told_at table word e = let same : table ≡ word = cc in ap (λ (w : PlacedWord). w.at) same

    no_table : (statement : SaidStatement PlacedWord) (table : PlacedWord) → table_word statement ≡ Some table → LacksTable schema table → statement_said schema length statement ≡ Err (faults.NoTable table.at)
    no_table Begin table e h = cc
    no_table Commit table e h = cc
    no_table Rollback table e h = cc
    no_table (Insert t vs) table e h = ap (inserted t vs) (none_in t table e h) ∙ ap (λ n. Err (faults.NoTable n)) (told_at t table e)
    no_table (Select t cs) table e h = ap (queried t cs statements.Select) (none_in t table e h) ∙ ap (λ n. Err (faults.NoTable n)) (told_at t table e)
    no_table (Delete t cs) table e h = ap (queried t cs statements.Delete) (none_in t table e h) ∙ ap (λ n. Err (faults.NoTable n)) (told_at t table e)
    no_table (Explain t cs) table e h = ap (queried t cs statements.Explain) (none_in t table e h) ∙ ap (λ n. Err (faults.NoTable n)) (told_at t table e)
    no_table (Summarize i b) table e h = cc
    no_table (Desummarize i b) table e h = cc
    no_table (Vacuum t) table e h = ap (vacuumed t) (none_in t table e h) ∙ ap (λ n. Err (faults.NoTable n)) (told_at t table e)
    no_table Work table e h = cc

    one_found : (t table : PlacedWord) (declared : Table) → Some t ≡ Some table → IsFirstNamed (λ (t : Table). t.name) table.text schema.tables declared → (k : ℕ) × (found_in t ≡ Some (k, declared.columns))
    one_found t table declared e h = let same : t ≡ table = cc in table_found 0 schema.tables t.text declared (subst (λ (w : PlacedWord). IsFirstNamed (λ (t : Table). t.name) w.text schema.tables declared) (sym same) h)

    module _ (declared : Table) where
      query_answered : (t : PlacedWord) (cs : List (SaidCond PlacedWord)) (f : Query → Statement) → (k : ℕ) × (found_in t ≡ Some (k, declared.columns)) → Ascends 0 (flat_map places_of cs)
          → IsAnswered (AreCondsOut declared.columns cs) (queried t cs f (found_in t))
      query_answered t cs f found up =
          subst (λ (o : Tables). IsAnswered (AreCondsOut declared.columns cs) (queried t cs f o)) (sym found.1)
          (made (AreCondsOut declared.columns cs) f (conds_said declared.columns [] cs >>= λ c. Ok (record { table = found.0; conds = c }))
          (made (AreCondsOut declared.columns cs) (λ (c : List Cond). record { table = found.0; conds = c }) (conds_said declared.columns [] cs) (conds_answered declared.columns cs [] up)))

      insert_answered : (t : PlacedWord) (vs : List PlacedWord) → (k : ℕ) × (found_in t ≡ Some (k, declared.columns)) → Ascends 0 (map (λ v. v.at) vs ++ length ∷ [])
          → IsAnswered (AreValuesOut length declared.columns vs) (inserted t vs (found_in t))
      insert_answered t vs found up =
          subst (λ (o : Tables). IsAnswered (AreValuesOut length declared.columns vs) (inserted t vs o)) (sym found.1)
          (made (AreValuesOut length declared.columns vs) (statements.Insert found.0) (values_said length [] declared.columns vs) (values_answered length declared.columns vs [] up))

      out_of_place : (statement : SaidStatement PlacedWord) (table : PlacedWord) → table_word statement ≡ Some table → IsFirstNamed (λ (t : Table). t.name) table.text schema.tables declared
          → Ascends 0 (places_behind length statement) → IsAnswered (IsOut declared.columns length statement) (statement_said schema length statement)
      out_of_place Begin table e h up = cc
      out_of_place Commit table e h up = cc
      out_of_place Rollback table e h up = cc
      out_of_place (Insert t vs) table e h up = insert_answered t vs (one_found t table declared e h) up
      out_of_place (Select t cs) table e h up = query_answered t cs statements.Select (one_found t table declared e h) up
      out_of_place (Delete t cs) table e h up = query_answered t cs statements.Delete (one_found t table declared e h) up
      out_of_place (Explain t cs) table e h up = query_answered t cs statements.Explain (one_found t table declared e h) up
      out_of_place (Summarize i b) table e h up = cc
      out_of_place (Desummarize i b) table e h up = cc
      out_of_place (Vacuum t) table e h up = subst (λ (o : Tables). IsAnswered (λ at. ⊥) (vacuumed t o)) (sym (one_found t table declared e h).1) (λ at o. o)
      out_of_place Work table e h up = cc

    abbrev indexed_in : PlacedWord → Option ℕ
    indexed_in index = index_from 0 schema.indexes index.text

    none_indexed : (index word : PlacedWord) → Some index ≡ Some word → LacksIndex schema word → indexed_in index ≡ None
    none_indexed index word e h = let same : index ≡ word = cc in index_none 0 schema.indexes index.text (subst (λ (w : PlacedWord). LacksIndex schema w) (sym same) h)

    no_index : (statement : SaidStatement PlacedWord) (index : PlacedWord) → index_word statement ≡ Some index → LacksIndex schema index → statement_said schema length statement ≡ Err (faults.NoIndex index.at)
    no_index (Summarize i b) index e h = ap (summarized i b) (none_indexed i index e h) ∙ ap (λ n. Err (faults.NoIndex n)) (told_at i index e)
    no_index (Desummarize i b) index e h = ap (desummarized i b) (none_indexed i index e h) ∙ ap (λ n. Err (faults.NoIndex n)) (told_at i index e)
    no_index Begin index e h = cc
    no_index Commit index e h = cc
    no_index Rollback index e h = cc
    no_index (Insert t vs) index e h = cc
    no_index (Select t cs) index e h = cc
    no_index (Delete t cs) index e h = cc
    no_index (Explain t cs) index e h = cc
    no_index (Vacuum t) index e h = cc
    no_index Work index e h = cc

    one_indexed : (i index : PlacedWord) (declared : Index) → Some i ≡ Some index → IsFirstNamed (λ (i : Index). i.name) index.text schema.indexes declared → (k : ℕ) × (indexed_in i ≡ Some k)
    one_indexed i index declared e h =
        let same : i ≡ index = cc in
        index_found 0 schema.indexes i.text declared (subst (λ (w : PlacedWord). IsFirstNamed (λ (i : Index). i.name) w.text schema.indexes declared) (sym same) h)

    has_index : (statement : SaidStatement PlacedWord) (index : PlacedWord) (declared : Index) → index_word statement ≡ Some index → IsFirstNamed (λ (i : Index). i.name) index.text schema.indexes declared
        → (read : Statement) × (statement_said schema length statement ≡ Ok read)
    has_index (Summarize i b) index declared e h =
        let f = one_indexed i index declared e h in (statements.Summarize f.0 (option_map (λ (b : PlacedWord). block_of b.text) b), ap (summarized i b) f.1)
    has_index (Desummarize i b) index declared e h = let f = one_indexed i index declared e h in (statements.Desummarize f.0 (block_of b.text), ap (desummarized i b) f.1)
    has_index Begin index declared e h = cc
    has_index Commit index declared e h = cc
    has_index Rollback index declared e h = cc
    has_index (Insert t vs) index declared e h = cc
    has_index (Select t cs) index declared e h = cc
    has_index (Delete t cs) index declared e h = cc
    has_index (Explain t cs) index declared e h = cc
    has_index (Vacuum t) index declared e h = cc
    has_index Work index declared e h = cc

  pub places_of_refusals : PlacesOfRefusals
  places_of_refusals = record {
    no_table = λ schema length statement table e h. no_table schema length statement table e h;
    out_of_place = λ schema length statement table declared e h up. out_of_place schema length declared statement table e h up;
    no_index = λ schema length statement index e h. no_index schema length statement index e h;
    index = λ schema length statement index declared e h. has_index schema length statement index declared e h;
  }
