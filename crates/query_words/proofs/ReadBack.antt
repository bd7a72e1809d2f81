-- A line that is printed is read as the same line.
use Rattle.std.proofs.Common.{◌≡◌, ℕ, zero, suc, ◌+◌, ◌*◌, ◌≤◌, ◌<◌, nat_le, ◌==◌, Bool, true, false, not, ◌&&◌, ◌||◌, cond, List, [], ◌∷◌, ◌++◌, length, map, codes, Option, None, Some, unwrap_or, Result, Ok, refl, sym, ap, ◌∙◌, subst, inl, inr, ◌⊎◌, arith, length-append, append-nil, append_assoc}
use Rattle.std.specs.Option.{option_map, option_and_then}
use Rattle.std.specs.List.{slice_get, AllByRecursion, list_all, list_any}
use Rattle.std.specs.Str.{bytes_eq}
use Rattle.std.proofs.lemmas.Bool.{leb-true, false≢true, and_parts}
use Rattle.std.proofs.lemmas.Bool.Decides.{eqb_tells}
use Rattle.std.proofs.lemmas.List.Elements.{recursion_from_All}
use Rattle.block_model.specs.Names.{is_name, is_lower, is_digit, is_more}
use Rattle.block_model.specs.declared.value.Kind.{Kind}
use Rattle.block_model.specs.declared.value.Value.{Value}
use Rattle.block_model.specs.declared.value.Value.TheVariants as values
use Rattle.block_model.specs.declared.value.Op.{Op}
use Rattle.block_model.specs.declared.value.Op.TheVariants as ops
use Rattle.block_model.specs.declared.row.Cond.{Cond}
use Rattle.block_model.specs.declared.schema.Schema.{Schema}
use Rattle.block_model.specs.declared.schema.Sizes.{Sizes}
use Rattle.block_model.specs.declared.schema.Table.{Table}
use Rattle.block_model.specs.declared.schema.Column.{Column}
use Rattle.block_model.specs.declared.schema.Index.{Index}
use Rattle.store_layout.specs.FirstBrokenRule.{KeepsLimits}
use Rattle.store_layout.specs.Limits.{are_distinct, has_name, relation_names, columns_are_lawful, parts_are_lawful}
use Rattle.value_text.specs.CanonicalTexts.{canonical_text}
use Rattle.block_model.specs.ValuesOfKind.{IsValueOf}
use Rattle.value_text.specs.Laws.{CanonicalTextDenotes}
use Rattle.value_text.specs.ValueOf.{value_of, ValueOfIsDenoted}
use Rattle.query_words.specs.Words.{PlacedWord}
use Rattle.query_words.specs.Operators.{op_text, op_of}
use Rattle.query_words.specs.declared.line.LineFault.{LineFault}
use Rattle.query_words.specs.declared.line.LineFault.TheVariants as faults
use Rattle.store_layout.specs.OperatorKinds.{takes_operator}
use Rattle.query_words.specs.Grammar.{SaidCond, Compared, Null, NotNull, words_of_cond, words_of_more}
use Rattle.query_words.specs.Grammar.{IsNameWord, IsValueWord, IsSaidCond, AreSaidConds, cond_texts}
use Rattle.query_words.specs.Statements.{◌>>=◌, or_fault, table_from, index_from, column_from, op_in, op_said, value_said, cond_on, test_said, cond_said, conds_said}
use Rattle.store_layout.specs.StatementFits.{HasKeyFor, IsCondFor}
use Rattle.query_words.specs.LineTexts.{table_name, index_name, columns_at, column_name, test_of, cond_of}
use Rattle.query_words.specs.LineLaws.{IsNamedTable, HasNames}
use Rattle.query_words.proofs.Accepting.{text_same}
use Rattle.query_words.proofs.PrintedValues.{no_space, past_space, IsPrinted, value_printed}

-- what the values' layer promises
pub record KnowsTexts : Type 0 where
  pub denoted : ValueOfIsDenoted
  pub canonical : CanonicalTextDenotes

pub value_back : KnowsTexts → (kind : Kind) (value : Value) → IsValueOf kind value → value_of kind (canonical_text value) ≡ Some value
value_back knows kind value is = (knows.denoted kind (canonical_text value) value).1 (knows.canonical kind value is)

pub value_is_word : KnowsTexts → (kind : Kind) (value : Value) → IsValueOf kind value → IsValueWord (canonical_text value)
value_is_word knows kind value is = (kind, (value, knows.canonical kind value is))

at_place : {X : Type 0} (P : X → Type 0) (xs : List X) (n : ℕ) (x : X) → AllByRecursion P xs → slice_get xs n ≡ Some x → P x
at_place P [] n x all h = cc
at_place P (y ∷ ys) zero x all h = let same : y ≡ x = cc in subst P same all.0
at_place P (y ∷ ys) (suc n) x all h = at_place P ys n x all.1 h

-- a name is a short word without spaces
lower_cases : (c : ℕ) → is_lower c ≡ true → 33 ≤ c
lower_cases c h = let b = and_parts (nat_le 97 c) (nat_le c 122) h in omega (arith, leb-true 97 c b.0)

digit_cases : (c : ℕ) → is_digit c ≡ true → 33 ≤ c
digit_cases c h = let b = and_parts (nat_le 48 c) (nat_le c 57) h in omega (arith, leb-true 48 c b.0)

more_cases : (a b d : Bool) {P : Type 0} → (a ≡ true → P) → (b ≡ true → P) → (d ≡ true → P) → (a || b || d) ≡ true → P
more_cases true b d x y z h = x refl
more_cases false true d x y z h = y refl
more_cases false false d x y z h = z h

score_case : (c : ℕ) → (c == 95) ≡ true → 33 ≤ c
score_case c h = elim (eqb_tells c 95) as (λ _. 33 ≤ c) [ inl here ↦ omega (arith, here.1) | inr there ↦ absurd (false≢true (sym there.0 ∙ h)) ]

name_byte : (c : ℕ) → is_more c ≡ true → no_space c ≡ true
name_byte c h =
    past_space c (more_cases (is_lower c) (is_digit c) (c == 95) (lower_cases c) (digit_cases c) (score_case c) h)

name_bytes : (cs : List ℕ) → list_all is_more cs ≡ true → list_all no_space cs ≡ true
name_bytes [] h = refl
name_bytes (c ∷ cs) h =
    let b = and_parts (is_more c) (list_all is_more cs) h in
    ap (λ t. t && list_all no_space cs) (name_byte c b.0) ∙ name_bytes cs b.1

pub name_printed : (name : List ℕ) → is_name name ≡ true → IsPrinted name
name_printed [] h = cc
name_printed (c ∷ cs) h =
    let outer = and_parts (is_lower c && nat_le (length cs) 15) (list_all is_more cs) h in
    let inner = and_parts (is_lower c) (nat_le (length cs) 15) outer.0 in
    record {
      some = omega arith;
      no_spaces = ap (λ t. t && list_all no_space cs) (past_space c (lower_cases c inner.0)) ∙ name_bytes cs outer.1;
      short = omega (arith, leb-true (length cs) 15 inner.1);
    }

-- names that are distinct find their table and their column
neither : (a b : Bool) → not (a || b) ≡ true → (a ≡ false) × (not b ≡ true)
neither true b h = cc
neither false b h = (refl, h)

other_name : (test : List ℕ → Bool) (tables : List Table) (others : List (List ℕ)) (n : ℕ) (t : Table) → not (list_any test (map (λ (x : Table). x.name) tables ++ others)) ≡ true
    → slice_get tables n ≡ Some t → test t.name ≡ false
other_name test [] others n t h e = cc
other_name test (x ∷ xs) others zero t h e =
    let same : x ≡ t = cc in ap (λ (y : Table). test y.name) (sym same) ∙ (neither (test x.name) (list_any test (map (λ (y : Table). y.name) xs ++ others)) h).0
other_name test (x ∷ xs) others (suc n) t h e =
    other_name test xs others n t (neither (test x.name) (list_any test (map (λ (y : Table). y.name) xs ++ others)) h).1 e

table_back : (k : ℕ) (tables : List Table) (others : List (List ℕ)) (n : ℕ) (t : Table) → are_distinct bytes_eq (map (λ (x : Table). x.name) tables ++ others) ≡ true
    → slice_get tables n ≡ Some t → table_from k tables t.name ≡ Some (k + n, t.columns)
table_back k [] others n t h e = cc
table_back k (x ∷ xs) others zero t h e =
    let same : x ≡ t = cc in
    ap (λ b. cond b (Some (k, x.columns)) (table_from (k + 1) xs t.name)) (text_same x.name t.name (ap (λ (y : Table). y.name) same))
    ∙ ap (λ (y : Table). Some (k, y.columns)) same ∙ ap (λ (m : ℕ). Some (m, t.columns)) (let z : k ≡ k + 0 = omega arith in z)
table_back k (x ∷ xs) others (suc n) t h e =
    let rest : List (List ℕ) = map (λ (y : Table). y.name) xs ++ others in
    let b = and_parts (not (list_any (bytes_eq x.name) rest)) (are_distinct bytes_eq rest) h in
    ap (λ c. cond c (Some (k, x.columns)) (table_from (k + 1) xs t.name)) (other_name (bytes_eq x.name) xs others n t b.0 e)
    ∙ table_back (k + 1) xs others n t b.1 e ∙ ap (λ (m : ℕ). Some (m, t.columns)) (let z : k + 1 + n ≡ k + suc n = omega arith in z)

abbrev same_name : Column → Column → Bool
same_name a b = bytes_eq a.name b.name

other_column : (test : Column → Bool) (columns : List Column) (n : ℕ) (c : Column) → not (list_any test columns) ≡ true → slice_get columns n ≡ Some c → test c ≡ false
other_column test [] n c h e = cc
other_column test (x ∷ xs) zero c h e = let same : x ≡ c = cc in ap test (sym same) ∙ (neither (test x) (list_any test xs) h).0
other_column test (x ∷ xs) (suc n) c h e = other_column test xs n c (neither (test x) (list_any test xs) h).1 e

column_back : (k : ℕ) (columns : List Column) (n : ℕ) (c : Column) → are_distinct same_name columns ≡ true → slice_get columns n ≡ Some c
    → column_from k columns c.name ≡ Some (k + n, c.kind)
column_back k [] n c h e = cc
column_back k (x ∷ xs) zero c h e =
    let same : x ≡ c = cc in
    ap (λ b. cond b (Some (k, x.kind)) (column_from (k + 1) xs c.name)) (text_same x.name c.name (ap (λ (y : Column). y.name) same))
    ∙ ap (λ (y : Column). Some (k, y.kind)) same ∙ ap (λ (m : ℕ). Some (m, c.kind)) (let z : k ≡ k + 0 = omega arith in z)
column_back k (x ∷ xs) (suc n) c h e =
    let b = and_parts (not (list_any (same_name x) xs)) (are_distinct same_name xs) h in
    ap (λ t. cond t (Some (k, x.kind)) (column_from (k + 1) xs c.name)) (other_column (same_name x) xs n c b.0 e)
    ∙ column_back (k + 1) xs n c b.1 e ∙ ap (λ (m : ℕ). Some (m, c.kind)) (let z : k + 1 + n ≡ k + suc n = omega arith in z)

-- what is known of a declared table
pub record IsDeclared (schema : Schema) (n : ℕ) (t : Table) : Type 0 where
  pub table : slice_get schema.tables n ≡ Some t
  pub named : is_name t.name ≡ true
  pub found : table_from 0 schema.tables t.name ≡ Some (n, t.columns)
  pub few : length t.columns ≤ 8
  pub distinct : are_distinct same_name t.columns ≡ true
  pub columns_named : AllByRecursion (λ (c : Column). IsNameWord c.name) t.columns

AllLawful : List Table → Type 0
AllLawful tables = AllByRecursion (λ (t : Table). columns_are_lawful t ≡ true) tables

all_lawful : (tables : List Table) → list_all columns_are_lawful tables ≡ true → AllLawful tables
unfolding AllLawful
all_lawful [] h = tt
all_lawful (t ∷ ts) h = let b = and_parts (columns_are_lawful t) (list_all columns_are_lawful ts) h in (b.0, all_lawful ts b.1)

pub declared : (schema : Schema) (sizes : Sizes) (n : ℕ) (t : Table) → KeepsLimits schema sizes → HasNames schema → slice_get schema.tables n ≡ Some t → IsDeclared schema n t
unfolding AllLawful
declared schema sizes n t keeps names e =
    let size : ℕ = length schema.tables in
    let rule1 = and_parts ((nat_le 1 size && nat_le size 8) && are_distinct bytes_eq (relation_names schema)) (not (has_name (codes "status") (relation_names schema))) (keeps 1) in
    let distinct = and_parts (nat_le 1 size && nat_le size 8) (are_distinct bytes_eq (relation_names schema)) rule1.0 in
    let rule2 = and_parts (list_all columns_are_lawful schema.tables) (list_all parts_are_lawful schema.indexes) (keeps 2) in
    let lawful : columns_are_lawful t ≡ true = at_place (λ (x : Table). columns_are_lawful x ≡ true) schema.tables n t (all_lawful schema.tables rule2.0) e in
    let parts = and_parts (nat_le 1 (length t.columns) && nat_le (length t.columns) 8) (are_distinct same_name t.columns) lawful in
    let few = and_parts (nat_le 1 (length t.columns)) (nat_le (length t.columns) 8) parts.0 in
    let named : IsNamedTable t = at_place IsNamedTable schema.tables n t (recursion_from_All IsNamedTable schema.tables names.tables) e in
    record {
      table = e;
      named = named.name;
      found = table_back 0 schema.tables _ n t distinct.1 e ∙ ap (λ (m : ℕ). Some (m, t.columns)) (let z : 0 + n ≡ n = omega arith in z);
      few = leb-true (length t.columns) 8 few.1;
      distinct = parts.1;
      columns_named = recursion_from_All (λ (c : Column). IsNameWord c.name) t.columns named.columns;
    }

pub table_name_is : (schema : Schema) (n : ℕ) (t : Table) → slice_get schema.tables n ≡ Some t → table_name schema n ≡ t.name
table_name_is schema n t e = ap (λ (o : Option Table). unwrap_or (option_map (λ (x : Table). x.name) o) []) e

pub columns_at_is : (schema : Schema) (n : ℕ) (t : Table) → slice_get schema.tables n ≡ Some t → columns_at schema n ≡ t.columns
columns_at_is schema n t e = ap (λ (o : Option Table). unwrap_or (option_map (λ (x : Table). x.columns) o) []) e

-- an operator that is one word
record IsComparison (op : Op) : Type 0 where
  back : op_of (op_text op) ≡ Some op
  printed : IsPrinted (op_text op)
  test : (column : List ℕ) (key : Value) → test_of column op key ≡ Compared column (op_text op) (canonical_text key)

abbrev OpCases : Op → Type 0
OpCases op = (op ≡ ops.IsNull) ⊎ ((op ≡ ops.NotNull) ⊎ IsComparison op)

op_cases : (op : Op) → OpCases op
op_cases ops.IsNull = inl refl
op_cases ops.NotNull = inr (inl refl)
op_cases ops.Lt = inr (inr (record { back = refl; printed = record { some = omega arith; no_spaces = refl; short = omega arith }; test = λ c k. refl }))
op_cases ops.Le = inr (inr (record { back = refl; printed = record { some = omega arith; no_spaces = refl; short = omega arith }; test = λ c k. refl }))
op_cases ops.Eq = inr (inr (record { back = refl; printed = record { some = omega arith; no_spaces = refl; short = omega arith }; test = λ c k. refl }))
op_cases ops.Ge = inr (inr (record { back = refl; printed = record { some = omega arith; no_spaces = refl; short = omega arith }; test = λ c k. refl }))
op_cases ops.Gt = inr (inr (record { back = refl; printed = record { some = omega arith; no_spaces = refl; short = omega arith }; test = λ c k. refl }))
op_cases ops.Overlaps = inr (inr (record { back = refl; printed = record { some = omega arith; no_spaces = refl; short = omega arith }; test = λ c k. refl }))
op_cases ops.Contains = inr (inr (record { back = refl; printed = record { some = omega arith; no_spaces = refl; short = omega arith }; test = λ c k. refl }))
op_cases ops.Within = inr (inr (record { back = refl; printed = record { some = omega arith; no_spaces = refl; short = omega arith }; test = λ c k. refl }))
op_cases ops.Before = inr (inr (record { back = refl; printed = record { some = omega arith; no_spaces = refl; short = omega arith }; test = λ c k. refl }))
op_cases ops.After = inr (inr (record { back = refl; printed = record { some = omega arith; no_spaces = refl; short = omega arith }; test = λ c k. refl }))
op_cases ops.WithinEq = inr (inr (record { back = refl; printed = record { some = omega arith; no_spaces = refl; short = omega arith }; test = λ c k. refl }))
op_cases ops.ContainsEq = inr (inr (record { back = refl; printed = record { some = omega arith; no_spaces = refl; short = omega arith }; test = λ c k. refl }))
op_cases ops.NotAfter = inr (inr (record { back = refl; printed = record { some = omega arith; no_spaces = refl; short = omega arith }; test = λ c k. refl }))
op_cases ops.NotBefore = inr (inr (record { back = refl; printed = record { some = omega arith; no_spaces = refl; short = omega arith }; test = λ c k. refl }))
op_cases ops.Adjacent = inr (inr (record { back = refl; printed = record { some = omega arith; no_spaces = refl; short = omega arith }; test = λ c k. refl }))

-- what is known of the columns of a table
pub record KnowsColumns (columns : List Column) : Type 0 where
  pub distinct : are_distinct same_name columns ≡ true
  pub named : AllByRecursion (λ (c : Column). IsNameWord c.name) columns

column_there : (columns : List Column) (n : ℕ) (c : Column) → KnowsColumns columns → slice_get columns n ≡ Some c → column_from 0 columns c.name ≡ Some (n, c.kind)
column_there columns n c knows e = column_back 0 columns n c knows.distinct e ∙ ap (λ (m : ℕ). Some (m, c.kind)) (let z : 0 + n ≡ n = omega arith in z)

test_back : (columns : List Column) (n : ℕ) (on : Column) (op : Op) (w : PlacedWord) → column_from 0 columns on.name ≡ Some (n, on.kind) → w.text ≡ on.name
    → test_said columns w op ≡ Ok (cond_on n op values.Null)
test_back columns n on op w found e =
    ap (λ (t : List ℕ). or_fault (faults.NoColumn w.at) (column_from 0 columns t) >>= λ c. Ok (cond_on c.0 op values.Null)) e
    ∙ ap (λ (o : Option (ℕ × Kind)). or_fault (faults.NoColumn w.at) o >>= λ c. Ok (cond_on c.0 op values.Null)) found

compared_back : (columns : List Column) (n : ℕ) (on : Column) (op : Op) (key : Value) (c o v : PlacedWord) → column_from 0 columns on.name ≡ Some (n, on.kind)
    → op_of (op_text op) ≡ Some op → takes_operator on.kind op ≡ true → value_of on.kind (canonical_text key) ≡ Some key
    → c.text ≡ on.name → o.text ≡ op_text op → v.text ≡ canonical_text key → cond_said columns (Compared c o v) ≡ Ok (cond_on n op key)
compared_back columns n on op key c o v found back taken value ec eo ev =
    ap (λ (t : List ℕ). or_fault (faults.NoColumn c.at) (column_from 0 columns t) >>= λ x. op_said x.1 o >>= λ p. value_said x.1 v >>= λ k. Ok (cond_on x.0 p k)) ec
    ∙ ap (λ (f : Option (ℕ × Kind)). or_fault (faults.NoColumn c.at) f >>= λ x. op_said x.1 o >>= λ p. value_said x.1 v >>= λ k. Ok (cond_on x.0 p k)) found
    ∙ ap (λ (t : List ℕ). or_fault (faults.Kind o.at) (op_in on.kind t) >>= λ p. value_said on.kind v >>= λ k. Ok (cond_on n p k)) eo
    ∙ ap (λ (f : Option Op). or_fault (faults.Kind o.at) (option_and_then (λ p. cond (takes_operator on.kind p) (Some p) None) f) >>= λ p. value_said on.kind v >>= λ k. Ok (cond_on n p k)) back
    ∙ ap (λ (b : Bool). or_fault (faults.Kind o.at) (cond b (Some op) None) >>= λ p. value_said on.kind v >>= λ k. Ok (cond_on n p k)) taken
    ∙ ap (λ (t : List ℕ). or_fault (faults.Kind v.at) (value_of on.kind t) >>= λ k. Ok (cond_on n op k)) ev
    ∙ ap (λ (f : Option Value). or_fault (faults.Kind v.at) f >>= λ k. Ok (cond_on n op k)) value

-- a condition of the words that are printed of it
record CondBack (columns : List Column) (c : Cond) : Type 0 where
  is_said : IsSaidCond (cond_of columns c)
  printed : AllByRecursion IsPrinted (words_of_cond (cond_of columns c))
  count : length (words_of_cond (cond_of columns c)) ≤ 4
  back : (said : SaidCond PlacedWord) → cond_texts said ≡ cond_of columns c → cond_said columns said ≡ Ok c

pub small_word : (word : List ℕ) → list_all no_space word ≡ true → 0 < length word → length word ≤ 43 → IsPrinted word
small_word word a b d = record { some = b; no_spaces = a; short = d }

null_back : (columns : List Column) (n : ℕ) (on : Column) (said : SaidCond PlacedWord) → column_from 0 columns on.name ≡ Some (n, on.kind) → cond_texts said ≡ Null on.name
    → cond_said columns said ≡ Ok (cond_on n ops.IsNull values.Null)
null_back columns n on (Null w) found e = test_back columns n on ops.IsNull w found (let t : w.text ≡ on.name = cc in t)
null_back columns n on (Compared c o v) found e = cc
null_back columns n on (NotNull w) found e = cc

not_null_back : (columns : List Column) (n : ℕ) (on : Column) (said : SaidCond PlacedWord) → column_from 0 columns on.name ≡ Some (n, on.kind) → cond_texts said ≡ NotNull on.name
    → cond_said columns said ≡ Ok (cond_on n ops.NotNull values.Null)
not_null_back columns n on (NotNull w) found e = test_back columns n on ops.NotNull w found (let t : w.text ≡ on.name = cc in t)
not_null_back columns n on (Compared c o v) found e = cc
not_null_back columns n on (Null w) found e = cc

comparison_back : (columns : List Column) (n : ℕ) (on : Column) (op : Op) (key : Value) (said : SaidCond PlacedWord) → column_from 0 columns on.name ≡ Some (n, on.kind)
    → op_of (op_text op) ≡ Some op → takes_operator on.kind op ≡ true → value_of on.kind (canonical_text key) ≡ Some key
    → cond_texts said ≡ Compared on.name (op_text op) (canonical_text key) → cond_said columns said ≡ Ok (cond_on n op key)
comparison_back columns n on op key (Compared c o v) found back taken value e =
    let a : c.text ≡ on.name = cc in let b : o.text ≡ op_text op = cc in let d : v.text ≡ canonical_text key = cc in
    compared_back columns n on op key c o v found back taken value a b d
comparison_back columns n on op key (Null w) found back taken value e = cc
comparison_back columns n on op key (NotNull w) found back taken value e = cc

cond_cases : KnowsTexts → (columns : List Column) (n : ℕ) (on : Column) (op : Op) (key : Value) → column_from 0 columns on.name ≡ Some (n, on.kind) → is_name on.name ≡ true
    → takes_operator on.kind op ≡ true → IsValueOf on.kind key → HasKeyFor op key → column_name columns n ≡ on.name → OpCases op → CondBack columns (cond_on n op key)
cond_cases knows columns n on op key found named taken value no_key name (inl e) =
    let none : key ≡ values.Null = subst (λ (o : Op). HasKeyFor o key) e no_key in
    let same : cond_on n op key ≡ cond_on n ops.IsNull values.Null = ap (λ (o : Op). cond_on n o key) e ∙ ap (cond_on n ops.IsNull) none in
    let text : cond_of columns (cond_on n ops.IsNull values.Null) ≡ Null on.name = ap (λ (t : List ℕ). Null t) name in
    let word = name_printed on.name named in
    let made : CondBack columns (cond_on n ops.IsNull values.Null) = record {
      is_said = subst IsSaidCond (sym text) named;
      printed = subst (λ (s : SaidCond (List ℕ)). AllByRecursion IsPrinted (words_of_cond s)) (sym text)
          (word, (small_word (codes "is") refl (omega arith) (omega arith), (small_word (codes "null") refl (omega arith) (omega arith), tt)));
      count = subst (λ (s : SaidCond (List ℕ)). length (words_of_cond s) ≤ 4) (sym text) (omega arith);
      back = λ said t. null_back columns n on said found (t ∙ text);
    } in
    subst (CondBack columns) (sym same) made
cond_cases knows columns n on op key found named taken value no_key name (inr (inl e)) =
    let none : key ≡ values.Null = subst (λ (o : Op). HasKeyFor o key) e no_key in
    let same : cond_on n op key ≡ cond_on n ops.NotNull values.Null = ap (λ (o : Op). cond_on n o key) e ∙ ap (cond_on n ops.NotNull) none in
    let text : cond_of columns (cond_on n ops.NotNull values.Null) ≡ NotNull on.name = ap (λ (t : List ℕ). NotNull t) name in
    let word = name_printed on.name named in
    let made : CondBack columns (cond_on n ops.NotNull values.Null) = record {
      is_said = subst IsSaidCond (sym text) named;
      printed = subst (λ (s : SaidCond (List ℕ)). AllByRecursion IsPrinted (words_of_cond s)) (sym text)
          (word, (small_word (codes "is") refl (omega arith) (omega arith), (small_word (codes "not") refl (omega arith) (omega arith), (small_word (codes "null") refl (omega arith) (omega arith), tt))));
      count = subst (λ (s : SaidCond (List ℕ)). length (words_of_cond s) ≤ 4) (sym text) (omega arith);
      back = λ said t. not_null_back columns n on said found (t ∙ text);
    } in
    subst (CondBack columns) (sym same) made
cond_cases knows columns n on op key found named taken value no_key name (inr (inr c)) =
    let text : cond_of columns (cond_on n op key) ≡ Compared on.name (op_text op) (canonical_text key) =
    c.test (column_name columns n) key ∙ ap (λ (t : List ℕ). Compared t (op_text op) (canonical_text key)) name in
    record {
      is_said = subst IsSaidCond (sym text) (named, (op, c.back), value_is_word knows on.kind key value);
      printed = subst (λ (s : SaidCond (List ℕ)). AllByRecursion IsPrinted (words_of_cond s)) (sym text) (name_printed on.name named, (c.printed, (value_printed on.kind key value, tt)));
      count = subst (λ (s : SaidCond (List ℕ)). length (words_of_cond s) ≤ 4) (sym text) (omega arith);
      back = λ said t. comparison_back columns n on op key said found c.back taken (value_back knows on.kind key value) (t ∙ text);
    }

cond_back : KnowsTexts → (columns : List Column) (c : Cond) → KnowsColumns columns → IsCondFor columns c → CondBack columns c
cond_back knows columns c there fits =
    let name : column_name columns c.column ≡ fits.on.name = ap (λ (o : Option Column). unwrap_or (option_map (λ (x : Column). x.name) o) []) fits.column in
    cond_cases knows columns c.column fits.on c.op c.key (column_there columns c.column fits.on there fits.column)
    (at_place (λ (x : Column). IsNameWord x.name) columns c.column fits.on there.named fits.column) fits.op fits.key fits.no_key name (op_cases c.op)

all_append : {X : Type 0} (P : X → Type 0) (xs ys : List X) → AllByRecursion P xs → AllByRecursion P ys → AllByRecursion P (xs ++ ys)
all_append P [] ys a b = b
all_append P (x ∷ xs) ys a b = (a.0, all_append P xs ys a.1 b)

-- conditions of the words that are printed of them
pub record CondsBack (columns : List Column) (conds : List Cond) : Type 0 where
  pub are_said : AreSaidConds (map (cond_of columns) conds)
  pub printed : AllByRecursion IsPrinted (words_of_more (map (cond_of columns) conds))
  pub count : length (words_of_more (map (cond_of columns) conds)) ≤ 5 * length conds
  pub back : (done : List Cond) (said : List (SaidCond PlacedWord)) → map cond_texts said ≡ map (cond_of columns) conds → conds_said columns done said ≡ Ok (done ++ conds)

conds_end : (columns : List Column) (done : List Cond) (said : List (SaidCond PlacedWord)) → map cond_texts said ≡ [] → conds_said columns done said ≡ Ok (done ++ [])
conds_end columns done [] e = ap (λ (cs : List Cond). Ok cs) (sym (append-nil done))
conds_end columns done (s ∷ ss) e = cc

conds_step : (columns : List Column) (c : Cond) (cs : List Cond) (done : List Cond) (said : List (SaidCond PlacedWord)) → CondBack columns c → CondsBack columns cs
    → map cond_texts said ≡ cond_of columns c ∷ map (cond_of columns) cs → conds_said columns done said ≡ Ok (done ++ c ∷ cs)
conds_step columns c cs done [] one rest e = cc
conds_step columns c cs done (s ∷ ss) one rest e =
    let first : cond_texts s ≡ cond_of columns c = cc in
    let others : map cond_texts ss ≡ map (cond_of columns) cs = cc in
    ap (λ (r : Result Cond LineFault). r >>= λ x. conds_said columns (done ++ x ∷ []) ss) (one.back s first)
    ∙ rest.back (done ++ c ∷ []) ss others ∙ ap (λ (l : List Cond). Ok l) (append_assoc done (c ∷ []) cs)

pub conds_back : KnowsTexts → (columns : List Column) (conds : List Cond) → KnowsColumns columns → AllByRecursion (IsCondFor columns) conds → CondsBack columns conds
conds_back knows columns [] there all = record { are_said = tt; printed = tt; count = omega arith; back = λ done said e. conds_end columns done said e }
conds_back knows columns (c ∷ cs) there all =
    let one = cond_back knows columns c there all.0 in
    let rest = conds_back knows columns cs there all.1 in
    let some : length (words_of_cond (cond_of columns c)) ≤ 4 = one.count in
    let more : length (words_of_more (map (cond_of columns) cs)) ≤ 5 * length cs = rest.count in
    record {
      are_said = (one.is_said, rest.are_said);
      printed = (small_word (codes "and") refl (omega arith) (omega arith), all_append IsPrinted (words_of_cond (cond_of columns c)) (words_of_more (map (cond_of columns) cs)) one.printed rest.printed);
      count = omega (arith, length-append (words_of_cond (cond_of columns c)) (words_of_more (map (cond_of columns) cs)));
      back = λ done said e. conds_step columns c cs done said one rest e;
    }

-- names that are distinct find their index
other_index : (test : List ℕ → Bool) (indexes : List Index) (n : ℕ) (i : Index) → not (list_any test (map (λ (x : Index). x.name) indexes)) ≡ true
    → slice_get indexes n ≡ Some i → test i.name ≡ false
other_index test [] n i h e = cc
other_index test (x ∷ xs) zero i h e =
    let same : x ≡ i = cc in ap (λ (y : Index). test y.name) (sym same) ∙ (neither (test x.name) (list_any test (map (λ (y : Index). y.name) xs)) h).0
other_index test (x ∷ xs) (suc n) i h e = other_index test xs n i (neither (test x.name) (list_any test (map (λ (y : Index). y.name) xs)) h).1 e

index_back : (k : ℕ) (indexes : List Index) (n : ℕ) (i : Index) → are_distinct bytes_eq (map (λ (x : Index). x.name) indexes) ≡ true → slice_get indexes n ≡ Some i
    → index_from k indexes i.name ≡ Some (k + n)
index_back k [] n i h e = cc
index_back k (x ∷ xs) zero i h e =
    let same : x ≡ i = cc in
    ap (λ b. cond b (Some k) (index_from (k + 1) xs i.name)) (text_same x.name i.name (ap (λ (y : Index). y.name) same)) ∙ ap (λ (m : ℕ). Some m) (let z : k ≡ k + 0 = omega arith in z)
index_back k (x ∷ xs) (suc n) i h e =
    let rest : List (List ℕ) = map (λ (y : Index). y.name) xs in
    let b = and_parts (not (list_any (bytes_eq x.name) rest)) (are_distinct bytes_eq rest) h in
    ap (λ c. cond c (Some k) (index_from (k + 1) xs i.name)) (other_index (bytes_eq x.name) xs n i b.0 e)
    ∙ index_back (k + 1) xs n i b.1 e ∙ ap (λ (m : ℕ). Some m) (let z : k + 1 + n ≡ k + suc n = omega arith in z)

-- the last of distinct names are distinct
distinct_last : (first last : List (List ℕ)) → are_distinct bytes_eq (first ++ last) ≡ true → are_distinct bytes_eq last ≡ true
distinct_last [] last h = h
distinct_last (x ∷ xs) last h = distinct_last xs last (and_parts (not (list_any (bytes_eq x) (xs ++ last))) (are_distinct bytes_eq (xs ++ last)) h).1

-- what is known of a declared index
pub record IsDeclaredIndex (schema : Schema) (n : ℕ) (i : Index) : Type 0 where
  pub named : is_name i.name ≡ true
  pub found : index_from 0 schema.indexes i.name ≡ Some n

pub declared_index : (schema : Schema) (sizes : Sizes) (n : ℕ) (i : Index) → KeepsLimits schema sizes → HasNames schema → slice_get schema.indexes n ≡ Some i → IsDeclaredIndex schema n i
declared_index schema sizes n i keeps names e =
    let size : ℕ = length schema.tables in
    let rule1 = and_parts ((nat_le 1 size && nat_le size 8) && are_distinct bytes_eq (relation_names schema)) (not (has_name (codes "status") (relation_names schema))) (keeps 1) in
    let distinct = and_parts (nat_le 1 size && nat_le size 8) (are_distinct bytes_eq (relation_names schema)) rule1.0 in
    let last = distinct_last (map (λ (x : Table). x.name) schema.tables) (map (λ (x : Index). x.name) schema.indexes) distinct.1 in
    record {
      named = at_place (λ (x : Index). IsNameWord x.name) schema.indexes n i (recursion_from_All (λ (x : Index). IsNameWord x.name) schema.indexes names.indexes) e;
      found = index_back 0 schema.indexes n i last e ∙ ap (λ (m : ℕ). Some m) (let z : 0 + n ≡ n = omega arith in z);
    }

pub index_name_is : (schema : Schema) (n : ℕ) (i : Index) → slice_get schema.indexes n ≡ Some i → index_name schema n ≡ i.name
index_name_is schema n i e = ap (λ (o : Option Index). unwrap_or (option_map (λ (x : Index). x.name) o) []) e
