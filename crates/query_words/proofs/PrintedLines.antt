-- A printed line is read as the same line, and fits the limit.
use Rattle.std.proofs.Common.{◌≡◌, ℕ, ◌*◌, ◌^◌, ◌<◌, ◌≤◌, true, decimal, None, IfSome, List, [], ◌∷◌, ◌++◌, length, map, codes, Option, Some, Result, Ok, refl, sym, ap, ◌∙◌, subst, arith, append-nil, append_assoc}
use Rattle.std.specs.List.{AllByRecursion}
use Rattle.std.proofs.lemmas.List.{length-map}
use Rattle.std.proofs.lemmas.Bool.{and_parts}
use Rattle.std.proofs.lemmas.List.Elements.{recursion_from_All}
use Rattle.block_model.specs.Names.{is_name}
use Rattle.block_model.specs.declared.value.Value.{Value}
use Rattle.block_model.specs.declared.row.Cond.{Cond}
use Rattle.block_model.specs.declared.row.Query.{Query}
use Rattle.block_model.specs.declared.schema.Schema.{Schema}
use Rattle.block_model.specs.declared.schema.Sizes.{Sizes}
use Rattle.block_model.specs.declared.schema.Column.{Column}
use Rattle.store_layout.specs.FirstBrokenRule.{KeepsLimits}
use Rattle.value_text.specs.CanonicalTexts.{canonical_text}
use Rattle.value_text.specs.ValueOf.{value_of}
use Rattle.store_layout.specs.declared.statement.Statement.{Statement}
use Rattle.store_layout.specs.declared.statement.Statement.TheVariants as statements
use Rattle.query_words.specs.Words.{PlacedWord, texts_of}
use Rattle.query_words.specs.Verbs.{verb_text, has_verb, statement_verb}
use Rattle.query_words.specs.Blocks.{block_of}
use Rattle.query_words.specs.declared.verb.Verb.{Verb}
use Rattle.query_words.specs.declared.verb.Verb.TheVariants as verbs
use Rattle.query_words.specs.declared.line_length.TheConstants.{MAX_LINE}
use Rattle.query_words.specs.declared.line.Line.{Line}
use Rattle.query_words.specs.declared.line.Line.TheVariants as lines
use Rattle.query_words.specs.declared.line.Order.{Order}
use Rattle.query_words.specs.declared.line.Order.TheVariants as orders
use Rattle.query_words.specs.declared.line.LineFault.{LineFault}
use Rattle.query_words.specs.declared.line.LineFault.TheVariants as faults
use Rattle.query_words.specs.Grammar.{SaidCond, SaidStatement, Begin, Commit, Rollback, Insert, Select, Delete, Explain, Summarize, Desummarize, Vacuum, Work, SaidOrder, Whole, Start, Step, Finish, SaidLine, Nothing, Say, verb_said, words_behind, words_of_more, words_of_conds, words_of_order}
use Rattle.block_model.specs.declared.limits.TheConstants.{MAX_CONDITIONS}
use Rattle.query_words.specs.Grammar.{AreValueWords, IsSaidQuery, HasSaidParts, IsSaidStatement, IsSaidOrder, cond_texts, statement_texts, order_texts, said_texts}
use Rattle.query_words.specs.LineFits.{IsOrderFor, IsLineFor, is_order_in, is_line_in}
use Rattle.store_layout.specs.StatementFits.{IsTableOf, IsStatementFor, IsCondFor, AreValuesFor, IsIndexOf, IsQueryFor, IsInsertFor}
use Rattle.query_words.specs.Statements.{◌>>=◌, or_fault, table_from, index_from, conds_said, values_said, query_said, statement_said, order_said}
use Rattle.query_words.specs.Lines.{line_said, line_in}
use Rattle.query_words.specs.LineTexts.{table_name, index_name, cond_of, conds_of, statement_of, order_of, joined}
use Rattle.query_words.specs.LineLaws.{IsOfItsType, HasItsType, IsNamedLine, HasNames, ReadsBack}
use Rattle.query_words.proofs.LineLawLemmas.{grammar_read}
use Rattle.query_words.proofs.BlockLemmas.{block_back, block_written, block_printed}
use Rattle.query_words.proofs.PrintedValues.{IsPrinted, value_printed}
use Rattle.query_words.proofs.PrintedWords.{joined_words, joined_short}
use Rattle.query_words.proofs.ReadBack.{KnowsTexts, KnowsColumns, value_back, value_is_word, name_printed, declared, declared_index, table_name_is, index_name_is, columns_at_is, small_word, conds_back}

abbrev texts_in : List Column → List Cond → List (SaidCond (List ℕ))
texts_in columns conds = map (cond_of columns) conds

conds_printed : (conds : List (SaidCond (List ℕ))) → AllByRecursion IsPrinted (words_of_more conds) → AllByRecursion IsPrinted (words_of_conds conds)
conds_printed [] all = tt
conds_printed (c ∷ cs) all = (small_word (codes "where") refl (omega arith) (omega arith), all.1)

as_many : (conds : List (SaidCond (List ℕ))) → length (words_of_conds conds) ≡ length (words_of_more conds)
as_many [] = refl
as_many (c ∷ cs) = refl

-- a query of the words that are printed of it
record QueryBack (schema : Schema) (q : Query) : Type 0 where
  is_said : IsSaidQuery (table_name schema q.table) (conds_of schema q)
  printed : AllByRecursion IsPrinted (table_name schema q.table ∷ words_of_conds (conds_of schema q))
  count : length (words_of_conds (conds_of schema q)) ≤ 80
  back : (table : PlacedWord) (said : List (SaidCond PlacedWord)) → table.text ≡ table_name schema q.table → map cond_texts said ≡ conds_of schema q → query_said schema table said ≡ Ok q

query_back : KnowsTexts → (schema : Schema) (sizes : Sizes) (q : Query) → KeepsLimits schema sizes → HasNames schema → IsQueryFor schema q → length q.conds ≤ MAX_CONDITIONS → QueryBack schema q
query_back knows schema sizes q keeps names fits few =
    let d = declared schema sizes q.table fits.of keeps names fits.table in
    let there : KnowsColumns fits.of.columns = record { distinct = d.distinct; named = d.columns_named } in
    let c = conds_back knows fits.of.columns q.conds there (recursion_from_All (IsCondFor fits.of.columns) q.conds fits.conds) in
    let name : table_name schema q.table ≡ fits.of.name = table_name_is schema q.table fits.of fits.table in
    let texts : conds_of schema q ≡ texts_in fits.of.columns q.conds = ap (λ (columns : List Column). texts_in columns q.conds) (columns_at_is schema q.table fits.of fits.table) in
    let long : length (words_of_more (texts_in fits.of.columns q.conds)) ≤ 5 * length q.conds = c.count in
    record {
      is_said = (subst (λ (t : List ℕ). IsSaidQuery t (conds_of schema q)) (sym name) (subst (λ (cs : List (SaidCond (List ℕ))). IsSaidQuery fits.of.name cs) (sym texts)
          (d.named, c.are_said, omega (arith, length-map q.conds (cond_of fits.of.columns)))));
      printed = subst (λ (t : List ℕ). AllByRecursion IsPrinted (t ∷ words_of_conds (conds_of schema q))) (sym name)
          (name_printed fits.of.name d.named, subst (λ (cs : List (SaidCond (List ℕ))). AllByRecursion IsPrinted (words_of_conds cs)) (sym texts) (conds_printed (texts_in fits.of.columns q.conds) c.printed));
      count = subst (λ (cs : List (SaidCond (List ℕ))). length (words_of_conds cs) ≤ 80) (sym texts) (omega (arith, as_many (texts_in fits.of.columns q.conds)));
      back = λ table said t e.
          ap (λ (w : List ℕ). or_fault (faults.NoTable table.at) (table_from 0 schema.tables w) >>= λ x. conds_said x.1 [] said >>= λ cs. Ok (record { table = x.0; conds = cs })) (t ∙ name)
          ∙ ap (λ (o : Option (ℕ × List Column)). or_fault (faults.NoTable table.at) o >>= λ x. conds_said x.1 [] said >>= λ cs. Ok (record { table = x.0; conds = cs })) d.found
          ∙ ap (λ (r : Result (List Cond) LineFault). r >>= λ cs. Ok (record { table = q.table; conds = cs })) (c.back [] said (e ∙ texts));
    }

-- values of the words that are printed of them
record ValuesBack (columns : List Column) (row : List Value) : Type 0 where
  are_said : AreValueWords (map canonical_text row)
  printed : AllByRecursion IsPrinted (map canonical_text row)
  count : length row ≡ length columns
  back : (len : ℕ) (done : List Value) (words : List PlacedWord) → texts_of words ≡ map canonical_text row → values_said len done columns words ≡ Ok (done ++ row)

values_end : (len : ℕ) (done : List Value) (words : List PlacedWord) → texts_of words ≡ [] → values_said len done [] words ≡ Ok (done ++ [])
values_end len done [] e = ap (λ (vs : List Value). Ok vs) (sym (append-nil done))
values_end len done (w ∷ ws) e = cc

values_step : (len : ℕ) (done : List Value) (column : Column) (columns : List Column) (value : Value) (row : List Value) (words : List PlacedWord)
    → value_of column.kind (canonical_text value) ≡ Some value → ValuesBack columns row → texts_of words ≡ canonical_text value ∷ map canonical_text row
    → values_said len done (column ∷ columns) words ≡ Ok (done ++ value ∷ row)
values_step len done column columns value row [] is rest e = cc
values_step len done column columns value row (w ∷ ws) is rest e =
    let text : w.text ≡ canonical_text value = cc in
    let others : texts_of ws ≡ map canonical_text row = cc in
    ap (λ (t : List ℕ). or_fault (faults.Kind w.at) (value_of column.kind t) >>= λ v. values_said len (done ++ v ∷ []) columns ws) text
    ∙ ap (λ (o : Option Value). or_fault (faults.Kind w.at) o >>= λ v. values_said len (done ++ v ∷ []) columns ws) is
    ∙ rest.back len (done ++ value ∷ []) ws others ∙ ap (λ (l : List Value). Ok l) (append_assoc done (value ∷ []) row)

values_back : KnowsTexts → (columns : List Column) (row : List Value) → AreValuesFor columns row → ValuesBack columns row
values_back knows [] [] are = record { are_said = tt; printed = tt; count = refl; back = λ len done words e. values_end len done words e }
values_back knows [] (v ∷ vs) are = absurd are
values_back knows (c ∷ cs) [] are = absurd are
values_back knows (c ∷ cs) (v ∷ vs) are =
    let rest = values_back knows cs vs are.1 in
    record {
      are_said = (value_is_word knows c.kind v are.0, rest.are_said);
      printed = (value_printed c.kind v are.0, rest.printed);
      count = let k : length vs ≡ length cs = rest.count in omega arith;
      back = λ len done words e. values_step len done c cs v vs words (value_back knows c.kind v are.0) rest e;
    }

-- a statement of the words that are printed of it
record StatementBack (schema : Schema) (s : Statement) : Type 0 where
  verb : verb_said (statement_of schema s) ≡ statement_verb s
  parts : HasSaidParts (statement_of schema s)
  printed : AllByRecursion IsPrinted (words_behind (statement_of schema s))
  count : length (words_behind (statement_of schema s)) ≤ 90
  back : (len : ℕ) (placed : SaidStatement PlacedWord) → statement_texts placed ≡ statement_of schema s → statement_said schema len placed ≡ Ok s

begin_back : (schema : Schema) (len : ℕ) (placed : SaidStatement PlacedWord) → statement_texts placed ≡ Begin → statement_said schema len placed ≡ Ok statements.Begin
begin_back schema len Begin e = refl
begin_back schema len other e = cc

commit_back : (schema : Schema) (len : ℕ) (placed : SaidStatement PlacedWord) → statement_texts placed ≡ Commit → statement_said schema len placed ≡ Ok statements.Commit
commit_back schema len Commit e = refl
commit_back schema len other e = cc

rollback_back : (schema : Schema) (len : ℕ) (placed : SaidStatement PlacedWord) → statement_texts placed ≡ Rollback → statement_said schema len placed ≡ Ok statements.Rollback
rollback_back schema len Rollback e = refl
rollback_back schema len other e = cc

select_back : (schema : Schema) (len : ℕ) (q : Query) (placed : SaidStatement PlacedWord) → QueryBack schema q → statement_texts placed ≡ Select (table_name schema q.table) (conds_of schema q)
    → statement_said schema len placed ≡ Ok (statements.Select q)
select_back schema len q (Select t cs) b e =
    let name : t.text ≡ table_name schema q.table = cc in let texts : map cond_texts cs ≡ conds_of schema q = cc in
    ap (λ (r : Result Query LineFault). r >>= λ x. Ok (statements.Select x)) (b.back t cs name texts)
select_back schema len q other b e = cc

delete_back : (schema : Schema) (len : ℕ) (q : Query) (placed : SaidStatement PlacedWord) → QueryBack schema q → statement_texts placed ≡ Delete (table_name schema q.table) (conds_of schema q)
    → statement_said schema len placed ≡ Ok (statements.Delete q)
delete_back schema len q (Delete t cs) b e =
    let name : t.text ≡ table_name schema q.table = cc in let texts : map cond_texts cs ≡ conds_of schema q = cc in
    ap (λ (r : Result Query LineFault). r >>= λ x. Ok (statements.Delete x)) (b.back t cs name texts)
delete_back schema len q other b e = cc

explain_back : (schema : Schema) (len : ℕ) (q : Query) (placed : SaidStatement PlacedWord) → QueryBack schema q → statement_texts placed ≡ Explain (table_name schema q.table) (conds_of schema q)
    → statement_said schema len placed ≡ Ok (statements.Explain q)
explain_back schema len q (Explain t cs) b e =
    let name : t.text ≡ table_name schema q.table = cc in let texts : map cond_texts cs ≡ conds_of schema q = cc in
    ap (λ (r : Result Query LineFault). r >>= λ x. Ok (statements.Explain x)) (b.back t cs name texts)
explain_back schema len q other b e = cc

insert_said_back : (schema : Schema) (len n : ℕ) (columns : List Column) (row : List Value) (name : List ℕ) (placed : SaidStatement PlacedWord) → table_from 0 schema.tables name ≡ Some (n, columns)
    → ValuesBack columns row → statement_texts placed ≡ Insert name (map canonical_text row) → statement_said schema len placed ≡ Ok (statements.Insert n row)
insert_said_back schema len n columns row name (Insert t ws) found b e =
    let text : t.text ≡ name = cc in let texts : texts_of ws ≡ map canonical_text row = cc in
    ap (λ (w : List ℕ). or_fault (faults.NoTable t.at) (table_from 0 schema.tables w) >>= λ x. values_said len [] x.1 ws >>= λ vs. Ok (statements.Insert x.0 vs)) text
    ∙ ap (λ (o : Option (ℕ × List Column)). or_fault (faults.NoTable t.at) o >>= λ x. values_said len [] x.1 ws >>= λ vs. Ok (statements.Insert x.0 vs)) found
    ∙ ap (λ (r : Result (List Value) LineFault). r >>= λ vs. Ok (statements.Insert n vs)) (b.back len [] ws texts)
insert_said_back schema len n columns row name other found b e = cc

work_back : (schema : Schema) (len : ℕ) (placed : SaidStatement PlacedWord) → statement_texts placed ≡ Work → statement_said schema len placed ≡ Ok statements.Work
work_back schema len Work e = refl
work_back schema len other e = cc

insert_back : KnowsTexts → (schema : Schema) (sizes : Sizes) (n : ℕ) (row : List Value) → KeepsLimits schema sizes → HasNames schema → IsInsertFor schema n row → StatementBack schema (statements.Insert n row)
insert_back knows schema sizes n row keeps names fits =
    let d = declared schema sizes n fits.into keeps names fits.table in
    let b = values_back knows fits.into.columns row fits.values in
    let name : table_name schema n ≡ fits.into.name = table_name_is schema n fits.into fits.table in
    let many : length row ≡ length fits.into.columns = b.count in
    let few : length fits.into.columns ≤ 8 = d.few in
    record {
      verb = refl;
      parts = subst (λ (t : List ℕ). HasSaidParts (Insert t (map canonical_text row))) (sym name) (d.named, b.are_said);
      printed = subst (λ (t : List ℕ). AllByRecursion IsPrinted (t ∷ map canonical_text row)) (sym name) (name_printed fits.into.name d.named, b.printed);
      count = omega (arith, length-map row canonical_text);
      back = λ len placed e. insert_said_back schema len n fits.into.columns row (table_name schema n) placed (ap (table_from 0 schema.tables) name ∙ d.found) b e;
    }

summarize_said_back : (schema : Schema) (len n : ℕ) (name : List ℕ) (placed : SaidStatement PlacedWord) → index_from 0 schema.indexes name ≡ Some n → statement_texts placed ≡ Summarize name None
    → statement_said schema len placed ≡ Ok (statements.Summarize n None)
summarize_said_back schema len n name (Summarize i None) found e =
    let text : i.text ≡ name = cc in
    ap (λ (w : List ℕ). or_fault (faults.NoIndex i.at) (index_from 0 schema.indexes w) >>= λ x. Ok (statements.Summarize x None)) text
    ∙ ap (λ (o : Option ℕ). or_fault (faults.NoIndex i.at) o >>= λ x. Ok (statements.Summarize x None)) found
summarize_said_back schema len n name (Summarize i (Some b)) found e = cc
summarize_said_back schema len n name other found e = cc

block_said_back : (schema : Schema) (len n block : ℕ) (name : List ℕ) (placed : SaidStatement PlacedWord) → index_from 0 schema.indexes name ≡ Some n → block < 2 ^ 32
    → statement_texts placed ≡ Summarize name (Some (decimal block)) → statement_said schema len placed ≡ Ok (statements.Summarize n (Some block))
block_said_back schema len n block name (Summarize i (Some b)) found low e =
    let text : i.text ≡ name = cc in let digits : b.text ≡ decimal block = cc in
    ap (λ (w : List ℕ). or_fault (faults.NoIndex i.at) (index_from 0 schema.indexes w) >>= λ x. Ok (statements.Summarize x (Some (block_of b.text)))) text
    ∙ ap (λ (o : Option ℕ). or_fault (faults.NoIndex i.at) o >>= λ x. Ok (statements.Summarize x (Some (block_of b.text)))) found
    ∙ ap (λ (m : ℕ). Ok (statements.Summarize n (Some m))) (ap block_of digits ∙ block_back block low)
block_said_back schema len n block name (Summarize i None) found low e = cc
block_said_back schema len n block name other found low e = cc

desummarize_said_back : (schema : Schema) (len n block : ℕ) (name : List ℕ) (placed : SaidStatement PlacedWord) → index_from 0 schema.indexes name ≡ Some n → block < 2 ^ 32
    → statement_texts placed ≡ Desummarize name (decimal block) → statement_said schema len placed ≡ Ok (statements.Desummarize n block)
desummarize_said_back schema len n block name (Desummarize i b) found low e =
    let text : i.text ≡ name = cc in let digits : b.text ≡ decimal block = cc in
    ap (λ (w : List ℕ). or_fault (faults.NoIndex i.at) (index_from 0 schema.indexes w) >>= λ x. Ok (statements.Desummarize x (block_of b.text))) text
    ∙ ap (λ (o : Option ℕ). or_fault (faults.NoIndex i.at) o >>= λ x. Ok (statements.Desummarize x (block_of b.text))) found
    ∙ ap (λ (m : ℕ). Ok (statements.Desummarize n m)) (ap block_of digits ∙ block_back block low)
desummarize_said_back schema len n block name other found low e = cc

vacuum_said_back : (schema : Schema) (len n : ℕ) (columns : List Column) (name : List ℕ) (placed : SaidStatement PlacedWord) → table_from 0 schema.tables name ≡ Some (n, columns)
    → statement_texts placed ≡ Vacuum name → statement_said schema len placed ≡ Ok (statements.Vacuum n)
vacuum_said_back schema len n columns name (Vacuum t) found e =
    let text : t.text ≡ name = cc in
    ap (λ (w : List ℕ). or_fault (faults.NoTable t.at) (table_from 0 schema.tables w) >>= λ x. Ok (statements.Vacuum x.0)) text
    ∙ ap (λ (o : Option (ℕ × List Column)). or_fault (faults.NoTable t.at) o >>= λ x. Ok (statements.Vacuum x.0)) found
vacuum_said_back schema len n columns name other found e = cc

summarize_back : (schema : Schema) (sizes : Sizes) (n : ℕ) (block : Option ℕ) → KeepsLimits schema sizes → HasNames schema → IsIndexOf schema n → IfSome block (λ m. m < 2 ^ 32)
    → StatementBack schema (statements.Summarize n block)
summarize_back schema sizes n None keeps names of low =
    let d = declared_index schema sizes n of.0 keeps names of.1 in
    let name : index_name schema n ≡ of.0.name = index_name_is schema n of.0 of.1 in
    record {
      verb = refl;
      parts = (ap is_name name ∙ d.named, tt);
      printed = (subst IsPrinted (sym name) (name_printed of.0.name d.named), tt);
      count = omega arith;
      back = λ len placed e. summarize_said_back schema len n (index_name schema n) placed (ap (index_from 0 schema.indexes) name ∙ d.found) e;
    }
summarize_back schema sizes n (Some block) keeps names of low =
    let d = declared_index schema sizes n of.0 keeps names of.1 in
    let name : index_name schema n ≡ of.0.name = index_name_is schema n of.0 of.1 in
    record {
      verb = refl;
      parts = (ap is_name name ∙ d.named, block_written block low);
      printed = (subst IsPrinted (sym name) (name_printed of.0.name d.named), (block_printed block low, tt));
      count = omega arith;
      back = λ len placed e. block_said_back schema len n block (index_name schema n) placed (ap (index_from 0 schema.indexes) name ∙ d.found) low e;
    }

desummarize_back : (schema : Schema) (sizes : Sizes) (n block : ℕ) → KeepsLimits schema sizes → HasNames schema → IsIndexOf schema n → block < 2 ^ 32
    → StatementBack schema (statements.Desummarize n block)
desummarize_back schema sizes n block keeps names of low =
    let d = declared_index schema sizes n of.0 keeps names of.1 in
    let name : index_name schema n ≡ of.0.name = index_name_is schema n of.0 of.1 in
    record {
      verb = refl;
      parts = (ap is_name name ∙ d.named, block_written block low);
      printed = (subst IsPrinted (sym name) (name_printed of.0.name d.named), (block_printed block low, tt));
      count = omega arith;
      back = λ len placed e. desummarize_said_back schema len n block (index_name schema n) placed (ap (index_from 0 schema.indexes) name ∙ d.found) low e;
    }

vacuum_back : (schema : Schema) (sizes : Sizes) (n : ℕ) → KeepsLimits schema sizes → HasNames schema → IsTableOf schema n → StatementBack schema (statements.Vacuum n)
vacuum_back schema sizes n keeps names of =
    let d = declared schema sizes n of.0 keeps names of.1 in
    let name : table_name schema n ≡ of.0.name = table_name_is schema n of.0 of.1 in
    record {
      verb = refl;
      parts = ap is_name name ∙ d.named;
      printed = (subst IsPrinted (sym name) (name_printed of.0.name d.named), tt);
      count = omega arith;
      back = λ len placed e. vacuum_said_back schema len n of.0.columns (table_name schema n) placed (ap (table_from 0 schema.tables) name ∙ d.found) e;
    }

statement_back : KnowsTexts → (schema : Schema) (sizes : Sizes) (s : Statement) → KeepsLimits schema sizes → HasNames schema → IsStatementFor schema s → IsOfItsType s → StatementBack schema s
statement_back knows schema sizes statements.Begin keeps names fits typed =
    record { verb = refl; parts = tt; printed = tt; count = omega arith; back = λ len placed e. begin_back schema len placed e }
statement_back knows schema sizes statements.Commit keeps names fits typed =
    record { verb = refl; parts = tt; printed = tt; count = omega arith; back = λ len placed e. commit_back schema len placed e }
statement_back knows schema sizes statements.Rollback keeps names fits typed =
    record { verb = refl; parts = tt; printed = tt; count = omega arith; back = λ len placed e. rollback_back schema len placed e }
statement_back knows schema sizes statements.Work keeps names fits typed =
    record { verb = refl; parts = tt; printed = tt; count = omega arith; back = λ len placed e. work_back schema len placed e }
statement_back knows schema sizes (statements.Insert n row) keeps names fits typed = insert_back knows schema sizes n row keeps names fits
statement_back knows schema sizes (statements.Select q) keeps names fits typed =
    let b = query_back knows schema sizes q keeps names fits typed in
    let count : length (words_of_conds (conds_of schema q)) ≤ 80 = b.count in
    record { verb = refl; parts = b.is_said; count = omega arith; printed = b.printed; back = λ len placed e. select_back schema len q placed b e }
statement_back knows schema sizes (statements.Delete q) keeps names fits typed =
    let b = query_back knows schema sizes q keeps names fits typed in
    let count : length (words_of_conds (conds_of schema q)) ≤ 80 = b.count in
    record { verb = refl; parts = b.is_said; count = omega arith; printed = b.printed; back = λ len placed e. delete_back schema len q placed b e }
statement_back knows schema sizes (statements.Explain q) keeps names fits typed =
    let b = query_back knows schema sizes q keeps names fits typed in
    let count : length (words_of_conds (conds_of schema q)) ≤ 80 = b.count in
    record { verb = refl; parts = b.is_said; count = omega arith; printed = b.printed; back = λ len placed e. explain_back schema len q placed b e }
statement_back knows schema sizes (statements.Summarize n block) keeps names fits typed = summarize_back schema sizes n block keeps names fits typed
statement_back knows schema sizes (statements.Desummarize n block) keeps names fits typed = desummarize_back schema sizes n block keeps names fits typed
statement_back knows schema sizes (statements.Vacuum n) keeps names fits typed = vacuum_back schema sizes n keeps names fits

-- every verb is a short word
verb_printed : (v : Verb) → IsPrinted (verb_text v)
verb_printed verbs.Begin = small_word (codes "begin") refl (omega arith) (omega arith)
verb_printed verbs.Commit = small_word (codes "commit") refl (omega arith) (omega arith)
verb_printed verbs.Rollback = small_word (codes "rollback") refl (omega arith) (omega arith)
verb_printed verbs.Insert = small_word (codes "insert") refl (omega arith) (omega arith)
verb_printed verbs.Select = small_word (codes "select") refl (omega arith) (omega arith)
verb_printed verbs.Delete = small_word (codes "delete") refl (omega arith) (omega arith)
verb_printed verbs.Explain = small_word (codes "explain") refl (omega arith) (omega arith)
verb_printed verbs.Summarize = small_word (codes "summarize") refl (omega arith) (omega arith)
verb_printed verbs.Desummarize = small_word (codes "desummarize") refl (omega arith) (omega arith)
verb_printed verbs.Vacuum = small_word (codes "vacuum") refl (omega arith) (omega arith)
verb_printed verbs.Work = small_word (codes "work") refl (omega arith) (omega arith)
verb_printed verbs.Start = small_word (codes "start") refl (omega arith) (omega arith)
verb_printed verbs.Step = small_word (codes "step") refl (omega arith) (omega arith)
verb_printed verbs.Finish = small_word (codes "finish") refl (omega arith) (omega arith)

-- an order of the words that are printed of it
record OrderBack (language : List Verb) (schema : Schema) (o : Order) : Type 0 where
  is_said : IsSaidOrder language (order_of schema o)
  printed : AllByRecursion IsPrinted (words_of_order (order_of schema o))
  count : length (words_of_order (order_of schema o)) ≤ 92
  back : (len : ℕ) (placed : SaidOrder PlacedWord) → order_texts placed ≡ order_of schema o → order_said schema len placed ≡ Ok o

whole_order_back : (schema : Schema) (len : ℕ) (s : Statement) (placed : SaidOrder PlacedWord) → StatementBack schema s → order_texts placed ≡ Whole (statement_of schema s)
    → order_said schema len placed ≡ Ok (orders.Whole s)
whole_order_back schema len s (Whole placed) b e =
    let texts : statement_texts placed ≡ statement_of schema s = cc in
    ap (λ (r : Result Statement LineFault). r >>= λ x. Ok (orders.Whole x)) (b.back len placed texts)
whole_order_back schema len s other b e = cc

start_order_back : (schema : Schema) (len : ℕ) (s : Statement) (placed : SaidOrder PlacedWord) → StatementBack schema s → order_texts placed ≡ Start (statement_of schema s)
    → order_said schema len placed ≡ Ok (orders.Start s)
start_order_back schema len s (Start placed) b e =
    let texts : statement_texts placed ≡ statement_of schema s = cc in
    ap (λ (r : Result Statement LineFault). r >>= λ x. Ok (orders.Start x)) (b.back len placed texts)
start_order_back schema len s other b e = cc

step_order_back : (schema : Schema) (len : ℕ) (placed : SaidOrder PlacedWord) → order_texts placed ≡ Step → order_said schema len placed ≡ Ok orders.Step
step_order_back schema len Step e = refl
step_order_back schema len other e = cc

finish_order_back : (schema : Schema) (len : ℕ) (placed : SaidOrder PlacedWord) → order_texts placed ≡ Finish → order_said schema len placed ≡ Ok orders.Finish
finish_order_back schema len Finish e = refl
finish_order_back schema len other e = cc

said_of_statement : (language : List Verb) (schema : Schema) (s : Statement) → StatementBack schema s → has_verb language (statement_verb s) ≡ true → IsSaidStatement language (statement_of schema s)
said_of_statement language schema s b has = (ap (has_verb language) b.verb ∙ has, b.parts)

order_back : (language : List Verb) → KnowsTexts → (schema : Schema) (sizes : Sizes) (session : List ℕ) (o : Order) → KeepsLimits schema sizes → HasNames schema → IsOrderFor schema o
    → is_order_in language o ≡ true → HasItsType (lines.Say session o) → OrderBack language schema o
order_back language knows schema sizes session (orders.Whole s) keeps names fits within typed =
    let b = statement_back knows schema sizes s keeps names fits typed in
    let count : length (words_behind (statement_of schema s)) ≤ 90 = b.count in record {
      is_said = said_of_statement language schema s b within;
      printed = (verb_printed (verb_said (statement_of schema s)), b.printed);
      count = omega arith;
      back = λ len placed e. whole_order_back schema len s placed b e;
    }
order_back language knows schema sizes session (orders.Start s) keeps names fits within typed =
    let b = statement_back knows schema sizes s keeps names fits typed in
    let has = and_parts (has_verb language verbs.Start) (has_verb language (statement_verb s)) within in
    let count : length (words_behind (statement_of schema s)) ≤ 90 = b.count in record {
      is_said = (has.0, said_of_statement language schema s b has.1);
      printed = (verb_printed verbs.Start, (verb_printed (verb_said (statement_of schema s)), b.printed));
      count = omega arith;
      back = λ len placed e. start_order_back schema len s placed b e;
    }
order_back language knows schema sizes session orders.Step keeps names fits within typed =
    record { is_said = within; printed = (verb_printed verbs.Step, tt); count = omega arith; back = λ len placed e. step_order_back schema len placed e }
order_back language knows schema sizes session orders.Finish keeps names fits within typed =
    record { is_said = within; printed = (verb_printed verbs.Finish, tt); count = omega arith; back = λ len placed e. finish_order_back schema len placed e }

said_back : (language : List Verb) (schema : Schema) (len : ℕ) (session : List ℕ) (o : Order) (b : OrderBack language schema o) (placed : SaidLine PlacedWord)
    → said_texts placed ≡ Say session (order_of schema o) → line_said schema len placed ≡ Ok (lines.Say session o)
said_back language schema len session o b (Nothing words) e = cc
said_back language schema len session o b (Say w said) e =
    let name : w.text ≡ session = cc in let texts : order_texts said ≡ order_of schema o = cc in
    ap (λ (r : Result Order LineFault). r >>= λ x. Ok (lines.Say w.text x)) (b.back len said texts)
    ∙ ap (λ (t : List ℕ). Ok (lines.Say t o)) name

line_back : (language : List Verb) → KnowsTexts → (schema : Schema) (session : List ℕ) (o : Order) → is_name session ≡ true → OrderBack language schema o
    → ReadsBack language schema (lines.Say session o)
line_back language knows schema session o named b =
    let words : List (List ℕ) = session ∷ words_of_order (order_of schema o) in
    let printed : AllByRecursion IsPrinted words = (name_printed session named, b.printed) in
    let count : length (words_of_order (order_of schema o)) ≤ 92 = b.count in
    let short : length (joined words) ≤ MAX_LINE = omega (arith, joined_short words printed) in
    let g = grammar_read knows.denoted language schema (joined words) (Say session (order_of schema o)) short ((named, b.is_said), joined_words words printed) in
    record { short = short; same = g.3 ∙ said_back language schema (length (joined words)) session o b g.0 g.2 }

nothing_back : (language : List Verb) (schema : Schema) → ReadsBack language schema lines.Nothing
unfolding line_in
nothing_back language schema = record { short = omega arith; same = refl }

-- a line that fits and is of the language is read back
pub read_back : (language : List Verb) → KnowsTexts → (schema : Schema) (sizes : Sizes) (line : Line) → KeepsLimits schema sizes → HasNames schema → IsLineFor schema line
    → is_line_in language line ≡ true → IsNamedLine line → HasItsType line → ReadsBack language schema line
read_back language knows schema sizes lines.Nothing keeps names fits within named typed = nothing_back language schema
read_back language knows schema sizes (lines.Say session o) keeps names fits within named typed =
    line_back language knows schema session o named (order_back language knows schema sizes session o keeps names fits within typed)
