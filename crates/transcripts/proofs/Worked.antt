-- the worked transcript is right
use Rattle.std.proofs.Common.{arith, ◌≡◌, ◌⊎◌, inl, inr, ℕ, ◌<◌, Bool, true, false, not, ◌&&◌, ◌||◌, ◌==◌, List, [], ◌∷◌, ◌++◌, filter, None, Some, refl, sym, ap, subst, ◌∙◌}
use Rattle.std.specs.Prelude.{◌+◌, codes, decimal, is_some, length, map, pos, slice_index_or, take}
use Rattle.std.proofs.lemmas.Bool.{or_left, or_right}
use Rattle.std.proofs.lemmas.Cmp.{nat_cmp_total}
use Rattle.std.proofs.lemmas.Fmt.{decimal_digit}
use Rattle.std.proofs.lemmas.List.Elements.{All-cons, All-nil}
use Rattle.std.proofs.lemmas.Option.{none-some}
use Rattle.std.specs.FinMap as maps
use Rattle.std.specs.FinMap.{entries-from_sorted, get-empty, get-from_sorted}
use Rattle.std.specs.FinSet as set
use Rattle.std.specs.Ordering.{eq_by_cmp, nat_cmp}
use Rattle.block_model.specs.declared.reply.Refusal.TheVariants as refusals
use Rattle.block_model.specs.declared.reply.Reply.{Reply}
use Rattle.block_model.specs.declared.reply.Reply.TheVariants as replies
use Rattle.block_model.specs.declared.row.Row.{Row}
use Rattle.block_model.specs.declared.row.RowId.{RowId}
use Rattle.block_model.specs.declared.value.Value.{Value}
use Rattle.block_model.specs.declared.value.Value.TheVariants as values
use Rattle.block_model.specs.DatabaseState.{DatabaseState, OpenTransaction}
use Rattle.block_model.specs.NumberMaps.{found_after_put, get_put_apart, get_put_here, get_removed_apart}
use Rattle.block_model.specs.RequestEffect.{after_begin, after_commit, after_mark, after_put, failed_transaction, is_conflict, marked_elsewhere, new_transaction, rows_found, with_transaction}
use Rattle.block_model.specs.RowMatches.{row_matches}
use Rattle.block_model.specs.TableState.{id_cmp, id_ties_itself, ids_total}
use Rattle.reply_texts.specs.Texts.{reply_text}
use Rattle.store_layout.specs.declared.statement.Statement.{Statement}
use Rattle.store_layout.specs.declared.statement.Statement.TheVariants as statements
use Rattle.transcripts.specs.Told.{AreFree, Begins, Commits, Deleting, FailsAt, Inserts, Limits, MarksAll, Selects, Tells, marked}
use Rattle.transcripts.specs.Transcript.{Empty, Further, IsTextOf, IsTranscript, OfReply, Said, next_statement}
use Rattle.transcripts.specs.Worked.{WorkedIsRight, all_rows, old_row, told, worked_opening, worked_script, worked_texts}
use Rattle.transcripts.proofs.Maps.{any_entry, no_entry}

-- ---- texts

digit : (n : ℕ) → n < 10 → decimal n ≡ (48 + n) ∷ []
digit n low = decimal_digit n low

a_begun : reply_text (codes "a") (replies.Begun 2) ≡ codes "a begun 2\n"
unfolding reply_text
a_begun = λ i. codes "a begun " ++ digit 2 (omega arith) i ++ codes "\n"

b_begun : reply_text (codes "b") (replies.Begun 3) ≡ codes "b begun 3\n"
unfolding reply_text
b_begun = λ i. codes "b begun " ++ digit 3 (omega arith) i ++ codes "\n"

-- the old row's line, and the number of rows
found : (name : List ℕ) → reply_text name (replies.Found (old_row ∷ [])) ≡ (name ++ codes " row " ++ (codes "1" ++ codes "." ++ codes "0") ++ ((codes " " ++ codes "7") ++ []) ++ codes "\n" ++ []) ++ (name ++ codes " rows " ++ codes "1" ++ codes "\n")
unfolding reply_text
found name = λ i.
    (name ++ codes " row " ++ (digit 1 (omega arith) i ++ codes "." ++ digit 0 (omega arith) i) ++ ((codes " " ++ digit 7 (omega arith) i) ++ []) ++ codes "\n" ++ []) ++ (name ++ codes " rows " ++ digit 1 (omega arith) i ++ codes "\n")

b_deleted : reply_text (codes "b") (replies.Deleted 1) ≡ codes "b deleted 1\n"
unfolding reply_text
b_deleted = λ i. codes "b deleted " ++ digit 1 (omega arith) i ++ codes "\n"

b_inserted : reply_text (codes "b") (replies.Inserted (record { t = 3; k = 0 })) ≡ codes "b inserted 3.0\n"
unfolding reply_text
b_inserted = λ i. codes "b inserted " ++ (digit 3 (omega arith) i ++ codes "." ++ digit 0 (omega arith) i) ++ codes "\n"

a_conflict : reply_text (codes "a") (replies.Refused (refusals.Conflict old_row.id)) ≡ codes "a error 7 1.0\n"
unfolding reply_text
a_conflict = λ i. codes "a error 7 " ++ (digit 1 (omega arith) i ++ codes "." ++ digit 0 (omega arith) i) ++ codes "\n"

b_committed : reply_text (codes "b") replies.Committed ≡ codes "b committed\n"
unfolding reply_text
b_committed = refl

a_rolled_back : reply_text (codes "a") replies.RolledBack ≡ codes "a rolled back\n"
unfolding reply_text
a_rolled_back = refl

-- ---- the databases

abbrev id : RowId
id = old_row.id

abbrev x0 : OpenTransaction
x0 = new_transaction worked_opening

abbrev s1 : DatabaseState
s1 = after_begin worked_opening 0

abbrev x1 : OpenTransaction
x1 = new_transaction s1

abbrev s2 : DatabaseState
s2 = after_begin s1 1

abbrev y1 : OpenTransaction
y1 = after_mark x1 id

abbrev s4 : DatabaseState
s4 = with_transaction s2 1 y1

abbrev new_values : List Value
new_values = values.Int (pos 8) ∷ []

abbrev y2 : OpenTransaction
y2 = after_put y1 0 new_values

abbrev s5 : DatabaseState
s5 = with_transaction s4 1 y2

abbrev s7 : DatabaseState
s7 = with_transaction s5 0 (failed_transaction x0)

abbrev s8 : DatabaseState
s8 = after_commit s7 1 y2

none_first : (n : ℕ) → maps.get worked_opening.sessions n ≡ None
none_first n = get-empty nat_cmp n

none_second : maps.get s1.sessions 1 ≡ None
none_second = get_put_apart nat_cmp_total worked_opening.sessions 0 1 x0 refl ∙ none_first 1

a_there : maps.get s5.sessions 0 ≡ Some x0
a_there =
    get_put_apart nat_cmp_total s4.sessions 1 0 y2 refl ∙ get_put_apart nat_cmp_total s2.sessions 1 0 y1 refl ∙ get_put_apart nat_cmp_total s1.sessions 1 0 x1 refl
    ∙ get_put_here nat_cmp_total worked_opening.sessions 0 x0

b_there : maps.get s7.sessions 1 ≡ Some y2
b_there = get_put_apart nat_cmp_total s5.sessions 0 1 (failed_transaction x0) refl ∙ get_put_here nat_cmp_total s4.sessions 1 y2

a_failed : maps.get s8.sessions 0 ≡ Some (failed_transaction x0)
a_failed = get_removed_apart nat_cmp_total s7.sessions 1 0 refl ∙ get_put_here nat_cmp_total s5.sessions 0 (failed_transaction x0)

finds : rows_found x0 all_rows ≡ old_row ∷ []
finds = ap (λ (es : List (RowId × Row)). filter (row_matches all_rows) (map (λ e. e.1) es)) (entries-from_sorted id_cmp ((id, old_row) ∷ []) tt)

stands : maps.contains_key worked_opening.table id ≡ true
stands = ap is_some (get-from_sorted id_cmp ((id, old_row) ∷ []) id tt)

-- ---- marks

first_marks : (k : ℕ) (x : OpenTransaction) → maps.get s2.sessions k ≡ Some x → set.contains x.marks id ≡ false
first_marks k x got = by (found_after_put s1.sessions 1 k x1 x got)
  where
    older : (maps.get s1.sessions k ≡ Some x) → ((k ≡ 0) × (x0 ≡ x)) ⊎ ((k ≡ 0 → ⊥) × (maps.get worked_opening.sessions k ≡ Some x)) → set.contains x.marks id ≡ false
    older was (inl same) = ap (λ (y : OpenTransaction). set.contains y.marks id) (sym same.1) ∙ set.contains-empty id_cmp id
    older was (inr none) = absurd (none-some x (sym (none_first k) ∙ none.1))

    by : ((k ≡ 1) × (x1 ≡ x)) ⊎ ((k ≡ 1 → ⊥) × (maps.get s1.sessions k ≡ Some x)) → set.contains x.marks id ≡ false
    by (inl same) = ap (λ (y : OpenTransaction). set.contains y.marks id) (sym same.1) ∙ set.contains-empty id_cmp id
    by (inr was) = older was.1 (found_after_put worked_opening.sessions 0 k x0 x was.1)

and_false : (a b : Bool) → b ≡ false → (a && b) ≡ false
and_false true b is = is
and_false false b is = refl

free : is_conflict s2 1 x1 id ≡ false
free =
    (λ i. not (stands i) || marked_elsewhere s2 1 id)
    ∙ no_entry (λ e. not (e.0 == 1) && set.contains e.1.marks id) s2.sessions (λ k x got. and_false (not (k == 1)) (set.contains x.marks id) (first_marks k x got))

has_mark : set.contains y2.marks id ≡ true
has_mark = set.contains-insert ids_total x1.marks id id ∙ or_left (eq_by_cmp id_cmp id id) (set.contains x1.marks id) (id_ties_itself id)

must : is_conflict s5 0 x0 id ≡ true
must =
    or_right (not (maps.contains_key worked_opening.table id)) (marked_elsewhere s5 0 id)
    (any_entry (λ e. not (e.0 == 0) && set.contains e.1.marks id) s5.sessions 1 y2 (get_put_here nat_cmp_total s4.sessions 1 y2) has_mark)

-- ---- the entries

module _ (limits : Limits) (numbers : 3 < limits.numbers) where
  abbrev Right : List Said → DatabaseState → Type 0
  Right said s = IsTranscript limits (codes "a" ∷ codes "b" ∷ []) worked_script worked_opening said s

  abbrev Told : List Said → DatabaseState → ℕ → Statement → Reply → DatabaseState → Type 0
  Told said s n statement reply after = Tells limits (next_statement worked_script said) s n statement reply after

  text_is : (name : List ℕ) (statement : Statement) (reply : Reply) (text : List ℕ) → reply_text name reply ≡ text → IsTextOf name reply statement text
  text_is name statement reply text is = subst (IsTextOf name reply statement) is (OfReply statement)

  abbrev entry : ℕ → Said
  entry k = slice_index_or worked_texts k (told 0 0 [])

  abbrev First : ℕ → DatabaseState → Type 0
  First k s = Right (take k worked_texts) s

  first : First 1 s1
  first =
      Further [] worked_opening s1 (entry 0) statements.Begin (replies.Begun 2) Empty (record { is = refl; rank = refl }) (text_is (codes "a") statements.Begin (replies.Begun 2) _ a_begun)
      (Begins (none_first 0) (omega (arith, numbers)))

  second : First 2 s2
  second =
      Further (take 1 worked_texts) s1 s2 (entry 1) statements.Begin (replies.Begun 3) first (record { is = refl; rank = refl }) (text_is (codes "b") statements.Begin (replies.Begun 3) _ b_begun)
      (Begins none_second numbers)

  third : First 3 s2
  third =
      Further (take 2 worked_texts) s2 s2 (entry 2) (statements.Select all_rows) (replies.Found (old_row ∷ [])) second (record { is = refl; rank = refl })
      (text_is (codes "b") (statements.Select all_rows) (replies.Found (old_row ∷ [])) _ (found (codes "b")))
      (subst (λ (rows : List Row). Told (take 2 worked_texts) s2 1 (statements.Select all_rows) (replies.Found rows) s2) finds
      (Selects x1 all_rows (record { under_way = get_put_here nat_cmp_total s1.sessions 1 x1; whole = refl })))

  fourth : First 4 s4
  fourth =
      Further (take 3 worked_texts) s2 s4 (entry 3) (statements.Delete all_rows) (replies.Deleted 1) third (record { is = refl; rank = refl })
      (text_is (codes "b") (statements.Delete all_rows) (replies.Deleted 1) _ b_deleted)
      (subst (λ (rows : List Row). Told (take 3 worked_texts) s2 1 (statements.Delete all_rows) (replies.Deleted (length rows)) (with_transaction s2 1 (marked x1 rows))) finds
      (Deleting x1 (marked x1 (rows_found x1 all_rows)) all_rows (replies.Deleted (length (rows_found x1 all_rows))) (record { under_way = get_put_here nat_cmp_total s1.sessions 1 x1; whole = refl })
      (MarksAll (subst (AreFree s2 1 x1) (sym finds) (All-cons (λ (r : Row). is_conflict s2 1 x1 r.id ≡ false) old_row [] free (All-nil (λ (r : Row). is_conflict s2 1 x1 r.id ≡ false)))))))

  fifth : First 5 s5
  fifth =
      Further (take 4 worked_texts) s4 s5 (entry 4) (statements.Insert 0 new_values) (replies.Inserted (record { t = 3; k = 0 })) fourth (record { is = refl; rank = refl })
      (text_is (codes "b") (statements.Insert 0 new_values) (replies.Inserted (record { t = 3; k = 0 })) _ b_inserted)
      (Inserts y1 0 new_values (record { under_way = get_put_here nat_cmp_total s2.sessions 1 y1; whole = refl }))

  sixth : First 6 s5
  sixth =
      Further (take 5 worked_texts) s5 s5 (entry 5) (statements.Select all_rows) (replies.Found (old_row ∷ [])) fifth (record { is = refl; rank = refl })
      (text_is (codes "a") (statements.Select all_rows) (replies.Found (old_row ∷ [])) _ (found (codes "a")))
      (subst (λ (rows : List Row). Told (take 5 worked_texts) s5 0 (statements.Select all_rows) (replies.Found rows) s5) finds (Selects x0 all_rows (record { under_way = a_there; whole = refl })))

  seventh : First 7 s7
  seventh =
      Further (take 6 worked_texts) s5 s7 (entry 6) (statements.Delete all_rows) (replies.Refused (refusals.Conflict id)) sixth (record { is = refl; rank = refl })
      (text_is (codes "a") (statements.Delete all_rows) (replies.Refused (refusals.Conflict id)) _ a_conflict)
      (Deleting x0 (failed_transaction x0) all_rows (replies.Refused (refusals.Conflict id)) (record { under_way = a_there; whole = refl })
      (FailsAt [] old_row [] finds (All-nil (λ (r : Row). is_conflict s5 0 x0 r.id ≡ false)) (inl must)))

  eighth : First 8 s8
  eighth =
      Further (take 7 worked_texts) s7 s8 (entry 7) statements.Commit replies.Committed seventh (record { is = refl; rank = refl })
      (text_is (codes "b") statements.Commit replies.Committed _ b_committed) (Commits y2 b_there)

  pub all_right : Right worked_texts (after_commit s8 0 (failed_transaction x0))
  all_right =
      Further (take 8 worked_texts) s8 (after_commit s8 0 (failed_transaction x0)) (entry 8) statements.Commit replies.RolledBack eighth (record { is = refl; rank = refl })
      (text_is (codes "a") statements.Commit replies.RolledBack _ a_rolled_back) (Commits (failed_transaction x0) a_failed)

pub worked_is_right : WorkedIsRight
worked_is_right limits numbers = (after_commit s8 0 (failed_transaction x0), all_right limits numbers)
