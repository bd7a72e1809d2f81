-- conflicts by the journal and by the transcript
use Rattle.std.proofs.Common.{◌≡◌, ◌≢◌, ◌⊎◌, inl, inr, ℕ, Bool, true, false, not, ◌&&◌, ◌||◌, List, [], ◌∷◌, ◌++◌, All, if◌then◌else◌, Option, Some, refl, sym, ap, subst, ◌∙◌, eqb, eq-eqb, ne_eqb}
use Rattle.std.proofs.lemmas.Bool.{false≢true, and_parts, cases_eq, or_left, or_right, or_cases}
use Rattle.std.proofs.lemmas.List.{append_assoc}
use Rattle.std.proofs.lemmas.List.Elements.{All-cons, All-nil, All-weaker}
use Rattle.std.specs.FinMap as map
use Rattle.std.specs.FinSet as set
use Rattle.std.specs.Ordering.{eq_by_cmp}
use Rattle.std.specs.Cmp.{eq_by_cmp_equiv}
use Rattle.block_model.specs.declared.row.Row.{Row}
use Rattle.block_model.specs.declared.row.RowId.{RowId}
use Rattle.block_model.specs.DatabaseState.{DatabaseState, OpenTransaction}
use Rattle.block_model.specs.NumberMaps.{same_Some}
use Rattle.block_model.specs.RequestEffect.{after_mark, is_conflict, is_own, marked_elsewhere}
use Rattle.block_model.specs.TableState.{id_cmp, ids_exact, ids_total}
use Rattle.std.specs.Cmp.{Equal-is}
use Rattle.store_layout.specs.declared.statement.Statement.{Statement}
use Rattle.model_laws.specs.MarksAreApart.{AreMarksApart}
use Rattle.script_semantics.specs.Place.{Hand}
use Rattle.transcript_laws.specs.Ahead.{IsAhead, IsCopyAhead, Idle, Fresh, HasPut, HasMarked}
use Rattle.transcript_laws.specs.Laws.{ConflictsAreTold, MarkedRowsAreFree}
use Rattle.transcripts.specs.Told.{MayConflict, marked}
use Rattle.transcripts.proofs.Maps.{any_entry, no_entry, some_entry}

-- ---- marks of a transaction

same_id : (a b : RowId) → eq_by_cmp id_cmp a b ≡ true → a ≡ b
same_id a b e = ids_exact a b ((Equal-is (id_cmp a b)).0 e)

mark_keeps : (x : OpenTransaction) (id q : RowId) → set.contains x.marks q ≡ true → set.contains (after_mark x id).marks q ≡ true
mark_keeps x id q h = elim (is_own x id) as (λ b. set.contains (if b then x.marks else set.insert x.marks id) q ≡ true) [
  | true ↦ h
  | false ↦ set.contains-insert ids_total x.marks id q ∙ or_right (eq_by_cmp id_cmp q id) (set.contains x.marks q) h
]

mark_has : (x : OpenTransaction) (id : RowId) → is_own x id ≡ false → set.contains (after_mark x id).marks id ≡ true
mark_has x id other =
    ap (λ b. set.contains (if b then x.marks else set.insert x.marks id) id) other ∙ set.contains-insert ids_total x.marks id id
    ∙ or_left (eq_by_cmp id_cmp id id) (set.contains x.marks id) ((eq_by_cmp_equiv ids_total).refl id)

mark_from : (x : OpenTransaction) (id q : RowId) → set.contains (after_mark x id).marks q ≡ true → (set.contains x.marks q ≡ true) ⊎ (q ≡ id)
mark_from x id q h = by (is_own x id) h
  where
    by : (b : Bool) → set.contains (if b then x.marks else set.insert x.marks id) q ≡ true → (set.contains x.marks q ≡ true) ⊎ (q ≡ id)
    by true h = inl h
    by false h = elim (or_cases (eq_by_cmp id_cmp q id) (set.contains x.marks q) (sym (set.contains-insert ids_total x.marks id q) ∙ h)) [ inl new ↦ inr (same_id q id new) | inr old ↦ inl old ]

marks_keep : (x : OpenTransaction) (rows : List Row) (q : RowId) → set.contains x.marks q ≡ true → set.contains (marked x rows).marks q ≡ true
marks_keep x [] q h = h
marks_keep x (row ∷ rows) q h = marks_keep (after_mark x row.id) rows q (mark_keeps x row.id q h)

pub same_number : (x : OpenTransaction) (rows : List Row) → (marked x rows).t ≡ x.t
same_number x [] = refl
same_number x (row ∷ rows) = same_number (after_mark x row.id) rows

abbrev HasMarks : OpenTransaction → List Row → Row → Type 0
HasMarks x rows row = is_own x row.id ≡ false → set.contains (marked x rows).marks row.id ≡ true

all_marked : (x : OpenTransaction) (rows : List Row) → All (HasMarks x rows) rows
all_marked x [] = All-nil (HasMarks x [])
all_marked x (row ∷ rows) = All-cons (HasMarks x (row ∷ rows)) row rows (λ other. marks_keep (after_mark x row.id) rows row.id (mark_has x row.id other)) (all_marked (after_mark x row.id) rows)

-- a mark was there, or is that of one of the rows
abbrev IsMarkOf : List Row → RowId → Type 0
IsMarkOf rows id = (before : List Row) × (row : Row) × (after : List Row) × (rows ≡ before ++ row ∷ after) × (row.id ≡ id)

marks_from : (x : OpenTransaction) (rows : List Row) (q : RowId) → set.contains (marked x rows).marks q ≡ true → (set.contains x.marks q ≡ true) ⊎ IsMarkOf rows q
marks_from x [] q h = inl h
marks_from x (row ∷ rows) q h = elim (marks_from (after_mark x row.id) rows q h) [
  | inl old ↦ elim (mark_from x row.id q old) [ inl was ↦ inl was | inr is ↦ inr ([], row, rows, refl, sym is) ]
  | inr m ↦ inr (row ∷ m.0, m.1, m.2, ap (λ (l : List Row). row ∷ l) m.3, m.4)
]

-- ---- by the transcript fewer rows are marked

keeps_marks : (before now : Option OpenTransaction) (hand : Option Hand) (z : OpenTransaction) (q : RowId) → IsCopyAhead before now hand → before ≡ Some z → set.contains z.marks q ≡ true
    → (y : OpenTransaction) × (now ≡ Some y) × (set.contains y.marks q ≡ true)
keeps_marks before now _ z q (Idle same) is has = (z, same ∙ is, has)
keeps_marks before now _ z q (Fresh statement same) is has = (z, same ∙ is, has)
keeps_marks before now _ z q (HasPut x table values was whole puts) is has = (_, puts, subst (λ (t : OpenTransaction). set.contains t.marks q ≡ true) (sym (same_Some x z (sym was ∙ is))) has)
keeps_marks before now _ z q (HasMarked x query rows left was whole finds marks) is has =
    (marked x rows, marks, marks_keep x rows q (subst (λ (t : OpenTransaction). set.contains t.marks q ≡ true) (sym (same_Some x z (sym was ∙ is))) has))

-- a row that is marked by the journal isn't marked elsewhere by the transcript
free_elsewhere : (next : ℕ → Option Statement) (hands : ℕ → Option Hand) (d s : DatabaseState) (n : ℕ) (y : OpenTransaction) (id : RowId) → IsAhead next hands d s → AreMarksApart d
    → map.get d.sessions n ≡ Some y → set.contains y.marks id ≡ true → marked_elsewhere s n id ≡ false
free_elsewhere next hands d s n y id ahead apart got has = no_entry (λ e. not (eqb e.0 n) && set.contains e.1.marks id) s.sessions (λ m z there. by m z there (set.contains z.marks id) refl (cases_eq m n))
  where
    by : (m : ℕ) (z : OpenTransaction) → map.get s.sessions m ≡ Some z → (b : Bool) → set.contains z.marks id ≡ b → (m ≡ n) ⊎ (m ≢ n) → (not (eqb m n) && set.contains z.marks id) ≡ false
    by m z there b is (inl same) = ap (λ c. not c && set.contains z.marks id) (eq-eqb m n same)
    by m z there false is (inr other) = ap (λ c. not (eqb m n) && c) is ∙ and_no (not (eqb m n))
      where
        and_no : (c : Bool) → (c && false) ≡ false
        and_no true = refl
        and_no false = refl
    by m z there true is (inr other) =
        let k = keeps_marks (map.get s.sessions m) (map.get d.sessions m) (hands m) z id (ahead.copies m) there is in
        absurd (apart.apart n m y k.0 (λ same. other (sym same)) got k.1 id has k.2)

-- not own, in the table and marked nowhere else
no_conflict : (s : DatabaseState) (n : ℕ) (x : OpenTransaction) (id : RowId) → (is_own x id ≡ false → (map.contains_key s.table id ≡ true) × (marked_elsewhere s n id ≡ false)) → is_conflict s n x id ≡ false
no_conflict s n x id parts = by (is_own x id) parts
  where
    by : (b : Bool) → (b ≡ false → (map.contains_key s.table id ≡ true) × (marked_elsewhere s n id ≡ false)) → (not b && (not (map.contains_key s.table id) || marked_elsewhere s n id)) ≡ false
    by true p = refl
    by false p = let q = p refl in λ i. not (q.0 i) || q.1 i

pub marked_free : MarkedRowsAreFree
marked_free next hands d s n x rows ahead apart got = All-weaker (HasMarks x rows) (λ (row : Row). is_conflict s n x row.id ≡ false) (λ row has. no_conflict s n x row.id (λ other.
    (ap (λ t. map.contains_key t row.id) (sym ahead.table) ∙ apart.stand n (marked x rows) got row.id (has other), free_elsewhere next hands d s n (marked x rows) row.id ahead apart got (has other)))) rows (all_marked x rows)

-- ---- a conflict by the journal

conflict_parts : (s : DatabaseState) (n : ℕ) (x : OpenTransaction) (id : RowId) → is_conflict s n x id ≡ true → (is_own x id ≡ false) × ((map.contains_key s.table id ≡ false) ⊎ (marked_elsewhere s n id ≡ true))
conflict_parts s n x id h = by (is_own x id) (map.contains_key s.table id) (marked_elsewhere s n id) h
  where
    by : (own has held : Bool) → (not own && (not has || held)) ≡ true → (own ≡ false) × ((has ≡ false) ⊎ (held ≡ true))
    by true has held h = absurd (false≢true h)
    by false true true h = (refl, inr refl)
    by false true false h = absurd (false≢true h)
    by false false held h = (refl, inl refl)

is_told : (s : DatabaseState) (n : ℕ) (x : OpenTransaction) (id : RowId) → is_own x id ≡ false → (map.contains_key s.table id ≡ false) ⊎ (marked_elsewhere s n id ≡ true) → is_conflict s n x id ≡ true
is_told s n x id other (inl gone) = λ i. not (other i) && (not (gone i) || marked_elsewhere s n id)
is_told s n x id other (inr held) = (λ i. not (other i) && (not (map.contains_key s.table id) || held i)) ∙ or_yes (not (map.contains_key s.table id))
  where
    or_yes : (c : Bool) → (c || true) ≡ true
    or_yes true = refl
    or_yes false = refl

apart_of : (m n : ℕ) → not (eqb m n) ≡ true → m ≢ n
apart_of m n h same = false≢true (sym (ap not (eq-eqb m n same)) ∙ h)

-- a session's marks by the transcript hold the row
held_by : (s : DatabaseState) (n m : ℕ) (z : OpenTransaction) (id : RowId) → m ≢ n → map.get s.sessions m ≡ Some z → set.contains z.marks id ≡ true → marked_elsewhere s n id ≡ true
held_by s n m z id apart got has = any_entry (λ e. not (eqb e.0 n) && set.contains e.1.marks id) s.sessions m z got (λ i. not (ne_eqb m n apart i) && has i)

-- the mark of another session is there by the transcript, or is of its delete in hand
its_mark : (next : ℕ → Option Statement) (s : DatabaseState) (n m : ℕ) (now : Option OpenTransaction) (hand : Option Hand) (z : OpenTransaction) (id : RowId) → m ≢ n
    → IsCopyAhead (map.get s.sessions m) now hand → ((h : Hand) → hand ≡ Some h → next m ≡ Some h.statement) → now ≡ Some z → set.contains z.marks id ≡ true
    → (marked_elsewhere s n id ≡ true) ⊎ MayConflict next s n id
its_mark next s n m now _ z id apart (Idle same) lines is has = inl (held_by s n m z id apart (sym same ∙ is) has)
its_mark next s n m now _ z id apart (Fresh statement same) lines is has = inl (held_by s n m z id apart (sym same ∙ is) has)
its_mark next s n m now _ z id apart (HasPut x table values was whole puts) lines is has =
    inl (held_by s n m x id apart was (subst (λ (t : OpenTransaction). set.contains t.marks id ≡ true) (sym (same_Some _ z (sym puts ∙ is))) has))
its_mark next s n m now _ z id apart (HasMarked x q rows left was whole finds marks) lines is has =
    elim (marks_from x rows id (subst (λ (t : OpenTransaction). set.contains t.marks id ≡ true) (sym (same_Some (marked x rows) z (sym marks ∙ is))) has)) [
      | inl old ↦ inl (held_by s n m x id apart was old)
      | inr mark ↦ inr (record {
        other = m;
        apart = apart;
        query = q;
        is_delete = lines _ refl;
        transaction = x;
        under_way = was;
        sound = whole;
        before = mark.0;
        row = mark.1;
        after = mark.2 ++ left;
        finds = finds ∙ ap (λ (l : List Row). l ++ left) mark.3 ∙ append_assoc mark.0 (mark.1 ∷ mark.2) left;
        is = mark.4;
      })
    ]

pub conflicts_told : ConflictsAreTold
conflicts_told next hands d s n x y id ahead number conflict =
    let parts = conflict_parts d n y id conflict in
    let other : is_own x id ≡ false = ap (λ (t : ℕ). eqb id.t t) (sym number) ∙ parts.0 in
    elim parts.1 [
      | inl gone ↦ inl (is_told s n x id other (inl (ap (λ t. map.contains_key t id) (sym ahead.table) ∙ gone)))
      | inr held ↦
          let e = some_entry (λ e. not (eqb e.0 n) && set.contains e.1.marks id) d.sessions held in
          let both = and_parts (not (eqb e.0 n)) (set.contains e.1.marks id) e.3 in
          elim (its_mark next s n e.0 (map.get d.sessions e.0) (hands e.0) e.1 id (apart_of e.0 n both.0) (ahead.copies e.0) (λ h is. ahead.lines e.0 h is) e.2 both.1) [
            | inl there ↦ inl (is_told s n x id other (inr there))
            | inr may ↦ inr (other, may)
          ]
    ]
