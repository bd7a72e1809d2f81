-- The copies of open transactions have no more rows than there were at the opening and were put since.
use Rattle.std.proofs.Common.{◌≡◌, ◌⊎◌, inl, inr, ℕ, ◌+◌, ◌-◌, ◌≤◌, Bool, true, false, not, cond, ◌||◌, List, [], ◌∷◌, ◌++◌, length, Option, Some, None, is_some, refl, sym, ap, ◌∙◌, subst, arith}
use Rattle.std.specs.List.{list_any}
use Rattle.std.specs.FinMap.{get, contains_key, insert, remove, retain_keys, entries, keys, find, len, empty, get-insert, get-remove, get-retain_keys, get-entries, get-empty, len-remove, len-empty, len-entries, contains_key-keys, same_map}
use Rattle.std.specs.Cmp.{Equal-is}
use Rattle.std.specs.Ordering.{eq_by_cmp}
use Rattle.std.specs.FinSet as set
use Rattle.std.proofs.lemmas.Bool.{false≢true}
use Rattle.std.proofs.lemmas.List.{length-map}
use Rattle.std.proofs.lemmas.List.Sums.{length-filter, count_by-le-length}
use Rattle.std.proofs.lemmas.Option.{none-some}
use Rattle.block_model.specs.declared.request.Entry.{Entry}
use Rattle.block_model.specs.declared.request.Request.{Request}
use Rattle.block_model.specs.declared.request.Request.TheVariants.{Begin, Put, Look, Mark, Commit, Rollback}
use Rattle.block_model.specs.declared.request.Tag.{Tag}
use Rattle.block_model.specs.declared.request.Tag.TheVariants as tags
use Rattle.block_model.specs.declared.row.Query.{Query}
use Rattle.block_model.specs.declared.row.Row.{Row}
use Rattle.block_model.specs.declared.row.RowId.{RowId}
use Rattle.block_model.specs.declared.value.Value.{Value}
use Rattle.block_model.specs.RowMatches.{row_matches}
use Rattle.block_model.specs.TableState.{TableState, id_cmp, ids_exact, ids_total, id_ties_itself, rows_in}
use Rattle.block_model.specs.DatabaseState.{DatabaseState, OpenTransaction}
use Rattle.block_model.specs.NumberMaps.{found_after_put, found_after_removal}
use Rattle.block_model.specs.RequestEffect.{Answer, Found, after_begin, after_commit, after_mark, after_put, after_request, effect_at, effect_is, effect_within, failed_transaction, is_conflict, is_own}
use Rattle.block_model.specs.RequestEffect.{new_transaction, next_row, own_rows, reply_to, rows_found, with_rows, with_transaction, without_transaction}
use Rattle.block_model.specs.RequestLaws.{after_merge, commit_merges, effect_by, failed_commit_ends, mark_effect, outside_leads}
use Rattle.block_model.specs.SerialRun.{serial_run}
use Rattle.store_layout.specs.StatementRequests.{found_in, look_entry}
use Rattle.coverage.specs.RowOrder.{IsAmong}
use Rattle.script_semantics.specs.Openings.{NoneOpen}

-- ---- puts

-- a put that goes well
abbrev pub put_of : Request → Tag → ℕ
put_of (Put values) tags.Ok = 1
put_of request tag = 0

-- how many a journal has
abbrev pub puts : List Entry → ℕ
puts [] = 0
puts (e ∷ es) = put_of e.request e.tag + puts es

pub puts-append : (first second : List Entry) → puts (first ++ second) ≡ puts first + puts second
puts-append [] second = omega arith
puts-append (e ∷ es) second = let rest = puts-append es second in omega (arith, rest)

-- ---- rows of a map, by ids among which they are

-- only equal ids tie
same_ids : (a b : RowId) → eq_by_cmp id_cmp a b ≡ true → a ≡ b
same_ids a b is = ids_exact a b ((Equal-is (id_cmp a b)).0 is)

in_rest : (b : Bool) (o : Option Row) → is_some (cond b None o) ≡ true → (b ≡ false) × (is_some o ≡ true)
in_rest true o h = absurd (false≢true h)
in_rest false o h = (refl, h)

kept_there : (b : Bool) (o : Option Row) → is_some (cond b o None) ≡ true → is_some o ≡ true
kept_there true o h = h
kept_there false o h = absurd (false≢true h)

none_there : (o : Option Row) → (is_some o ≡ true → ⊥) → o ≡ None
none_there None not = refl
none_there (Some row) not = absurd (not refl)

one_more : (b : Bool) (n m : ℕ) → n ≡ cond b (m - 1) m → m ≤ n + 1
one_more true n m e = omega (arith, e)
one_more false n m e = omega (arith, e)

-- a map whose ids are all among these has no more rows
few_rows : (ids : List RowId) (m : TableState) → ((id : RowId) → contains_key m id ≡ true → IsAmong ids id) → len m ≤ length ids
few_rows [] m within =
    let none : m ≡ empty = same_map ids_total ids_exact m empty (λ id. none_there (get m id) (within id) ∙ sym (get-empty id_cmp id)) in
    let nothing : len m ≡ 0 = ap len none ∙ len-empty id_cmp Row in
    omega (arith, nothing)
few_rows (first ∷ ids) m within =
    let rest : len (remove m first) ≤ length ids = few_rows ids (remove m first) apart in
    let less : len m ≤ len (remove m first) + 1 = one_more (contains_key m first) (len (remove m first)) (len m) (len-remove ids_total m first) in
    omega (arith, rest, less)
  where
    other : (id : RowId) → eq_by_cmp id_cmp id first ≡ false → (id ≡ first) ⊎ IsAmong ids id → IsAmong ids id
    other id differs (inl same) = absurd (false≢true (sym differs ∙ ap (λ i. eq_by_cmp id_cmp i first) same ∙ id_ties_itself first))
    other id differs (inr among) = among

    apart : (id : RowId) → contains_key (remove m first) id ≡ true → IsAmong ids id
    apart id there =
        let parts = in_rest (eq_by_cmp id_cmp id first) (get m id) (sym (ap is_some (get-remove ids_total m first id)) ∙ there) in
        other id parts.0 (within id parts.1)

among_listed : (ids : List RowId) (id : RowId) → list_any (eq_by_cmp id_cmp id) ids ≡ true → IsAmong ids id
among_listed [] id h = absurd (false≢true h)
among_listed (first ∷ ids) id h = by (eq_by_cmp id_cmp id first) refl (among_listed ids id) h
  where
    by : (b : Bool) → eq_by_cmp id_cmp id first ≡ b → (list_any (eq_by_cmp id_cmp id) ids ≡ true → IsAmong ids id) → (b || list_any (eq_by_cmp id_cmp id) ids) ≡ true → IsAmong (first ∷ ids) id
    by true is rest any = inl (same_ids id first is)
    by false is rest any = inr (rest any)

-- ---- a state whose rows, in its table and in copies, are all among these

pub record HasIds (ids : List RowId) (s : DatabaseState) : Type 0 where
  pub table : (id : RowId) → contains_key s.table id ≡ true → IsAmong ids id
  pub copies : (n : ℕ) (x : OpenTransaction) → get s.sessions n ≡ Some x → (id : RowId) → contains_key x.view id ≡ true → IsAmong ids id

in_with_rows : (P : Type 0) (table : TableState) (es : List (RowId × Row)) (id : RowId) → (is_some (find id_cmp id es) ≡ true → P) → (contains_key table id ≡ true → P)
    → contains_key (with_rows table es) id ≡ true → P
in_with_rows P table [] id own old there = old there
in_with_rows P table (e ∷ es) id own old there =
    by (eq_by_cmp id_cmp id e.0) own (λ rest. in_with_rows P table es id rest old) (sym (ap is_some (get-insert ids_total (with_rows table es) e.0 e.1 id)) ∙ there)
  where
    by : (b : Bool) → (is_some (cond b (Some e.1) (find id_cmp id es)) ≡ true → P) → ((is_some (find id_cmp id es) ≡ true → P) → contains_key (with_rows table es) id ≡ true → P)
        → is_some (cond b (Some e.1) (get (with_rows table es) id)) ≡ true → P
    by true own rest there = own refl
    by false own rest there = rest own there

-- what a map keeps was there
was_there : (m : TableState) (p : RowId → Bool) (id : RowId) → contains_key (retain_keys m p) id ≡ true → contains_key m id ≡ true
was_there m p id there =
    kept_there (p id) (get m id) (sym (ap is_some (get-retain_keys m p id (λ x tied. sym (ap p (ids_exact id x tied))))) ∙ there)

module _ (ids : List RowId) (s : DatabaseState) (has : HasIds ids s) where
  with_copy : (n : ℕ) (y : OpenTransaction) → ((id : RowId) → contains_key y.view id ≡ true → IsAmong ids id) → HasIds ids (with_transaction s n y)
  with_copy n y own = record {
    table = has.table;
    copies = λ m z found id there. elim (found_after_put s.sessions n m y z found) [
      | inl here ↦ own id (ap (λ (x : OpenTransaction). contains_key x.view id) here.1 ∙ there)
      | inr apart ↦ has.copies m z apart.1 id there
    ];
  }

  begun : (n : ℕ) → HasIds ids (after_begin s n)
  begun n = let copied = with_copy n (new_transaction s) has.table in record { table = copied.table; copies = copied.copies }

  over : (n : ℕ) → HasIds ids (without_transaction s n)
  over n = record { table = has.table; copies = λ m z found. has.copies m z (found_after_removal s.sessions n m z found).1 }

  module _ (n : ℕ) (x : OpenTransaction) (got : get s.sessions n ≡ Some x) where
    failed : HasIds ids (with_transaction s n (failed_transaction x))
    failed = with_copy n (failed_transaction x) (has.copies n x got)

    marked : (id : RowId) → HasIds ids (with_transaction s n (after_mark x id))
    marked row = with_copy n (after_mark x row) (λ id there.
        has.copies n x got id (in_rest (eq_by_cmp id_cmp id row) (get x.view id) (sym (ap is_some (get-remove ids_total x.view row id)) ∙ there)).1)

    merges : HasIds ids (after_merge s n x)
    merges = record {
      table = λ id. in_with_rows (IsAmong ids id) (retain_keys s.table (λ i. not (set.contains x.marks i))) (entries (own_rows x)) id
          (λ own. has.copies n x got id (was_there x.view (is_own x) id (ap is_some (get-entries (own_rows x) id) ∙ own)))
          (λ old. has.table id (was_there s.table (λ i. not (set.contains x.marks i)) id old));
      copies = (over n).copies;
    }

    by_conflict : (id : RowId) (b : Bool) → HasIds ids (mark_effect s n x id b).0
    by_conflict id true = failed
    by_conflict id false = marked id

    commits : (b : Bool) → x.failed ≡ b → HasIds ids (after_commit s n x)
    commits true is = subst (HasIds ids) (sym (failed_commit_ends s n x is)) (over n)
    commits false is = subst (HasIds ids) (sym (commit_merges s n x is)) merges

-- of one more row
more_ids : (first : RowId) (ids : List RowId) (s : DatabaseState) → HasIds ids s → HasIds (first ∷ ids) s
more_ids first ids s has = record { table = λ id there. inr (has.table id there); copies = λ n x got id there. inr (has.copies n x got id there) }

puts_row : (ids : List RowId) (s : DatabaseState) (n : ℕ) (x : OpenTransaction) (table : ℕ) (values : List Value) → HasIds ids s → get s.sessions n ≡ Some x
    → HasIds ((next_row x table values).id ∷ ids) (with_transaction s n (after_put x table values))
puts_row ids s n x table values has got = with_copy (row.id ∷ ids) s (more_ids row.id ids s has) n (after_put x table values) copied
  where
    row : Row
    row = next_row x table values

    by : (id : RowId) (b : Bool) → eq_by_cmp id_cmp id row.id ≡ b → is_some (cond b (Some row) (get x.view id)) ≡ true → IsAmong (row.id ∷ ids) id
    by id true is there = inl (same_ids id row.id is)
    by id false is there = inr (has.copies n x got id there)

    copied : (id : RowId) → contains_key (insert x.view row.id row) id ≡ true → IsAmong (row.id ∷ ids) id
    copied id there = by id (eq_by_cmp id_cmp id row.id) refl (sym (ap is_some (get-insert ids_total x.view row.id row id)) ∙ there)

-- ---- one request, and a journal

-- the rows of the state are among so many
abbrev HasAtMost : ℕ → DatabaseState → Type 0
HasAtMost most s = (ids : List RowId) × HasIds ids s × (length ids ≤ most)

as_before : (ids : List RowId) (s : DatabaseState) (more : ℕ) → HasIds ids s → HasAtMost (length ids + more) s
as_before ids s more has = (ids, has, (let few : length ids ≤ length ids + more = omega arith in few))

within_ids : (ids : List RowId) (s : DatabaseState) (n : ℕ) (x : OpenTransaction) → HasIds ids s → get s.sessions n ≡ Some x → (table : ℕ) (request : Request) (tag : Tag)
    → HasAtMost (length ids + put_of request tag) (effect_within s n x table request tag).0
within_ids ids s n x has got table (Put values) tags.Ok =
    ((next_row x table values).id ∷ ids, puts_row ids s n x table values has got, (let few : length ((next_row x table values).id ∷ ids) ≤ length ids + 1 = omega arith in few))
within_ids ids s n x has got table (Put values) tags.Full = as_before ids _ (put_of (Put values) tags.Full) (failed ids s has n x got)
within_ids ids s n x has got table (Put values) tags.NoMemory = as_before ids _ (put_of (Put values) tags.NoMemory) (failed ids s has n x got)
within_ids ids s n x has got table (Look q) tags.NoMemory = as_before ids _ (put_of (Look q) tags.NoMemory) (failed ids s has n x got)
within_ids ids s n x has got table (Look q) tags.Ok = as_before ids _ (put_of (Look q) tags.Ok) has
within_ids ids s n x has got table (Look q) tags.Full = as_before ids _ (put_of (Look q) tags.Full) has
within_ids ids s n x has got table (Mark id) tag = as_before ids _ (put_of (Mark id) tag) (by_conflict ids s has n x got id (is_conflict s n x id))
within_ids ids s n x has got table Commit tag = as_before ids _ (put_of Commit tag) (commits ids s has n x got x.failed refl)
within_ids ids s n x has got table Rollback tag = as_before ids _ (put_of Rollback tag) (over ids s has n)
within_ids ids s n x has got table Begin tag = as_before ids _ (put_of Begin tag) has

at_ids : (ids : List RowId) (s : DatabaseState) (e : Entry) → HasIds ids s → (o : Option OpenTransaction) → get s.sessions e.session ≡ o → HasAtMost (length ids + put_of e.request e.tag) (effect_at o s e).0
at_ids ids s e has None got = as_before ids _ (put_of e.request e.tag) (outside_leads (HasIds ids) s e.session has (begun ids s has e.session) e.request)
at_ids ids s e has (Some x) got = within_ids ids s e.session x has got e.table e.request e.tag

request_ids : (ids : List RowId) (s : DatabaseState) (e : Entry) → HasIds ids s → HasAtMost (length ids + put_of e.request e.tag) (after_request s e)
request_ids ids s e has =
    subst (λ (r : DatabaseState × Answer). HasAtMost (length ids + put_of e.request e.tag) r.0) (sym (effect_is s e)) (at_ids ids s e has (get s.sessions e.session) refl)

run_ids : (ids : List RowId) (s : DatabaseState) (journal : List Entry) → HasIds ids s → HasAtMost (length ids + puts journal) (serial_run s journal)
run_ids ids s [] has = as_before ids s 0 has
run_ids ids s (e ∷ es) has =
    let one = request_ids ids s e has in
    let rest = run_ids one.0 (after_request s e) es one.1 in
    let few = one.2 in
    let few_more = rest.2 in
    (rest.0, rest.1, (let all : length rest.0 ≤ length ids + (put_of e.request e.tag + puts es) = omega (arith, few, few_more) in all))

-- ---- copies

module _ (o : DatabaseState) (none : NoneOpen o) (rows : ℕ) (few : length (rows_in o.table) ≤ rows) where
  first_ids : HasIds (keys o.table) o
  first_ids = record {
    table = λ id there. among_listed (keys o.table) id (sym (contains_key-keys o.table id) ∙ there);
    copies = λ n x got. absurd (none-some _ (sym (none n) ∙ got));
  }

  -- no copy has more rows than there were and were put
  pub few_copied : (journal : List Entry) (n : ℕ) (x : OpenTransaction) → get (serial_run o journal).sessions n ≡ Some x → length (rows_in x.view) ≤ rows + puts journal
  few_copied journal n x got =
      let all = run_ids (keys o.table) o journal first_ids in
      let within : len x.view ≤ length all.0 = few_rows all.0 x.view (all.1.copies n x got) in
      let most = all.2 in
      let first : length (keys o.table) ≡ length (entries o.table) = length-map (entries o.table) (λ e. e.0) in
      let listed : length (rows_in o.table) ≡ length (entries o.table) = length-map (entries o.table) (λ e. e.1) in
      let own : length (rows_in x.view) ≡ length (entries x.view) = length-map (entries x.view) (λ e. e.1) in
      let counted = len-entries x.view in
      omega (arith, within, most, first, listed, own, counted, few)

-- a look finds no more rows than its session's copy has
pub few_found : (s : DatabaseState) (n : ℕ) (q : Query) (rows : ℕ) → ((x : OpenTransaction) → get s.sessions n ≡ Some x → length (rows_in x.view) ≤ rows) → (found : List Row)
    → reply_to s (look_entry n q) ≡ Found found → length found ≤ rows
few_found s n q rows few found is = by (get s.sessions n) refl
  where
    answer : (o : Option OpenTransaction) → get s.sessions n ≡ o → Found found ≡ (effect_at o s (look_entry n q)).1
    answer o got = sym is ∙ ap (λ (r : DatabaseState × Answer). r.1) (effect_by s (look_entry n q) o got)

    by : (o : Option OpenTransaction) → get s.sessions n ≡ o → length found ≤ rows
    by None got = let none : found ≡ [] = ap found_in (answer None got) in let e = ap length none in omega (arith, e)
    by (Some x) got =
        let all : found ≡ rows_found x q = ap found_in (answer (Some x) got) in
        let e = ap length all in
        let counted = length-filter (row_matches q) (rows_in x.view) in
        let less = count_by-le-length (row_matches q) (rows_in x.view) in
        let most = few x got in
        omega (arith, e, counted, less, most)
