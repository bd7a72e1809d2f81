-- each row stays at its own id
use Rattle.std.proofs.Common.{◌≡◌, ℕ, Bool, true, false, cond, ◌&&◌, ◌⊎◌, inl, inr, List, [], ◌∷◌, if◌then◌else◌, refl, sym, ap, subst, ◌∙◌, Option, Some, None, is_some}
use Rattle.std.specs.Ordering.{eq_by_cmp, nat_cmp}
use Rattle.std.specs.FinMap.{get, insert, remove, get-empty, get-insert, get-remove}
use Rattle.std.specs.FinSet as set
use Rattle.block_model.specs.declared.row.RowId.{RowId}
use Rattle.block_model.specs.declared.row.Row.{Row}
use Rattle.block_model.specs.declared.request.Entry.{Entry}
use Rattle.block_model.specs.declared.request.Request.{Request}
use Rattle.block_model.specs.declared.request.Request.TheVariants.{Begin, Put, Look, Mark, Commit, Rollback}
use Rattle.block_model.specs.declared.request.Tag.{Tag}
use Rattle.block_model.specs.declared.request.Tag.TheVariants as tags
use Rattle.block_model.specs.TableState.{TableState, id_cmp, ids_total, ids_exact}
use Rattle.block_model.specs.DatabaseState.{DatabaseState, OpenTransaction}
use Rattle.block_model.specs.RequestEffect.{Answer, effect_at, effect_is, effect_within, after_request, after_put, next_row, is_conflict, is_own, with_transaction, without_transaction, new_transaction, merged}
use Rattle.block_model.specs.SerialRun.{serial_run}
use Rattle.model_laws.specs.RowsStandAtTheirIds.{AtIds, AtTheirIds, RowsStandAtTheirIds}
use Rattle.model_laws.proofs.KeyedLists.{tied}
use Rattle.block_model.specs.NumberMaps.{found_after_put, found_after_removal, same_Some, none_Some}
use Rattle.block_model.specs.RequestLaws.{outside_leads, mark_effect}
use Rattle.model_laws.proofs.CommitLaws.{get_merged}

at_ids_put : (table : TableState) (id : RowId) (row : Row) → row.id ≡ id → AtIds table → AtIds (insert table id row)
at_ids_put table id row own h q r found = elim (eq_by_cmp id_cmp q id) as (λ b. eq_by_cmp id_cmp q id ≡ b → cond b (Some row) (get table q) ≡ Some r → r.id ≡ q) [
  | true ↦ λ here got. ap (λ (w : Row). w.id) (sym (same_Some row r got)) ∙ own ∙ sym (ids_exact q id (tied (id_cmp q id) here))
  | false ↦ λ away got. h q r got
] refl (sym (get-insert ids_total table id row q) ∙ found)

at_ids_removed : (table : TableState) (id : RowId) → AtIds table → AtIds (remove table id)
at_ids_removed table id h q r found = elim (eq_by_cmp id_cmp q id) as (λ b. cond b None (get table q) ≡ Some r → r.id ≡ q) [
  | true ↦ λ got. absurd (none_Some r got)
  | false ↦ λ got. h q r got
] (sym (get-remove ids_total table id q) ∙ found)

one_of : (own marked : Bool) (mine below : Option Row) (r : Row) → (if own && is_some mine then mine else if marked then None else below) ≡ Some r → (mine ≡ Some r) ⊎ (below ≡ Some r)
one_of true marked (Some m) below r e = inl e
one_of true true None below r e = absurd (none_Some r e)
one_of true false None below r e = inr e
one_of false true mine below r e = absurd (none_Some r e)
one_of false false mine below r e = inr e

at_ids_merged : (table : TableState) (x : OpenTransaction) → AtIds table → AtIds x.view → AtIds (merged table x)
at_ids_merged table x t v q r found = elim (one_of (is_own x q) (set.contains x.marks q) (get x.view q) (get table q) r (sym (get_merged table x q) ∙ found)) [ inl mine ↦ v q r mine | inr below ↦ t q r below ]

-- ---- after a request

with_at_ids : (s : DatabaseState) (n : ℕ) (y : OpenTransaction) → AtTheirIds s → AtIds y.view → AtTheirIds (with_transaction s n y)
with_at_ids s n y h v = record {
  table = h.table;
  views = λ m z found. elim (found_after_put s.sessions n m y z found) [ inl here ↦ subst (λ (w : OpenTransaction). AtIds w.view) here.1 v | inr there ↦ h.views m z there.1 ];
}

without_at_ids : (s : DatabaseState) (n : ℕ) → AtTheirIds s → AtTheirIds (without_transaction s n)
without_at_ids s n h = record { table = h.table; views = λ m z found. h.views m z (found_after_removal s.sessions n m z found).1 }

module _ (s : DatabaseState) (n : ℕ) (x : OpenTransaction) (h : AtTheirIds s) (v : AtIds x.view) where
  committed_table : (b : Bool) → AtIds (if b then s.table else merged s.table x)
  committed_table true = h.table
  committed_table false = at_ids_merged s.table x h.table v

  mark_at_ids : (id : RowId) (b : Bool) → AtTheirIds (mark_effect s n x id b).0
  mark_at_ids id true = with_at_ids s n _ h v
  mark_at_ids id false = with_at_ids s n _ h (at_ids_removed x.view id v)

  within_at_ids : (table : ℕ) (request : Request) (tag : Tag) → AtTheirIds (effect_within s n x table request tag).0
  within_at_ids table (Put values) tags.Ok = with_at_ids s n (after_put x table values) h (at_ids_put x.view (next_row x table values).id (next_row x table values) refl v)
  within_at_ids table (Put values) tags.Full = with_at_ids s n _ h v
  within_at_ids table (Put values) tags.NoMemory = with_at_ids s n _ h v
  within_at_ids table (Look q) tags.NoMemory = with_at_ids s n _ h v
  within_at_ids table (Look q) tags.Ok = h
  within_at_ids table (Look q) tags.Full = h
  within_at_ids table (Mark id) tag = mark_at_ids id (is_conflict s n x id)
  within_at_ids table Commit tag = record { table = committed_table x.failed; views = (without_at_ids s n h).views }
  within_at_ids table Rollback tag = without_at_ids s n h
  within_at_ids table Begin tag = h

effect_at_ids : (o : Option OpenTransaction) (s : DatabaseState) (e : Entry) → get s.sessions e.session ≡ o → AtTheirIds s → AtTheirIds (effect_at o s e).0
effect_at_ids None s e got h = outside_leads AtTheirIds s e.session h (record { table = h.table; views = (with_at_ids s e.session (new_transaction s) h h.table).views }) e.request
effect_at_ids (Some x) s e got h = within_at_ids s e.session x h (h.views e.session x got) e.table e.request e.tag

request_at_ids : (s : DatabaseState) (e : Entry) → AtTheirIds s → AtTheirIds (after_request s e)
request_at_ids s e h = subst (λ (p : DatabaseState × Answer). AtTheirIds p.0) (sym (effect_is s e)) (effect_at_ids (get s.sessions e.session) s e refl h)

run_at_ids : (s : DatabaseState) (journal : List Entry) → AtTheirIds s → AtTheirIds (serial_run s journal)
run_at_ids s [] h = h
run_at_ids s (e ∷ es) h = run_at_ids (after_request s e) es (request_at_ids s e h)

pub rows_stand_at_their_ids : RowsStandAtTheirIds
rows_stand_at_their_ids = record {
  initially = record { table = λ id row found. absurd (none_Some row (sym (get-empty id_cmp id) ∙ found)); views = λ n x found. absurd (none_Some x (sym (get-empty nat_cmp n) ∙ found)) };
  later = run_at_ids;
}
