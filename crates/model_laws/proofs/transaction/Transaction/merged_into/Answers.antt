use Rattle.std.proofs.Common.{◌≡◌, not, drop, ap, sym, ◌∙◌, arith}
use Rattle.std.specs.FinMap.{retain_keys, insert, entries}
use Rattle.std.specs.FinMap.Entries.{where_key}
use Rattle.std.specs.FinSet.{contains}
use Rattle.block_model.specs.declared.row.RowId.{RowId}
use Rattle.block_model.specs.declared.row.Row.{Row}
use Rattle.block_model.specs.TableState.{TableState, RowIds, id_cmp, ids_total, ids_exact}
use Rattle.block_model.specs.DatabaseState.{OpenTransaction}
use Rattle.block_model.specs.RequestEffect.{is_own, with_rows}
use Rattle.model_laws.specs.Listed.{at_ids}
use Rattle.model_laws.proofs.KeyedLists.{kept_here, left_out_here, none_kept_yet, entries_retained}
use Rattle.model_laws.proofs.transaction.Transaction.merged_into.Goals as goal

unmarked : TableState → RowIds → TableState
unmarked table marks = retain_keys table (λ id. not (contains marks id))

abbrev key : Row → RowId × Row
key r = (r.id, r)

pub rows-init : goal.rows-init
unfolding unmarked
rows-init c = c.remove_marked.ensures ∙ (λ i. unmarked (c.in_ok-rows.ensures i) (ap (λ (x : OpenTransaction). x.marks) c.self.view_is i))
    ∙ ap (with_rows (unmarked c.args.table.now c.args.self.now.marks)) (sym (none_kept_yet id_cmp key (is_own c.args.self.now) c.rows-view.result.now))

pub rows-preserved-in-Continue-branch-2 : goal.rows-preserved-in-Continue-branch-2
unfolding unmarked
rows-preserved-in-Continue-branch-2 c =
    let row = c.index-view-at.result in
    c.in_ok-put.ensures.ok ∙ (λ i. insert (c.rows.invariant i) (c.copied-then-is_own.ensures i).id (c.copied-then-is_own.ensures i))
    ∙ ap (with_rows (unmarked c.args.table.now c.args.self.now.marks)) (sym (kept_here id_cmp key (is_own c.args.self.now) c.rows-view.result.now c.rows.at row (omega arith) c.rows.auto.at c.index-view-at.is (sym c.is_own.ensures ∙ c.if-is_own.true)))

pub rows-preserved : goal.rows-preserved
unfolding unmarked
rows-preserved c =
    c.rows.invariant
    ∙ ap (with_rows (unmarked c.args.table.now c.args.self.now.marks)) (sym (left_out_here id_cmp key (is_own c.args.self.now) c.rows-view.result.now c.rows.at c.index-view-at.result (omega arith) c.rows.auto.at c.index-view-at.is (sym c.is_own.ensures ∙ c.if-is_own.false)))

pub returns : goal.returns
unfolding unmarked
returns c =
    let own = is_own c.args.self.now in
    let at : c.rows.at ≡ 0 = omega arith in
    c.rows.invariant
    ∙ ap (with_rows (unmarked c.args.table.now c.args.self.now.marks))
    (ap (λ n. where_key id_cmp own (at_ids (drop n c.rows-view.result.now))) at ∙ ap (where_key id_cmp own) c.rows-view.ensures
    ∙ ap (λ x. where_key id_cmp own (entries x.view)) c.self.view_is ∙ sym (entries_retained id_cmp ids_total ids_exact c.args.self.now.view own))
