-- what a commit leaves of rows
use Rattle.std.proofs.Common.{◌≡◌, Bool, true, false, not, cond, List, [], ◌∷◌, refl, sym, ap, ◌∙◌, Option, Some, None, is_some}
use Rattle.std.specs.FinMap.{get, contains_key, retain_keys, entries, find, get-insert, get-retain_keys, get-entries}
use Rattle.std.specs.declared.cmp.Ordering.TheVariants.{Equal}
use Rattle.std.specs.Ordering.{eq_by_cmp}
use Rattle.std.specs.Cmp.{Equal-is}
use Rattle.std.specs.FinSet as set
use Rattle.std.proofs.lemmas.Bool.{true≢false}
use Rattle.block_model.specs.declared.row.RowId.{RowId}
use Rattle.block_model.specs.declared.row.Row.{Row}
use Rattle.block_model.specs.TableState.{TableState, id_cmp, ids_total, ids_exact}
use Rattle.block_model.specs.DatabaseState.{OpenTransaction}
use Rattle.block_model.specs.RequestEffect.{with_rows, own_rows, merged, is_own}

-- only equal ids tie
pub same_ids : (q id : RowId) → eq_by_cmp id_cmp q id ≡ true → q ≡ id
same_ids q id e = ids_exact q id ((Equal-is (id_cmp q id)).0 e)

alike : (p : RowId → Bool) (q x : RowId) → id_cmp q x ≡ Equal → p x ≡ p q
alike p q x t = sym (ap p (ids_exact q x t))

kept_at : (table : TableState) (p : RowId → Bool) (q : RowId) → get (retain_keys table p) q ≡ cond (p q) (get table q) None
kept_at table p q = get-retain_keys table p q (alike p q)

no_row : (o : Option Row) → is_some o ≡ false → o ≡ None
no_row None e = refl
no_row (Some r) e = absurd (true≢false e)

none_kept : (b : Bool) (o : Option Row) → o ≡ None → cond b o None ≡ None
none_kept true o e = e
none_kept false o e = refl

lacks_with_rows : (table : TableState) (es : List (RowId × Row)) (q : RowId) → find id_cmp q es ≡ None → get table q ≡ None → get (with_rows table es) q ≡ None
lacks_with_rows table [] q apart none = none
lacks_with_rows table (e ∷ es) q apart none = get-insert ids_total (with_rows table es) e.0 e.1 q
    ∙ elim (eq_by_cmp id_cmp q e.0) as (λ b. cond b (Some e.1) (find id_cmp q es) ≡ None → cond b (Some e.1) (get (with_rows table es) q) ≡ None) [
      | true ↦ λ found. absurd (cc)
      | false ↦ λ rest. lacks_with_rows table es q rest none
    ] apart

-- a row of another transaction, where what the commit keeps of the table lacks it
other_lacks : (table : TableState) (x : OpenTransaction) (id : RowId) → is_own x id ≡ false → cond (not (set.contains x.marks id)) (get table id) None ≡ None → contains_key (merged table x) id ≡ false
other_lacks table x id other lacks = ap is_some (lacks_with_rows (retain_keys table (λ i. not (set.contains x.marks i))) (entries (own_rows x)) id
    (sym (get-entries (own_rows x) id) ∙ kept_at x.view (is_own x) id ∙ ap (λ b. cond b (get x.view id) None) other)
    (kept_at table (λ i. not (set.contains x.marks i)) id ∙ lacks))

-- one that isn't in the table isn't there after the commit
pub merged_lacks : (table : TableState) (x : OpenTransaction) (id : RowId) → is_own x id ≡ false → contains_key table id ≡ false → contains_key (merged table x) id ≡ false
merged_lacks table x id other absent = other_lacks table x id other (none_kept (not (set.contains x.marks id)) (get table id) (no_row (get table id) absent))

-- and one that was marked isn't
pub merged_takes : (table : TableState) (x : OpenTransaction) (id : RowId) → is_own x id ≡ false → set.contains x.marks id ≡ true → contains_key (merged table x) id ≡ false
merged_takes table x id other marked = other_lacks table x id other (ap (λ b. cond (not b) (get table id) None) marked)
