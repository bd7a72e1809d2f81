-- what a commit does
use Rattle.std.proofs.Common.{◌≡◌, ℕ, Bool, true, false, not, cond, ◌&&◌, ◌++◌, List, [], ◌∷◌, if◌then◌else◌, refl, sym, ap, ◌∙◌, Option, Some, None, is_some, fold}
use Rattle.std.specs.FinMap.{get, retain_keys, entries, find, get-insert, get-retain_keys, get-entries}
use Rattle.std.specs.Ordering.{eq_by_cmp}
use Rattle.std.specs.FinSet as set
use Rattle.block_model.specs.declared.row.RowId.{RowId}
use Rattle.block_model.specs.declared.row.Row.{Row}
use Rattle.block_model.specs.TableState.{TableState, id_cmp, ids_total, ids_exact}
use Rattle.block_model.specs.DatabaseState.{DatabaseState, OpenTransaction}
use Rattle.block_model.specs.declared.request.Entry.{Entry}
use Rattle.block_model.specs.declared.request.Request.{Request}
use Rattle.block_model.specs.declared.request.Request.TheVariants.{Begin, Put, Look, Mark, Commit, Rollback}
use Rattle.block_model.specs.declared.request.Tag.{Tag}
use Rattle.block_model.specs.declared.request.Tag.TheVariants as tags
use Rattle.block_model.specs.RequestEffect.{Answer, Committed, RolledBack, effect, effect_at, effect_is, effect_within, after_request, after_commit, with_rows, own_rows, merged, is_own, is_conflict}
use Rattle.model_laws.specs.Commits.{Commits, EndsAlone, merged_of, merged_by, committed_in}
use Rattle.model_laws.specs.CommitChangesOwn.{CommitChangesOwn, row_after}
use Rattle.model_laws.specs.FailedCommitChangesNothing.{FailedCommitChangesNothing}
use Rattle.model_laws.specs.TableIsCommits.{TableIsCommits}
use Rattle.block_model.specs.RequestLaws.{effect_by, commit_merges, failed_commit_ends, others_stay, outside_leads, mark_effect}
use Rattle.block_model.specs.NumberMaps.{get_removed_here}
use Rattle.std.proofs.lemmas.Cmp.{nat_cmp_total}
use Rattle.model_laws.proofs.KeyedLists.{alike}

-- a row that is laid over another
over : Option Row → Option Row → Option Row
over None below = below
over (Some r) below = Some r

over_cond : (b : Bool) (r : Row) (a below : Option Row) → cond b (Some r) (over a below) ≡ over (cond b (Some r) a) below
unfolding over
over_cond true r a below = refl
over_cond false r a below = refl

get_with_rows : (table : TableState) (es : List (RowId × Row)) (q : RowId) → get (with_rows table es) q ≡ over (find id_cmp q es) (get table q)
unfolding over
get_with_rows table [] q = refl
get_with_rows table (e ∷ es) q = get-insert ids_total (with_rows table es) e.0 e.1 q ∙ ap (cond (eq_by_cmp id_cmp q e.0) (Some e.1)) (get_with_rows table es q)
    ∙ over_cond (eq_by_cmp id_cmp q e.0) e.1 (find id_cmp q es) (get table q)

kept_at : (table : TableState) (p : RowId → Bool) (q : RowId) → get (retain_keys table p) q ≡ cond (p q) (get table q) None
kept_at table p q = get-retain_keys table p q (alike id_cmp ids_exact p q)

-- the choice of `row_after`, by its two tests
chosen : (own marked : Bool) (mine below : Option Row) → over (cond own mine None) (cond (not marked) below None) ≡ (if own && is_some mine then mine else if marked then None else below)
unfolding over
chosen true true None below = refl
chosen true false None below = refl
chosen true marked (Some r) below = refl
chosen false true mine below = refl
chosen false false mine below = refl

pub get_merged : (table : TableState) (x : OpenTransaction) (id : RowId) → get (merged table x) id ≡ row_after table x id
get_merged table x id =
    get_with_rows (retain_keys table (λ i. not (set.contains x.marks i))) (entries (own_rows x)) id
    ∙ (λ j. over ((sym (get-entries (own_rows x) id) ∙ kept_at x.view (is_own x) id) j) (kept_at table (λ i. not (set.contains x.marks i)) id j))
    ∙ chosen (is_own x id) (set.contains x.marks id) (get x.view id) (get table id)

-- the effect of a commit
pub commit_effect : (s : DatabaseState) (e : Entry) (x : OpenTransaction) → Commits s e x → effect s e ≡ (after_commit s e.session x, if x.failed then RolledBack else Committed)
commit_effect s e x h = effect_by s e (Some x) h.under_way ∙ ap (λ r. effect_within s e.session x e.table r e.tag) h.commit

ends_alone : (s : DatabaseState) (e : Entry) (x : OpenTransaction) → Commits s e x → EndsAlone s (after_request s e) e.session
ends_alone s e x h = record {
  next = ap (λ (p : DatabaseState × Answer). p.0.next) (commit_effect s e x h);
  gone = ap (λ (p : DatabaseState × Answer). get p.0.sessions e.session) (commit_effect s e x h) ∙ get_removed_here nat_cmp_total s.sessions e.session;
  others = others_stay s e;
}

pub commit_changes_own : CommitChangesOwn
commit_changes_own s e x h sound = record {
  rows = λ id. ap (λ (p : DatabaseState × Answer). get p.0.table id) (commit_effect s e x h) ∙ ap (λ (s' : DatabaseState). get s'.table id) (commit_merges s e.session x sound) ∙ get_merged s.table x id;
  ends = ends_alone s e x h;
}

pub failed_commit_changes_nothing : FailedCommitChangesNothing
failed_commit_changes_nothing s e x h failed = record {
  table = ap (λ (p : DatabaseState × Answer). p.0.table) (commit_effect s e x h) ∙ ap (λ (s' : DatabaseState). s'.table) (failed_commit_ends s e.session x failed);
  ends = ends_alone s e x h;
  reply = ap (λ (p : DatabaseState × Answer). p.1) (commit_effect s e x h) ∙ ap (λ b. if b then RolledBack else Committed) failed;
}

-- ---- the table after a journal

table_within : (s : DatabaseState) (n : ℕ) (x : OpenTransaction) (table : ℕ) (request : Request) (tag : Tag) → (effect_within s n x table request tag).0.table ≡ fold merged s.table (merged_of (Some x) request)
table_within s n x table (Put values) tags.Ok = refl
table_within s n x table (Put values) tags.Full = refl
table_within s n x table (Put values) tags.NoMemory = refl
table_within s n x table (Look q) tags.Ok = refl
table_within s n x table (Look q) tags.Full = refl
table_within s n x table (Look q) tags.NoMemory = refl
table_within s n x table (Mark id) tag = elim (is_conflict s n x id) as (λ b. (mark_effect s n x id b).0.table ≡ s.table) [ true ↦ refl | false ↦ refl ]
table_within s n x table Commit tag = elim x.failed as (λ b. (if b then s.table else merged s.table x) ≡ fold merged s.table (if b then [] else x ∷ [])) [ true ↦ refl | false ↦ refl ]
table_within s n x table Rollback tag = refl
table_within s n x table Begin tag = refl

table_at : (o : Option OpenTransaction) (s : DatabaseState) (e : Entry) → (effect_at o s e).0.table ≡ fold merged s.table (merged_of o e.request)
table_at None s e = outside_leads (λ (s' : DatabaseState). s'.table ≡ s.table) s e.session refl refl e.request
table_at (Some x) s e = table_within s e.session x e.table e.request e.tag

fold_append : {A B : Type 0} (f : B → A → B) (b : B) (xs ys : List A) → fold f b (xs ++ ys) ≡ fold f (fold f b xs) ys
fold_append f b [] ys = refl
fold_append f b (x ∷ xs) ys = fold_append f (f b x) xs ys

pub table_is_commits : TableIsCommits
table_is_commits s [] = refl
table_is_commits s (e ∷ es) = table_is_commits (after_request s e) es
    ∙ ap (λ table. fold merged table (committed_in (after_request s e) es)) (ap (λ (p : DatabaseState × Answer). p.0.table) (effect_is s e) ∙ table_at (get s.sessions e.session) s e)
    ∙ sym (fold_append merged s.table (merged_by s e) (committed_in (after_request s e) es))
