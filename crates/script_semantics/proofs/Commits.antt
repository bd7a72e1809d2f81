-- the commits of a journal, and whose rows stand in the table
use Rattle.std.proofs.Common.{◌≡◌, ℕ, ◌<◌, ◌≤◌, Bool, true, false, ◌⊎◌, inl, inr, List, [], ◌∷◌, ◌++◌, if◌then◌else◌, refl, sym, ap, subst, ◌∙◌, Option, Some, None, ne_eqb, append_assoc}
use Rattle.std.specs.FinMap.{get, contains_key}
use Rattle.std.proofs.lemmas.Bool.{true≢false, cases_eq, true_from_ne_false}
use Rattle.std.proofs.lemmas.List.{append-nil}
use Rattle.block_model.specs.declared.row.RowId.{RowId}
use Rattle.block_model.specs.declared.request.Entry.{Entry}
use Rattle.block_model.specs.declared.request.Request.{Request}
use Rattle.block_model.specs.declared.request.Request.TheVariants.{Begin, Put, Look, Mark, Commit, Rollback}
use Rattle.block_model.specs.declared.request.Tag.{Tag}
use Rattle.block_model.specs.declared.request.Tag.TheVariants as tags
use Rattle.block_model.specs.DatabaseState.{DatabaseState, OpenTransaction}
use Rattle.block_model.specs.RequestEffect.{Answer, effect_at, effect_is, effect_within, after_request, after_commit, is_conflict, merged}
use Rattle.block_model.specs.RequestLaws.{effect_by, outside_leads, mark_effect}
use Rattle.block_model.specs.SerialRun.{serial_run, serial_run-append}
use Rattle.block_model.specs.NumberMaps.{found_after_removal, none_Some}
use Rattle.script_semantics.specs.Place.{Place, database_at}
use Rattle.script_semantics.specs.DeadRows.{HasEnded, IsCommitted}
use Rattle.script_semantics.specs.Openings.{NoneOpen, RowsAreEarlier}
use Rattle.script_semantics.specs.Numbers.{AreNumbered}
use Rattle.script_semantics.specs.Commits.{CommitsAt, CommitsStand}
use Rattle.script_semantics.specs.TableRows.{RowsAreOfCommits}
use Rattle.script_semantics.proofs.Rows.{merged_lacks}
use Rattle.script_semantics.proofs.Numbers.{numbered_after, run_ended}
use Rattle.script_semantics.proofs.Splits.{fronts}

-- ---- one request

-- the state behind a commit
pub commit_is : (s : DatabaseState) (e : Entry) (t : ℕ) (c : CommitsAt s e t) → after_request s e ≡ after_commit s e.session c.transaction
commit_is s e t c = ap (λ (p : DatabaseState × Answer). p.0) (effect_by s e (Some c.transaction) c.under_way ∙ ap (λ r. effect_within s e.session c.transaction e.table r e.tag) c.commits)

-- it ends its transaction
ends_here : (first : ℕ) (s : DatabaseState) (e : Entry) (t : ℕ) → AreNumbered first s → CommitsAt s e t → HasEnded (after_request s e) t
ends_here first s e t h c =
    let x = c.transaction in
    let after : after_request s e ≡ after_commit s e.session x = commit_is s e t c in
    let low : x.t < s.next = h.below e.session x c.under_way in
    subst (λ (s' : DatabaseState). HasEnded s' t) (sym after) (
      subst (λ k. k < s.next) c.number low,
      λ under_way.
          let there = found_after_removal s.sessions e.session under_way.0 under_way.1 under_way.2 in
          there.0 (h.apart under_way.0 e.session under_way.1 x there.1 c.under_way (under_way.3 ∙ sym c.number)),
    )

-- a row comes into the table by a commit of its transaction
row_committed : (s : DatabaseState) (x : OpenTransaction) (id : RowId) (failed : Bool) → contains_key (if failed then s.table else merged s.table x) id ≡ true → (contains_key s.table id ≡ true) ⊎ ((failed ≡ false) × (x.t ≡ id.t))
row_committed s x id true there = inl there
row_committed s x id false there = elim (cases_eq id.t x.t) [
  | inl own ↦ inr (refl, sym own)
  | inr apart ↦ inl (true_from_ne_false (contains_key s.table id) (λ absent. true≢false (sym there ∙ merged_lacks s.table x id (ne_eqb id.t x.t apart) absent)))
]

row_within : (s : DatabaseState) (n : ℕ) (x : OpenTransaction) (id : RowId) (table : ℕ) (request : Request) (tag : Tag) → contains_key (effect_within s n x table request tag).0.table id ≡ true
    → (contains_key s.table id ≡ true) ⊎ ((request ≡ Commit) × ((x.failed ≡ false) × (x.t ≡ id.t)))
row_within s n x id table (Put values) tags.Ok there = inl there
row_within s n x id table (Put values) tags.Full there = inl there
row_within s n x id table (Put values) tags.NoMemory there = inl there
row_within s n x id table (Look q) tags.Ok there = inl there
row_within s n x id table (Look q) tags.Full there = inl there
row_within s n x id table (Look q) tags.NoMemory there = inl there
row_within s n x id table (Mark r) tag there = inl (elim (is_conflict s n x r) as (λ b. contains_key (mark_effect s n x r b).0.table id ≡ true → contains_key s.table id ≡ true) [ true ↦ λ h. h | false ↦ λ h. h ] there)
row_within s n x id table Commit tag there = elim (row_committed s x id x.failed there) [ inl before ↦ inl before | inr own ↦ inr (refl, own) ]
row_within s n x id table Rollback tag there = inl there
row_within s n x id table Begin tag there = inl there

row_at : (o : Option OpenTransaction) (s : DatabaseState) (e : Entry) (id : RowId) → get s.sessions e.session ≡ o → contains_key (effect_at o s e).0.table id ≡ true → (contains_key s.table id ≡ true) ⊎ CommitsAt s e id.t
row_at None s e id got there = inl (outside_leads (λ (s' : DatabaseState). contains_key s'.table id ≡ true → contains_key s.table id ≡ true) s e.session (λ h. h) (λ h. h) e.request there)
row_at (Some x) s e id got there = elim (row_within s e.session x id e.table e.request e.tag there) [
  | inl before ↦ inl before
  | inr own ↦ inr (record { commits = own.0; transaction = x; under_way = got; number = own.1.1; sound = own.1.0 })
]

row_step : (s : DatabaseState) (e : Entry) (id : RowId) → contains_key (after_request s e).table id ≡ true → (contains_key s.table id ≡ true) ⊎ CommitsAt s e id.t
row_step s e id there = row_at (get s.sessions e.session) s e id refl (ap (λ (p : DatabaseState × Answer). contains_key p.0.table id) (sym (effect_is s e)) ∙ there)

-- ---- the commits of a journal

pub record CommittedIn (o : DatabaseState) (journal : List Entry) (t : ℕ) : Type 0 where
  pub before : List Entry
  pub entry : Entry
  pub behind : List Entry
  pub split : before ++ entry ∷ behind ≡ journal
  pub at : CommitsAt (serial_run o before) entry t

pub to_place : (p : Place) (t : ℕ) → CommittedIn p.opening p.journal t → IsCommitted p t
to_place p t c = record { before = c.before; entry = c.entry; behind = c.behind; split = c.split; commits = c.at.commits; transaction = c.at.transaction; under_way = c.at.under_way; number = c.at.number; sound = c.at.sound }

of_place : (p : Place) (t : ℕ) → IsCommitted p t → CommittedIn p.opening p.journal t
of_place p t c = record {
  before = c.before;
  entry = c.entry;
  behind = c.behind;
  split = c.split;
  at = record { commits = c.commits; transaction = c.transaction; under_way = c.under_way; number = c.number; sound = c.sound };
}

pub committed_on : (o : DatabaseState) (journal more : List Entry) (t : ℕ) → CommittedIn o journal t → CommittedIn o (journal ++ more) t
committed_on o journal more t c = record {
  before = c.before;
  entry = c.entry;
  behind = c.behind ++ more;
  split = sym (append_assoc c.before (c.entry ∷ c.behind) more) ∙ ap (λ (l : List Entry). l ++ more) c.split;
  at = c.at;
}

committed_here : (o : DatabaseState) (journal : List Entry) (e : Entry) (t : ℕ) → CommitsAt (serial_run o journal) e t → CommittedIn o (journal ++ e ∷ []) t
committed_here o journal e t at = record { before = journal; entry = e; behind = []; split = refl; at = at }

-- one request more
some_behind : (l r : List Entry) (e : Entry) → [] ≡ l ++ e ∷ r → ⊥
some_behind [] r e none = cc
some_behind (x ∷ l) r e none = cc

last_of : (o : DatabaseState) (journal : List Entry) (e : Entry) (t : ℕ) (c : CommittedIn o (journal ++ e ∷ []) t) (more : List Entry) → c.before ++ more ≡ journal → c.entry ∷ c.behind ≡ more ++ e ∷ [] → CommittedIn o journal t ⊎ CommitsAt (serial_run o journal) e t
last_of o journal e t c [] on rest =
    let entry : c.entry ≡ e = cc in
    inr (subst (λ (f : Entry). CommitsAt (serial_run o journal) f t) entry
    (subst (λ (l : List Entry). CommitsAt (serial_run o l) c.entry t) (sym (append-nil c.before) ∙ on) c.at))
last_of o journal e t c (f ∷ more) on rest =
    let entry : c.entry ≡ f = cc in
    inl (record { before = c.before; entry = c.entry; behind = more; split = ap (λ (g : Entry). c.before ++ g ∷ more) entry ∙ on; at = c.at })

one_more : (o : DatabaseState) (journal : List Entry) (e : Entry) (t : ℕ) → CommittedIn o (journal ++ e ∷ []) t → CommittedIn o journal t ⊎ CommitsAt (serial_run o journal) e t
one_more o journal e t c = elim (fronts c.before (c.entry ∷ c.behind) journal (e ∷ []) c.split) [
  | inl on ↦ last_of o journal e t c on.0 on.1 on.2
  | inr past ↦ absurd (some_behind past.more c.behind c.entry (let same = past.next in cc))
]

more_commits : (p after : Place) (e : Entry) → after.opening ≡ p.opening → after.journal ≡ p.journal ++ e ∷ [] → (t : ℕ) → (IsCommitted after t → IsCommitted p t ⊎ CommitsAt (database_at p) e t) × (IsCommitted p t ⊎ CommitsAt (database_at p) e t → IsCommitted after t)
more_commits p after e opening journal t =
    let there : CommittedIn after.opening after.journal t ≡ CommittedIn p.opening (p.journal ++ e ∷ []) t = (λ i. CommittedIn (opening i) (journal i) t) in (
      λ c. elim (one_more p.opening p.journal e t (subst (λ (X : Type 0). X) there (of_place after t c))) [ inl before ↦ inl (to_place p t before) | inr here ↦ inr here ],
      λ either. to_place after t (subst (λ (X : Type 0). X) (sym there) (elim either [ inl before ↦ committed_on p.opening p.journal (e ∷ []) t (of_place p t before) | inr here ↦ committed_here p.opening p.journal e t here ])),
    )

-- what is committed has ended
committed_ended : (o : DatabaseState) (journal : List Entry) (t : ℕ) → NoneOpen o → CommittedIn o journal t → (o.next ≤ t) × HasEnded (serial_run o journal) t
committed_ended o journal t none c =
    let s = serial_run o c.before in
    let numbered = numbered_after o c.before none in
    let low : o.next ≤ c.at.transaction.t = numbered.since c.entry.session c.at.transaction c.at.under_way in
    let there : serial_run (after_request s c.entry) c.behind ≡ serial_run o journal = sym (serial_run-append o c.before (c.entry ∷ c.behind)) ∙ ap (serial_run o) c.split in (
      subst (λ k. o.next ≤ k) c.at.number low,
      subst (λ (s' : DatabaseState). HasEnded s' t) there (run_ended (after_request s c.entry) c.behind t (ends_here o.next s c.entry t numbered c.at)),
    )

pub commits_stand : CommitsStand
commits_stand = record { more = more_commits; since = λ p none t c. committed_ended p.opening p.journal t none (of_place p t c) }

-- ---- rows of the table

-- each row has stood there since the opening, or is of a commit
abbrev pub AllOfCommits : DatabaseState → List Entry → Type 0
AllOfCommits o journal = (id : RowId) → contains_key (serial_run o journal).table id ≡ true → (contains_key o.table id ≡ true) ⊎ CommittedIn o journal id.t

commits_step : (o : DatabaseState) (journal : List Entry) (e : Entry) → AllOfCommits o journal → AllOfCommits o (journal ++ e ∷ [])
commits_step o journal e all id there = elim (row_step (serial_run o journal) e id (ap (λ (s : DatabaseState). contains_key s.table id) (sym (serial_run-append o journal (e ∷ []))) ∙ there)) [
  | inl before ↦ elim (all id before) [ inl first ↦ inl first | inr c ↦ inr (committed_on o journal (e ∷ []) id.t c) ]
  | inr here ↦ inr (committed_here o journal e id.t here)
]

commits_run : (o : DatabaseState) (done rest : List Entry) → AllOfCommits o done → AllOfCommits o (done ++ rest)
commits_run o done [] all = subst (AllOfCommits o) (sym (append-nil done)) all
commits_run o done (e ∷ es) all = subst (AllOfCommits o) (append_assoc done (e ∷ []) es) (commits_run o (done ++ e ∷ []) es (commits_step o done e all))

pub rows_of_commits : (o : DatabaseState) (journal : List Entry) → AllOfCommits o journal
rows_of_commits o journal = commits_run o [] journal (λ id there. inl there)

pub rows_ended : (o : DatabaseState) (journal : List Entry) → NoneOpen o → RowsAreEarlier o → (id : RowId) → contains_key (serial_run o journal).table id ≡ true → HasEnded (serial_run o journal) id.t
rows_ended o journal none earlier id there = elim (rows_of_commits o journal id there) [
  | inl first ↦ run_ended o journal id.t (earlier id first, λ under_way. none_Some under_way.1 (sym (none under_way.0) ∙ under_way.2))
  | inr c ↦ (committed_ended o journal id.t none c).1
]

pub rows_are_of_commits : RowsAreOfCommits
rows_are_of_commits = record {
  committed = λ p id there. elim (rows_of_commits p.opening p.journal id there) [ inl first ↦ inl first | inr c ↦ inr (to_place p id.t c) ];
  ended = rows_ended;
}
