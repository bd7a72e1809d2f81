-- how the journal stays ahead of the transcript
use Rattle.std.proofs.Common.{◌≡◌, ◌≢◌, inl, inr, ℕ, Bool, true, false, cond, List, [], ◌∷◌, length, Option, None, Some, refl, sym, ap, subst, ◌∙◌, eq-eqb, ne_eqb}
use Rattle.std.proofs.lemmas.Bool.{cases_eq}
use Rattle.std.proofs.lemmas.Cmp.{nat_cmp_total}
use Rattle.std.specs.FinMap as map
use Rattle.block_model.specs.declared.reply.Refusal.TheVariants as refusals
use Rattle.block_model.specs.declared.reply.Reply.TheVariants as replies
use Rattle.block_model.specs.declared.request.Request.TheVariants as requests
use Rattle.block_model.specs.declared.value.Value.{Value}
use Rattle.block_model.specs.DatabaseState.{DatabaseState, OpenTransaction}
use Rattle.block_model.specs.NumberMaps.{get_put_apart, get_put_here, none_Some, numbers_apart, same_Some}
use Rattle.block_model.specs.RequestEffect.{Answer, Inserted, after_failure, after_put, after_request, effect, failed_transaction, next_row, reply_to, rows_found, with_transaction}
use Rattle.block_model.specs.RequestLaws.{effect_by, mark_effect, others_stay}
use Rattle.store_layout.specs.declared.statement.Statement.{Statement}
use Rattle.store_layout.specs.declared.statement.Statement.TheVariants as statements
use Rattle.store_layout.specs.StatementRequests.{mark_entry, refusal_at, request_entry, submission_refusal}
use Rattle.script_semantics.specs.Place.{Hand, updated}
use Rattle.transcript_laws.specs.Ahead.{IsAhead, IsCopyAhead, Idle, Fresh, HasPut, HasMarked}
use Rattle.transcript_laws.specs.EntryLaws.{BeginsAhead}
use Rattle.transcript_laws.specs.Laws.{DeletesAreTold, FailedDeletesAreTold, InsertsAreTold, NextStays, PutsStayAhead}
use Rattle.transcripts.specs.Told.{Deleting, Inserts, FailsAt, MarksAll, marked}
use Rattle.transcript_laws.proofs.Conflicts.{conflicts_told, marked_free, same_number}

pub updated_here : {A : Type 0} (f : ℕ → A) (n : ℕ) (x : A) → updated f n x n ≡ x
updated_here f n x = ap (λ b. cond b x (f n)) (eq-eqb n n refl)

pub updated_there : {A : Type 0} (f : ℕ → A) (n m : ℕ) (x : A) → m ≢ n → updated f n x m ≡ f m
updated_there f n m x apart = ap (λ b. cond b x (f m)) (ne_eqb m n apart)

-- One session changes what it has in hand and its own transaction; all others keep theirs in both databases. So what is ahead is to be shown of that session alone.
module _ (next next' : ℕ → Option Statement) (hands : ℕ → Option Hand) (h : Option Hand) (d d' s s' : DatabaseState) (n : ℕ) (was : IsAhead next hands d s)
    (number : d'.next ≡ s'.next) (table : d'.table ≡ s'.table)
    (others_now : (m : ℕ) → m ≢ n → map.get d'.sessions m ≡ map.get d.sessions m) (others : (m : ℕ) → m ≢ n → map.get s'.sessions m ≡ map.get s.sessions m)
    (nexts : NextStays next next' n) (own : IsCopyAhead (map.get s'.sessions n) (map.get d'.sessions n) h)
    (lines : (hand : Hand) → h ≡ Some hand → (next' n ≡ Some hand.statement) × (refusal_at s' n hand.statement ≡ None)) where
  hands' : ℕ → Option Hand
  hands' = updated hands n h

  copies : (m : ℕ) → IsCopyAhead (map.get s'.sessions m) (map.get d'.sessions m) (updated hands n h m)
  copies m = elim (cases_eq m n) [
    | inl same ↦ subst (λ (k : ℕ). IsCopyAhead (map.get s'.sessions k) (map.get d'.sessions k) (updated hands n h k)) (sym same)
        (subst (IsCopyAhead (map.get s'.sessions n) (map.get d'.sessions n)) (sym (updated_here hands n h)) own)
    | inr apart ↦ subst (λ (b : Option OpenTransaction). IsCopyAhead b (map.get d'.sessions m) (updated hands n h m)) (sym (others m apart))
        (subst (λ (b : Option OpenTransaction). IsCopyAhead (map.get s.sessions m) b (updated hands n h m)) (sym (others_now m apart))
        (subst (IsCopyAhead (map.get s.sessions m) (map.get d.sessions m)) (sym (updated_there hands n m h apart)) (was.copies m)))
  ]

  pub goes : IsAhead next' (updated hands n h) d' s'
  goes = record {
    number = number;
    table = table;
    copies = copies;
    lines = λ m hand is. elim (cases_eq m n) [
      | inl same ↦ ap next' same ∙ (lines hand (sym (updated_here hands n h) ∙ ap (updated hands n h) (sym same) ∙ is)).0
      | inr apart ↦ nexts m apart ∙ was.lines m hand (sym (updated_there hands n m h apart) ∙ is)
    ];
    taken = λ m hand is. elim (cases_eq m n) [
      | inl same ↦ ap (λ (k : ℕ). refusal_at s' k hand.statement) same ∙ (lines hand (sym (updated_here hands n h) ∙ ap (updated hands n h) (sym same) ∙ is)).1
      | inr apart ↦ ap (λ (o : Option OpenTransaction). submission_refusal o hand.statement) (others m apart) ∙ was.taken m hand (sym (updated_there hands n m h apart) ∙ is)
    ];
  }

-- ---- inserts

more_than_none : (a : Answer) (more : List Answer) → a ∷ more ≡ [] → ⊥
more_than_none a more e = cc

-- a statement that has entered nothing stands where the transcript has its session
pub fresh_same : (before now : Option OpenTransaction) (statement : Statement) → IsCopyAhead before now (Some (record { statement = statement; answers = [] })) → now ≡ before
fresh_same before now statement ahead = by (Some (record { statement = statement; answers = [] })) ahead refl
  where
    by : (h : Option Hand) → IsCopyAhead before now h → h ≡ Some (record { statement = statement; answers = [] }) → now ≡ before
    by _ (Idle same) e = same
    by _ (Fresh st same) e = same
    by _ (HasPut x table values was whole puts) e = absurd (more_than_none _ _ (ap (λ (g : Hand). g.answers) (same_Some _ _ e)))
    by _ (HasMarked x q rows left was whole finds marks) e = absurd (more_than_none _ _ (ap (λ (g : Hand). g.answers) (same_Some _ _ e)))

-- an insert that is taken has a transaction that hasn't failed
insert_allowed : (o : Option OpenTransaction) (table : ℕ) (values : List Value) → submission_refusal o (statements.Insert table values) ≡ None → (x : OpenTransaction) × (o ≡ Some x) × (x.failed ≡ false)
insert_allowed None table values e = absurd (cc)
insert_allowed (Some x) table values e = (x, refl, by x.failed e)
  where
    by : (b : Bool) → cond b (Some refusals.Doomed) None ≡ None → b ≡ false
    by true e = absurd (cc)
    by false e = refl

pub puts : PutsStayAhead
puts next hands d s n table values was is =
    let e = request_entry n table (requests.Put values) in
    let allowed = insert_allowed (map.get s.sessions n) table values (was.taken n _ is) in
    let x = allowed.0 in
    let now : map.get d.sessions n ≡ Some x = fresh_same (map.get s.sessions n) (map.get d.sessions n) (statements.Insert table values) (subst (IsCopyAhead (map.get s.sessions n) (map.get d.sessions n)) is (was.copies n)) ∙ allowed.1 in
    let done : effect d e ≡ (with_transaction d n (after_put x table values), Inserted (next_row x table values).id) = effect_by d e (Some x) now in
    let d' = with_transaction d n (after_put x table values) in
    let h = Some (record { statement = statements.Insert table values; answers = reply_to d e ∷ [] }) in
    let ahead : IsCopyAhead (map.get s.sessions n) (map.get d'.sessions n) h =
    subst (λ (a : Answer). IsCopyAhead (map.get s.sessions n) (map.get d'.sessions n) (Some (record { statement = statements.Insert table values; answers = a ∷ [] }))) (sym (ap (λ (p : DatabaseState × Answer). p.1) done))
    (HasPut x table values allowed.1 allowed.2 (get_put_here nat_cmp_total d.sessions n (after_put x table values))) in
    subst (λ (t : DatabaseState). IsAhead next (updated hands n h) t s) (sym (ap (λ (p : DatabaseState × Answer). p.0) done))
    (goes next next hands h d d' s s n was was.number was.table (λ m apart. get_put_apart nat_cmp_total d.sessions n m (after_put x table values) (numbers_apart m n apart)) (λ m apart. refl) (λ m apart. refl) ahead
    (λ hand same. (was.lines n _ is ∙ ap (λ (g : Hand). Some g.statement) (same_Some _ _ same), ap (λ (g : Hand). refusal_at s n g.statement) (sym (same_Some _ _ same)) ∙ was.taken n _ is)))

no_hand : (hand : Hand) → None ≡ Some hand → ⊥
no_hand hand e = none_Some hand e

-- ---- what is told

module _ (next next' : ℕ → Option Statement) (hands : ℕ → Option Hand) (d s : DatabaseState) (n : ℕ) (y : OpenTransaction) (was : IsAhead next hands d s) (nexts : NextStays next next' n) where
  -- the transcript takes the session's transaction over
  pub taken_over : (d' : DatabaseState) → d'.next ≡ d.next → d'.table ≡ d.table → ((m : ℕ) → m ≢ n → map.get d'.sessions m ≡ map.get d.sessions m) → map.get d'.sessions n ≡ Some y
      → IsAhead next' (updated hands n None) d' (with_transaction s n y)
  taken_over d' number table others got =
      goes next next' hands None d d' s (with_transaction s n y) n was (number ∙ was.number) (table ∙ was.table) others
      (λ m apart. get_put_apart nat_cmp_total s.sessions n m y (numbers_apart m n apart)) nexts (Idle (got ∙ sym (get_put_here nat_cmp_total s.sessions n y)))
      (λ hand none. absurd (no_hand hand none))

pub inserts_told : InsertsAreTold
inserts_told limits next next' hands d s n table values x was sound got nexts =
    (Inserts x table values sound, taken_over next next' hands d s n (after_put x table values) was nexts d refl refl (λ m apart. refl) got)

pub deletes_told : DeletesAreTold
deletes_told limits next next' hands d s n q x was apart sound got nexts = (
  Deleting x (marked x (rows_found x q)) q (replies.Deleted (length (rows_found x q))) sound (MarksAll (marked_free next hands d s n x (rows_found x q) was apart got)),
  taken_over next next' hands d s n (marked x (rows_found x q)) was nexts d refl refl (λ m apart. refl) got,
)

pub failed_deletes_told : FailedDeletesAreTold
failed_deletes_told limits next next' hands d s n q x before row after was apart sound finds got conflict nexts =
    let e = mark_entry n q.table row in
    let y = failed_transaction (marked x before) in
    let done : effect d e ≡ mark_effect d n (marked x before) row.id true = effect_by d e (Some (marked x before)) got ∙ ap (λ b. mark_effect d n (marked x before) row.id b) conflict in
    let state : after_request d e ≡ after_failure d n (marked x before) = ap (λ (p : _). p.0) done in (
      Deleting x y q (replies.Refused (refusals.Conflict row.id)) sound
          (FailsAt before row after finds (marked_free next hands d s n x before was apart got) (conflicts_told next hands d s n x (marked x before) row.id was (same_number x before) conflict)),
      taken_over next next' hands d s n y was nexts (after_request d e) (ap (λ (t : DatabaseState). t.next) state) (ap (λ (t : DatabaseState). t.table) state)
          (λ m other. others_stay d e m other) (ap (λ (t : DatabaseState). map.get t.sessions n) state ∙ get_put_here nat_cmp_total d.sessions n y),
    )

pub begins_ahead : BeginsAhead
begins_ahead next hands s empty = record {
  number = refl;
  table = refl;
  copies = λ n. subst (IsCopyAhead (map.get s.sessions n) (map.get s.sessions n)) (sym (empty n)) (Idle refl);
  lines = λ n hand has. absurd (no_hand hand (sym (empty n) ∙ has));
  taken = λ n hand has. absurd (no_hand hand (sym (empty n) ∙ has));
}
