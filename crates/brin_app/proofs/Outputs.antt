-- what follows from a run for its status
use Rattle.std.proofs.Common.{◌≡◌, ◌≢◌, ℕ, ◌+◌, ◌≤◌, List, [], ◌∷◌, length, Option, None, Some, Ok, Err, refl, sym, ap, ◌∙◌, subst, arith, length-append, ◌⊎◌, inl, inr}
use Rattle.std.specs.Prelude.{IsErrOf}
use Rattle.std.specs.Io.KnownBytes.{Consumes}
use Rattle.disk_trait.specs.Told.{Told}
use Rattle.script_run.specs.declared.engine.AnswerFault.TheVariants.{Memory, Full, Disk, Damaged}
use Rattle.script_run.specs.declared.fault.RunFault.TheVariants as faults
use Rattle.script_run.specs.Answers.{AreAnswers}
use Rattle.script_run.specs.Runs.{RunEnd, Stopped}
use Rattle.store_layout.specs.DiskLayout.{DiskLayout}
use Rattle.script_semantics.specs.Place.{Place}
use Rattle.brin_app.specs.declared.status.TheConstants.{SCRIPT_LIMIT}
use Rattle.session_orders.specs.CrashRule.{Stand}
use Rattle.brin_app.specs.ScriptOutput.{IsScriptRun, StopsOver, Texts, TextsOver, exit_status}
use Rattle.brin_app.specs.StatusCauses.{FillsJournal, FitsLimit, HasSpentCauses, IsComplete, IsSpentPast, JournalWasFull}

-- the status tells whether a fault of the source, or of the sink, ended the run
pub read_ended : (end : RunEnd) (status : ℕ) (F : Type 0) → status ≡ exit_status end → (IsErrOf end faults.Read → F) → status ≡ 4 → F
read_ended (Ok u) status F is rose four = absurd (omega (arith, is, four))
read_ended (Err faults.Read) status F is rose four = rose refl
read_ended (Err faults.Write) status F is rose four = absurd (omega (arith, is, four))
read_ended (Err faults.Spent) status F is rose four = absurd (omega (arith, is, four))
read_ended (Err (faults.Unanswered Memory)) status F is rose four = absurd (omega (arith, is, four))
read_ended (Err (faults.Unanswered Full)) status F is rose four = absurd (omega (arith, is, four))
read_ended (Err (faults.Unanswered Disk)) status F is rose four = absurd (omega (arith, is, four))
read_ended (Err (faults.Unanswered Damaged)) status F is rose four = absurd (omega (arith, is, four))

pub write_ended : (end : RunEnd) (status : ℕ) (F : Type 0) → status ≡ exit_status end → (IsErrOf end faults.Write → F) → status ≡ 5 → F
write_ended (Ok u) status F is rose five = absurd (omega (arith, is, five))
write_ended (Err faults.Read) status F is rose five = absurd (omega (arith, is, five))
write_ended (Err faults.Write) status F is rose five = rose refl
write_ended (Err faults.Spent) status F is rose five = absurd (omega (arith, is, five))
write_ended (Err (faults.Unanswered Memory)) status F is rose five = absurd (omega (arith, is, five))
write_ended (Err (faults.Unanswered Full)) status F is rose five = absurd (omega (arith, is, five))
write_ended (Err (faults.Unanswered Disk)) status F is rose five = absurd (omega (arith, is, five))
write_ended (Err (faults.Unanswered Damaged)) status F is rose five = absurd (omega (arith, is, five))

-- the status tells whether a limit was passed
pub spent_end : (end : RunEnd) → exit_status end ≡ 8 → (end ≡ (Err faults.Spent)) ⊎ (end ≡ (Err (faults.Unanswered Full)))
spent_end (Ok u) e = absurd (omega (arith, e))
spent_end (Err faults.Read) e = absurd (omega (arith, e))
spent_end (Err faults.Write) e = absurd (omega (arith, e))
spent_end (Err faults.Spent) e = inl refl
spent_end (Err (faults.Unanswered Memory)) e = absurd (omega (arith, e))
spent_end (Err (faults.Unanswered Full)) e = inr refl
spent_end (Err (faults.Unanswered Disk)) e = absurd (omega (arith, e))
spent_end (Err (faults.Unanswered Damaged)) e = absurd (omega (arith, e))

not_spent : (end : RunEnd) (n : ℕ) → (end ≢ (Err faults.Spent) → n ≤ SCRIPT_LIMIT) → n ≡ SCRIPT_LIMIT + 1 → exit_status end ≡ 8
not_spent (Ok u) n within is = absurd (let h : n ≤ SCRIPT_LIMIT = within (λ e. cc) in omega arith)
not_spent (Err faults.Read) n within is = absurd (let h : n ≤ SCRIPT_LIMIT = within (λ e. cc) in omega arith)
not_spent (Err faults.Write) n within is = absurd (let h : n ≤ SCRIPT_LIMIT = within (λ e. cc) in omega arith)
not_spent (Err faults.Spent) n within is = refl
not_spent (Err (faults.Unanswered fault)) n within is = absurd (let h : n ≤ SCRIPT_LIMIT = within (λ e. cc) in omega arith)

pub came_length : (old new script : List ℕ) → Consumes (Some old) (Some new) script → length old ≡ length script + length new
came_length old new script e = ap length e ∙ length-append script new

-- lines over stretches lead from place to place
placed : (layout : DiskLayout) (a b : Stand) (lines texts : List (List ℕ)) → AreAnswers (TextsOver layout) a lines texts b → AreAnswers (Texts layout) a.place lines texts b.place
placed layout a b [] [] e = ap (λ (x : Stand). x.place) e
placed layout a b [] (text ∷ texts) e = absurd e
placed layout a b (line ∷ lines) [] e = absurd e
placed layout a b (line ∷ lines) (text ∷ texts) e = (e.0.place, e.1.so, placed layout e.0 b lines texts e.2)

module _ (Starts : Place → Type 0) (layout : DiskLayout) where
  -- a line for which the journal has no room fills it
  filled_by : (n : ℕ) (left : Option (List ℕ)) (script : List ℕ) (done texts : List (List ℕ)) (start final after : Stand) → Starts start.place → AreAnswers (TextsOver layout) start done texts final
      → Stopped (StopsOver layout n) final after script left done Full → FillsJournal Starts layout script left
  filled_by n left script done texts start final after starts answers (inl at) =
      let answered = placed layout start final done texts answers in
      record { start = start.place; starts = starts; done = done; texts = texts; place = final.place; line = at.line; after = after.place; first = at.first; answers = answered; past = at.stops.so.0 }
  filled_by n left script done texts start final after starts answers (inr at) = absurd (let wrong : Full ≡ Memory = at.0 in cc)

  module _ (status : ℕ) (disk : Told) (start : Stand) (starts : Starts start.place) where
    -- a run that ended for want of room in the journal filled it
    filled : (l l' k k' : Option (List ℕ)) → (o : IsScriptRun status layout disk l l' k k' start) → o.end ≡ (Err (faults.Unanswered Full)) → JournalWasFull Starts layout l l'
    filled l l' k k' o e =
        let r = o.ran in
        (r.0, r.5, filled_by o.session l' r.0 r.2 r.3 start r.4 (record { place = o.after; disk = disk }) starts r.7.answers (r.7.stopped Full e).0)

    spent_causes : (old new : List ℕ) (k k' : Option (List ℕ)) (o : IsScriptRun status layout disk (Some old) (Some new) k k' start) → (o.end ≡ (Err faults.Spent)) ⊎ (o.end ≡ (Err (faults.Unanswered Full)))
        → (length old ≡ (SCRIPT_LIMIT + 1) + length new) ⊎ JournalWasFull Starts layout (Some old) (Some new)
    spent_causes old new k k' o (inl e) =
        let r = o.ran in
        let count : length old ≡ length r.0 + length new = came_length old new r.0 r.5 in
        let long : length r.0 ≡ SCRIPT_LIMIT + 1 = (r.7.spent e).0 in inl (omega arith)
    spent_causes old new k k' o (inr e) = inr (filled (Some old) (Some new) k k' o e)

    pub run_spent : (l l' k k' : Option (List ℕ)) → IsScriptRun status layout disk l l' k k' start → HasSpentCauses status Starts layout l l'
    run_spent None l' k k' o = tt
    run_spent (Some old) None k k' o = tt
    run_spent (Some old) (Some new) k k' o =
        let r = o.ran in
        let count : length old ≡ length r.0 + length new = came_length old new r.0 r.5 in
        record {
          past_limit = λ e. o.status_is ∙ not_spent o.end (length r.0) r.7.within (omega arith);
          only = λ e. spent_causes old new k k' o (spent_end o.end (sym o.status_is ∙ e));
        }

    fits_less : (l l' : Option (List ℕ)) (script : List ℕ) → FitsLimit l → Consumes l l' script → length script ≤ SCRIPT_LIMIT
    fits_less None l' script f c = absurd f
    fits_less (Some old) None script f c = absurd c
    fits_less (Some old) (Some new) script f c = let count : length old ≡ length script + length new = came_length old new script c in let small : length old ≤ SCRIPT_LIMIT = f in omega arith

    ended : (end : RunEnd) (n : ℕ) (J : Type 0) → (end ≡ (Err faults.Spent) → n ≡ SCRIPT_LIMIT + 1) → n ≤ SCRIPT_LIMIT → (end ≡ (Err (faults.Unanswered Full)) → J) → exit_status end ≢ 4 → exit_status end ≢ 5
        → exit_status end ≢ 6 → exit_status end ≢ 11 → ¬ J → (exit_status end ≡ 0) ⊎ (exit_status end ≡ 7)
    ended (Ok u) n J long small full read write disk_ damage j = inl refl
    ended (Err faults.Read) n J long small full read write disk_ damage j = absurd (read refl)
    ended (Err faults.Write) n J long small full read write disk_ damage j = absurd (write refl)
    ended (Err faults.Spent) n J long small full read write disk_ damage j = absurd (let h : n ≡ SCRIPT_LIMIT + 1 = long refl in omega arith)
    ended (Err (faults.Unanswered Memory)) n J long small full read write disk_ damage j = inr refl
    ended (Err (faults.Unanswered Full)) n J long small full read write disk_ damage j = absurd (j (full refl))
    ended (Err (faults.Unanswered Disk)) n J long small full read write disk_ damage j = absurd (disk_ refl)
    ended (Err (faults.Unanswered Damaged)) n J long small full read write disk_ damage j = absurd (damage refl)

    pub run_complete : (l l' k k' : Option (List ℕ)) → IsScriptRun status layout disk l l' k k' start → status ≢ 4 → status ≢ 5 → status ≢ 6 → status ≢ 11 → IsComplete status Starts layout l
    run_complete l l' k k' o read write disk_ damage fits room =
        let r = o.ran in
        subst (λ n. (n ≡ 0) ⊎ (n ≡ 7)) (sym o.status_is)
        (ended o.end (length r.0) (JournalWasFull Starts layout l l') (λ e. (r.7.spent e).0) (fits_less l l' r.0 fits r.5) (filled l l' k k' o) (λ e. read (o.status_is ∙ e)) (λ e. write (o.status_is ∙ e))
        (λ e. disk_ (o.status_is ∙ e)) (λ e. damage (o.status_is ∙ e)) (room l'))

-- nothing was read
pub idle_spent : (status : ℕ) (Starts : Place → Type 0) (layout : DiskLayout) (l : Option (List ℕ)) → status ≢ 8 → HasSpentCauses status Starts layout l l
idle_spent status Starts layout None not = tt
idle_spent status Starts layout (Some old) not = record { past_limit = λ e. absurd (omega (arith, e)); only = λ e. absurd (not e) }

pub idle_past : (status : ℕ) (l : Option (List ℕ)) → IsSpentPast status l l
idle_past status None = tt
idle_past status (Some old) = λ e. absurd (omega (arith, e))
