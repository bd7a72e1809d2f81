-- a script that is run by one worker a session
use Rattle.std.proofs.Common.{◌≡◌, ◌≢◌, ℕ, ◌+◌, ◌≤◌, List, length, Option, None, Some, Ok, Err, refl, sym, ap, ◌∙◌, subst, arith, ◌⊎◌, inl, inr}
use Rattle.std.specs.Prelude.{IsTrue}
use Rattle.block_model.specs.Causes.{Rose}
use Rattle.block_model.specs.DatabaseState.{DatabaseState, initial_state}
use Rattle.block_model.specs.TableState.{TableState}
use Rattle.disk_trait.specs.Told.{Told}
use Rattle.disk_trait.specs.Throughout.{Throughout}
use Rattle.disk_trait.specs.ThroughoutLaws.{joined, started, weaker}
use Rattle.model_laws.specs.NoRowRemovedTwice as openings
use Rattle.model_laws.proofs.Removals.{initial_is_opening}
use Rattle.store_layout.specs.DiskLayout.{DiskLayout, disk_size}
use Rattle.page_map.specs.Keeps.{Tells}
use Rattle.page_map.specs.PageMap.{PageMap}
use Rattle.recovery.specs.declared.fault.StartFault.{StartFault}
use Rattle.recovery.specs.declared.fault.StartFault.TheVariants as starts
use Rattle.page_store.specs.Refused.{IsRefused}
use Rattle.script_run.specs.declared.engine.AnswerFault.TheVariants.{Memory, Full, Disk, Damaged}
use Rattle.script_run.specs.declared.fault.RunFault.TheVariants as faults
use Rattle.script_run.specs.Runs.{RunEnd}
use Rattle.transactions.specs.ShowsDatabase.{ShowsDatabase}
use Rattle.script_semantics.specs.Place.{Place}
use Rattle.script_semantics.specs.Starts.{IsOpening, IsStart}
use Rattle.session_parts.specs.FrontLaws.{StartStands}
use Rattle.session_parts.specs.ShowsPlace.{ShowsPlace}
use Rattle.session_parts.specs.StoreStates.{StoreState}
use Rattle.session_core.specs.Started.{HoldsImage, ImagesStay}
use Rattle.session_core.specs.StopRule.{AllHaveTable, IsImageWith}
use Rattle.transactions.specs.FoundLaws.{table_committed}
use Rattle.session_core.specs.StoreImage.{IsStoreImage, database_with, opened_at}
use Rattle.threads_run.specs.Given.{IsOpenedFor, IsTakenSo, TakesBytes}
use Rattle.threads_run.specs.Output.{IsThreadsOutput}
use Rattle.brin_app.specs.declared.status.TheConstants.{SCRIPT_LIMIT}
use Rattle.brin_app.specs.declared.top.Task.{Task}
use Rattle.brin_app.specs.declared.top.Task.TheVariants.{Demo, Init, Run, RunStored, Threads, ThreadsStored}
use Rattle.brin_app.specs.Holding.{HasRun, ObeysLaws}
use Rattle.brin_app.specs.ScriptOutput.{EachImageHas, HoldsTable, IsOldOrEmpty, IsUnmade, IsUnopened, StartsOver, exit_status}
use Rattle.brin_app.specs.StatusCauses.{IsDoneSo, IsSpentPast, LacksStore}
use Rattle.brin_app.specs.Statuses.{IsStatus, IsUnfit, start_status}
use Rattle.brin_app.specs.Tasks.{IsThreaded}
use Rattle.brin_app.specs.Threads.{HasRead, HasWorkers, IsCompleteFor, IsGivenFor, IsGivenNew, IsGivenStored, IsTooMuch, IsWorkedFor}
use Rattle.brin_app.proofs.Doing.{AreNotDamaged, HaveOneLayout, OpenToOneMap, has_store, idle, undamaged}
use Rattle.brin_app.proofs.Holding.{image_held, run_only}
use Rattle.brin_app.proofs.Outputs.{came_length, idle_past, spent_end}

-- ---- the opening

-- no transaction is under way in the database of a store that stands there, and its rows are all of earlier numbers
stored_opening : StartStands → (layout : DiskLayout) (pages : PageMap) (table : TableState) (image : IsStoreImage layout pages table) (p : Place) → IsOpening layout (database_with image.next table) p
    → openings.IsOpening (database_with image.next table)
stored_opening law layout pages table image p begins =
    let shown = subst (λ (s : DatabaseState). ShowsDatabase layout pages (opened_at image.next) s) (sym begins.opening_is) image.database in
    let stands = law layout pages (opened_at image.next) image.database.stored p shown image.database.has (record { first = refl; opens = refl }) begins.journal in
    subst openings.IsOpening begins.opening_is (record { none_open = stands.none_open; earlier = stands.earlier })

module _ {D : Type 0} (told : D → Told) (s : StoreState D) (tells : Tells told s.pages) where
  -- a store that was just made is opened as the name says
  pub opened_new : (made : DiskLayout) → (start : Place) × IsStart made start × (s.pages.layout ≡ made) × ShowsPlace s start × AllHaveTable told s.pages start
      → (old : Told) (left : Option (List ℕ)) (opening : DatabaseState) (layout : DiskLayout) (script : List ℕ) → IsGivenNew made old left opening layout script → IsOpenedFor told opening layout s
  opened_new made start old left opening layout script given = record {
    tells = tells;
    opens = subst openings.IsOpening (sym given.opening_is) initial_is_opening;
    layout_is = start.2 ∙ sym given.layout_is;
    place = start.0;
    begins = inr (subst (λ (m : DiskLayout). IsStart m start.0) (sym given.layout_is) start.1, given.opening_is);
    shown = start.3;
    all = start.4;
  }

  -- and so is one that stood there
  pub opened_stored : StartStands → (old : Told) (left : Option (List ℕ)) (opening : DatabaseState) (layout : DiskLayout) (script : List ℕ) (given : IsGivenStored old left opening layout script) → s.pages.layout ≡ layout
      → (p : Place) × StartsOver layout given.holds.pages given.holds.image.next given.table p × ShowsPlace s p × AllHaveTable told s.pages p → IsOpenedFor told opening layout s
  opened_stored law old left opening layout script given same p = record {
    tells = tells;
    opens = subst openings.IsOpening (sym given.opening_is) (stored_opening law layout given.holds.pages given.table given.holds.image p.0 p.1.opening);
    layout_is = same;
    place = p.0;
    begins = inl (subst (λ (o : DatabaseState). IsOpening layout o p.0) (sym given.opening_is) p.1.opening);
    shown = p.2;
    all = p.3;
  }

-- ---- how a run ends, by its status

pub read_end : (end : RunEnd) → exit_status end ≡ 4 → end ≡ Err faults.Read
read_end (Ok u) e = absurd (omega (arith, e))
read_end (Err faults.Read) e = refl
read_end (Err faults.Write) e = absurd (omega (arith, e))
read_end (Err faults.Spent) e = absurd (omega (arith, e))
read_end (Err (faults.Unanswered Memory)) e = absurd (omega (arith, e))
read_end (Err (faults.Unanswered Full)) e = absurd (omega (arith, e))
read_end (Err (faults.Unanswered Disk)) e = absurd (omega (arith, e))
read_end (Err (faults.Unanswered Damaged)) e = absurd (omega (arith, e))

pub write_end : (end : RunEnd) → exit_status end ≡ 5 → end ≡ Err faults.Write
write_end (Ok u) e = absurd (omega (arith, e))
write_end (Err faults.Read) e = absurd (omega (arith, e))
write_end (Err faults.Write) e = refl
write_end (Err faults.Spent) e = absurd (omega (arith, e))
write_end (Err (faults.Unanswered Memory)) e = absurd (omega (arith, e))
write_end (Err (faults.Unanswered Full)) e = absurd (omega (arith, e))
write_end (Err (faults.Unanswered Disk)) e = absurd (omega (arith, e))
write_end (Err (faults.Unanswered Damaged)) e = absurd (omega (arith, e))

pub disk_end : (end : RunEnd) → exit_status end ≡ 6 → end ≡ Err (faults.Unanswered Disk)
disk_end (Ok u) e = absurd (omega (arith, e))
disk_end (Err faults.Read) e = absurd (omega (arith, e))
disk_end (Err faults.Write) e = absurd (omega (arith, e))
disk_end (Err faults.Spent) e = absurd (omega (arith, e))
disk_end (Err (faults.Unanswered Memory)) e = absurd (omega (arith, e))
disk_end (Err (faults.Unanswered Full)) e = absurd (omega (arith, e))
disk_end (Err (faults.Unanswered Disk)) e = refl
disk_end (Err (faults.Unanswered Damaged)) e = absurd (omega (arith, e))

pub damaged_end : (end : RunEnd) → exit_status end ≡ 11 → end ≡ Err (faults.Unanswered Damaged)
damaged_end (Ok u) e = absurd (omega (arith, e))
damaged_end (Err faults.Read) e = absurd (omega (arith, e))
damaged_end (Err faults.Write) e = absurd (omega (arith, e))
damaged_end (Err faults.Spent) e = absurd (omega (arith, e))
damaged_end (Err (faults.Unanswered Memory)) e = absurd (omega (arith, e))
damaged_end (Err (faults.Unanswered Full)) e = absurd (omega (arith, e))
damaged_end (Err (faults.Unanswered Disk)) e = absurd (omega (arith, e))
damaged_end (Err (faults.Unanswered Damaged)) e = refl

other_end : (end : RunEnd) → (exit_status end ≢ 2) × (exit_status end ≢ 9)
other_end (Ok u) = (λ e. omega (arith, e), λ e. omega (arith, e))
other_end (Err faults.Read) = (λ e. omega (arith, e), λ e. omega (arith, e))
other_end (Err faults.Write) = (λ e. omega (arith, e), λ e. omega (arith, e))
other_end (Err faults.Spent) = (λ e. omega (arith, e), λ e. omega (arith, e))
other_end (Err (faults.Unanswered Memory)) = (λ e. omega (arith, e), λ e. omega (arith, e))
other_end (Err (faults.Unanswered Full)) = (λ e. omega (arith, e), λ e. omega (arith, e))
other_end (Err (faults.Unanswered Disk)) = (λ e. omega (arith, e), λ e. omega (arith, e))
other_end (Err (faults.Unanswered Damaged)) = (λ e. omega (arith, e), λ e. omega (arith, e))

pub no_other_end : (end : RunEnd) (status : ℕ) → status ≡ exit_status end → (status ≢ 2) × (status ≢ 9)
no_other_end end status is = (λ two. (other_end end).0 (sym is ∙ two), λ nine. (other_end end).1 (sym is ∙ nine))

-- ---- how much is read

past_end : (limit : ℕ) (bytes : List ℕ) (left : Option (List ℕ)) (end : RunEnd) → IsTakenSo limit bytes left end → length bytes ≡ limit + 1 → exit_status end ≡ 8
past_end limit bytes left (Ok u) taken long = absurd (let small : length bytes ≤ limit = taken.0 in omega arith)
past_end limit bytes left (Err faults.Read) taken long = absurd (let small : length bytes ≤ limit = taken in omega arith)
past_end limit bytes left (Err faults.Write) taken long = absurd (let small : length bytes ≤ limit = taken.0 in omega arith)
past_end limit bytes left (Err faults.Spent) taken long = refl
past_end limit bytes left (Err (faults.Unanswered Memory)) taken long = absurd (let small : length bytes ≤ limit = taken in omega arith)
past_end limit bytes left (Err (faults.Unanswered Full)) taken long = refl
past_end limit bytes left (Err (faults.Unanswered Disk)) taken long = absurd (let small : length bytes ≤ limit = taken.0 in omega arith)
past_end limit bytes left (Err (faults.Unanswered Damaged)) taken long = absurd (let small : length bytes ≤ limit = taken.0 in omega arith)

not_more : (old new : List ℕ) → Some new ≡ Some old → length old ≡ (SCRIPT_LIMIT + 1) + length new → ⊥
not_more old new same long = let alike : new ≡ old = cc in let count : length new ≡ length old = ap length alike in omega arith

pub past_read : (status : ℕ) (l l' : Option (List ℕ)) → HasRead status l l' → IsSpentPast status l l'
past_read status None l' read = tt
past_read status (Some old) None read = tt
past_read status (Some old) (Some new) (inl same) = λ long. absurd (not_more old new same long)
past_read status (Some old) (Some new) (inr run) = λ long.
    let takes : TakesBytes SCRIPT_LIMIT run.0 (Some old) (Some new) = run.2 in
    let count : length old ≡ length takes.0 + length new = came_length old new takes.0 takes.1 in
    run.1 ∙ past_end SCRIPT_LIMIT takes.0 (Some new) run.0 takes.2 (omega arith)

-- ---- where no worker is begun

-- nothing was done for a task of today: nothing is done for that of `threads`
pub as_stored : {status : ℕ} {old new : Told} {l k : Option (List ℕ)} {r w : Type 0} → IsDoneSo RunStored status old new l l k k r w → IsDoneSo ThreadsStored status old new l l k k r w
as_stored {status} {old} {new} {l} {k} done = record {
  known = done.known;
  output = inl refl;
  read_fault = done.read_fault;
  write_fault = done.write_fault;
  disk_fault = done.disk_fault;
  no_store = λ _. tt;
  refused_disk = λ nine. record { contents = (done.refused_disk.untouched nine).contents; idle = idle l k };
  damaged = λ _. tt;
  no_usage = done.no_usage;
  spent = idle_past status l;
  complete = λ _ _ _. tt;
}

pub as_new : {status : ℕ} {layout : DiskLayout} {old new : Told} {l k : Option (List ℕ)} {r w : Type 0} → IsDoneSo (Run layout) status old new l l k k r w → IsDoneSo (Threads layout) status old new l l k k r w
as_new {status} {layout} {old} {new} {l} {k} done = record {
  known = done.known;
  output = inl refl;
  read_fault = done.read_fault;
  write_fault = done.write_fault;
  disk_fault = done.disk_fault;
  no_store = done.no_store;
  refused_disk = done.refused_disk;
  damaged = λ eleven still tells. done.damaged eleven tells;
  no_usage = done.no_usage;
  spent = idle_past status l;
  complete = λ _ _ _. tt;
}

module _ (one : HaveOneLayout) (law : AreNotDamaged) (old new : Told) (l k : Option (List ℕ)) (stay : ImagesStay old new) (layout : DiskLayout) (table : TableState) (tells : IsTrue old.tells_contents) (holds : HoldsTable old layout table) where
  -- a store that stands there isn't opened, since the disk failed or for want of memory
  pub not_opened : (fault : StartFault) → IsRefused old new fault → IsUnopened (start_status fault) layout table old new l l k k
  not_opened starts.NoStore cause = absurd (cause.0 tells layout (has_store old layout table holds))
  not_opened (starts.Damaged at) cause = absurd (undamaged one law old layout table at holds (cause.0 tells))
  not_opened starts.Disk cause = record { why = inl refl; idle = idle l k; any_moment = stay layout table }
  not_opened starts.Memory cause = record { why = inr refl; idle = idle l k; any_moment = stay layout table }

-- over an honest name
pub stored_refused : HaveOneLayout → AreNotDamaged → (old new : Told) (l k : Option (List ℕ)) → ImagesStay old new → (opening : DatabaseState) (layout : DiskLayout) (script : List ℕ) → IsGivenStored old l opening layout script
    → (fault : StartFault) → IsRefused old new fault → IsWorkedFor ThreadsStored (start_status fault) old new l l k k opening layout script
stored_refused one law old new l k stay opening layout script given fault cause =
    inl (subst (λ (o : DatabaseState). IsUnopened (start_status fault) layout o.table old new l l k k) (sym given.opening_is) (not_opened one law old new l k stay layout given.table given.tells given.holds fault cause))

why_unmade : {status : ℕ} → (status ≡ 6) ⊎ (status ≡ 7) → (status ≡ 6) ⊎ ((status ≡ 7) ⊎ (status ≡ 9))
why_unmade (inl six) = inl six
why_unmade (inr seven) = inr (inl seven)

module _ (made : DiskLayout) (old mid : Told) (moments : Throughout old mid (IsOldOrEmpty made old)) where
  pub unfit_worked : (status : ℕ) (l k : Option (List ℕ)) → IsUnfit status made old mid → (opening : DatabaseState) (layout : DiskLayout) (script : List ℕ) → IsWorkedFor (Threads made) status old mid l l k k opening layout script
  unfit_worked status l k (inl six) opening layout script = inl (record { why = inl six.0; idle = idle l k; any_moment = moments })
  unfit_worked status l k (inr nine) opening layout script = inl (record { why = inr (inr nine.0); idle = idle l k; any_moment = moments })

  -- made, and not opened
  pub new_refused : (status : ℕ) (new : Told) (l l' k k' : Option (List ℕ)) → EachImageHas mid made initial_state.table → IsUnopened status made initial_state.table mid new l l' k k' → IsUnmade status made old new l l' k k'
  new_refused status new l l' k k' has un = record {
    why = why_unmade un.why;
    idle = un.idle;
    any_moment = joined old mid new (IsOldOrEmpty made old) moments (weaker mid new (IsImageWith made initial_state.table) (IsOldOrEmpty made old) (un.any_moment has) (λ image empty. inr empty));
  }

-- ---- where the workers were begun

module _ (status : ℕ) (old new : Told) (l l' k k' : Option (List ℕ)) (r w : Type 0) (known : IsStatus status) (read : HasRead status l l') (read_fault : status ≡ 4 → r) (write_fault : status ≡ 5 → w)
    (disk_fault : status ≡ 6 → Rose old.faults new.faults) (damage : status ≡ 11 → IsTrue new.tells_contents → ⊥) (others : (status ≢ 2) × (status ≢ 9)) where
  pub stored_worked : IsDoneSo ThreadsStored status old new l l' k k' r w
  stored_worked = record {
    known = known;
    output = read;
    read_fault = read_fault;
    write_fault = write_fault;
    disk_fault = disk_fault;
    no_store = λ _. tt;
    refused_disk = λ nine. absurd (others.1 nine);
    damaged = λ _. tt;
    no_usage = others.0;
    spent = past_read status l l' read;
    complete = λ _ _ _. tt;
  }

  pub new_worked : (layout : DiskLayout) → old.size ≡ disk_size layout → IsDoneSo (Threads layout) status old new l l' k k' r w
  new_worked layout fits = record {
    known = known;
    output = read;
    read_fault = read_fault;
    write_fault = write_fault;
    disk_fault = disk_fault;
    no_store = λ nine. absurd (others.1 nine);
    refused_disk = λ wrong. absurd (wrong fits);
    damaged = λ eleven still tells. damage eleven (still tells);
    no_usage = others.0;
    spent = past_read status l l' read;
    complete = λ _ _ _. tt;
  }

-- ---- a full journal, too long a script, and no other status

too_long : (opening : DatabaseState) (layout : DiskLayout) (script : List ℕ) (new : Told) (taken taken' : Option (List ℕ)) → IsThreadsOutput SCRIPT_LIMIT (Err faults.Spent) opening layout script new taken taken' → IsTooMuch opening layout script
too_long opening layout script new taken taken' (inl none) = inl none.unread
too_long opening layout script new taken taken' (inr run) = absurd run.1.ended

fills : (opening : DatabaseState) (layout : DiskLayout) (script : List ℕ) (new : Told) (taken taken' : Option (List ℕ)) → IsThreadsOutput SCRIPT_LIMIT (Err (faults.Unanswered Full)) opening layout script new taken taken' → IsTooMuch opening layout script
fills opening layout script new taken taken' (inl none) = absurd none.unread
fills opening layout script new taken taken' (inr run) = inr (run.1.said, run.1.ended.1)

undamaged_run : (opening : DatabaseState) (layout : DiskLayout) (script : List ℕ) (new : Told) (taken taken' : Option (List ℕ)) → IsThreadsOutput SCRIPT_LIMIT (Err (faults.Unanswered Damaged)) opening layout script new taken taken' → ⊥
undamaged_run opening layout script new taken taken' (inl none) = none.unread
undamaged_run opening layout script new taken taken' (inr run) = run.1.ended

module _ (opening : DatabaseState) (layout : DiskLayout) (script : List ℕ) (new : Told) (taken taken' : Option (List ℕ)) where
  too_much : (end : RunEnd) → IsThreadsOutput SCRIPT_LIMIT end opening layout script new taken taken' → (end ≡ Err faults.Spent) ⊎ (end ≡ Err (faults.Unanswered Full)) → IsTooMuch opening layout script
  too_much end output (inl e) = too_long opening layout script new taken taken' (subst (λ (x : RunEnd). IsThreadsOutput SCRIPT_LIMIT x opening layout script new taken taken') e output)
  too_much end output (inr e) = fills opening layout script new taken taken' (subst (λ (x : RunEnd). IsThreadsOutput SCRIPT_LIMIT x opening layout script new taken taken') e output)

  spent_by : (status : ℕ) → HasWorkers status opening layout script new taken taken' → status ≡ 8 → IsTooMuch opening layout script
  spent_by status run eight = too_much run.end run.output (spent_end run.end (sym run.status_is ∙ eight))

  ends_done : (end : RunEnd) → IsThreadsOutput SCRIPT_LIMIT end opening layout script new taken taken' → exit_status end ≢ 4 → exit_status end ≢ 5 → exit_status end ≢ 6 → ¬ (IsTooMuch opening layout script)
      → (exit_status end ≡ 0) ⊎ (exit_status end ≡ 7)
  ends_done (Ok u) output read write disk_ fits = inl refl
  ends_done (Err faults.Read) output read write disk_ fits = absurd (read refl)
  ends_done (Err faults.Write) output read write disk_ fits = absurd (write refl)
  ends_done (Err faults.Spent) output read write disk_ fits = absurd (fits (too_long opening layout script new taken taken' output))
  ends_done (Err (faults.Unanswered Memory)) output read write disk_ fits = inr refl
  ends_done (Err (faults.Unanswered Full)) output read write disk_ fits = absurd (fits (fills opening layout script new taken taken' output))
  ends_done (Err (faults.Unanswered Disk)) output read write disk_ fits = absurd (disk_ refl)
  ends_done (Err (faults.Unanswered Damaged)) output read write disk_ fits = absurd (undamaged_run opening layout script new taken taken' output)

  complete_by : (status : ℕ) → HasWorkers status opening layout script new taken taken' → status ≢ 4 → status ≢ 5 → status ≢ 6 → ¬ (IsTooMuch opening layout script) → (status ≡ 0) ⊎ (status ≡ 7)
  complete_by status run read write disk_ fits =
      subst (λ (n : ℕ). (n ≡ 0) ⊎ (n ≡ 7)) (sym run.status_is)
      (ends_done run.end run.output (λ e. read (run.status_is ∙ e)) (λ e. write (run.status_is ∙ e)) (λ e. disk_ (run.status_is ∙ e)) fits)

  not_eight : (status : ℕ) → (status ≡ 6) ⊎ ((status ≡ 7) ⊎ (status ≡ 9)) → status ≢ 8
  not_eight status (inl six) e = omega (arith, six, e)
  not_eight status (inr (inl seven)) e = omega (arith, seven, e)
  not_eight status (inr (inr nine)) e = omega (arith, nine, e)

  -- 8 comes where the script is too much
  pub spent_for : (status : ℕ) (old : Told) (left left' : Option (List ℕ)) (task : Task) → IsThreaded task → IsWorkedFor task status old new left left' taken taken' opening layout script → status ≡ 8 → IsTooMuch opening layout script
  spent_for status old left left' (Threads made) is (inl un) eight = absurd (not_eight status un.why eight)
  spent_for status old left left' (Threads made) is (inr run) eight = spent_by status run.1 eight
  spent_for status old left left' ThreadsStored is (inl un) eight = absurd (not_eight status (why_unmade un.why) eight)
  spent_for status old left left' ThreadsStored is (inr run) eight = spent_by status run eight
  spent_for status old left left' (Init made) is worked eight = absurd is
  spent_for status old left left' (Run made) is worked eight = absurd is
  spent_for status old left left' RunStored is worked eight = absurd is
  spent_for status old left left' (Demo made seed rows) is worked eight = absurd is

  -- and where it isn't, all is done but for a fault or want of memory
  pub complete_for : (status : ℕ) (old : Told) (left left' : Option (List ℕ)) (task : Task) → IsGivenFor task old left opening layout script → IsWorkedFor task status old new left left' taken taken' opening layout script
      → status ≢ 4 → status ≢ 5 → status ≢ 6 → (status ≡ 9 → LacksStore task old) → IsCompleteFor task status old opening layout script
  complete_for status old left left' (Threads made) given worked read write disk_ lacks = λ fits short. elim worked [
    | inl un ↦ elim un.why [
      | inl six ↦ absurd (disk_ six)
      | inr (inl seven) ↦ inr seven
      | inr (inr nine) ↦ absurd (lacks nine given.tells fits)
    ]
    | inr run ↦ complete_by status run.1 read write disk_ short
  ]
  complete_for status old left left' ThreadsStored given worked read write disk_ lacks = λ short. elim worked [
    | inl un ↦ elim un.why [
      | inl six ↦ absurd (disk_ six)
      | inr seven ↦ inr seven
    ]
    | inr run ↦ complete_by status run read write disk_ short
  ]
  complete_for status old left left' (Init made) given worked read write disk_ lacks = tt
  complete_for status old left left' (Run made) given worked read write disk_ lacks = tt
  complete_for status old left left' RunStored given worked read write disk_ lacks = tt
  complete_for status old left left' (Demo made seed rows) given worked read write disk_ lacks = tt

  -- 9 doesn't come where a store was to be opened
  pub opened_for : (status : ℕ) (old : Told) (left left' : Option (List ℕ)) → IsWorkedFor ThreadsStored status old new left left' taken taken' opening layout script → status ≢ 9
  opened_for status old left left' (inl un) nine = elim un.why [
    | inl six ↦ omega (arith, six, nine)
    | inr seven ↦ omega (arith, seven, nine)
  ]
  opened_for status old left left' (inr run) nine = (no_other_end run.end status run.status_is).1 nine

  undamaged_by : (status : ℕ) → HasWorkers status opening layout script new taken taken' → status ≢ 11
  undamaged_by status run eleven =
      undamaged_run opening layout script new taken taken' (subst (λ (x : RunEnd). IsThreadsOutput SCRIPT_LIMIT x opening layout script new taken taken') (damaged_end run.end (sym run.status_is ∙ eleven)) run.output)

  not_eleven : (status : ℕ) → (status ≡ 6) ⊎ ((status ≡ 7) ⊎ (status ≡ 9)) → status ≢ 11
  not_eleven status (inl six) e = omega (arith, six, e)
  not_eleven status (inr (inl seven)) e = omega (arith, seven, e)
  not_eleven status (inr (inr nine)) e = omega (arith, nine, e)

  -- and 11 never
  pub undamaged_for : (status : ℕ) (old : Told) (left left' : Option (List ℕ)) (task : Task) → IsThreaded task → IsWorkedFor task status old new left left' taken taken' opening layout script → status ≢ 11
  undamaged_for status old left left' (Threads made) is (inl un) = not_eleven status un.why
  undamaged_for status old left left' (Threads made) is (inr run) = undamaged_by status run.1
  undamaged_for status old left left' ThreadsStored is (inl un) = not_eleven status (why_unmade un.why)
  undamaged_for status old left left' ThreadsStored is (inr run) = undamaged_by status run
  undamaged_for status old left left' (Init made) is worked = absurd is
  undamaged_for status old left left' (Run made) is worked = absurd is
  undamaged_for status old left left' RunStored is worked = absurd is
  undamaged_for status old left left' (Demo made seed rows) is worked = absurd is

-- ---- words

-- ---- a further run

module _ (opening : DatabaseState) (layout : DiskLayout) (script : List ℕ) (new : Told) (taken taken' : Option (List ℕ)) where
  -- each image has some table
  some_table : (status : ℕ) → HasWorkers status opening layout script new taken taken' → (image : List ℕ) → IsTrue (new.now image) → (table : TableState) × IsImageWith layout table image
  some_table status run image now = elim run.output [
    | inl none ↦ (opening.table, none.images image now)
    | inr ran ↦ elim (ran.1.images.1 image now) [
      | inl has ↦ (ran.1.s.table, has)
      | inr commits ↦ (table_committed ran.1.s ran.1.images.0, commits.1)
    ]
  ]

  module _ (one : HaveOneLayout) (map : (layout : DiskLayout) → OpenToOneMap layout) (laws : ObeysLaws new) (images : IsTrue new.tells_images) where
    holds_by : (status : ℕ) → HasWorkers status opening layout script new taken taken' → HoldsImage new
    holds_by status run = let has = some_table status run new.contents (laws.here images) in image_held one map new layout has.0 has.1

    -- a further run may be called where the workers have run
    pub holds_for : (status : ℕ) (old : Told) (left left' : Option (List ℕ)) (task : Task) → IsThreaded task → IsWorkedFor task status old new left left' taken taken' opening layout script → HasRun status → HoldsImage new
    holds_for status old left left' (Threads made) is (inl un) has = elim un.why [
      | inl six ↦ absurd ((run_only status has).0 six)
      | inr (inl seven) ↦ absurd ((run_only status has).1 seven)
      | inr (inr nine) ↦ absurd ((run_only status has).2 nine)
    ]
    holds_for status old left left' (Threads made) is (inr run) has = holds_by status run.1
    holds_for status old left left' ThreadsStored is (inl un) has = elim un.why [
      | inl six ↦ absurd ((run_only status has).0 six)
      | inr seven ↦ absurd ((run_only status has).1 seven)
    ]
    holds_for status old left left' ThreadsStored is (inr run) has = holds_by status run
    holds_for status old left left' (Init made) is worked has = absurd is
    holds_for status old left left' (Run made) is worked has = absurd is
    holds_for status old left left' RunStored is worked has = absurd is
    holds_for status old left left' (Demo made seed rows) is worked has = absurd is

pub worked_task : (status : ℕ) (old new : Told) (l l' k k' : Option (List ℕ)) (opening : DatabaseState) (layout : DiskLayout) (script : List ℕ) (task other : Task) → other ≡ task
    → IsWorkedFor task status old new l l' k k' opening layout script → IsWorkedFor other status old new l l' k k' opening layout script
worked_task status old new l l' k k' opening layout script task other same worked =
    subst (λ (t : Task). IsWorkedFor t status old new l l' k k' opening layout script) (sym same) worked

-- want of memory before anything is done
module _ (old : Told) (l k : Option (List ℕ)) (only : (image : List ℕ) → IsTrue (old.since old.moment image) → IsTrue (old.now image)) (opening : DatabaseState) (layout : DiskLayout) (script : List ℕ) where
  pub idle_worked : (task : Task) → IsWorkedFor task 7 old old l l k k opening layout script
  idle_worked (Threads made) = inl (record { why = inr (inl refl); idle = idle l k; any_moment = started old (IsOldOrEmpty made old) (λ image since. inl (inl (only image since))) })
  idle_worked ThreadsStored = inl (record { why = inr refl; idle = idle l k; any_moment = λ each. started old (IsImageWith layout opening.table) (λ image since. each image (only image since)) })
  idle_worked (Init made) = tt
  idle_worked (Run made) = tt
  idle_worked RunStored = tt
  idle_worked (Demo made seed rows) = tt

  pub idle_completed : (task : Task) → IsCompleteFor task 7 old opening layout script
  idle_completed (Threads made) = λ fits short. inr refl
  idle_completed ThreadsStored = λ short. inr refl
  idle_completed (Init made) = tt
  idle_completed (Run made) = tt
  idle_completed RunStored = tt
  idle_completed (Demo made seed rows) = tt

-- by what is answered, and the disk that comes back
module _ {D : Type 0} (told : D → Told) (task : Task) (old : Told) (status answered : ℕ) (disk back : D) (said : answered ≡ status) (same : back ≡ disk) where
  pub worked_as_answered : (l l' k k' : Option (List ℕ)) (opening : DatabaseState) (layout : DiskLayout) (script : List ℕ) → IsWorkedFor task status old (told disk) l l' k k' opening layout script
      → IsWorkedFor task answered old (told back) l l' k k' opening layout script
  worked_as_answered l l' k k' opening layout script worked =
      subst (λ (s : ℕ). IsWorkedFor task s old (told back) l l' k k' opening layout script) (sym said) (subst (λ (d : D). IsWorkedFor task status old (told d) l l' k k' opening layout script) (sym same) worked)

  pub done_as_answered : {l l' k k' : Option (List ℕ)} {r w : Type 0} → IsDoneSo task status old (told disk) l l' k k' r w → IsDoneSo task answered old (told back) l l' k k' r w
  done_as_answered {l} {l'} {k} {k'} {r} {w} done =
      subst (λ (s : ℕ). IsDoneSo task s old (told back) l l' k k' r w) (sym said) (subst (λ (d : D). IsDoneSo task status old (told d) l l' k k' r w) (sym same) done)
