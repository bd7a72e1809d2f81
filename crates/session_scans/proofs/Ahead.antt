-- a step of which the look ahead says that another one is left isn't the last one
use Rattle.std.proofs.Common.{◌≡◌, ◌≢◌, inl, inr, ℕ, ◌*◌, ◌<◌, false, refl, sym, ap, subst, ◌∙◌, arith}
use Rattle.std.proofs.lemmas.Bool.{false≢true}
use Rattle.block_model.specs.declared.reply.Point.{Point}
use Rattle.page_locks.specs.declared.did.Did.TheVariants as did
use Rattle.snapshot_core.specs.declared.sessions.Open.{Open}
use Rattle.coverage.specs.Accounts.{Account}
use Rattle.coverage.specs.Machines.{ShownTable, Unseen, table_state, task_turned}
use Rattle.coverage.specs.Table.{Resting, Scans, TableScan, TableState, Task}
use Rattle.coverage.specs.TableSteps.{IsScanRead, Onward, ScanBegins, ScanHasStep, Scanned, Stays}
use Rattle.coverage.proofs.Onward.{onward_once}
use Rattle.coverage.proofs.ScanComes.{ScanBegan, ScanComes, ScanJudged, ScanRead, ScanStayed, scan_comes}
use Rattle.coverage.proofs.TableOnePoint.{table_one_next}
use Rattle.coverage.proofs.Views.{pick_same}
use Rattle.bitmap_scan.specs.declared.stage.Stage.{Stage}
use Rattle.bitmap_scan.specs.declared.stage.Stage.TheVariants as stages
use Rattle.bitmap_scan.specs.Finds.{FindHand, scanning}
use Rattle.bitmap_scan.specs.LooksAhead.{NextIs}
use Rattle.bitmap_scan.specs.ScanSteps.{ScanGoes}
use Rattle.bitmap_scan.specs.TableScans.{Beside, BeginsAt, task_of}
use Rattle.script_semantics.specs.Place.{Place}
use Rattle.session_parts.specs.ShowsPlace.{IsPlaceOf}
use Rattle.session_parts.specs.StoreStates.{ShownStore}
use Rattle.session_scans.specs.declared.looking.Looking.{Looking}
use Rattle.session_scans.specs.LookLaws.{LookLaws}
use Rattle.session_scans.specs.Looks.{deletes_of}
use Rattle.session_scans.proofs.GoesOn.{begun_task}
use Rattle.session_scans.proofs.Stepped.{MakesStep, sees_there}
use Rattle.session_scans.proofs.Refusals.{begun_or_not}
use Rattle.session_scans.proofs.Standing.{LooksThere, ScansAt, pages_show, rests_first, scans_at, shows, sight, w}

-- a scan that has begun needs nothing more
begins_later : (stage : Stage) (shown : ShownTable) (u : Unseen) (beside : Beside) → stage ≢ stages.Extent → BeginsAt stage shown u beside
begins_later stages.Extent shown u beside begun = absurd (begun refl)
begins_later stage shown u beside begun = tt

scans_rest : {scan : TableScan} → Scans scan ≡ Resting → ⊥
scans_rest is = cc

-- a scan whose session was at nothing has begun
has_begun : (s : ℕ) (w v : TableState) (scan : TableScan) → ScanComes s w v scan → w.task s ≡ Resting → ScanBegins w scan
has_begun s w v _ (ScanBegan scan begins only) rests = begins
has_begun s w v _ (ScanJudged old new was inside step only) rests = absurd (scans_rest (sym was ∙ rests))
has_begun s w v _ (ScanRead scan next found was reads only) rests = absurd (scans_rest (sym was ∙ rests))
has_begun s w v _ (ScanStayed scan was only) rests = absurd (scans_rest (sym was ∙ rests))

-- ---- from where it is, once it has begun

-- one task comes of it, and one next step: it has one, or none
module _ (n : ℕ) (shown : ShownTable) (u : Unseen) (busy : u.task n ≢ Resting) (account more : Account → Account) (point other : Point) (one two : TableScan)
    (goes : ScanGoes n shown u point account one) (ends : ScanGoes n shown u other more two) where
  same_done : Scans goes.done ≡ Scans ends.done
  same_done = sym (pick_same n (Scans goes.done) (u.task n))
      ∙ (table_one_next n (table_state shown u) (table_state shown (task_turned n (Scans goes.done) u)) (table_state shown (task_turned n (Scans ends.done) u)) point other busy
      goes.does.does ends.does.does goes.does.point_is ends.does.point_is).1
      ∙ pick_same n (Scans ends.done) (u.task n)

  not_both : ScanHasStep (table_state shown u) one → IsScanRead (table_state shown u) two → two.deletes ≡ false → ⊥
  not_both left read selects =
      let v : TableState = table_state shown (task_turned n (Scans goes.done) u) in
      let to_step : Onward v (Scans goes.done) (Scans one) = goes.onward (Scans one) (Stays (Scans one) left) in
      let to_end : Onward v (Scans goes.done) Resting =
      subst (λ (t : Task). Onward (table_state shown (task_turned n t u)) t Resting) (sym same_done) (ends.onward Resting (Scanned two read (inr (inl selects)))) in
      scans_rest (onward_once v (Scans goes.done) (Scans one) Resting to_step to_end)

-- ---- with its first step

module _ (n : ℕ) (shown : ShownTable) (u : Unseen) (rests : u.task n ≡ Resting) (point : Point) (one : TableScan) (account : Account → Account) (goes : ScanGoes n shown u point account one) where
  abbrev here : TableState
  here = table_state shown u

  begun : ScanBegins here goes.done
  begun = has_begun n here (table_state shown (task_turned n (Scans goes.done) u)) goes.done
      (scan_comes n here (table_state shown (task_turned n (Scans goes.done) u)) goes.does.does goes.done (pick_same n (Scans goes.done) (u.task n))) rests

  -- where there is a block the scan has to read one
  no_block : IsScanRead here one → one.explains ≡ false → 0 < here.blocks → ⊥
  no_block read reads some = elim read.1 [
    | inl explains ↦ false≢true (sym reads ∙ explains)
    | inr all ↦
        let below : 0 < one.read = all 0 (ap (λ (x : TableScan). x.candidate 0) goes.same ∙ (begun.candidate 0).1 some) in
        let unread : one.read ≡ 0 = ap (λ (x : TableScan). x.read) goes.same ∙ begun.read in
        absurd (omega (arith, below, unread))
  ]

  -- and where a step is left there is one
  some_block : ScanHasStep here one → 0 < here.blocks
  some_block left = elim left [
    | inl range ↦
        let extent : one.extent ≡ here.blocks = ap (λ (x : TableScan). x.extent) ends_extent ∙ begun.extent in
        let inside : one.range * (here.index one.at).pages_per_range < one.extent = range.1 in
        omega (arith, inside, extent)
    | inr block ↦
        let below : block.2.0 < here.blocks = (begun.candidate block.2.0).0 (sym (ap (λ (x : TableScan). x.candidate block.2.0) goes.same) ∙ block.2.1) in
        omega (arith, below)
  ]
    where
      ends_extent : one ≡ record goes.done { at = one.at; range = one.range }
      ends_extent = goes.same

not_both_first : (n : ℕ) (shown : ShownTable) (u : Unseen) → u.task n ≡ Resting → (account more : Account → Account) (point other : Point) (one two : TableScan) → ScanGoes n shown u point account one
    → ScanGoes n shown u other more two → ScanHasStep (table_state shown u) one → IsScanRead (table_state shown u) two → two.explains ≡ false → ⊥
not_both_first n shown u rests account more point other one two goes ends left read reads =
    no_block n shown u rests other two more ends read reads (some_block n shown u rests point one account goes left)

-- ---- so it is of the session's scan

module _ (laws : LookLaws) (old : ShownStore) (n : ℕ) (looking : Looking) (before after : FindHand) (o : Open) (there : LooksThere old n looking before o) (p : Place) (shown : IsPlaceOf old p)
    (ahead : NextIs old.layout old.pages before did.Moved) (point : Point) (steps : MakesStep laws old n looking before after o there p shown (did.Finished point)) where
  abbrev at : ScansAt old.layout (pages_show laws old n looking before o there p shown) (shows laws old n looking before o there p shown).unseen n (shows laws old n looking before o there p shown).blocks
      (sight laws old n looking before o there p shown) (deletes_of looking) before
  at = scans_at laws old n looking before o there p shown

  abbrev next : (new : FindHand) × (point : Point) × MakesStep laws old n looking before new o there p shown (did.Moved point)
  next = ahead (sight laws old n looking before o there p shown)

  module _ (begun : before.judging.stage ≢ stages.Extent) where
    abbrev beside : Beside
    beside = scanning at.sees at.judged false before

    abbrev task : Task
    task = task_of old.layout before.judging.stage before.judging beside

    -- whether it deletes doesn't matter to that
    abbrev u : Unseen
    u = task_turned n task (shows laws old n looking before o there p shown).unseen

    busy : u.task n ≢ Resting
    busy rests = scans_rest (sym (pick_same n task ((shows laws old n looking before o there p shown).unseen.task n) ∙ begun_task old.layout before.judging.stage before.judging beside begun) ∙ rests)

    later_apart : ⊥
    later_apart =
        let seen = sees_there (sight laws old n looking before o there p shown) (shows laws old n looking before o there p shown).blocks at.sees before.next at.now in
        let fine = begins_later before.judging.stage (pages_show laws old n looking before o there p shown) u beside begun in
        let is = pick_same n task ((shows laws old n looking before o there p shown).unseen.task n) in
        let one = next.2 n old.locks (shows laws old n looking before o there p shown).blocks at.sees at.judged false u (shows laws old n looking before o there p shown).has is fine seen in
        let two = steps n old.locks (shows laws old n looking before o there p shown).blocks at.sees at.judged false u (shows laws old n looking before o there p shown).has is fine seen in
        not_both n (pages_show laws old n looking before o there p shown) u busy _ _ next.1 point _ _ one.1.0 two.1.0 one.1.1 two.1.1 refl

  module _ (first : before.judging.stage ≡ stages.Extent) where
    first_apart : ⊥
    first_apart =
        let u = (shows laws old n looking before o there p shown).unseen in
        let seen = sees_there (sight laws old n looking before o there p shown) (shows laws old n looking before o there p shown).blocks at.sees before.next at.now in
        let one = next.2 n old.locks (shows laws old n looking before o there p shown).blocks at.sees at.judged (deletes_of looking) u (shows laws old n looking before o there p shown).has at.is at.begins seen in
        let two = steps n old.locks (shows laws old n looking before o there p shown).blocks at.sees at.judged (deletes_of looking) u (shows laws old n looking before o there p shown).has at.is at.begins seen in
        not_both_first n (pages_show laws old n looking before o there p shown) u (rests_first laws old n looking before o there p shown first) _ _ next.1 point _ _ one.1.0 two.1.0 one.1.1 two.1.1 refl

  pub not_the_last : ⊥
  not_the_last = elim (begun_or_not before.judging.stage) [
    | inl first ↦ first_apart first
    | inr begun ↦ later_apart begun
  ]
