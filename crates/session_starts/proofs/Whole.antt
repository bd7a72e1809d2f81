-- Which table each image has at the moments of a step, and once it is done.
use Rattle.std.proofs.Common.{◌≡◌, ◌⊎◌, inl, inr, ℕ, Bool, true, false, [], Option, None, Some, IsSome, Result, Ok, Err, refl, sym, ap, ◌∙◌, subst}
use Rattle.std.proofs.lemmas.Bool.{false≢true}
use Rattle.std.proofs.lemmas.Option.{same_Some}
use Rattle.block_model.specs.declared.reply.Reply.TheVariants as replies
use Rattle.block_model.specs.DatabaseState.{DatabaseState}
use Rattle.block_model.specs.RequestEffect.{after_request}
use Rattle.block_model.specs.TableState.{TableState}
use Rattle.store_layout.specs.declared.statement.Statement.TheVariants as statements
use Rattle.store_layout.specs.DiskLayout.{DiskLayout}
use Rattle.disk_trait.specs.Told.{Told}
use Rattle.page_map.specs.Keeps.{Leaves}
use Rattle.page_map.specs.PageMap.{PageMap}
use Rattle.recovery.specs.Opens.{OpensAs}
use Rattle.recovery.specs.Reaches.{OpensWith}
use Rattle.page_store.specs.Survives.{Survives, each_image_has, each_moment_has}
use Rattle.snapshot_core.specs.declared.statuses.Status.TheVariants.{Committed}
use Rattle.snapshot_core.specs.declared.sessions.Open.{Open}
use Rattle.snapshot_core.specs.StoredVersions.{transaction_of}
use Rattle.tx_table.specs.Durable.{HasPart, IsBefore, IsDurable}
use Rattle.transactions.specs.Sessions.{committed_by}
use Rattle.script_semantics.specs.Place.{Hand as HandAt, Place, database_at}
use Rattle.script_semantics.specs.StatementSteps.{Outcome, Steps}
use Rattle.transactions.specs.FoundLaws.{table_committed}
use Rattle.transactions.specs.StopLaws.{EachImage, EachStop}
use Rattle.transactions.specs.Passes.{PassesCommit, PassesNothing}
use Rattle.session_parts.specs.declared.faults.Step.{Step}
use Rattle.session_parts.specs.declared.faults.Step.TheVariants as steps
use Rattle.session_parts.specs.declared.faults.StoreFault.{StoreFault}
use Rattle.session_parts.specs.declared.faults.StoreFault.TheVariants as stops
use Rattle.session_parts.specs.declared.hand.Hand.{Hand}
use Rattle.session_parts.specs.declared.hand.Hand.TheVariants as hands
use Rattle.session_parts.specs.HandFits.{FitsHand, FitsStore}
use Rattle.session_parts.specs.Hands.{HandShows, statement_of}
use Rattle.session_parts.specs.ShowsPlace.{ShowsPlace}
use Rattle.session_parts.specs.StepIs.{StepIs}
use Rattle.session_parts.specs.StoreStates.{StoreState, hand_at, shown_of}
use Rattle.session_starts.specs.StoreImage.{IsStoreImage}
use Rattle.session_starts.specs.ImageLaws.{CommitIsImage, IsCommitting, ShownIsImage, StepLeavesTable}
use Rattle.session_starts.specs.StopRule.{AllHaveTable, HasTableOr, IsImageWith, StepStopsWhole, StopsWhole}
use Rattle.session_starts.specs.Stops.{IsSureBehind, StopsSo}
use Rattle.session_starts.proofs.Steps.{commit_of, commit_steps, ends_so}

some_open : (o : Option Open) → IsSome o → (x : Open) × (o ≡ Some x)
some_open None is = absurd (false≢true is)
some_open (Some x) is = (x, refl)

abbrev is_done : Result Step StoreFault → Bool
is_done (Ok (steps.Done replies.Committed)) = true
is_done answer = false

module _ {D : Type 0} (told : D → Told) where
  -- a statement that isn't a commit passes nothing
  passes_or_commits : (old new : StoreState D) (n : ℕ) (hand : Hand) (answer : Result Step StoreFault) → StopsSo told old.transactions n old.pages new.pages hand answer
      → ((ends_so (statement_of hand) ≡ false) × PassesNothing told old.pages new.pages)
      ⊎ ((hand ≡ hands.Commits) × PassesCommit told old.transactions n old.pages new.pages × IsSureBehind told old.pages new.pages answer)
  passes_or_commits old new n hands.Commits answer stops = inr (refl, stops.0, stops.1)
  passes_or_commits old new n hand answer stops = inl (refl, stops)

  -- ---- what the session has in hand at the place

  shown_hand : (old : StoreState D) (p : Place) (n : ℕ) (hand : Hand) → ShowsPlace old p → hand_at old n ≡ Some hand → HandShows (Some hand) (p.hands n) (p.accounts n)
  shown_hand old p n hand shows at = subst (λ (h : Option Hand). HandShows h (p.hands n) (p.accounts n)) at (shows.hands n)

  not_committing : (old : StoreState D) (p : Place) (n : ℕ) (hand : Hand) → ShowsPlace old p → hand_at old n ≡ Some hand → ends_so (statement_of hand) ≡ false → IsCommitting p n → ⊥
  not_committing old p n hand shows at other c =
      let there = shown_hand old p n hand shows at in
      let same : there.0 ≡ c.hand = same_Some _ _ (sym there.1 ∙ c.in_hand) in
      false≢true (sym other ∙ ap ends_so (sym there.2) ∙ ap (λ (h : HandAt). ends_so h.statement) same ∙ ap ends_so c.is)

  module _ (shown : ShownIsImage) (old new : StoreState D) (p : Place) (shows : ShowsPlace old p) where
    -- pages with the table of the place
    abbrev HasTable : PageMap → Type 0
    HasTable pages = IsStoreImage p.layout pages (database_at p).table

    table_now : HasTable old.pages.pages
    table_now = subst (λ (l : DiskLayout). IsStoreImage l old.pages.pages (database_at p).table) (sym shows.layout) (shown (shown_of old) p shows)

    -- calls that pass only pages with P, from images that open to such ones
    each_stop : (Passed P : PageMap → Type 0) → EachImage told old.pages (OpensWith p.layout P) → Survives told Passed old.pages new.pages → ((pages : PageMap) → Passed pages → P pages)
        → EachStop told old.pages new.pages (OpensWith p.layout P)
    each_stop Passed P each survives has = subst (λ (l : DiskLayout). EachStop told old.pages new.pages (OpensWith l P)) (sym shows.layout) (record {
      moments = each_moment_has told Passed old.pages new.pages survives P here (λ tells pages passed. has pages passed);
      images = each_image_has told Passed old.pages new.pages survives P here (λ tells pages passed. has pages passed);
    })
      where
        here : EachImage told old.pages (OpensWith old.pages.layout P)
        here = subst (λ (l : DiskLayout). EachImage told old.pages (OpensWith l P)) shows.layout each

    -- where nothing is passed each image keeps the table
    nothing_passed : AllHaveTable told old.pages p → PassesNothing told old.pages new.pages → EachStop told old.pages new.pages (OpensWith p.layout HasTable)
    nothing_passed each passes = each_stop (IsBefore old.pages) HasTable each passes (λ pages same. subst HasTable (sym same) table_now)

    as_either : (n : ℕ) → AllHaveTable told old.pages p → EachImage told old.pages (OpensWith p.layout (HasTableOr p n))
    as_either n each image now = let opens = each image now in (opens.0, opens.1, inl opens.2)

    either_by_nothing : (n : ℕ) → AllHaveTable told old.pages p → PassesNothing told old.pages new.pages → EachStop told old.pages new.pages (OpensWith p.layout (HasTableOr p n))
    either_by_nothing n each passes = each_stop (IsBefore old.pages) (HasTableOr p n) (as_either n each) passes (λ pages same. inl (subst HasTable (sym same) table_now))

    -- ---- once the step is done

    module _ (leaves : Leaves told old.pages new.pages) (q : Place) (then : ShowsPlace new q) where
      same_layout : q.layout ≡ p.layout
      same_layout = then.layout ∙ leaves.layout ∙ sym shows.layout

      -- an image with the table of one place has that of the other
      image_then : (pages : PageMap) (table : TableState) → table ≡ (database_at q).table → IsStoreImage p.layout pages table → IsStoreImage q.layout pages (database_at q).table
      image_then pages table same image =
          subst (λ (l : DiskLayout). IsStoreImage l pages (database_at q).table) (sym same_layout) (subst (IsStoreImage p.layout pages) same image)

      all_then : (P : PageMap → Type 0) → EachImage told new.pages (OpensWith p.layout P) → ((pages : PageMap) → P pages → IsStoreImage q.layout pages (database_at q).table) → AllHaveTable told new.pages q
      all_then P each has image now =
          let opens = each image now in
          (opens.0, subst (λ (l : DiskLayout). OpensAs l image opens.0) (sym same_layout) opens.1, has opens.0 opens.2)

      -- what is sure has the table of the place that is shown then
      sure_then : IsDurable told new.pages → AllHaveTable told new.pages q
      sure_then sure image now =
          subst (λ (l : DiskLayout). IsImageWith l (database_at q).table image) (sym then.layout) (new.pages.pages, sure image now, shown (shown_of new) q then)

      -- where no commit is in hand, there is one table alone
      other_then : StepLeavesTable → (n : ℕ) (answer : Result Step StoreFault) → (IsCommitting p n → ⊥) → StepIs p n answer q
          → EachImage told new.pages (OpensWith p.layout (HasTableOr p n)) → AllHaveTable told new.pages q
      other_then kept n answer none step each = all_then (HasTableOr p n) each (λ pages either. elim either [
        | inl image ↦ image_then pages (database_at p).table (sym (kept p q n answer step (λ c done. none c))) image
        | inr committed ↦ absurd (none committed.0)
      ])

      -- behind a commit that isn't answered as done, its table is that of the place too
      undone_then : StepLeavesTable → (n : ℕ) (answer : Result Step StoreFault) → (answer ≡ Ok (steps.Done replies.Committed) → ⊥) → StepIs p n answer q
          → database_at q ≡ after_request (database_at p) (commit_of n) → EachImage told new.pages (OpensWith p.layout (HasTableOr p n)) → AllHaveTable told new.pages q
      undone_then kept n answer undone step led each = all_then (HasTableOr p n) each (λ pages either. elim either [
        | inl image ↦ image_then pages (database_at p).table (sym (kept p q n answer step (λ c done. undone done))) image
        | inr committed ↦ image_then pages (table_committed (database_at p) n) (sym (ap (λ (s : DatabaseState). s.table) led)) committed.1
      ])

  -- ---- a commit in hand

  module _ (shown : ShownIsImage) (part : CommitIsImage) (kept : StepLeavesTable) (old new : StoreState D) (p : Place) (n : ℕ) (shows : ShowsPlace old p) (at : hand_at old n ≡ Some hands.Commits)
      (each : AllHaveTable told old.pages p) where
    its_hand : HandShows (Some hands.Commits) (p.hands n) (p.accounts n)
    its_hand = shown_hand old p n hands.Commits shows at

    committing : IsCommitting p n
    committing = record { hand = its_hand.0; in_hand = its_hand.1; is = its_hand.2; new = its_hand.3 }

    its_open : FitsStore told old n → (o : Open) × (transaction_of old.transactions.opens n ≡ Some o)
    its_open fits = some_open (transaction_of old.transactions.opens n) (subst (FitsHand old.pages.layout (transaction_of old.transactions.opens n)) at fits.hand)

    -- pages that it passes have one table or the other
    passed_has : (o : Open) → transaction_of old.transactions.opens n ≡ Some o → FitsStore told old n → (pages : PageMap)
        → HasPart old.pages.layout old.pages.pages (committed_by o) Committed pages → HasTableOr p n pages
    passed_has o is fits pages passed = elim here [
      | inl image ↦ inl image
      | inr committed ↦ inr (committing, committed.1)
    ]
      where
        here : IsStoreImage p.layout pages (database_at p).table ⊎ ((o.failed ≡ false) × IsStoreImage p.layout pages (table_committed (database_at p) n))
        here = subst (λ (l : DiskLayout). IsStoreImage l pages (database_at p).table ⊎ ((o.failed ≡ false) × IsStoreImage l pages (table_committed (database_at p) n))) (sym shows.layout)
            (part (shown_of old) p n o pages shows at is fits.over.within passed)

    commit_stops : FitsStore told old n → PassesCommit told old.transactions n old.pages new.pages → EachStop told old.pages new.pages (OpensWith p.layout (HasTableOr p n))
    commit_stops fits passes =
        let own = its_open fits in
        each_stop shown old new p shows (HasPart old.pages.layout old.pages.pages (committed_by own.0) Committed) (HasTableOr p n) (as_either shown old new p shows n each) (passes own.0 own.1)
        (λ pages passed. passed_has own.0 own.1 fits pages passed)

    -- a step of it made its request
    commit_led : (outcome : Outcome) (q : Place) → Steps p n outcome q → database_at q ≡ after_request (database_at p) (commit_of n)
    commit_led outcome q s =
        let same : its_hand.0 ≡ s.hand = same_Some _ _ (sym its_hand.1 ∙ s.in_hand) in
        commit_steps p n s.hand outcome q (subst (λ (h : HandAt). h.statement ≡ statements.Commit) same its_hand.2) (subst (λ (h : HandAt). h.answers ≡ []) same its_hand.3) s.steps

    step_led : (step : Step) (q : Place) → StepIs p n (Ok step) q → database_at q ≡ after_request (database_at p) (commit_of n)
    step_led (steps.Moved point) q s = commit_led _ q s
    step_led (steps.Done reply) q s = commit_led _ q s
    step_led (steps.Blocked what by) q s = commit_led _ q s

    module _ (leaves : Leaves told old.pages new.pages) (q : Place) (then : ShowsPlace new q) (now : EachImage told new.pages (OpensWith p.layout (HasTableOr p n))) where
      commit_then : (answer : Result Step StoreFault) → IsSureBehind told old.pages new.pages answer → StepIs p n answer q → AllHaveTable told new.pages q
      commit_then (Ok (steps.Done replies.Committed)) sure step = sure_then shown old new p shows leaves q then sure
      commit_then (Ok step) sure is = undone_then shown old new p shows leaves q then kept n (Ok step) (λ same. false≢true (ap is_done same)) is (step_led step q is) now
      commit_then (Err (stops.Spent entries)) passes is = subst (AllHaveTable told new.pages) (sym is.2) (nothing_passed shown old new p shows each passes).images
      commit_then (Err stops.Disk) sure is = absurd is
      commit_then (Err (stops.Reopen faults)) sure is = absurd is
      commit_then (Err (stops.Damaged place)) sure is = absurd is

  -- ---- each step

  module _ (shown : ShownIsImage) (part : CommitIsImage) (kept : StepLeavesTable) (old new : StoreState D) (p : Place) (n : ℕ) (answer : Result Step StoreFault)
      (shows : ShowsPlace old p) (leaves : Leaves told old.pages new.pages) (each : AllHaveTable told old.pages p) where
    other_stops_whole : (hand : Hand) → hand_at old n ≡ Some hand → ends_so (statement_of hand) ≡ false → PassesNothing told old.pages new.pages → StopsWhole told old new p n answer
    other_stops_whole hand at other passes =
        let stops = either_by_nothing shown old new p shows n each passes in
        record {
          stops = stops;
          behind = λ whole q then step. other_then shown old new p shows leaves q then kept n answer (not_committing old p n hand shows at other) step stops.images;
        }

    commit_stops_whole : hand_at old n ≡ Some hands.Commits → FitsStore told old n → PassesCommit told old.transactions n old.pages new.pages → IsSureBehind told old.pages new.pages answer
        → StopsWhole told old new p n answer
    commit_stops_whole at fits passes sure =
        let stops = commit_stops shown part kept old new p n shows at each fits passes in
        record { stops = stops; behind = λ whole q then step. commit_then shown part kept old new p n shows at each leaves q then stops.images answer sure step }

  pub step_stops_whole : ShownIsImage → CommitIsImage → StepLeavesTable → StepStopsWhole told
  step_stops_whole shown part kept old new p n hand answer shows at fits leaves stops each = elim (passes_or_commits old new n hand answer stops) [
    | inl other ↦ other_stops_whole shown part kept old new p n answer shows leaves each hand at other.0 other.1
    | inr commits ↦ commit_stops_whole shown part kept old new p n answer shows leaves each (at ∙ ap (λ (h : Hand). Some h) commits.0) fits commits.1 commits.2
  ]
