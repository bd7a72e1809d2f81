-- Every step of every statement keeps what the index rests on.
use Rattle.std.proofs.Common.{◌≡◌, ◌≢◌, ◌⊎◌, inl, inr, ⊎_elim, ℕ, ◌/◌, ◌≤◌, ◌<◌, Option, Some, None, Bool, false, sym, ◌∙◌, ap, subst, arith}
use Rattle.std.specs.Prelude.{refl, IsTrue, ◌↔◌, List}
use Rattle.std.proofs.lemmas.Option.{same_Some, none-some}
use Rattle.std.proofs.lemmas.Bool.{cases_eq, false≢true}
use Rattle.std.proofs.Math.Nat.{le_refl, le_trans}
use Rattle.block_model.specs.declared.row.Row.{Row}
use Rattle.block_model.specs.declared.place.Spot.{Spot}
use Rattle.coverage.specs.IndexView.{Pages, IndexView, range_of_block}
use Rattle.coverage.specs.IsSettled.{IsAccounted, TupleShows}
use Rattle.coverage.specs.GoesOn.{IsHeld, GoesOn}
use Rattle.coverage.specs.Changes.{TouchesNothing, Frame, SameHeap, PutsRow, Prunes, Takes, Ends}
use Rattle.coverage.specs.Statements.{OnIndex, Empty, Phase, NotBuilding, Scan, Statement, Idle, Inserting, Maintaining, Holding, Scanning, loose_in, loose_of}
use Rattle.coverage.specs.Statements.{building_of}
use Rattle.coverage.specs.Knowing.{KnowsRow, Knows, Spares}
use Rattle.coverage.specs.PageOrder.{KnowsPages}
use Rattle.coverage.specs.IsCovered.{IndexState, index_view, IsIndexKept}
use Rattle.coverage.specs.Steps.{ReadsIndex, RowsDropped, IsUnnamed, InsertStep, InsertOnIndex, InsertNoEntry, InsertCopies, InsertUnchanged, InsertSwap}
use Rattle.coverage.specs.Steps.{InsertSet, InsertDrop, GrowthStep, Grow, CountLeftOver, Count, Flag, EvacuatePut, EvacuateSet, EvacuateDrop, EvacuateSweep}
use Rattle.coverage.specs.Steps.{Turn, SummariseStep, LookMap, LookGone, IsFinal, Found, ReadNoEntry, GrowMap, Put, Set, Extent, Pass, Unite, UniteCopies}
use Rattle.coverage.specs.Steps.{SwapFinal, SetFinal, DropOld, DesummariseStep, ClearMap, ClearNone, Clear, ClearAgain, DropCleared, MaintainStep, Summarises}
use Rattle.coverage.specs.Steps.{Desummarises, ScanStep, ScanMap, ScanNoEntry, ScanGone, ScanKeeps, ScanDrops, ScanElsewhere, ScanPage, Turned, SameCounts}
use Rattle.coverage.specs.Steps.{RowPut, SummariseLockPasses, ScanBegins, Rests, Step, PutRow, Insert, Refused, TakeSummariseLock, BeginRange, Maintain, Prune}
use Rattle.coverage.specs.Steps.{Sweep, GiveSummariseLock, Abandon, BeginScan, Scans, EndScan, Elsewhere, Counts, Run, Done, Next}
use Rattle.coverage.proofs.Sound.{puts_row_sound, prunes_sound, takes_sound, ends_sound}
use Rattle.coverage.proofs.OthersGoOn.{puts_row_go_on, prunes_go_on, takes_go_on, ends_go_on}
use Rattle.coverage.proofs.Stable.{knows_on}
use Rattle.coverage.proofs.OnIndexSteps.{never, Both, loose_same, building_same, locks_by, nothing_loose, looks_both}
use Rattle.coverage.proofs.InsertSteps.{KeepsHeapAndLock, on_index_keeps, Outcome, SettledOrOn, insert_outcome}
use Rattle.coverage.proofs.MaintainSteps.{sweep_both, maintain_left}
use Rattle.coverage.proofs.PagesGoOn.{Quiet, PagesAfter, not_less, same_blocks, quiet_same, still_after, pages_on}
use Rattle.coverage.proofs.PagesKept.{sweep_after, insert_after, maintain_after}
use Rattle.coverage.proofs.PagesOrdered.{for_tuples, IsNoMap}
use Rattle.coverage.proofs.Numbers.{lt_or_ge}
use Rattle.coverage.proofs.FullApart.{ended_loose, full_loose}

pub insert_keeps : (s b k : ℕ) (r : Row) (w v : IndexView) (h : OnIndex) (e : Statement) → InsertStep s b k r w v h e → KeepsHeapAndLock w v
insert_keeps s b k r w v h e step = grind (arith, on_index_keeps)

growth_keeps : (s range : ℕ) (w v : IndexView) (old new : Phase) → GrowthStep s range w v old new → KeepsHeapAndLock w v
growth_keeps s range w v old new step = grind arith

pub summarise_keeps : (s range : ℕ) (w v : IndexView) (old : Phase) (new : Statement) → SummariseStep s range w v old new → KeepsHeapAndLock w v
summarise_keeps s range w v old new step = grind (arith, growth_keeps, on_index_keeps)

pub desummarise_keeps : (s range : ℕ) (w v : IndexView) (old : Phase) (new : Statement) → DesummariseStep s range w v old new → KeepsHeapAndLock w v
desummarise_keeps s range w v old new step = grind arith

pub maintain_keeps : (s range : ℕ) (w v : IndexView) (old : Phase) (new : Statement) → MaintainStep s range w v old new → KeepsHeapAndLock w v
maintain_keeps s range w v old new step = grind (arith, summarise_keeps, desummarise_keeps)

spares_never : (d : Statement) → Spares never d
spares_never (Inserting b k r on_index) = λ dead. false≢true dead
spares_never (Scanning scan) = λ b k sees dead. false≢true dead
spares_never _ = tt

module _ (s : ℕ) (dropped : ℕ → ℕ → Bool) (w v : IndexState) (old new : Statement) (kept : IsIndexKept w) (turned : Turned s w v old new)
    (out : Outcome s dropped w v old new) (after : PagesAfter s (index_view w) (index_view v) new)
    (spares : (n : ℕ) → n ≢ s → Spares dropped (w.statement n))
    (rows : (b k : ℕ) (r : Row) → v.row b k ≡ Some r → (w.row b k ≡ Some r) ⊎ (new ≡ Inserting b k r Empty))
    (counts : (t : ℕ) → IsTrue (v.counts t) → IsTrue (w.counts t)) where
  abbrev RowKept : ℕ → ℕ → Row → Type 0
  RowKept b k r = IsAccounted (index_view v) b r ⊎ ((n : ℕ) × (on_index : OnIndex) × (v.statement n ≡ Inserting b k r on_index))

  own_row : (b k : ℕ) (r : Row) (on_index : OnIndex) → IsTrue (v.counts r.id.t) → w.statement s ≡ Inserting b k r on_index → RowKept b k r
  own_row b k r on_index counted is = ⊎_elim
      (λ (a : IsAccounted (index_view v) b r). inl a)
      (λ (g : (h : OnIndex) × (new ≡ Inserting b k r h)). inr (s, g.0, turned.now ∙ g.1))
      (subst (λ d. SettledOrOn (index_view v) v.counts d new) (sym turned.was ∙ is) out.done counted)

  running_row : (b k : ℕ) (r : Row) (n : ℕ) (on_index : OnIndex) → IsTrue (v.counts r.id.t) → w.statement n ≡ Inserting b k r on_index → RowKept b k r
  running_row b k r n on_index counted is = ⊎_elim
      (λ (at : n ≡ s). own_row b k r on_index counted (ap w.statement (sym at) ∙ is))
      (λ (same : v.statement n ≡ w.statement n). inr (n, on_index, same ∙ is))
      (turned.others n)

  row_after : (b k : ℕ) (r : Row) → w.row b k ≡ Some r → IsTrue (v.counts r.id.t) → RowKept b k r
  row_after b k r was counted = ⊎_elim
      (λ (a : IsAccounted (index_view w) b r). inl (out.on.settled b k r was a))
      (λ (i : (n : ℕ) × (on_index : OnIndex) × (w.statement n ≡ Inserting b k r on_index)). running_row b k r i.0 i.1 counted i.2)
      (kept.rows b k r was (counts r.id.t counted))

  knows_after : (n : ℕ) → Knows (index_view v) n (v.statement n)
  knows_after n = ⊎_elim
      (λ (is : n ≡ s). subst (λ m. Knows (index_view v) m (v.statement m)) (sym is) (subst (λ d. Knows (index_view v) s d) (sym turned.now) out.knows))
      (λ (other : n ≢ s). ⊎_elim
      (λ (is : n ≡ s). absurd (other is))
      (λ (same : v.statement n ≡ w.statement n).
      subst (λ d. Knows (index_view v) n d) (sym same)
      (knows_on s dropped (index_view w) (index_view v) kept.sound out.on n other (w.statement n) (spares n other) (kept.knows n)))
      (turned.others n))
      (cases_eq n s)

  pages_after : (n : ℕ) → KnowsPages (index_view v) n (v.statement n)
  pages_after n = ⊎_elim
      (λ (is : n ≡ s). subst (λ m. KnowsPages (index_view v) m (v.statement m)) (sym is)
      (subst (λ d. KnowsPages (index_view v) s d) (sym turned.now) after.knows))
      (λ (other : n ≢ s). ⊎_elim
      (λ (is : n ≡ s). absurd (other is))
      (λ (same : v.statement n ≡ w.statement n).
      subst (λ d. KnowsPages (index_view v) n d) (sym same)
      (pages_on s dropped (index_view w) (index_view v) kept.sound out.on after.on n other (w.statement n) (kept.knows n) (kept.knows_pages n)))
      (turned.others n))
      (cases_eq n s)

  kept_after : IsIndexKept v
  kept_after = record {
    sound = out.sound;
    ordered = after.ordered;
    knows = knows_after;
    knows_pages = pages_after;
    rows = λ b k r there counted. elim (rows b k r there) [ inl was ↦ row_after b k r was counted | inr fresh ↦ inr (s, Empty, turned.now ∙ fresh) ];
  }

-- where the entry of a settled row's range names a place, a final tuple there includes the row
settled_shows : (w : IndexView) (b : ℕ) (r : Row) (x : Spot) → w.entry (range_of_block w b) ≡ Some x → IsAccounted w b r → TupleShows w x b r
settled_shows w b r x named settled t here of final = elim (settled x t named here) [ inl has ↦ has | inr waits ↦ absurd (false≢true (sym final ∙ waits.0)) ]

module _ (w : IndexView) (b k : ℕ) (r : Row) where
  scan_row : (old new : Scan) → ScanStep w old new → IsTrue (old.sees b k) → KnowsRow w old b k r → KnowsRow w new b k r
  scan_row old _ (ScanMap range x empty named) sees known = record {
    there = known.there;
    settled = known.settled;
    shown = λ y held.
        let both : (range, x) ≡ (range_of_block w b, y) = same_Some _ _ held in
        settled_shows w b r y
        (ap w.entry (sym (ap (λ (q : ℕ × Spot). q.0) both)) ∙ named ∙ ap Some (ap (λ (q : ℕ × Spot). q.1) both)) known.settled;
    kept = known.kept;
  }
  scan_row old _ (ScanNoEntry range empty none) sees known = known
  scan_row old _ (ScanDrops range x t candidate held stands keeps excludes others) sees known = record {
    there = known.there;
    settled = known.settled;
    shown = λ y none. absurd (none-some _ none);
    kept = λ matches. ⊎_elim
        (λ (found : IsTrue (old.found b k)). inl found)
        (λ (left : IsTrue (old.candidate b) × (old.read ≤ b)). ⊎_elim
        (λ (is : (range_of_block w b ≡ range) × (candidate b ≡ false)).
        absurd (excludes.none r (known.shown x (held ∙ ap (λ m. Some (m, x)) (sym is.0)) t stands.0 (stands.1 ∙ sym is.0) excludes.final) matches))
        (λ (still : (range_of_block w b ≢ range) × (candidate b ≡ old.candidate b)). inr (still.1 ∙ left.0, left.1))
        (others b))
        (known.kept matches);
  }
  scan_row old _ (ScanElsewhere candidate others) sees known = record {
    there = known.there;
    settled = known.settled;
    shown = known.shown;
    kept = λ matches. elim (known.kept matches) [ inl found ↦ inl found | inr left ↦ inr (others b k r known.there sees matches left.0, left.1) ];
  }
  scan_row old _ (ScanPage next found given unread first keeps page only) sees known = record {
    there = known.there;
    settled = known.settled;
    shown = known.shown;
    kept = λ matches. ⊎_elim
        (λ (was : IsTrue (old.found b k)). inl (keeps b k was))
        (λ (left : IsTrue (old.candidate b) × (old.read ≤ b)). ⊎_elim
        (λ (is : next ≡ b).
        inl (subst (λ n. IsTrue (found n k)) is (page k r (ap (λ n. w.row n k) is ∙ known.there) (subst (λ n. IsTrue (old.sees n k)) (sym is) sees) matches)))
        (λ (other : next ≢ b). inr (left.0, omega (arith, first b left.0 left.1, other)))
        (cases_eq next b))
        (known.kept matches);
  }
  scan_row old _ _ sees known = record {
    there = known.there;
    settled = known.settled;
    shown = λ y none. absurd (none-some _ none);
    kept = known.kept;
  }

scan_sees : (w : IndexView) (old new : Scan) → ScanStep w old new → (b k : ℕ) → IsTrue (new.sees b k) → IsTrue (old.sees b k)
scan_sees w old _ (ScanMap range x empty named) b k sees = sees
scan_sees w old _ _ b k sees = sees

scan_held : (w : IndexView) (old new : Scan) → ScanStep w old new → ((range : ℕ) (x : Spot) → old.held ≡ Some (range, x) → IsHeld w range x)
    → (range : ℕ) (x : Spot) → new.held ≡ Some (range, x) → IsHeld w range x
scan_held w old _ (ScanMap m y empty named) before range x held =
    let both : (m, y) ≡ (range, x) = same_Some _ _ held in
    λ t here of. inl (ap w.entry (sym (ap (λ (q : ℕ × Spot). q.0) both)) ∙ named ∙ ap Some (ap (λ (q : ℕ × Spot). q.1) both))
scan_held w old _ (ScanGone m y was gone) before range x held = absurd (none-some _ held)
scan_held w old _ (ScanKeeps m y t was stands keeps) before range x held = absurd (none-some _ held)
scan_held w old _ (ScanDrops m y t candidate was stands keeps excludes others) before range x held = absurd (none-some _ held)
scan_held w old _ _ before range x held = before range x held

-- what a scan knows of a row stays true while no row is dropped
row_on : (s : ℕ) (w v : IndexView) → GoesOn s never w v → (scan : Scan) (b k : ℕ) (r : Row) → KnowsRow w scan b k r → KnowsRow v scan b k r
row_on s w v on scan b k r known = record {
  there = ⊎_elim (λ (e : v.row b k ≡ Some r). e) (λ (dead : IsTrue (never b k)). absurd (false≢true dead)) (on.rows b k r known.there);
  settled = on.settled b k r known.there known.settled;
  shown = λ x held. on.shows x b k r known.there known.settled (known.shown x (held ∙ ap (λ n. Some (b / n, x)) on.pages_per_range));
  kept = known.kept;
}

-- where nothing changes, the index is the same one
rests_path : (w v : IndexState) → Rests w v → v ≡ w
rests_path w v rests = λ i. record {
  contents = rests.contents i;
  pages_per_range = rests.heap.pages_per_range i;
  blocks = rests.heap.blocks i;
  row = λ b k. rests.heap.row b k i;
  entry = λ m. rests.map.entry m i;
  tuple = λ x. rests.tuples.tuple x i;
  pages = rests.pages i;
  lock = λ p. rests.lock p i;
  summarise_lock = rests.summarise_lock i;
  unnamed = λ x. rests.unnamed_tuples.unnamed x i;
  statement = λ n. rests.statement n i;
  counts = λ t. rests.counts.counts t i;
}

module _ (s : ℕ) (w v : IndexState) (kept : IsIndexKept w) where
  knows_it : (d : Statement) → w.statement s ≡ d → Knows (index_view w) s d
  knows_it d was = subst (λ m. Knows (index_view w) s m) was (kept.knows s)

  knows_pages_it : (d : Statement) → w.statement s ≡ d → KnowsPages (index_view w) s d
  knows_pages_it d was = subst (λ m. KnowsPages (index_view w) s m) was (kept.knows_pages s)

  reads_after : (new : Statement) → ReadsIndex s (index_view w) (index_view v) → KnowsPages (index_view v) s new
      → PagesAfter s (index_view w) (index_view v) new
  reads_after new reads knows =
      still_after s (index_view w) (index_view v) new reads.frame.heap.pages_per_range (same_blocks (index_view w) (index_view v) reads.frame.heap)
      reads.frame.map reads.frame.tuples reads.pages reads.frame.locks kept.ordered knows

  passes_after : (new : Statement) (o p : Option ℕ) → SummariseLockPasses s (index_view w) (index_view v) o p → KnowsPages (index_view v) s new
      → PagesAfter s (index_view w) (index_view v) new
  passes_after new o p passes knows =
      still_after s (index_view w) (index_view v) new passes.frame.heap.pages_per_range (same_blocks (index_view w) (index_view v) passes.frame.heap)
      passes.frame.map passes.frame.tuples passes.pages passes.frame.locks kept.ordered knows

  -- after a step that drops no row and puts none
  steps : (old new : Statement) → Turned s w v old new → Outcome s never w v old new → PagesAfter s (index_view w) (index_view v) new
      → SameHeap (index_view w) (index_view v) → SameCounts w v → IsIndexKept v
  steps old new turned out after heap counts = kept_after s never w v old new kept turned out after (λ n other. spares_never (w.statement n))
      (λ b k r there. inl (sym (heap.row b k) ∙ there)) (λ t counted. sym (counts.counts t) ∙ counted)

  put_row : (b k : ℕ) (r : Row) → Turned s w v Idle (Inserting b k r Empty) → RowPut s (index_view w) (index_view v) b k r → SameCounts w v → IsIndexKept v
  put_row b k r turned puts counts =
      let known = knows_it Idle turned.was in
      let kind : PutsRow s (index_view w) (index_view v) b k r = record {
        row = puts.row;
        frame = puts.frame;
        loose = loose_same s w v Idle (Inserting b k r Empty) turned refl;
        work = record { building = building_same s w v Idle (Inserting b k r Empty) turned refl };
        locked = locks_by s w v Idle (Inserting b k r Empty) turned (nothing_loose s w v Idle (Inserting b k r Empty) turned refl);
      } in
      kept_after s never w v Idle (Inserting b k r Empty) kept turned
      (record {
        sound = puts_row_sound s (index_view w) (index_view v) b k r kept.sound kind;
        on = puts_row_go_on s never (index_view w) (index_view v) b k r kept.sound kind;
        knows = (puts.row.now, (λ held. known.1 (sym puts.frame.summarise_lock ∙ held)), puts.none, tt);
        done = tt;
      })
      (still_after s (index_view w) (index_view v) (Inserting b k r Empty) puts.row.pages_per_range puts.row.grown puts.frame.map puts.frame.tuples puts.pages
      puts.frame.locks kept.ordered tt)
      (λ n other. spares_never (w.statement n))
      (λ c j q there. ⊎_elim
      (λ (at : (c ≡ b) × (j ≡ k)).
      let same : r ≡ q = same_Some _ _ (sym puts.row.now ∙ ap (λ m. v.row m k) (sym at.0) ∙ ap (λ m. v.row c m) (sym at.1) ∙ there) in
      inr (ap (λ m. Inserting m k r Empty) (sym at.0) ∙ ap (λ m. Inserting c m r Empty) (sym at.1) ∙ ap (λ m. Inserting c j m Empty) same))
      (λ (was : v.row c j ≡ w.row c j). inl (sym was ∙ there))
      (puts.row.others c j))
      (λ t counted. sym (counts.counts t) ∙ counted)

  looks : (old new : Statement) → Turned s w v old new → loose_of old ≡ None → loose_of new ≡ None → building_of new ≡ building_of old
      → Frame s TouchesNothing (index_view w) (index_view v) → Both s (index_view w) (index_view v)
  looks old new turned was now work same = looks_both s w v old new turned kept.sound was now work same

  take_summarise_lock : Turned s w v Idle Holding → SummariseLockPasses s (index_view w) (index_view v) None (Some s) → SameCounts w v → IsIndexKept v
  take_summarise_lock turned passes counts =
      let kind : Takes s (index_view w) (index_view v) = record {
        free = passes.was;
        taken = passes.now;
        building = building_same s w v Idle Holding turned refl;
        frame = passes.frame;
        loose = loose_same s w v Idle Holding turned refl;
        locked = locks_by s w v Idle Holding turned (nothing_loose s w v Idle Holding turned refl);
      } in
      steps Idle Holding turned
      (record {
        sound = takes_sound s (index_view w) (index_view v) kept.sound kind;
        on = takes_go_on s never (index_view w) (index_view v) kept.sound kind;
        knows = (passes.now, passes.none);
        done = tt;
      }) (passes_after Holding None (Some s) passes tt) passes.frame.heap counts

  -- the lock is given by a reply, or by a refusal
  give_summarise_lock : (old : Statement) → loose_of old ≡ None → SettledOrOn (index_view v) v.counts old Idle → Turned s w v old Idle
      → SummariseLockPasses s (index_view w) (index_view v) (Some s) None → SameCounts w v → IsIndexKept v
  give_summarise_lock old none done turned passes counts =
      let kind : Ends s (index_view w) (index_view v) = record {
        building = λ n. ⊎_elim (λ (is : n ≡ s). inr is) (λ (same : v.statement n ≡ w.statement n). inl (ap building_of same)) (turned.others n);
        idle = ap building_of turned.now;
        summarise_lock = inl (passes.was, passes.now);
        frame = passes.frame;
        loose = loose_same s w v old Idle turned (sym none);
        locked = locks_by s w v old Idle turned (nothing_loose s w v old Idle turned refl);
      } in
      steps old Idle turned
      (record {
        sound = ends_sound s (index_view w) (index_view v) kept.sound kind;
        on = ends_go_on s never (index_view w) (index_view v) kept.sound kind;
        knows = (passes.none, λ held. none-some _ (sym passes.now ∙ held));
        done = done;
      }) (passes_after Idle (Some s) None passes tt) passes.frame.heap counts

  prune : (dropped : ℕ → ℕ → Bool) → ((n : ℕ) → n ≢ s → Spares dropped (w.statement n)) → Turned s w v Holding Holding
      → RowsDropped s dropped (index_view w) (index_view v) → SameCounts w v → IsIndexKept v
  prune dropped spares turned drops counts =
      let known = knows_it Holding turned.was in
      let kind : Prunes s dropped (index_view w) (index_view v) = record {
        rows = drops.rows;
        frame = drops.frame;
        loose = loose_same s w v Holding Holding turned refl;
        work = record { building = building_same s w v Holding Holding turned refl };
        locked = locks_by s w v Holding Holding turned
            (nothing_loose s w v Holding Holding turned refl);
      } in
      kept_after s dropped w v Holding Holding kept turned
      (record {
        sound = prunes_sound s dropped (index_view w) (index_view v) kept.sound kind;
        on = prunes_go_on s dropped (index_view w) (index_view v) kept.sound kind;
        knows = (drops.frame.summarise_lock ∙ known.0, drops.none);
        done = tt;
      })
      (still_after s (index_view w) (index_view v) Holding drops.rows.pages_per_range (not_less v.blocks w.blocks drops.rows.blocks) drops.frame.map
      drops.frame.tuples drops.pages drops.frame.locks kept.ordered tt)
      spares
      (λ b k r there. elim (drops.rows.row b k) [ inl was ↦ inl (sym was ∙ there) | inr gone ↦ absurd (none-some _ (sym gone.1 ∙ there)) ])
      (λ t counted. sym (counts.counts t) ∙ counted)

  scans : (old new : Scan) → Turned s w v (Scanning old) (Scanning new) → ScanStep (index_view w) old new → ReadsIndex s (index_view w) (index_view v)
      → SameCounts w v → IsIndexKept v
  scans old new turned step reads counts =
      let known = knows_it (Scanning old) turned.was in
      let both = looks (Scanning old) (Scanning new) turned refl refl refl reads.frame in
      steps (Scanning old) (Scanning new) turned
      (record {
        sound = both.0;
        on = both.1;
        knows = (
          (reads.none, λ held. known.0.1 (sym reads.frame.summarise_lock ∙ held)),
          (λ range x held. both.1.held range x (scan_held (index_view w) old new step known.1 range x held)),
          λ b k sees.
              let before = scan_sees (index_view w) old new step b k sees in
              let row = known.2 b k before in
              (row.0, row_on s (index_view w) (index_view v) both.1 new b k row.0 (scan_row (index_view w) b k row.0 old new step before row.1)),
        );
        done = tt;
      }) (reads_after (Scanning new) reads tt) reads.frame.heap counts

  begin_scan : (scan : Scan) → ScanBegins w scan → Turned s w v Idle (Scanning scan) → ReadsIndex s (index_view w) (index_view v) → SameCounts w v
      → IsIndexKept v
  begin_scan scan begins turned reads counts =
      let known = knows_it Idle turned.was in
      let both = looks Idle (Scanning scan) turned refl refl refl reads.frame in
      steps Idle (Scanning scan) turned
      (record {
        sound = both.0;
        on = both.1;
        knows = (
          (reads.none, λ held. known.1 (sym reads.frame.summarise_lock ∙ held)),
          (λ range x held. absurd (none-some _ (sym begins.0 ∙ held))),
          λ b k sees. let row = begins.1 b k sees in (row.0, row_on s (index_view w) (index_view v) both.1 scan b k row.0 (first_row b k sees)),
        );
        done = tt;
      }) (reads_after (Scanning scan) reads tt) reads.frame.heap counts
    where
      first_row : (b k : ℕ) → (sees : IsTrue (scan.sees b k)) → KnowsRow (index_view w) scan b k (begins.1 b k sees).0
      first_row b k sees = let row = begins.1 b k sees in record {
        there = row.1;
        settled = elim (kept.rows b k row.0 row.1 row.2) [ inl a ↦ a | inr i ↦ absurd (row.3 i.0 i.1 i.2) ];
        shown = λ x held. absurd (none-some _ (sym begins.0 ∙ held));
        kept = λ matches. inr (row.4 matches);
      }

  refused : (b k : ℕ) (r : Row) (on_index : OnIndex) → loose_in on_index ≡ None → Turned s w v (Inserting b k r on_index) Idle
      → ReadsIndex s (index_view w) (index_view v) → v.counts r.id.t ≡ false → ((t : ℕ) → IsTrue (v.counts t) → IsTrue (w.counts t)) → IsIndexKept v
  refused b k r on_index none turned reads fails counts =
      let known = knows_it (Inserting b k r on_index) turned.was in
      let both = looks (Inserting b k r on_index) Idle turned none refl refl reads.frame in
      kept_after s never w v (Inserting b k r on_index) Idle kept turned
      (record {
        sound = both.0;
        on = both.1;
        knows = (reads.none, λ held. known.1 (sym reads.frame.summarise_lock ∙ held));
        done = λ counted. absurd (false≢true (sym fails ∙ counted));
      })
      (reads_after Idle reads tt)
      (λ n other. spares_never (w.statement n)) (λ c j q there. inl (sym (reads.frame.heap.row c j) ∙ there)) counts

  pub step_kept : Step s w v → IsIndexKept v
  step_kept (PutRow b k r turned puts counts) = put_row b k r turned puts counts
  step_kept (Insert b k r on_index new turned step counts) =
      steps (Inserting b k r on_index) new turned
      (insert_outcome s b k r w v kept.sound on_index new step turned (knows_it (Inserting b k r on_index) turned.was))
      (insert_after s b k r (index_view w) (index_view v) kept.sound kept.ordered on_index new step (knows_it (Inserting b k r on_index) turned.was).2
      (knows_pages_it (Inserting b k r on_index) turned.was))
      (insert_keeps s b k r (index_view w) (index_view v) on_index new step).0 counts
  step_kept (Refused b k r on_index ended turned reads fails counts) =
      refused b k r on_index (ended_loose (index_view w) s b on_index ended) turned reads fails counts
  step_kept (TakeSummariseLock turned passes counts) = take_summarise_lock turned passes counts
  step_kept (BeginRange range turned reads counts) =
      let known = knows_it Holding turned.was in
      let both = looks Holding (Maintaining range (NotBuilding Empty)) turned refl refl refl reads.frame in
      steps Holding (Maintaining range (NotBuilding Empty)) turned
      (record { sound = both.0; on = both.1; knows = (reads.frame.summarise_lock ∙ known.0, reads.none); done = tt })
      (reads_after (Maintaining range (NotBuilding Empty)) reads (tt, tt)) reads.frame.heap counts
  step_kept (Maintain range old new turned step counts) =
      let known = knows_it (Maintaining range old) turned.was in
      let left = maintain_left s range w v kept.sound known.0 old new step turned known.1 in
      steps (Maintaining range old) new turned (record { sound = left.0.0; on = left.0.1; knows = left.1; done = tt })
      (maintain_after s range (index_view w) (index_view v) kept.ordered known.0 old new step known.1 (knows_pages_it (Maintaining range old) turned.was))
      (maintain_keeps s range (index_view w) (index_view v) old new step).0 counts
  step_kept (Prune dropped spares turned drops counts) = prune dropped spares turned drops counts
  step_kept (Sweep page turned sweeps counts) =
      let known = knows_it Holding turned.was in
      let both =
      sweep_both s w v Holding Holding turned kept.sound page (λ x. (x.block ≡ page) × IsUnnamed (index_view w) x)
      (λ x on is. is.1) refl refl refl sweeps in
      steps Holding Holding turned
      (record { sound = both.0; on = both.1; knows = (sweeps.frame.summarise_lock ∙ known.0, sweeps.none); done = tt })
      (sweep_after s (index_view w) (index_view v) kept.ordered page (λ x. (x.block ≡ page) × IsUnnamed (index_view w) x) Holding sweeps known.0 tt)
      sweeps.frame.heap counts
  step_kept (GiveSummariseLock turned passes counts) = give_summarise_lock Holding refl tt turned passes counts
  step_kept (Abandon range number phase full turned passes counts) =
      give_summarise_lock (Maintaining range phase) (full_loose (index_view w) s range number phase full) tt turned passes counts
  step_kept (BeginScan scan begins turned reads counts) = begin_scan scan begins turned reads counts
  step_kept (Scans old new turned step reads counts) = scans old new turned step reads counts
  step_kept (EndScan scan turned reads counts) =
      let known = knows_it (Scanning scan) turned.was in
      let both = looks (Scanning scan) Idle turned refl refl refl reads.frame in
      steps (Scanning scan) Idle turned (record {
        sound = both.0;
        on = both.1;
        knows =
            (reads.none, λ held. known.0.1 (sym reads.frame.summarise_lock ∙ held));
        done = tt;
      }) (reads_after Idle reads tt) reads.frame.heap counts
  step_kept (Elsewhere rests) = subst (λ u. IsIndexKept u) (sym (rests_path w v rests)) kept
  step_kept (Counts counts few same) = subst (λ u. IsIndexKept u) (sym same) (record {
    sound = kept.sound;
    ordered = kept.ordered;
    knows = kept.knows;
    knows_pages = kept.knows_pages;
    rows = λ b k r there counted. elim (few r.id.t counted) [ inl was ↦ kept.rows b k r there was | inr none ↦ absurd (none b k r there refl) ];
  })

-- a session that doesn't hold the summarise lock leaves it to its holder which ranges have an entry
module _ (s : ℕ) (w v : IndexState) (kept : IsIndexKept w) where
  quiet_read : ReadsIndex s (index_view w) (index_view v) → Quiet (index_view w) (index_view v)
  quiet_read reads = quiet_same (index_view w) (index_view v) reads.frame.map reads.frame.tuples (ap (λ (g : Pages). g.map_pages) reads.pages)

  step_quiet : Step s w v → (w.summarise_lock ≡ Some s) ⊎ Quiet (index_view w) (index_view v)
  step_quiet (PutRow b k r turned puts counts) =
      inr (quiet_same (index_view w) (index_view v) puts.frame.map puts.frame.tuples (ap (λ (g : Pages). g.map_pages) puts.pages))
  step_quiet (Insert b k r on_index new turned step counts) =
      (insert_after s b k r (index_view w) (index_view v) kept.sound kept.ordered on_index new step
      (knows_it s w v kept (Inserting b k r on_index) turned.was).2 (knows_pages_it s w v kept (Inserting b k r on_index) turned.was)).on.quiet
  step_quiet (Refused b k r on_index ended turned reads fails counts) = inr (quiet_read reads)
  step_quiet (TakeSummariseLock turned passes counts) =
      inr (quiet_same (index_view w) (index_view v) passes.frame.map passes.frame.tuples (ap (λ (g : Pages). g.map_pages) passes.pages))
  step_quiet (BeginRange range turned reads counts) = inr (quiet_read reads)
  step_quiet (Maintain range old new turned step counts) = inl (knows_it s w v kept (Maintaining range old) turned.was).0
  step_quiet (Prune dropped spares turned drops counts) = inl (knows_it s w v kept Holding turned.was).0
  step_quiet (Sweep page turned sweeps counts) = inl (knows_it s w v kept Holding turned.was).0
  step_quiet (GiveSummariseLock turned passes counts) = inl passes.was
  step_quiet (Abandon range number phase full turned passes counts) = inl passes.was
  step_quiet (BeginScan scan begins turned reads counts) = inr (quiet_read reads)
  step_quiet (Scans old new turned step reads counts) = inr (quiet_read reads)
  step_quiet (EndScan scan turned reads counts) = inr (quiet_read reads)
  step_quiet (Elsewhere rests) = inr (quiet_same (index_view w) (index_view v) rests.map rests.tuples (ap (λ (g : Pages). g.map_pages) rests.pages))
  step_quiet (Counts counts few same) = inr (quiet_same (index_view w) (index_view v)
      (record { entry = λ m. ap (λ (u : IndexState). u.entry m) same }) (record { tuple = λ x. ap (λ (u : IndexState). u.tuple x) same })
      (ap (λ (u : IndexState). u.pages.map_pages) same))

  pub entries_stay : Step s w v → w.summarise_lock ≢ Some s → (range : ℕ) → (w.entry range ≡ None) ↔ (v.entry range ≡ None)
  entries_stay step free range = ((λ none. quiet.vacant range none), by_entry (w.entry range) refl)
    where
      quiet : Quiet (index_view w) (index_view v)
      quiet = ⊎_elim (λ (held : w.summarise_lock ≡ Some s). absurd (free held)) (λ (q : Quiet (index_view w) (index_view v)). q) (step_quiet step)

      by_entry : (o : Option Spot) → w.entry range ≡ o → v.entry range ≡ None → w.entry range ≡ None
      by_entry None is gone = is
      by_entry (Some x) is gone = absurd (none-some _ (sym gone ∙ (quiet.still range x is).1))

-- tuples that the map names stand past its pages
pub named_past_map : (w : IndexState) (range : ℕ) (x : Spot) → IsIndexKept w → w.entry range ≡ Some x → w.pages.map_pages < x.block
named_past_map w range x kept named = ⊎_elim
    (λ (less : w.pages.map_pages < x.block). less)
    (λ (le : x.block ≤ w.pages.map_pages).
    let t = kept.sound.entries_name_tuples range x named in
    absurd (subst IsNoMap (kept.ordered.map x.block le) (for_tuples (index_view w) x.block (kept.ordered.tuples x t.0 t.1)).1))
    (lt_or_ge w.pages.map_pages x.block)

pub run_kept : (steps : List ℕ) (w v : IndexState) → IsIndexKept w → Run steps w v → IsIndexKept v
run_kept _ _ _ kept (Done w) = kept
run_kept _ _ _ kept (Next s rest w u v step more) = run_kept rest u v (step_kept s w u kept step) more

-- blocks of the table are never taken away
step_blocks : (s : ℕ) (w v : IndexState) → Step s w v → w.blocks ≤ v.blocks
step_blocks s w v step = grind (arith, insert_keeps, maintain_keeps)

pub run_blocks : (steps : List ℕ) (w v : IndexState) → Run steps w v → w.blocks ≤ v.blocks
run_blocks _ _ _ (Done w) = le_refl w.blocks
run_blocks _ _ _ (Next s rest w u v step more) = le_trans (step_blocks s w u step) (run_blocks rest u v more)
