-- what calls found and made of an index, as what a step of a growth did
use Rattle.std.proofs.Common.{◌≡◌, ◌≢◌, inl, inr, ℕ, ◌<◌, ◌≤◌, List, [], ◌∷◌, length, Option, None, Some, refl, sym, ap, subst, ◌∙◌}
use Rattle.block_model.specs.declared.place.Place.{Place}
use Rattle.block_model.specs.declared.place.Spot.{Spot}
use Rattle.block_model.specs.declared.reply.Point.TheVariants as points
use Rattle.page_locks.specs.declared.did.Did.TheVariants as did
use Rattle.page_locks.specs.LockChanges.{GivesAll, IsFirstHeld, TakesAll, page_of}
use Rattle.coverage.specs.Changes.{IsFree}
use Rattle.coverage.specs.IndexPart.{SummariseMakes}
use Rattle.coverage.specs.IndexView.{Emptying, IndexTuple, Mapping, Pages, Regular, Unstarted, map_page_of, next_map_page}
use Rattle.coverage.specs.Knowing.{LocksThese}
use Rattle.coverage.specs.Statements.{Dropping, Evacuating, Growing, Maintaining, Moving, Vacant}
use Rattle.coverage.specs.Steps.{Count, CountLeftOver, EvacuateDrop, EvacuatePut, EvacuateSet, EvacuateSweep, Flag, Grow, GrowMap, Turn}
use Rattle.coverage.specs.Verdicts.{Full, IsFirstLocked, IsLocked, IsTarget, NoTarget, PutGoes, PutVerdict, PutWaits, Puts, Waits}
use Rattle.coverage.specs.Waiting.{CountWaits, EvacuateFull, EvacuatePutWaits, EvacuateWaits, FlagWaits, GrowWaits, IsNextTuple, IsPhaseFull, IsPhaseWaiting, MapFull, TurnWaits}
use Rattle.index_contents.specs.IndexContents.{IndexContents}
use Rattle.index_contents.specs.IndexChanges.{DropsBytes, PutsBytes}
use Rattle.index_steps.specs.IndexTuples.{IndexShape, seen}
use Rattle.index_steps.specs.MoveEnds.{DropsIn, SetsIn}
use Rattle.index_steps.specs.ShownIndex.{shown_part}
use Rattle.index_steps.specs.FirstTuples.{IsOf}
use Rattle.index_steps.specs.MapChanges.{CountsBlock, TurnsBlock}
use Rattle.index_steps.specs.declared.growth_stage.Stage.{Stage}
use Rattle.index_steps.specs.declared.growth_stage.Stage.TheVariants as stages
use Rattle.index_steps.specs.Called.{hand_at}
use Rattle.index_steps.specs.GrowthSteps.{GrowthAt, StepFull, StepWaits, Stepped}
use Rattle.index_steps.proofs.Views.{place_there, target_back, target_there}
use Rattle.index_steps.proofs.Growing.{counts_there, fewer_unnamed, first_there, free_there, grows_there, locked_there, next_there, none_first, own_there, puts_there, range_there, seen_there, sweeps_there, turns_there, unnamed_but}
use Rattle.index_steps.specs.LockLaws.{first_locked, gives_own, takes_own, takes_these}

-- a growth at a stage, with the bytes of a tuple
abbrev pub growing : IndexContents → (ℕ → Option ℕ) → (index : ℕ) → Stage → List ℕ → GrowthAt
growing c lock index stage moved = record { pages = c; lock = lock; hand = hand_at index stage moved }

module _ (shape : IndexShape) (c d : IndexContents) (h k : Place → Option ℕ) (relation s index : ℕ) (was moved : List ℕ) where
  abbrev lock : ℕ → Option ℕ
  lock page = h (page_of relation page)

  abbrev locked : ℕ → Option ℕ
  locked page = k (page_of relation page)

  module _ (below : next_map_page c.pages < c.pages.limit) where
    module _ (takes : TakesAll h k relation (next_map_page c.pages ∷ 0 ∷ []) s) (turns : TurnsBlock c d (next_map_page c.pages) Mapping) where
      free_next : IsFree lock s (next_map_page c.pages)
      free_next n is = takes.free (next_map_page c.pages) (inl refl) n is

      free_meta : IsFree lock s 0
      free_meta n is = takes.free 0 (inr (inl refl)) n is

      -- a page that wasn't started is one of the map
      pub starts : c.pages.kind (next_map_page c.pages) ≡ Unstarted → Stepped shape s (growing c lock index stages.Judge was) (growing d locked index stages.Count moved) (did.Moved points.Grow)
      starts kind = (
        λ range w shows short knows pages. (
          w.unnamed,
          (λ x is. is),
          λ building loose. (
            GrowMap Vacant Growing (Grow (grows_there shape c lock w shows range Unstarted short below kind)
                (subst (IsFree w.lock s) (sym (next_there shape c lock w shows)) (free_there shape c lock w shows s (next_map_page c.pages) free_next))
                (free_there shape c lock w shows s 0 free_meta)
                (turns_there shape c lock w shows s d locked Mapping (next_map_page w.pages ∷ 0 ∷ []) turns
                (takes_own relation s h k (next_map_page c.pages ∷ 0 ∷ []) w.lock (λ page. shows.lock page) takes)
                (subst (λ (p : ℕ). LocksThese locked s (p ∷ 0 ∷ [])) (sym (next_there shape c lock w shows)) (takes_these relation s h k (next_map_page c.pages ∷ 0 ∷ []) w.lock (λ page. shows.lock page) takes knows.1.0))
                building loose)),
            refl,
            refl,
          ),
        ),
        (λ range w shows short knows. turns.page.map_pages),
      )

      -- so is one that was emptied
      pub turned : c.pages.kind (next_map_page c.pages) ≡ Emptying → ((x : Spot) → x.block ≡ next_map_page c.pages → c.bytes x ≡ None)
          → Stepped shape s (growing c lock index stages.Judge was) (growing d locked index stages.Count moved) (did.Moved points.Turn)
      turned kind none = (
        λ range w shows short knows pages. (
          w.unnamed,
          (λ x is. is),
          λ building loose. (
            GrowMap Vacant Growing (Turn (grows_there shape c lock w shows range Emptying short below kind)
                (none_first shape c lock w shows none)
                (subst (IsFree w.lock s) (sym (next_there shape c lock w shows)) (free_there shape c lock w shows s (next_map_page c.pages) free_next))
                (free_there shape c lock w shows s 0 free_meta)
                (turns_there shape c lock w shows s d locked Mapping (next_map_page w.pages ∷ 0 ∷ []) turns
                (takes_own relation s h k (next_map_page c.pages ∷ 0 ∷ []) w.lock (λ page. shows.lock page) takes)
                (subst (λ (p : ℕ). LocksThese locked s (p ∷ 0 ∷ [])) (sym (next_there shape c lock w shows)) (takes_these relation s h k (next_map_page c.pages ∷ 0 ∷ []) w.lock (λ page. shows.lock page) takes knows.1.0))
                building loose)),
            refl,
            refl,
          ),
        ),
        (λ range w shows short knows. turns.page.map_pages),
      )

    -- a page with tuples is flagged
    pub flags : c.pages.kind (next_map_page c.pages) ≡ Regular → IsFree lock s (next_map_page c.pages) → TurnsBlock c d (next_map_page c.pages) Emptying
        → Stepped shape s (growing c lock index stages.Judge was) (growing d lock index stages.Judge moved) (did.Moved points.Flag)
    flags kind free turns = (
      λ range w shows short knows pages. (
        w.unnamed,
        (λ x is. is),
        λ building loose. (
          GrowMap Vacant Vacant (Flag (grows_there shape c lock w shows range Regular short below kind)
              (subst (IsFree w.lock s) (sym (next_there shape c lock w shows)) (free_there shape c lock w shows s (next_map_page c.pages) free))
              (turns_there shape c lock w shows s d lock Emptying [] turns (own_there shape c lock w shows s)
              (record { locked = λ p one. absurd one; only = λ p is. absurd (knows.1.0 p (shows.lock p ∙ is)) })
              building loose)),
          refl,
          refl,
        ),
      ),
      (λ range w shows short knows. turns.page.map_pages),
    )

    -- a page that is left over is counted
    pub counts_left_over : c.pages.kind (next_map_page c.pages) ≡ Mapping → IsFree lock s 0 → CountsBlock c d → GivesAll h k s
        → Stepped shape s (growing c lock index stages.Judge was) (growing d locked index stages.Judge moved) (did.Finished points.Meta)
    counts_left_over kind free counts gives = (
      λ range w shows short knows pages. (
        w.unnamed,
        (λ x is. is),
        λ building loose. (
          GrowMap Vacant Vacant (CountLeftOver (grows_there shape c lock w shows range Mapping short below kind) (free_there shape c lock w shows s 0 free)
              (counts_there shape c lock w shows s d locked counts (gives_own relation s h k w.lock (λ page. shows.lock page) gives) (λ page. gives.none (page_of relation page)) building loose)),
          refl,
          refl,
        ),
      ),
      (λ range w shows short knows. ap (λ (p : Pages). p.map_pages) counts.pages),
    )

    -- the first tuple of the page, which the map doesn't name, is dropped
    pub sweeps : (x : Spot) (bytes : List ℕ) → c.pages.kind (next_map_page c.pages) ≡ Emptying → IsNextTuple c.bytes (next_map_page c.pages) x bytes → c.entry (seen shape bytes).range ≢ Some x
        → IsFree lock s x.block → DropsBytes c d x → Stepped shape s (growing c lock index stages.Judge was) (growing d lock index stages.Judge moved) (did.Moved points.Drop)
    sweeps x bytes kind first unnamed free drops = (
      λ range w shows short knows pages. (
        unnamed_but x w.unnamed,
        fewer_unnamed x w.unnamed,
        λ building loose. (
          GrowMap Vacant Vacant (EvacuateSweep x (seen shape bytes) (grows_there shape c lock w shows range Emptying short below kind) (first_there shape c lock w shows x bytes first)
              (seen shape bytes, seen_there shape c lock w shows x bytes first.stands, λ named. unnamed (sym (shows.entry (seen shape bytes).range) ∙ named))
              (sweeps_there shape c lock w shows s d x first.on drops free knows.1.0 building loose)),
          refl,
          refl,
        ),
      ),
      (λ range w shows short knows. drops.page.map_pages),
    )

    -- one that it names is put on another page, and its own, that one and the map's are locked
    pub moves : (x y : Spot) (bytes : List ℕ) (m : ℕ) → c.pages.kind (next_map_page c.pages) ≡ Emptying → IsNextTuple c.bytes (next_map_page c.pages) x bytes → IsOf bytes (Some m) → c.entry m ≡ Some x
        → IsTarget c.pages c.bytes (length bytes) y.block → TakesAll h k relation (x.block ∷ y.block ∷ map_page_of m ∷ []) s → PutsBytes c d y bytes
        → Stepped shape s (growing c lock index stages.Judge was) (growing d locked index (stages.Set m x y) bytes) (did.Moved points.Put)
    moves x y bytes m kind first of named target takes puts = (
      λ range w shows short knows pages.
          let t : IndexTuple = seen shape bytes in
          let is : t.range ≡ m = range_there shape bytes m of in (
            w.unnamed,
            (λ z unnamed. unnamed),
            subst (λ (n : ℕ). SummariseMakes s range w (shown_part shape d locked w.unnamed) Vacant (Maintaining range (Evacuating n (Moving x y t t))) points.Put 0) is
                (λ building loose. (
                  GrowMap Vacant (Evacuating t.range (Moving x y t t)) (EvacuatePut x y t (grows_there shape c lock w shows range Emptying short below kind) (first_there shape c lock w shows x bytes first)
                      (ap w.entry is ∙ shows.entry m ∙ named)
                      (free_there shape c lock w shows s x.block (takes.free x.block (inl refl)))
                      (subst (λ (n : ℕ). PutVerdict w s n (length t.bytes) (Puts y)) (sym is)
                      (PutGoes y (place_there shape c lock w shows d y bytes target puts) (free_there shape c lock w shows s y.block (takes.free y.block (inr (inl refl)))) (free_there shape c lock w shows s (map_page_of m) (takes.free (map_page_of m) (inr (inr (inl refl)))))))
                      (puts_there shape c lock w shows s d locked y bytes puts (takes.free y.block (inr (inl refl))) (takes_own relation s h k (x.block ∷ y.block ∷ map_page_of m ∷ []) w.lock (λ page. shows.lock page) takes) building loose)
                      (subst (λ (n : ℕ). LocksThese locked s (x.block ∷ y.block ∷ map_page_of n ∷ [])) (sym is) (takes_these relation s h k (x.block ∷ y.block ∷ map_page_of m ∷ []) w.lock (λ page. shows.lock page) takes knows.1.0))),
                  refl,
                  refl,
                )),
          ),
      (λ range w shows short knows. puts.page.map_pages),
    )

    -- the growth waits for the page's lock or that of the metapage
    pub start_waits : (q : ℕ) → c.pages.kind (next_map_page c.pages) ≡ Unstarted → IsFirstHeld h relation s (next_map_page c.pages ∷ 0 ∷ []) q → StepWaits shape s (growing c lock index stages.Judge was) q
    start_waits q kind held range w shows short knows =
        GrowWaits q (grows_there shape c lock w shows range Unstarted short below kind)
        (subst (λ (p : ℕ). IsFirstLocked w.lock s (p ∷ 0 ∷ []) q) (sym (next_there shape c lock w shows)) (first_locked h relation s w.lock (next_map_page c.pages ∷ 0 ∷ []) q (λ page. shows.lock page) held))

    pub turn_waits : (q : ℕ) → c.pages.kind (next_map_page c.pages) ≡ Emptying → ((x : Spot) → x.block ≡ next_map_page c.pages → c.bytes x ≡ None) → IsFirstHeld h relation s (next_map_page c.pages ∷ 0 ∷ []) q
        → StepWaits shape s (growing c lock index stages.Judge was) q
    turn_waits q kind none held range w shows short knows =
        TurnWaits q (grows_there shape c lock w shows range Emptying short below kind) (none_first shape c lock w shows none)
        (subst (λ (p : ℕ). IsFirstLocked w.lock s (p ∷ 0 ∷ []) q) (sym (next_there shape c lock w shows)) (first_locked h relation s w.lock (next_map_page c.pages ∷ 0 ∷ []) q (λ page. shows.lock page) held))

    pub count_waits : c.pages.kind (next_map_page c.pages) ≡ Mapping → IsLocked lock s 0 → StepWaits shape s (growing c lock index stages.Judge was) 0
    count_waits kind held range w shows short knows = CountWaits (grows_there shape c lock w shows range Mapping short below kind) (locked_there shape c lock w shows s 0 held)

    pub flag_waits : c.pages.kind (next_map_page c.pages) ≡ Regular → IsLocked lock s (next_map_page c.pages) → StepWaits shape s (growing c lock index stages.Judge was) (next_map_page c.pages)
    flag_waits kind held range w shows short knows =
        subst (IsPhaseWaiting w s range Vacant) (next_there shape c lock w shows)
        (FlagWaits (grows_there shape c lock w shows range Regular short below kind) (subst (IsLocked w.lock s) (sym (next_there shape c lock w shows)) (locked_there shape c lock w shows s (next_map_page c.pages) held)))

    pub evacuate_waits : (x : Spot) (bytes : List ℕ) → c.pages.kind (next_map_page c.pages) ≡ Emptying → IsNextTuple c.bytes (next_map_page c.pages) x bytes → IsLocked lock s (next_map_page c.pages)
        → StepWaits shape s (growing c lock index stages.Judge was) (next_map_page c.pages)
    evacuate_waits x bytes kind first held range w shows short knows =
        subst (IsPhaseWaiting w s range Vacant) (next_there shape c lock w shows)
        (EvacuateWaits x (seen shape bytes) (grows_there shape c lock w shows range Emptying short below kind) (first_there shape c lock w shows x bytes first)
        (subst (IsLocked w.lock s) (sym (next_there shape c lock w shows)) (locked_there shape c lock w shows s (next_map_page c.pages) held)))

    module _ (x : Spot) (bytes : List ℕ) (m : ℕ) (kind : c.pages.kind (next_map_page c.pages) ≡ Emptying) (first : IsNextTuple c.bytes (next_map_page c.pages) x bytes) (of : IsOf bytes (Some m)) (named : c.entry m ≡ Some x) (free : IsFree lock s x.block) where
      pub put_waits : (p q : ℕ) → IsTarget c.pages c.bytes (length bytes) p → IsFirstHeld h relation s (p ∷ map_page_of m ∷ []) q → StepWaits shape s (growing c lock index stages.Judge was) q
      put_waits p q target held range w shows short knows =
          let is = range_there shape bytes m of in
          EvacuatePutWaits q x (seen shape bytes) (grows_there shape c lock w shows range Emptying short below kind) (first_there shape c lock w shows x bytes first)
          (ap w.entry is ∙ shows.entry m ∙ named) (free_there shape c lock w shows s x.block free)
          (subst (λ (n : ℕ). PutVerdict w s n (length (seen shape bytes).bytes) (Waits q)) (sym is)
          (PutWaits p q (target_there shape c lock w shows bytes p target) (first_locked h relation s w.lock (p ∷ map_page_of m ∷ []) q (λ page. shows.lock page) held)))

      -- no page takes the tuple
      pub put_full : (number : ℕ) → number ≡ c.pages.limit → ((p : ℕ) → IsTarget c.pages c.bytes (length bytes) p → ⊥) → StepFull shape s (growing c lock index stages.Judge was) number
      put_full number many none range w shows short =
          let is = range_there shape bytes m of in
          EvacuateFull number x (seen shape bytes) (grows_there shape c lock w shows range Emptying short below kind) (first_there shape c lock w shows x bytes first)
          (ap w.entry is ∙ shows.entry m ∙ named) (free_there shape c lock w shows s x.block free)
          (subst (λ (n : ℕ). PutVerdict w s n (length (seen shape bytes).bytes) (Full number)) (sym is)
          (subst (λ (n : ℕ). PutVerdict w s m (length (seen shape bytes).bytes) (Full n)) (ap (λ (p : Pages). p.limit) shows.pages ∙ sym many)
          (NoTarget (λ p target. none p (target_back shape c lock w shows bytes p target)))))

  -- the index can't have the page
  pub map_full : (number : ℕ) → number ≡ c.pages.limit → number ≤ next_map_page c.pages → StepFull shape s (growing c lock index stages.Judge was) number
  map_full number many past range w shows short =
      subst (IsPhaseFull w s range Vacant) (ap (λ (p : Pages). p.limit) shows.pages ∙ sym many)
      (MapFull short (subst (λ (p : Pages). p.limit ≤ next_map_page p) (sym shows.pages) (subst (λ (n : ℕ). n ≤ next_map_page c.pages) many past)))

  -- a page that the growth made is counted
  pub counts : CountsBlock c d → GivesAll h k s → Stepped shape s (growing c lock index stages.Count was) (growing d locked index stages.Judge moved) (did.Finished points.Meta)
  counts made gives = (
    λ range w shows none knows pages. (
      w.unnamed,
      (λ x is. is),
      λ building loose. (
        GrowMap Growing Vacant (Count (counts_there shape c lock w shows s d locked made (gives_own relation s h k w.lock (λ page. shows.lock page) gives) (λ page. gives.none (page_of relation page)) building loose)),
        refl,
        refl,
      ),
    ),
    (λ range w shows short knows. ap (λ (p : Pages). p.map_pages) made.pages),
  )

  -- the map names the tuple where it was put
  pub sets : (m : ℕ) (x y : Spot) → SetsIn shape c d m y → Stepped shape s (growing c lock index (stages.Set m x y) was) (growing d lock index (stages.Drop m x) was) (did.Moved points.Set)
  sets m x y made = (
    λ range w shows none knows pages. (
      w.unnamed,
      (λ z is. is),
      λ building loose. (
        GrowMap (Evacuating m (Moving x y (seen shape was) (seen shape was))) (Evacuating m (Dropping x)) (EvacuateSet m x y (seen shape was) (seen shape was) (made lock w shows s building loose) (record { lock = λ p. sym (shows.lock p) })),
        refl,
        refl,
      ),
    ),
    (λ range w shows none knows. ap (λ (p : Pages). p.map_pages) ((made lock w shows s (λ n. None) (λ n. None)).pages ∙ shows.pages)),
  )

  -- the old one goes
  pub drops : (m : ℕ) (x : Spot) → DropsIn shape c d lock locked s x → Stepped shape s (growing c lock index (stages.Drop m x) was) (growing d locked index stages.Judge moved) (did.Moved points.Drop)
  drops m x made = (
    λ range w shows none knows pages. (
      w.unnamed,
      (λ z is. is),
      λ building loose. (GrowMap (Evacuating m (Dropping x)) Vacant (EvacuateDrop m x (made w shows building loose)), refl, refl),
    ),
    (λ range w shows none knows. (made w shows (λ n. None) (λ n. None)).page.map_pages ∙ ap (λ (p : Pages). p.map_pages) shows.pages),
  )
