-- what stands behind the map, and what a step makes of it
use Rattle.std.proofs.Common.{◌≡◌, ◌≢◌, ℕ, ◌+◌, ◌<◌, ◌≤◌, List, [], ◌∷◌, length, Option, None, Some, refl, sym, ap, subst, ◌∙◌}
use Rattle.std.specs.Prelude.{◌==◌, slice_index, replicate, if◌then◌else◌}
use Rattle.block_model.specs.declared.place.Place.{Place}
use Rattle.block_model.specs.declared.place.Spot.{Spot}
use Rattle.block_model.specs.declared.reply.Point.TheVariants as points
use Rattle.store_layout.specs.DiskLayout.{DiskLayout}
use Rattle.page_map.specs.PageMap.{PageMap}
use Rattle.page_locks.specs.declared.did.Did.TheVariants as did
use Rattle.page_locks.specs.declared.held.Held.{Held}
use Rattle.page_locks.specs.LockChanges.{GivesAll, IsAnothers, IsFirstHeld, IsFreeFor, TakesAll, page_of}
use Rattle.page_locks.specs.LockHolders.{LockState, holder}
use Rattle.index_layout.specs.declared.format.TheConstants.{MAP, EVACUATED, MAP_ENTRIES}
use Rattle.coverage.specs.Changes.{IsFree}
use Rattle.coverage.specs.IndexView.{Emptying, Mapping, PageKind, Regular, Unstarted, map_page_of, next_map_page}
use Rattle.coverage.specs.Verdicts.{IsLocked, IsTarget}
use Rattle.coverage.specs.Waiting.{IsNextTuple}
use Rattle.index_contents.specs.IndexContents.{IndexContents, contents, index_page, kind_at, relation_of}
use Rattle.index_contents.specs.IndexChanges.{DropsBytes, PutsBytes}
use Rattle.index_contents.specs.Kinds.{regular_page, unstarted_page_kind}
use Rattle.index_contents.specs.MapLaws.{is_of_map}
use Rattle.index_contents.specs.Reading.{map_byte}
use Rattle.index_steps.specs.IndexTuples.{seen, shape_of}
use Rattle.index_steps.specs.ShownIndex.{lock_in}
use Rattle.index_steps.specs.declared.next.PageState.{PageState}
use Rattle.index_steps.specs.declared.next.PageState.TheVariants as states
use Rattle.index_steps.specs.FirstTuples.{IsOf}
use Rattle.index_steps.specs.MapChanges.{CountsBlock, TurnsBlock}
use Rattle.index_steps.specs.NextPages.{StandsNext}
use Rattle.index_steps.specs.declared.growth_stage.Stage.TheVariants as stages
use Rattle.index_steps.specs.Called.{hand_at}
use Rattle.index_steps.specs.GrowthSteps.{StepFull, StepWaits, StepsAt, growth_at}
use Rattle.index_steps.specs.LockLaws.{first_rest}
use Rattle.index_steps.proofs.Stepped.{count_waits, counts, counts_left_over, evacuate_waits, flag_waits, flags, map_full, moves, put_full, put_waits, start_waits, starts, sweeps, turn_waits, turned}

-- the kind of a page behind the metapage, by its byte
other_kind : (n kind byte : ℕ) → kind ≡ byte → byte ≡ MAP → kind_at (n + 1) kind ≡ Mapping
other_kind n kind byte is map = ap (kind_at (n + 1)) (is ∙ map) ∙ ap (λ (k : ℕ). if MAP == k then Mapping else Emptying) (map_byte n)

emptying_kind : (n kind : ℕ) → kind ≡ EVACUATED → kind_at (n + 1) kind ≡ Emptying
emptying_kind n kind is = ap (kind_at (n + 1)) is ∙ ap (λ (k : ℕ). if EVACUATED == k then Mapping else Emptying) (map_byte n)

-- as the index has it
abbrev pub kind_of_state : PageState → PageKind
kind_of_state states.Unstarted = Unstarted
kind_of_state states.LeftOver = Mapping
kind_of_state states.Regular = Regular
kind_of_state states.Emptying = Emptying

module _ (layout : DiskLayout) (pages : PageMap) (index : ℕ) where
  abbrev c : IndexContents
  c = contents layout pages index

  abbrev h : LockState → Place → Option ℕ
  h locks = holder locks

  kind_by : (n : ℕ) (state : PageState) → StandsNext layout pages index (n + 1) state → kind_at (n + 1) (slice_index (index_page layout pages index (n + 1)) 0) ≡ kind_of_state state
  kind_by n states.Unstarted next = unstarted_page_kind (n + 1) (slice_index (index_page layout pages index (n + 1)) 0) next.is
  kind_by n states.LeftOver next = other_kind n (slice_index (index_page layout pages index (n + 1)) 0) MAP (is_of_map (replicate MAP_ENTRIES None) (index_page layout pages index (n + 1)) next.is) refl
  kind_by n states.Regular next = regular_page (n + 1) (slice_index (index_page layout pages index (n + 1)) 0) next.is
  kind_by n states.Emptying next = emptying_kind n (slice_index (index_page layout pages index (n + 1)) 0) next.is

  pub kind_there : (block : ℕ) (state : PageState) → StandsNext layout pages index block state → c.pages.kind (next_map_page c.pages) ≡ kind_of_state state
  unfolding contents
  kind_there block state next = kind_by c.pages.map_pages state (subst (λ (b : ℕ). StandsNext layout pages index b state) next.next next)

  pub below_there : (block : ℕ) (state : PageState) → StandsNext layout pages index block state → next_map_page c.pages < c.pages.limit
  unfolding contents
  below_there block state next = subst (λ (b : ℕ). b < layout.sizes.index_blocks) next.next next.below

  pub limit_there : layout.sizes.index_blocks ≡ c.pages.limit
  unfolding contents
  limit_there = refl

  module _ (s : ℕ) (was moved : List ℕ) (locks : LockState) (relation : ℕ) (at : relation ≡ relation_of layout index) where
    pub map_full_at : layout.sizes.index_blocks ≤ next_map_page c.pages → StepFull (shape_of layout index) s (growth_at layout pages locks (hand_at index stages.Judge was)) layout.sizes.index_blocks
    map_full_at past = map_full (shape_of layout index) c c (h locks) (h locks) (relation_of layout index) s index was moved layout.sizes.index_blocks limit_there past

    module _ (block : ℕ) where
      held_at : (q : ℕ) (state : PageState) → StandsNext layout pages index block state → IsFirstHeld (h locks) relation s (block ∷ 0 ∷ []) q → IsFirstHeld (h locks) (relation_of layout index) s (next_map_page c.pages ∷ 0 ∷ []) q
      held_at q state next held = subst (λ (r : ℕ). IsFirstHeld (h locks) r s (next_map_page c.pages ∷ 0 ∷ []) q) at (subst (λ (b : ℕ). IsFirstHeld (h locks) relation s (b ∷ 0 ∷ []) q) next.next held)

      pub start_waits_at : (q : ℕ) → StandsNext layout pages index block states.Unstarted → IsFirstHeld (h locks) relation s (block ∷ 0 ∷ []) q → StepWaits (shape_of layout index) s (growth_at layout pages locks (hand_at index stages.Judge was)) q
      start_waits_at q next held = start_waits (shape_of layout index) c c (h locks) (h locks) (relation_of layout index) s index was moved (below_there block states.Unstarted next) q (kind_there block states.Unstarted next) (held_at q states.Unstarted next held)

      empty_there : (state : PageState) → StandsNext layout pages index block state → ((x : Spot) → x.block ≡ block → c.bytes x ≡ None) → (x : Spot) → x.block ≡ next_map_page c.pages → c.bytes x ≡ None
      empty_there state next none x on = none x (on ∙ sym next.next)

      pub turn_waits_at : (q : ℕ) → StandsNext layout pages index block states.Emptying → ((x : Spot) → x.block ≡ block → c.bytes x ≡ None) → IsFirstHeld (h locks) relation s (block ∷ 0 ∷ []) q
          → StepWaits (shape_of layout index) s (growth_at layout pages locks (hand_at index stages.Judge was)) q
      turn_waits_at q next none held =
          turn_waits (shape_of layout index) c c (h locks) (h locks) (relation_of layout index) s index was moved (below_there block states.Emptying next) q (kind_there block states.Emptying next) (empty_there states.Emptying next none) (held_at q states.Emptying next held)

      -- the lock of one page
      one_held : (held : Held) (page : ℕ) → held.page ≡ page_of relation page → IsAnothers (h locks) s (page_of relation page) held.by → IsLocked (lock_in layout locks index) s page
      one_held held page names (is, other) = (held.by, ap (λ (r : ℕ). holder locks (page_of r page)) (sym at) ∙ is, other)

      pub count_waits_at : (held : Held) → held.page ≡ page_of relation 0 → IsAnothers (h locks) s (page_of relation 0) held.by → StandsNext layout pages index block states.LeftOver
          → StepWaits (shape_of layout index) s (growth_at layout pages locks (hand_at index stages.Judge was)) held.page.block
      count_waits_at held names is next =
          subst (λ (q : ℕ). StepWaits (shape_of layout index) s (growth_at layout pages locks (hand_at index stages.Judge was)) q) (sym (ap (λ (p : Place). p.block) names))
          (count_waits (shape_of layout index) c c (h locks) (h locks) (relation_of layout index) s index was moved (below_there block states.LeftOver next) (kind_there block states.LeftOver next) (one_held held 0 names is))

      next_held : (held : Held) → (state : PageState) → held.page ≡ page_of relation block → IsAnothers (h locks) s (page_of relation block) held.by → StandsNext layout pages index block state → IsLocked (lock_in layout locks index) s (next_map_page c.pages)
      next_held held state names is next = subst (IsLocked (lock_in layout locks index) s) next.next (one_held held block names is)

      pub flag_waits_at : (held : Held) → held.page ≡ page_of relation block → IsAnothers (h locks) s (page_of relation block) held.by → StandsNext layout pages index block states.Regular
          → StepWaits (shape_of layout index) s (growth_at layout pages locks (hand_at index stages.Judge was)) held.page.block
      flag_waits_at held names is next =
          subst (λ (q : ℕ). StepWaits (shape_of layout index) s (growth_at layout pages locks (hand_at index stages.Judge was)) q) (sym (ap (λ (p : Place). p.block) names ∙ next.next))
          (flag_waits (shape_of layout index) c c (h locks) (h locks) (relation_of layout index) s index was moved (below_there block states.Regular next) (kind_there block states.Regular next) (next_held held states.Regular names is next))

      pub evacuate_waits_at : (held : Held) (x : Spot) (bytes : List ℕ) → held.page ≡ page_of relation block → IsAnothers (h locks) s (page_of relation block) held.by → StandsNext layout pages index block states.Emptying → IsNextTuple c.bytes block x bytes
          → StepWaits (shape_of layout index) s (growth_at layout pages locks (hand_at index stages.Judge was)) held.page.block
      evacuate_waits_at held x bytes names is next first =
          subst (λ (q : ℕ). StepWaits (shape_of layout index) s (growth_at layout pages locks (hand_at index stages.Judge was)) q) (sym (ap (λ (p : Place). p.block) names ∙ next.next))
          (evacuate_waits (shape_of layout index) c c (h locks) (h locks) (relation_of layout index) s index was moved (below_there block states.Emptying next) x bytes (kind_there block states.Emptying next)
          (subst (λ (b : ℕ). IsNextTuple c.bytes b x bytes) next.next first) (next_held held states.Emptying names is next))

      module _ (new : PageMap) where
        abbrev d : IndexContents
        d = contents layout new index

        turns_at : (kind : PageKind) (state : PageState) → StandsNext layout pages index block state → TurnsBlock c d block kind → TurnsBlock c d (next_map_page c.pages) kind
        turns_at kind state next turns = subst (λ (b : ℕ). TurnsBlock c d b kind) next.next turns

        module _ (locked : LockState) where
          takes_at : (state : PageState) → StandsNext layout pages index block state → TakesAll (h locks) (h locked) relation (block ∷ 0 ∷ []) s → TakesAll (h locks) (h locked) (relation_of layout index) (next_map_page c.pages ∷ 0 ∷ []) s
          takes_at state next takes = subst (λ (r : ℕ). TakesAll (h locks) (h locked) r (next_map_page c.pages ∷ 0 ∷ []) s) at (subst (λ (b : ℕ). TakesAll (h locks) (h locked) relation (b ∷ 0 ∷ []) s) next.next takes)

          pub starts_at : StandsNext layout pages index block states.Unstarted → TakesAll (h locks) (h locked) relation (block ∷ 0 ∷ []) s → TurnsBlock c d block Mapping
              → StepsAt layout pages new locks locked s (hand_at index stages.Judge was) (hand_at index stages.Count moved) (did.Moved points.Grow)
          starts_at next takes turns = starts (shape_of layout index) c d (h locks) (h locked) (relation_of layout index) s index was moved (below_there block states.Unstarted next)
              (takes_at states.Unstarted next takes) (turns_at Mapping states.Unstarted next turns) (kind_there block states.Unstarted next)

          pub turned_at : StandsNext layout pages index block states.Emptying → ((x : Spot) → x.block ≡ block → c.bytes x ≡ None) → TakesAll (h locks) (h locked) relation (block ∷ 0 ∷ []) s → TurnsBlock c d block Mapping
              → StepsAt layout pages new locks locked s (hand_at index stages.Judge was) (hand_at index stages.Count moved) (did.Moved points.Turn)
          turned_at next none takes turns = turned (shape_of layout index) c d (h locks) (h locked) (relation_of layout index) s index was moved (below_there block states.Emptying next)
              (takes_at states.Emptying next takes) (turns_at Mapping states.Emptying next turns) (kind_there block states.Emptying next) (empty_there states.Emptying next none)

          pub counts_left_over_at : StandsNext layout pages index block states.LeftOver → IsFreeFor (h locks) s (page_of relation 0) → CountsBlock c d → GivesAll (h locks) (h locked) s
              → StepsAt layout pages new locks locked s (hand_at index stages.Judge was) (hand_at index stages.Judge moved) (did.Finished points.Meta)
          counts_left_over_at next free made gives = counts_left_over (shape_of layout index) c d (h locks) (h locked) (relation_of layout index) s index was moved (below_there block states.LeftOver next)
              (kind_there block states.LeftOver next) (subst (λ (r : ℕ). IsFreeFor (h locks) s (page_of r 0)) at free) made gives

          pub counts_at : CountsBlock c d → GivesAll (h locks) (h locked) s → StepsAt layout pages new locks locked s (hand_at index stages.Count was) (hand_at index stages.Judge moved) (did.Finished points.Meta)
          counts_at made gives = counts (shape_of layout index) c d (h locks) (h locked) (relation_of layout index) s index was moved made gives

        free_at : (page : ℕ) → IsFreeFor (h locks) s (page_of relation page) → IsFree (lock_in layout locks index) s page
        free_at page free = subst (λ (r : ℕ). IsFreeFor (h locks) s (page_of r page)) at free

        pub flags_at : StandsNext layout pages index block states.Regular → IsFreeFor (h locks) s (page_of relation block) → TurnsBlock c d block Emptying
            → StepsAt layout pages new locks locks s (hand_at index stages.Judge was) (hand_at index stages.Judge moved) (did.Moved points.Flag)
        flags_at next free turns = flags (shape_of layout index) c d (h locks) (h locks) (relation_of layout index) s index was moved (below_there block states.Regular next)
            (kind_there block states.Regular next) (subst (IsFree (lock_in layout locks index) s) next.next (free_at block free)) (turns_at Emptying states.Regular next turns)

        pub sweeps_at : (x : Spot) (bytes : List ℕ) → x.block ≡ block → StandsNext layout pages index block states.Emptying → IsNextTuple c.bytes block x bytes → c.entry (seen (shape_of layout index) bytes).range ≢ Some x
            → IsFreeFor (h locks) s (page_of relation block) → DropsBytes c d x → StepsAt layout pages new locks locks s (hand_at index stages.Judge was) (hand_at index stages.Judge moved) (did.Moved points.Drop)
        sweeps_at x bytes on next first unnamed free drops = sweeps (shape_of layout index) c d (h locks) (h locks) (relation_of layout index) s index was moved (below_there block states.Emptying next)
            x bytes (kind_there block states.Emptying next) (subst (λ (b : ℕ). IsNextTuple c.bytes b x bytes) next.next first) unnamed (subst (IsFree (lock_in layout locks index) s) (sym on) (free_at block free)) drops

        module _ (x : Spot) (bytes : List ℕ) (m : ℕ) (next : StandsNext layout pages index block states.Emptying) (first : IsNextTuple c.bytes block x bytes) (of : IsOf bytes (Some m)) (named : c.entry m ≡ Some x) where
          first_next : IsNextTuple c.bytes (next_map_page c.pages) x bytes
          first_next = subst (λ (b : ℕ). IsNextTuple c.bytes b x bytes) next.next first

          pub moves_at : (y : Spot) (locked : LockState) → IsTarget c.pages c.bytes (length bytes) y.block → TakesAll (h locks) (h locked) relation (x.block ∷ y.block ∷ map_page_of m ∷ []) s → PutsBytes c d y bytes
              → StepsAt layout pages new locks locked s (hand_at index stages.Judge was) (hand_at index (stages.Set m x y) bytes) (did.Moved points.Put)
          moves_at y locked target takes puts = moves (shape_of layout index) c d (h locks) (h locked) (relation_of layout index) s index was moved (below_there block states.Emptying next)
              x y bytes m (kind_there block states.Emptying next) first_next of named target (subst (λ (r : ℕ). TakesAll (h locks) (h locked) r (x.block ∷ y.block ∷ map_page_of m ∷ []) s) at takes) puts

          pub put_waits_at : (p q : ℕ) → IsFreeFor (h locks) s (page_of relation x.block) → IsTarget c.pages c.bytes (length bytes) p → IsFirstHeld (h locks) relation s (x.block ∷ p ∷ map_page_of m ∷ []) q
              → StepWaits (shape_of layout index) s (growth_at layout pages locks (hand_at index stages.Judge was)) q
          put_waits_at p q free target held = put_waits (shape_of layout index) c d (h locks) (h locks) (relation_of layout index) s index was moved (below_there block states.Emptying next)
              x bytes m (kind_there block states.Emptying next) first_next of named (free_at x.block free) p q target
              (subst (λ (r : ℕ). IsFirstHeld (h locks) r s (p ∷ map_page_of m ∷ []) q) at (first_rest (h locks) relation s x.block (p ∷ map_page_of m ∷ []) q free held))

          pub put_full_at : IsFreeFor (h locks) s (page_of relation x.block) → ((p : ℕ) → IsTarget c.pages c.bytes (length bytes) p → ⊥) → StepFull (shape_of layout index) s (growth_at layout pages locks (hand_at index stages.Judge was)) layout.sizes.index_blocks
          put_full_at free none = put_full (shape_of layout index) c d (h locks) (h locks) (relation_of layout index) s index was moved (below_there block states.Emptying next)
              x bytes m (kind_there block states.Emptying next) first_next of named (free_at x.block free) layout.sizes.index_blocks limit_there none
