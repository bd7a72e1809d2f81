-- What a step of a maintenance statement leaves.
use Rattle.std.proofs.Common.{◌≡◌, ◌≢◌, inl, inr, ⊎_elim, ℕ, ◌+◌, ◌*◌, ◌<◌, Option, Some, None, true, sym, ◌∙◌, ap, subst}
use Rattle.std.specs.Prelude.{refl, IsTrue}
use Rattle.std.proofs.lemmas.Option.{same_Some, none-some}
use Rattle.block_model.specs.declared.place.Spot.{Spot}
use Rattle.coverage.specs.IndexView.{IndexTuple, IsFormed, Progress, ExtentUnread, Passing, IndexView, next_map_page, IsRangeOf, IsBuilding}
use Rattle.coverage.specs.IsSound.{IsSound}
use Rattle.coverage.specs.Changes.{SameHeap, TouchesNothing, Frame, at_work, Turns, StartsBuilding, ReadsExtent, PassesBlock, Carries, Places, Names, Turn as TurnKind}
use Rattle.coverage.specs.Changes.{IsUntouched, Clears, Sweeps}
use Rattle.coverage.specs.Statements.{OnIndex, Empty, Held, Copied, Moving, Dropping, Phase, NotBuilding, Vacant, Growing, Evacuating, Placing, IsAt, Statement}
use Rattle.coverage.specs.Statements.{Maintaining, Holding, IsUnited, loose_at, loose_of, building_at, building_of}
use Rattle.coverage.specs.Knowing.{LocksNone, MakesUnited, MakesNone, MakesSame, IsResultFormed, KnowsPhase, Knows}
use Rattle.coverage.specs.IsCovered.{IndexState, index_view}
use Rattle.coverage.specs.Steps.{PutsTuple, SetsEntry, ClearsEntry, IsUnnamed, SweepsTuples, GrowthStep, Grow, CountLeftOver, Count, Flag, EvacuatePut}
use Rattle.coverage.specs.Steps.{EvacuateSet, EvacuateDrop, EvacuateSweep, Turn, SummariseStep, LookMap, LookGone, IsFinal, Found, ReadNoEntry, GrowMap, Put}
use Rattle.coverage.specs.Steps.{Set, Extent, Pass, Unite, UniteCopies, SwapFinal, SetFinal, DropOld, DesummariseStep, ClearMap, ClearNone, Clear, ClearAgain}
use Rattle.coverage.specs.Steps.{DropCleared, MaintainStep, Summarises, Desummarises, Turned}
use Rattle.coverage.proofs.Sound.{places_sound, names_sound, turn_sound, clears_sound, sweeps_sound}
use Rattle.coverage.proofs.RowsAdded.{rows_formed, rows_wider, rows_has}
use Rattle.coverage.proofs.Formed.{range_of_on, no_less, named_formed, held_formed, its_range}
use Rattle.coverage.proofs.BuildingGoesOn.{turn_go_on, places_go_on, names_go_on}
use Rattle.coverage.proofs.OthersGoOn.{clears_go_on, sweeps_go_on}
use Rattle.coverage.proofs.OnIndexSteps.{never, Both, loose_same, loose_turns, building_same, building_turns, may_end, locks_by, nothing_loose, loose_locked}
use Rattle.coverage.proofs.OnIndexSteps.{looks_both, drop_both, swap_both, set_both, set_knows, put_both, put_knows, on_index_step, copy_knows}
use Rattle.coverage.proofs.InsertSteps.{on_index_keeps}

makes_none : (w : IndexView) (s range : ℕ) (old new : IndexTuple) → MakesNone old new → (new.range ≡ old.range) × Carries w s range old new
makes_none w s range old new how = absurd how

makes_same : (w : IndexView) (s range : ℕ) (old new : IndexTuple) → MakesSame old new → (new.range ≡ old.range) × Carries w s range old new
makes_same w s range old new same = (
  ap (λ (u : IndexTuple). u.range) same,
  ((λ r has. subst (λ (u : IndexTuple). IsTrue (u.includes r)) (sym same) has), inl (ap (λ (u : IndexTuple). u.placeholder) same)),
)

makes_united : (w : IndexView) (s range : ℕ) (p : Progress) → IsBuilding w s range p → (old new : IndexTuple) → MakesUnited p old new
    → (new.range ≡ old.range) × Carries w s range old new
makes_united w s range ExtentUnread building old new how = absurd how
makes_united w s range (Passing extent next result) building old new how = (
  how.1.range,
  (how.1.wider, inr (how.1.placeholder, (extent, next, result, building, how.0, how.1.united))),
)

-- tuples that the map doesn't name go, whoever drops them
module _ (s : ℕ) (w v : IndexState) (d e : Statement) (turned : Turned s w v d e) (sound : IsSound (index_view w)) where
  pub unnamed_all : (x : Spot) → IsUnnamed (index_view w) x → (m : ℕ) → w.entry m ≢ Some x
  unnamed_all x unnamed m is =
      let by_map = sound.entries_name_tuples m x is in
      let of : unnamed.0.range ≡ m = ap (λ (u : IndexTuple). u.range) (same_Some _ _ (sym unnamed.1 ∙ by_map.1)) ∙ by_map.2 in
      unnamed.2 (ap w.entry of ∙ is)

  pub sweep_both : (p : ℕ) (Sweeping : Spot → Type 0) → ((x : Spot) → x.block ≡ p → Sweeping x → IsUnnamed (index_view w) x) → loose_of d ≡ None
      → loose_of e ≡ None → building_of e ≡ building_of d
      → SweepsTuples s (index_view w) (index_view v) p Sweeping → Both s (index_view w) (index_view v)
  sweep_both p Sweeping unnamed was now work sweeps =
      let kind : Sweeps s (index_view w) (index_view v) p = record {
        places = λ x. ⊎_elim
            (λ (same : IsUntouched (index_view w) (index_view v) x). inl same)
            (λ (swept : (x.block ≡ p) × Sweeping x).
            let gone = sweeps.gone x swept.1 in
            inr (record { on = swept.0; unnamed = unnamed_all x (unnamed x swept.0 swept.1); now = gone.0; gone = gone.1 }))
            (sweeps.places x);
        free = sweeps.free;
        loose = loose_same s w v d e turned (now ∙ sym was);
        frame = sweeps.frame;
        work = record { building = building_same s w v d e turned work };
        locked = locks_by s w v d e turned (nothing_loose s w v d e turned now);
      } in
      (sweeps_sound s (index_view w) (index_view v) p sound kind, sweeps_go_on s never (index_view w) (index_view v) p sound kind)

module _ (s range : ℕ) (w v : IndexState) (sound : IsSound (index_view w)) (summarise_lock : w.summarise_lock ≡ Some s) where
  abbrev pub Left : Statement → Type 0
  Left new = Both s (index_view w) (index_view v) × Knows (index_view v) s new

  module _ (old : Phase) (new : Statement) (turned : Turned s w v (Maintaining range old) new) where
    read : loose_at old ≡ None → loose_of new ≡ None → building_of new ≡ building_at range old → Frame s TouchesNothing (index_view w) (index_view v)
        → Knows (index_view v) s new → Left new
    read was now work looks knows = (looks_both s w v (Maintaining range old) new turned sound was now work looks, knows)

  module _ (old new : Phase) (turned : Turned s w v (Maintaining range old) (Maintaining range new)) where
    -- the extent is read, a block passed, or a found placeholder taken up
    turn : loose_at old ≡ None → loose_at new ≡ None → (p q : Option Progress) → building_at range old ≡ at_work range p
        → building_at range new ≡ at_work range q
        → Turns (index_view w) s range p q → Frame s TouchesNothing (index_view w) (index_view v) → KnowsPhase (index_view v) s range new
        → Left (Maintaining range new)
    turn was now p q before after turns looks knows =
        let kind : TurnKind s (index_view w) (index_view v) range p q = record {
          turns = turns;
          building = building_turns s w v (Maintaining range old) (Maintaining range new) turned (at_work range p) (at_work range q) before after;
          frame = looks;
          loose = loose_same s w v (Maintaining range old) (Maintaining range new) turned (now ∙ sym was);
          locked =
              locks_by s w v (Maintaining range old) (Maintaining range new) turned
              (nothing_loose s w v (Maintaining range old) (Maintaining range new) turned now);
        } in (
          (turn_sound s (index_view w) (index_view v) range p q sound kind, turn_go_on s never (index_view w) (index_view v) range p q sound kind),
          (looks.summarise_lock ∙ summarise_lock, knows),
        )

  -- a range of the table is one still
  range_kept : v.contents ≡ w.contents → SameHeap (index_view w) (index_view v) → IsRangeOf (index_view w) range → IsRangeOf (index_view v) range
  range_kept contents heap its =
      range_of_on (index_view w) (index_view v) contents heap.pages_per_range (no_less v.blocks w.blocks heap.blocks) range its

  result_kept : (p : Progress) → v.contents ≡ w.contents → IsResultFormed (index_view w) p → IsResultFormed (index_view v) p
  result_kept ExtentUnread same formed = tt
  result_kept (Passing extent next result) same formed = subst (λ c. IsFormed c result) (sym same) formed

  put : (x : Spot) (t : IndexTuple) → Turned s w v (Maintaining range Vacant) (Maintaining range (Placing x)) → t.range ≡ range → t.placeholder ≡ true
      → PutsTuple s (index_view w) (index_view v) x t
      → v.lock x.block ≡ Some s → w.entry range ≡ None → IsFormed w.contents t → IsRangeOf (index_view w) range → Left (Maintaining range (Placing x))
  put x t turned of flag puts locked none formed its =
      let kind : Places s (index_view w) (index_view v) x t = record {
        tuple = puts.tuple;
        free = puts.free;
        placeholder = flag;
        vacant = ap w.entry of ∙ none;
        formed = (formed, subst (λ n. n * w.pages_per_range < w.blocks) (sym of) its.0);
        loose = loose_turns s w v (Maintaining range Vacant) (Maintaining range (Placing x)) turned None (Some x) refl refl;
        building =
            building_turns s w v (Maintaining range Vacant) (Maintaining range (Placing x)) turned None (at_work t.range (Some ExtentUnread)) refl
            (ap (λ m. at_work m (Some ExtentUnread)) (sym of));
        summarise_lock = summarise_lock;
        frame = puts.frame;
        locked =
            locks_by s w v (Maintaining range Vacant) (Maintaining range (Placing x)) turned
            (loose_locked s w v (Maintaining range Vacant) (Maintaining range (Placing x)) turned x refl locked);
      } in (
        (places_sound s (index_view w) (index_view v) x t sound kind, places_go_on s never (index_view w) (index_view v) x t sound kind),
        (
          puts.frame.summarise_lock ∙ summarise_lock,
          (puts.frame.map.entry range ∙ none, (locked, (t, puts.tuple.now, of, flag)), range_kept puts.frame.contents puts.frame.heap its),
        ),
      )

  set : (x : Spot) → Turned s w v (Maintaining range (Placing x)) (Maintaining range (IsAt ExtentUnread Empty))
      → SetsEntry s (index_view w) (index_view v) range x → LocksNone v.lock s
      → KnowsPhase (index_view w) s range (Placing x) → Left (Maintaining range (IsAt ExtentUnread Empty))
  set x turned sets none known =
      let t = known.1.1 in
      let kind : Names s (index_view w) (index_view v) range x t.0 = record {
        entry = record { was = known.0; now = sets.entry.now; others = sets.entry.others };
        loose = loose_turns s w v (Maintaining range (Placing x)) (Maintaining range (IsAt ExtentUnread Empty)) turned (Some x) None refl refl;
        there = t.1;
        of = t.2;
        placeholder = t.3;
        building = ap building_of turned.was;
        work = record { building = building_same s w v (Maintaining range (Placing x)) (Maintaining range (IsAt ExtentUnread Empty)) turned refl };
        frame = sets.frame;
        locked =
            locks_by s w v (Maintaining range (Placing x)) (Maintaining range (IsAt ExtentUnread Empty)) turned
            (nothing_loose s w v (Maintaining range (Placing x)) (Maintaining range (IsAt ExtentUnread Empty)) turned refl);
      } in (
        (names_sound s (index_view w) (index_view v) range x t.0 sound kind, names_go_on s never (index_view w) (index_view v) range x t.0 sound kind),
        (sets.frame.summarise_lock ∙ summarise_lock, (none, range_kept sets.frame.contents sets.frame.heap known.2, tt)),
      )

  clear : (x : Spot) → Turned s w v (Maintaining range (NotBuilding (Held x))) (Maintaining range (NotBuilding (Dropping x)))
      → ClearsEntry s (index_view w) (index_view v) range x → v.lock x.block ≡ Some s → Left (Maintaining range (NotBuilding (Dropping x)))
  clear x turned clears locked =
      let kind : Clears s (index_view w) (index_view v) range x = record {
        entry = clears.entry;
        loose = loose_turns s w v (Maintaining range (NotBuilding (Held x))) (Maintaining range (NotBuilding (Dropping x))) turned None (Some x) refl refl;
        free = clears.free;
        summarise_lock = summarise_lock;
        frame = clears.frame;
        work = record { building = building_same s w v (Maintaining range (NotBuilding (Held x))) (Maintaining range (NotBuilding (Dropping x))) turned refl };
        locked = locks_by s w v (Maintaining range (NotBuilding (Held x))) (Maintaining range (NotBuilding (Dropping x))) turned
            (loose_locked s w v (Maintaining range (NotBuilding (Held x))) (Maintaining range (NotBuilding (Dropping x))) turned x refl locked);
      } in (
        (clears_sound s (index_view w) (index_view v) range x sound kind, clears_go_on s never (index_view w) (index_view v) range x sound kind),
        (clears.frame.summarise_lock ∙ summarise_lock, (locked, unnamed, (there.0, clears.frame.tuples.tuple x ∙ there.1))),
      )
    where
      there : (t : IndexTuple) × (w.tuple x ≡ Some t) × (t.range ≡ range)
      there = sound.entries_name_tuples range x clears.entry.was

      unnamed : (m : ℕ) → v.entry m ≢ Some x
      unnamed m is = ⊎_elim
          (λ (at : m ≡ range). none-some _ (sym clears.entry.now ∙ ap v.entry (sym at) ∙ is))
          (λ (kept : v.entry m ≡ w.entry m).
          let t = sound.entries_name_tuples m x (sym kept ∙ is) in
          let at : m ≡ range = sym t.2 ∙ ap (λ (u : IndexTuple). u.range) (same_Some _ _ (sym t.1 ∙ there.1)) ∙ there.2 in
          none-some _ (sym clears.entry.now ∙ ap v.entry (sym at) ∙ is))
          (clears.entry.others m)

  -- the lock is held for no range, between two of them
  holds : v.summarise_lock ≡ w.summarise_lock → LocksNone v.lock s → Knows (index_view v) s Holding
  holds same none = (same ∙ summarise_lock, none)

  building_here : (p : Progress) (on_index : OnIndex) → w.statement s ≡ Maintaining range (IsAt p on_index) → IsBuilding (index_view w) s range p
  building_here p on_index was = ap building_of was

  growth_left : (old new : Phase) → GrowthStep s range (index_view w) (index_view v) old new → Turned s w v (Maintaining range old) (Maintaining range new)
      → KnowsPhase (index_view w) s range old → Left (Maintaining range new)
  growth_left _ _ (Grow grows free meta turns) turned known =
      read Vacant (Maintaining range Growing) turned refl refl refl turns.frame
      (turns.frame.summarise_lock ∙ summarise_lock, (turns.frame.map.entry range ∙ known.1, range_kept turns.frame.contents turns.frame.heap known.2))
  growth_left _ _ (CountLeftOver grows meta counts) turned known =
      read Vacant (Maintaining range Vacant) turned refl refl refl counts.frame (
        counts.frame.summarise_lock ∙ summarise_lock,
        (counts.none, counts.frame.map.entry range ∙ known.1, range_kept counts.frame.contents counts.frame.heap known.2),
      )
  growth_left _ _ (Count counts) turned known =
      read Growing (Maintaining range Vacant) turned refl refl refl counts.frame (
        counts.frame.summarise_lock ∙ summarise_lock,
        (counts.none, counts.frame.map.entry range ∙ known.0, range_kept counts.frame.contents counts.frame.heap known.1),
      )
  growth_left _ _ (Flag grows free turns) turned known =
      read Vacant (Maintaining range Vacant) turned refl refl refl turns.frame (
        turns.frame.summarise_lock ∙ summarise_lock,
        ((λ p is. turns.locks.only p is), turns.frame.map.entry range ∙ known.1, range_kept turns.frame.contents turns.frame.heap known.2),
      )
  growth_left _ _ (EvacuatePut x y t grows next named free verdict puts these) turned known =
      let here : w.tuple x ≡ Some t = next.stands in
      let source = these.locked x.block (inl refl) in
      let target = these.locked y.block (inr (inl refl)) in (
        put_both s w v (Maintaining range Vacant) (Maintaining range (Evacuating t.range (Moving x y t t))) turned sound t.range MakesSame
            (makes_same (index_view w) s t.range) x y t t named here refl refl (named_formed (index_view w) t.range x t sound named here).0 refl refl refl puts target,
        (
          puts.frame.summarise_lock ∙ summarise_lock,
          (
            puts.frame.map.entry range ∙ known.1,
            put_knows s w v (Maintaining range Vacant) (Maintaining range (Evacuating t.range (Moving x y t t))) turned sound t.range MakesSame
                (makes_same (index_view w) s t.range) x y t t named here refl refl puts source target,
            range_kept puts.frame.contents puts.frame.heap known.2,
          ),
        ),
      )
  growth_left _ _ (EvacuateSet m x y t u sets same) turned known =
      let locked : v.lock x.block ≡ Some s = same.lock x.block ∙ known.1.0 in (
        set_both s w v (Maintaining range (Evacuating m (Moving x y t u))) (Maintaining range (Evacuating m (Dropping x))) turned sound m MakesSame
            (makes_same (index_view w) s m) x y t u known.1 refl refl
            (may_end s w v (Maintaining range (Evacuating m (Moving x y t u))) (Maintaining range (Evacuating m (Dropping x))) turned refl) sets locked,
        (
          sets.frame.summarise_lock ∙ summarise_lock,
          (
            elim (sets.entry.others range) [ inl at ↦ absurd (none-some _ (sym known.0 ∙ ap w.entry at ∙ known.1.2)) | inr kept ↦ kept ∙ known.0 ],
            set_knows s w v (Maintaining range (Evacuating m (Moving x y t u))) (Maintaining range (Evacuating m (Dropping x))) turned sound m MakesSame
                (makes_same (index_view w) s m) MakesSame m x y t u known.1 sets locked,
            range_kept sets.frame.contents sets.frame.heap known.2,
          ),
        ),
      )
  growth_left _ _ (EvacuateDrop m x drops) turned known = (
    drop_both s w v (Maintaining range (Evacuating m (Dropping x)))
        (Maintaining range Vacant) turned sound x known.1.0 known.1.1 known.1.2 refl refl refl drops,
    (drops.frame.summarise_lock ∙ summarise_lock, (drops.none, drops.frame.map.entry range ∙ known.0, range_kept drops.frame.contents drops.frame.heap known.2)),
  )
  growth_left _ _ (EvacuateSweep x t grows next unnamed sweeps) turned known = (
    sweep_both s w v (Maintaining range Vacant) (Maintaining range Vacant) turned sound (next_map_page w.pages) (λ y. y ≡ x)
        (λ y on is. subst (λ z. IsUnnamed (index_view w) z) (sym is) unnamed) refl refl refl sweeps,
    (sweeps.frame.summarise_lock ∙ summarise_lock, (sweeps.none, sweeps.frame.map.entry range ∙ known.1, range_kept sweeps.frame.contents sweeps.frame.heap known.2)),
  )
  growth_left _ _ (Turn grows empty free meta turns) turned known =
      read Vacant (Maintaining range Growing) turned refl refl refl turns.frame
      (turns.frame.summarise_lock ∙ summarise_lock, (turns.frame.map.entry range ∙ known.1, range_kept turns.frame.contents turns.frame.heap known.2))

  pub summarise_left : (old : Phase) (new : Statement) → SummariseStep s range (index_view w) (index_view v) old new → Turned s w v (Maintaining range old) new
      → KnowsPhase (index_view w) s range old → Left new
  summarise_left _ _ (LookMap x named reads) turned known =
      read (NotBuilding Empty) (Maintaining range (NotBuilding (Held x))) turned refl refl refl reads.frame
      (reads.frame.summarise_lock ∙ summarise_lock, (reads.none, λ t here of. inl (reads.frame.map.entry range ∙ named)))
  summarise_left _ _ (LookGone x gone reads) turned known =
      read (NotBuilding (Held x)) (Maintaining range (NotBuilding Empty)) turned refl refl refl reads.frame
      (reads.frame.summarise_lock ∙ summarise_lock, reads.none)
  summarise_left _ _ (IsFinal x t stands final reads) turned known =
      read (NotBuilding (Held x)) Holding turned refl refl refl reads.frame (holds reads.frame.summarise_lock reads.none)
  summarise_left _ _ (Found x t stands flag reads) turned known =
      turn (NotBuilding (Held x)) (IsAt ExtentUnread Empty) turned refl refl None (Some ExtentUnread) refl refl
      (StartsBuilding summarise_lock) reads.frame (
        reads.none,
        range_kept reads.frame.contents reads.frame.heap (its_range (index_view w) range t
            (held_formed (index_view w) range x t sound known.1 stands.0 stands.1) stands.1),
        tt,
      )
  summarise_left _ _ (ReadNoEntry none of reads) turned known =
      read (NotBuilding Empty) (Maintaining range Vacant) turned refl refl refl reads.frame (
        reads.frame.summarise_lock ∙ summarise_lock,
        (reads.none, reads.frame.map.entry range ∙ none, range_kept reads.frame.contents reads.frame.heap of),
      )
  summarise_left _ _ (GrowMap old new step) turned known = growth_left old new step turned known
  summarise_left _ _ (Put x t is long verdict puts these) turned known =
      let empty = sound.lawful.empty range known.2.1 in
      put x t turned (ap (λ (u : IndexTuple). u.range) is ∙ empty.1.of) (ap (λ (u : IndexTuple). u.placeholder) is ∙ empty.1.placeholder) puts
      (these.locked x.block (inl refl)) known.1 (subst (IsFormed w.contents) (sym is) empty.0) known.2
  summarise_left _ _ (Set x sets none) turned known = set x turned sets none known
  summarise_left _ _ (Extent extent result start is reads) turned known =
      turn (IsAt ExtentUnread Empty) (IsAt (Passing extent (range * w.pages_per_range) result) Empty) turned refl refl (Some ExtentUnread)
      (Some (Passing extent (range * w.pages_per_range) result)) refl refl
      (ReadsExtent extent result is) reads.frame (
        reads.none,
        range_kept reads.frame.contents reads.frame.heap known.1,
        subst (λ c. IsFormed c result) (sym reads.frame.contents) (subst (IsFormed w.contents) (sym start) (sound.lawful.empty range known.1.1).0),
      )
  summarise_left _ _ (Pass extent next slots result wider below none made reads) turned known =
      turn (IsAt (Passing extent next result) Empty) (IsAt (Passing extent (next + 1) wider) Empty) turned refl refl (Some (Passing extent next result))
      (Some (Passing extent (next + 1) wider)) refl refl
      (PassesBlock extent next result wider
      (λ r has. subst (λ (u : IndexTuple). IsTrue (u.includes r)) (sym made) (rows_wider w.contents sound.lawful (w.row next) slots result known.2 r has))
      (λ k r there. subst (λ (u : IndexTuple). IsTrue (u.includes r)) (sym made) (rows_has w.contents sound.lawful (w.row next) slots result known.2 none k r there)))
      reads.frame (
        reads.none,
        range_kept reads.frame.contents reads.frame.heap known.1,
        subst (λ c. IsFormed c wider) (sym reads.frame.contents)
            (subst (IsFormed w.contents) (sym made) (rows_formed w.contents sound.lawful (w.row next) slots result known.2)),
      )
  summarise_left _ _ (Unite extent next result old new all step) turned known =
      let p = Passing extent next result in
      let out =
      on_index_step s w v (Maintaining range (IsAt p old)) (Maintaining range (IsAt p new)) turned sound range (MakesUnited p)
      (makes_united (index_view w) s range p (building_here p old turned.was)) old new step known.0 refl refl refl in
      let keeps = on_index_keeps s range (index_view w) (index_view v) old new step in
      (out.0, (keeps.1 ∙ summarise_lock, (out.1, range_kept out.0.1.contents keeps.0 known.1, result_kept p out.0.1.contents known.2)))
  summarise_left _ _ (UniteCopies extent next result x old new all stands united reads) turned known =
      let p = Passing extent next result in
      let its = held_formed (index_view w) range x old sound known.0.1 stands.0 stands.1 in
      let law = sound.lawful.united old result its.0 known.2 in
      let both =
      looks_both s w v (Maintaining range (IsAt p (Held x))) (Maintaining range (IsAt p (Copied x old new))) turned sound refl refl refl reads.frame in (
        both,
        (
          reads.frame.summarise_lock ∙ summarise_lock,
          (
            copy_knows s w v (Maintaining range (IsAt p (Held x))) (Maintaining range (IsAt p (Copied x old new))) turned sound range (MakesUnited p)
                (makes_united (index_view w) s range p (building_here p (Held x) turned.was)) x old new stands.1
                (all, subst (λ (u : IndexTuple). IsUnited result old u) (sym united) law.1) (subst (IsFormed w.contents) (sym united) law.0) both reads.none known.0,
            range_kept reads.frame.contents reads.frame.heap known.1,
            result_kept p reads.frame.contents known.2,
          ),
        ),
      )
  summarise_left _ _ (SwapFinal p x old new verdict swap) turned known = (
    swap_both s w v (Maintaining range (IsAt p (Copied x old new))) Holding turned sound range (MakesUnited p)
        (makes_united (index_view w) s range p (building_here p (Copied x old new) turned.was)) x old new known.0 refl refl
        (may_end s w v (Maintaining range (IsAt p (Copied x old new))) Holding turned refl) swap,
    holds swap.frame.summarise_lock swap.none,
  )
  summarise_left _ _ (SetFinal p x y old new sets same) turned known =
      let locked : v.lock x.block ≡ Some s = same.lock x.block ∙ known.0.0 in (
        set_both s w v (Maintaining range (IsAt p (Moving x y old new))) (Maintaining range (NotBuilding (Dropping x))) turned sound range (MakesUnited p)
            (makes_united (index_view w) s range p (building_here p (Moving x y old new) turned.was)) x y old new known.0 refl refl
            (may_end s w v (Maintaining range (IsAt p (Moving x y old new))) (Maintaining range (NotBuilding (Dropping x))) turned refl) sets locked,
        (
          sets.frame.summarise_lock ∙ summarise_lock,
          set_knows s w v (Maintaining range (IsAt p (Moving x y old new))) (Maintaining range (NotBuilding (Dropping x))) turned sound range (MakesUnited p)
              (makes_united (index_view w) s range p (building_here p (Moving x y old new) turned.was)) MakesNone range x y old new known.0 sets locked,
        ),
      )
  summarise_left _ _ (DropOld x drops) turned known = (
    drop_both s w v (Maintaining range
        (NotBuilding (Dropping x))) Holding turned sound x known.0 known.1 known.2 refl refl refl drops,
    holds drops.frame.summarise_lock drops.none,
  )

  pub desummarise_left : (old : Phase) (new : Statement) → DesummariseStep s range (index_view w) (index_view v) old new
      → Turned s w v (Maintaining range old) new → KnowsPhase (index_view w) s range old → Left new
  desummarise_left _ _ (ClearMap x named reads) turned known =
      read (NotBuilding Empty) (Maintaining range (NotBuilding (Held x))) turned refl refl refl reads.frame
      (reads.frame.summarise_lock ∙ summarise_lock, (reads.none, λ t here of. inl (reads.frame.map.entry range ∙ named)))
  desummarise_left _ _ (ClearNone none reads) turned known =
      read (NotBuilding Empty) Holding turned refl refl refl reads.frame (holds reads.frame.summarise_lock reads.none)
  desummarise_left _ _ (Clear x verdict clears these) turned known = clear x turned clears (these.locked x.block (inl refl))
  desummarise_left _ _ (ClearAgain x verdict reads) turned known =
      read (NotBuilding (Held x)) (Maintaining range (NotBuilding Empty)) turned refl refl refl reads.frame
      (reads.frame.summarise_lock ∙ summarise_lock, reads.none)
  desummarise_left _ _ (DropCleared x drops) turned known = (
    drop_both s w v (Maintaining range
        (NotBuilding (Dropping x))) Holding turned sound x known.0 known.1 known.2 refl refl refl drops,
    holds drops.frame.summarise_lock drops.none,
  )

  pub maintain_left : (old : Phase) (new : Statement) → MaintainStep s range (index_view w) (index_view v) old new → Turned s w v (Maintaining range old) new
      → KnowsPhase (index_view w) s range old → Left new
  maintain_left old new (Summarises step) turned known = summarise_left old new step turned known
  maintain_left old new (Desummarises step) turned known = desummarise_left old new step turned known
