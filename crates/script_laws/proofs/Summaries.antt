-- A summarise of one range that steps alone, from the map's reading to the reply.
use Rattle.std.proofs.Common.{◌≡◌, ℕ, zero, suc, ◌+◌, ◌*◌, ◌-◌, ◌≤◌, ◌<◌, min, List, [], ◌∷◌, length, Option, None, Some, refl, sym, ◌∙◌, subst, arith}
use Rattle.std.specs.Prelude.{codes}
use Rattle.std.proofs.Math.Nat.{add-mul}
use Rattle.std.proofs.lemmas.Option.{none-some}
use Rattle.block_model.specs.declared.place.Spot.{Spot}
use Rattle.block_model.specs.declared.reply.Point.{Point}
use Rattle.block_model.specs.declared.reply.Point.TheVariants as points
use Rattle.block_model.specs.declared.reply.Reply.{Reply}
use Rattle.block_model.specs.declared.row.Row.{Row}
use Rattle.coverage.specs.IndexPart.{IndexPart, SummariseMakes, part_of}
use Rattle.coverage.specs.IndexView.{Contents, ExtentUnread, IndexTuple, IndexView, IsFormed, IsPastMap, Passing, Regular, map_page_of}
use Rattle.coverage.specs.Rooms.{bytes_of, place_room}
use Rattle.coverage.specs.Statements as statements
use Rattle.coverage.specs.Statements.{AreLawful, Copied, Empty, Held, Holding, IsAt, Maintaining, NotBuilding, Phase, Placing, Vacant, row_added, rows_added}
use Rattle.coverage.proofs.SmallIndex.{at_here, placed_others}
use Rattle.script_semantics.specs.Place.{Place}
use Rattle.script_semantics.specs.StatementSteps.{reply_after}
use Rattle.store_layout.specs.declared.limits.TheConstants.{MAX_ENTRIES}
use Rattle.store_layout.specs.declared.statement.Statement.{Statement}
use Rattle.coverage.specs.Accounts.{Asked}
use Rattle.coverage.specs.InOneIndex.{JobMakes, index_with}
use Rattle.coverage.specs.Table.{Considers, Index, Job, Maintains, TableState}
use Rattle.coverage.specs.TableSteps.{HasRange, IsLastIndex, first_block}
use Rattle.script_laws.specs.Finds.{LacksTuple}
use Rattle.script_laws.specs.Words.{blocks_of, passes}
use Rattle.script_laws.proofs.IndexMakes.{AreOwn, makes_copy, makes_extent, makes_map, makes_no_entry, makes_pass, makes_put, makes_set, makes_swap, own_locks, placed_here, put_part, set_part, tuple_part}
use Rattle.script_laws.proofs.Maintained.{Suits, at_stage, counted, ends_at_range, stays_at_range}
use Rattle.script_laws.proofs.Places.{Answer}
use Rattle.script_laws.proofs.RoomInPlace.{room_in_place}
use Rattle.script_laws.proofs.Stages.{Stage, shown}

added_formed : (contents : Contents) → AreLawful contents → (o : Option Row) (t : IndexTuple) → IsFormed contents t → IsFormed contents (row_added contents o t)
added_formed contents lawful None t is = is
added_formed contents lawful (Some r) t is = (lawful.added r t is).0

pub rows_formed : (contents : Contents) → AreLawful contents → (row : ℕ → Option Row) (slots : ℕ) (t : IndexTuple) → IsFormed contents t → IsFormed contents (rows_added contents row slots t)
rows_formed contents lawful row zero t is = is
rows_formed contents lawful row (suc n) t is = added_formed contents lawful (row n) (rows_added contents row n t) (rows_formed contents lawful row n t is)

all_passed : (extent next : ℕ) → extent ≡ next + 0 → extent ≤ next
all_passed extent next is = omega arith

one_left : (extent next left : ℕ) → extent ≡ next + suc left → next < extent
one_left extent next left is = omega arith

one_passed : (extent next left : ℕ) → extent ≡ next + suc left → extent ≡ (next + 1) + left
one_passed extent next left is = omega arith

within : (a b c : ℕ) → a ≤ b → b ≤ c → a ≤ c
within a b c one two = omega arith

to_pass : (blocks range per : ℕ) → range * per < blocks → min blocks ((range + 1) * per) ≡ range * per + (min blocks ((range + 1) * per) - range * per)
to_pass blocks range per less = omega (arith, add-mul range 1 per)

not_past : (a b : ℕ) → a ≤ b → b < a → ⊥
not_past a b le less = omega arith

module _ (p : Place) (n t at : ℕ) (st : Statement) (rows unnamed : ℕ) (suits : Suits p n t at st rows unnamed) (fits : length p.journal ≤ MAX_ENTRIES) (below : at < (p.tables t).indexes)
    (job : Job) (range : ℕ) (queue : List Asked) where
  abbrev w0 : TableState
  w0 = p.tables t

  abbrev its : ℕ
  its = (w0.index at).pages_per_range

  abbrev seen : Index → IndexView
  seen x = shown w0 n at x (λ s. None) (λ s. None)

  -- the job is a summarise, whose last range this is, and its reply when it has counted one
  pub record EndsHere (reply : Reply) : Type 0 where
    pub lift : (u : IndexView) (part : IndexPart) (old : Phase) (new : statements.Statement) (point : Point) (count : ℕ) → SummariseMakes n range u part old new point count
        → JobMakes job n range u part old new point count
    pub no_range : (w : TableState) → (w.index at).pages_per_range ≡ its → HasRange w job at (suc range) → ⊥
    pub last : (w : TableState) → w.indexes ≡ w0.indexes → IsLastIndex w job at

  -- the map names a tuple of the range, in whose place the longest has room
  record IsNamed (x : Index) (y : Spot) (old : IndexTuple) : Type 0 where
    entry : x.entry range ≡ Some y
    stands : x.tuple y ≡ Some old
    of : old.range ≡ range
    formed : IsFormed x.contents old
    regular : x.pages.kind y.block ≡ Regular
    room : x.contents.greatest ≤ place_room (bytes_of x.tuple) y
    unlocked : (page : ℕ) → x.lock page ≡ None
    lawful : AreLawful x.contents
    few : range < x.contents.ranges
    per : x.pages_per_range ≡ its

  abbrev Its : Index → Phase → Type 0
  Its x phase = Stage w0 n at x (Maintains job at range phase)

  own_of : (x : Index) → ((page : ℕ) → x.lock page ≡ None) → AreOwn n x.lock
  own_of x unlocked page m is = absurd (none-some _ (sym (unlocked page) ∙ is))

  none_of : (x : Index) → ((page : ℕ) → x.lock page ≡ None) → (page : ℕ) → x.lock page ≡ Some n → ⊥
  none_of x unlocked page is = none-some _ (sym (unlocked page) ∙ is)

  module _ (reply : Reply) (ends : EndsHere reply) (replied : Some reply ≡ reply_after p.layout t (Considers job at (suc range)) (counted rows unnamed 1) [] st)
      (slots : (b k : ℕ) → w0.rows_per_page ≤ k → w0.row b k ≡ None) where
    module _ (x : Index) (y : Spot) (old : IndexTuple) (named : IsNamed x y old) where
      mine : AreOwn n x.lock
      mine = own_of x named.unlocked

      swaps : (extent next : ℕ) (result : IndexTuple) → IsFormed x.contents result → (stage : Its x (IsAt (Passing extent next result) (Copied y old (x.contents.united old result))))
          → Answer n (at_stage p n t at st rows unnamed suits fits below stage 0 queue) [] reply queue
      swaps extent next result formed stage =
          let new = x.contents.united old result in
          let size = (named.lawful.united old result named.formed formed).0.size in
          let room = within (length new.bytes) x.contents.greatest (place_room (bytes_of x.tuple) y) size named.room in
          ends_at_range p n t at st rows unnamed suits fits below job range x (tuple_part n range (seen x) mine y (Some new)) (IsAt (Passing extent next result) (Copied y old new))
          points.Swap 1 0 queue stage
          (λ building loose. ends.lift _ _ _ _ _ _ (makes_swap n range (shown w0 n at x building loose) mine extent next result y old new named.stands named.regular room))
          (λ w per. ends.no_range w (per ∙ named.per)) ends.last reply replied

      copies : (extent next : ℕ) (result : IndexTuple) → extent ≤ next → IsFormed x.contents result → (stage : Its x (IsAt (Passing extent next result) (Held y)))
          → Answer n (at_stage p n t at st rows unnamed suits fits below stage 0 queue) (codes "copy" ∷ []) reply queue
      copies extent next result all formed stage =
          stays_at_range p n t at st rows unnamed suits fits below job range x (part_of (seen x)) (IsAt (Passing extent next result) (Held y))
          (IsAt (Passing extent next result) (Copied y old (x.contents.united old result))) points.Copy 0 0 queue stage
          (λ building loose. ends.lift _ _ _ _ _ _ (makes_copy n range (shown w0 n at x building loose) mine (none_of x named.unlocked) extent next result y old all (named.stands, named.of)))
          (λ q. refl) [] reply (λ on. swaps extent next result formed on)

      maps : (extent next : ℕ) (result : IndexTuple) → extent ≤ next → IsFormed x.contents result → (stage : Its x (IsAt (Passing extent next result) Empty))
          → Answer n (at_stage p n t at st rows unnamed suits fits below stage 0 queue) (codes "map" ∷ codes "copy" ∷ []) reply queue
      maps extent next result all formed stage =
          stays_at_range p n t at st rows unnamed suits fits below job range x (part_of (seen x)) (IsAt (Passing extent next result) Empty) (IsAt (Passing extent next result) (Held y))
          points.Map 0 0 queue stage
          (λ building loose. ends.lift _ _ _ _ _ _ (makes_map n range (shown w0 n at x building loose) mine (none_of x named.unlocked) extent next result y all named.entry))
          (λ q. refl) (codes "copy" ∷ []) reply (λ on. copies extent next result all formed on)

      pass : (left extent next : ℕ) (result : IndexTuple) → extent ≡ next + left → IsFormed x.contents result → (stage : Its x (IsAt (Passing extent next result) Empty))
          → Answer n (at_stage p n t at st rows unnamed suits fits below stage 0 queue) (passes left (codes "map" ∷ codes "copy" ∷ [])) reply queue
      pass zero extent next result is formed stage = maps extent next result (all_passed extent next is) formed stage
      pass (suc left) extent next result is formed stage =
          let wider = rows_added x.contents (w0.row next) w0.rows_per_page result in
          stays_at_range p n t at st rows unnamed suits fits below job range x (part_of (seen x)) (IsAt (Passing extent next result) Empty) (IsAt (Passing extent (next + 1) wider) Empty)
          points.Pass 0 0 queue stage
          (λ building loose. ends.lift _ _ _ _ _ _ (makes_pass n range (shown w0 n at x building loose) mine (none_of x named.unlocked) extent next w0.rows_per_page result
          (one_left extent next left is) (λ k le. slots next k le)))
          (λ q. refl) (passes left (codes "map" ∷ codes "copy" ∷ [])) reply
          (λ on. pass left extent (next + 1) wider (one_passed extent next left is) (rows_formed x.contents named.lawful (w0.row next) w0.rows_per_page result formed) on)

      extends : first_block w0 at range < w0.blocks → (stage : Its x (IsAt ExtentUnread Empty))
          → Answer n (at_stage p n t at st rows unnamed suits fits below stage 0 queue) (codes "extent" ∷ passes (blocks_of w0 at range) (codes "map" ∷ codes "copy" ∷ [])) reply queue
      extends begins stage =
          let extent = min w0.blocks ((range + 1) * x.pages_per_range) in
          let next = range * x.pages_per_range in
          let result = x.contents.empty range in
          let left : extent ≡ next + blocks_of w0 at range =
          subst (λ (per : ℕ). min w0.blocks ((range + 1) * per) ≡ range * per + blocks_of w0 at range) (sym named.per) (to_pass w0.blocks range its begins) in
          stays_at_range p n t at st rows unnamed suits fits below job range x (part_of (seen x)) (IsAt ExtentUnread Empty) (IsAt (Passing extent next result) Empty)
          points.Extent 0 0 queue stage
          (λ building loose. ends.lift _ _ _ _ _ _ (makes_extent n range (shown w0 n at x building loose) mine (none_of x named.unlocked) extent refl))
          (λ q. refl) (passes (blocks_of w0 at range) (codes "map" ∷ codes "copy" ∷ [])) reply
          (λ on. pass (blocks_of w0 at range) extent next result left (named.lawful.empty range named.few).0 on)

    -- a range without a tuple
    module _ (lacks : LacksTuple w0 at range) (unlocked : (page : ℕ) → (w0.index at).lock page ≡ None) where
      abbrev x0 : Index
      x0 = w0.index at

      abbrev y : Spot
      y = lacks.place

      abbrev empty : IndexTuple
      empty = x0.contents.empty range

      first_own : AreOwn n x0.lock
      first_own = own_of x0 unlocked

      abbrev x1 : Index
      x1 = index_with (put_part n range (seen x0) first_own y empty) x0

      put_own : AreOwn n x1.lock
      put_own page m is = own_locks n (y.block ∷ map_page_of range ∷ []) page m is

      abbrev x2 : Index
      x2 = index_with (set_part n range (seen x1) put_own (Some y) []) x1

      named : IsNamed x2 y empty
      named = record {
        entry = at_here range (Some y) (x0.entry range);
        stands = placed_here y (Some empty) x0.tuple;
        of = (lacks.lawful.empty range lacks.few).1.of;
        formed = (lacks.lawful.empty range lacks.few).0;
        regular = at_here y.block Regular (x0.pages.kind y.block);
        room = room_in_place x0.tuple x1.tuple y empty x0.contents.greatest lacks.target.1
            (record { was = lacks.target.1.0; now = placed_here y (Some empty) x0.tuple; others = placed_others y (Some empty) x0.tuple })
            (lacks.lawful.empty range lacks.few).0.size lacks.roomy;
        unlocked = λ page. refl;
        lawful = lacks.lawful;
        few = lacks.few;
        per = refl;
      }

      sets : (stage : Its x1 (Placing y))
          → Answer n (at_stage p n t at st rows unnamed suits fits below stage 0 queue) (codes "set" ∷ codes "extent" ∷ passes (blocks_of w0 at range) (codes "map" ∷ codes "copy" ∷ [])) reply queue
      sets stage =
          stays_at_range p n t at st rows unnamed suits fits below job range x1 (set_part n range (seen x1) put_own (Some y) []) (Placing y) (IsAt ExtentUnread Empty) points.Set 0 0 queue stage
          (λ building loose. ends.lift _ _ _ _ _ _ (makes_set n range (shown w0 n at x1 building loose) put_own y))
          (λ q. refl) (codes "extent" ∷ passes (blocks_of w0 at range) (codes "map" ∷ codes "copy" ∷ [])) reply (λ on. extends x2 y empty named lacks.begins on)

      puts : (stage : Its x0 Vacant) → Answer n (at_stage p n t at st rows unnamed suits fits below stage 0 queue)
          (codes "put" ∷ codes "set" ∷ codes "extent" ∷ passes (blocks_of w0 at range) (codes "map" ∷ codes "copy" ∷ [])) reply queue
      puts stage =
          stays_at_range p n t at st rows unnamed suits fits below job range x0 (put_part n range (seen x0) first_own y empty) Vacant (Placing y) points.Put 0 0 queue stage
          (λ building loose. ends.lift _ _ _ _ _ _ (makes_put n range (shown w0 n at x0 building loose) first_own y
          (λ (past : IsPastMap x0.pages range). not_past (map_page_of range) x0.pages.map_pages lacks.mapped past) lacks.target))
          (λ q. refl) (codes "set" ∷ codes "extent" ∷ passes (blocks_of w0 at range) (codes "map" ∷ codes "copy" ∷ [])) reply (λ on. sets on)

      pub summarises : (stage : Its x0 (NotBuilding Empty)) → Answer n (at_stage p n t at st rows unnamed suits fits below stage 0 queue)
          (codes "map" ∷ codes "put" ∷ codes "set" ∷ codes "extent" ∷ passes (blocks_of w0 at range) (codes "map" ∷ codes "copy" ∷ [])) reply queue
      summarises stage =
          stays_at_range p n t at st rows unnamed suits fits below job range x0 (part_of (seen x0)) (NotBuilding Empty) Vacant points.Map 0 0 queue stage
          (λ building loose. ends.lift _ _ _ _ _ _ (makes_no_entry n range (shown w0 n at x0 building loose) first_own (none_of x0 unlocked) lacks.none (lacks.begins, lacks.few)))
          (λ q. refl) (codes "put" ∷ codes "set" ∷ codes "extent" ∷ passes (blocks_of w0 at range) (codes "map" ∷ codes "copy" ∷ [])) reply (λ on. puts on)
