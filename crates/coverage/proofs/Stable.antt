-- What a statement knows stays true while others step.
use Rattle.std.proofs.Common.{◌≡◌, ◌≢◌, inl, inr, ⊎_elim, ℕ, ◌/◌, Some, None, Bool, sym, ◌∙◌, ap, subst}
use Rattle.std.specs.Prelude.{IsTrue}
use Rattle.std.proofs.lemmas.Option.{same_Some}
use Rattle.block_model.specs.declared.row.Row.{Row}
use Rattle.block_model.specs.declared.place.Spot.{Spot}
use Rattle.coverage.specs.IndexView.{IndexTuple, Progress, ExtentUnread, Passing, IndexView, range_of_block, IsRangeOf, NamesPlaceholder}
use Rattle.coverage.specs.IsSound.{IsSound}
use Rattle.coverage.specs.GoesOn.{IsHeld, GoesOn}
use Rattle.coverage.specs.Changes.{IsFree}
use Rattle.coverage.specs.Statements.{OnIndex, Empty, Held, Copied, Moving, Dropping, Phase, NotBuilding, Vacant, Growing, Evacuating, Placing, IsAt, Scan}
use Rattle.coverage.specs.Statements.{Statement, Idle, Inserting, Maintaining, Holding, Scanning, IsAdded}
use Rattle.coverage.specs.Knowing.{LocksNone, HoldsNothing, KnowsOnIndex, SettledBy, MakesUnited, MakesNone, MakesSame, HasPlaced, KnowsPhase, KnowsRow, Knows}
use Rattle.coverage.specs.Knowing.{IsResultFormed, Spares}
use Rattle.coverage.proofs.Formed.{formed_on, range_of_on}

-- Where nobody else locks the page and the session locks none, a tuple of the range at a place that it holds is the one that the map names.
pub held_named : (w : IndexView) (s range : ℕ) (x : Spot) (t : IndexTuple) → IsSound w → IsHeld w range x → w.tuple x ≡ Some t → t.range ≡ range
    → IsFree w.lock s x.block → LocksNone w.lock s → w.entry range ≡ Some x
held_named w s range x t sound held here of free none = ⊎_elim
    (λ (named : w.entry range ≡ Some x). named)
    (λ (loose : (n : ℕ) × (w.loose n ≡ Some x)).
    let locked = sound.loose_is_locked loose.0 x loose.1 in
    absurd (none x.block (locked ∙ ap Some (free loose.0 locked))))
    (held t here of)

module _ (a : ℕ) (d : ℕ → ℕ → Bool) (w v : IndexView) (sound : IsSound w) (on : GoesOn a d w v) (s : ℕ) (other : s ≢ a) where
  none_on : LocksNone w.lock s → LocksNone v.lock s
  none_on none p is = none p (on.no_lock_given p s is other)

  nothing_on : HoldsNothing w s → HoldsNothing v s
  nothing_on holds = (none_on holds.0, λ is. holds.1 (on.no_summarise_lock_given s is other))

  not_actor : w.summarise_lock ≡ Some s → w.summarise_lock ≡ Some a → ⊥
  not_actor held is = other (same_Some _ _ (sym held ∙ is))

  unset_on : w.summarise_lock ≡ Some s → (range : ℕ) → w.entry range ≡ None → v.entry range ≡ None
  unset_on held range none = ⊎_elim (λ (e : v.entry range ≡ None). e) (λ (is : w.summarise_lock ≡ Some a). absurd (not_actor held is)) (on.unset range none)

  pub placeholder_on : w.summarise_lock ≡ Some s → (range : ℕ) → NamesPlaceholder w range → NamesPlaceholder v range
  placeholder_on held range names =
      ⊎_elim (λ (n : NamesPlaceholder v range). n) (λ (is : w.summarise_lock ≡ Some a). absurd (not_actor held is)) (on.placeholders range names)

  on_index_on : (range : ℕ) (Makes : IndexTuple → IndexTuple → Type 0) (on_index : OnIndex) → KnowsOnIndex w s range Makes on_index
      → KnowsOnIndex v s range Makes on_index
  on_index_on range Makes Empty known = none_on known
  on_index_on range Makes (Held x) known = (none_on known.0, on.held range x known.1)
  on_index_on range Makes (Copied x old new) known =
      (none_on known.0, on.held range x known.1, known.2, known.3, formed_on w v on.contents on.pages_per_range on.blocks new known.4)
  on_index_on range Makes (Moving x y old new) known = (
    on.locks x.block s known.0 other,
    on.locks y.block s known.1 other,
    on.entries range x s known.2 known.0 other,
    on.tuples x s known.0 other ∙ known.3,
    on.tuples y s known.1 other ∙ known.4,
    known.5,
    known.6,
    known.7,
  )
  on_index_on range Makes (Dropping x) known = (
    on.locks x.block s known.0 other,
    λ m is. unnamed_on m is,
    (known.2.0, on.tuples x s known.0 other ∙ known.2.1),
  )
    where
      unnamed_on : (m : ℕ) → v.entry m ≢ Some x
      unnamed_on m is = elim (on.named m x is) [ inl e ↦ known.1 m e | inr e ↦ other (same_Some _ _ (sym known.0 ∙ sound.loose_is_locked a x e)) ]

  placed_on : (range : ℕ) (x : Spot) → HasPlaced w s range x → HasPlaced v s range x
  placed_on range x known =
      (on.locks x.block s known.0 other, (known.1.0, on.tuples x s known.0 other ∙ known.1.1, known.1.2, known.1.3))

  settled_by_on : (b k : ℕ) (r : Row) (on_index : OnIndex) → w.row b k ≡ Some r → SettledBy w b r on_index → SettledBy v b r on_index
  settled_by_on b k r (Dropping x) there known = on.settled b k r there known
  settled_by_on b k r _ there known = tt

  its_range_on : (range : ℕ) → IsRangeOf w range → IsRangeOf v range
  its_range_on range is = range_of_on w v on.contents on.pages_per_range on.blocks range is

  result_on : (p : Progress) → IsResultFormed w p → IsResultFormed v p
  result_on ExtentUnread formed = tt
  result_on (Passing extent next result) formed = formed_on w v on.contents on.pages_per_range on.blocks result formed

  phase_on : w.summarise_lock ≡ Some s → (range : ℕ) (phase : Phase) → KnowsPhase w s range phase → KnowsPhase v s range phase
  phase_on held range (NotBuilding on_index) known = on_index_on range MakesNone on_index known
  phase_on held range Vacant known = (none_on known.0, unset_on held range known.1, its_range_on range known.2)
  phase_on held range Growing known = (unset_on held range known.0, its_range_on range known.1)
  phase_on held range (Evacuating m on_index) known = (unset_on held range known.0, on_index_on m MakesSame on_index known.1, its_range_on range known.2)
  phase_on held range (Placing x) known = (unset_on held range known.0, placed_on range x known.1, its_range_on range known.2)
  phase_on held range (IsAt p on_index) known =
      (on_index_on range (MakesUnited p) on_index known.0, its_range_on range known.1, result_on p known.2)

  summarise_lock_on : w.summarise_lock ≡ Some s → v.summarise_lock ≡ Some s
  summarise_lock_on held = ⊎_elim (λ (is : s ≡ a). absurd (other is)) (λ (e : v.summarise_lock ≡ Some s). e) (on.summarise_lock s held)

  there_on : (b k : ℕ) (r : Row) → (IsTrue (d b k) → ⊥) → w.row b k ≡ Some r → v.row b k ≡ Some r
  there_on b k r alive there = ⊎_elim (λ (e : v.row b k ≡ Some r). e) (λ (dead : IsTrue (d b k)). absurd (alive dead)) (on.rows b k r there)

  row_on : (scan : Scan) (b k : ℕ) (r : Row) → (IsTrue (d b k) → ⊥) → KnowsRow w scan b k r → KnowsRow v scan b k r
  row_on scan b k r alive known = record {
    there = there_on b k r alive known.there;
    settled = on.settled b k r known.there known.settled;
    shown = λ x held. on.shows x b k r known.there known.settled (known.shown x (held ∙ ap (λ n. Some (b / n, x)) on.pages_per_range));
    kept = known.kept;
  }

  pub knows_on : (d' : Statement) → Spares d d' → Knows w s d' → Knows v s d'
  knows_on Idle spared known = nothing_on known
  knows_on (Inserting b k r on_index) spared known = (
    there_on b k r spared known.0,
    λ is. known.1 (on.no_summarise_lock_given s is other),
    subst (λ n. KnowsOnIndex v s (b / n) (IsAdded r) on_index) (sym on.pages_per_range) (on_index_on (range_of_block w b) (IsAdded r) on_index known.2),
    settled_by_on b k r on_index known.0 known.3,
  )
  knows_on (Maintaining range phase) spared known = (summarise_lock_on known.0, phase_on known.0 range phase known.1)
  knows_on Holding spared known = (summarise_lock_on known.0, none_on known.1)
  knows_on (Scanning scan) spared known = (
    nothing_on known.0,
    (λ range x held. on.held range x (known.1 range x held)),
    λ b k sees. let row = known.2 b k sees in
        (row.0, row_on scan b k row.0 (spared b k sees) row.1),
  )
