-- Where nobody is at work, a covered index is what steps keep.
use Rattle.std.proofs.Common.{◌≡◌, ◌⊎◌, inl, inr, ⊎_elim, ℕ, ◌/◌, ◌<◌, Some, Bool, true, sym, ◌∙◌, ap, subst, rules}
use Rattle.std.specs.Prelude.{refl, IsTrue}
use Rattle.std.proofs.lemmas.Option.{same_Some, none-some}
use Rattle.std.proofs.lemmas.Bool.{false≢true}
use Rattle.std.proofs.Math.Nat.{lt_of_lt_of_le}
use Rattle.block_model.specs.declared.row.Row.{Row}
use Rattle.block_model.specs.declared.place.Spot.{Spot}
use Rattle.coverage.specs.IndexView.{IndexTuple, Contents, Progress, Pages, range_of_block, IsTupleOf, IsBuilding}
use Rattle.coverage.specs.IsSettled.{IsSettled, AllAwait, IsAccounted}
use Rattle.coverage.specs.IsSound.{IsSound}
use Rattle.coverage.specs.Statements.{OnIndex, Scan, Inserting, Scanning, AreLawful, loose_of, building_of}
use Rattle.coverage.specs.Knowing.{Knows}
use Rattle.coverage.specs.PageOrder.{AreOrdered, AreNewPages, KnowsPages}
use Rattle.coverage.specs.IsCovered.{IndexState, index_view, new_index, AreRowsBelow, IsFoundOrUnread, IsCovered, IsAtRest, IsIndexKept}
use Rattle.coverage.specs.Steps.{IsRangeExcluded, StartsPage, Stops}
use Rattle.coverage.proofs.Settled.{settled_accounted}
use Rattle.coverage.proofs.Formed.{tuple_of_on}
use Rattle.coverage.proofs.PagesOrdered.{order_same, entries_same, order_started, order_new}

module _ (w : IndexState) (covered : IsCovered w) (rest : IsAtRest w) (ranged : 0 < w.pages_per_range) (rows_below : AreRowsBelow w)
    (ordered : AreOrdered (index_view w)) (lawful : AreLawful w.contents) where
  nobody_builds : (s range : ℕ) (p : Progress) → IsBuilding (index_view w) s range p → ⊥
  nobody_builds s range p is = none-some _ (sym (ap building_of (rest.idle s)) ∙ is)

  nothing_loose : (s : ℕ) (x : Spot) → loose_of (w.statement s) ≡ Some x → ⊥
  nothing_loose s x is = none-some _ (sym (ap loose_of (rest.idle s)) ∙ is)

  names_some : (range : ℕ) (x : Spot) → w.entry range ≡ Some x → (t : IndexTuple) × (w.tuple x ≡ Some t) × (t.range ≡ range)
  names_some range x named = let t = covered.entries_name_tuples range x named in (t.0, t.1, t.2)

  all_formed : (x : Spot) (t : IndexTuple) → w.tuple x ≡ Some t → IsTupleOf (index_view w) t ⊎ IsTrue (w.unnamed x)
  all_formed x t here = ⊎_elim
      (λ (named : w.entry t.range ≡ Some x).
      let by_map = covered.entries_name_tuples t.range x named in
      inl (subst (IsTupleOf (index_view w)) (same_Some _ _ (sym by_map.1 ∙ here)) by_map.3))
      (λ (o : ((s : ℕ) × (loose_of (w.statement s) ≡ Some x) × (w.lock x.block ≡ Some s)) ⊎ IsTrue (w.unnamed x)). ⊎_elim
      (λ (loose : (s : ℕ) × (loose_of (w.statement s) ≡ Some x) × (w.lock x.block ≡ Some s)). absurd (nothing_loose loose.0 x loose.1))
      (λ (unnamed : IsTrue (w.unnamed x)). inr unnamed)
      o)
      (covered.tuples_are_named x t here)

  rest_sound : IsSound (index_view w)
  rest_sound = search (rules, lawful, nobody_builds, nothing_loose, names_some, all_formed)

  pub rest_kept : IsIndexKept w
  rest_kept = record {
    sound = rest_sound;
    ordered = ordered;
    knows_pages = λ s. subst (λ d. KnowsPages (index_view w) s d) (sym (rest.idle s)) tt;
    knows =
        λ s.
        subst (λ d. Knows (index_view w) s d) (sym (rest.idle s)) ((λ p is. none-some _ (sym (rest.unlocked p) ∙ is)), λ is. none-some _ (sym rest.free ∙ is));
    rows = λ b k r there counts. ⊎_elim
        (λ (a : IsSettled (index_view w) b r). inl (settled_accounted (index_view w) rest_sound b r a))
        (λ (i : (s : ℕ) × (on_index : OnIndex) × (w.statement s ≡ Inserting b k r on_index)). inr i)
        (covered.rows_settled b k r there counts);
  }

-- a new table's index
pub new_kept : (contents : Contents) (per blocks : ℕ) (pages : Pages) (counts : ℕ → Bool) → AreLawful contents → 0 < per → AreNewPages pages
    → IsIndexKept (new_index contents per blocks pages counts)
new_kept contents per blocks pages counts lawful some new = record {
  sound = search (rules, lawful);
  ordered = order_new (index_view (new_index contents per blocks pages counts)) new (λ x. refl) (λ range. refl);
  knows_pages = λ s. tt;
  knows = λ s. ((λ p is. none-some _ is), λ is. none-some _ is);
  rows = λ b k r is counted. absurd (none-some _ is);
}

-- what a scan knows of the rows that its session sees
pub scan_finds : (w : IndexState) (s b k : ℕ) (scan : Scan) → IsIndexKept w → w.statement s ≡ Scanning scan → IsTrue (scan.sees b k)
    → IsFoundOrUnread w scan b k
scan_finds w s b k scan kept is sees =
    let row = (subst (λ d. Knows (index_view w) s d) is (kept.knows s)).2 b k sees in
    (row.0, row.1.there, row.1.kept)

-- no row that the scan sees matches in a range whose tuple excludes the matches
pub scan_excludes : (w : IndexState) (s b k : ℕ) (r : Row) (scan : Scan) → IsIndexKept w → w.statement s ≡ Scanning scan → IsTrue (scan.sees b k)
    → w.row b k ≡ Some r → IsRangeExcluded w scan (range_of_block (index_view w) b) → IsTrue (scan.matches r) → ⊥
scan_excludes w s b k r scan kept is sees there excluded matches =
    let row = (subst (λ d. Knows (index_view w) s d) is (kept.knows s)).2 b k sees in
    let has : IsTrue (excluded.1.includes row.0) = row.1.shown excluded.0 excluded.2 excluded.1 excluded.3 excluded.4 excluded.5.final in
    excluded.5.none r (subst (λ q. IsTrue (excluded.1.includes q)) (same_Some _ _ (sym row.1.there ∙ there)) has) matches

-- after a stop
module _ (w v : IndexState) (kept : IsIndexKept w) (stops : Stops w v) where
  nobody_builds' : (s range : ℕ) (p : Progress) → IsBuilding (index_view v) s range p → ⊥
  nobody_builds' s range p is = none-some _ (sym (ap building_of (stops.rest.idle s)) ∙ is)

  -- a tuple that stands there stood there before
  came : (x : Spot) (t : IndexTuple) → v.tuple x ≡ Some t → w.tuple x ≡ Some t
  came x t here = elim (stops.tuples x) [ inl same ↦ sym same ∙ here | inr gone ↦ absurd (none-some _ (sym gone.0 ∙ here)) ]

  stopped_ordered : AreOrdered (index_view v)
  stopped_ordered = ⊎_elim
      (λ (pages : v.pages ≡ w.pages).
      order_same (index_view w) (index_view v) kept.ordered (λ p. ap (λ (g : Pages). g.kind p) pages) (ap (λ (g : Pages). g.map_pages) pages)
      (ap (λ (g : Pages). g.limit) pages) (λ x t here. kept.ordered.tuples x t (came x t here))
      (entries_same (index_view w) (index_view v) kept.ordered stops.map))
      (λ (starts : StartsPage w.pages v.pages).
      order_started (index_view w) (index_view v) kept.ordered starts.page starts.next starts.below starts.turns
      (λ x t here. inr (kept.ordered.tuples x t (came x t here))) (entries_same (index_view w) (index_view v) kept.ordered stops.map))
      stops.pages

  stopped_accounted : (b : ℕ) (r : Row) → IsAccounted (index_view w) b r → IsAccounted (index_view v) b r
  stopped_accounted b r settled x t named here = ⊎_elim
      (λ (has : IsTrue (t.includes r)). inl has)
      (λ (waits : (t.placeholder ≡ true) × AllAwait (index_view w) b r).
      inr (waits.0, λ s p is. absurd (nobody_builds' s (range_of_block (index_view v) b) p is)))
      (settled x t (ap (λ m. w.entry (b / m)) (sym stops.pages_per_range) ∙ sym (stops.map.entry (range_of_block (index_view v) b)) ∙ named)
      (came x t here))

  -- what was unnamed at the opening and stands still is unnamed
  stopped_formed : (x : Spot) (t : IndexTuple) → v.tuple x ≡ Some t → IsTupleOf (index_view v) t ⊎ IsTrue (v.unnamed x)
  stopped_formed x t here = ⊎_elim
      (λ (is : IsTupleOf (index_view w) t). inl (tuple_of_on (index_view w) (index_view v) stops.contents stops.pages_per_range stops.blocks t is))
      (λ (unnamed : IsTrue (w.unnamed x)). ⊎_elim
      (λ (named : v.entry t.range ≡ Some x).
      absurd ((kept.sound.unnamed_tuples x unnamed).unnamed t.range (sym (stops.map.entry t.range) ∙ named)))
      (λ (u : IsTrue (v.unnamed x)). inr u)
      (stops.unnamed x t here))
      (kept.sound.formed x t (came x t here))

  pub stopped_kept : IsIndexKept v
  stopped_kept = record {
    sound = record {
      lawful = subst AreLawful (sym stops.contents) kept.sound.lawful;
      ranged = subst (λ n. 0 < n) (sym stops.pages_per_range) kept.sound.ranged;
      rows_below = λ b k r there. lt_of_lt_of_le (kept.sound.rows_below b k r (sym (stops.row b k) ∙ there)) stops.blocks;
      entries_name_tuples = λ m x named.
          let t = kept.sound.entries_name_tuples m x (sym (stops.map.entry m) ∙ named) in (
            t.0,
            elim (stops.tuples x) [ inl same ↦ same ∙ t.1 | inr gone ↦ absurd (gone.1 m (sym (stops.map.entry m) ∙ named)) ],
            t.2,
          );
      tuples_are_named = λ x t here. elim (stops.unnamed x t here) [ inl e ↦ inl e | inr u ↦ inr (inr u) ];
      formed = stopped_formed;
      unnamed_tuples = stops.rest.unnamed_tuples;
      builder_holds = λ s range p is. absurd (nobody_builds' s range p is);
      loose_is_locked = λ s x is. absurd (none-some _ (sym (ap loose_of (stops.rest.idle s)) ∙ is));
    };
    ordered = stopped_ordered;
    knows_pages = λ s. subst (λ d. KnowsPages (index_view v) s d) (sym (stops.rest.idle s)) tt;
    knows =
        λ s.
        subst (λ d. Knows (index_view v) s d) (sym (stops.rest.idle s))
        ((λ p is. none-some _ (sym (stops.rest.unlocked p) ∙ is)), λ is. none-some _ (sym stops.rest.free ∙ is));
    rows = λ b k r there counted. ⊎_elim
        (λ (a : IsAccounted (index_view w) b r). inl (stopped_accounted b r a))
        (λ (i : (s : ℕ) × (on_index : OnIndex) × (w.statement s ≡ Inserting b k r on_index)).
        absurd (false≢true (sym (stops.running i.0 b k r i.1 i.2) ∙ counted)))
        (kept.rows b k r (sym (stops.row b k) ∙ there) (stops.counts r.id.t counted));
  }
