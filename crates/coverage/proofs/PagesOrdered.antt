-- Each change of pages, tuples and entries leaves the pages in their order.
use Rattle.std.proofs.Common.{◌≡◌, ◌≢◌, ◌⊎◌, inl, inr, ⊎_elim, ℕ, ◌+◌, ◌≤◌, ◌<◌, Some, None, sym, ◌∙◌, ap, subst, arith}
use Rattle.std.specs.Prelude.{refl}
use Rattle.std.proofs.lemmas.Option.{none-some}
use Rattle.std.proofs.lemmas.Bool.{cases_eq}
use Rattle.std.proofs.Math.Nat.{not-le_of_lt}
use Rattle.block_model.specs.declared.place.Spot.{Spot}
use Rattle.coverage.specs.IndexView.{IndexTuple, PageKind, Unstarted, Mapping, Regular, Emptying, Pages, IndexView, map_page_of, next_map_page}
use Rattle.coverage.specs.Changes.{SameMap, SameTuples}
use Rattle.coverage.specs.Rooms.{bytes_of}
use Rattle.coverage.specs.Verdicts.{IsLowestNumber, IsPageUnstarted, IsTarget, OnStarted, OnNew}
use Rattle.coverage.specs.PageOrder.{IsForTuples, AreOrdered, AreNewPages}
use Rattle.coverage.specs.Steps.{TurnsPage, PutsTuple}
use Rattle.coverage.proofs.Numbers.{lt_or_ge}

-- kinds that are apart
abbrev pub IsStarted : PageKind → Type 0
IsStarted Unstarted = ⊥
IsStarted kind = Unit

abbrev pub IsNoMap : PageKind → Type 0
IsNoMap Mapping = ⊥
IsNoMap kind = Unit

-- a page with tuples is started, and is no map page
pub for_tuples : (w : IndexView) (p : ℕ) → IsForTuples w.pages p → IsStarted (w.pages.kind p) × IsNoMap (w.pages.kind p)
for_tuples w p is = elim is [ inl r ↦ (subst IsStarted (sym r) tt, subst IsNoMap (sym r) tt) | inr e ↦ (subst IsStarted (sym e) tt, subst IsNoMap (sym e) tt) ]

-- a page that turns to the kind that it is of
pub turned_same : (w v : IndexView) (page : ℕ) (kind : PageKind) → TurnsPage w.pages v.pages page kind → w.pages.kind page ≡ kind → (p : ℕ)
    → v.pages.kind p ≡ w.pages.kind p
turned_same w v page kind turns was p = elim (turns.kinds p) [ inl at ↦ ap v.pages.kind at ∙ turns.now ∙ sym was ∙ ap w.pages.kind (sym at) | inr e ↦ e ]

abbrev TuplesOn : IndexView → IndexView → Type 0
TuplesOn w v = (x : Spot) (t : IndexTuple) → v.tuple x ≡ Some t → IsForTuples w.pages x.block

abbrev EntriesWithin : IndexView → IndexView → Type 0
EntriesWithin w v = (range : ℕ) (x : Spot) → v.entry range ≡ Some x → map_page_of range ≤ w.pages.map_pages

module _ (w v : IndexView) (ordered : AreOrdered w) where
  -- kinds and counts stay
  pub order_same : ((p : ℕ) → v.pages.kind p ≡ w.pages.kind p) → v.pages.map_pages ≡ w.pages.map_pages → v.pages.limit ≡ w.pages.limit
      → TuplesOn w v → EntriesWithin w v → AreOrdered v
  order_same kinds map_pages limit tuples entries = record {
    counted = subst (λ n. 0 < n) (sym map_pages) ordered.counted;
    map = λ p low. kinds p ∙ ordered.map p (subst (λ n. p ≤ n) map_pages low);
    left_over = λ p is. subst (λ n. p ≤ n + 1) (sym map_pages) (ordered.left_over p (sym (kinds p) ∙ is));
    started = λ p q less is. kinds q ∙ ordered.started p q less (sym (kinds p) ∙ is);
    below = λ p not. subst (λ n. p < n) (sym limit) (ordered.below p (λ is. not (kinds p ∙ is)));
    tuples = λ x t here. elim (tuples x t here) [ inl r ↦ inl (kinds x.block ∙ r) | inr e ↦ inr (kinds x.block ∙ e) ];
    entries = λ range x named. subst (λ n. map_page_of range ≤ n) (sym map_pages) (entries range x named);
  }

  -- where tuples and entries are the same, or fewer
  pub tuples_same : SameTuples w v → TuplesOn w v
  tuples_same same x t here = ordered.tuples x t (sym (same.tuple x) ∙ here)

  pub entries_same : SameMap w v → EntriesWithin w v
  entries_same same range x named = ordered.entries range x (sym (same.entry range) ∙ named)

  pub order_still : SameMap w v → SameTuples w v → v.pages ≡ w.pages → AreOrdered v
  order_still map tuples pages =
      order_same (λ p. ap (λ (g : Pages). g.kind p) pages) (ap (λ (g : Pages). g.map_pages) pages) (ap (λ (g : Pages). g.limit) pages) (tuples_same tuples)
      (entries_same map)

  -- a page past the map, before which none is unstarted, turns to a started kind
  module _ (page : ℕ) (kind : PageKind) (turns : TurnsPage w.pages v.pages page kind) (past : w.pages.map_pages < page) (low : page < w.pages.limit)
      (started : kind ≢ Unstarted) (next : kind ≡ Mapping → page ≤ next_map_page w.pages) (first : (p : ℕ) → p < page → w.pages.kind p ≢ Unstarted) where
    other_kind : (p : ℕ) → p ≢ page → v.pages.kind p ≡ w.pages.kind p
    other_kind p other = ⊎_elim (λ (at : p ≡ page). absurd (other at)) (λ (e : v.pages.kind p ≡ w.pages.kind p). e) (turns.kinds p)

    abbrev Lies : Spot → Type 0
    Lies x = ((x.block ≡ page) × ((kind ≡ Regular) ⊎ (kind ≡ Emptying))) ⊎ ((x.block ≢ page) × IsForTuples w.pages x.block)

    pub order_turned : ((x : Spot) (t : IndexTuple) → v.tuple x ≡ Some t → Lies x) → EntriesWithin w v → AreOrdered v
    order_turned tuples entries = record {
      counted = subst (λ n. 0 < n) (sym turns.map_pages) ordered.counted;
      map = λ p le. let le' = subst (λ n. p ≤ n) turns.map_pages le in other_kind p (omega arith) ∙ ordered.map p le';
      left_over = λ p is. subst (λ n. p ≤ n + 1) (sym turns.map_pages) (⊎_elim
          (λ (at : p ≡ page). subst (λ q. q ≤ next_map_page w.pages) (sym at) (next (sym turns.now ∙ ap v.pages.kind (sym at) ∙ is)))
          (λ (other : p ≢ page). ordered.left_over p (sym (other_kind p other) ∙ is))
          (cases_eq p page));
      started = λ p q less is.
          let was : w.pages.kind p ≡ Unstarted = sym (other_kind p (λ at. started (sym turns.now ∙ ap v.pages.kind (sym at) ∙ is))) ∙ is in
          other_kind q (λ at. first p (subst (λ n. p < n) at less) was) ∙ ordered.started p q less was;
      below = λ p not. subst (λ n. p < n) (sym turns.limit) (⊎_elim
          (λ (at : p ≡ page). subst (λ q. q < w.pages.limit) (sym at) low)
          (λ (other : p ≢ page). ordered.below p (λ is. not (other_kind p other ∙ is)))
          (cases_eq p page));
      tuples = λ x t here. ⊎_elim
          (λ (on : (x.block ≡ page) × ((kind ≡ Regular) ⊎ (kind ≡ Emptying))). ⊎_elim
          (λ (r : kind ≡ Regular). inl (ap v.pages.kind on.0 ∙ turns.now ∙ r))
          (λ (e : kind ≡ Emptying). inr (ap v.pages.kind on.0 ∙ turns.now ∙ e))
          on.1)
          (λ (off : (x.block ≢ page) × IsForTuples w.pages x.block). ⊎_elim
          (λ (r : w.pages.kind x.block ≡ Regular). inl (other_kind x.block off.0 ∙ r))
          (λ (e : w.pages.kind x.block ≡ Emptying). inr (other_kind x.block off.0 ∙ e))
          off.1)
          (tuples x t here);
      entries = λ range x named. subst (λ n. map_page_of range ≤ n) (sym turns.map_pages) (entries range x named);
    }

  -- the next page that isn't started is started, for tuples
  module _ (page : ℕ) (lowest : IsLowestNumber (IsPageUnstarted w.pages) page) (low : page < w.pages.limit) (turns : TurnsPage w.pages v.pages page Regular) where
    past_map : w.pages.map_pages < page
    past_map = elim (lt_or_ge w.pages.map_pages page) [ inl less ↦ less | inr le ↦ absurd (subst IsStarted (sym (ordered.map page le) ∙ lowest.0) tt) ]

    none_before : (p : ℕ) → p < page → w.pages.kind p ≢ Unstarted
    none_before p less is = not-le_of_lt less (lowest.1 p is)

    pub order_started : ((x : Spot) (t : IndexTuple) → v.tuple x ≡ Some t → (x.block ≡ page) ⊎ IsForTuples w.pages x.block) → EntriesWithin w v → AreOrdered v
    order_started tuples entries =
        order_turned page Regular turns past_map low (λ is. subst IsStarted is tt) (λ is. absurd (subst IsNoMap is tt)) none_before
        (λ x t here. ⊎_elim
        (λ (at : x.block ≡ page). inl (at, inl refl))
        (λ (for : IsForTuples w.pages x.block).
        inr ((λ at. subst IsStarted (ap w.pages.kind at ∙ lowest.0) (for_tuples w x.block for).0), for))
        (tuples x t here)) entries

  -- a tuple is put on the page that is its target
  pub order_puts : (s need : ℕ) (y : Spot) (t : IndexTuple) → PutsTuple s w v y t → IsTarget w.pages (bytes_of w.tuple) need y.block → AreOrdered v
  order_puts s need y t puts (OnStarted lowest) =
      order_same (turned_same w v y.block Regular puts.page lowest.0.1) puts.page.map_pages puts.page.limit
      (λ x u here. ⊎_elim
      (λ (at : x ≡ y). subst (λ (z : Spot). IsForTuples w.pages z.block) (sym at) (inl lowest.0.1))
      (λ (e : v.tuple x ≡ w.tuple x). ordered.tuples x u (sym e ∙ here))
      (puts.tuple.others x))
      (entries_same puts.frame.map)
  order_puts s need y t puts (OnNew none lowest low) =
      order_started y.block lowest low puts.page
      (λ x u here. ⊎_elim
      (λ (at : x ≡ y). inl (ap (λ (z : Spot). z.block) at))
      (λ (e : v.tuple x ≡ w.tuple x). inr (ordered.tuples x u (sym e ∙ here)))
      (puts.tuple.others x))
      (entries_same puts.frame.map)

  -- the next page is counted as one of the map
  pub order_counted : v.pages ≡ record w.pages { map_pages = next_map_page w.pages } → w.pages.kind (next_map_page w.pages) ≡ Mapping → SameMap w v
      → SameTuples w v
      → AreOrdered v
  order_counted pages next same_map same_tuples = record {
    counted = subst (λ n. 0 < n) (sym map_pages) (omega arith);
    map = λ p le. kinds p ∙ mapping p (subst (λ n. p ≤ n) map_pages le);
    left_over = λ p is. subst (λ n. p ≤ n + 1) (sym map_pages) (omega (arith, ordered.left_over p (sym (kinds p) ∙ is)));
    started = λ p q less is. kinds q ∙ ordered.started p q less (sym (kinds p) ∙ is);
    below = λ p not. subst (λ n. p < n) (sym (ap (λ (g : Pages). g.limit) pages)) (ordered.below p (λ is. not (kinds p ∙ is)));
    tuples = λ x t here. elim (tuples_same same_tuples x t here) [ inl r ↦ inl (kinds x.block ∙ r) | inr e ↦ inr (kinds x.block ∙ e) ];
    entries = λ range x named.
        subst (λ n. map_page_of range ≤ n) (sym map_pages) (omega (arith, entries_same same_map range x named));
  }
    where
      map_pages : v.pages.map_pages ≡ next_map_page w.pages
      map_pages = ap (λ (g : Pages). g.map_pages) pages

      kinds : (p : ℕ) → v.pages.kind p ≡ w.pages.kind p
      kinds p = ap (λ (g : Pages). g.kind p) pages

      mapping : (p : ℕ) → p ≤ next_map_page w.pages → w.pages.kind p ≡ Mapping
      mapping p le = elim (cases_eq p (next_map_page w.pages)) [ inl at ↦ ap w.pages.kind at ∙ next | inr other ↦ ordered.map p (omega arith) ]

-- a new index
pub order_new : (w : IndexView) → AreNewPages w.pages → ((x : Spot) → w.tuple x ≡ None) → ((range : ℕ) → w.entry range ≡ None) → AreOrdered w
order_new w new tuples entries = record {
  counted = subst (λ n. 0 < n) (sym new.one) (omega arith);
  map = λ p le. new.map p (omega (arith, subst (λ n. p ≤ n) new.one le));
  left_over = λ p is. subst (λ n. p ≤ n + 1) (sym new.one) (⊎_elim
      (λ (low : p < 2). below p low)
      (λ (high : 2 ≤ p). absurd (subst IsStarted (sym is ∙ new.rest p high) tt))
      (lt_or_ge p 2));
  started = λ p q less is. elim (lt_or_ge p 2) [ inl low ↦ absurd (subst IsStarted (sym (new.map p low) ∙ is) tt) | inr high ↦ new.rest q (omega arith) ];
  below = λ p not. elim (lt_or_ge p 2) [ inl low ↦ omega (arith, low, new.below) | inr high ↦ absurd (not (new.rest p high)) ];
  tuples = λ x t here. absurd (none-some _ (sym (tuples x) ∙ here));
  entries = λ range x named. absurd (none-some _ (sym (entries range) ∙ named));
}
  where
    below : (p : ℕ) → p < 2 → p ≤ 1 + 1
    below p low = omega arith
