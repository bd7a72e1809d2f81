-- Settled, case by case, and the six cases in one.
use Rattle.std.proofs.Common.{◌≡◌, ◌≢◌, inl, inr, ⊎_elim, ℕ, ◌≤◌, ◌<◌, Option, Some, None, Bool, true, false, sym, ◌∙◌, ap, subst}
use Rattle.std.specs.Prelude.{refl, IsTrue}
use Rattle.std.proofs.lemmas.Option.{same_Some, none-some}
use Rattle.std.proofs.lemmas.Bool.{cases_eq}
use Rattle.block_model.specs.declared.row.Row.{Row}
use Rattle.block_model.specs.declared.place.Spot.{Spot}
use Rattle.coverage.specs.IndexView.{IndexTuple, Progress, ExtentUnread, Passing, Building, IndexView, range_of_block, IsBuilding, NamesTuple}
use Rattle.coverage.specs.IsSettled.{IsAhead, IsInResult, IsSettled, NoEntry, FinalIncludes, PlaceholderIncludes, NobodyBuilding, ResultIncludes, AheadOfPass}
use Rattle.coverage.specs.IsSettled.{IsAwaited, AllAwait, IsAccounted}
use Rattle.coverage.specs.IsSound.{IsSound}

module _ (w : IndexView) (sound : IsSound w) (b : ℕ) (r : Row) where
  same_tuple : (t : IndexTuple) → NamesTuple w (range_of_block w b) t → (y : Spot) (u : IndexTuple) → w.entry (range_of_block w b) ≡ Some y
      → w.tuple y ≡ Some u → t ≡ u
  same_tuple t n y u named here = same_Some _ _ (sym n.2 ∙ ap w.tuple (same_Some _ _ (sym n.1 ∙ named)) ∙ here)

  -- at most one session builds
  same_builder : (s n : ℕ) (p q : Progress) → IsBuilding w s (range_of_block w b) p → IsBuilding w n (range_of_block w b) q → p ≡ q
  same_builder s n p q is other =
      let one : s ≡ n = same_Some _ _ (sym (sound.builder_holds s _ p is) ∙ sound.builder_holds n _ q other) in
      ap (λ (g : Building). g.progress) (same_Some _ _ (sym is ∙ ap w.building one ∙ other))

  result_awaits : (p : Progress) → IsInResult p r → IsAwaited p b r
  result_awaits ExtentUnread has = tt
  result_awaits (Passing extent next result) has = inl has

  ahead_awaits : (p : Progress) → IsAhead p b → IsAwaited p b r
  ahead_awaits ExtentUnread ahead = tt
  ahead_awaits (Passing extent next result) ahead = inr ahead

  pub settled_accounted : IsSettled w b r → IsAccounted w b r
  settled_accounted (NoEntry none) y u named here = absurd (none-some _ (sym none ∙ named))
  settled_accounted (FinalIncludes t n final has) y u named here = inl (subst (λ (q : IndexTuple). IsTrue (q.includes r)) (same_tuple t n y u named here) has)
  settled_accounted (PlaceholderIncludes t n flag has) y u named here =
      inl (subst (λ (q : IndexTuple). IsTrue (q.includes r)) (same_tuple t n y u named here) has)
  settled_accounted (NobodyBuilding t n flag none) y u named here =
      inr (ap (λ (q : IndexTuple). q.placeholder) (sym (same_tuple t n y u named here)) ∙ flag, λ m q is. absurd (none m q is))
  settled_accounted (ResultIncludes t n flag s p is has) y u named here = inr (
    ap (λ (q : IndexTuple). q.placeholder) (sym (same_tuple t n y u named here)) ∙ flag,
    λ m q other. subst (λ a. IsAwaited a b r) (same_builder s m p q is other) (result_awaits p has),
  )
  settled_accounted (AheadOfPass t n flag s p is ahead) y u named here = inr (
    ap (λ (q : IndexTuple). q.placeholder) (sym (same_tuple t n y u named here)) ∙ flag,
    λ m q other. subst (λ a. IsAwaited a b r) (same_builder s m p q is other) (ahead_awaits p ahead),
  )

  -- the other way, for a session that is building, or nobody
  builder_case : (t : IndexTuple) → NamesTuple w (range_of_block w b) t → t.placeholder ≡ true → (s : ℕ) (p : Progress) → IsBuilding w s (range_of_block w b) p
      → IsAwaited p b r → IsSettled w b r
  builder_case t n flag s ExtentUnread is waits = AheadOfPass t n flag s ExtentUnread is tt
  builder_case t n flag s (Passing extent next result) is waits = ⊎_elim
      (λ (has : IsTrue (result.includes r)). ResultIncludes t n flag s (Passing extent next result) is has)
      (λ (left : (next ≤ b) × (b < extent)). AheadOfPass t n flag s (Passing extent next result) is left)
      waits

  module _ (t : IndexTuple) (n : NamesTuple w (range_of_block w b) t) where
    by_summarise_lock : (held : Option ℕ) → w.summarise_lock ≡ held → t.placeholder ≡ true → AllAwait w b r → IsSettled w b r
    by_summarise_lock None free flag waits = NobodyBuilding t n flag (λ s p is. none-some _ (sym free ∙ sound.builder_holds s _ p is))
    by_summarise_lock (Some s) held flag waits = by_work (w.building s) refl
      where
        elsewhere : (m : ℕ) (p : Progress) → IsBuilding w m (range_of_block w b) p → m ≡ s
        elsewhere m p is = same_Some _ _ (sym (sound.builder_holds m _ p is) ∙ held)

        by_work : (g : Option Building) → w.building s ≡ g → IsSettled w b r
        by_work None idle = NobodyBuilding t n flag (λ m p is. none-some _ (sym idle ∙ ap w.building (sym (elsewhere m p is)) ∙ is))
        by_work (Some g) works = ⊎_elim
            (λ (is : g.range ≡ range_of_block w b).
            let here : IsBuilding w s (range_of_block w b) g.progress = works ∙ ap (λ m. Some (record { range = m; progress = g.progress })) is in
            builder_case t n flag s g.progress here (waits s g.progress here))
            (λ (other : g.range ≢ range_of_block w b). NobodyBuilding t n flag
            (λ m p is. other (ap (λ (q : Building). q.range) (same_Some _ _ (sym works ∙ ap w.building (sym (elsewhere m p is)) ∙ is)))))
            (cases_eq g.range (range_of_block w b))

    by_flag : (flag : Bool) → t.placeholder ≡ flag → IsTrue (t.includes r) → IsSettled w b r
    by_flag true flag has = PlaceholderIncludes t n flag has
    by_flag false flag has = FinalIncludes t n flag has

    case_at : IsAccounted w b r → IsSettled w b r
    case_at accounted = ⊎_elim
        (λ (has : IsTrue (t.includes r)). by_flag t.placeholder refl has)
        (λ (waits : (t.placeholder ≡ true) × AllAwait w b r). by_summarise_lock w.summarise_lock refl waits.0 waits.1)
        (accounted n.0 t n.1 n.2)

  pub accounted_settled : IsAccounted w b r → IsSettled w b r
  accounted_settled accounted = by_entry (w.entry (range_of_block w b)) refl
    where
      by_entry : (e : Option Spot) → w.entry (range_of_block w b) ≡ e → IsSettled w b r
      by_entry None none = NoEntry none
      by_entry (Some x) named = let t = sound.entries_name_tuples (range_of_block w b) x named in case_at t.0 (x, named, t.1) accounted
