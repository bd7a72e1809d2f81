-- where sessions took their views
use Rattle.std.proofs.Common.{◌≡◌, ◌⊎◌, inl, inr, ℕ, ◌==◌, ◌&&◌, ◌||◌, Bool, true, false, if◌then◌else◌, List, [], ◌∷◌, ◌++◌, refl, sym, ap, subst, ◌∙◌, Option, Some, None, eq-eqb, eqb-true, ne_eqb}
use Rattle.std.specs.List.{list_any}
use Rattle.std.specs.FinMap.{get}
use Rattle.std.proofs.Math.Bool.{or-false}
use Rattle.std.proofs.lemmas.Bool.{and_left, and_parts, and_right, cases_eq, false≢true, or_left, or_right}
use Rattle.std.proofs.lemmas.List.{append-nil}
use Rattle.std.proofs.lemmas.List.Folds.{list_any-append}
use Rattle.block_model.specs.declared.request.Entry.{Entry}
use Rattle.block_model.specs.declared.request.Request.{Request}
use Rattle.block_model.specs.declared.request.Request.TheVariants.{Begin, Put, Look, Mark, Commit, Rollback}
use Rattle.block_model.specs.DatabaseState.{DatabaseState, OpenTransaction}
use Rattle.block_model.specs.RequestEffect.{Answer, effect_outside, after_request, new_transaction}
use Rattle.block_model.specs.SerialRun.{serial_run, serial_run-append}
use Rattle.block_model.specs.NumberMaps.{found_after_put, none_Some}
use Rattle.block_model.specs.RequestLaws.{effect_by, others_stay}
use Rattle.script_semantics.specs.DeadRows.{HasEnded}
use Rattle.script_semantics.specs.Openings.{NoneOpen}
use Rattle.script_semantics.specs.Views.{AllTook, Took, takes_a_view, takes_view, view_front}
use Rattle.script_semantics.specs.ViewsTaken.{IsBeforeLast, ViewsAreTaken}
use Rattle.script_semantics.proofs.Numbers.{run_ended}

-- ---- fronts of lists of requests

module _ (n : ℕ) where
  pub takes_own : (e : Entry) → takes_view n e ≡ true → n ≡ e.session
  takes_own e takes = sym (eqb-true e.session n (and_parts (e.session == n) (takes_a_view e.request) takes).0)

  pub others_take_none : (e : Entry) → (n ≡ e.session → ⊥) → takes_view n e ≡ false
  others_take_none e apart = and_left (e.session == n) (takes_a_view e.request) (ne_eqb e.session n (λ same. apart (sym same)))

  pub no_view : (e : Entry) → (e.request ≡ Begin → ⊥) → takes_view n e ≡ false
  no_view e other = and_right (e.session == n) (takes_a_view e.request) (by e.request other)
    where
      by : (r : Request) → (r ≡ Begin → ⊥) → takes_a_view r ≡ false
      by Begin other = absurd (other refl)
      by (Put values) other = refl
      by (Look q) other = refl
      by (Mark id) other = refl
      by Commit other = refl
      by Rollback other = refl

  -- behind a front
  pub view_behind : (before behind : List Entry) → Took n behind → view_front n (before ++ behind) ≡ before ++ view_front n behind
  view_behind [] behind took = refl
  view_behind (e ∷ before) behind took =
      let later : list_any (takes_view n) (before ++ behind) ≡ true = list_any-append (takes_view n) before behind ∙ or_right (list_any (takes_view n) before) (list_any (takes_view n) behind) took in
      ap (λ b. if b then e ∷ view_front n (before ++ behind) else []) later ∙ ap (λ (l : List Entry). e ∷ l) (view_behind before behind took)

  pub view_here : (journal : List Entry) (e : Entry) → takes_view n e ≡ true → view_front n (journal ++ e ∷ []) ≡ journal
  view_here journal e takes = view_behind journal (e ∷ []) (ap (λ b. b || false) takes) ∙ append-nil journal

  -- before requests by which it takes none
  none_taken : (more : List Entry) → list_any (takes_view n) more ≡ false → view_front n more ≡ []
  none_taken [] none = refl
  none_taken (e ∷ more) none = elim (list_any (takes_view n) more) as (λ b. (takes_view n e || b) ≡ false → (if b then e ∷ view_front n more else []) ≡ []) [
    | true ↦ λ is. absurd (false≢true (sym is ∙ or_right (takes_view n e) true refl))
    | false ↦ λ _. refl
  ] none

  pub view_stays : (journal more : List Entry) → list_any (takes_view n) more ≡ false → view_front n (journal ++ more) ≡ view_front n journal
  view_stays [] more none = none_taken more none
  view_stays (e ∷ journal) more none =
      let same : list_any (takes_view n) (journal ++ more) ≡ list_any (takes_view n) journal = list_any-append (takes_view n) journal more ∙ ap (λ b. list_any (takes_view n) journal || b) none ∙ or-false (list_any (takes_view n) journal) in
      λ i. if same i then e ∷ view_stays journal more none i else []

  -- the journal goes on behind it
  pub view_splits : (journal : List Entry) → (rest : List Entry) × (view_front n journal ++ rest ≡ journal)
  view_splits [] = ([], refl)
  view_splits (e ∷ journal) = elim (list_any (takes_view n) journal) as (λ b. (rest : List Entry) × ((if b then e ∷ view_front n journal else []) ++ rest ≡ e ∷ journal)) [
    | true ↦ let later = view_splits journal in (later.0, ap (λ (l : List Entry). e ∷ l) later.1)
    | false ↦ (e ∷ journal, refl)
  ]

  before_last : (journal : List Entry) → Took n journal → IsBeforeLast n (view_front n journal) journal
  before_last [] took = absurd (false≢true took)
  before_last (e ∷ journal) took = elim (list_any (takes_view n) journal) as (λ b. list_any (takes_view n) journal ≡ b → (takes_view n e || b) ≡ true → IsBeforeLast n (if b then e ∷ view_front n journal else []) (e ∷ journal)) [
    | true ↦ λ later _. let rest = before_last journal later in record { entry = rest.entry; behind = rest.behind; split = ap (λ (l : List Entry). e ∷ l) rest.split; takes = rest.takes; last = rest.last }
    | false ↦ λ none takes. record { entry = e; behind = journal; split = refl; takes = sym (or-false (takes_view n e)) ∙ takes; last = none }
  ] refl took

-- what has ended there has ended behind it
pub ended_since : (o : DatabaseState) (journal : List Entry) (n t : ℕ) → HasEnded (serial_run o (view_front n journal)) t → HasEnded (serial_run o journal) t
ended_since o journal n t ended =
    let rest = view_splits n journal in
    subst (λ (s : DatabaseState). HasEnded s t) (sym (serial_run-append o (view_front n journal) rest.0) ∙ ap (serial_run o) rest.1) (run_ended (serial_run o (view_front n journal)) rest.0 t ended)

-- ---- open transactions

-- of a session that has none, a begin alone makes one
pub only_begin : (s : DatabaseState) (e : Entry) (y : OpenTransaction) → get s.sessions e.session ≡ None → get (after_request s e).sessions e.session ≡ Some y → (e.request ≡ Begin) × (y ≡ new_transaction s)
only_begin s e y idle found = go e.request (ap (λ (p : DatabaseState × Answer). get p.0.sessions e.session) (sym (effect_by s e None idle)) ∙ found)
  where
    go : (r : Request) → get (effect_outside s e.session r).0.sessions e.session ≡ Some y → (r ≡ Begin) × (y ≡ new_transaction s)
    go Begin got = (refl, elim (found_after_put s.sessions e.session e.session (new_transaction s) y got) [ inl here ↦ sym here.1 | inr there ↦ absurd (there.0 refl) ])
    go (Put values) got = absurd (none_Some y (sym idle ∙ got))
    go (Look q) got = absurd (none_Some y (sym idle ∙ got))
    go (Mark id) got = absurd (none_Some y (sym idle ∙ got))
    go Commit got = absurd (none_Some y (sym idle ∙ got))
    go Rollback got = absurd (none_Some y (sym idle ∙ got))

pub begin_takes : (e : Entry) → e.request ≡ Begin → takes_view e.session e ≡ true
begin_takes e begins = λ i. (eq-eqb e.session e.session refl i) && takes_a_view (begins i)

abbrev HasOne : DatabaseState → ℕ → Type 0
HasOne s n = (x : OpenTransaction) × (get s.sessions n ≡ Some x)

-- a session that has one took its view by the request, or had one before
took_own : (s : DatabaseState) (e : Entry) (was : Option OpenTransaction) → get s.sessions e.session ≡ was → HasOne (after_request s e) e.session → (takes_view e.session e ≡ true) ⊎ HasOne s e.session
took_own s e None idle one = inl (begin_takes e (only_begin s e one.0 idle one.1).0)
took_own s e (Some x) was one = inr (x, was)

took_step : (s : DatabaseState) (e : Entry) (n : ℕ) → HasOne (after_request s e) n → (takes_view n e ≡ true) ⊎ HasOne s n
took_step s e n one = elim (cases_eq n e.session) [
  | inl own ↦ subst (λ m. HasOne (after_request s e) m → (takes_view m e ≡ true) ⊎ HasOne s m) (sym own) (took_own s e (get s.sessions e.session) refl) one
  | inr apart ↦ inr (one.0, sym (others_stay s e n apart) ∙ one.1)
]

took_run : (s : DatabaseState) (journal : List Entry) (n : ℕ) → HasOne (serial_run s journal) n → Took n journal ⊎ HasOne s n
took_run s [] n one = inr one
took_run s (e ∷ journal) n one = elim (took_run (after_request s e) journal n one) [
  | inl later ↦ inl (or_right (takes_view n e) (list_any (takes_view n) journal) later)
  | inr there ↦ elim (took_step s e n there) [ inl here ↦ inl (or_left (takes_view n e) (list_any (takes_view n) journal) here) | inr was ↦ inr was ]
]

pub all_took : (o : DatabaseState) (journal : List Entry) → NoneOpen o → AllTook (serial_run o journal) journal
all_took o journal none n x found = elim (took_run o journal n (x, found)) [ inl took ↦ took | inr was ↦ absurd (none_Some was.0 (sym (none n) ∙ was.1)) ]

pub views_are_taken : ViewsAreTaken
views_are_taken = record {
  took = all_took;
  front = before_last;
  unended = λ o journal n x found ended. (ended_since o journal n x.t ended).1 (n, x, found, refl);
}
