-- work before its first step, and the summary that is asked for first
use Rattle.std.proofs.Common.{◌≡◌, inl, inr, ℕ, ◌<◌, List, [], ◌∷◌, length, drop, Option, None, Some, refl, sym, ap, subst, ◌∙◌, arith}
use Rattle.std.specs.Prelude.{slice_get}
use Rattle.std.proofs.lemmas.Bool.{cases_eq}
use Rattle.std.proofs.lemmas.Option.{none-some, same_Some}
use Rattle.block_model.specs.DatabaseState.{OpenTransaction}
use Rattle.store_layout.specs.DiskLayout.{DiskLayout}
use Rattle.snapshot_core.specs.StoredVersions.{transaction_of}
use Rattle.store_layout.specs.declared.statement.Statement.TheVariants as statements
use Rattle.coverage.specs.Accounts.{Asked, no_account}
use Rattle.coverage.specs.Table.{Resting, TableState, Task}
use Rattle.index_steps.specs.IndexTuples.{index_at}
use Rattle.index_steps.specs.ShownTable.{indexes_of}
use Rattle.index_steps.proofs.Listed.{is_ascending}
use Rattle.brin_insert.specs.AskedFor.{AreRequestsOf, IsRequestOf, NoRequests, OneMoreRequest}
use Rattle.brin_insert.proofs.Numbers.{own_table}
use Rattle.script_semantics.specs.Beginnings.{IsAskedFirst, IsAtRest, IsIn, StandsAt}
use Rattle.script_semantics.specs.Place.{Place, new_hand}
use Rattle.session_parts.specs.declared.hand.Hand.{Hand}
use Rattle.session_parts.specs.declared.hand.Hand.TheVariants as hands
use Rattle.session_parts.specs.Hands.{HandShows}
use Rattle.session_parts.specs.HandsInTables.{IsTaskOf}
use Rattle.session_parts.specs.ShowsPlace.{IsLeftToMark, IsPlaceOf, ShowsTable}
use Rattle.session_parts.specs.StoreStates.{ShownStore, hand_in}
use Rattle.session_parts.proofs.Tables.{unlisted}
use Rattle.session_maintenance.proofs.UpkeepAt.{IsUpkeep, IsUpkeepAt}

-- ---- work before its first step, as a maintenance statement of any index

of_any_copy : (copy : Option OpenTransaction) → IsLeftToMark copy hands.Working
of_any_copy None = tt
of_any_copy (Some x) = tt

-- it is at nothing in its index's table
abbrev pub IsRestingAt : DiskLayout → (index : ℕ) → Task → Type 0
IsRestingAt layout index = IsUpkeepAt layout index (λ at. Resting)

pub is_working : (layout : DiskLayout) (index : ℕ) → index < length layout.schema.indexes → (index_at layout index).table < length layout.schema.tables → IsUpkeep layout hands.Working index (IsRestingAt layout index) no_account
is_working layout index within below =
    let listed = unlisted layout (index_at layout index).table index within refl in
    record {
      within = within;
      below = below;
      lock = refl;
      asks = λ n answers. refl;
      answers = λ answers is. is;
      answered = refl;
      tells = λ account is. is;
      told = refl;
      none = refl;
      own = λ transaction copy. of_any_copy copy;
      in_table = λ table has. absurd (none-some table has);
      no_insert = tt;
      asked = λ asked. tt;
      right = λ table has. absurd (none-some table has);
      task_is = λ table blocks tx stored transaction now is. ((λ own. (listed.0, listed.1, is)), (λ away. is));
      is_task = λ table blocks tx stored transaction now is. elim (cases_eq (index_at layout index).table table) [
        | inl same ↦ (is.0 same).2
        | inr away ↦ is.1 away
      ];
    }

-- ---- where an index stands

not_less : (n : ℕ) → n < n → ⊥
not_less n less = absurd (omega (arith, less))

-- it stands at one place
pub same_place : (layout : DiskLayout) (table i j n : ℕ) → slice_get (indexes_of layout table) i ≡ Some n → slice_get (indexes_of layout table) j ≡ Some n → i ≡ j
unfolding indexes_of
same_place layout table i j n first second =
    let not_before = λ (below : i < j). not_less n (is_ascending table 0 layout.schema.indexes i j n n below first second) in
    let not_behind = λ (below : j < i). not_less n (is_ascending table 0 layout.schema.indexes j i n n below second first) in
    omega (arith, not_before, not_behind)

-- ---- the summary that is asked for first

-- the first request of the store, as that of the place; and those behind it
pub record IsAskedSo (layout : DiskLayout) (requests : List (ℕ × ℕ)) (queue : List Asked) (request : ℕ × ℕ) : Type 0 where
  pub one : Asked
  pub rest : List Asked
  pub is : queue ≡ one ∷ rest
  pub of : IsRequestOf layout request one
  pub left : AreRequestsOf layout (drop 1 requests) rest

pub asked_so : (layout : DiskLayout) (requests : List (ℕ × ℕ)) (queue : List Asked) (request : ℕ × ℕ) → AreRequestsOf layout requests queue → slice_get requests 0 ≡ Some request → IsAskedSo layout requests queue request
asked_so layout _ _ request NoRequests is = absurd (none-some request is)
asked_so layout _ _ request (OneMoreRequest first one requests more of rest) is = record {
  one = one;
  rest = more;
  is = refl;
  of = subst (λ (r : ℕ × ℕ). IsRequestOf layout r one) (same_Some first request is) of;
  left = rest;
}

-- none is asked for
pub none_asked_for : (layout : DiskLayout) (requests : List (ℕ × ℕ)) (queue : List Asked) → AreRequestsOf layout requests queue → ((request : ℕ × ℕ) (one : Asked) → slice_get requests 0 ≡ Some request → IsRequestOf layout request one → ⊥) → queue ≡ []
none_asked_for layout _ _ NoRequests none = refl
none_asked_for layout _ _ (OneMoreRequest first one requests more of rest) none = absurd (none first one refl of)

module _ (old : ShownStore) (n : ℕ) (had : hand_in old.hands n ≡ Some hands.Working) (p : Place) (shown : IsPlaceOf old p) where
  -- it is at nothing in any table
  pub rests_there : IsAtRest p n
  rests_there table below =
      let inside : table < length old.layout.schema.tables = subst (λ (l : DiskLayout). table < length l.schema.tables) shown.layout below in
      let it : ShowsTable old shown.database.stored table (p.tables table) = shown.tables table inside in
      ap (λ (x : TableState). x.task n) it.shown
      ∙ subst (λ (h : Option Hand). IsTaskOf old.layout table it.blocks old.transactions.tx shown.database.stored (transaction_of old.transactions.opens n) h (it.unseen.task n)) had (it.tasks n)

  shows_work : HandShows (Some hands.Working) (p.hands n) (p.accounts n)
  shows_work = subst (λ (h : Option Hand). HandShows h (p.hands n) (p.accounts n)) had (shown.hands n)

  pub work_in_hand : p.hands n ≡ Some (new_hand statements.Work)
  work_in_hand = shows_work.1 ∙ ap Some (λ j. record { statement = shows_work.2 j; answers = shows_work.3 j })

  module _ (request : ℕ × ℕ) (first : slice_get old.queue 0 ≡ Some request) where
    pub asked : IsAskedSo old.layout old.queue p.queue request
    asked = asked_so old.layout old.queue p.queue request shown.queue first

    pub asked_first : IsAskedFirst p asked.one
    asked_first = ap (λ (l : List Asked). slice_get l 0) asked.is

    pub asked_table : asked.one.table ≡ (index_at old.layout request.0).table
    asked_table = sym (own_table old.layout asked.one.table asked.one.at request.0 asked.of.there)

    -- among the indexes of its table
    pub asked_there : StandsAt old.layout request.0 asked.one.at
    asked_there = subst (λ (t : ℕ). slice_get (indexes_of old.layout t) asked.one.at ≡ Some request.0) asked_table asked.of.there

    -- so work is in its table
    pub on_asked : IsIn p n statements.Work (index_at old.layout request.0).table
    on_asked = inr (rests_there, (asked.one, asked_first, asked_table))
