-- what sessions asked for in vain
use Rattle.std.proofs.Common.{◌≡◌, inl, inr, ℕ, List, ◌∷◌, Option, Some, refl, sym, ap, subst, ◌∙◌}
use Rattle.std.specs.Prelude.{slice_get, slice_index_or}
use Rattle.std.proofs.lemmas.Bool.{cases_eq}
use Rattle.std.proofs.lemmas.Option.{get_or_from_slice_get}
use Rattle.store_layout.specs.DiskLayout.{DiskLayout}
use Rattle.reply_texts.specs.declared.dropped.Dropped.{Dropped}
use Rattle.coverage.specs.Accounts.{Account, Asked}
use Rattle.script_semantics.specs.IndexTuples.{index_at}
use Rattle.script_semantics.specs.ShownTable.{indexes_of}
use Rattle.brin_insert.specs.AskedFor.{AreRequestsOf, IsRequestOf, NoRequests, OneMoreRequest}
use Rattle.script_semantics.specs.Names.{dropped_of, index_name}
use Rattle.script_semantics.specs.Place.{Place, updated}
use Rattle.session_parts.specs.declared.hand.Hand.{Hand}
use Rattle.session_parts.specs.declared.hand.Hand.TheVariants as hands
use Rattle.session_parts.specs.HandsAsk.{HandAsked, IsNoInsert, named_request, named_requests}
use Rattle.session_parts.specs.Leaving.{AsksForNone, HasAsked, LeavesOthers}
use Rattle.session_parts.specs.ShowsPlace.{IsPlaceOf}
use Rattle.session_parts.specs.StoreStates.{ShownStore, dropped_in, hand_in}
use Rattle.session_parts.proofs.Steps.{updated_apart, updated_here}

-- the index at that place is this one
slice_or_is : (numbers : List ℕ) (at n : ℕ) → slice_get numbers at ≡ Some n → slice_index_or numbers at 0 ≡ n
slice_or_is numbers at n is = get_or_from_slice_get numbers at n 0 is

one_named : (layout : DiskLayout) (request : ℕ × ℕ) (asked : Asked) → IsRequestOf layout request asked → named_request layout request ≡ record { index = index_name layout asked.table asked.at; range = asked.range }
one_named layout request asked is = λ i. record {
  index = (index_at layout (sym (slice_or_is (indexes_of layout asked.table) asked.at request.0 is.there) i)).name;
  range = sym is.range i;
}

-- requests by the numbers of their indexes are told as those of the protocol
pub asked_are_named : (layout : DiskLayout) (requests : List (ℕ × ℕ)) (asked : List Asked) → AreRequestsOf layout requests asked → named_requests layout requests ≡ dropped_of layout asked
asked_are_named layout _ _ NoRequests = refl
asked_are_named layout _ _ (OneMoreRequest request one requests more is rest) =
    ap (λ (d : Dropped). d ∷ named_requests layout requests) (one_named layout request one is)
    ∙ ap (λ (l : List Dropped). record { index = index_name layout one.table one.at; range = one.range } ∷ l) (asked_are_named layout requests more rest)

-- no insert has asked
pub none_asked : (layout : DiskLayout) (hand : Option Hand) (asked : List Asked) → IsNoInsert hand → HandAsked layout hand asked
none_asked layout (Some (hands.Inserts insert)) asked none = absurd none
none_asked layout hand asked none = tt

pub asks_none : (old new : ShownStore) (p : Place) (n : ℕ) (account : Account) → IsPlaceOf old p → AsksForNone n old new p account → HasAsked n old new account p.queue
asks_none old new p n account shown none = record {
  requests = subst (λ (l : List (ℕ × ℕ)). AreRequestsOf old.layout l p.queue) (sym none.queue) shown.queue;
  told = ap (λ (l : List (List Dropped)). dropped_in l n) none.dropped ∙ shown.told n ∙ ap (dropped_of old.layout) (sym none.told);
  others = λ m apart. ap (λ (l : List (List Dropped)). dropped_in l m) none.dropped;
  hand = none_asked old.layout (hand_in new.hands n) account.dropped none.hand;
}

-- so it stands in the place behind the step
module _ (old new : ShownStore) (p : Place) (n : ℕ) (account : Account) (queue : List Asked) (shown : IsPlaceOf old p) (leaves : LeavesOthers n old new) (has : HasAsked n old new account queue) where
  abbrev accounts : ℕ → Account
  accounts = updated p.accounts n account

  pub told_then : (m : ℕ) → dropped_in new.dropped m ≡ dropped_of old.layout (accounts m).dropped
  told_then m = elim (cases_eq m n) [
    | inl is ↦ ap (dropped_in new.dropped) is ∙ has.told ∙ ap (λ (a : Account). dropped_of old.layout a.dropped) (sym (ap accounts is ∙ updated_here p.accounts n account))
    | inr apart ↦ has.others m apart ∙ shown.told m ∙ ap (λ (a : Account). dropped_of old.layout a.dropped) (sym (updated_apart p.accounts n account m apart))
  ]

  pub asked_then : (m : ℕ) → HandAsked old.layout (hand_in new.hands m) (accounts m).dropped
  asked_then m = elim (cases_eq m n) [
    | inl is ↦ subst (λ (k : ℕ). HandAsked old.layout (hand_in new.hands k) (accounts k).dropped) (sym is)
        (subst (λ (a : Account). HandAsked old.layout (hand_in new.hands n) a.dropped) (sym (updated_here p.accounts n account)) has.hand)
    | inr apart ↦ subst (λ (h : Option Hand). HandAsked old.layout h (accounts m).dropped) (sym (leaves.hands m apart))
        (subst (λ (a : Account). HandAsked old.layout (hand_in old.hands m) a.dropped) (sym (updated_apart p.accounts n account m apart)) (shown.asked m))
  ]
