-- what a step of an insert makes of its account, and of the summaries that are asked for
use Rattle.std.proofs.Common.{◌≡◌, ℕ, ◌+◌, ◌*◌, ◌/◌, ◌≤◌, ◌<◌, Bool, true, false, List, [], ◌∷◌, ◌++◌, length, length-append, Option, Some, refl, sym, ap, subst, ◌∙◌, arith}
use Rattle.std.specs.Prelude.{slice_get}
use Rattle.std.proofs.lemmas.Bool.{false≢true}
use Rattle.std.proofs.lemmas.Nat.{div-add-mod'}
use Rattle.block_model.specs.declared.place.Spot.{Spot}
use Rattle.page_layout.specs.PageContents.{Slot}
use Rattle.coverage.specs.Accounts.{Account, AccountIs, Accounts, Asked, Asking, HasEntry, IsDropped, Joins, no_account}
use Rattle.coverage.specs.Table.{Task}
use Rattle.index_contents.specs.IndexContents.{contents}
use Rattle.index_steps.specs.IndexTuples.{index_at}
use Rattle.index_steps.specs.ShownRows.{shown_by}
use Rattle.index_steps.specs.ShownTable.{indexes_of, shown_at}
use Rattle.script_semantics.specs.Place.{Place, accounts_at}
use Rattle.brin_insert.specs.AskedFor.{AreRequestsOf, AsksBy, AsksHere, InsertAsks, IsAsked, IsRequestOf}
use Rattle.brin_insert.specs.declared.insert.Insert.{Insert}
use Rattle.brin_insert.specs.InsertAnswers.{AccountsCome}
use Rattle.brin_insert.specs.InsertHands.{InsertHand}
use Rattle.brin_insert.specs.Inserts.{task_of, work_of}
use Rattle.brin_insert.proofs.Asked.{shown_by_accounts}
use Rattle.session_parts.specs.ShowsPlace.{IsPlaceOf}
use Rattle.session_parts.specs.StoreStates.{ShownStore}
use Rattle.session_inserts.proofs.AtIndex.{AtIndex, asked_here, block_here, number_here, shows_here, task_asking, task_before, told_here}

-- the account that the session has then, and the summaries that are asked for
pub record ComesOf (old : ShownStore) (n : ℕ) (before after : Insert) (p : Place) (blocks : List (List Slot)) (queued : List (ℕ × ℕ)) : Type 0 where
  pub account : Account
  pub queue : List Asked
  pub comes : (b : Accounts) → AccountIs n (record (accounts_at p before.row.table) { queue = queue }) b account
      → AccountsCome n (shown_by old.layout old.pages old.locks before.row.table blocks) (task_of old.layout before) (accounts_at p before.row.table) b
  pub more : length p.queue ≤ length queue
  pub tells : account ≡ record no_account { dropped = account.dropped }
  pub requests : AreRequestsOf old.layout queued queue
  pub asked : AreRequestsOf old.layout after.dropped.items account.dropped
  pub silent : before.asking ≡ false → (queue ≡ p.queue) × (account ≡ p.accounts n)

-- an ask is one of every accounts with the same account of the session and the same queue
asks_alike : (s : ℕ) (a c b : Accounts) (one : Asked) (entry : Option Spot) → b.of s ≡ c.of s → b.queue ≡ c.queue → Asking s a c one entry → Asking s a b one entry
asks_alike s a c b one _ account queue (HasEntry x is) = HasEntry x (record { account = account ∙ is.account; queue = queue ∙ is.queue })
asks_alike s a c b one _ account queue (Joins few joins same) = Joins few (queue ∙ joins) (account ∙ same)
asks_alike s a c b one _ account queue (IsDropped full is) = IsDropped full (record { account = account ∙ is.account; queue = queue ∙ is.queue })

-- no request goes by it
none_goes : (s : ℕ) (a c : Accounts) (one : Asked) (entry : Option Spot) → Asking s a c one entry → length a.queue ≤ length c.queue
none_goes s a c one _ (HasEntry x is) = let same : length c.queue ≡ length a.queue = ap length is.queue in omega (arith, same)
none_goes s a c one _ (Joins few joins same) =
    let longer : length c.queue ≡ length (a.queue ++ (one ∷ [])) = ap length joins in
    omega (arith, longer, length-append a.queue (one ∷ []))
none_goes s a c one _ (IsDropped full is) = let same : length c.queue ≡ length a.queue = ap length is.queue in omega (arith, same)

-- the range before that of a block begins below it
begins_below : (block per range limit : ℕ) → block / per ≡ range + 1 → block < limit → range * per < limit
begins_below block per range limit ranged low =
    let whole = div-add-mod' block per in
    let same = ap (λ (q : ℕ). q * per) ranged in
    omega (arith, whole, same, low)

-- the session tells of nothing else
abbrev TellsDropped : Account → Type 0
TellsDropped account = account ≡ record no_account { dropped = account.dropped }

tells_then : (s : ℕ) (a c : Accounts) (one : Asked) (entry : Option Spot) → TellsDropped (a.of s) → Asking s a c one entry → TellsDropped (c.of s)
tells_then s a c one _ tells (HasEntry x is) = subst TellsDropped (sym is.account) tells
tells_then s a c one _ tells (Joins few joins same) = subst TellsDropped (sym same) tells
tells_then s a c one _ tells (IsDropped full is) =
    subst TellsDropped (sym is.account) (ap (λ (x : Account). record x { dropped = (a.of s).dropped ++ (one ∷ []) }) tells)

module _ (old : ShownStore) (n : ℕ) (before after : Insert) (hand : InsertHand) (x : Spot) (at : AtIndex old n before hand x) (p : Place) (shown : IsPlaceOf old p) (blocks : List (List Slot)) (queued : List (ℕ × ℕ)) where
  abbrev table : ℕ
  table = before.row.table

  abbrev a : Accounts
  a = accounts_at p table

  told : TellsDropped (p.accounts n)
  told = told_here old n before hand x at p shown

  -- it asks for nothing
  silent_comes : before.asking ≡ false → queued ≡ old.queue → after.dropped.items ≡ before.dropped.items → ComesOf old n before after p blocks queued
  silent_comes silent same same_dropped = record {
    account = p.accounts n;
    queue = p.queue;
    comes = λ b has. subst (λ (t : Task). AccountsCome n (shown_by old.layout old.pages old.locks table blocks) t a b) (sym (task_before old n before hand x at silent)) has;
    more = omega arith;
    tells = told;
    requests = subst (λ (l : List (ℕ × ℕ)). AreRequestsOf old.layout l p.queue) (sym same) shown.queue;
    asked = subst (λ (l : List (ℕ × ℕ)). AreRequestsOf old.layout l (p.accounts n).dropped) (sym same_dropped) (asked_here old n before hand x at p shown);
    silent = λ none. (refl, refl);
  }

  -- it asks for the summary of this range
  module _ (asking : before.asking ≡ true) (range : ℕ) (ranged : x.block / (index_at old.layout hand.index).pages_per_range ≡ range + 1)
      (asks : IsAsked (hand.index, range) old.queue queued before.dropped.items after.dropped.items ((contents old.layout old.pages hand.index).entry range)) where
    abbrev one : Asked
    one = record { table = table; at = before.at; range = range }

    is_one : IsRequestOf old.layout (hand.index, range) one
    is_one = record {
      there = number_here old n before hand x at;
      range = refl;
      begins = begins_below x.block (index_at old.layout hand.index).pages_per_range range old.layout.sizes.heap_blocks ranged
          (let below = block_here old n before hand x at p shown asking in let within = (shows_here old n before hand x at p shown).has.within in omega (arith, below, within));
    }

    abbrev Made : Type 0
    Made = (c : Accounts) × Asking n a c one ((contents old.layout old.pages hand.index).entry range) × AreRequestsOf old.layout queued c.queue × AreRequestsOf old.layout after.dropped.items (c.of n).dropped

    made : Made
    made = shown_by_accounts old.layout (hand.index, range) old.queue queued before.dropped.items after.dropped.items n a one is_one shown.queue (asked_here old n before hand x at p shown) ((contents old.layout old.pages hand.index).entry range) asks

    -- in the index that its table has there
    abbrev AsksAtIndex : Accounts → Option ℕ → Type 0
    AsksAtIndex b o = (x.block / (shown_at old.layout old.pages old.locks o).pages_per_range ≡ range + 1) × Asking n a b one ((shown_at old.layout old.pages old.locks o).entry range)

    asked_there : (b : Accounts) → b.of n ≡ made.0.of n → b.queue ≡ made.0.queue → AsksAtIndex b (slice_get (indexes_of old.layout table) before.at)
    asked_there b account queue = subst (AsksAtIndex b) (sym (number_here old n before hand x at))
        (ranged, asks_alike n a made.0 b one ((contents old.layout old.pages hand.index).entry range) account queue made.1)

    asking_comes : ComesOf old n before after p blocks queued
    asking_comes = record {
      account = made.0.of n;
      queue = made.0.queue;
      comes = λ b has. subst (λ (t : Task). AccountsCome n (shown_by old.layout old.pages old.locks table blocks) t a b) (sym (task_asking old n before hand x at asking))
          (let it = asked_there b has.account has.queue in (range, it.0, it.1));
      more = none_goes n a made.0 one ((contents old.layout old.pages hand.index).entry range) made.1;
      tells = tells_then n a made.0 one ((contents old.layout old.pages hand.index).entry range) told made.1;
      requests = made.2;
      asked = made.3;
      silent = λ none. absurd (false≢true (sym none ∙ asking));
    }

  -- by whether it has to ask
  pub comes_so : InsertAsks old.layout old.pages before after old.queue queued → ComesOf old n before after p blocks queued
  comes_so asks = by_asking before.asking refl asks
    where
      asked_here_so : before.asking ≡ true → (place : Option Spot) → place ≡ Some x → (work : Option InsertHand) → work ≡ Some hand → AsksHere old.layout old.pages place work old.queue queued before.dropped.items after.dropped.items
          → ComesOf old n before after p blocks queued
      asked_here_so asking place placed work got here =
          let it : AsksHere old.layout old.pages (Some x) (Some hand) old.queue queued before.dropped.items after.dropped.items =
          subst (λ (o : Option InsertHand). AsksHere old.layout old.pages (Some x) o old.queue queued before.dropped.items after.dropped.items) got
          (subst (λ (o : Option Spot). AsksHere old.layout old.pages o work old.queue queued before.dropped.items after.dropped.items) placed here) in
          asking_comes asking it.0 it.1 it.2

      by_asking : (b : Bool) → before.asking ≡ b → AsksBy old.layout old.pages b before.place (work_of before) old.queue queued before.dropped.items after.dropped.items → ComesOf old n before after p blocks queued
      by_asking true asking here = asked_here_so asking before.place at.placed (work_of before) at.got here
      by_asking false silent same = silent_comes silent same.0 same.1
