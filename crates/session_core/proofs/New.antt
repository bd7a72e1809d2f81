-- a store without sessions
use Rattle.std.proofs.Common.{◌≡◌, ℕ, zero, suc, ◌<◌, List, [], get_or, Option, None, sym, refl, subst, ◌∙◌, arith}
use Rattle.std.proofs.lemmas.Option.{none-some}
use Rattle.disk_trait.specs.Told.{Told}
use Rattle.store_layout.specs.declared.limits.TheConstants.{MAX_SESSIONS}
use Rattle.page_map.specs.Keeps.{Tells}
use Rattle.script_semantics.specs.Place.{Place}
use Rattle.snapshot_core.specs.declared.sessions.Open.{Open}
use Rattle.snapshot_core.specs.StoredVersions.{transaction_of}
use Rattle.session_parts.specs.declared.parts.Parts.{Parts}
use Rattle.session_parts.specs.HandFits.{FitsStore}
use Rattle.session_parts.specs.ShareLaws.{shares_below}
use Rattle.session_parts.specs.ShowsPlace.{ShowsPlace}
use Rattle.session_parts.specs.Shares.{share_of}
use Rattle.session_parts.specs.StoreStates.{hand_in, store_of}
use Rattle.session_starts.specs.OpenedParts.{AreOpened}
use Rattle.session_core.specs.Slots.{IsKeptSlot, empty_slot}
use Rattle.session_core.specs.StoreKept.{IsStoreKept}

none_there : {A : Type 0} (none : A) (n : ℕ) → get_or {A = A} [] n none ≡ none
none_there none zero = refl
none_there none (suc n) = refl

no_share : (opens : List (Option Open)) → ((n : ℕ) → transaction_of opens n ≡ None) → (n : ℕ) → share_of (hand_in [] n) (transaction_of opens n) ≡ 0
no_share opens idle n = λ i. share_of (none_there None n i) (idle n i)

no_shares : (count : ℕ) (opens : List (Option Open)) → ((n : ℕ) → transaction_of opens n ≡ None) → shares_below count [] opens ≡ 0
no_shares zero opens idle = refl
no_shares (suc n) opens idle = omega (arith, no_shares n opens idle, no_share opens idle n)

pub kept_new : {D : Type 0} (told : D → Told) (parts : Parts D) → AreOpened told parts → ((n : ℕ) → n < MAX_SESSIONS → FitsStore told (store_of parts [] []) n)
    → (Tells told parts.pages → (p : Place) × ShowsPlace (store_of parts [] []) p) → IsStoreKept told (store_of parts [] []) []
kept_new told parts opened fits shows = record {
  few_sessions = omega arith;
  a_hand_each = refl;
  a_slot_each = refl;
  fits = fits;
  nobody = λ n high. record { transaction = opened.idle n; locks = opened.locks n; rights = λ table is. none-some n (sym (opened.free table) ∙ is) };
  promised = opened.promised ∙ sym (no_shares MAX_SESSIONS parts.transactions.opens opened.idle);
  slot = λ n. subst (IsKeptSlot parts.pages.layout) (sym (none_there empty_slot n)) (record { machine = tt; elsewhere = tt });
  shown = λ tells ready. shows tells;
}
