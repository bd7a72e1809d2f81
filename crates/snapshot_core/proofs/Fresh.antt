-- no transactions under way, and no rows
use Rattle.std.proofs.Common.{◌≡◌, ◌≢◌, ℕ, zero, suc, ◌<◌, List, [], ◌∷◌, length, replicate, Option, None, Some, refl, sym, ap, ◌∙◌, subst, arith, All}
use Rattle.std.specs.List.{IsDistinct}
use Rattle.std.specs.Option.{option_map}
use Rattle.std.specs.Ordering.{nat_cmp}
use Rattle.std.specs.Cmp.{nat_cmp_total}
use Rattle.std.specs.FinMap.{empty, get-empty, same_map, nat_cmp-IsAntisymmetric}
use Rattle.std.proofs.lemmas.Bool.{false≢true}
use Rattle.std.proofs.lemmas.List.{length-replicate}
use Rattle.std.proofs.lemmas.List.Elements.{All-nil}
use Rattle.block_model.specs.declared.row.RowId.{RowId}
use Rattle.block_model.specs.DatabaseState.{initial_state}
use Rattle.store_layout.specs.declared.limits.TheConstants.{MAX_SESSIONS}
use Rattle.snapshot_core.specs.declared.statuses.Status.{Status}
use Rattle.snapshot_core.specs.declared.statuses.Status.TheVariants.{Unused, Begun}
use Rattle.snapshot_core.specs.declared.table.Version.{Version}
use Rattle.snapshot_core.specs.declared.sessions.Open.{Open}
use Rattle.snapshot_core.specs.VisibleState.{all_versions, status_of, table_of, is_of_commit, visible_transaction, visible_sessions, visible_state}
use Rattle.snapshot_core.specs.StoredVersions.{AnyDeleterIsKnown, stored, transaction_of, versions_at, IsStored, AreVersions}
use Rattle.snapshot_core.specs.Marks.{holds}
use Rattle.snapshot_core.proofs.Copies.{get_visible}
use Rattle.snapshot_core.proofs.Stored.{AreDistinct}

pub nobody_at : (n m : ℕ) → transaction_of (replicate n None) m ≡ None
nobody_at zero m = refl
nobody_at (suc n) zero = refl
nobody_at (suc n) (suc m) = nobody_at n m

nobody_has : (n m : ℕ) (o : Open) → transaction_of (replicate n None) m ≡ Some o → ⊥
nobody_has n m o h = let none : None ≡ Some o = sym (nobody_at n m) ∙ h in absurd cc

pub no_sessions : (ss : List Status) (vs : List Version) (n : ℕ) → visible_sessions ss vs (replicate n None) ≡ empty
no_sessions ss vs n = same_map nat_cmp_total nat_cmp-IsAntisymmetric _ _ (λ m.
    get_visible ss vs (replicate n None) m ∙ ap (option_map (visible_transaction ss vs)) (nobody_at n m) ∙ sym (get-empty nat_cmp m))

-- ---- rows at rest

pub any_deleter : AnyDeleterIsKnown
any_deleter ss v nobody put gone = record { put = put; gone = gone; own = λ is. absurd (nobody v.row.id.t is); marked = λ is. absurd (nobody v.deleter is) }

-- so their ids and numbers alone matter
pub stored_at_rest : (vs : List Version) (ss : List Status) (n : ℕ) → status_of ss 0 ≡ Unused → 0 < length ss → AreDistinct vs → ((t : ℕ) → status_of ss t ≢ Begun)
    → ((id : RowId) (v : Version) → stored vs id ≡ Some v → (v.row.id.t < length ss) × (v.deleter < length ss)) → IsStored vs ss (replicate n None)
stored_at_rest vs ss n nobody some distinct ended numbers = record {
  nobody = nobody;
  some = some;
  ids_differ = distinct;
  known = λ id v there. let low = numbers id v there in any_deleter ss v ended low.0 low.1;
  under_way = λ m o h. absurd (nobody_has n m o h);
  apart = λ m k o p h g ne. absurd (nobody_has n m o h);
  begun = λ t others. ended t;
}

-- ---- no rows

nothing_at : (n i : ℕ) → versions_at (replicate n []) i ≡ []
nothing_at zero i = refl
nothing_at (suc n) zero = refl
nothing_at (suc n) (suc i) = nothing_at n i

nothing_in : (n : ℕ) → all_versions (replicate n []) ≡ []
nothing_in zero = refl
nothing_in (suc n) = nothing_in n

no_rows : table_of (is_of_commit (Unused ∷ [])) [] ≡ empty
unfolding table_of
no_rows = refl

empty_parts : (n : ℕ) → visible_state [] (Unused ∷ []) (replicate n None) ≡ initial_state
empty_parts n = λ i. record { next = 1; table = no_rows i; sessions = no_sessions (Unused ∷ []) [] n i }

pub empty_state : (ts : List (List Version)) (ss : List Status) (os : List (Option Open)) (n : ℕ) → ts ≡ replicate n [] → ss ≡ Unused ∷ [] → os ≡ replicate MAX_SESSIONS None → visible_state (all_versions ts) ss os ≡ initial_state
empty_state ts ss os n a b c = (λ i. visible_state (all_versions (a i)) (b i) (c i)) ∙ ap (λ (vs : List Version). visible_state vs (Unused ∷ []) (replicate MAX_SESSIONS None)) (nothing_in n) ∙ empty_parts MAX_SESSIONS

none_begun : (t : ℕ) → status_of (Unused ∷ []) t ≢ Begun
none_begun zero e = false≢true (ap holds e)
none_begun (suc t) e = false≢true (ap holds e)

stored_parts : (n : ℕ) → IsStored [] (Unused ∷ []) (replicate n None)
unfolding IsDistinct
stored_parts n = stored_at_rest [] (Unused ∷ []) n refl (omega arith) tt none_begun (λ id v h. absurd (cc))

empty_versions : (n : ℕ) → AreVersions (replicate n []) (Unused ∷ []) (replicate MAX_SESSIONS None)
empty_versions n = record {
  places = length-replicate {A = Option Open} MAX_SESSIONS None;
  own_table = λ table. subst (All (λ (v : Version). v.row.table ≡ table)) (sym (nothing_at n table)) (All-nil (λ (v : Version). v.row.table ≡ table));
  stored = subst (λ (vs : List Version). IsStored vs (Unused ∷ []) (replicate MAX_SESSIONS None)) (sym (nothing_in n)) (stored_parts MAX_SESSIONS);
}

pub new_versions : (ts : List (List Version)) (ss : List Status) (os : List (Option Open)) (n : ℕ) → ts ≡ replicate n [] → ss ≡ Unused ∷ [] → os ≡ replicate MAX_SESSIONS None → AreVersions ts ss os
new_versions ts ss os n a b c =
    subst (λ (ts : List (List Version)). AreVersions ts ss os) (sym a)
    (subst (λ (ss : List Status). AreVersions (replicate n []) ss os) (sym b)
    (subst (AreVersions (replicate n []) (Unused ∷ [])) (sym c) (empty_versions n)))
