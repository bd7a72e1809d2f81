-- lists of versions from which some have gone, and what they show then
use Rattle.std.proofs.Common.{◌≡◌, Bool, false, cond, ℕ, suc, List, [], ◌∷◌, ◌++◌, map, length, get_or, Option, None, Some, refl, sym, ap, subst, ◌∙◌, inl, inr}
use Rattle.std.specs.List.{AllByRecursion, IsDistinct, filter, flat_map}
use Rattle.std.specs.Cmp.{eq_by_cmp_equiv, nat_cmp_total}
use Rattle.std.specs.Ordering.{eq_by_cmp}
use Rattle.std.specs.FinMap.{from_entries, nat_cmp-IsAntisymmetric, same_map}
use Rattle.std.specs.FinSet as set
use Rattle.std.specs.Option.{option_map}
use Rattle.std.proofs.lemmas.Bool.{false_from_ne_true, true≢false}
use Rattle.block_model.specs.declared.row.RowId.{RowId}
use Rattle.block_model.specs.TableState.{id_cmp, ids_total}
use Rattle.snapshot_core.specs.declared.statuses.Status.{Status}
use Rattle.snapshot_core.specs.declared.sessions.Open.{Open}
use Rattle.snapshot_core.specs.declared.table.Version.{Version}
use Rattle.snapshot_core.specs.StoredVersions.{IsStored, stored, transaction_of}
use Rattle.snapshot_core.specs.VisibleState.{all_versions, ids_of, is_marked, is_of_commit, is_seen, table_of, visible_sessions, visible_state, visible_transaction}
use Rattle.snapshot_core.proofs.Choices.{chosen, same_id}
use Rattle.snapshot_core.proofs.Copies.{get_visible}
use Rattle.snapshot_core.proofs.Stored.{AreDistinct, ids, stored_id}

-- the second list is the first one, but for some versions of which the fact holds
pub data Thins (P : Version → Type 0) : List Version → List Version → Type 0 where
  NoneLeft : Thins P [] []
  Stays : (v : Version) (vs ws : List Version) → Thins P vs ws → Thins P (v ∷ vs) (v ∷ ws)
  Goes : (v : Version) (vs ws : List Version) → P v → Thins P vs ws → Thins P (v ∷ vs) ws

pub thins_same : (P : Version → Type 0) (vs : List Version) → Thins P vs vs
thins_same P [] = NoneLeft
thins_same P (v ∷ vs) = Stays v vs vs (thins_same P vs)

thins_append : (P : Version → Type 0) (a b c d : List Version) → Thins P a b → Thins P c d → Thins P (a ++ c) (b ++ d)
thins_append P _ _ c d NoneLeft second = second
thins_append P _ _ c d (Stays v vs ws first) second = Stays v (vs ++ c) (ws ++ d) (thins_append P vs ws c d first second)
thins_append P _ _ c d (Goes v vs ws gone first) second = Goes v (vs ++ c) (ws ++ d) gone (thins_append P vs ws c d first second)

-- where each part has lost some
pub thins_lists : {A : Type 0} (P : Version → Type 0) (f : A → List Version) (none : A) → f none ≡ [] → (a b : List A) → ((k : ℕ) → Thins P (f (get_or a k none)) (f (get_or b k none))) → Thins P (flat_map f a) (flat_map f b)
thins_lists P f none empty [] [] each = NoneLeft
thins_lists P f none empty [] (y ∷ b) each = subst (λ (l : List Version). Thins P (l ++ []) (f y ++ flat_map f b)) empty
    (thins_append P (f none) (f y) [] (flat_map f b) (each 0) (thins_lists P f none empty [] b (λ k. each (suc k))))
thins_lists P f none empty (x ∷ a) [] each = subst (λ (l : List Version). Thins P (f x ++ flat_map f a) (l ++ [])) empty
    (thins_append P (f x) (f none) (flat_map f a) [] (each 0) (thins_lists P f none empty a [] (λ k. each (suc k))))
thins_lists P f none empty (x ∷ a) (y ∷ b) each = thins_append P (f x) (f y) (flat_map f a) (flat_map f b) (each 0) (thins_lists P f none empty a b (λ k. each (suc k)))

pub thins_tables : (P : Version → Type 0) (f g : ℕ → List Version) (numbers : List ℕ) → ((k : ℕ) → Thins P (f k) (g k)) → Thins P (all_versions (map f numbers)) (all_versions (map g numbers))
thins_tables P f g [] each = NoneLeft
thins_tables P f g (k ∷ numbers) each = thins_append P (f k) (g k) (all_versions (map f numbers)) (all_versions (map g numbers)) (each k) (thins_tables P f g numbers each)

-- ---- what is found by a test that those fail which went

thins_filter : (P : Version → Type 0) (p : Version → Bool) → ((v : Version) → P v → p v ≡ false) → (vs ws : List Version) → Thins P vs ws → filter p vs ≡ filter p ws
thins_filter P p fails _ _ NoneLeft = refl
thins_filter P p fails _ _ (Stays v vs ws thins) = ap (λ (l : List Version). cond (p v) (v ∷ l) l) (thins_filter P p fails vs ws thins)
thins_filter P p fails _ _ (Goes v vs ws gone thins) = ap (λ (b : Bool). cond b (v ∷ filter p vs) (filter p vs)) (fails v gone) ∙ thins_filter P p fails vs ws thins

same_rows : (P : Version → Type 0) (p : Version → Bool) → ((v : Version) → P v → p v ≡ false) → (vs ws : List Version) → Thins P vs ws → table_of p vs ≡ table_of p ws
unfolding table_of
same_rows P p fails vs ws thins = ap (λ (l : List Version). from_entries (map (λ (v : Version). (v.row.id, v.row)) l)) (thins_filter P p fails vs ws thins)

same_ids : (P : Version → Type 0) (p : Version → Bool) → ((v : Version) → P v → p v ≡ false) → (vs ws : List Version) → Thins P vs ws → ids_of p vs ≡ ids_of p ws
unfolding ids_of
same_ids P p fails vs ws thins = ap (λ (l : List Version). set.from_list (map (λ (v : Version). v.row.id) l)) (thins_filter P p fails vs ws thins)

-- ---- what is stored

thins_ids : (P : Version → Type 0) (Q : RowId → Type 0) (vs ws : List Version) → Thins P vs ws → AllByRecursion Q (ids vs) → AllByRecursion Q (ids ws)
thins_ids P Q _ _ NoneLeft all = all
thins_ids P Q _ _ (Stays v vs ws thins) all = (all.0, thins_ids P Q vs ws thins all.1)
thins_ids P Q _ _ (Goes v vs ws gone thins) all = thins_ids P Q vs ws thins all.1

pub thins_distinct : (P : Version → Type 0) (vs ws : List Version) → Thins P vs ws → AreDistinct vs → AreDistinct ws
unfolding IsDistinct
thins_distinct P _ _ NoneLeft distinct = distinct
thins_distinct P _ _ (Stays v vs ws thins) distinct = (thins_ids P (λ (id : RowId). eq_by_cmp id_cmp v.row.id id ≡ false) vs ws thins distinct.0, thins_distinct P vs ws thins distinct.1)
thins_distinct P _ _ (Goes v vs ws gone thins) distinct = thins_distinct P vs ws thins distinct.1

stored_has : (Q : RowId → Type 0) (vs : List Version) (q : RowId) (v : Version) → AllByRecursion Q (ids vs) → stored vs q ≡ Some v → Q v.row.id
stored_has Q [] q v all is = absurd (cc)
stored_has Q (x ∷ vs) q v all is = elim (chosen (eq_by_cmp id_cmp q x.row.id) x v (stored vs q) is) [
  | inl here ↦ subst (λ (y : Version). Q y.row.id) here.1 all.0
  | inr later ↦ stored_has Q vs q v all.1 later.1
]

-- what is stored was stored
pub thins_stored : (P : Version → Type 0) (vs ws : List Version) (q : RowId) (v : Version) → Thins P vs ws → AreDistinct vs → stored ws q ≡ Some v → stored vs q ≡ Some v
unfolding IsDistinct
thins_stored P _ _ q v NoneLeft distinct is = is
thins_stored P _ _ q v (Stays x vs ws thins) distinct is = elim (chosen (eq_by_cmp id_cmp q x.row.id) x v (stored ws q) is) [
  | inl here ↦ ap (λ (b : Bool). cond b (Some x) (stored vs q)) here.0 ∙ ap Some here.1
  | inr later ↦ ap (λ (b : Bool). cond b (Some x) (stored vs q)) later.0 ∙ thins_stored P vs ws q v thins distinct.1 later.1
]
thins_stored P _ _ q v (Goes x vs ws gone thins) distinct is =
    let was = thins_stored P vs ws q v thins distinct.1 is in
    let apart : eq_by_cmp id_cmp x.row.id v.row.id ≡ false = stored_has (λ (id : RowId). eq_by_cmp id_cmp x.row.id id ≡ false) vs q v distinct.0 was in
    let other : eq_by_cmp id_cmp q x.row.id ≡ false = false_from_ne_true (eq_by_cmp id_cmp q x.row.id) (λ same.
    true≢false (sym ((eq_by_cmp_equiv ids_total).refl x.row.id) ∙ ap (eq_by_cmp id_cmp x.row.id) (sym (stored_id vs q v was ∙ same_id q x.row.id same)) ∙ apart)) in
    ap (λ (b : Bool). cond b (Some x) (stored vs q)) other ∙ was

-- ---- the state that is shown

-- no commit has the row, no open transaction sees it, and none has marked it
pub record IsUnseenVersion (statuses : List Status) (sessions : List (Option Open)) (v : Version) : Type 0 where
  pub uncommitted : is_of_commit statuses v ≡ false
  pub unseen : (m : ℕ) (o : Open) → transaction_of sessions m ≡ Some o → is_seen statuses o v ≡ false
  pub unmarked : (m : ℕ) (o : Open) → transaction_of sessions m ≡ Some o → is_marked o v ≡ false

module _ (statuses : List Status) (sessions : List (Option Open)) (vs ws : List Version) (thins : Thins (IsUnseenVersion statuses sessions) vs ws) where
  same_copy : (m : ℕ) (o : Open) → transaction_of sessions m ≡ Some o → visible_transaction statuses ws o ≡ visible_transaction statuses vs o
  same_copy m o is =
      let rows = same_rows (IsUnseenVersion statuses sessions) (is_seen statuses o) (λ v gone. gone.unseen m o is) vs ws thins in
      let marks = same_ids (IsUnseenVersion statuses sessions) (is_marked o) (λ v gone. gone.unmarked m o is) vs ws thins in
      λ i. record { t = o.t; next_k = o.next_k; view = sym rows i; marks = sym marks i; failed = o.failed }

  same_sessions : visible_sessions statuses ws sessions ≡ visible_sessions statuses vs sessions
  same_sessions = same_map nat_cmp_total nat_cmp-IsAntisymmetric _ _ (λ m. get_visible statuses ws sessions m ∙ at m (transaction_of sessions m) refl ∙ sym (get_visible statuses vs sessions m))
    where
      at : (m : ℕ) (o : Option Open) → transaction_of sessions m ≡ o → option_map (visible_transaction statuses ws) o ≡ option_map (visible_transaction statuses vs) o
      at m None is = refl
      at m (Some o) is = ap Some (same_copy m o is)

  pub same_state : visible_state ws statuses sessions ≡ visible_state vs statuses sessions
  same_state =
      let rows = same_rows (IsUnseenVersion statuses sessions) (is_of_commit statuses) (λ v gone. gone.uncommitted) vs ws thins in
      λ i. record { next = length statuses; table = sym rows i; sessions = same_sessions i }

  pub still_stored : IsStored vs statuses sessions → IsStored ws statuses sessions
  still_stored was = record {
    nobody = was.nobody;
    some = was.some;
    ids_differ = thins_distinct (IsUnseenVersion statuses sessions) vs ws thins was.ids_differ;
    known = λ id v is. was.known id v (thins_stored (IsUnseenVersion statuses sessions) vs ws id v thins was.ids_differ is);
    under_way = λ m o is.
        let under = was.under_way m o is in
        record {
          numbered = under.numbered;
          begun = under.begun;
          taken = under.taken;
          placed = λ id v there. under.placed id v (thins_stored (IsUnseenVersion statuses sessions) vs ws id v thins was.ids_differ there);
        };
    apart = was.apart;
    begun = was.begun;
  }
