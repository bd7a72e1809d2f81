-- the open transactions as a map of copies
use Rattle.std.proofs.Common.{◌≡◌, Bool, true, false, cond, ℕ, zero, suc, ◌+◌, ◌<◌, List, [], ◌∷◌, map, length, get_or, set, Option, None, Some, refl, sym, ap, ◌∙◌, ◌⊎◌, inl, inr, subst, arith}
use Rattle.std.specs.Option.{option_map}
use Rattle.std.specs.Ordering.{nat_cmp, eq_by_cmp}
use Rattle.std.specs.Cmp.{nat_cmp_total, eq_by_cmp_equiv}
use Rattle.std.specs.FinMap.{get, insert, remove, find, get-from_entries, get-insert, get-remove, same_map, nat_cmp-IsAntisymmetric}
use Rattle.std.proofs.lemmas.Bool.{cases_lt}
use Rattle.std.proofs.lemmas.List.{get_or-set_same, get_or-set_other, get_or_past, length-set}
use Rattle.block_model.specs.NumberMaps.{numbers_apart}
use Rattle.block_model.specs.DatabaseState.{DatabaseState, OpenTransaction}
use Rattle.store_layout.specs.declared.limits.TheConstants.{MAX_SESSIONS}
use Rattle.snapshot_core.specs.declared.statuses.Status.{Status}
use Rattle.snapshot_core.specs.declared.table.Version.{Version}
use Rattle.snapshot_core.specs.declared.sessions.Open.{Open}
use Rattle.snapshot_core.specs.VisibleState.{visible_transaction, visible_sessions, visible_state, open_from}
use Rattle.snapshot_core.specs.StoredVersions.{transaction_of}
use Rattle.snapshot_core.proofs.Choices.{chosen, same_number, other_number}

-- the sessions' copies with their numbers
abbrev copies : List Status → List Version → ℕ → List (Option Open) → List (ℕ × OpenTransaction)
copies ss vs k places = map (λ (e : ℕ × Open). (e.0, visible_transaction ss vs e.1)) (open_from k places)

pub same_numbers : (a : ℕ) → eq_by_cmp nat_cmp a a ≡ true
same_numbers a = (eq_by_cmp_equiv nat_cmp_total).refl a

find_below : (ss : List Status) (vs : List Version) (k m : ℕ) (places : List (Option Open)) → m < k → find nat_cmp m (copies ss vs k places) ≡ None
find_below ss vs k m [] h = refl
find_below ss vs k m (None ∷ os) h = find_below ss vs (k + 1) m os (omega arith)
find_below ss vs k m (Some o ∷ os) h =
    ap (λ b. cond b (Some (visible_transaction ss vs o)) (find nat_cmp m (copies ss vs (k + 1) os))) (numbers_apart m k (λ e. omega arith)) ∙ find_below ss vs (k + 1) m os (omega arith)

find_at : (ss : List Status) (vs : List Version) (k j : ℕ) (places : List (Option Open)) → find nat_cmp (k + j) (copies ss vs k places) ≡ option_map (visible_transaction ss vs) (get_or places j None)
find_at ss vs k j [] = refl
find_at ss vs k zero (None ∷ os) = find_below ss vs (k + 1) (k + 0) os (omega arith)
find_at ss vs k (suc i) (None ∷ os) = ap (λ m. find nat_cmp m (copies ss vs (k + 1) os)) (let e : k + suc i ≡ (k + 1) + i = omega arith in e) ∙ find_at ss vs (k + 1) i os
find_at ss vs k zero (Some o ∷ os) =
    ap (λ b. cond b (Some (visible_transaction ss vs o)) (find nat_cmp (k + 0) (copies ss vs (k + 1) os)))
    (ap (λ m. eq_by_cmp nat_cmp m k) (let e : k + 0 ≡ k = omega arith in e) ∙ same_numbers k)
find_at ss vs k (suc i) (Some o ∷ os) =
    ap (λ b. cond b (Some (visible_transaction ss vs o)) (find nat_cmp (k + suc i) (copies ss vs (k + 1) os))) (numbers_apart (k + suc i) k (λ e. omega arith))
    ∙ ap (λ m. find nat_cmp m (copies ss vs (k + 1) os)) (let e : k + suc i ≡ (k + 1) + i = omega arith in e) ∙ find_at ss vs (k + 1) i os

pub get_visible : (ss : List Status) (vs : List Version) (os : List (Option Open)) (n : ℕ) → get (visible_sessions ss vs os) n ≡ option_map (visible_transaction ss vs) (transaction_of os n)
get_visible ss vs os n = get-from_entries nat_cmp_total (copies ss vs 0 os) n ∙ ap (λ m. find nat_cmp m (copies ss vs 0 os)) (let e : n ≡ 0 + n = omega arith in e) ∙ find_at ss vs 0 n os

-- the session has this transaction now, or none, and the others keep theirs
abbrev pub Becomes : List (Option Open) → List (Option Open) → ℕ → Option Open → Type 0
Becomes old new session o = (other : ℕ) → transaction_of new other ≡ cond (eq_by_cmp nat_cmp other session) o (transaction_of old other)

becomes-set : (os : List (Option Open)) (n : ℕ) (o : Option Open) → n < length os → Becomes os (set os n o) n o
becomes-set os n o below m = go (eq_by_cmp nat_cmp m n) refl
  where
    go : (b : Bool) → eq_by_cmp nat_cmp m n ≡ b → get_or (set os n o) m None ≡ cond b o (get_or os m None)
    go true e = ap (λ k. get_or (set os n o) k None) (same_number m n e) ∙ get_or-set_same os n o None below
    go false e = get_or-set_other os n m o None (other_number m n e)

-- what the other sessions have stays
abbrev pub OthersStay : List Status → List Status → List Version → List Version → List (Option Open) → ℕ → Type 0
OthersStay ss ss' vs vs' os n = (m : ℕ) (p : Open) → eq_by_cmp nat_cmp m n ≡ false → transaction_of os m ≡ Some p → visible_transaction ss' vs' p ≡ visible_transaction ss vs p

stayed : (ss ss' : List Status) (vs vs' : List Version) (o : Option Open) → ((p : Open) → o ≡ Some p → visible_transaction ss' vs' p ≡ visible_transaction ss vs p)
    → option_map (visible_transaction ss' vs') o ≡ option_map (visible_transaction ss vs) o
stayed ss ss' vs vs' None h = refl
stayed ss ss' vs vs' (Some p) h = ap Some (h p refl)

-- a session has got a transaction
pub sessions_put : (ss ss' : List Status) (vs vs' : List Version) (os os' : List (Option Open)) (n : ℕ) (o : Open) (x : OpenTransaction)
    → Becomes os os' n (Some o) → visible_transaction ss' vs' o ≡ x → OthersStay ss ss' vs vs' os n
    → visible_sessions ss' vs' os' ≡ insert (visible_sessions ss vs os) n x
sessions_put ss ss' vs vs' os os' n o x at is stay = same_map nat_cmp_total nat_cmp-IsAntisymmetric _ _ (λ m.
    get_visible ss' vs' os' m
    ∙ ap (option_map (visible_transaction ss' vs')) (at m)
    ∙ go m (eq_by_cmp nat_cmp m n) refl
    ∙ ap (cond (eq_by_cmp nat_cmp m n) (Some x)) (sym (get_visible ss vs os m))
    ∙ sym (get-insert nat_cmp_total (visible_sessions ss vs os) n x m))
  where
    go : (m : ℕ) (b : Bool) → eq_by_cmp nat_cmp m n ≡ b → option_map (visible_transaction ss' vs') (cond b (Some o) (transaction_of os m)) ≡ cond b (Some x) (option_map (visible_transaction ss vs) (transaction_of os m))
    go m true e = ap Some is
    go m false e = stayed ss ss' vs vs' (transaction_of os m) (λ p. stay m p e)

-- a session has none any more
pub sessions_taken : (ss ss' : List Status) (vs vs' : List Version) (os os' : List (Option Open)) (n : ℕ)
    → Becomes os os' n None → OthersStay ss ss' vs vs' os n
    → visible_sessions ss' vs' os' ≡ remove (visible_sessions ss vs os) n
sessions_taken ss ss' vs vs' os os' n at stay = same_map nat_cmp_total nat_cmp-IsAntisymmetric _ _ (λ m.
    get_visible ss' vs' os' m
    ∙ ap (option_map (visible_transaction ss' vs')) (at m)
    ∙ go m (eq_by_cmp nat_cmp m n) refl
    ∙ ap (cond (eq_by_cmp nat_cmp m n) None) (sym (get_visible ss vs os m))
    ∙ sym (get-remove nat_cmp_total (visible_sessions ss vs os) n m))
  where
    go : (m : ℕ) (b : Bool) → eq_by_cmp nat_cmp m n ≡ b → option_map (visible_transaction ss' vs') (cond b None (transaction_of os m)) ≡ cond b None (option_map (visible_transaction ss vs) (transaction_of os m))
    go m true e = refl
    go m false e = stayed ss ss' vs vs' (transaction_of os m) (λ p. stay m p e)

-- which transaction a session has afterwards
pub which : (os os' : List (Option Open)) (n : ℕ) (o : Open) → Becomes os os' n (Some o) → (m : ℕ) (p : Open) → transaction_of os' m ≡ Some p
    → ((m ≡ n) × (o ≡ p)) ⊎ ((eq_by_cmp nat_cmp m n ≡ false) × (transaction_of os m ≡ Some p))
which os os' n o at m p h = elim (chosen (eq_by_cmp nat_cmp m n) o p (transaction_of os m) (sym (at m) ∙ h)) [ inl a ↦ inl (same_number m n a.0, a.1) | inr b ↦ inr b ]

-- the session's transaction afterwards, and the others'
pub it_has : (os os' : List (Option Open)) (n : ℕ) (o : Option Open) → Becomes os os' n o → transaction_of os' n ≡ o
it_has os os' n o at = at n ∙ ap (λ b. cond b o (transaction_of os n)) (same_numbers n)

pub others_have : (os os' : List (Option Open)) (n m : ℕ) (o : Option Open) → Becomes os os' n o → eq_by_cmp nat_cmp m n ≡ false → transaction_of os' m ≡ transaction_of os m
others_have os os' n m o at e = at m ∙ ap (λ b. cond b o (transaction_of os m)) e

-- ---- with a state s that the parts show

pub get_open : (vs : List Version) (ss : List Status) (os : List (Option Open)) (n : ℕ) (o : Open) (s : DatabaseState) → visible_state vs ss os ≡ s → transaction_of os n ≡ Some o
    → get s.sessions n ≡ Some (visible_transaction ss vs o)
get_open vs ss os n o s view was = ap (λ (s : DatabaseState). get s.sessions n) (sym view) ∙ get_visible ss vs os n ∙ ap (option_map (visible_transaction ss vs)) was

pub is_idle : (vs : List Version) (ss : List Status) (os : List (Option Open)) (n : ℕ) (s : DatabaseState) → visible_state vs ss os ≡ s → get s.sessions n ≡ None → transaction_of os n ≡ None
is_idle vs ss os n s view none = unmapped (transaction_of os n) (sym (get_visible ss vs os n) ∙ ap (λ (s : DatabaseState). get s.sessions n) view ∙ none)
  where
    unmapped : (o : Option Open) → option_map (visible_transaction ss vs) o ≡ None → o ≡ None
    unmapped None h = refl
    unmapped (Some o) h = absurd (cc)

-- ---- of a write at the session's place

pub becomes : (os os' : List (Option Open)) (n : ℕ) (o : Option Open) → n < length os → os' ≡ set os n o → Becomes os os' n o
becomes os os' n o below is = subst (λ (l : List (Option Open)). Becomes os l n o) (sym is) (becomes-set os n o below)

pub still_all : (os os' : List (Option Open)) (n : ℕ) (o : Option Open) → length os ≡ MAX_SESSIONS → os' ≡ set os n o → length os' ≡ MAX_SESSIONS
still_all os os' n o places is = ap length is ∙ length-set os n o ∙ places

-- an open one stands at a place
open_below : (os : List (Option Open)) (n : ℕ) (o : Open) → transaction_of os n ≡ Some o → n < length os
open_below os n o was = elim (cases_lt n (length os)) [ inl h ↦ h | inr h ↦ absurd (let none : None ≡ Some o = sym (get_or_past os n None h) ∙ was in cc) ]

pub rewritten : (os os' : List (Option Open)) (n : ℕ) (o : Open) (p : Option Open) → transaction_of os n ≡ Some o → os' ≡ set os n p → Becomes os os' n p
rewritten os os' n o p was is = becomes os os' n p (open_below os n o was) is
