-- what has happened for an open transaction while statuses change
use Rattle.std.proofs.Common.{◌≡◌, ◌≢◌, Bool, true, false, not, ◌&&◌, ◌||◌, ltb, ℕ, ◌<◌, ◌≤◌, List, [], ◌∷◌, ◌++◌, length, set, refl, sym, ap, ◌∙◌, inl, inr, arith, lt-ltb, le-ltb, eqb, eq-eqb, ne_eqb}
use Rattle.std.proofs.Math.Bool.{and-false}
use Rattle.std.proofs.lemmas.Bool.{false≢true, cases_lt}
use Rattle.std.proofs.lemmas.List.{get_or_append_left, get_or_push, get_or_past, get_or-set_same, get_or-set_other}
use Rattle.snapshot_core.specs.declared.statuses.Status.{Status}
use Rattle.snapshot_core.specs.declared.statuses.Status.TheVariants.{Unused, Begun}
use Rattle.snapshot_core.specs.declared.snapshots.Snapshot.{Snapshot}
use Rattle.snapshot_core.specs.Visibility.{is_committed, was_active, had_ended, has_done}
use Rattle.snapshot_core.specs.declared.table.Version.{Version}
use Rattle.snapshot_core.specs.declared.sessions.Open.{Open}
use Rattle.snapshot_core.specs.VisibleState.{status_of, is_seen}
use Rattle.snapshot_core.specs.Marks.{holds}

-- ---- statuses

pub status_before : (ss : List Status) (s : Status) (t : ℕ) → t < length ss → status_of (ss ++ s ∷ []) t ≡ status_of ss t
status_before ss s t h = get_or_append_left ss (s ∷ []) Unused t h

pub status_new : (ss : List Status) (s : Status) → status_of (ss ++ s ∷ []) (length ss) ≡ s
status_new ss s = get_or_push ss s Unused (length ss) refl

-- what has begun is known
pub begun_known : (ss : List Status) (t : ℕ) → status_of ss t ≡ Begun → t < length ss
begun_known ss t e = elim (cases_lt t (length ss)) [ inl h ↦ h | inr h ↦ absurd (false≢true (ap holds (sym (get_or_past ss t Unused h) ∙ e))) ]

pub status_own : (ss : List Status) (t : ℕ) (s : Status) → status_of ss t ≡ Begun → status_of (set ss t s) t ≡ s
status_own ss t s e = get_or-set_same ss t s Unused (begun_known ss t e)

pub status_other : (ss : List Status) (t u : ℕ) (s : Status) → u ≢ t → status_of (set ss t s) u ≡ status_of ss u
status_other ss t u s ne = get_or-set_other ss t u s Unused ne

-- ---- what has happened

abbrev pub done : List Status → Open → ℕ → Bool
done ss o t = has_done o.snapshot o.t t (status_of ss t)

-- only whether it has committed matters
pub done_same : (ss ss' : List Status) (o : Open) (t : ℕ) → is_committed (status_of ss t) ≡ is_committed (status_of ss' t) → done ss o t ≡ done ss' o t
done_same ss ss' o t e = ap (λ c. eqb t o.t || (c && had_ended o.snapshot t)) e

pub done_own : (ss : List Status) (o : Open) → done ss o o.t ≡ true
done_own ss o = ap (λ b. b || (is_committed (status_of ss o.t) && had_ended o.snapshot o.t)) (eq-eqb o.t o.t refl)

-- nothing of a transaction that hadn't ended at the snapshot
pub done_not : (ss : List Status) (o : Open) (t : ℕ) → t ≢ o.t → had_ended o.snapshot t ≡ false → done ss o t ≡ false
done_not ss o t ne e =
    ap (λ b. b || (is_committed (status_of ss t) && had_ended o.snapshot t)) (ne_eqb t o.t ne)
    ∙ ap (λ b. is_committed (status_of ss t) && b) e
    ∙ and-false (is_committed (status_of ss t))

-- nor of one that hasn't committed
pub done_uncommitted : (ss : List Status) (o : Open) (t : ℕ) → t ≢ o.t → is_committed (status_of ss t) ≡ false → done ss o t ≡ false
done_uncommitted ss o t ne e = ap (λ b. b || (is_committed (status_of ss t) && had_ended o.snapshot t)) (ne_eqb t o.t ne) ∙ ap (λ c. c && had_ended o.snapshot t) e

-- a new snapshot has exactly what is committed
pub new_done : (ss ss' : List Status) (o : Open) (t : ℕ) → o.t ≡ o.snapshot.next → t < o.snapshot.next → status_of ss' t ≡ status_of ss t
    → (is_committed (status_of ss t) ≡ true → was_active o.snapshot t ≡ false) → done ss' o t ≡ is_committed (status_of ss t)
new_done ss ss' o t own below same free =
    done_same ss' ss o t (ap is_committed same)
    ∙ ap (λ b. b || (is_committed (status_of ss t) && had_ended o.snapshot t)) (ne_eqb t o.t (λ e. omega arith))
    ∙ ap (λ b. is_committed (status_of ss t) && (b && not (was_active o.snapshot t))) (lt-ltb t o.snapshot.next below)
    ∙ settled (is_committed (status_of ss t)) (was_active o.snapshot t) free
  where
    settled : (c a : Bool) → (c ≡ true → a ≡ false) → (c && not a) ≡ c
    settled true a h = ap not (h refl)
    settled false a h = refl

-- no snapshot has a number from its next one on
pub not_begun : (s : Snapshot) (t : ℕ) → s.next ≤ t → had_ended s t ≡ false
not_begun s t h = ap (λ b. b && not (was_active s t)) (le-ltb t s.next h)

-- nor one that was under way
pub still_active : (s : Snapshot) (t : ℕ) → was_active s t ≡ true → had_ended s t ≡ false
still_active s t e = ap (λ b. ltb t s.next && not b) e ∙ and-false (ltb t s.next)

-- ---- what is seen

pub seen_by : (ss : List Status) (o : Open) (v : Version) (a b : Bool) → done ss o v.row.id.t ≡ a → done ss o v.deleter ≡ b → is_seen ss o v ≡ (a && not b)
seen_by ss o v a b put gone = λ i. put i && not (gone i)

pub seen_same : (ss ss' : List Status) (o : Open) (v : Version) → done ss o v.row.id.t ≡ done ss' o v.row.id.t → done ss o v.deleter ≡ done ss' o v.deleter → is_seen ss o v ≡ is_seen ss' o v
seen_same ss ss' o v put gone = λ i. put i && not (gone i)

-- a row whose transaction has done nothing isn't seen
pub unseen : (ss : List Status) (o : Open) (v : Version) → done ss o v.row.id.t ≡ false → is_seen ss o v ≡ false
unseen ss o v put = ap (λ b. b && not (done ss o v.deleter)) put

-- nor is one whose deleter has done it
pub deleted : (ss : List Status) (o : Open) (v : Version) → done ss o v.deleter ≡ true → is_seen ss o v ≡ false
deleted ss o v gone = ap (λ b. done ss o v.row.id.t && not b) gone ∙ and-false (done ss o v.row.id.t)
