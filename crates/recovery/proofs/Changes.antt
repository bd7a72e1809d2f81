-- lists of changes, by their pages and as the bytes of frames
use Rattle.std.proofs.Common.{◌≡◌, ◌≢◌, ◌⊎◌, inl, inr, ℕ, suc, ◌<◌, ◌&&◌, ◌==◌, Bool, true, false, cond, List, [], ◌∷◌, ◌++◌, length, refl, sym, ◌∙◌, ap, subst, arith, append_assoc}
use Rattle.std.specs.List.{AllByRecursion}
use Rattle.std.proofs.lemmas.Bool.{cases_Bool, cases_eq, and_parts, and_from, eqb-true, eq-eqb}
use Rattle.std.proofs.lemmas.List.{append-nil}
use Rattle.block_model.specs.declared.place.Place.{Place}
use Rattle.log_area.specs.Frames.{LogFrame}
use Rattle.wal_record.specs.Changes.{LoggedChange, IsChange, place_of, FullPage, PageStart, RowPut, RowMark, RowsDrop, TuplePut, TupleReplace, TupleDrop, Evacuate, MapPage, MapSet, MetaSet, StatusSet}
use Rattle.wal_record.specs.ChangeBytes.{bytes_of}
use Rattle.recovery.specs.LoggedChanges.{AreChangesOf, AreLogged, BeginAnew, changes_at}

-- ---- those of one page

cond-append : (b : Bool) (c : LoggedChange) (xs ys : List LoggedChange) → cond b (c ∷ (xs ++ ys)) (xs ++ ys) ≡ cond b (c ∷ xs) xs ++ ys
cond-append true c xs ys = refl
cond-append false c xs ys = refl

pub changes_at-append : (place : Place) (xs ys : List LoggedChange) → changes_at place (xs ++ ys) ≡ changes_at place xs ++ changes_at place ys
changes_at-append place [] ys = refl
changes_at-append place (c ∷ xs) ys =
    let here = (place_of c).relation == place.relation && (place_of c).block == place.block in
    ap (λ (l : List LoggedChange). cond here (c ∷ l) l) (changes_at-append place xs ys) ∙ cond-append here c (changes_at place xs) (changes_at place ys)

pub at_own : (place : Place) (c : LoggedChange) (cs : List LoggedChange) → place_of c ≡ place → changes_at place (c ∷ cs) ≡ c ∷ changes_at place cs
at_own place c cs is =
    ap (λ (b : Bool). cond b (c ∷ changes_at place cs) (changes_at place cs))
    (and_from ((place_of c).relation == place.relation) ((place_of c).block == place.block)
    (eq-eqb (place_of c).relation place.relation (ap (λ (p : Place). p.relation) is)) (eq-eqb (place_of c).block place.block (ap (λ (p : Place). p.block) is)))

pub at_other : (place : Place) (c : LoggedChange) (cs : List LoggedChange) → place_of c ≢ place → changes_at place (c ∷ cs) ≡ changes_at place cs
at_other place c cs other =
    let here = (place_of c).relation == place.relation && (place_of c).block == place.block in
    elim (cases_Bool here) [
      | inl same ↦
          let parts = and_parts ((place_of c).relation == place.relation) ((place_of c).block == place.block) same in
          absurd (other (λ i. record { relation = eqb-true (place_of c).relation place.relation parts.0 i; block = eqb-true (place_of c).block place.block parts.1 i }))
      | inr apart ↦ ap (λ (b : Bool). cond b (c ∷ changes_at place cs) (changes_at place cs)) apart
    ]

pub same_place : (p q : Place) → (q ≡ p) ⊎ (q ≢ p)
same_place p q = elim (cases_eq q.relation p.relation) [
  | inl r ↦ elim (cases_eq q.block p.block) [
    | inl b ↦ inl (λ i. record { relation = r i; block = b i })
    | inr other ↦ inr (λ e. other (ap (λ (x : Place). x.block) e))
  ]
  | inr other ↦ inr (λ e. other (ap (λ (x : Place). x.relation) e))
]

pub begin_front : (xs ys : List LoggedChange) → 0 < length xs → BeginAnew xs → BeginAnew (xs ++ ys)
begin_front [] ys some begun = absurd (omega (arith, some))
begin_front (x ∷ xs) ys some begun = begun

pub front_begins : (xs ys : List LoggedChange) → BeginAnew (xs ++ ys) → BeginAnew xs
front_begins [] ys begun = tt
front_begins (x ∷ xs) ys begun = begun

pub none_or_some : (xs : List LoggedChange) → (xs ≡ []) ⊎ (0 < length xs)
none_or_some [] = inl refl
none_or_some (x ∷ xs) = inr (omega arith)

pub front_none : (xs ys : List LoggedChange) → xs ++ ys ≡ [] → xs ≡ []
front_none [] ys e = refl
front_none (x ∷ xs) ys e = absurd (let n : suc (length (xs ++ ys)) ≡ 0 = ap (length {A = LoggedChange}) e in omega (arith, n))

pub all_append : (P : LoggedChange → Type 0) (xs ys : List LoggedChange) → AllByRecursion P xs → AllByRecursion P ys → AllByRecursion P (xs ++ ys)
all_append P [] ys a b = b
all_append P (x ∷ xs) ys a b = (a.0, all_append P xs ys a.1 b)

pub all_front : (P : LoggedChange → Type 0) (xs ys : List LoggedChange) → AllByRecursion P (xs ++ ys) → AllByRecursion P xs
all_front P [] ys a = tt
all_front P (x ∷ xs) ys a = (a.0, all_front P xs ys a.1)

pub all_behind : (P : LoggedChange → Type 0) (xs ys : List LoggedChange) → AllByRecursion P (xs ++ ys) → AllByRecursion P ys
all_behind P [] ys a = a
all_behind P (x ∷ xs) ys a = all_behind P xs ys a.1

-- ---- as bytes

cons_not : (x : ℕ) (xs : List ℕ) → x ∷ xs ≡ [] → ⊥
cons_not x xs e = absurd cc

pub some_bytes : (c : LoggedChange) (x : List ℕ) → bytes_of c ++ x ≡ [] → ⊥
unfolding bytes_of
some_bytes (FullPage place bytes) x h = cons_not _ _ h
some_bytes (PageStart place kind) x h = cons_not _ _ h
some_bytes (RowPut place slot bytes) x h = cons_not _ _ h
some_bytes (RowMark place slot deleter) x h = cons_not _ _ h
some_bytes (RowsDrop place slots) x h = cons_not _ _ h
some_bytes (TuplePut place slot bytes) x h = cons_not _ _ h
some_bytes (TupleReplace place slot bytes) x h = cons_not _ _ h
some_bytes (TupleDrop place slots) x h = cons_not _ _ h
some_bytes (Evacuate place) x h = cons_not _ _ h
some_bytes (MapPage place) x h = cons_not _ _ h
some_bytes (MapSet place entry spot) x h = cons_not _ _ h
some_bytes (MetaSet place maps) x h = cons_not _ _ h
some_bytes (StatusSet place entry status) x h = cons_not _ _ h

-- one change more, behind others
pub changes_push : (front : List ℕ) (xs : List LoggedChange) (c : LoggedChange) → AreChangesOf front xs → IsChange c → AreChangesOf (front ++ bytes_of c) (xs ++ c ∷ [])
changes_push front [] c are is = ([], is, ap (λ (l : List ℕ). l ++ bytes_of c) are ∙ sym (append-nil (bytes_of c)), refl)
changes_push front (x ∷ xs) c are is =
    (are.0 ++ bytes_of c, are.1, ap (λ (l : List ℕ). l ++ bytes_of c) are.2 ∙ append_assoc (bytes_of x) are.0 (bytes_of c), changes_push are.0 xs c are.3 is)

-- no change's bytes begin those of another
abbrev pub NoneBeginsAnother : Type 0
NoneBeginsAnother = (a b : LoggedChange) (x y : List ℕ) → IsChange a → IsChange b → bytes_of a ++ x ≡ bytes_of b ++ y → (a ≡ b) × (x ≡ y)

-- bytes that begin with those of some changes hold these first
pub changes_begin : NoneBeginsAnother → (front rest bytes : List ℕ) (xs ys : List LoggedChange) → bytes ≡ front ++ rest → AreChangesOf front xs → AreChangesOf bytes ys
    → (more : List LoggedChange) × (ys ≡ xs ++ more) × AreChangesOf rest more
changes_begin one front rest bytes [] ys is a b = (ys, refl, subst (λ (l : List ℕ). AreChangesOf l ys) (is ∙ ap (λ (l : List ℕ). l ++ rest) a) b)
changes_begin one front rest bytes (x ∷ xs) [] is a b =
    absurd (some_bytes x (a.0 ++ rest) (sym (append_assoc (bytes_of x) a.0 rest) ∙ sym (ap (λ (l : List ℕ). l ++ rest) a.2) ∙ sym is ∙ b))
changes_begin one front rest bytes (x ∷ xs) (y ∷ ys) is a b =
    let same = one x y (a.0 ++ rest) b.0 a.1 b.1 (sym (append_assoc (bytes_of x) a.0 rest) ∙ sym (ap (λ (l : List ℕ). l ++ rest) a.2) ∙ sym is ∙ b.2) in
    let r = changes_begin one a.0 rest b.0 xs ys (sym same.1) a.3 b.3 in
    (r.0, ap (λ (c : LoggedChange). c ∷ ys) (sym same.0) ∙ ap (λ (l : List LoggedChange). x ∷ l) r.1, r.2)

-- bytes hold one list of changes at most
pub changes_once : NoneBeginsAnother → (bytes : List ℕ) (xs ys : List LoggedChange) → AreChangesOf bytes xs → AreChangesOf bytes ys → ys ≡ xs
changes_once one bytes xs ys a b =
    let r = changes_begin one bytes [] bytes xs ys (sym (append-nil bytes)) a b in
    r.1 ∙ ap (λ (l : List LoggedChange). xs ++ l) (no_bytes r.0 r.2) ∙ append-nil xs
  where
    no_bytes : (zs : List LoggedChange) → AreChangesOf [] zs → zs ≡ []
    no_bytes [] a = refl
    no_bytes (z ∷ zs) a = absurd (some_bytes z a.0 (sym a.2))

-- ---- as frames

pub logged_append : (some others : List LogFrame) (xs ys : List LoggedChange) → AreLogged some xs → AreLogged others ys → AreLogged (some ++ others) (xs ++ ys)
logged_append [] others xs ys a b = subst (λ (l : List LoggedChange). AreLogged others (l ++ ys)) (sym a) b
logged_append (f ∷ some) others xs ys a b =
    (a.0, a.1 ++ ys, a.2, a.3, logged_append some others a.1 ys a.4 b, ap (λ (l : List LoggedChange). l ++ ys) a.5 ∙ append_assoc a.0 a.1 ys)

pub logged_split : (some others : List LogFrame) (zs : List LoggedChange) → AreLogged (some ++ others) zs → (xs : List LoggedChange) × (ys : List LoggedChange) × AreLogged some xs × AreLogged others ys × (zs ≡ xs ++ ys)
logged_split [] others zs a = ([], zs, refl, a, refl)
logged_split (f ∷ some) others zs a =
    let r = logged_split some others a.1 a.4 in
    (a.0 ++ r.0, r.1, (a.0, r.0, a.2, a.3, r.2, refl), r.3, a.5 ∙ ap (λ (l : List LoggedChange). a.0 ++ l) r.4 ∙ sym (append_assoc a.0 r.0 r.1))

pub logged_once : NoneBeginsAnother → (fs : List LogFrame) (xs ys : List LoggedChange) → AreLogged fs xs → AreLogged fs ys → ys ≡ xs
logged_once one [] xs ys a b = b ∙ sym a
logged_once one (f ∷ fs) xs ys a b =
    b.5 ∙ ap (λ (l : List LoggedChange). l ++ b.1) (changes_once one f.changes a.0 b.0 a.2 b.2) ∙ ap (λ (l : List LoggedChange). a.0 ++ l) (logged_once one fs a.1 b.1 a.4 b.4) ∙ sym a.5

-- one frame of these changes
pub logged_frame : (frame : LogFrame) (own : List LoggedChange) → AreChangesOf frame.changes own → frame.count ≡ length own → AreLogged (frame ∷ []) own
logged_frame frame own are count = (own, [], are, count, refl, sym (append-nil own))
