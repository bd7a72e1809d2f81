-- Small indexes for the runs: one session, ranges of one block, functions that compute; and one lemma for each kind of step.
use Rattle.std.proofs.Common.{◌≡◌, ◌⊎◌, inl, inr, ⊎_elim, ℕ, ◌+◌, ◌<◌, Option, Some, None, false, List, [], ◌∷◌, sym, ◌∙◌, ap, arith, zero, suc}
use Rattle.std.specs.Prelude.{refl}
use Rattle.std.proofs.lemmas.Option.{same_Some, none-some}
use Rattle.block_model.specs.declared.row.Row.{Row}
use Rattle.block_model.specs.declared.place.Spot.{Spot}
use Rattle.coverage.specs.IndexView.{IndexTuple, PageKind, Unstarted, Mapping, Regular, Emptying, Pages, IndexView}
use Rattle.coverage.specs.Changes.{ChangesAt, OwnLocks, Touched, TouchesNothing, TouchesRows, TouchesEntries, TouchesTuples, TouchesUnnamed}
use Rattle.coverage.specs.Changes.{TouchesSummariseLock, KeepsHeap, KeepsMap, KeepsTuples, KeepsUnnamed, KeepsSummariseLock, Frame}
use Rattle.coverage.specs.Statements.{OnIndex, Phase, Statement, Idle, Inserting, Maintaining}
use Rattle.coverage.specs.Knowing.{IsOneOf, LocksThese}
use Rattle.coverage.specs.IsCovered.{IndexState, index_view}
use Rattle.coverage.specs.Steps.{ReadsIndex, PutsTuple, ReplacesTuple, SetsEntry, DropsTuple, TurnsKind, CountsPage, InsertStep, SummariseStep, Summarises}
use Rattle.coverage.specs.Steps.{Turned, SummariseLockPasses, Step, Insert, Maintain}
use Rattle.coverage.proofs.ExampleTuples.{contents}

-- the first where the numbers are the same
abbrev pub at_number : {A : Type 0} → ℕ → ℕ → A → A → A
at_number zero zero a b = a
at_number zero (suc m) a b = b
at_number (suc n) zero a b = b
at_number (suc n) (suc m) a b = at_number n m a b

pub at_other : {A : Type 0} → (n m : ℕ) (a b : A) → (n ≡ m) ⊎ (at_number n m a b ≡ b)
at_other zero zero a b = inl refl
at_other zero (suc m) a b = inr refl
at_other (suc n) zero a b = inr refl
at_other (suc n) (suc m) a b = ⊎_elim (λ (is : n ≡ m). inl (ap suc is)) (λ (e : at_number n m a b ≡ b). inr e) (at_other n m a b)

pub at_here : {A : Type 0} → (n : ℕ) (a b : A) → at_number n n a b ≡ a
at_here zero a b = refl
at_here (suc n) a b = at_here n a b

pub at_both : {A : Type 0} → (n m : ℕ) (a : A) → at_number n m a a ≡ a
at_both zero zero a = refl
at_both zero (suc m) a = refl
at_both (suc n) zero a = refl
at_both (suc n) (suc m) a = at_both n m a

at_same : {A : Type 0} → (n m : ℕ) (a b : A) → n ≡ m → at_number n m a b ≡ a
at_same n m a b is = ap (λ k. at_number k m a b) is ∙ at_here m a b

-- where a value stands at one place, and another everywhere else
pub at_spot : {A : Type 0} → (y : Spot) (a b : A) (x : Spot) → (x ≡ y) ⊎ (at_number x.block y.block (at_number x.slot y.slot a b) b ≡ b)
at_spot y a b x = elim (at_other x.block y.block (at_number x.slot y.slot a b) b) [ inl block ↦ on block | inr e ↦ inr e ]
  where
    on : x.block ≡ y.block → (x ≡ y) ⊎ (at_number x.block y.block (at_number x.slot y.slot a b) b ≡ b)
    on block = elim (at_other x.slot y.slot a b) [
      | inl slot ↦ inl (λ i. record { block = block i; slot = slot i })
      | inr e ↦ inr (ap (λ z. at_number x.block y.block z b) e ∙ at_both x.block y.block b)
    ]

-- a tuple at a place, over those of before
abbrev pub placed : Spot → Option IndexTuple → (Spot → Option IndexTuple) → Spot → Option IndexTuple
placed y o f x = at_number x.block y.block (at_number x.slot y.slot o (f x)) (f x)

placed_here : (y : Spot) (o : Option IndexTuple) (f : Spot → Option IndexTuple) → placed y o f y ≡ o
placed_here y o f = at_here y.block (at_number y.slot y.slot o (f y)) (f y) ∙ at_here y.slot o (f y)

pub placed_others : (y : Spot) (o : Option IndexTuple) (f : Spot → Option IndexTuple) (x : Spot) → (x ≡ y) ⊎ (placed y o f x ≡ f x)
placed_others y o f x = at_spot y o (f x) x

pub placed_again : (y : Spot) (o p : Option IndexTuple) (f : Spot → Option IndexTuple) (x : Spot) → (x ≡ y) ⊎ (placed y o f x ≡ placed y p f x)
placed_again y o p f x = ⊎_elim
    (λ (is : x ≡ y). inl is)
    (λ (e : placed y o f x ≡ f x). ⊎_elim (λ (is : x ≡ y). inl is) (λ (d : placed y p f x ≡ f x). inr (e ∙ sym d)) (placed_others y p f x))
    (placed_others y o f x)

abbrev pub no_tuples : Spot → Option IndexTuple
no_tuples x = None

abbrev pub place : Spot
place = record { block = 2; slot = 0 }

abbrev pub one_tuple : Option IndexTuple → Spot → Option IndexTuple
one_tuple o = placed place o no_tuples

abbrev pub no_rows : ℕ → ℕ → Option Row
no_rows b k = None

abbrev pub one_row : Row → ℕ → ℕ → Option Row
one_row r b k = at_number b 0 (at_number k 0 (Some r) None) None

abbrev pub no_locks : ℕ → Option ℕ
no_locks p = None

abbrev pub new_kind : ℕ → PageKind
new_kind zero = Mapping
new_kind (suc zero) = Mapping
new_kind (suc (suc n)) = Unstarted

abbrev pub grown_kind : ℕ → PageKind
grown_kind p = at_number p 2 Regular (new_kind p)

abbrev pub pages : (ℕ → PageKind) → Pages
pages kind = record { kind = kind; map_pages = 1; limit = 16 }

abbrev pub kind_number : PageKind → ℕ
kind_number Unstarted = 0
kind_number Mapping = 1
kind_number Regular = 2
kind_number Emptying = 3

pub differ : (n m : ℕ) → n ≡ m → n < m → ⊥
differ n m is less = omega arith

-- the session locks these pages
abbrev pub locks_of : List ℕ → ℕ → Option ℕ
locks_of [] p = None
locks_of (q ∷ more) p = at_number p q (Some 0) (locks_of more p)

pub own_locks : (these : List ℕ) (p n : ℕ) → locks_of these p ≡ Some n → n ≡ 0
own_locks [] p n is = absurd (none-some _ is)
own_locks (q ∷ more) p n is = ⊎_elim
    (λ (at : p ≡ q). sym (same_Some _ _ (sym (at_same p q (Some 0) (locks_of more p) at) ∙ is)))
    (λ (e : locks_of (q ∷ more) p ≡ locks_of more p). own_locks more p n (sym e ∙ is))
    (at_other p q (Some 0) (locks_of more p))

locked_by : (these : List ℕ) (p : ℕ) → IsOneOf these p → locks_of these p ≡ Some 0
locked_by [] p one = absurd one
locked_by (q ∷ more) p one = ⊎_elim
    (λ (at : p ≡ q). at_same p q (Some 0) (locks_of more p) at)
    (λ (rest : IsOneOf more p). ⊎_elim
    (λ (at : p ≡ q). at_same p q (Some 0) (locks_of more p) at)
    (λ (e : locks_of (q ∷ more) p ≡ locks_of more p). e ∙ locked_by more p rest)
    (at_other p q (Some 0) (locks_of more p)))
    one

only_by : (these : List ℕ) (p : ℕ) → locks_of these p ≡ Some 0 → IsOneOf these p
only_by [] p is = absurd (none-some _ is)
only_by (q ∷ more) p is = elim (at_other p q (Some 0) (locks_of more p)) [ inl at ↦ inl at | inr e ↦ inr (only_by more p (sym e ∙ is)) ]

-- what a small index is: entries, tuples, pages, the pages that the session locks, who holds the summarise lock, and what the session is at
pub record Small : Type 0 where
  pub entry : ℕ → Option Spot
  pub tuple : Spot → Option IndexTuple
  pub pages : Pages
  pub locks : List ℕ
  pub held : Option ℕ
  pub statement : Statement

abbrev pub statement_at : Statement → ℕ → Statement
statement_at e zero = e
statement_at e (suc n) = Idle

abbrev pub index_of : (ℕ → ℕ → Option Row) → Small → IndexState
index_of row w = record {
  contents = contents;
  pages_per_range = 1;
  blocks = 1021;
  row = row;
  entry = w.entry;
  tuple = w.tuple;
  pages = w.pages;
  lock = locks_of w.locks;
  summarise_lock = w.held;
  unnamed = λ x. false;
  statement = statement_at w.statement;
  counts = λ t. false;
}

abbrev pub view : (ℕ → ℕ → Option Row) → Small → IndexView
view row w = index_view (index_of row w)

-- what the steps make of it
abbrev pub at_statement : Statement → Small → Small
at_statement e w = record w { statement = e }

abbrev turned_page : ℕ → PageKind → Pages → Pages
turned_page page kind g = record g { kind = λ p. at_number p page kind (g.kind p) }

abbrev pub put_at : Spot → IndexTuple → List ℕ → Small → Small
put_at y t these w = record w { tuple = placed y (Some t) w.tuple; pages = turned_page y.block Regular w.pages; locks = these }

abbrev pub set_at : ℕ → Spot → List ℕ → Small → Small
set_at range y these w = record w { entry = λ m. at_number m range (Some y) (w.entry m); locks = these }

abbrev pub drop_at : Spot → Small → Small
drop_at x w = record w { tuple = placed x None w.tuple; locks = [] }

abbrev pub kind_at : PageKind → List ℕ → Small → Small
kind_at kind these w = record w { pages = turned_page (w.pages.map_pages + 1) kind w.pages; locks = these }

abbrev pub count_at : Small → Small
count_at w = record w { pages = record w.pages { map_pages = w.pages.map_pages + 1 }; locks = [] }

abbrev pub held_by : Option ℕ → Statement → Small → Small
held_by held e w = record w { held = held; statement = e }

turns : (e f : Statement) (n : ℕ) → (n ≡ 0) ⊎ (statement_at f n ≡ statement_at e n)
turns e f zero = inl refl
turns e f (suc n) = inr refl

-- who locks no page
pub nobody : (locks : List ℕ) → locks ≡ [] → (p : ℕ) → locks_of locks p ≡ Some 0 → ⊥
nobody locks none p is = none-some _ (sym (ap (λ l. locks_of l p) none) ∙ is)

module _ (row : ℕ → ℕ → Option Row) (w v : Small) where
  own : OwnLocks 0 (view row w).lock (view row v).lock
  own = record {
    others = λ p n is other. absurd (other (own_locks w.locks p n is));
    taken = λ p n is other. absurd (other (own_locks v.locks p n is));
  }

  pub turned : (d e : Statement) → w.statement ≡ d → v.statement ≡ e → Turned 0 (index_of row w) (index_of row v) d e
  turned d e was now = record { was = was; now = now; others = λ n. turns w.statement v.statement n }

  heap : (touched : Touched) → KeepsHeap touched (view row w) (view row v)
  heap TouchesRows = tt
  heap _ = record { pages_per_range = refl; blocks = refl; row = λ b k. refl }

  unnamed : (touched : Touched) → KeepsUnnamed touched (view row w) (view row v)
  unnamed TouchesUnnamed = tt
  unnamed _ = record { unnamed = λ x. refl }

  frame : (touched : Touched) → KeepsMap touched (view row w) (view row v) → KeepsTuples touched (view row w) (view row v)
      → KeepsSummariseLock touched (view row w) (view row v) → Frame 0 touched (view row w) (view row v)
  frame touched map tuples held =
      record { heap = heap touched; map = map; tuples = tuples; unnamed_tuples = unnamed touched; summarise_lock = held; locks = own; contents = refl }

  -- a step of an insert, and one of a summariser
  pub inserts : (b k : ℕ) (r : Row) (on_index : OnIndex) (new : Statement) → w.statement ≡ Inserting b k r on_index → v.statement ≡ new
      → InsertStep 0 b k r (view row w) (view row v) on_index new → Step 0 (index_of row w) (index_of row v)
  inserts b k r on_index new was now step = Insert b k r on_index new (turned (Inserting b k r on_index) new was now) step (record { counts = λ t. refl })

  pub summarises : (range : ℕ) (old : Phase) (new : Statement) → w.statement ≡ Maintaining range old → v.statement ≡ new
      → SummariseStep 0 range (view row w) (view row v) old new → Step 0 (index_of row w) (index_of row v)
  summarises range old new was now step =
      Maintain range old new (turned (Maintaining range old) new was now) (Summarises step) (record { counts = λ t. refl })

module _ (row : ℕ → ℕ → Option Row) (w : Small) where
  pub locks_these : LocksThese (view row w).lock 0 w.locks
  locks_these = record { locked = λ p one. locked_by w.locks p one; only = λ p is. only_by w.locks p is }

  pub free : (p n : ℕ) → locks_of w.locks p ≡ Some n → n ≡ 0
  free p n is = own_locks w.locks p n is

  pub reads : (e : Statement) → w.locks ≡ [] → ReadsIndex 0 (view row w) (view row (at_statement e w))
  reads e none = record { frame = frame row w (at_statement e w) TouchesNothing (record { entry = λ m. refl }) (record { tuple = λ x. refl }) refl; pages = refl; none = nobody w.locks none }

  pub puts : (y : Spot) (t : IndexTuple) (these : List ℕ) (e : Statement) → w.tuple y ≡ None
      → PutsTuple 0 (view row w) (view row (at_statement e (put_at y t these w))) y t
  puts y t these e none = record {
    tuple = record { was = none; now = placed_here y (Some t) w.tuple; others = placed_others y (Some t) w.tuple };
    free = free y.block;
    page = record {
      now = at_here y.block Regular (w.pages.kind y.block);
      kinds = λ p. at_other p y.block Regular (w.pages.kind p);
      map_pages = refl;
      limit = refl;
    };
    frame = frame row w (at_statement e (put_at y t these w)) TouchesTuples (record { entry = λ m. refl }) tt refl;
  }

  pub sets : (range : ℕ) (y : Spot) (these : List ℕ) (e : Statement)
      → SetsEntry 0 (view row w) (view row (at_statement e (set_at range y these w))) range y
  sets range y these e = record {
    entry = record { now = at_here range (Some y) (w.entry range); others = λ m. at_other m range (Some y) (w.entry m) };
    pages = refl;
    frame = frame row w (at_statement e (set_at range y these w)) TouchesEntries tt (record { tuple = λ x. refl }) refl;
  }

  pub drops : (x : Spot) (e : Statement) → DropsTuple 0 (view row w) (view row (at_statement e (drop_at x w))) x
  drops x e = record {
    tuple = record { now = placed_here x None w.tuple; others = placed_others x None w.tuple };
    page = record { now = refl; kinds = λ p. inr refl; map_pages = refl; limit = refl };
    frame = frame row w (at_statement e (drop_at x w)) TouchesTuples (record { entry = λ m. refl }) tt refl;
    none = nobody [] refl;
  }

  pub replaces : (x : Spot) (old new : IndexTuple) (tuple : Spot → Option IndexTuple) (e : Statement)
      → ChangesAt w.tuple tuple x (Some old) (Some new) → w.pages.kind x.block ≡ Regular → w.locks ≡ []
      → ReplacesTuple 0 (view row w) (view row (at_statement e (record w { tuple = tuple }))) x old new
  replaces x old new tuple e changes regular none = record {
    tuple = changes;
    free = free x.block;
    page = record { now = regular; kinds = λ p. inr refl; map_pages = refl; limit = refl };
    frame = frame row w (at_statement e (record w { tuple = tuple })) TouchesTuples (record { entry = λ m. refl }) tt refl;
    none = nobody w.locks none;
  }

  pub turns_kind : (kind : PageKind) (these : List ℕ) (e : Statement)
      → TurnsKind 0 (view row w) (view row (at_statement e (kind_at kind these w))) kind these
  turns_kind kind these e = record {
    frame = frame row w (at_statement e (kind_at kind these w)) TouchesNothing (record { entry = λ m. refl }) (record { tuple = λ x. refl }) refl;
    page = record {
      now = at_here (w.pages.map_pages + 1) kind (w.pages.kind (w.pages.map_pages + 1));
      kinds = λ p. at_other p (w.pages.map_pages + 1) kind (w.pages.kind p);
      map_pages = refl;
      limit = refl;
    };
    locks = record { locked = λ p one. locked_by these p one; only = λ p is. only_by these p is };
  }

  pub counts_page : (e : Statement) → CountsPage 0 (view row w) (view row (at_statement e (count_at w)))
  counts_page e = record {
    frame = frame row w (at_statement e (count_at w)) TouchesNothing (record { entry = λ m. refl }) (record { tuple = λ x. refl }) refl;
    pages = refl;
    none = nobody [] refl;
  }

  pub passes : (old new : Option ℕ) (e : Statement) → w.held ≡ old → w.locks ≡ []
      → SummariseLockPasses 0 (view row w) (view row (held_by new e w)) old new
  passes old new e was none = record {
    was = was;
    now = refl;
    pages = refl;
    none = nobody w.locks none;
    frame = frame row w (held_by new e w) TouchesSummariseLock (record { entry = λ m. refl }) (record { tuple = λ x. refl }) tt;
  }
