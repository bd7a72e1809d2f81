-- A vacuum that sweeps the one index page with tuples.
use Rattle.std.proofs.Common.{◌≡◌, ◌⊎◌, inl, inr, ℕ, suc, ◌+◌, ◌*◌, ◌≤◌, ◌<◌, Bool, true, false, List, [], ◌∷◌, Option, None, Some, refl, sym, ap, ◌∙◌, subst, arith, add-zero, zero-add}
use Rattle.std.specs.Prelude.{codes, ◌↔◌}
use Rattle.std.proofs.lemmas.Bool.{false≢true}
use Rattle.std.proofs.lemmas.Option.{none-some}
use Rattle.block_model.specs.declared.place.Spot.{Spot}
use Rattle.block_model.specs.declared.reply.Point.TheVariants as points
use Rattle.block_model.specs.declared.reply.Reply.TheVariants as replies
use Rattle.coverage.specs.Counts.{AreTuplesGone, HasGone, IsCountOf}
use Rattle.coverage.specs.IndexPart.{IndexPart, SweepMakes}
use Rattle.coverage.specs.IndexView.{IndexTuple, IndexView}
use Rattle.coverage.specs.PageOrder.{IsForTuples}
use Rattle.coverage.specs.Steps.{IsUnnamed}
use Rattle.script_semantics.specs.Place.{Place, new_hand}
use Rattle.script_semantics.specs.StatementSteps.{Moved, Steps}
use Rattle.script_semantics.proofs.Bare.{not_behind}
use Rattle.script_semantics.proofs.Orders.{updated_here}
use Rattle.reply_texts.specs.Texts.{reply_text}
use Rattle.store_layout.specs.declared.statement.Statement.TheVariants as statements
use Rattle.coverage.specs.InOneIndex.{index_with, with_index, with_unnamed}
use Rattle.coverage.specs.Table.{Considers, Index, Prunes, Restarts, Resting, Sweeps, SweepsFrom, TableState, Task, WholeRanges, index_view_at, pick}
use Rattle.coverage.specs.TableSteps.{GivesLock, GoesOn, HasTuples, IsFrom, Onward, RangesDone, RestartsIndex, SameRows, Settles, Swept, ToPage}
use Rattle.coverage.proofs.OneIndexSteps.{sweeps_one}
use Rattle.coverage.proofs.Views.{pick_same, pick_there}
use Rattle.script_laws.specs.RowLaws.{AVacuumCountsRowsAndTuples}
use Rattle.script_laws.specs.Finds.{HasDeadRows, IsCalm}
use Rattle.script_laws.specs.Answered.{IsAnswered}
use Rattle.script_laws.proofs.Deciding.{count_same, decided, decided_is, is_decided}
use Rattle.script_laws.proofs.IndexMakes.{AreOwn, own_on}
use Rattle.script_laws.proofs.Maintained.{at_stage, counted, ends_on, no_prune, recounts}
use Rattle.script_laws.proofs.Places.{answered, before, goes, updated_both}
use Rattle.script_laws.proofs.Said.{said_vacuumed}
use Rattle.script_laws.proofs.Stages.{Counting, Moves, Stage, state_of}
use Rattle.script_laws.proofs.Vacuumed.{at_task, base, base_is, begun, below, is_at, is_taken, left, not_prunes, not_restarts, only_index, pruned, q2, start, suits}

-- ---- the sweep of a page, in the index

-- a tuple, unless it is swept
abbrev kept_tuple : Bool → Option IndexTuple → Option IndexTuple
kept_tuple true o = None
kept_tuple false o = o

abbrev kept_mark : Bool → Bool → Bool
kept_mark true d = false
kept_mark false d = d

kept_or : (d : Bool) (o : Option IndexTuple) → (kept_tuple d o ≡ o) ⊎ (d ≡ true)
kept_or true o = inr refl
kept_or false o = inl refl

module _ (s page c : ℕ) (u : IndexView) (mine : AreOwn s u.lock) (none : (p : ℕ) → u.lock p ≡ Some s → ⊥)
    (count : IsCountOf (λ (k : ℕ). IsUnnamed u (record { block = page; slot = k })) c) where
  abbrev OnPage : ℕ → Type 0
  OnPage k = IsUnnamed u (record { block = page; slot = k })

  abbrev goes_at : Spot → Bool
  goes_at x = pick x.block page (decided OnPage c count x.slot) false

  abbrev pub swept_part : IndexPart
  swept_part = record {
    entry = u.entry;
    tuple = λ x. kept_tuple (goes_at x) (u.tuple x);
    pages = u.pages;
    lock = u.lock;
    unnamed = λ x. kept_mark (goes_at x) (u.unnamed x);
  }

  goes_is : (x : Spot) → goes_at x ≡ true → (x.block ≡ page) × ((x.block ≡ page) × IsUnnamed u x)
  goes_is x so = by (pick_there x.block page (decided OnPage c count x.slot) false)
    where
      by : (x.block ≡ page) ⊎ (pick x.block page (decided OnPage c count x.slot) false ≡ false) → (x.block ≡ page) × ((x.block ≡ page) × IsUnnamed u x)
      by (inl on) =
          let here : decided OnPage c count x.slot ≡ true =
          sym (pick_same x.block (decided OnPage c count x.slot) false) ∙ ap (λ (b : ℕ). pick x.block b (decided OnPage c count x.slot) false) on ∙ so in
          (on, (on, subst (λ (b : ℕ). IsUnnamed u (record { block = b; slot = x.slot })) (sym on) (decided_is OnPage c count x.slot here)))
      by (inr off) = absurd (false≢true (sym off ∙ so))

  is_going : (x : Spot) → x.block ≡ page → IsUnnamed u x → goes_at x ≡ true
  is_going x on is =
      ap (λ (b : ℕ). pick b page (decided OnPage c count x.slot) false) on ∙ pick_same page (decided OnPage c count x.slot) false
      ∙ is_decided OnPage c count x.slot (subst (λ (b : ℕ). IsUnnamed u (record { block = b; slot = x.slot })) on is)

  pub sweeps_page : SweepMakes s page u swept_part
  sweeps_page building loose = record {
    free = λ m is. mine page m is;
    gone = λ x is. (ap (λ d. kept_tuple d (u.tuple x)) (is_going x is.0 is.1), ap (λ d. kept_mark d (u.unnamed x)) (is_going x is.0 is.1));
    places = λ x. by x (goes_at x) refl;
    page = record { now = refl; kinds = λ p. inr refl; map_pages = refl; limit = refl };
    frame = record {
      heap = record { pages_per_range = refl; blocks = refl; row = λ b k. refl };
      map = record { entry = λ m. refl };
      tuples = tt;
      unnamed_tuples = tt;
      summarise_lock = refl;
      locks = own_on s u.lock u.lock mine mine;
      contents = refl;
    };
    none = none;
  }
    where
      by : (x : Spot) (d : Bool) → goes_at x ≡ d → ((kept_tuple (goes_at x) (u.tuple x) ≡ u.tuple x) × (kept_mark (goes_at x) (u.unnamed x) ≡ u.unnamed x))
          ⊎ ((x.block ≡ page) × ((x.block ≡ page) × IsUnnamed u x))
      by x true is = inr (goes_is x is)
      by x false is = inl (ap (λ d. kept_tuple d (u.tuple x)) is, ap (λ d. kept_mark d (u.unnamed x)) is)

  pub tuples_gone : AreTuplesGone u.tuple swept_part.tuple page c
  tuples_gone = count_same OnPage (λ k. HasGone (u.tuple (record { block = page; slot = k })) (swept_part.tuple (record { block = page; slot = k }))) goes_away back c count
    where
      goes_away : (k : ℕ) → OnPage k → HasGone (u.tuple (record { block = page; slot = k })) (swept_part.tuple (record { block = page; slot = k }))
      goes_away k is = (
        (λ empty. none-some _ (sym empty ∙ is.1)),
        ap (λ d. kept_tuple d (u.tuple (record { block = page; slot = k }))) (is_going (record { block = page; slot = k }) refl is),
      )

      back : (k : ℕ) → HasGone (u.tuple (record { block = page; slot = k })) (swept_part.tuple (record { block = page; slot = k })) → OnPage k
      back k gone = one (kept_or (goes_at (record { block = page; slot = k })) (u.tuple (record { block = page; slot = k })))
        where
          one : (swept_part.tuple (record { block = page; slot = k }) ≡ u.tuple (record { block = page; slot = k })) ⊎ (goes_at (record { block = page; slot = k }) ≡ true) → OnPage k
          one (inl same) = absurd (gone.0 (sym same ∙ gone.1))
          one (inr so) = (goes_is (record { block = page; slot = k }) so).1.1

-- ---- the vacuum

sweeps_busy : (page : ℕ) → Sweeps 0 page ≡ Resting → ⊥
sweeps_busy page is = absurd (cc)

sweeps_not_prunes : (page extent next : ℕ) → Sweeps 0 page ≡ Prunes extent next → ⊥
sweeps_not_prunes page extent next is = absurd (cc)

no_later : (m page q : ℕ) → m ≡ 0 → q ≡ page → (0 < m) ⊎ ((0 ≡ m) × (suc page ≤ q)) → ⊥
no_later m page q zeroth is (inl less) = omega arith
no_later m page q zeroth is (inr (same, le)) = omega (arith, le)

from_here : (m page q : ℕ) → m ≡ 0 → q ≡ page → (0 < m) ⊎ ((0 ≡ m) × (page ≤ q))
from_here m page q zeroth is = inr (sym zeroth, omega arith)

none_whole : (per its blocks : ℕ) → per ≡ its → 1 < its → blocks ≡ 1 → (0 + 1) * per ≤ blocks → ⊥
none_whole per its blocks is more one le = omega arith

module _ (p : Place) (n t rows page c : ℕ) (calm : IsCalm p n t 0) (has : HasDeadRows p t rows)
    (only_page : (q : ℕ) → IsForTuples ((p.tables t).index 0).pages q ↔ (q ≡ page)) (more : 1 < ((p.tables t).index 0).pages_per_range)
    (count : IsCountOf (λ (k : ℕ). IsUnnamed (index_view_at 0 (p.tables t)) (record { block = page; slot = k })) c) where
  abbrev b : Place
  b = base p n t rows calm has

  abbrev v : TableState
  v = b.tables t

  its : v ≡ record (p.tables t) { row = left p n t rows calm has }
  its = base_is p n t rows calm has

  to_page : Onward (pruned p n t rows calm has (Prunes (p.tables t).blocks 1)) (SweepsFrom 0 0) (Sweeps 0 page)
  to_page = ToPage 0 0 0 page (record {
    has = (calm.below, (only_page page).1 refl);
    after = inr (refl, omega arith);
    first = λ m q tuples from. from_here m page q (only_index m (p.tables t).indexes tuples.0 has.one_index)
        ((only_page q).0 (subst (λ i. IsForTuples ((p.tables t).index i).pages q) (only_index m (p.tables t).indexes tuples.0 has.one_index) tuples.1));
  })

  v_indexes : v.indexes ≡ 1
  v_indexes = ap (λ (x : TableState). x.indexes) its ∙ has.one_index

  v_blocks : v.blocks ≡ 1
  v_blocks = ap (λ (x : TableState). x.blocks) its ∙ has.one_block

  v_more : 1 < (v.index 0).pages_per_range
  v_more = subst (λ (x : TableState). 1 < (x.index 0).pages_per_range) (sym its) more

  v_page : (q : ℕ) → IsForTuples (v.index 0).pages q → q ≡ page
  v_page q is = (only_page q).0 (subst (λ (x : TableState). IsForTuples (x.index 0).pages q) its is)

  v_unlocked : (q : ℕ) → (v.index 0).lock q ≡ None
  v_unlocked q = ap (λ (x : TableState). (x.index 0).lock q) its ∙ calm.unlocked q

  abbrev u : TableState
  u = state_of v n 0 (start p n t rows calm has (Sweeps 0 page))

  v_count : IsCountOf (λ (k : ℕ). IsUnnamed (index_view_at 0 u) (record { block = page; slot = k })) c
  v_count = subst (λ (x : TableState). IsCountOf (λ (k : ℕ). IsUnnamed (index_view_at 0 (record x { task = at_task p n t rows calm has (Sweeps 0 page); summarise_lock = Some n })) (record { block = page; slot = k })) c)
      (sym its) count

  mine : AreOwn n (v.index 0).lock
  mine q m is = absurd (none-some _ (sym (v_unlocked q) ∙ is))

  none : (q : ℕ) → (v.index 0).lock q ≡ Some n → ⊥
  none q is = none-some _ (sym (v_unlocked q) ∙ is)

  abbrev part : IndexPart
  part = swept_part n page c (index_view_at 0 u) mine none v_count

  abbrev index : ℕ → Index
  index i = pick i 0 (index_with part (v.index 0)) (v.index i)

  abbrev from_next : Task
  from_next = SweepsFrom 0 (suc page)

  abbrev at_next : ℕ → Task
  at_next m = pick m n from_next (at_task p n t rows calm has (Sweeps 0 page) m)

  abbrev after : Stage v n 0 (index_with part (v.index 0)) (Restarts 0)
  after = record { index = index; tasks = λ m. pick m n (Restarts 0) (at_next m); index_is = refl; task_is = pick_same n (Restarts 0) (at_next n) }

  abbrev end : TableState
  end = state_of v n 0 after

  same_rows : (tasks next : ℕ → Task) (lock other : Option ℕ) → SameRows (record v { index = index; task = tasks; summarise_lock = lock }) (record v { index = index; task = next; summarise_lock = other })
  same_rows tasks next lock other = record { layout = record { indexes = refl; rows_per_page = refl; heap_limit = refl }; blocks = refl; row = λ d k. refl; counts = λ i. refl }

  swept_all : Settles n (with_index 0 part n from_next u) end
  swept_all = GoesOn from_next (Restarts 0) (Swept 0 (suc page) no_more (below p n t rows calm has))
      (record { was = pick_same n from_next (at_task p n t rows calm has (Sweeps 0 page) n); now = pick_same n (Restarts 0) (at_next n); others = λ m. pick_there m n (Restarts 0) (at_next m) })
      (record { rows = same_rows at_next (λ m. pick m n (Restarts 0) (at_next m)) (Some n) (Some n); indexes = record { index = λ i. refl }; summarise_lock = refl })
    where
      no_more : (m q : ℕ) → HasTuples (with_index 0 part n from_next u) m q → IsFrom 0 (suc page) m q → ⊥
      no_more m q tuples from =
          let zeroth = only_index m v.indexes tuples.0 v_indexes in
          no_later m page q zeroth (v_page q (subst (λ i. IsForTuples (index i).pages q) zeroth tuples.1)) from

  abbrev q3 : Place
  q3 = at_stage b n t 0 (statements.Vacuum t) rows c (suits p n t rows calm has c) calm.fits (below p n t rows calm has) after 0 p.queue

  abbrev before_it : Place
  before_it = q2 p n t rows calm has (Sweeps 0 page)

  told : q3.accounts n ≡ with_unnamed c (before_it.accounts n)
  told = updated_here p.accounts n (counted rows c 0) ∙ ap (λ k. counted rows k 0) (sym (zero-add c)) ∙ sym (ap (with_unnamed c) (updated_here p.accounts n (counted rows 0 0)))

  sweeps_so : Steps before_it n (Moved points.Sweep) q3
  sweeps_so =
      let did = sweeps_one n 0 page u part c (below p n t rows calm has) (is_at p n t rows calm has (Sweeps 0 page)) (sweeps_page n page c (index_view_at 0 u) mine none v_count)
      (tuples_gone n page c (index_view_at 0 u) mine none v_count) in
      goes n t (statements.Vacuum t) before_it q3 u end points.Sweep from_next (updated_here b.tables t u) (updated_here b.tables t end) refl
      (recounts b n t 0 (statements.Vacuum t) rows 0 u end) (updated_here p.hands n (Some (new_hand (statements.Vacuum t)))) calm.fits
      (record {
        step = record { between = with_index 0 part n from_next u; does = did.does; settles = swept_all };
        own = inl (λ rests. sweeps_busy page (sym (is_at p n t rows calm has (Sweeps 0 page)) ∙ rests));
        dead = no_prune before_it did.does (λ extent next is. sweeps_not_prunes page extent next (sym (is_at p n t rows calm has (Sweeps 0 page)) ∙ is));
        accounts = record { table = refl; others = λ m. updated_both p.accounts n (counted rows 0 0) (counted rows c 0) m; adds = did.adds _ _ (record { account = told; queue = refl }) };
        takes = λ asked same. not_behind asked p.queue same;
        point_is = did.point_is;
        within_is = pick_same n from_next (at_task p n t rows calm has (Sweeps 0 page) n);
      })
      (λ rests. not_restarts (sym after.task_is ∙ rests)) refl
      (record { layout = refl; opening = refl; names = refl; hand = updated_here p.hands n (Some (new_hand (statements.Vacuum t))); others = λ m. inr refl; journal = refl })

  abbrev last_task : Task
  last_task = Considers (WholeRanges v.blocks) 0 0

  abbrev at_last : ℕ → Task
  at_last m = pick m n last_task (after.tasks m)

  abbrev finished : TableState
  finished = record v { index = index; task = λ m. pick m n Resting (at_last m); summarise_lock = None }

  finishes : Moves n end finished points.Right last_task (Counting n 0)
  finishes = record {
    between = record v { index = index; task = at_last; summarise_lock = Some n };
    does = RestartsIndex 0 (record { was = after.task_is; now = pick_same n last_task (after.tasks n); others = λ m. pick_there m n last_task (after.tasks m) })
        (record { rows = same_rows after.tasks at_last (Some n) (Some n); indexes = record { index = λ i. refl }; summarise_lock = refl });
    point_is = refl;
    within_is = pick_same n last_task (after.tasks n);
    adds = λ a d is. record { account = is.account ∙ ap (λ (k : ℕ). record (a.of n) { ranges = k }) (add-zero (a.of n).ranges); queue = is.queue };
    settles = GivesLock last_task (RangesDone (WholeRanges v.blocks) 0 0 (λ le. none_whole (v.index 0).pages_per_range (v.index 0).pages_per_range v.blocks refl v_more v_blocks le) (sym v_indexes))
        (record { was = pick_same n last_task (after.tasks n); now = pick_same n Resting (at_last n); others = λ m. pick_there m n Resting (at_last m) }) refl
        (same_rows at_last (λ m. pick m n Resting (at_last m)) (Some n) None) (record { index = λ i. refl });
  }

  pub rows_and_tuples : (name : List ℕ) → IsAnswered p n name (statements.Vacuum t) (codes "right" ∷ codes "prune" ∷ codes "sweep" ∷ []) (reply_text name (replies.Vacuumed rows c 0)) p.queue
  rows_and_tuples name = answered p n name (statements.Vacuum t) (codes "right" ∷ codes "prune" ∷ codes "sweep" ∷ []) (replies.Vacuumed rows c 0) p.queue (is_taken p n t rows calm has)
      (begun p n t rows calm has (Sweeps 0 page) to_page (sweeps_busy page) (codes "sweep" ∷ []) (replies.Vacuumed rows c 0)
      (before n before_it q3 points.Sweep [] (replies.Vacuumed rows c 0) p.queue sweeps_so
      (ends_on b n t 0 (statements.Vacuum t) rows c (suits p n t rows calm has c) calm.fits (below p n t rows calm has) (index_with part (v.index 0)) (Restarts 0) points.Right last_task 0 0 p.queue
      after finished finishes not_restarts not_prunes (pick_same n Resting (at_last n)) (replies.Vacuumed rows c 0) refl)))

pub a_vacuum_counts_rows_and_tuples : AVacuumCountsRowsAndTuples
a_vacuum_counts_rows_and_tuples p n t rows page c name calm has only_page more count =
    subst (λ text. IsAnswered p n name (statements.Vacuum t) (codes "right" ∷ codes "prune" ∷ codes "sweep" ∷ []) text p.queue) (said_vacuumed name rows c 0)
    (rows_and_tuples p n t rows page c calm has only_page more count name)
