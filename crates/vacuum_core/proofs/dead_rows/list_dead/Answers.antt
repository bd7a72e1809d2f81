use Rattle.std.proofs.Common.{◌≡◌, ◌++◌, ◌+◌, ℕ, List, [], ◌∷◌, drop, length, refl, sym, ap, subst, ◌∙◌, arith}
use Rattle.std.proofs.lemmas.List.{append-nil, drop_all, drop_more}
use Rattle.snapshot_core.specs.declared.statuses.Status.{Status}
use Rattle.page_store.specs.SurvivesLaws.{survives_on, survives_still}
use Rattle.page_map.specs.Keeps.{keeps_on}
use Rattle.heap_rows.specs.declared.rows.Stored.{Stored}
use Rattle.vacuum_core.specs.DeadRows.{IsPicked, dead_slots, living}
use Rattle.vacuum_core.proofs.Onward.{keeps_same, statuses_before}
use Rattle.vacuum_core.proofs.Picking.{judged_picks, judges_next, one_more_at_most}
use Rattle.vacuum_core.proofs.dead_rows.list_dead.Goals as goal

pub rows-init : goal.rows-init
rows-init g c =
    let rows : List Stored = c.args.rows.now in
    record {
      kept = keeps_same g.D.Disk.told c.args.pages.now;
      survives = survives_still g.D.Disk.told c.args.pages.now c.known.ensures.stays;
      started = c.requires.ready;
      ready = c.requires.ready;
      few = let e = ap (length {A = ℕ}) c.clear.ensures.items in omega (arith, e);
      capacity = refl;
      picked = λ more picked. subst (λ (l : List ℕ). IsPicked (l ++ more) rows) (sym c.clear.ensures.items) picked;
      so_far = λ tells statuses has. ap (λ (l : List ℕ). l ++ dead_slots (living c.args.live.now c.args.tx.now.first statuses) rows) c.clear.ensures.items;
    }

pub returns-in-Err-clause-survives : goal.returns-in-Err-clause-survives
returns-in-Err-clause-survives g c = survives_on g.D.Disk.told c.args.pages.now c.rows.pages c.add_dead.new.pages c.rows.invariant.kept c.rows.invariant.survives c.in-Err.ensures.survives

pub rows-preserved : goal.rows-preserved
rows-preserved g c =
    let told = g.D.Disk.told in
    let first = c.args.pages.now in
    let rows : List Stored = c.args.rows.now in
    let i : ℕ = c.rows.row-index in
    let row : Stored = c.row-item.result in
    let rest : List Stored = drop (i + 1) rows in
    let dead : List ℕ = c.rows.dead.items in
    let after : List ℕ = c.add_dead.new.dead.items in
    let is : drop i rows ≡ row ∷ rest = drop_more rows i row c.rows-test.true ∙ ap (λ (r : Stored). r ∷ rest) (sym c.row-item.is) in
    record {
      kept = keeps_on told first c.rows.pages c.add_dead.new.pages c.rows.invariant.kept c.in-Ok.ensures.kept;
      survives = survives_on told first c.rows.pages c.add_dead.new.pages c.rows.invariant.kept c.rows.invariant.survives c.in-Ok.ensures.survives;
      started = c.requires.ready;
      ready = c.in-Ok.ensures.outcome.1;
      few = let e = one_more_at_most row.slot dead after c.in-Ok.ensures.added in omega (arith, e, c.rows.invariant.few);
      capacity = c.in-Ok.ensures.capacity ∙ c.rows.invariant.capacity;
      picked = λ more p. judged_picks dead after more row rest rows c.in-Ok.ensures.added (λ m q. c.rows.invariant.picked m (subst (λ (l : List Stored). IsPicked m l) (sym is) q)) p;
      so_far = λ tells statuses has.
          let by = living c.args.live.now c.args.tx.now.first statuses in
          judges_next by row rest dead after (dead_slots by rows)
          (statuses_before told first c.rows.pages c.rows.invariant.kept (λ (l : List Status). after ≡ dead ++ dead_slots (living c.args.live.now c.args.tx.now.first l) (row ∷ [])) c.in-Ok.ensures.dead tells statuses has)
          (subst (λ (l : List Stored). dead ++ dead_slots by l ≡ dead_slots by rows) is (c.rows.invariant.so_far tells statuses has));
    }

pub returns-clause-dead : goal.returns-clause-dead
unfolding dead_slots
returns-clause-dead g c = λ tells statuses has.
    let by = living c.args.live.now c.args.tx.now.first statuses in
    let none : drop c.rows.row-index c.args.rows.now ≡ [] = drop_all c.rows.row-index c.args.rows.now (omega (arith, c.rows-test.false)) in
    sym (append-nil c.rows.dead.items) ∙ sym (ap (λ (l : List Stored). c.rows.dead.items ++ dead_slots by l) none) ∙ c.rows.invariant.so_far tells statuses has

pub returns-clause-picked : goal.returns-clause-picked
returns-clause-picked g c =
    let none : drop c.rows.row-index c.args.rows.now ≡ [] = drop_all c.rows.row-index c.args.rows.now (omega (arith, c.rows-test.false)) in
    subst (λ (l : List ℕ). IsPicked l c.args.rows.now) (append-nil c.rows.dead.items) (c.rows.invariant.picked [] (subst (λ (l : List Stored). IsPicked [] l) (sym none) refl))
