use Rattle.std.proofs.Common.{arith}
use Rattle.block_model.specs.DatabaseState.{initial_state}
use Rattle.brin_app.specs.Place.{database_at}
use Rattle.rerun.proofs.turns.run_twice.Goals as goal

pub run_over-one-requires : goal.run_over-one-requires
run_over-one-requires g c = (c.type_bounds.sync-R, c.in_ok-disk.ensures.store.image)

pub run_over-two-requires : goal.run_over-two-requires
run_over-two-requires g c = (c.type_bounds.sync-R, c.run_over-one.ensures.image (c.in_ok-disk.ensures.store.store (λ e. omega (arith, e))))

pub returns : goal.returns
returns g c = λ layout making running first second.
    let one = c.run_over-one.ensures.ran running first layout initial_state.table (c.in_ok-disk.ensures.empty layout making) in
    record { made = _; between = _; one = one; two = c.run_over-two.ensures.ran running second layout (database_at one.run.after).table one.holds }
