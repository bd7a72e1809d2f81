use Rattle.block_model.specs.declared.row.Row.{Row}
use Rattle.session_inserts.proofs.NextRow.{number_next}
use Rattle.session_inserts.proofs.SpareMachine.{begins_id, begins_nowhere, begins_row}
use Rattle.snapshot_core.specs.StoredVersions.{transaction_of}
use Rattle.session_inserts.proofs.machines.machine_for.Goals as goal

pub returns-clause-nowhere : goal.returns-clause-nowhere
returns-clause-nowhere g c =
    let row : Row = record { table = c.args.table; id = c.in-Some.id; values = c.args.values.now } in
    begins_nowhere c.begun.new.machine row c.in-Ok.ensures.begins

pub returns-clause-row : goal.returns-clause-row
returns-clause-row g c =
    let row : Row = record { table = c.args.table; id = c.in-Some.id; values = c.args.values.now } in
    begins_row c.begun.new.machine row c.in-Ok.ensures.begins

pub returns-clause-id : goal.returns-clause-id
returns-clause-id g c =
    let row : Row = record { table = c.args.table; id = c.in-Some.id; values = c.args.values.now } in
    begins_id c.begun.new.machine row (transaction_of c.args.parts.now.transactions.opens c.args.session) c.in-Ok.ensures.begins c.in-Some.ensures.id

pub returns-clause-number : goal.returns-clause-number
returns-clause-number g c = number_next (transaction_of c.args.parts.now.transactions.opens c.args.session) c.requires.open c.in-Some.id c.in-Some.ensures.id c.in-Some.ensures.room
