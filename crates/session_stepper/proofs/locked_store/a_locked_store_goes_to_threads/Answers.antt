use denote.Exit.{no}
use denote.Param.{param}
use denote.Param.Send.{arg_send, param_send}
use Rattle.session_stepper.specs.contracts.locked_store.LockedStore as locked
use Rattle.session_stepper.proofs.Sending.{locked_send}
use Rattle.session_stepper.proofs.locked_store.a_locked_store_goes_to_threads.Goals as goal

pub in_threads-requires-send-T : goal.in_threads-requires-send-T
in_threads-requires-send-T g c κs outlives =
    param_send 0 _ (arg_send _ no (locked.the_row (param 0 g.row.N) (param 1 g.row.D) (param 2 g.row.L) (param 3 g.row.E) g.N.Names g.D.Disk g.L.Ledger g.E.Ledger)
    (locked_send (param 0 g.row.N) (param 1 g.row.D) (param 2 g.row.L) (param 3 g.row.E) g.N.Names g.D.Disk g.L.Ledger g.E.Ledger c.type_bounds.send-N c.type_bounds.send-D))
