-- What stands behind the lock may go to another thread where its parts may. Only the script is shown by hand: the copy that it keeps for proofs has no bytes, and the toolchain doesn't see by itself that such a one may.
use denote.Builtin.{u32, u64}
use denote.RattleType.{RattleType}
use denote.Param.Send.{IsSend, sendable, view_send}
use denote.Param.SendFields.{declared_send}
use Rattle.std.proofs.Crossing.{Vec-send, crosses, send}
use Rattle.std.proofs.option.Option.TheSendSync as option
use Rattle.std.proofs.sync.ledger.Book.TheSendSync as book
use Rattle.std.specs.declared.sync.ledger.Ledger as ledger
use Rattle.block_model.proofs.name.Name.TheSendSync as name
use Rattle.disk_trait.specs.declared.disk.Disk as disk
use Rattle.store_layout.proofs.statement.Statement.TheSendSync as statement
use Rattle.plain_script.specs.contracts.kept.ScriptLine as line
use Rattle.plain_script.specs.contracts.kept.ScriptSession as session
use Rattle.plain_script.specs.contracts.script_lines.ScriptLines as script
use Rattle.plain_script.specs.contracts.script_lines.ScriptLines.TheInside as script_inside
use Rattle.session_core.proofs.store.Store.TheSendSync as store
use Rattle.session_stepper.proofs.ending.Ending.TheSendSync as ending
use Rattle.session_stepper.proofs.said.Said.TheSendSync as said
use Rattle.session_stepper.specs.contracts.locked_store.LockedStore as locked
use Rattle.session_stepper.specs.contracts.locked_store.LockedStore.TheInside as locked_inside
use Rattle.session_stepper.specs.contracts.transcribed_store.TranscribedStore as transcribed
use Rattle.session_stepper.specs.contracts.transcribed_store.TranscribedStore.TheInside as transcribed_inside
use Rattle.session_stepper.specs.declared.names.Names as names

session_send : IsSend session.the_row
session_send = declared_send session.the_type (name.the_send, (search sendable, tt))

line_send : IsSend line.the_row
line_send = declared_send line.the_type (search sendable, (search sendable, (option.the_send _ statement.the_send, tt)))

script_send : IsSend script.the_row
script_send = view_send _ _ _ _ _ (declared_send script_inside.the_type (Vec-send _ session_send, (Vec-send _ line_send, (Vec-send _ (search sendable), (search crosses, tt)))))

transcribed_send : (D : RattleType) (d : disk.Ghosts D.Denot) → IsSend D → IsSend (transcribed.the_row D d)
transcribed_send D d moves =
    view_send _ _ _ _ _
    (declared_send (transcribed_inside.the_type D d) (
      send,
      (store.the_send D d moves, (script_send, (Vec-send _ said.the_send, (Vec-send u64 (search sendable), (Vec-send _ (option.the_send u32 (search sendable)), (option.the_send _ ending.the_send, tt)))))),
    ))

pub locked_send : (N D L E : RattleType) (n : names.Ghosts N.Denot) (d : disk.Ghosts D.Denot) (l : ledger.Ghosts L.Denot) (e : ledger.Ghosts E.Denot) → IsSend N → IsSend D → IsSend (locked.the_row N D L E n d l e)
locked_send N D L E n d l e of_name of_disk =
    view_send _ _ _ _ _ (declared_send (locked_inside.the_type N D L E n d l e) (transcribed_send D d of_disk, (book.the_send L l, (book.the_send E e, (search sendable, tt)))))
