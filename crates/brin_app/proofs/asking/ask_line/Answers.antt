use Rattle.std.proofs.Common.{subst}
use Rattle.std.specs.Prelude.{Ok, Err}
use Rattle.store_layout.specs.DiskLayout.{DiskLayout}
use Rattle.query_words.specs.Lines.{ReadsAs, line_of}
use Rattle.query_words.specs.declared.line.Line.{Line}
use Rattle.brin_app.proofs.Heeding.{asked_line, asked_unread}
use Rattle.brin_app.proofs.Saying.{stopped_line, stopped_unread}
use Rattle.brin_app.proofs.asking.ask_line.Goals as goal

pub returns-in-Ok-clause-ok : goal.returns-in-Ok-clause-ok
returns-in-Ok-clause-ok g c =
    asked_line g.D.Disk.told c.args.sessions.now.store c.heed.new.store c.args.line.now c.in-Ok.line c.heed.result
    (subst (λ (d : DiskLayout). ReadsAs {T = Line} (Ok c.in-Ok.line) (line_of d.schema c.args.line.now)) c.layout.ensures c.in-Ok.ensures.reads) c.heed.ensures.ok

pub returns-in-Ok-clause-stops : goal.returns-in-Ok-clause-stops
returns-in-Ok-clause-stops g c =
    stopped_line g.D.Disk.told c.args.sessions.now.store c.heed.new.store c.args.line.now c.in-Ok.line c.heed.result
    (subst (λ (d : DiskLayout). ReadsAs {T = Line} (Ok c.in-Ok.line) (line_of d.schema c.args.line.now)) c.layout.ensures c.in-Ok.ensures.reads) c.heed.ensures.stops

pub returns-in-Err-clause-ok : goal.returns-in-Err-clause-ok
returns-in-Err-clause-ok g c =
    asked_unread g.D.Disk.told c.args.sessions.now.store c.args.line.now c.in-Err.fault c.unread.result (g.met.D.Disk.since_now_is_now c.args.sessions.now.store.pages.disk)
    (subst (λ (d : DiskLayout). ReadsAs {T = Line} (Err c.in-Err.fault) (line_of d.schema c.args.line.now)) c.layout.ensures c.in-Err.ensures.reads) c.unread.ensures.read c.unread.ensures.ok

pub returns-in-Err-clause-stops : goal.returns-in-Err-clause-stops
returns-in-Err-clause-stops g c = stopped_unread g.D.Disk.told c.args.sessions.now.store c.args.line.now c.unread.result (g.met.D.Disk.since_now_is_now c.args.sessions.now.store.pages.disk) c.unread.ensures.memory
