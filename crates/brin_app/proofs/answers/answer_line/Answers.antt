use Rattle.std.proofs.Common.{subst}
use Rattle.std.specs.Prelude.{Ok, Err}
use Rattle.store_layout.specs.DiskLayout.{DiskLayout}
use Rattle.query_words.specs.Lines.{ReadsAs, line_of}
use Rattle.query_words.specs.declared.line.Line.{Line}
use Rattle.brin_app.proofs.Saying.{done_line, refused, stopped_line, stopped_unread}
use Rattle.brin_app.proofs.answers.answer_line.Goals as goal

pub returns-in-Ok-clause-ok : goal.returns-in-Ok-clause-ok
returns-in-Ok-clause-ok g c =
    done_line g.D.Disk.told c.args.sessions.now.store c.obey.new.store c.args.line.now c.args.out.now.items c.obey.new.out.items c.in-Ok.line c.obey.result
    (subst (λ (d : DiskLayout). ReadsAs {T = Line} (Ok c.in-Ok.line) (line_of d.schema c.args.line.now)) c.layout.ensures c.in-Ok.ensures.reads) c.obey.ensures.ok

pub returns-in-Ok-clause-stops : goal.returns-in-Ok-clause-stops
returns-in-Ok-clause-stops g c =
    stopped_line g.D.Disk.told c.args.sessions.now.store c.obey.new.store c.args.line.now c.in-Ok.line c.obey.result
    (subst (λ (d : DiskLayout). ReadsAs {T = Line} (Ok c.in-Ok.line) (line_of d.schema c.args.line.now)) c.layout.ensures c.in-Ok.ensures.reads) c.obey.ensures.stops

pub returns-in-Err-clause-ok : goal.returns-in-Err-clause-ok
returns-in-Err-clause-ok g c =
    refused g.D.Disk.told c.args.sessions.now.store c.args.line.now c.args.out.now.items c.refuse.new.out.items c.in-Err.fault c.refuse.result (g.met.D.Disk.since_now_is_now c.args.sessions.now.store.pages.disk)
    (subst (λ (d : DiskLayout). ReadsAs {T = Line} (Err c.in-Err.fault) (line_of d.schema c.args.line.now)) c.layout.ensures c.in-Err.ensures.reads) c.refuse.ensures.read c.refuse.ensures.ok

pub returns-in-Err-clause-stops : goal.returns-in-Err-clause-stops
returns-in-Err-clause-stops g c = stopped_unread g.D.Disk.told c.args.sessions.now.store c.args.line.now c.refuse.result (g.met.D.Disk.since_now_is_now c.args.sessions.now.store.pages.disk) c.refuse.ensures.memory
