use Rattle.std.proofs.Common.{Err, refl, ap, subst, inl, inr, arith}
use Rattle.brin_app.specs.declared.top.Task.TheVariants.{ThreadsStored}
use Rattle.brin_app.specs.Tasks.{Asks}
use Rattle.brin_app.proofs.Doing.{idle_complete_of, idle_output, idle_refused_of, idle_spent_of}
use Rattle.brin_app.proofs.Holding.{holds_words, idle_on, run_only}
use Rattle.brin_app.proofs.Known.{is_2, is_7}
use Rattle.brin_app.proofs.Performed.{performed}
use Rattle.brin_app.proofs.Threading.{complete_for, holds_for, idle_completed, idle_worked, opened_for, spent_for, undamaged_for, worked_task}
use Rattle.brin_app.proofs.top.brin_main.Goals as goal

pub perform-requires-clause-image : goal.perform-requires-clause-image
perform-requires-clause-image g c κs within run = c.requires.image (subst (Asks c.args.words.now) run c.in-Ok.ensures.asked)

pub perform-requires-clause-faults : goal.perform-requires-clause-faults
perform-requires-clause-faults g c κs within threaded = c.requires.faults (c.in-Ok.task, c.in-Ok.ensures.asked, threaded)

pub perform-requires-clause-given : goal.perform-requires-clause-given
perform-requires-clause-given g c κs within honest = c.requires.given honest c.in-Ok.task c.in-Ok.ensures.asked

pub returns-in-Ok-clause-threads_output : goal.returns-in-Ok-clause-threads_output
returns-in-Ok-clause-threads_output g c = λ honest task asked. worked_task c.perform.result.0 (g.D.Disk.told c.args.disk) (g.D.Disk.told c.perform.result.1) (g.S.Source.left c.args.source.now) (g.S.Source.left c.perform.new.source) (g.K.Sink.taken c.args.sink.now) (g.K.Sink.taken c.perform.new.sink)
    g.N.Names.opening g.N.Names.layout g.N.Names.script c.in-Ok.task task (c.in-Ok.ensures.alone task asked) (c.perform.ensures.threads honest)

pub returns-in-Ok-clause-threads_spent : goal.returns-in-Ok-clause-threads_spent
returns-in-Ok-clause-threads_spent g c = λ honest asks eight.
    spent_for g.N.Names.opening g.N.Names.layout g.N.Names.script (g.D.Disk.told c.perform.result.1) (g.K.Sink.taken c.args.sink.now) (g.K.Sink.taken c.perform.new.sink) c.perform.result.0 (g.D.Disk.told c.args.disk)
    (g.S.Source.left c.args.source.now) (g.S.Source.left c.perform.new.source) asks.0 asks.2 (worked_task c.perform.result.0 (g.D.Disk.told c.args.disk) (g.D.Disk.told c.perform.result.1) (g.S.Source.left c.args.source.now) (g.S.Source.left c.perform.new.source) (g.K.Sink.taken c.args.sink.now) (g.K.Sink.taken c.perform.new.sink)
    g.N.Names.opening g.N.Names.layout g.N.Names.script c.in-Ok.task asks.0 (c.in-Ok.ensures.alone asks.0 asks.1) (c.perform.ensures.threads honest)) eight

pub returns-in-Ok-clause-threads_no_store : goal.returns-in-Ok-clause-threads_no_store
returns-in-Ok-clause-threads_no_store g c = λ honest asked.
    opened_for g.N.Names.opening g.N.Names.layout g.N.Names.script (g.D.Disk.told c.perform.result.1) (g.K.Sink.taken c.args.sink.now) (g.K.Sink.taken c.perform.new.sink) c.perform.result.0 (g.D.Disk.told c.args.disk)
    (g.S.Source.left c.args.source.now) (g.S.Source.left c.perform.new.source) (worked_task c.perform.result.0 (g.D.Disk.told c.args.disk) (g.D.Disk.told c.perform.result.1) (g.S.Source.left c.args.source.now) (g.S.Source.left c.perform.new.source) (g.K.Sink.taken c.args.sink.now) (g.K.Sink.taken c.perform.new.sink)
    g.N.Names.opening g.N.Names.layout g.N.Names.script c.in-Ok.task ThreadsStored (c.in-Ok.ensures.alone ThreadsStored asked) (c.perform.ensures.threads honest))

pub returns-in-Ok-clause-threads_damaged : goal.returns-in-Ok-clause-threads_damaged
returns-in-Ok-clause-threads_damaged g c = λ honest asks.
    undamaged_for g.N.Names.opening g.N.Names.layout g.N.Names.script (g.D.Disk.told c.perform.result.1) (g.K.Sink.taken c.args.sink.now) (g.K.Sink.taken c.perform.new.sink) c.perform.result.0 (g.D.Disk.told c.args.disk)
    (g.S.Source.left c.args.source.now) (g.S.Source.left c.perform.new.source) asks.0 asks.2 (worked_task c.perform.result.0 (g.D.Disk.told c.args.disk) (g.D.Disk.told c.perform.result.1) (g.S.Source.left c.args.source.now) (g.S.Source.left c.perform.new.source) (g.K.Sink.taken c.args.sink.now) (g.K.Sink.taken c.perform.new.sink)
    g.N.Names.opening g.N.Names.layout g.N.Names.script c.in-Ok.task asks.0 (c.in-Ok.ensures.alone asks.0 asks.1) (c.perform.ensures.threads honest))

pub returns-in-Ok-clause-threads_holds_on : goal.returns-in-Ok-clause-threads_holds_on
returns-in-Ok-clause-threads_holds_on g c = λ honest asks ran images.
    holds_for g.N.Names.opening g.N.Names.layout g.N.Names.script (g.D.Disk.told c.perform.result.1) (g.K.Sink.taken c.args.sink.now) (g.K.Sink.taken c.perform.new.sink) c.one_layout.ensures c.each_image_opens_to_one_map.ensures
    (c.disk_laws.ensures.obeys c.perform.result.1) images c.perform.result.0 (g.D.Disk.told c.args.disk) (g.S.Source.left c.args.source.now) (g.S.Source.left c.perform.new.source) asks.0 asks.2
    (worked_task c.perform.result.0 (g.D.Disk.told c.args.disk) (g.D.Disk.told c.perform.result.1) (g.S.Source.left c.args.source.now) (g.S.Source.left c.perform.new.source) (g.K.Sink.taken c.args.sink.now) (g.K.Sink.taken c.perform.new.sink)
    g.N.Names.opening g.N.Names.layout g.N.Names.script c.in-Ok.task asks.0 (c.in-Ok.ensures.alone asks.0 asks.1) (c.perform.ensures.threads honest)) ran

pub returns-in-Ok-clause-threads_complete : goal.returns-in-Ok-clause-threads_complete
returns-in-Ok-clause-threads_complete g c = λ honest task asked no_read no_write no_disk.
    complete_for g.N.Names.opening g.N.Names.layout g.N.Names.script (g.D.Disk.told c.perform.result.1) (g.K.Sink.taken c.args.sink.now) (g.K.Sink.taken c.perform.new.sink) c.perform.result.0 (g.D.Disk.told c.args.disk)
    (g.S.Source.left c.args.source.now) (g.S.Source.left c.perform.new.source) task (c.requires.given honest task asked) (worked_task c.perform.result.0 (g.D.Disk.told c.args.disk) (g.D.Disk.told c.perform.result.1) (g.S.Source.left c.args.source.now) (g.S.Source.left c.perform.new.source) (g.K.Sink.taken c.args.sink.now) (g.K.Sink.taken c.perform.new.sink)
    g.N.Names.opening g.N.Names.layout g.N.Names.script c.in-Ok.task task (c.in-Ok.ensures.alone task asked) (c.perform.ensures.threads honest))
    (λ e. no_read (c.perform.ensures.done.read_fault e)) (λ e. no_write (c.perform.ensures.done.write_fault e)) (λ e. no_disk (c.perform.ensures.done.disk_fault e))
    (performed c.args.words.now c.in-Ok.task c.in-Ok.ensures.alone c.perform.ensures.done task asked).no_store

pub returns-in-Err-Usage-clause-threads_output : goal.returns-in-Err-Usage-clause-threads_output
returns-in-Err-Usage-clause-threads_output g c = λ _ task asked. absurd (c.in-Err-Usage.ensures.nothing (ap Err c.in-Err-Usage.field-0-is) task asked)

pub returns-in-Err-Usage-clause-threads_holds_on : goal.returns-in-Err-Usage-clause-threads_holds_on
returns-in-Err-Usage-clause-threads_holds_on g c = λ _ _ run _. absurd ((run_only 2 run).4 refl)

pub returns-in-Err-Memory-clause-threads_holds_on : goal.returns-in-Err-Memory-clause-threads_holds_on
returns-in-Err-Memory-clause-threads_holds_on g c = λ _ _ run _. absurd ((run_only 7 run).1 refl)

pub returns-in-Err-Usage-clause-threads_complete : goal.returns-in-Err-Usage-clause-threads_complete
returns-in-Err-Usage-clause-threads_complete g c = λ _ task asked. absurd (c.in-Err-Usage.ensures.nothing (ap Err c.in-Err-Usage.field-0-is) task asked)

pub returns-in-Err-Usage-clause-threads_no_store : goal.returns-in-Err-Usage-clause-threads_no_store
returns-in-Err-Usage-clause-threads_no_store g c = λ _ _ e. omega (arith, e)

pub returns-in-Err-Memory-clause-threads_no_store : goal.returns-in-Err-Memory-clause-threads_no_store
returns-in-Err-Memory-clause-threads_no_store g c = λ _ _ e. omega (arith, e)

pub returns-in-Err-Usage-clause-threads_damaged : goal.returns-in-Err-Usage-clause-threads_damaged
returns-in-Err-Usage-clause-threads_damaged g c = λ _ _ e. omega (arith, e)

pub returns-in-Err-Memory-clause-threads_damaged : goal.returns-in-Err-Memory-clause-threads_damaged
returns-in-Err-Memory-clause-threads_damaged g c = λ _ _ e. omega (arith, e)

pub returns-in-Err-Memory-clause-threads_output : goal.returns-in-Err-Memory-clause-threads_output
returns-in-Err-Memory-clause-threads_output g c = λ _ task _. idle_worked (g.D.Disk.told c.args.disk) _ _ c.disk_laws.ensures.only _ _ _ task

pub returns-in-Err-Memory-clause-threads_complete : goal.returns-in-Err-Memory-clause-threads_complete
returns-in-Err-Memory-clause-threads_complete g c = λ _ task _ _ _ _.
    idle_completed (g.D.Disk.told c.args.disk) (g.S.Source.left c.args.source.now) (g.K.Sink.taken c.args.sink.now) c.disk_laws.ensures.only _ _ _ task

pub returns-in-Ok-clause-known : goal.returns-in-Ok-clause-known
returns-in-Ok-clause-known g c = c.perform.ensures.done.known

pub returns-in-Ok-clause-script_output : goal.returns-in-Ok-clause-script_output
returns-in-Ok-clause-script_output g c = λ task asked. (performed c.args.words.now c.in-Ok.task c.in-Ok.ensures.alone c.perform.ensures.done task asked).output

pub returns-in-Ok-clause-usage : goal.returns-in-Ok-clause-usage
returns-in-Ok-clause-usage g c = λ two. absurd (c.perform.ensures.done.no_usage two)

pub returns-in-Ok-clause-refused : goal.returns-in-Ok-clause-refused
returns-in-Ok-clause-refused g c = λ usage. absurd (c.in-Ok.ensures.right usage)

pub returns-in-Ok-clause-untouched : goal.returns-in-Ok-clause-untouched
returns-in-Ok-clause-untouched g c = λ usage. absurd (c.in-Ok.ensures.right usage)

pub returns-in-Ok-clause-read_fault : goal.returns-in-Ok-clause-read_fault
returns-in-Ok-clause-read_fault g c = c.perform.ensures.done.read_fault

pub returns-in-Ok-clause-write_fault : goal.returns-in-Ok-clause-write_fault
returns-in-Ok-clause-write_fault g c = c.perform.ensures.done.write_fault

pub returns-in-Ok-clause-disk_fault : goal.returns-in-Ok-clause-disk_fault
returns-in-Ok-clause-disk_fault g c = c.perform.ensures.done.disk_fault

pub returns-in-Ok-clause-no_store : goal.returns-in-Ok-clause-no_store
returns-in-Ok-clause-no_store g c = λ nine task asked. (performed c.args.words.now c.in-Ok.task c.in-Ok.ensures.alone c.perform.ensures.done task asked).no_store nine

pub returns-in-Ok-clause-damaged : goal.returns-in-Ok-clause-damaged
returns-in-Ok-clause-damaged g c = λ eleven task asked. (performed c.args.words.now c.in-Ok.task c.in-Ok.ensures.alone c.perform.ensures.done task asked).damaged eleven

pub returns-in-Ok-clause-refused_disk : goal.returns-in-Ok-clause-refused_disk
returns-in-Ok-clause-refused_disk g c = λ task asked. (performed c.args.words.now c.in-Ok.task c.in-Ok.ensures.alone c.perform.ensures.done task asked).refused_disk

pub returns-in-Ok-clause-spent : goal.returns-in-Ok-clause-spent
returns-in-Ok-clause-spent g c = λ task asked. (performed c.args.words.now c.in-Ok.task c.in-Ok.ensures.alone c.perform.ensures.done task asked).spent

pub returns-in-Ok-clause-complete : goal.returns-in-Ok-clause-complete
returns-in-Ok-clause-complete g c = λ task asked. (performed c.args.words.now c.in-Ok.task c.in-Ok.ensures.alone c.perform.ensures.done task asked).complete

pub returns-in-Err-Usage-clause-known : goal.returns-in-Err-Usage-clause-known
returns-in-Err-Usage-clause-known g c = is_2

pub returns-in-Err-Usage-clause-script_output : goal.returns-in-Err-Usage-clause-script_output
returns-in-Err-Usage-clause-script_output g c = λ task asked. absurd (c.in-Err-Usage.ensures.nothing (ap Err c.in-Err-Usage.field-0-is) task asked)

pub returns-in-Err-Usage-clause-usage : goal.returns-in-Err-Usage-clause-usage
returns-in-Err-Usage-clause-usage g c = λ _. c.in-Err-Usage.ensures.usage (ap Err c.in-Err-Usage.field-0-is)

pub returns-in-Err-Usage-clause-refused_disk : goal.returns-in-Err-Usage-clause-refused_disk
returns-in-Err-Usage-clause-refused_disk g c = λ task asked. absurd (c.in-Err-Usage.ensures.nothing (ap Err c.in-Err-Usage.field-0-is) task asked)

pub returns-in-Err-Usage-clause-spent : goal.returns-in-Err-Usage-clause-spent
returns-in-Err-Usage-clause-spent g c = λ task asked. absurd (c.in-Err-Usage.ensures.nothing (ap Err c.in-Err-Usage.field-0-is) task asked)

pub returns-in-Err-Usage-clause-complete : goal.returns-in-Err-Usage-clause-complete
returns-in-Err-Usage-clause-complete g c = λ task asked. absurd (c.in-Err-Usage.ensures.nothing (ap Err c.in-Err-Usage.field-0-is) task asked)

pub returns-in-Err-Memory-clause-known : goal.returns-in-Err-Memory-clause-known
returns-in-Err-Memory-clause-known g c = is_7

pub returns-in-Err-Memory-clause-script_output : goal.returns-in-Err-Memory-clause-script_output
returns-in-Err-Memory-clause-script_output g c = λ task _. idle_output (g.D.Disk.told c.args.disk) _ _ c.disk_laws.ensures.only task

pub returns-in-Err-Memory-clause-refused_disk : goal.returns-in-Err-Memory-clause-refused_disk
returns-in-Err-Memory-clause-refused_disk g c = λ task _. idle_refused_of (g.D.Disk.told c.args.disk) _ _ c.disk_laws.ensures.only task

pub returns-in-Err-Memory-clause-spent : goal.returns-in-Err-Memory-clause-spent
returns-in-Err-Memory-clause-spent g c = λ task _. idle_spent_of (g.D.Disk.told c.args.disk) _ (g.K.Sink.taken c.args.sink.now) c.disk_laws.ensures.only task

pub returns-in-Err-Memory-clause-complete : goal.returns-in-Err-Memory-clause-complete
returns-in-Err-Memory-clause-complete g c = λ task _ _ _ _. idle_complete_of (g.D.Disk.told c.args.disk) _ (g.K.Sink.taken c.args.sink.now) c.disk_laws.ensures.only task

pub returns-in-Ok-clause-holds_on : goal.returns-in-Ok-clause-holds_on
returns-in-Ok-clause-holds_on g c = elim c.perform.ensures.holds_on [
  | inl threaded ↦ inl (c.in-Ok.task, c.in-Ok.ensures.asked, threaded, c.in-Ok.ensures.alone)
  | inr holds ↦ inr (holds_words c.args.words.now c.in-Ok.task c.in-Ok.ensures.alone holds)
]

pub returns-in-Err-Usage-clause-holds_on : goal.returns-in-Err-Usage-clause-holds_on
returns-in-Err-Usage-clause-holds_on g c =
    inr (idle_on c.one_layout.ensures c.each_image_opens_to_one_map.ensures c.args.words.now 2 (g.D.Disk.told c.args.disk) (c.disk_laws.ensures.obeys c.args.disk) (λ run. (run_only 2 run).4 refl))

pub returns-in-Err-Memory-clause-holds_on : goal.returns-in-Err-Memory-clause-holds_on
returns-in-Err-Memory-clause-holds_on g c =
    inr (idle_on c.one_layout.ensures c.each_image_opens_to_one_map.ensures c.args.words.now 7 (g.D.Disk.told c.args.disk) (c.disk_laws.ensures.obeys c.args.disk) (λ run. (run_only 7 run).1 refl))
