use Rattle.std.proofs.Common.{None, Err, ap, arith}
use Rattle.plain_script.proofs.Reading.{has_gathered, is_reading_fault, reads_few, reads_fit, reads_ok, reads_sessions, reads_whole}
use Rattle.plain_script.proofs.reader.read_script.Goals as goal

pub script_fault-requires : goal.script_fault-requires
script_fault-requires g c =
    is_reading_fault c.args.limit c.new-gatherer.result c.run.new.engine (g.S.Source.left c.args.source.now) (g.S.Source.left c.run.new.source) None None c.in-Err.fault c.in-Err.ensures.ran
    (λ e. let rose = c.in-Err.ensures.write (ap Err e) in absurd (omega (arith, rose)))

pub returns-in-Ok-clause-reads : goal.returns-in-Ok-clause-reads
returns-in-Ok-clause-reads g c =
    let left = g.S.Source.left c.args.source.now in
    let left' = g.S.Source.left c.run.new.source in
    let has = has_gathered c.args.layout.now.schema c.args.limit c.new-gatherer.result c.run.new.engine left left' None None c.new-gatherer.ensures c.in-Ok.ensures.ran in
    reads_ok c.args.layout.now.schema c.args.limit left left' c.run.new.engine c.into_lines.result has c.into_lines.ensures.whole

pub returns-in-Ok-clause-whole : goal.returns-in-Ok-clause-whole
returns-in-Ok-clause-whole g c =
    let left = g.S.Source.left c.args.source.now in
    let left' = g.S.Source.left c.run.new.source in
    let has = has_gathered c.args.layout.now.schema c.args.limit c.new-gatherer.result c.run.new.engine left left' None None c.new-gatherer.ensures c.in-Ok.ensures.ran in
    reads_whole c.args.layout.now.schema c.args.limit left left' c.run.new.engine c.into_lines.result has c.into_lines.ensures.whole

pub returns-in-Ok-clause-fit : goal.returns-in-Ok-clause-fit
returns-in-Ok-clause-fit g c =
    let left = g.S.Source.left c.args.source.now in
    let left' = g.S.Source.left c.run.new.source in
    let has = has_gathered c.args.layout.now.schema c.args.limit c.new-gatherer.result c.run.new.engine left left' None None c.new-gatherer.ensures c.in-Ok.ensures.ran in
    reads_fit c.args.layout.now.schema c.args.limit left left' c.run.new.engine c.into_lines.result has c.into_lines.ensures.whole c.into_lines.ensures.fit

pub returns-in-Ok-clause-sessions : goal.returns-in-Ok-clause-sessions
returns-in-Ok-clause-sessions g c =
    let left = g.S.Source.left c.args.source.now in
    let left' = g.S.Source.left c.run.new.source in
    let has = has_gathered c.args.layout.now.schema c.args.limit c.new-gatherer.result c.run.new.engine left left' None None c.new-gatherer.ensures c.in-Ok.ensures.ran in
    reads_sessions c.args.layout.now.schema c.args.limit left left' c.run.new.engine c.into_lines.result has c.into_lines.ensures.whole

pub returns-in-Ok-clause-few : goal.returns-in-Ok-clause-few
returns-in-Ok-clause-few g c =
    let left = g.S.Source.left c.args.source.now in
    let left' = g.S.Source.left c.run.new.source in
    let has = has_gathered c.args.layout.now.schema c.args.limit c.new-gatherer.result c.run.new.engine left left' None None c.new-gatherer.ensures c.in-Ok.ensures.ran in
    reads_few c.args.layout.now.schema c.args.limit left left' c.run.new.engine c.into_lines.result has c.into_lines.ensures.whole
