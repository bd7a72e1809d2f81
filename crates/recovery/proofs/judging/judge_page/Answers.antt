use Rattle.recovery.proofs.PageJudged.{held_passes, judged_held, judged_read, read_amiss}
use Rattle.recovery.proofs.judging.judge_page.Goals as goal

pub facts_of-requires-clause-page : goal.facts_of-requires-clause-page
facts_of-requires-clause-page g c =
    held_passes c.args.layout.now c.pages_fill_the_disk.ensures c.args.pool.now c.args.place c.requires.place c.requires.held c.args.form.now c.requires.form c.number_of.result c.number_of.ensures.number c.in-Some.page.now c.in-Some.ensures.page

pub returns-in-Some-clause-judged : goal.returns-in-Some-clause-judged
returns-in-Some-clause-judged g c =
    judged_held c.args.layout.now c.pages_fill_the_disk.ensures c.args.pool.now c.args.place c.requires.place c.requires.held c.args.form.now c.requires.form c.number_of.result c.number_of.ensures.number
    (g.D.Disk.told c.args.disk.now) c.in-Some.page.now c.facts_of.result c.in-Some.ensures.page c.facts_of.ensures

pub returns-in-Ok-check-clause-judged : goal.returns-in-Ok-check-clause-judged
returns-in-Ok-check-clause-judged g c =
    judged_read c.args.layout.now c.pages_fill_the_disk.ensures c.args.pool.now c.args.place c.requires.place c.requires.held c.args.form.now c.requires.form c.number_of.result c.number_of.ensures.number
    (g.D.Disk.told c.args.disk.now) c.in-Ok.page c.facts_of-in-Ok-check.result c.page_at-at.result c.in_default.ensures.page c.page_at-at.ensures c.in-Ok.ensures.page c.in-Ok-check.ensures.passed c.facts_of-in-Ok-check.ensures

pub returns-in-Err-clause-cause : goal.returns-in-Err-clause-cause
returns-in-Err-clause-cause g c = (
  λ tells.
      read_amiss c.args.layout.now c.pages_fill_the_disk.ensures c.args.pool.now c.args.place c.requires.place c.requires.held c.args.form.now c.requires.form c.number_of.result c.number_of.ensures.number
      (g.D.Disk.told c.args.disk.now).contents c.in-Ok.page c.page_at-at.result c.in_default.ensures.page c.page_at-at.ensures (c.in-Ok.ensures.page tells) c.in-Err.ensures.refused,
  c.in-Ok.ensures.cause.later,
)
