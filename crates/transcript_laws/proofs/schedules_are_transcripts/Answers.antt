use Rattle.transcript_laws.proofs.Schedules.{comes_there, rightly_told}
use Rattle.transcript_laws.proofs.schedules_are_transcripts.Goals as goal

pub returns-clause-reached : goal.returns-clause-reached
returns-clause-reached c = λ layout names script opening said p fits schedule. comes_there layout names script opening fits said p schedule

pub returns-clause-told : goal.returns-clause-told
returns-clause-told c = λ layout names script opening said p within fits opens schedule.
    rightly_told layout names script opening fits c.a_step_is_told.ensures c.a_submission_is_told.ensures.taken c.a_submission_is_told.ensures.refused c.an_answer_is_an_entry.ensures.entry c.an_answer_is_an_entry.ensures.begins
    c.answers_are_in_place.ensures.place c.answers_are_in_place.ensures.drops within opens said p schedule
