use Rattle.coverage.specs.IsCovered.{index_view}
use Rattle.index_contents.specs.IndexContents.{contents}
use Rattle.index_steps.specs.IndexTuples.{shape_of}
use Rattle.summarise_core.proofs.Kept.{ready_at, sound_at}
use Rattle.summarise_core.proofs.range_laws.a_kept_index_takes_a_summarise.Goals as goal

pub returns-clause-ready : goal.returns-clause-ready
returns-clause-ready c = λ shape e lock w s range hand shows kept is.
    ready_at shape e lock w s range hand shows kept (c.a_kept_index_takes_a_growth.ensures.ready shape e lock w s range hand.growth shows kept) hand.stage is

pub returns-clause-sound : goal.returns-clause-sound
returns-clause-sound c = λ layout pages index lock w s range hand order shows kept is damage.
    let shape = shape_of layout index in
    let e = contents layout pages index in
    sound_at layout pages index lock w s range hand shows kept (c.a_sound_index_is_not_misread.ensures.named shape e lock (index_view w) range shows kept.sound)
    (λ x of. c.a_sound_index_is_not_misread.ensures.read shape e lock (index_view w) range x shows of) hand.stage
    (λ at placing found. c.a_kept_index_takes_a_growth.ensures.sound layout pages shape lock w s range (record hand.growth { index = index }) (order at) shows kept placing found) is damage
