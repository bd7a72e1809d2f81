-- how many page locks a statement in hand holds
use Rattle.std.proofs.Common.{◌≤◌, Option, None, Some, arith}
use Rattle.summarise_core.specs.declared.desummarise_stage.Stage.{Stage as DesummariseStage}
use Rattle.summarise_core.specs.declared.desummarise_stage.Stage.TheVariants as desummarises
use Rattle.summarise_core.specs.Desummarises.{held_at as held_by_desummarise}
use Rattle.brin_insert.specs.declared.stage.Stage.{Stage as InsertStage}
use Rattle.brin_insert.specs.declared.stage.Stage.TheVariants as inserts
use Rattle.brin_insert.specs.InsertLocks.{held_by as held_by_insert, stage_of}
use Rattle.summarise_core.specs.declared.course.Standing.{Standing}
use Rattle.summarise_core.specs.declared.course.Standing.TheVariants as standings
use Rattle.summarise_core.specs.Summarises.{SummariseState, held_in}
use Rattle.script_semantics.specs.Stage.{Stage as GrowthStage}
use Rattle.script_semantics.specs.Stage.TheVariants as growths
use Rattle.script_semantics.specs.StageLocks.{held_at as held_to_grow}
use Rattle.summarise_core.specs.declared.range_stage.Stage.{Stage}
use Rattle.summarise_core.specs.declared.range_stage.Stage.TheVariants as stages
use Rattle.summarise_core.specs.StageLocks.{held_at}
use Rattle.session_parts.specs.declared.hand.Hand.TheVariants as hands
use Rattle.session_parts.specs.Hands.{summary_now}
use Rattle.session_parts.specs.HandFits.{held_in_summary}
use Rattle.session_parts.specs.ShareLaws.{FewLocksEach}

insert_few : (stage : Option InsertStage) → held_by_insert stage ≤ 3
insert_few None = omega arith
insert_few (Some (inserts.Set x y)) = omega arith
insert_few (Some (inserts.Drop x)) = omega arith
insert_few (Some stage) = omega arith

growth_few : (stage : GrowthStage) → held_to_grow stage ≤ 3
growth_few growths.Judge = omega arith
growth_few growths.Count = omega arith
growth_few (growths.Set range from to) = omega arith
growth_few (growths.Drop range from) = omega arith

range_few : (growth : GrowthStage) (stage : Stage) → held_at growth stage ≤ 3
range_few growth stages.Place = growth_few growth
range_few growth (stages.Name x) = omega arith
range_few growth (stages.Set x y) = omega arith
range_few growth (stages.Drop x) = omega arith
range_few growth stage = omega arith

summarise_few : (a : SummariseState) (standing : Standing) → held_in a standing ≤ 3
summarise_few a standings.Begins = omega arith
summarise_few a standings.AtRange = range_few a.hand.growth.stage a.hand.stage
summarise_few a standings.Done = omega arith

summary_few : (now : Option SummariseState) → held_in_summary now ≤ 3
summary_few None = omega arith
summary_few (Some a) = summarise_few a a.standing

desummarise_few : (stage : DesummariseStage) → held_by_desummarise stage ≤ 3
desummarise_few (desummarises.Drop x) = omega arith
desummarise_few stage = omega arith

pub few_locks_each : FewLocksEach
few_locks_each None = omega arith
few_locks_each (Some (hands.Inserts insert)) = insert_few (stage_of insert)
few_locks_each (Some (hands.Summarises a)) = summarise_few a a.standing
few_locks_each (Some (hands.Desummarises a)) = desummarise_few a.stage
few_locks_each (Some (hands.Completes c)) = summary_few (summary_now c)
few_locks_each (Some (hands.Works r)) = summarise_few r.summarise r.summarise.standing
few_locks_each (Some hand) = omega arith
