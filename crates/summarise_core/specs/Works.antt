-- what is worked with at a range, with the stage, as what a summarise has in hand
use Rattle.summarise_core.specs.declared.range_stage.Stage.{Stage}
use Rattle.summarise_core.specs.declared.work.Work.{Work}
use Rattle.summarise_core.specs.SummariseHands.{SummariseHand}

abbrev pub hand_of : Stage → Work → SummariseHand
hand_of stage work = record {
  stage = stage;
  extent = work.extent;
  next = work.next;
  running = work.running;
  united = work.united;
  copied = work.copied;
  room = work.rows.room;
  growth = work.growth;
}
