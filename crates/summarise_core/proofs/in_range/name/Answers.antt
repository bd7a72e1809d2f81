use Rattle.std.proofs.Common.{refl}
use Rattle.index_contents.specs.IndexContents.{contents}
use Rattle.index_steps.specs.IndexTuples.{shape_of}
use Rattle.index_steps.specs.ShownIndex.{lock_in}
use Rattle.summarise_core.specs.declared.range_stage.Stage.TheVariants as stages
use Rattle.summarise_core.specs.ShownHeap.{heap_of}
use Rattle.summarise_core.specs.Works.{hand_of}
use Rattle.summarise_core.proofs.Stepped.{is_placed}
use Rattle.summarise_core.proofs.Locking.{none_left}
use Rattle.summarise_core.proofs.in_range.name.Goals as goal

pub returns-in-Ok : goal.returns-in-Ok
returns-in-Ok g c = λ work of rests.
    let store = c.args.pages.now in
    let at = c.args.at in
    let made = c.name_new.ensures in
    record {
      stepped = λ tells blocks has. is_placed (shape_of store.layout at.index) (heap_of store.layout at.index blocks) at.actor at.range (contents store.layout store.pages at.index) (contents store.layout c.name_new.new.pages.pages at.index)
          (lock_in store.layout c.args.locks.now at.index) (lock_in store.layout c.name_new.new.locks at.index) (hand_of (stages.Name c.args.to) work) c.args.to (c.in-Ok.ensures.named tells);
      exact = λ tells blocks has exact. tt;
      stands = tt;
      rests = tt;
      of = of;
      grows = rests;
      stays = tt;
      blocked = tt;
      full = tt;
      at_full = tt;
      others = made.others;
      order = made.order;
      locks = made.apart;
      counts = made.counts;
      given = λ gives. c.in-Ok.ensures.given.none;
      own = λ few. none_left 0 c.name_new.new.locks at.actor c.in-Ok.ensures.given.none;
      survives = made.survives;
      kept = tt;
      undamaged = λ tells damage. damage;
      names = tt;
      outcome = c.in-Ok.ensures.outcome;
    }

pub returns-in-Err : goal.returns-in-Err
returns-in-Err g c = λ work of rests.
    let made = c.name_new.ensures in
    record {
      stepped = tt;
      exact = tt;
      stands = tt;
      rests = tt;
      of = of;
      grows = tt;
      stays = refl;
      blocked = tt;
      full = tt;
      at_full = tt;
      others = made.others;
      order = made.order;
      locks = made.apart;
      counts = made.counts;
      given = tt;
      own = tt;
      survives = made.survives;
      kept = c.in-Err.ensures.kept;
      undamaged = tt;
      names = c.in-Err.ensures.at;
      outcome = c.in-Err.ensures.outcome;
    }
