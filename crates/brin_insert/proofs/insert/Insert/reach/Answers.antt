use Rattle.std.proofs.Common.{◌<◌, length, Option, refl, sym, ap, subst, arith}
use Rattle.page_locks.specs.declared.did.Did.TheVariants as did
use Rattle.brin_insert.specs.InsertHands.{InsertHand}
use Rattle.brin_insert.specs.Inserts.{HasReached}
use Rattle.brin_insert.proofs.Tasks.{got_set, got_there, same_numbers}
use Rattle.brin_insert.proofs.insert.Insert.reach.Goals as goal

pub returns-clause-numbers : goal.returns-clause-numbers
returns-clause-numbers c =
    let old = c.args.self.now in
    let e = c.index_mut-work.result.now in
    let below : old.at < length old.works.items = omega (arith, c.len.ensures, old.works.ok) in
    same_numbers old.works.items old.at e c.begin.new.self (got_there old.works.items old.at e below c.index_mut-work.ensures.value) (ap (λ (h : InsertHand). h.index) c.begin.ensures)

pub returns-clause-reached : goal.returns-clause-reached
returns-clause-reached c =
    let old = c.args.self.now in
    let below : old.at < length old.works.items = omega (arith, c.len.ensures, old.works.ok) in
    subst (λ (o : Option InsertHand). HasReached c.args.point (did.Moved c.args.point) o) (sym (got_set old.works.items old.at c.begin.new.self below)) (refl, ap (λ (h : InsertHand). h.stage) c.begin.ensures)
