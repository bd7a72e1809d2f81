use Rattle.std.proofs.Common.{◌≡◌, ◌<◌, ℕ, length, List, Ok, Err, Some, slice_get, refl, sym, ap, subst, ◌∙◌}
use Rattle.block_model.specs.declared.reply.Refusal.TheVariants as refusals
use Rattle.block_model.specs.declared.reply.Reply.TheVariants as replies
use Rattle.store_layout.specs.DiskLayout.{DiskLayout}
use Rattle.page_map.specs.declared.faults.MachineFault.{MachineFault}
use Rattle.index_contents.specs.IndexContents.{relation_of}
use Rattle.index_steps.specs.ShownTable.{indexes_of}
use Rattle.script_semantics.specs.Names.{index_name}
use Rattle.session_parts.specs.declared.faults.Step.TheVariants as steps
use Rattle.session_maintenance.specs.declared.settle.Came.TheVariants as cames
use Rattle.session_maintenance.specs.Settled.{IsIndexRelation, IsOfAnIndex, IsSettled}
use Rattle.session_maintenance.proofs.Settling.{found_below, found_there}
use Rattle.session_maintenance.proofs.settle.fails.Goals as goal

pub index_of-index-requires : goal.index_of-index-requires
index_of-index-requires g c = subst (λ (l : DiskLayout). IsIndexRelation l c.in-Full.relation) (sym c.layout.ensures) (subst (IsOfAnIndex c.args.parts.now.pages.layout) c.in-Full.is c.requires.full)

pub index_named-relation-requires : goal.index_named-relation-requires
index_named-relation-requires g c = subst (λ (l : DiskLayout). c.index_of-index.result < length l.schema.indexes) (sym c.layout-in-Full.ensures)
    (found_below c.args.parts.now.pages.layout c.in-Full.relation c.index_of-index.result (ap (λ (l : DiskLayout). relation_of l c.index_of-index.result) (sym c.layout.ensures) ∙ c.index_of-index.ensures)
    (subst (IsOfAnIndex c.args.parts.now.pages.layout) c.in-Full.is c.requires.full))

pub give-requires : goal.give-requires
give-requires g c = c.requires.rights

pub unreachable-requires : goal.unreachable-requires
unreachable-requires g c = subst (IsOfAnIndex c.args.parts.now.pages.layout) c.in-Memory.is c.requires.full

pub unreachable-unreachable : goal.unreachable-unreachable
unreachable-unreachable g c = c.unreachable.result

pub returns-in-Full : goal.returns-in-Full
returns-in-Full g c =
    let parts = c.args.parts.now in
    let relation_is = ap (λ (l : DiskLayout). relation_of l c.index_of-index.result) (sym c.layout.ensures) ∙ c.index_of-index.ensures in
    record {
      pages = refl;
      settles = subst (λ (x : MachineFault). IsSettled parts (record parts { locks = c.drop_all.new.self; rights = c.give.new.self }) c.args.session c.args.table (Err x)
          (Ok (cames.Goes (steps.Done (replies.Refused (refusals.Full c.index_named-relation.result c.in-Full.number)))))) (sym c.in-Full.is) (record {
            locks = record { all = c.drop_all.ensures.given; none = c.drop_all.ensures.none; limit = c.drop_all.ensures.limit; counts = λ m other. c.drop_all.ensures.counts.others m other };
            given = c.give.ensures.given;
            kept = c.give.ensures.same;
            rest = refl;
            reply = λ index table at of there. ap (λ (name : List ℕ). Ok (cames.Goes (steps.Done (replies.Refused (refusals.Full name c.in-Full.number)))))
                (subst (λ (l : DiskLayout). (t i : ℕ) → slice_get (indexes_of l t) i ≡ Some c.index_of-index.result → c.index_named-relation.result ≡ index_name l t i) c.layout-in-Full.ensures c.index_named-relation.ensures.among table at
                (found_there parts.pages.layout c.in-Full.relation c.index_of-index.result index table at relation_is of there));
          });
    }

pub returns-in-Store : goal.returns-in-Store
returns-in-Store g c =
    let parts = c.args.parts.now in
    record {
      pages = refl;
      settles = subst (λ (x : MachineFault). IsSettled parts (record parts { locks = c.drop_all-in-Store.new.self }) c.args.session c.args.table (Err x) (Err c.fault_of.result)) (sym c.in-Store.is) (
        ap Err c.fault_of.ensures,
        record { all = c.drop_all-in-Store.ensures.given; none = c.drop_all-in-Store.ensures.none; limit = c.drop_all-in-Store.ensures.limit; counts = λ m other. c.drop_all-in-Store.ensures.counts.others m other },
        refl,
      );
    }
