use Rattle.std.proofs.Common.{◌<◌, length, Result, Ok, IfOk, IfErr, refl, sym, subst}
use Rattle.store_layout.specs.DiskLayout.{DiskLayout}
use Rattle.page_locks.specs.declared.did.Did.{Did}
use Rattle.page_map.specs.declared.faults.MachineFault.{MachineFault}
use Rattle.session_maintenance.specs.Settled.{HoldsAPage, IsOfAnIndex, IsSettled, IsTold}
use Rattle.session_maintenance.proofs.settle.settle.Goals as goal

pub told-requires-clause-table : goal.told-requires-clause-table
told-requires-clause-table g c = subst (λ (l : DiskLayout). c.args.table < length l.schema.tables) (sym c.layout.ensures) c.requires.table

pub told-requires-clause-page : goal.told-requires-clause-page
told-requires-clause-page g c = subst (λ (l : DiskLayout). HoldsAPage l c.in-Ok.answer) (sym c.layout.ensures) (subst (λ (x : Result Did MachineFault). IfOk x (HoldsAPage c.args.parts.now.pages.layout)) c.in-Ok.is c.requires.page)

pub fails-requires-clause-rights : goal.fails-requires-clause-rights
fails-requires-clause-rights g c = c.requires.rights

pub fails-requires-clause-full : goal.fails-requires-clause-full
fails-requires-clause-full g c = subst (λ (x : Result Did MachineFault). IfErr x (IsOfAnIndex c.args.parts.now.pages.layout)) c.in-Err.is c.requires.full

pub returns-in-Ok : goal.returns-in-Ok
returns-in-Ok g c =
    let parts = c.args.parts.now in
    record {
      settles = subst (λ (x : Result Did MachineFault). IsSettled parts parts c.args.session c.args.table x (Ok c.told.result)) (sym c.in-Ok.is)
          (c.told.result, refl, subst (λ (l : DiskLayout). IsTold l c.args.table c.in-Ok.answer c.told.result) c.layout.ensures c.told.ensures, refl);
      pages = refl;
    }

pub returns-in-Err : goal.returns-in-Err
returns-in-Err g c = record {
  settles = subst (λ (x : Result Did MachineFault). IsSettled c.args.parts.now c.fails.new.parts c.args.session c.args.table x c.fails.result) (sym c.in-Err.is) c.fails.ensures.settles;
  pages = c.fails.ensures.pages;
}
