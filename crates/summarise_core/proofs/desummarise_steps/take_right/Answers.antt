use Rattle.std.proofs.Common.{◌≡◌, ℕ, Some, refl, sym, ap, subst, ◌∙◌}
use Rattle.std.specs.Prelude.{slice_set}
use Rattle.page_locks.specs.RightHolders.{right_of}
use Rattle.store_layout.specs.DiskLayout.{DiskLayout}
use Rattle.summarise_core.specs.Desummarises.{Begins, LacksRight, table_of}
use Rattle.summarise_core.proofs.desummarise_steps.take_right.Goals as goal

pub returns-in-Ok-take-clause-does : goal.returns-in-Ok-take-clause-does
returns-in-Ok-take-clause-does g c = λ locks blocks.
    let store = c.args.pages.now in
    let table : c.table_of-table.result ≡ table_of store.layout c.args.at.index = c.table_of-table.ensures.number ∙ ap (λ (l : DiskLayout). table_of l c.args.at.index) c.layout-layout.ensures in
    Begins refl (record {
      free = subst (λ (t : ℕ). (n : ℕ) → right_of c.args.rights.now t ≡ Some n → n ≡ c.args.at.actor) table c.in-Ok-take.ensures.free;
      taken = c.in-Ok-take.ensures.taken ∙ ap (λ (t : ℕ). slice_set c.args.rights.now t (Some c.args.at.actor)) table;
      pages = refl;
      locks = refl;
    })

pub returns-in-Err-take-clause-does : goal.returns-in-Err-take-clause-does
returns-in-Err-take-clause-does g c = λ locks blocks.
    let store = c.args.pages.now in
    let table : c.table_of-table.result ≡ table_of store.layout c.args.at.index = c.table_of-table.ensures.number ∙ ap (λ (l : DiskLayout). table_of l c.args.at.index) c.layout-layout.ensures in
    LacksRight c.in-Err-take.by refl (ap (λ (t : ℕ). right_of c.args.rights.now t) (sym table) ∙ c.in-Err-take.ensures.refused) c.in-Err-take.ensures.another
    (record { pages = refl; locks = refl; rights = c.in-Err-take.ensures.same })
