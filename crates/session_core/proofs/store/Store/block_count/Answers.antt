use Rattle.std.proofs.Common.{◌≡◌, ◌<◌, length, sym, ap, ◌∙◌, subst}
use Rattle.page_map.specs.Keeps.{Tells}
use Rattle.coverage.specs.Table.{TableState}
use Rattle.script_semantics.specs.Place.{Place}
use Rattle.session_parts.specs.ShowsPlace.{ShowsPlace}
use Rattle.session_parts.specs.StoreStates.{StoreState}
use Rattle.session_core.proofs.store.Store.block_count.Goals as goal

pub blocks-requires : goal.blocks-requires
blocks-requires g c = subst (λ (s : StoreState _). c.args.table < length s.pages.layout.schema.tables) (sym c.self.view_is) c.requires

pub returns : goal.returns
returns g c =
    subst (λ (s : StoreState _). Tells g.D.Disk.told s.pages → (p : Place) → ShowsPlace s p → c.blocks-2.result ≡ (p.tables c.args.table).blocks) c.self.view_is
    (λ tells p shows.
    let there = shows.tables c.args.table (subst (λ (s : StoreState _). c.args.table < length s.pages.layout.schema.tables) (sym c.self.view_is) c.requires) in
    c.blocks-2.ensures.count tells there.blocks there.has ∙ sym (ap (λ (w : TableState). w.blocks) there.shown))
