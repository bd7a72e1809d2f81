use Rattle.std.proofs.Common.{◌≡◌, None, subst}
use Rattle.page_map.specs.Keeps.{Tells}
use Rattle.script_semantics.specs.Place.{Place}
use Rattle.session_parts.specs.ShowsPlace.{ShowsPlace}
use Rattle.session_parts.specs.StoreStates.{StoreState}
use Rattle.session_core.proofs.store.Store.known.Goals as goal

pub returns : goal.returns
returns g c = record {
  shown = subst (λ (s : StoreState _). Tells g.D.Disk.told s.pages → s.pages.failed ≡ None → (p : Place) × ShowsPlace s p) c.self.view_is c.self.invariant.shown;
}
