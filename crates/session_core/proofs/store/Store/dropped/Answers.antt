use Rattle.std.proofs.Common.{length, sym, ap, ◌∙◌, arith}
use Rattle.script_semantics.specs.Names.{dropped_of}
use Rattle.store_layout.specs.DiskLayout.{DiskLayout}
use Rattle.session_parts.specs.StoreStates.{StoreState, dropped_in}
use Rattle.session_core.proofs.store.Store.dropped.Goals as goal

pub of-requires : goal.of-requires
of-requires g c = omega (arith, c.requires, c.self.invariant.few_sessions, ap (λ (s : StoreState _). length s.names) c.self.view_is)

pub returns : goal.returns
returns g c = λ p shows.
    c.of.ensures
    ∙ ap (λ (s : StoreState _). dropped_in s.dropped c.args.session) c.self.view_is
    ∙ shows.told c.args.session
    ∙ ap (λ (layout : DiskLayout). dropped_of layout (p.accounts c.args.session).dropped) (sym shows.layout)
