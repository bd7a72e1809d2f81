use Rattle.std.proofs.Common.{ℕ, not, ◌==◌, ◌&&◌, ap, sym, ◌∙◌}
use Rattle.std.specs.List.{list_any}
use Rattle.std.specs.Ordering.{nat_cmp}
use Rattle.std.specs.FinMap.{entries}
use Rattle.std.specs.FinSet.{contains}
use Rattle.block_model.specs.DatabaseState.{OpenTransaction}
use Rattle.model_laws.specs.declared.sessions.Session.{Session}
use Rattle.model_laws.specs.ListedSessions.{at_numbers}
use Rattle.model_laws.proofs.KeyedLists.{entries_listed, any_mapped}
use Rattle.model_laws.proofs.sessions.Sessions.marked_elsewhere.Goals as goal

pub returns : goal.returns
returns c =
    let marks = λ (e : ℕ × OpenTransaction). not (e.0 == c.args.number) && contains e.1.marks c.args.id in
    c.marks_elsewhere.ensures ∙ ap (list_any (λ (s : Session). marks (s.number, s.transaction))) c.as_slice.ensures.value
    ∙ any_mapped marks (λ (s : Session). (s.number, s.transaction)) c.self.inside.items.items
    ∙ ap (list_any marks) (sym (entries_listed nat_cmp (at_numbers c.self.inside.items.items) c.self.invariant) ∙ ap entries c.self.view_is)
