use Rattle.std.proofs.Common.{◌∙◌, sym}
use Rattle.packed_requests.proofs.ReadBack.{next_in, none_in}
use Rattle.packed_requests.proofs.reader.EntryReader.next.Goals as goal

pub returns-in_default-clause-next : goal.returns-in_default-clause-next
returns-in_default-clause-next c =
    let a = c.self.inside in
    sym c.self.view_is ∙ none_in a.heads.now a.shapes.now a.numbers.now a.queries.now c.in_default.len_below

pub returns-clause-next : goal.returns-clause-next
returns-clause-next c =
    let a = c.self.inside in
    sym c.self.view_is
    ∙ next_in a.heads.now a.shapes.now a.numbers.now a.queries.now _ c.in_ok-request.request c.shapes_after-self-inside.result.now c.numbers_after-self-inside.result.now c.queries_after-self-inside.result.now c.in-len1-up.len_at_least
    c.in_ok-request.ensures c.shapes_after-self-inside.ensures c.numbers_after-self-inside.ensures c.queries_after-self-inside.ensures
