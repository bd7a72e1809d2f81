use Rattle.std.proofs.Common.{◌≡◌, ◌+◌, ◌<◌, ℕ, false, set, Some, ap, subst, ◌∙◌}
use Rattle.block_model.specs.declared.request.Request.TheVariants as requests
use Rattle.block_model.specs.RequestEffect as model
use Rattle.store_layout.specs.StatementRequests.{request_entry}
use Rattle.snapshot_core.specs.SessionChanges.{numbers_of}
use Rattle.snapshot_core.specs.declared.statuses.Status.TheVariants.{Begun}
use Rattle.tx_table.specs.Statuses.{HasStatuses, OfStatuses, number_limit}
use Rattle.tx_table.specs.TxState.{TxState}
use Rattle.transactions.specs.ShowsDatabase.{DoesRequest, OfDatabase}
use Rattle.transactions.specs.TransactionsState.{TransactionsState, with_begun}
use Rattle.transactions.proofs.Calls.{begin_does, does_shows, kept_shows}
use Rattle.transactions.proofs.transactions.Transactions.begin.Goals as goal

-- what is seen now
abbrev after : (g : _) (c : goal.After-set_open g) → TransactionsState
after g c = record { tx = c.begin.new.self; opens = c.set_open.new.sessions.items }

begun : (g : _) (c : goal.After-set_open g) → after g c ≡ with_begun c.args.self.now c.args.session
begun g c =
    let number = c.in-Ok.ensures.number in
    let active = c.numbers_of-numbers.ensures ∙ ap numbers_of c.as_slice.ensures.value in
    let sessions = c.set_open.ensures
    ∙ ap (λ o. set c.self.inside.sessions.items c.args.session (Some o)) (c.new_open.ensures ∙ (λ i. record { t = number.0 i; next_k = 0; snapshot = record { next = number.0 i; active = active i }; failed = false })) in
    (λ i. record { tx = record { first = c.in-Ok.ensures.opening i; next = (number.1 ∙ ap (λ n. n + 1) number.0) i }; opens = sessions i })
    ∙ ap (λ (t : TransactionsState). with_begun t c.args.session) c.self.view_is

does : (g : _) (c : goal.After-set_open g) → OfDatabase g.D.Disk.told c.args.pages.now c.args.self.now (λ s. DoesRequest c.args.pages.now.layout c.begin.new.pages.pages (after g c) s (request_entry c.args.session 0 requests.Begin) (model.Begun c.in-Ok.t))
does g c =
    let next : c.self.inside.tx.next ≡ c.args.self.now.tx.next = ap (λ (t : TransactionsState). t.tx.next) c.self.view_is in
    begin_does g.D.Disk.told c.args.pages.now c.begin.new.pages c.args.self.now (after g c) c.args.session c.in-Ok.t c.requires.over c.in-Ok.ensures.rest
    (subst (λ (n : ℕ). OfStatuses g.D.Disk.told c.args.pages.now (λ stored. HasStatuses c.args.pages.now.layout c.begin.new.pages.pages (set stored n Begun))) next c.in-Ok.ensures.begun) (c.in-Ok.ensures.number.0 ∙ next) (subst (λ (n : ℕ). n < number_limit c.args.pages.now.layout) next c.in-Ok.ensures.outcome.0)
    c.requires.session c.requires.idle (begun g c)

pub returns-in-Ok-clause-database : goal.returns-in-Ok-clause-database
returns-in-Ok-clause-database g c = does g c

pub returns-in-Ok-clause-shown : goal.returns-in-Ok-clause-shown
returns-in-Ok-clause-shown g c = does_shows g.D.Disk.told c.args.pages.now c.begin.new.pages c.args.self.now (after g c) (request_entry c.args.session 0 requests.Begin) c.in-Ok.ensures.rest.leaves c.requires.shown (does g c)

pub returns-in-Err-clause-shown : goal.returns-in-Err-clause-shown
returns-in-Err-clause-shown g c =
    kept_shows g.D.Disk.told c.args.pages.now c.begin.new.pages c.args.self.now (record { tx = c.begin.new.self; opens = c.self.inside.sessions.items }) c.in-Err.ensures.kept
    (ap (λ (tx : TxState). record { tx = tx; opens = c.self.inside.sessions.items }) c.in-Err.ensures.same ∙ c.self.view_is) c.requires.shown
