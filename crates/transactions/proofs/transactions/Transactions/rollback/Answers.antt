use Rattle.std.proofs.Common.{◌≡◌, Option, None, Some, List, sym, ap, subst, ◌∙◌}
use Rattle.block_model.specs.declared.request.Request.TheVariants as requests
use Rattle.block_model.specs.RequestEffect as model
use Rattle.store_layout.specs.StatementRequests.{request_entry}
use Rattle.snapshot_core.specs.declared.sessions.Open.{Open}
use Rattle.snapshot_core.specs.StoredVersions.{transaction_of}
use Rattle.tx_table.specs.TxState.{TxState}
use Rattle.transactions.specs.ShowsDatabase.{DoesRequest, OfDatabase}
use Rattle.transactions.specs.TransactionsState.{AreOpen, TransactionsState, with_open}
use Rattle.transactions.proofs.Calls.{begun_on_pages, does_shows, kept_shows, rollback_does, still_open}
use Rattle.transactions.proofs.transactions.Transactions.rollback.Goals as goal

pub rollback-requires-clause-begun : goal.rollback-requires-clause-begun
rollback-requires-clause-begun g c =
    begun_on_pages g.D.Disk.told c.args.pages.now c.args.pages.now c.args.self.now c.args.self.now c.args.session c.open_of.result.now c.requires.shown
    (ap (λ (t : TransactionsState). transaction_of t.opens c.args.session) (sym c.self.view_is) ∙ ap (λ (os : List (Option Open)). transaction_of os c.args.session) (sym c.as_slice.ensures.value) ∙ c.open_of.ensures)

pub invariant_of-self : goal.invariant_of-self
invariant_of-self g c =
    subst AreOpen (λ i. record { tx = sym c.in-Ok.ensures.same i; opens = sym c.take_open.ensures.gone i })
    (still_open (record { tx = c.self.inside.tx; opens = c.self.inside.sessions.items }) c.args.session c.take_open.result None c.self.invariant c.take_open.ensures.was (λ p none. absurd cc))

-- what is seen now
abbrev after : (g : _) (c : goal.After-drop-take_open g) → TransactionsState
after g c = record { tx = c.rollback.new.self; opens = c.take_open.new.sessions.items }

ended : (g : _) (c : goal.After-drop-take_open g) → after g c ≡ with_open c.args.self.now c.args.session None
ended g c = (λ i. record { tx = c.in-Ok.ensures.same i; opens = c.take_open.ensures.gone i }) ∙ ap (λ (t : TransactionsState). with_open t c.args.session None) c.self.view_is

was : (g : _) (c : goal.After-drop-take_open g) → transaction_of c.args.self.now.opens c.args.session ≡ Some c.open_of.result.now
was g c = ap (λ (t : TransactionsState). transaction_of t.opens c.args.session) (sym c.self.view_is) ∙ ap (λ (os : List (Option Open)). transaction_of os c.args.session) (sym c.as_slice.ensures.value) ∙ c.open_of.ensures

does : (g : _) (c : goal.After-drop-take_open g) → OfDatabase g.D.Disk.told c.args.pages.now c.args.self.now (λ s. DoesRequest c.args.pages.now.layout c.rollback.new.pages.pages (after g c) s (request_entry c.args.session 0 requests.Rollback) model.RolledBack)
does g c = rollback_does g.D.Disk.told c.args.pages.now c.rollback.new.pages c.args.self.now (after g c) c.args.session c.open_of.result.now c.requires.over c.in-Ok.ensures.rest c.in-Ok.ensures.rolled_back (was g c) (ended g c)

pub returns-in-Ok-clause-database : goal.returns-in-Ok-clause-database
returns-in-Ok-clause-database g c = does g c

pub returns-in-Ok-clause-shown : goal.returns-in-Ok-clause-shown
returns-in-Ok-clause-shown g c = does_shows g.D.Disk.told c.args.pages.now c.rollback.new.pages c.args.self.now (after g c) (request_entry c.args.session 0 requests.Rollback) c.in-Ok.ensures.rest.leaves c.requires.shown (does g c)

pub returns-in-Err-clause-shown : goal.returns-in-Err-clause-shown
returns-in-Err-clause-shown g c =
    kept_shows g.D.Disk.told c.args.pages.now c.rollback.new.pages c.args.self.now (record { tx = c.rollback.new.self; opens = c.self.inside.sessions.items }) c.in-Err.ensures.kept
    (ap (λ (tx : TxState). record { tx = tx; opens = c.self.inside.sessions.items }) c.in-Err.ensures.same ∙ c.self.view_is) c.requires.shown
