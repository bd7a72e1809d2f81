use Rattle.std.proofs.Common.{◌≡◌, Option, None, Some, List, sym, ap, subst, ◌∙◌}
use Rattle.block_model.specs.declared.request.Request.TheVariants as requests
use Rattle.block_model.specs.RequestEffect as model
use Rattle.store_layout.specs.StatementRequests.{request_entry}
use Rattle.snapshot_core.specs.declared.sessions.Open.{Open}
use Rattle.snapshot_core.specs.StoredVersions.{transaction_of}
use Rattle.transactions.specs.ShowsDatabase.{DoesRequest, OfDatabase}
use Rattle.transactions.specs.TransactionsState.{AreOpen, TransactionsState, with_open}
use Rattle.transactions.proofs.Calls.{begun_on_pages, does_shows, commit_does, still_open}
use Rattle.transactions.proofs.transactions.Transactions.commit_unfailed.Goals as goal

pub commit-requires-clause-begun : goal.commit-requires-clause-begun
commit-requires-clause-begun g c =
    begun_on_pages g.D.Disk.told c.args.pages.now c.args.pages.now c.args.self.now c.args.self.now c.args.session c.open_of.result.now c.requires.shown
    (ap (λ (t : TransactionsState). transaction_of t.opens c.args.session) (sym c.self.view_is) ∙ ap (λ (os : List (Option Open)). transaction_of os c.args.session) (sym c.as_slice.ensures.value) ∙ c.open_of.ensures)

pub invariant_of-self : goal.invariant_of-self
invariant_of-self g c =
    subst AreOpen (λ i. record { tx = sym c.in-Ok.ensures.same i; opens = sym c.take_open.ensures.gone i })
    (still_open (record { tx = c.self.inside.tx; opens = c.self.inside.sessions.items }) c.args.session c.take_open.result None c.self.invariant c.take_open.ensures.was (λ p none. absurd cc))

-- what is seen now
abbrev after : (g : _) (c : goal.After-drop-take_open g) → TransactionsState
after g c = record { tx = c.commit.new.self; opens = c.take_open.new.sessions.items }

ended : (g : _) (c : goal.After-drop-take_open g) → after g c ≡ with_open c.args.self.now c.args.session None
ended g c = (λ i. record { tx = c.in-Ok.ensures.same i; opens = c.take_open.ensures.gone i }) ∙ ap (λ (t : TransactionsState). with_open t c.args.session None) c.self.view_is

was : (g : _) (c : goal.After-drop-take_open g) → transaction_of c.args.self.now.opens c.args.session ≡ Some c.open_of.result.now
was g c = ap (λ (t : TransactionsState). transaction_of t.opens c.args.session) (sym c.self.view_is) ∙ ap (λ (os : List (Option Open)). transaction_of os c.args.session) (sym c.as_slice.ensures.value) ∙ c.open_of.ensures

does : (g : _) (c : goal.After-drop-take_open g) → OfDatabase g.D.Disk.told c.args.pages.now c.args.self.now (λ s. DoesRequest c.args.pages.now.layout c.commit.new.pages.pages (after g c) s (request_entry c.args.session 0 requests.Commit) model.Committed)
does g c = commit_does g.D.Disk.told c.args.pages.now c.commit.new.pages c.args.self.now (after g c) c.args.session c.open_of.result.now c.requires.over c.in-Ok.ensures.rest c.in-Ok.ensures.committed (was g c) (c.requires.unfailed c.open_of.result.now (was g c)) (ended g c)

pub returns-in-Ok-clause-database : goal.returns-in-Ok-clause-database
returns-in-Ok-clause-database g c = does g c

pub returns-in-Ok-clause-shown : goal.returns-in-Ok-clause-shown
returns-in-Ok-clause-shown g c = does_shows g.D.Disk.told c.args.pages.now c.commit.new.pages c.args.self.now (after g c) (request_entry c.args.session 0 requests.Commit) c.in-Ok.ensures.rest.leaves c.requires.shown (does g c)
