use Rattle.std.proofs.Common.{◌≡◌, List, subst}
use Rattle.std.specs.Prelude.{replicate}
use Rattle.session_starts.specs.FreshPages.{fresh_pages}
use Rattle.snapshot_core.specs.declared.statuses.Status.{Status}
use Rattle.snapshot_core.specs.declared.statuses.Status.TheVariants.{Unused}
use Rattle.tx_table.specs.Statuses.{number_limit}
use Rattle.tx_table.specs.TxState.{IsNext}
use Rattle.session_starts.proofs.Statuses.{fresh_started, fresh_statuses, heap_unstarted, next_of_unused, no_blocks}
use Rattle.session_starts.proofs.fresh_table_laws.fresh_pages_show_a_new_database.Goals as goal

pub returns-clause-statuses : goal.returns-clause-statuses
returns-clause-statuses c = fresh_statuses c.args.layout.now (fresh_pages c.args.layout.now) c.a_new_store_opens_to_fresh_pages.ensures.pages

pub returns-clause-started : goal.returns-clause-started
returns-clause-started c = fresh_started c.args.layout.now (fresh_pages c.args.layout.now) c.a_new_store_opens_to_fresh_pages.ensures.pages

pub returns-clause-blocks : goal.returns-clause-blocks
returns-clause-blocks c = λ table below. no_blocks c.args.layout.now (fresh_pages c.args.layout.now) c.a_new_store_opens_to_fresh_pages.ensures.pages table below

pub returns-clause-database : goal.returns-clause-database
returns-clause-database c = λ t stored has next opened.
    let layout = c.args.layout.now in
    let pages = fresh_pages layout in
    let fresh = c.a_new_store_opens_to_fresh_pages.ensures.pages in
    let none : List Status = replicate (number_limit layout) Unused in
    let same : stored ≡ none = c.statuses_are_one_list.ensures layout pages stored none has (fresh_statuses layout pages fresh) in
    let first : t.tx.next ≡ 1 = c.next_numbers_are_one.ensures none t.tx.next 1 (subst (λ (l : List Status). IsNext l t.tx.next) same next) (next_of_unused (number_limit layout)) in
    c.a_new_store_shows_nothing.ensures layout pages t none (fresh_statuses layout pages fresh) (next_of_unused (number_limit layout)) (fresh_started layout pages fresh)
    (λ table block within below. heap_unstarted layout pages fresh table block within below) opened first
