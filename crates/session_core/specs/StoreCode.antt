-- how a store of sessions is told apart from another
use Rattle.std.specs.Prelude.{List, Option, ℕ, refl}
use Rattle.std.specs.Coded.{Coded, code_by, coded×, coded_list, coded_option, coded_ℕ}
use Rattle.block_model.specs.contracts.schema.Schema as schema_contract
use Rattle.block_model.specs.contracts.schema.Sizes as sizes_contract
use Rattle.page_locks.specs.LockHolders.{coded_locks}
use Rattle.page_map.specs.PageMap.{View}
use Rattle.snapshot_core.specs.contracts.sessions.Open as open_contract
use Rattle.store_layout.specs.DiskLayout.{DiskLayout}
use Rattle.transactions.specs.TransactionsState.{TransactionsState}
use Rattle.reply_texts.specs.contracts.dropped.Dropped as dropped_contract
use Rattle.session_parts.specs.contracts.hand.Hand as hand_contract
use Rattle.reply_texts.specs.declared.dropped.Dropped.{Dropped}
use Rattle.session_parts.specs.declared.hand.Hand.{Hand}
use Rattle.session_parts.specs.JournalState.{coded_journal}
use Rattle.session_parts.specs.StoreStates.{StoreState}

abbrev pub coded_layout : Coded DiskLayout
coded_layout = code_by _ (coded× schema_contract.the_row.coded sizes_contract.the_row.coded) (λ (d : DiskLayout). (d.schema, d.sizes)) (λ p. record { schema = p.0; sizes = p.1 }) (λ _. refl)

abbrev pub coded_view : {D : Type 0} → Coded D → Coded (View D)
coded_view {D} code =
    code_by _ (coded× code (coded× coded_layout (coded× (coded_list (coded_list (coded_list coded_ℕ))) (coded_option coded_ℕ)))) (λ (s : View D). (s.disk, (s.layout, (s.pages, s.failed))))
    (λ p. record { disk = p.0; layout = p.1.0; pages = p.1.1.0; failed = p.1.1.1 }) (λ _. refl)

abbrev pub coded_transactions : Coded TransactionsState
coded_transactions =
    code_by _ (coded× (coded× coded_ℕ coded_ℕ) (coded_list (coded_option open_contract.the_row.coded))) (λ (t : TransactionsState). ((t.tx.first, t.tx.next), t.opens))
    (λ p. record { tx = record { first = p.0.0; next = p.0.1 }; opens = p.1 }) (λ _. refl)

-- the queue, and what was asked for in vain
abbrev pub coded_asked : Coded (List (ℕ × ℕ) × List (List Dropped))
coded_asked = coded× (coded_list (coded× coded_ℕ coded_ℕ)) (coded_list (coded_list dropped_contract.the_row.coded))

-- the sessions' names, and what they have in hand
abbrev pub coded_sessions : Coded (List (List ℕ) × List (Option Hand))
coded_sessions = coded× (coded_list (coded_list coded_ℕ)) (coded_list (coded_option hand_contract.the_row.coded))

abbrev pub coded_store : {D : Type 0} → Coded D → Coded (StoreState D)
coded_store {D} code =
    code_by _ (coded× (coded_view code) (coded× coded_transactions (coded× (coded× coded_locks (coded_list (coded_option coded_ℕ))) (coded× coded_journal (coded× coded_asked coded_sessions)))))
    (λ (s : StoreState D). (s.pages, (s.transactions, ((s.locks, s.rights), (s.journal, ((s.queue, s.dropped), (s.names, s.hands)))))))
    (λ p. record {
      pages = p.0;
      transactions = p.1.0;
      locks = p.1.1.0.0;
      rights = p.1.1.0.1;
      journal = p.1.1.1.0;
      queue = p.1.1.1.1.0.0;
      dropped = p.1.1.1.1.0.1;
      names = p.1.1.1.1.1.0;
      hands = p.1.1.1.1.1.1;
    })
    (λ _. refl)
