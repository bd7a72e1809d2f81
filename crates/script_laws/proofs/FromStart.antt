-- A script from new tables on: a begin, an insert, and another session's summarize.
use Rattle.std.proofs.Common.{◌≡◌, ◌⊎◌, inl, inr, ℕ, ◌≤◌, ◌<◌, List, [], ◌∷◌, ◌++◌, length, None, Some, refl, sym, ap, ◌∙◌, subst, arith}
use Rattle.std.specs.Prelude.{codes}
use Rattle.std.specs.FinMap as map
use Rattle.std.specs.FinMap.{get-empty}
use Rattle.std.specs.Ordering.{nat_cmp}
use Rattle.std.proofs.lemmas.Cmp.{nat_cmp_total}
use Rattle.block_model.specs.declared.reply.Reply.TheVariants as replies
use Rattle.block_model.specs.declared.request.Entry.{Entry}
use Rattle.block_model.specs.declared.request.Request.TheVariants as requests
use Rattle.block_model.specs.DatabaseState.{DatabaseState, OpenTransaction, initial_state}
use Rattle.block_model.specs.NumberMaps.{get_put_here}
use Rattle.block_model.specs.RequestEffect.{Answer, Begun, after_begin, effect, effect_at, effect_is, new_transaction, reply_to}
use Rattle.block_model.specs.SerialRun.{serial_run, serial_run-append}
use Rattle.index_steps.specs.IndexTuples.{index_at}
use Rattle.script_semantics.specs.LineTexts.{Does, LastStep, Plain, Taken, dropped_at, outcome_text, submit_refusal, with_statement}
use Rattle.script_semantics.specs.Names.{dropped_of}
use Rattle.script_semantics.specs.Place.{Place, database_at, new_hand, updated}
use Rattle.script_semantics.specs.Requests.{Course, Enters, NoneLeft, OneMore, entered}
use Rattle.script_semantics.specs.Starts.{IsStart}
use Rattle.script_semantics.specs.StatementSteps as line
use Rattle.script_semantics.specs.StatementSteps.{AtOnce, Ended, Steps, numbers_of}
use Rattle.script_semantics.proofs.Bare.{no_move, updated_there}
use Rattle.script_semantics.proofs.OneStep.{refusal_is}
use Rattle.script_semantics.proofs.Orders.{updated_here}
use Rattle.query_words.specs.declared.line.Order.TheVariants as orders
use Rattle.store_layout.specs.declared.limits.TheConstants.{MAX_ENTRIES}
use Rattle.store_layout.specs.declared.statement.Statement.TheVariants as statements
use Rattle.store_layout.specs.StatementRequests.{begin_reply, request_entry, submission_refusal}
use Rattle.store_layout.specs.DiskLayout.{DiskLayout}
use Rattle.coverage.specs.Accounts.{Account, no_account}
use Rattle.script_laws.specs.RowLaws.{AScriptSummarizesItsRow}
use Rattle.script_laws.specs.Finds.{IsNewWithIndex, IsUnderWay}
use Rattle.script_laws.proofs.FirstRow.{a_new_row_is_summarized}
use Rattle.script_laws.proofs.Places.{updated_both}
use Rattle.script_laws.proofs.Said.{said_begun}

module _ (layout : DiskLayout) (p : Place) (start : IsStart layout p) (n : ℕ) (number : 1 < numbers_of layout) where
  state_is : database_at p ≡ initial_state
  state_is = ap (λ o. serial_run o p.journal) start.opening ∙ ap (serial_run initial_state) start.journal

  none_open : map.get (database_at p).sessions n ≡ None
  none_open = ap (λ (s : DatabaseState). map.get s.sessions n) state_is ∙ get-empty nat_cmp n

  abbrev e : Entry
  e = request_entry n 0 requests.Begin

  abbrev c : Course
  c = entered p.opening (record { journal = p.journal; answers = [] }) e

  abbrev q0 : Place
  q0 = with_statement p n statements.Begin

  abbrev pub begun : Place
  begun = record p { hands = updated p.hands n None; accounts = updated p.accounts n no_account; journal = c.journal }

  effect_so : effect (database_at p) e ≡ (after_begin (database_at p) n, Begun (database_at p).next)
  effect_so = effect_is (database_at p) e ∙ ap (λ o. effect_at o (database_at p) e) none_open

  next_is : (database_at p).next ≡ 1
  next_is = ap (λ (s : DatabaseState). s.next) state_is

  answer_is : reply_to (database_at p) e ≡ Begun 1
  answer_is = ap (λ (o : DatabaseState × Answer). o.1) effect_so ∙ ap Begun next_is

  room : length c.journal ≤ MAX_ENTRIES
  room = subst (λ (l : List Entry). length (l ++ e ∷ []) ≤ MAX_ENTRIES) (sym start.journal) (omega arith)

  begins : Steps q0 n (Ended (replies.Begun 1)) begun
  begins = record {
    hand = new_hand statements.Begin;
    in_hand = updated_here p.hands n (Some (new_hand statements.Begin));
    steps = AtOnce c (replies.Begun 1) begun (line.Begin (subst (λ (l : DiskLayout). (database_at p).next < numbers_of l) (sym start.layout_is) (subst (λ (k : ℕ). k < numbers_of layout) (sym next_is) number)))
        (OneMore _ c c (Enters e refl) (NoneLeft c refl)) (sym (ap (λ a. begin_reply (a ∷ [])) answer_is))
        (record { tables = λ i. ((p.tables i).counts, refl); accounts = refl; queue = refl })
        (record {
          layout = refl;
          opening = refl;
          names = refl;
          hand = updated_here p.hands n None;
          others = λ m. updated_both p.hands n (Some (new_hand statements.Begin)) None m;
          journal = refl;
        });
    fits = room;
  }

  is_taken : submit_refusal p n statements.Begin ≡ None
  is_taken = refusal_is p n statements.Begin (start.hands n) tt ∙ ap (λ o. submission_refusal o statements.Begin) none_open

  pub does_begin : (name : List ℕ) → Does p n name (orders.Whole statements.Begin) (name ++ codes " begun 1\n") begun
  does_begin name =
      let said : outcome_text name (dropped_at begun n) (Ended (replies.Begun 1)) ≡ name ++ codes " begun 1\n" =
      ap (λ (a : Account). outcome_text name (dropped_of p.layout a.dropped) (Ended (replies.Begun 1))) (updated_here p.accounts n no_account) ∙ said_begun name in
      subst (λ (o : List ℕ). Does p n name (orders.Whole statements.Begin) o begun) said
      (Plain statements.Begin (Ended (replies.Begun 1)) q0 begun (Taken is_taken) (LastStep q0 begun (Ended (replies.Begun 1)) (no_move (replies.Begun 1)) begins))

  abbrev pub x : OpenTransaction
  x = new_transaction initial_state

  under_way : map.get (database_at begun).sessions n ≡ Some x
  under_way =
      ap (λ (s : DatabaseState). map.get s.sessions n) (serial_run-append p.opening p.journal (e ∷ []) ∙ ap (λ (o : DatabaseState × Answer). o.0) effect_so
      ∙ ap (λ (s : DatabaseState). after_begin s n) state_is)
      ∙ get_put_here nat_cmp_total initial_state.sessions n x

  pub way : (t : ℕ) → IsNewWithIndex (p.tables t) → length c.journal < MAX_ENTRIES → IsUnderWay begun n t x
  way t new less = record { idle = updated_here p.hands n None; transaction = under_way; sound = refl; room = less; rests = new.new.resting n }

  pub more_room : length c.journal < MAX_ENTRIES
  more_room = subst (λ (l : List Entry). length (l ++ e ∷ []) < MAX_ENTRIES) (sym start.journal) (omega arith)

  pub idle_then : (m : ℕ) → begun.hands m ≡ None
  idle_then m = by (updated_there p.hands n None m)
    where
      by : (m ≡ n) ⊎ (updated p.hands n None m ≡ p.hands m) → updated p.hands n None m ≡ None
      by (inl is) = ap (updated p.hands n None) is ∙ updated_here p.hands n None
      by (inr same) = same ∙ start.hands m

pub a_script_summarizes_its_row : AScriptSummarizesItsRow
a_script_summarizes_its_row layout p n m index name other values start number stands new =
    let t = (index_at p.layout index).table in
    let so = a_new_row_is_summarized (begun layout p start n number) n m index name other (x layout p start n number) values stands
    (way layout p start n number t new (more_room layout p start n number)) new (idle_then layout p start n number m) in
    (begun layout p start n number, so.0, does_begin layout p start n number name, so.1.0, so.1.1)
