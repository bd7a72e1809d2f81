-- each part can be completed: whatever its lines are, `committed` may answer them all
use Rattle.std.proofs.Common.{ℕ, zero, suc, ◌*◌, Bool, true, false, List, [], ◌∷◌, ◌++◌, codes, refl, ap, inl}
use Rattle.block_model.specs.declared.reply.Reply.TheVariants as replies
use Rattle.demo_script.specs.declared.answer.Answer.TheVariants as answers
use Rattle.demo_script.specs.Conversation.{AreRounds, AreRows, Closes, IsRound, IsRow, Opens, Puts, Said, Says, StepsOn, each_session, keeper, rows_of_round}
use Rattle.demo_script.specs.DemoLines.{insert_line}
use Rattle.demo_script.specs.Saying.{LeavesKeeper}

-- some lines make a part of this kind
abbrev pub Some : (List Said → Type 0) → Type 0
Some P = (said : List Said) × P said

-- the line, answered so
abbrev pub committed : List ℕ → Said
committed line = record { line = line; answer = answers.Ended replies.Committed }

pub some_lines : (lines : List (List ℕ)) → Some (Says lines)
some_lines [] = ([], refl)
some_lines (line ∷ lines) =
    let rest = some_lines lines in
    (committed line ∷ rest.0, ap (λ (ls : List (List ℕ)). line ∷ ls) rest.1)

abbrev pub some_put : (seed row : ℕ) (busy : Bool) → Some (LeavesKeeper (Puts seed row busy))
some_put seed row busy = (committed (insert_line seed row) ∷ [], (busy, inl ((committed []).answer, refl, refl, refl)))

abbrev pub some_step : (busy : Bool) → Some (LeavesKeeper (StepsOn busy))
some_step false = ([], (false, (refl, refl)))
some_step true = (committed (keeper (codes "step")) ∷ [], (false, ((committed []).answer, refl, refl)))

pub some_row : (seed row : ℕ) (busy : Bool) → Some (LeavesKeeper (IsRow seed row busy))
some_row seed row busy =
    let put = some_put seed row busy in
    let step = some_step put.1.0 in
    (put.0 ++ step.0, (step.1.0, record { put = put.0; stepped = step.0; between = put.1.0; puts = put.1.1; steps = step.1.1; is = refl }))

pub some_rows : (seed row count : ℕ) (busy : Bool) → Some (LeavesKeeper (AreRows seed row count busy))
some_rows seed row zero busy = ([], (busy, (refl, refl)))
some_rows seed row (suc count) busy =
    let first = some_row seed row busy in
    let rest = some_rows seed (suc row) count first.1.0 in
    (first.0 ++ rest.0, (rest.1.0, (first.0, rest.0, first.1.0, first.1.1, rest.1.1, refl)))

abbrev pub some_opening : (round : ℕ) → Some (LeavesKeeper (Opens round))
some_opening zero = ([], (false, (refl, refl)))
some_opening (suc round) = (committed (keeper (codes "start summarize di")) ∷ [], (false, ((committed []).answer, refl, refl)))

abbrev pub some_closing : (busy : Bool) → Some (Closes busy)
some_closing false = ([], refl)
some_closing true = some_lines (keeper (codes "finish") ∷ [])

pub some_round : (seed rows round : ℕ) → Some (IsRound seed rows round)
some_round seed rows round =
    let opened = some_opening round in
    let begun = some_lines (each_session (codes "begin")) in
    let put = some_rows seed (400 * round) (rows_of_round rows round) opened.1.0 in
    let closed = some_closing put.1.0 in
    let ended = some_lines (each_session (codes "commit")) in (
      opened.0 ++ begun.0 ++ put.0 ++ closed.0 ++ ended.0,
      record {
        opened = opened.0;
        begun = begun.0;
        put = put.0;
        closed = closed.0;
        committed = ended.0;
        busy = opened.1.0;
        busy' = put.1.0;
        opens = opened.1.1;
        begins = begun.1;
        puts = put.1.1;
        closes = closed.1;
        commits = ended.1;
        is = refl;
      },
    )

pub some_rounds : (seed rows round count : ℕ) → Some (AreRounds seed rows round count)
some_rounds seed rows round zero = ([], refl)
some_rounds seed rows round (suc count) =
    let first = some_round seed rows round in
    let rest = some_rounds seed rows (suc round) count in
    (first.0 ++ rest.0, (first.0, rest.0, first.1, rest.1, refl))
