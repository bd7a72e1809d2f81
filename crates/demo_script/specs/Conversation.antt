-- The demo's script. Which line comes next hangs on what the lines before it were answered, so it is said of a whole conversation.
use Rattle.std.specs.Prelude.{◌≡◌, ◌⊎◌, ℕ, zero, suc, ◌+◌, ◌-◌, ◌*◌, ◌/◌, min, Bool, true, false, List, [], ◌∷◌, ◌++◌, map, codes}
use Rattle.block_model.specs.declared.reply.Refusal.TheVariants as refusals
use Rattle.demo_script.specs.declared.answer.Answer.{Answer}
use Rattle.demo_script.specs.declared.answer.Answer.TheVariants as answers
use Rattle.demo_script.specs.DemoLines.{insert_line, line, middle_conditions, select_line, session_of}

-- a line, and what it was answered
pub record Said : Type 0 where
  pub line : List ℕ
  pub answer : Answer

-- the session that said so has a statement in hand: it was started, or moved, or waits
abbrev pub has_hand : Answer → Bool
has_hand answers.Started = true
has_hand (answers.Moved point) = true
has_hand (answers.Ended reply) = false
has_hand (answers.Refused (refusals.Blocked what holder)) = true
has_hand (answers.Refused refusals.InHand) = true
has_hand (answers.Refused refusal) = false

-- another session holds what it needs
abbrev pub is_blocked : Answer → Bool
is_blocked (answers.Refused (refusals.Blocked what holder)) = true
is_blocked answer = false

-- the keeper, which makes summaries, and its lines
abbrev pub keeper : List ℕ → List ℕ
keeper words = line (codes "m") words

-- ---- one row

-- The keeper makes a step where it has a statement in hand. The truth values say whether it has one before and behind.
abbrev pub StepsOn : Bool → List Said → Bool → Type 0
StepsOn false said busy = (said ≡ []) × (busy ≡ false)
StepsOn true said busy = (answer : Answer) × (said ≡ record { line = keeper (codes "step"); answer = answer } ∷ []) × (busy ≡ has_hand answer)

-- The insert of a row; one that is blocked is followed by the finish of the keeper's statement, and then by that of its own.
pub record PutsBlocked (seed row : ℕ) (said : List Said) (busy' : Bool) : Type 0 where
  pub first : Answer
  pub kept : Answer
  pub own : Answer
  pub blocked : is_blocked first ≡ true
  pub is : said ≡ record { line = insert_line seed row; answer = first } ∷ record { line = keeper (codes "finish"); answer = kept } ∷ record { line = line (session_of row) (codes "finish"); answer = own } ∷ []
  pub busy : busy' ≡ has_hand kept

abbrev pub Puts : ℕ → ℕ → Bool → List Said → Bool → Type 0
Puts seed row busy said busy' =
    ((answer : Answer) × (is_blocked answer ≡ false) × (said ≡ record { line = insert_line seed row; answer = answer } ∷ []) × (busy' ≡ busy)) ⊎ PutsBlocked seed row said busy'

-- a row is put, and the keeper steps on
pub record IsRow (seed row : ℕ) (busy : Bool) (said : List Said) (busy' : Bool) : Type 0 where
  pub put : List Said
  pub stepped : List Said
  pub between : Bool
  pub puts : Puts seed row busy put between
  pub steps : StepsOn between stepped busy'
  pub is : said ≡ put ++ stepped

-- so many rows, one after the other
abbrev pub AreRows : ℕ → ℕ → ℕ → Bool → List Said → Bool → Type 0
AreRows seed row zero busy said busy' = (said ≡ []) × (busy' ≡ busy)
AreRows seed row (suc count) busy said busy' =
    (first : List Said) × (rest : List Said) × (between : Bool) × IsRow seed row busy first between × AreRows seed (suc row) count between rest busy' × (said ≡ first ++ rest)

-- ---- one round

-- these lines are said one after the other, whatever they are answered
abbrev pub Says : List (List ℕ) → List Said → Type 0
Says lines said = map (λ (s : Said). s.line) said ≡ lines

-- the same words of each of the four sessions
abbrev pub each_session : List ℕ → List (List ℕ)
each_session words = line (codes "d0") words ∷ line (codes "d1") words ∷ line (codes "d2") words ∷ line (codes "d3") words ∷ []

-- from the second round on the keeper starts a summarize first
abbrev pub Opens : ℕ → List Said → Bool → Type 0
Opens zero said busy = (said ≡ []) × (busy ≡ false)
Opens (suc round) said busy = (answer : Answer) × (said ≡ record { line = keeper (codes "start summarize di"); answer = answer } ∷ []) × (busy ≡ has_hand answer)

-- at its end the keeper finishes what it has in hand
abbrev pub Closes : Bool → List Said → Type 0
Closes false said = said ≡ []
Closes true said = Says (keeper (codes "finish") ∷ []) said

-- the rows of a round, up to 400 of those that are left
abbrev pub rows_of_round : ℕ → ℕ → ℕ
rows_of_round rows round = min 400 (rows - 400 * round)

pub record IsRound (seed rows round : ℕ) (said : List Said) : Type 0 where
  pub opened : List Said
  pub begun : List Said
  pub put : List Said
  pub closed : List Said
  pub committed : List Said
  pub busy : Bool
  pub busy' : Bool
  pub opens : Opens round opened busy
  pub begins : Says (each_session (codes "begin")) begun
  pub puts : AreRows seed (400 * round) (rows_of_round rows round) busy put busy'
  pub closes : Closes busy' closed
  pub commits : Says (each_session (codes "commit")) committed
  pub is : said ≡ opened ++ begun ++ put ++ closed ++ committed

-- so many rounds, one after the other
abbrev pub AreRounds : ℕ → ℕ → ℕ → ℕ → List Said → Type 0
AreRounds seed rows round zero said = said ≡ []
AreRounds seed rows round (suc count) said =
    (first : List Said) × (rest : List Said) × IsRound seed rows round first × AreRounds seed rows (suc round) count rest × (said ≡ first ++ rest)

-- ---- the whole

-- the four selects
abbrev pub selects : ℕ → List (List ℕ)
selects rows = select_line (middle_conditions rows) ∷ select_line (codes "v = 7") ∷ select_line (codes "r @> [500,501)") ∷ select_line (codes "a = 10.0.0.7") ∷ []

-- behind the last round: what is summarized and vacuumed, four selects, an explain of the first one's conditions
abbrev pub last_lines : ℕ → List (List ℕ)
last_lines rows =
    (keeper (codes "summarize di") ∷ keeper (codes "vacuum d") ∷ codes "d0 begin" ∷ []) ++ selects rows
    ++ (codes "d0 explain d where " ++ middle_conditions rows) ∷ codes "d0 commit" ∷ []

-- as many rounds as there are rows for
abbrev pub rounds_of : ℕ → ℕ
rounds_of rows = (rows + 399) / 400

-- the rounds, and what comes behind them
pub record IsDemo (seed rows : ℕ) (rounds last : List Said) : Type 0 where
  pub are_rounds : AreRounds seed rows 0 (rounds_of rows) rounds
  pub are_last : Says (last_lines rows) last

-- lines that are said first in some demo
pub record IsDemoFront (seed rows : ℕ) (said : List Said) : Type 0 where
  pub rounds : List Said
  pub last : List Said
  pub rest : List Said
  pub demo : IsDemo seed rows rounds last
  pub is : said ++ rest ≡ rounds ++ last
