-- What holds of a place that is orderly holds behind each step, and behind each statement that is submitted.
use Rattle.std.proofs.Common.{◌≡◌, ◌≢◌, ◌⊎◌, inl, inr, ℕ, ◌<◌, eqb, true, false, List, length, Option, None, Some, if◌then◌else◌, refl, sym, ap, ◌∙◌, subst}
use Rattle.std.proofs.lemmas.Bool.Decides.{eqb_tells}
use Rattle.std.proofs.lemmas.List.Elements.{All-nil}
use Rattle.std.proofs.lemmas.Option.{none-some, same_Some}
use Rattle.block_model.specs.DatabaseState.{DatabaseState}
use Rattle.block_model.specs.declared.reply.Refusal.{Refusal}
use Rattle.store_layout.specs.declared.statement.Statement.{Statement}
use Rattle.store_layout.specs.declared.statement.Statement.TheVariants as statements
use Rattle.store_layout.specs.StatementFits.{IsStatementFor}
use Rattle.store_layout.specs.DiskLayout.{DiskLayout}
use Rattle.store_layout.specs.FirstBrokenRule.{KeepsLimits}
use Rattle.coverage.specs.Table.{Resting, TableState}
use Rattle.coverage.specs.TableCovered.{IsNewTable, IsTableAtRest, IsTableCovered, IsTableKept}
use Rattle.script_semantics.specs.LineTexts.{NotTaken, Submits, Taken, WantsMemory, in_hand_refusal, or_else, with_statement}
use Rattle.script_semantics.specs.Place.{Hand, Place, new_hand}
use Rattle.script_semantics.specs.Starts.{IsOpening, IsStart}
use Rattle.script_semantics.specs.StatementSteps.{AtOnce, Begin, Commit, GoesOn, IsAtOnce, IsRefused, IsWaiting, LacksMemoryAtOnce, MeetsConflict, NoNumber, NothingAsked, Outcome, Replies, Rollback, Steps, StepsTo}
use Rattle.script_laws.specs.Reached.{AtOpening, AtStart, BehindNames, BehindStep, BehindSubmit, IsReached}
use Rattle.script_laws.proofs.Calm.{calm, calmed, rest_calm, covered_calm}
use Rattle.script_laws.proofs.Fits.{AreOfTables, IsHome, IsOfTables}
use Rattle.script_laws.proofs.Orderly.{AreKept, IsOrderly, goes, orderly_then, over, rests, rests_nowhere, rests_still, stays, step_refused}

-- ---- steps

at_once_homeless : (layout : DiskLayout) (p : Place) (statement : Statement) → IsAtOnce p statement → (i : ℕ) → IsHome layout statement i → ⊥
at_once_homeless layout p _ (Begin fits) i home = home
at_once_homeless layout p _ Commit i home = home
at_once_homeless layout p _ Rollback i home = home

begin_homeless : (layout : DiskLayout) (statement : Statement) → statement ≡ statements.Begin → (i : ℕ) → IsHome layout statement i → ⊥
begin_homeless layout statement is i home = subst (λ st. IsHome layout st i) is home

-- a statement is taken only where none is in hand
pub nothing_first : (hand : Option Hand) (second : Option Refusal) → or_else (in_hand_refusal hand) second ≡ None → hand ≡ None
nothing_first None second none = refl
nothing_first (Some hand) second none = absurd (none-some _ (sym none))

-- a table that a script begins with is kept: a new one, and one of a store that was opened
pub record BeginKept : Type 0 where
  pub new : (w : TableState) → IsNewTable w → IsTableKept w
  pub opened : (w : TableState) → IsTableCovered w → IsTableAtRest w → IsTableKept w

module _ (keeps : AreKept) (layout : DiskLayout) (limits : KeepsLimits layout.schema layout.sizes) where
  orderly_step : (p : Place) (n : ℕ) (hand : Hand) (outcome : Outcome) (q : Place) → IsOrderly layout p → p.hands n ≡ Some hand → StepsTo p n hand outcome q → IsOrderly layout q
  orderly_step p n hand _ _ o has (GoesOn point c q turn is more makes leads) =
      orderly_then keeps layout limits p q n hand o has (Some (record hand { answers = c.answers })) c.journal (goes keeps layout limits p q n hand o has turn (inl (point, is))) leads
      (λ h same. ap (λ (x : Hand). x.statement) (sym (same_Some _ _ same))) (λ none. absurd (none-some _ (sym none)))
  orderly_step p n hand _ _ o has (Replies point c reply q turn is rest makes says leads) =
      over keeps layout limits p q n hand o has c.journal (goes keeps layout limits p q n hand o has turn (inl (point, is))) leads (rests keeps layout limits p q n hand o has turn rest)
  orderly_step p n hand _ _ o has (MeetsConflict id c q turn is makes says leads) =
      over keeps layout limits p q n hand o has c.journal (goes keeps layout limits p q n hand o has turn (inr (_, is))) leads
      (rests keeps layout limits p q n hand o has turn (step_refused n (p.tables turn.table) (q.tables turn.table) _ turn.step is))
  orderly_step p n hand _ _ o has (IsRefused why tag told q turn is so leads) =
      over keeps layout limits p q n hand o has _ (goes keeps layout limits p q n hand o has turn (inr (why, is))) leads
      (rests keeps layout limits p q n hand o has turn (step_refused n (p.tables turn.table) (q.tables turn.table) why turn.step is))
  orderly_step p n hand _ _ o has (AtOnce c reply q once makes says stay leads) =
      over keeps layout limits p q n hand o has c.journal (stays keeps layout limits p q n hand o has stay) leads
      (rests_nowhere keeps layout limits p q n hand o has (at_once_homeless layout p hand.statement once) stay)
  orderly_step p n hand _ _ o has (NothingAsked q work rest none stay leads) =
      over keeps layout limits p q n hand o has _ (stays keeps layout limits p q n hand o has stay) leads (rests_still keeps layout limits p q n hand o has rest stay)
  orderly_step p n hand _ _ o has (LacksMemoryAtOnce q looking rest stay leads) =
      over keeps layout limits p q n hand o has _ (stays keeps layout limits p q n hand o has stay) leads (rests_still keeps layout limits p q n hand o has rest stay)
  orderly_step p n hand _ _ o has (NoNumber q begin full stay leads) =
      over keeps layout limits p q n hand o has _ (stays keeps layout limits p q n hand o has stay) leads
      (rests_nowhere keeps layout limits p q n hand o has (begin_homeless layout hand.statement begin) stay)
  orderly_step p n hand _ _ o has (IsWaiting table told on own blocked waits) = o

  orderly_steps : (p : Place) (n : ℕ) (outcome : Outcome) (q : Place) → IsOrderly layout p → Steps p n outcome q → IsOrderly layout q
  orderly_steps p n outcome q o step = orderly_step p n step.hand outcome q o step.in_hand step.steps

  -- ---- statements

  module _ (p : Place) (n : ℕ) (statement : Statement) (o : IsOrderly layout p) (fit : IsStatementFor layout.schema statement) (empty : p.hands n ≡ None) where
    hand_of : (m : ℕ) → ((m ≡ n) × ((with_statement p n statement).hands m ≡ Some (new_hand statement))) ⊎ ((with_statement p n statement).hands m ≡ p.hands m)
    hand_of m = by (eqb_tells m n)
      where
        by : ((eqb m n ≡ true) × (m ≡ n)) ⊎ ((eqb m n ≡ false) × (m ≢ n)) → ((m ≡ n) × ((with_statement p n statement).hands m ≡ Some (new_hand statement))) ⊎ ((with_statement p n statement).hands m ≡ p.hands m)
        by (inl is) = inl (is.1, ap (λ b. if b then Some (new_hand statement) else p.hands m) is.0)
        by (inr not) = inr (ap (λ b. if b then Some (new_hand statement) else p.hands m) not.0)

    orderly_taken : IsOrderly layout (with_statement p n statement)
    orderly_taken = record {
      same = o.same;
      kept = o.kept;
      idle = λ m i none below. idle_by m i none below (hand_of m);
      fits = λ m h has. fits_by m h has (hand_of m);
      home = λ m i h has below. home_by m i h has below (hand_of m);
      alone = o.alone;
      asked = o.asked;
    }
      where
        idle_by : (m i : ℕ) → (with_statement p n statement).hands m ≡ None → i < length layout.schema.tables
            → ((m ≡ n) × ((with_statement p n statement).hands m ≡ Some (new_hand statement))) ⊎ ((with_statement p n statement).hands m ≡ p.hands m) → (p.tables i).task m ≡ Resting
        idle_by m i none below (inl is) = absurd (none-some _ (sym none ∙ is.1))
        idle_by m i none below (inr same) = o.idle m i (sym same ∙ none) below

        fits_by : (m : ℕ) (h : Hand) → (with_statement p n statement).hands m ≡ Some h
            → ((m ≡ n) × ((with_statement p n statement).hands m ≡ Some (new_hand statement))) ⊎ ((with_statement p n statement).hands m ≡ p.hands m) → IsStatementFor layout.schema h.statement
        fits_by m h has (inl is) = subst (λ (x : Hand). IsStatementFor layout.schema x.statement) (same_Some _ _ (sym is.1 ∙ has)) fit
        fits_by m h has (inr same) = o.fits m h (sym same ∙ has)

        home_by : (m i : ℕ) (h : Hand) → (with_statement p n statement).hands m ≡ Some h → i < length layout.schema.tables
            → ((m ≡ n) × ((with_statement p n statement).hands m ≡ Some (new_hand statement))) ⊎ ((with_statement p n statement).hands m ≡ p.hands m) → ((p.tables i).task m ≡ Resting) ⊎ IsHome layout h.statement i
        home_by m i h has below (inl is) = inl (ap (p.tables i).task is.0 ∙ o.idle n i empty below)
        home_by m i h has below (inr same) = o.home m i h (sym same ∙ has) below

  orderly_submit : (p : Place) (n : ℕ) (statement : Statement) (told : Option Refusal) (q : Place) → IsOrderly layout p → IsStatementFor layout.schema statement → Submits p n statement told q → IsOrderly layout q
  orderly_submit p n statement _ _ o fit (Taken none) = orderly_taken p n statement o fit (nothing_first (p.hands n) _ none)
  orderly_submit p n statement _ _ o fit (NotTaken refusal because) = o
  orderly_submit p n statement _ _ o fit (WantsMemory none may) = o

  -- ---- names

  orderly_named : (p : Place) (names : List (List ℕ)) → IsOrderly layout p → IsOrderly layout (record p { names = names })
  orderly_named p names o = record { same = o.same; kept = o.kept; idle = o.idle; fits = o.fits; home = o.home; alone = o.alone; asked = o.asked }

  -- ---- the first place

  new_calm : (w : TableState) → IsNewTable w → IsNewTable (calm w)
  new_calm w new = record {
    resting = λ s. ap calmed (new.resting s);
    free = new.free;
    row = new.row;
    entry = new.entry;
    tuple = new.tuple;
    lock = new.lock;
    unnamed = new.unnamed;
    pages = new.pages;
    lawful = new.lawful;
    ranged = new.ranged;
  }

  orderly_start : ((w : TableState) → IsNewTable w → IsTableKept w) → (p : Place) → IsStart layout p → IsOrderly layout p
  orderly_start kept p start = record {
    same = start.layout_is;
    kept = λ i below. kept (calm (p.tables i)) (new_calm (p.tables i) (start.new i below));
    idle = λ n i none below. (start.new i below).resting n;
    fits = λ n hand has. absurd (none-some _ (sym (start.hands n) ∙ has));
    home = λ n i hand has below. absurd (none-some _ (sym (start.hands n) ∙ has));
    alone = λ n i j low less. inl ((start.new i low).resting n);
    asked = subst (AreOfTables layout) (sym start.queue) (All-nil (IsOfTables layout));
  }

  orderly_opening : ((w : TableState) → IsTableCovered w → IsTableAtRest w → IsTableKept w) → (opening : DatabaseState) (p : Place) → IsOpening layout opening p → IsOrderly layout p
  orderly_opening kept opening p start = record {
    same = start.layout_is;
    kept = λ i below. kept (calm (p.tables i)) (covered_calm (p.tables i) (start.covered i below) (start.rest i below)) (rest_calm (p.tables i) (start.rest i below));
    idle = λ n i none below. (start.rest i below).resting n;
    fits = λ n hand has. absurd (none-some _ (sym (start.hands n) ∙ has));
    home = λ n i hand has below. absurd (none-some _ (sym (start.hands n) ∙ has));
    alone = λ n i j low less. inl ((start.rest i low).resting n);
    asked = subst (AreOfTables layout) (sym start.queue) (All-nil (IsOfTables layout));
  }

  pub reached_is_orderly : BeginKept → (p : Place) → IsReached layout p → IsOrderly layout p
  reached_is_orderly kept _ (AtStart p start) = orderly_start kept.new p start
  reached_is_orderly kept _ (AtOpening opening p start) = orderly_opening kept.opened opening p start
  reached_is_orderly kept _ (BehindNames p names reached) = orderly_named p names (reached_is_orderly kept p reached)
  reached_is_orderly kept _ (BehindSubmit p q n statement told reached fits submits) = orderly_submit p n statement told q (reached_is_orderly kept p reached) fits submits
  reached_is_orderly kept _ (BehindStep p q n outcome reached step) = orderly_steps p n outcome q (reached_is_orderly kept p reached) step
