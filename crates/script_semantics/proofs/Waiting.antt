-- A step that waits, and one that ends its statement.
use Rattle.std.proofs.Common.{◌≡◌, ◌≢◌, inr, ℕ, List, None, Some, refl, sym, ◌∙◌, subst}
use Rattle.std.proofs.lemmas.Option.{same_Some}
use Rattle.block_model.specs.declared.reply.Point.{Point}
use Rattle.block_model.specs.declared.reply.Refusal.{Refusal}
use Rattle.block_model.specs.declared.reply.Refusal.TheVariants as refusals
use Rattle.block_model.specs.declared.reply.Reply.{Reply}
use Rattle.query_words.specs.declared.line.Order.TheVariants as orders
use Rattle.store_layout.specs.declared.statement.Statement.{Statement}
use Rattle.coverage.specs.Table.{Task, Resting, TableState}
use Rattle.coverage.specs.TablePoints.{WaitedFor, SummariseLock, PageLock, waits_for, IsHeldBy}
use Rattle.coverage.specs.TableSteps.{IsBlocked, SummariseLockHeld}
use Rattle.script_semantics.specs.Place.{Hand, Place, new_hand}
use Rattle.script_semantics.specs.Names.{name_of}
use Rattle.script_semantics.specs.StatementSteps.{Outcome, Moved, Ended, Waits, WaitsFor, Steps, StepsTo, what_of, Replies, MeetsConflict, IsRefused, AtOnce, NothingAsked, LacksMemoryAtOnce, NoNumber, IsWaiting}
use Rattle.script_semantics.specs.LineTexts.{Does, StepsOnce, Plain, Submits, LastStep}
use Rattle.script_semantics.specs.Laws.{IsHeldFrom, IsToldItsHolder, lock_text}
use Rattle.script_semantics.proofs.Orders.{taken_then}

idle_behind : (p : Place) (n : ℕ) (hand : Hand) (reply : Reply) (q : Place) → StepsTo p n hand (Ended reply) q → q.hands n ≡ None
idle_behind p n hand _ _ (Replies point c reply q turn is rests all replied leads) = leads.hand
idle_behind p n hand _ _ (MeetsConflict id c q turn is all replied leads) = leads.hand
idle_behind p n hand _ _ (IsRefused why tag told q turn is so leads) = leads.hand
idle_behind p n hand _ _ (AtOnce c reply q once all replied stay leads) = leads.hand
idle_behind p n hand _ _ (NothingAsked q work rest empty stay leads) = leads.hand
idle_behind p n hand _ _ (LacksMemoryAtOnce q looking rest stay leads) = leads.hand
idle_behind p n hand _ _ (NoNumber q begin next stay leads) = leads.hand

pub ended_is_idle : (p q : Place) (n : ℕ) (hand : Hand) (reply : Reply) → StepsTo p n hand (Ended reply) q → q.hands n ≡ None
ended_is_idle p q n hand reply step = idle_behind p n hand reply q step

stays_behind : (p : Place) (n : ℕ) (hand : Hand) (refusal : Refusal) (q : Place) → StepsTo p n hand (Waits refusal) q → q ≡ p
stays_behind p n hand _ _ (IsWaiting table told on own blocked waits) = refl

pub waiting_stays : (p q : Place) (n : ℕ) (hand : Hand) (refusal : Refusal) → StepsTo p n hand (Waits refusal) q → q ≡ p
waiting_stays p q n hand refusal step = stays_behind p n hand refusal q step

-- a lock has one holder
one_holder : (w : TableState) (waited : WaitedFor) (m n : ℕ) → IsHeldBy w waited m → IsHeldBy w waited n → m ≡ n
one_holder w SummariseLock m n one two = same_Some _ _ (sym one ∙ two)
one_holder w (PageLock at page) m n one two = same_Some _ _ (sym one ∙ two)

abbrev HoldsOther : Type 0
HoldsOther = (s : ℕ) (w : TableState) (task : Task) (blocked : IsBlocked w s task) → (n : ℕ) × IsHeldBy w (waits_for w s task blocked) n × (n ≢ s)

pub holder_behind : HoldsOther → (p : Place) (n : ℕ) (hand : Hand) (refusal : Refusal) (q : Place) → StepsTo p n hand (Waits refusal) q → IsToldItsHolder p n refusal
holder_behind holds p n hand _ _ (IsWaiting table told on own blocked waits) =
    let held = holds n (p.tables table) ((p.tables table).task n) blocked in
    record {
      table = table;
      waited = waits_for (p.tables table) n ((p.tables table).task n) blocked;
      by = waits.0;
      held = waits.1;
      other = λ same. held.2 (one_holder (p.tables table) _ held.0 waits.0 held.1 waits.1 ∙ same);
      told = waits.2;
    }

-- maintenance at its first step

blocked_at_rest : (w : TableState) (n m : ℕ) → w.summarise_lock ≡ Some m → m ≢ n → (task : Task) → task ≡ Resting
    → (blocked : IsBlocked w n task) × (waits_for w n task blocked ≡ SummariseLock)
blocked_at_rest w n m held other task rests =
    subst (λ t. (blocked : IsBlocked w n t) × (waits_for w n t blocked ≡ SummariseLock)) (sym rests) (SummariseLockHeld m held other, refl)

waits_step : (p : Place) (n m table : ℕ) (statement : Statement) → p.hands n ≡ Some (new_hand statement) → IsHeldFrom p n m table statement
    → Steps p n (Waits (refusals.Blocked (what_of p.layout table SummariseLock) (name_of p m))) p
waits_step p n m table statement in_hand from =
    let waiting = blocked_at_rest (p.tables table) n m from.held from.other ((p.tables table).task n) from.rests in
    let told = refusals.Blocked (what_of p.layout table SummariseLock) (name_of p m) in
    record {
      hand = new_hand statement;
      in_hand = in_hand;
      steps = IsWaiting table told from.on (inr from.takes) waiting.0 (subst (λ waited. WaitsFor p table waited told) (sym waiting.1) (m, from.held, refl));
      fits = from.fits;
    }

pub lock_blocks_step : (p : Place) (n m table : ℕ) (name : List ℕ) (statement : Statement) → p.hands n ≡ Some (new_hand statement) → IsHeldFrom p n m table statement
    → Does p n name orders.Step (lock_text p name table m) p
lock_blocks_step p n m table name statement in_hand from = StepsOnce _ p (waits_step p n m table statement in_hand from)

abbrev IsWait : Outcome → Type 0
IsWait (Waits refusal) = Unit {0}
IsWait outcome = ⊥

no_move : (refusal : Refusal) (point : Point) → Waits refusal ≡ Moved point → ⊥
no_move refusal point is = subst IsWait is tt

pub lock_blocks_plain : (p q : Place) (n m table : ℕ) (name : List ℕ) (statement : Statement) → Submits p n statement None q → IsHeldFrom q n m table statement
    → Does p n name (orders.Whole statement) (lock_text q name table m) q
lock_blocks_plain p q n m table name statement taken from =
    Plain statement _ q q taken (LastStep q q _ (no_move _) (waits_step q n m table statement (taken_then p n statement q taken) from))
