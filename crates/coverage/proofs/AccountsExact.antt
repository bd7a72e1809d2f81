-- What a step adds to accounts and queue is one thing, and the queue keeps its order and its limit.
use Rattle.std.proofs.Common.{◌≡◌, ◌⊎◌, inl, inr, ℕ, ◌+◌, ◌≤◌, ◌<◌, Option, Some, List, [], ◌∷◌, ◌++◌, length, sym, ◌∙◌, ap, subst, arith, length-append}
use Rattle.std.proofs.lemmas.Option.{none-some}
use Rattle.std.proofs.Math.Nat.{not-le_of_lt}
use Rattle.block_model.specs.declared.reply.Point.{Point}
use Rattle.block_model.specs.declared.place.Spot.{Spot}
use Rattle.coverage.specs.Counts.{HasGone}
use Rattle.coverage.proofs.Counted.{count_once}
use Rattle.coverage.specs.Table.{Task, TableState}
use Rattle.coverage.specs.TableSteps.{BeginsWith, Work, Does, AsksSummary, TakesLock, PrunesBlock, SweepsPage, Transacts, range_in}
use Rattle.coverage.specs.TablePoints.{does_point}
use Rattle.coverage.specs.Accounts.{Asked, queue_limit, Account, no_account, Accounts, AccountIs, Asking, HasEntry, Joins, IsDropped, Begins, AsksElsewhere}
use Rattle.coverage.specs.Accounts.{QueueStays, JoinsElsewhere, TakenElsewhere, Adds, AccountsStep}

-- the queue, and the account of the session that steps
abbrev SameOwn : ℕ → Accounts → Accounts → Type 0
SameOwn s b c = (b.queue ≡ c.queue) × (b.of s ≡ c.of s)

module _ (s : ℕ) (a b c : Accounts) where
  is_once : (now : Account) → AccountIs s a b now → AccountIs s a c now → SameOwn s b c
  is_once now one two = (one.queue ∙ sym two.queue, one.account ∙ sym two.account)

  asking_once : (asked : Asked) (entry : Option Spot) → Asking s a b asked entry → Asking s a c asked entry → SameOwn s b c
  asking_once asked _ (HasEntry x one) (HasEntry _ two) = is_once (a.of s) one two
  asking_once asked _ (Joins less queue account) (Joins less' queue' account') = (queue ∙ sym queue', account ∙ sym account')
  asking_once asked _ (Joins less queue account) (IsDropped full two) = absurd (not-le_of_lt less full)
  asking_once asked _ (IsDropped full one) (Joins less queue account) = absurd (not-le_of_lt less full)
  asking_once asked _ (IsDropped full one) (IsDropped full' two) = is_once _ one two

  rest_once : (first : Asked) (q : List Asked) → a.queue ≡ first ∷ q → (r : List Asked) → a.queue ≡ first ∷ r → q ≡ r
  rest_once first q one r two = rest_of (first ∷ q) (first ∷ r) (sym one ∙ two)
    where
      tail_of : List Asked → List Asked
      tail_of [] = []
      tail_of (x ∷ l) = l

      rest_of : (l m : List Asked) → l ≡ m → tail_of l ≡ tail_of m
      rest_of l m e = ap tail_of e

  begins_once : (w : TableState) (first : Task) (begins : BeginsWith w first) → Begins s w first begins a b → Begins s w first begins a c → SameOwn s b c
  begins_once w _ (Work at only below) one two = (rest_once _ b.queue one.1 c.queue two.1, one.0 ∙ sym two.0)
  begins_once w _ _ one two = is_once no_account one two

  before_once : (n m k : ℕ) → k ≡ n + 1 → k ≡ m + 1 → n ≡ m
  before_once n m k one two = omega arith

  adds_once : (w v : TableState) (does : Does s w v) (p : Point) → does_point s w v does ≡ Some p → Adds s w v does a b → Adds s w v does a c → SameOwn s b c
  adds_once w v (AsksSummary d k r at turns only) p is one two =
      let same = before_once one.0 two.0 (range_in w at d) one.1 two.1 in
      asking_once (record { table = a.table; at = at; range = one.0 }) ((w.index at).entry one.0) one.2
      (subst (λ m. Asking s a c (record { table = a.table; at = at; range = m }) ((w.index at).entry m)) (sym same) two.2)
  adds_once w v (TakesLock first begins turns free held rows indexes) p is one two = begins_once w first begins one two
  adds_once w v (PrunesBlock extent next dropped inside spared turns drops) p is one two =
      let same = count_once (λ k. HasGone (w.row next k) (v.row next k)) one.0 two.0 one.1 two.1 in
      is_once _ one.2 (subst (λ n. AccountIs s a c (record (a.of s) { rows = (a.of s).rows + n })) (sym same) two.2)
  adds_once w v (SweepsPage at page turns stepped sweeps) p is one two =
      let same = count_once (λ k. HasGone ((w.index at).tuple (record { block = page; slot = k })) ((v.index at).tuple (record { block = page; slot = k })))
      one.0 two.0 one.1 two.1 in
      is_once _ one.2 (subst (λ n. AccountIs s a c (record (a.of s) { unnamed = (a.of s).unnamed + n })) (sym same) two.2)
  adds_once w v (Transacts counts resting few same) p is one two = absurd (none-some _ is)
  adds_once w v _ p is one two = is_once _ one two

pub accounts_once : (s : ℕ) (w v : TableState) (does : Does s w v) (p : Point) (a b c : Accounts) → does_point s w v does ≡ Some p
    → AccountsStep s w v does a b → AccountsStep s w v does a c → SameOwn s b c
accounts_once s w v does p a b c is one two = adds_once s a b c w v does p is one.adds two.adds

-- what becomes of a queue: it stays; a request joins at its end, below the limit; or the first one is taken
pub data QueueGoes (old new : List Asked) : Type 0 where
  Stays : new ≡ old → QueueGoes old new
  JoinsEnd : (asked : Asked) → length old < queue_limit → new ≡ old ++ (asked ∷ []) → QueueGoes old new
  FirstGoes : (asked : Asked) → old ≡ asked ∷ new → QueueGoes old new

module _ (s : ℕ) (a b : Accounts) where
  asking_goes : (asked : Asked) (entry : Option Spot) → Asking s a b asked entry → QueueGoes a.queue b.queue
  asking_goes asked _ (HasEntry x one) = Stays one.queue
  asking_goes asked _ (Joins less queue account) = JoinsEnd asked less queue
  asking_goes asked _ (IsDropped full one) = Stays one.queue

  begins_goes : (w : TableState) (first : Task) (begins : BeginsWith w first) → Begins s w first begins a b → QueueGoes a.queue b.queue
  begins_goes w _ (Work at only below) one = FirstGoes _ one.1
  begins_goes w _ _ one = Stays one.queue

  elsewhere_goes : AsksElsewhere a b → QueueGoes a.queue b.queue
  elsewhere_goes (QueueStays same) = Stays same
  elsewhere_goes (JoinsElsewhere asked apart less queue) = JoinsEnd asked less queue
  elsewhere_goes (TakenElsewhere asked apart queue) = FirstGoes asked queue

  adds_goes : (w v : TableState) (does : Does s w v) → Adds s w v does a b → QueueGoes a.queue b.queue
  adds_goes w v (AsksSummary d k r at turns only) one = asking_goes _ _ one.2
  adds_goes w v (TakesLock first begins turns free held rows indexes) one = begins_goes w first begins one
  adds_goes w v (PrunesBlock extent next dropped inside spared turns drops) one = Stays one.2.queue
  adds_goes w v (SweepsPage at page turns stepped sweeps) one = Stays one.2.queue
  adds_goes w v (Transacts counts resting few same) one = elsewhere_goes one
  adds_goes w v _ one = Stays one.queue

pub queue_in_order : (s : ℕ) (w v : TableState) (does : Does s w v) (a b : Accounts) → AccountsStep s w v does a b
    → (b.queue ≡ a.queue) ⊎ ((asked : Asked) × (b.queue ≡ a.queue ++ (asked ∷ []))) ⊎ ((asked : Asked) × (a.queue ≡ asked ∷ b.queue))
queue_in_order s w v does a b step = by (adds_goes s a b w v does step.adds)
  where
    by : QueueGoes a.queue b.queue → (b.queue ≡ a.queue) ⊎ ((asked : Asked) × (b.queue ≡ a.queue ++ (asked ∷ []))) ⊎ ((asked : Asked) × (a.queue ≡ asked ∷ b.queue))
    by (Stays same) = inl same
    by (JoinsEnd asked less queue) = inr (inl (asked, queue))
    by (FirstGoes asked queue) = inr (inr (asked, queue))

pub queue_within : (s : ℕ) (w v : TableState) (does : Does s w v) (a b : Accounts) → AccountsStep s w v does a b → length a.queue ≤ queue_limit
    → length b.queue ≤ queue_limit
queue_within s w v does a b step within = by (adds_goes s a b w v does step.adds)
  where
    shorter : (n : ℕ) → n + 1 ≤ queue_limit → n ≤ queue_limit
    shorter n le = omega arith

    by : QueueGoes a.queue b.queue → length b.queue ≤ queue_limit
    by (Stays same) = subst (λ q. length q ≤ queue_limit) (sym same) within
    by (JoinsEnd asked less queue) =
        subst (λ n. n ≤ queue_limit) (sym (ap length queue ∙ length-append a.queue (asked ∷ []))) (omega arith)
    by (FirstGoes asked queue) = omega (arith, ap length queue, within)
