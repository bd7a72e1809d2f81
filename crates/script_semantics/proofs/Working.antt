-- What work answers, and which request it takes.
use Rattle.std.proofs.Common.{◌≡◌, ◌↔◌, ◌<◌, inl, inr, ℕ, Bool, true, false, List, [], ◌∷◌, length, slice_get, Option, Some, refl, sym, ap, ◌∙◌, subst}
use Rattle.std.proofs.lemmas.Bool.{false≢true}
use Rattle.std.proofs.lemmas.Option.{none-some}
use Rattle.block_model.specs.declared.reply.Point.{Point}
use Rattle.block_model.specs.declared.reply.Reply.{Reply}
use Rattle.block_model.specs.declared.reply.Reply.TheVariants as replies
use Rattle.store_layout.specs.DiskLayout.{DiskLayout}
use Rattle.store_layout.specs.declared.statement.Statement.{Statement}
use Rattle.store_layout.specs.declared.statement.Statement.TheVariants as statements
use Rattle.coverage.specs.Accounts.{Asked}
use Rattle.coverage.specs.Table.{OneRange, Task, Resting, Considers}
use Rattle.script_semantics.specs.Place.{Place, new_hand}
use Rattle.script_semantics.specs.Beginnings.{IsAtRest, IsWorkIn, TakesUp}
use Rattle.script_semantics.specs.StatementSteps.{Outcome, Moved, Ended, work_reply, StepsTo, GoesOn, Replies, MeetsConflict, IsRefused, AtOnce, NothingAsked, LacksMemoryAtOnce, NoNumber, IsWaiting}

abbrev is_none : Outcome → Bool
is_none (Ended replies.Idle) = true
is_none outcome = false

abbrev is_no_work : Option Reply → Bool
is_no_work (Some replies.Idle) = true
is_no_work reply = false

work_tells : (layout : DiskLayout) (table : ℕ) (task : Task) (count : ℕ) → is_no_work (work_reply layout table task count) ≡ false
work_tells layout table (Considers (OneRange extent only) at range) count = refl
work_tells layout table task count = refl

same_none : (reply : Reply) → is_none (Ended reply) ≡ is_no_work (Some reply)
same_none replies.Idle = refl
same_none reply = refl

abbrev IsWork : Statement → Type 0
IsWork statements.Work = Unit {0}
IsWork statement = ⊥

nowhere : (p : Place) (n i : ℕ) → IsAtRest p n → p.queue ≡ [] → IsWorkIn p n i → ⊥
nowhere p n i rest empty (inl busy) = busy.1 (rest i busy.0)
nowhere p n i rest empty (inr first) = none-some _ (sym (ap (λ (l : List Asked). slice_get l 0) empty) ∙ first.1.1)

empty_gives_none : (p : Place) (n : ℕ) (outcome : Outcome) (q : Place) → IsAtRest p n → p.queue ≡ [] → StepsTo p n (new_hand statements.Work) outcome q
    → outcome ≡ Ended replies.Idle
empty_gives_none p n _ _ rest empty (GoesOn point c q turn named on made leads) = absurd (nowhere p n turn.table rest empty turn.on)
empty_gives_none p n _ _ rest empty (Replies point c reply q turn named rests all replied leads) = absurd (nowhere p n turn.table rest empty turn.on)
empty_gives_none p n _ _ rest empty (MeetsConflict id c q turn named all replied leads) = absurd (nowhere p n turn.table rest empty turn.on)
empty_gives_none p n _ _ rest empty (IsRefused why tag told q turn named so leads) = absurd (nowhere p n turn.table rest empty turn.on)
empty_gives_none p n _ _ rest empty (AtOnce c reply q once all replied stay leads) = elim once [ ]
empty_gives_none p n _ _ rest empty (NothingAsked q work still none stay leads) = refl
empty_gives_none p n _ _ rest empty (LacksMemoryAtOnce q lacks still stay leads) = absurd (none-some _ (sym (ap (λ (l : List Asked). slice_get l 0) empty) ∙ lacks.1))
empty_gives_none p n _ _ rest empty (NoNumber q begin next stay leads) = absurd (subst IsWork begin tt)
empty_gives_none p n _ _ rest empty (IsWaiting table told on own blocked waits) = absurd (nowhere p n table rest empty on)

none_is_empty : (p : Place) (n : ℕ) (outcome : Outcome) (q : Place) → is_none outcome ≡ true → StepsTo p n (new_hand statements.Work) outcome q → p.queue ≡ []
none_is_empty p n _ _ is (GoesOn point c q turn named on made leads) = absurd (false≢true is)
none_is_empty p n _ _ is (Replies point c reply q turn named rests all replied leads) =
    absurd (false≢true (sym (work_tells p.layout turn.table (turn.step.between.task n) (q.accounts n).ranges) ∙ ap is_no_work (sym replied) ∙ sym (same_none reply) ∙ is))
none_is_empty p n _ _ is (MeetsConflict id c q turn named all replied leads) = absurd (false≢true is)
none_is_empty p n _ _ is (IsRefused why tag told q turn named so leads) = absurd (false≢true is)
none_is_empty p n _ _ is (AtOnce c reply q once all replied stay leads) = elim once [ ]
none_is_empty p n _ _ is (NothingAsked q work still none stay leads) = none
none_is_empty p n _ _ is (LacksMemoryAtOnce q lacks still stay leads) = absurd (false≢true is)
none_is_empty p n _ _ is (NoNumber q begin next stay leads) = absurd (subst IsWork begin tt)
none_is_empty p n _ _ is (IsWaiting table told on own blocked waits) = absurd (false≢true is)

pub none_where_empty : (p q : Place) (n : ℕ) (outcome : Outcome) → IsAtRest p n → StepsTo p n (new_hand statements.Work) outcome q
    → (outcome ≡ Ended replies.Idle) ↔ (p.queue ≡ [])
none_where_empty p q n outcome rest step = ((λ is. none_is_empty p n outcome q (ap is_none is) step), (λ empty. empty_gives_none p n outcome q rest empty step))

takes_at_rest : (task : Task) (before after : List Asked) → task ≡ Resting → TakesUp statements.Work task before after → (asked : Asked) × (before ≡ asked ∷ after)
takes_at_rest task before after is takes = subst (λ t. TakesUp statements.Work t before after) is takes

rests_in : (p : Place) (n i : ℕ) → IsAtRest p n → ((asked : Asked) → slice_get p.queue 0 ≡ Some asked → asked.table < length p.layout.schema.tables) → IsWorkIn p n i
    → (p.tables i).task n ≡ Resting
rests_in p n i rest declared (inl busy) = rest i busy.0
rests_in p n i rest declared (inr first) = rest i (subst (λ t. t < length p.layout.schema.tables) first.1.2 (declared first.1.0 first.1.1))

first_is_taken : (p : Place) (n : ℕ) (point : Point) (q : Place) → IsAtRest p n
    → ((asked : Asked) → slice_get p.queue 0 ≡ Some asked → asked.table < length p.layout.schema.tables) → StepsTo p n (new_hand statements.Work) (Moved point) q
    → (asked : Asked) × (p.queue ≡ asked ∷ q.queue)
first_is_taken p n _ _ rest declared (GoesOn point c q turn named on made leads) =
    takes_at_rest ((p.tables turn.table).task n) p.queue q.queue (rests_in p n turn.table rest declared turn.on) turn.takes

pub work_takes_the_first : (p q : Place) (n : ℕ) (point : Point) → IsAtRest p n
    → ((asked : Asked) → slice_get p.queue 0 ≡ Some asked → asked.table < length p.layout.schema.tables) → StepsTo p n (new_hand statements.Work) (Moved point) q
    → (asked : Asked) × (p.queue ≡ asked ∷ q.queue)
work_takes_the_first p q n point rest declared step = first_is_taken p n point q rest declared step
