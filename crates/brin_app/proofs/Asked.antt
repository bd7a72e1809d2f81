-- what words ask for
use Rattle.std.proofs.Common.{◌≡◌, ℕ, List, None, Some, Option, refl, sym, ap, ◌∙◌, subst, inl, inr}
use Rattle.std.specs.Prelude.{IfOk, IsSome, Result, Ok, Err}
use Rattle.std.proofs.lemmas.Bool.{false≢true}
use Rattle.store_layout.specs.DiskLayout.{DiskLayout}
use Rattle.store_layout.specs.FirstBrokenRule.{first_broken_rule}
use Rattle.block_model.specs.declared.schema.Schema.{Schema}
use Rattle.block_model.specs.declared.schema.Sizes.{Sizes}
use Rattle.command_line.specs.DeclaredSchema.{Denotes}
use Rattle.command_line.specs.declared.command.Command.{Command}
use Rattle.command_line.specs.declared.command.Command.TheVariants as commands
use Rattle.command_line.specs.declared.command.CommandFault.{CommandFault}
use Rattle.command_line.specs.declared.command.CommandFault.TheVariants as faults
use Rattle.command_line.specs.CommandWords.{IsCommand, IsOnlyCommand}
use Rattle.command_line.specs.Laws.{AreDemoNumbers}
use Rattle.command_line.specs.declared.declarations.DeclFault.{DeclFault}
use Rattle.command_line.specs.declared.declarations.DeclFault.TheVariants as declarations
use Rattle.command_line.specs.FirstFault.{Answers}
use Rattle.demo_script.specs.DemoStore.{IsDemoLayout, demo_declarations}
use Rattle.brin_app.specs.declared.top.Task.{Task}
use Rattle.brin_app.specs.declared.top.Task.TheVariants as tasks
use Rattle.brin_app.specs.declared.top.WordsFault.{WordsFault}
use Rattle.brin_app.specs.declared.top.WordsFault.TheVariants.{Usage, Memory}
use Rattle.brin_app.specs.WordsFaults.{of_command, of_declarations}
use Rattle.brin_app.specs.Tasks.{Asks, HasDemoNumbers, IsLayoutFor, IsTaskOf, IsUsage, IsWrong}

-- a layout that was made of a declared schema
pub ok_made : {E : Type 0} (declared : List (List ℕ)) (schema : Schema) (sizes : Sizes) (result : Result DiskLayout E) → Denotes declared schema
    → IfOk result (λ layout. (layout ≡ record { schema = schema; sizes = sizes }) × (first_broken_rule schema sizes ≡ None)) → IfOk result (IsLayoutFor sizes declared)
ok_made declared schema sizes (Ok layout) denoted kept = record {
  sizes_are = ap (λ (d : DiskLayout). d.sizes) kept.0;
  schema = subst (λ (d : DiskLayout). Denotes declared d.schema) (sym kept.0) denoted;
  within = ap (λ (d : DiskLayout). first_broken_rule d.schema sizes) kept.0 ∙ kept.1;
}
ok_made declared schema sizes (Err e) denoted kept = tt

-- it is the only one, where no other schema is declared
pub ok_alone : {E : Type 0} (declared : List (List ℕ)) (schema : Schema) (sizes : Sizes) (result : Result DiskLayout E) → ((other : Schema) → Denotes declared other → schema ≡ other)
    → IfOk result (λ layout. (layout ≡ record { schema = schema; sizes = sizes }) × (first_broken_rule schema sizes ≡ None)) → IfOk result (λ layout. (other : Schema) → Denotes declared other → other ≡ layout.schema)
ok_alone declared schema sizes (Ok layout) only kept = λ other denoted. sym (only other denoted) ∙ sym (ap (λ (d : DiskLayout). d.schema) kept.0)
ok_alone declared schema sizes (Err e) only kept = tt

-- ---- tasks of a command

layout_is : (a b : DiskLayout) → a.schema ≡ b.schema → a.sizes ≡ b.sizes → a ≡ b
layout_is a b e f = ap (λ schema. record { schema = schema; sizes = a.sizes }) e ∙ ap (λ sizes. record { schema = b.schema; sizes = sizes }) f

one_layout_for : (sizes : Sizes) (declared : List (List ℕ)) (layout other : DiskLayout) → IsLayoutFor sizes declared layout → ((schema : Schema) → Denotes declared schema → schema ≡ layout.schema) → IsLayoutFor sizes declared other → other ≡ layout
one_layout_for sizes declared layout other makes alone also = layout_is other layout (alone other.schema also.schema) (also.sizes_are ∙ sym makes.sizes_are)

pub init_alone : (sizes : Sizes) (declared : List (List ℕ)) (layout : DiskLayout) → IsLayoutFor sizes declared layout → ((schema : Schema) → Denotes declared schema → schema ≡ layout.schema)
    → (other : Task) → IsTaskOf (commands.Init sizes declared) other → other ≡ tasks.Init layout
init_alone sizes declared layout makes alone (tasks.Init other) also = ap tasks.Init (one_layout_for sizes declared layout other makes alone also)
init_alone sizes declared layout makes alone (tasks.Run other) also = absurd also
init_alone sizes declared layout makes alone tasks.RunStored also = absurd also
init_alone sizes declared layout makes alone (tasks.Threads other) also = absurd also
init_alone sizes declared layout makes alone tasks.ThreadsStored also = absurd also
init_alone sizes declared layout makes alone (tasks.Demo other seed rows) also = absurd also

pub run_alone : (sizes : Sizes) (declared : List (List ℕ)) (layout : DiskLayout) → IsLayoutFor sizes declared layout → ((schema : Schema) → Denotes declared schema → schema ≡ layout.schema)
    → (other : Task) → IsTaskOf (commands.Run sizes declared) other → other ≡ tasks.Run layout
run_alone sizes declared layout makes alone (tasks.Run other) also = ap tasks.Run (one_layout_for sizes declared layout other makes alone also)
run_alone sizes declared layout makes alone (tasks.Init other) also = absurd also
run_alone sizes declared layout makes alone tasks.RunStored also = absurd also
run_alone sizes declared layout makes alone (tasks.Threads other) also = absurd also
run_alone sizes declared layout makes alone tasks.ThreadsStored also = absurd also
run_alone sizes declared layout makes alone (tasks.Demo other seed rows) also = absurd also

pub stored_alone : (other : Task) → IsTaskOf commands.RunStored other → other ≡ tasks.RunStored
stored_alone (tasks.Init other) also = absurd also
stored_alone (tasks.Run other) also = absurd also
stored_alone (tasks.Demo other seed rows) also = absurd also
stored_alone (tasks.Threads other) also = absurd also
stored_alone tasks.ThreadsStored also = absurd also
stored_alone tasks.RunStored also = refl

pub threads_alone : (sizes : Sizes) (declared : List (List ℕ)) (layout : DiskLayout) → IsLayoutFor sizes declared layout → ((schema : Schema) → Denotes declared schema → schema ≡ layout.schema)
    → (other : Task) → IsTaskOf (commands.Threads sizes declared) other → other ≡ tasks.Threads layout
threads_alone sizes declared layout makes alone (tasks.Threads other) also = ap tasks.Threads (one_layout_for sizes declared layout other makes alone also)
threads_alone sizes declared layout makes alone (tasks.Init other) also = absurd also
threads_alone sizes declared layout makes alone (tasks.Run other) also = absurd also
threads_alone sizes declared layout makes alone tasks.RunStored also = absurd also
threads_alone sizes declared layout makes alone tasks.ThreadsStored also = absurd also
threads_alone sizes declared layout makes alone (tasks.Demo other seed rows) also = absurd also

pub threads_stored_alone : (other : Task) → IsTaskOf commands.ThreadsStored other → other ≡ tasks.ThreadsStored
threads_stored_alone (tasks.Init other) also = absurd also
threads_stored_alone (tasks.Run other) also = absurd also
threads_stored_alone (tasks.Demo other seed rows) also = absurd also
threads_stored_alone (tasks.Threads other) also = absurd also
threads_stored_alone tasks.RunStored also = absurd also
threads_stored_alone tasks.ThreadsStored also = refl

demo_is : (layout other : DiskLayout) (seed seed' rows rows' : ℕ) → other ≡ layout → seed' ≡ seed → rows' ≡ rows → tasks.Demo other seed' rows' ≡ tasks.Demo layout seed rows
demo_is layout other seed seed' rows rows' l s r = ap (λ (m : DiskLayout). tasks.Demo m seed' rows') l ∙ ap (λ (n : ℕ). tasks.Demo layout n rows') s ∙ ap (λ (n : ℕ). tasks.Demo layout seed n) r

pub demo_alone : (seed rows : ℕ) (layout : DiskLayout) → IsDemoLayout rows layout → ((schema : Schema) → Denotes demo_declarations schema → schema ≡ layout.schema)
    → (other : Task) → IsTaskOf (commands.Demo seed rows) other → other ≡ tasks.Demo layout seed rows
demo_alone seed rows layout makes alone (tasks.Init other) also = absurd also
demo_alone seed rows layout makes alone (tasks.Run other) also = absurd also
demo_alone seed rows layout makes alone tasks.RunStored also = absurd also
demo_alone seed rows layout makes alone (tasks.Threads other) also = absurd also
demo_alone seed rows layout makes alone tasks.ThreadsStored also = absurd also
demo_alone seed rows layout makes alone (tasks.Demo other seed' rows') also =
    demo_is layout other seed seed' rows rows' (layout_is other layout (alone other.schema also.0.schema) (also.0.sizes_are ∙ sym makes.sizes_are)) also.1 also.2

lacks : (o : Option ℕ) → o ≡ None → IsSome o → ⊥
lacks None e h = false≢true h
lacks (Some n) e h = cc

-- a command that can't be begun asks for nothing
pub not_wrong : (command : Command) (task : Task) → IsTaskOf command task → IsWrong command → ⊥
not_wrong (commands.Init sizes declared) (tasks.Init layout) makes broken = lacks (first_broken_rule layout.schema sizes) makes.within (broken layout.schema makes.schema)
not_wrong (commands.Init sizes declared) (tasks.Run layout) makes broken = makes
not_wrong (commands.Init sizes declared) tasks.RunStored makes broken = makes
not_wrong (commands.Init sizes declared) (tasks.Threads layout) makes broken = makes
not_wrong (commands.Init sizes declared) tasks.ThreadsStored makes broken = makes
not_wrong (commands.Init sizes declared) (tasks.Demo layout seed rows) makes broken = makes
not_wrong (commands.Run sizes declared) (tasks.Run layout) makes broken = lacks (first_broken_rule layout.schema sizes) makes.within (broken layout.schema makes.schema)
not_wrong (commands.Run sizes declared) (tasks.Init layout) makes broken = makes
not_wrong (commands.Run sizes declared) tasks.RunStored makes broken = makes
not_wrong (commands.Run sizes declared) (tasks.Threads layout) makes broken = makes
not_wrong (commands.Run sizes declared) tasks.ThreadsStored makes broken = makes
not_wrong (commands.Run sizes declared) (tasks.Demo layout seed rows) makes broken = makes
not_wrong commands.RunStored task makes broken = broken
not_wrong (commands.Threads sizes declared) (tasks.Threads layout) makes broken = lacks (first_broken_rule layout.schema sizes) makes.within (broken layout.schema makes.schema)
not_wrong (commands.Threads sizes declared) (tasks.Init layout) makes broken = makes
not_wrong (commands.Threads sizes declared) (tasks.Run layout) makes broken = makes
not_wrong (commands.Threads sizes declared) tasks.RunStored makes broken = makes
not_wrong (commands.Threads sizes declared) tasks.ThreadsStored makes broken = makes
not_wrong (commands.Threads sizes declared) (tasks.Demo layout seed rows) makes broken = makes
not_wrong commands.ThreadsStored task makes broken = broken
not_wrong (commands.Demo seed rows) task makes broken = broken

-- ---- words

module _ (words : List (List ℕ)) (command : Command) (only : IsOnlyCommand words command) where
  task_there : (task : Task) → Asks words task → IsTaskOf command task
  task_there task asks = subst (λ (c : Command). IsTaskOf c task) (only.alone asks.command asks.is) asks.task_is

  -- words that are a command ask for what it asks for
  pub ok_asked : {E : Type 0} (result : Result Task E) → IfOk result (IsTaskOf command) → IfOk result (Asks words)
  ok_asked (Ok task) makes = record { command = command; is = only.is; task_is = makes }
  ok_asked (Err e) makes = tt

  -- and for nothing else
  pub ok_only : {E : Type 0} (result : Result Task E) → IfOk result (λ task. (other : Task) → IsTaskOf command other → other ≡ task) → IfOk result (λ task. (other : Task) → Asks words other → other ≡ task)
  ok_only (Ok task) alone = λ other asks. alone other (task_there other asks)
  ok_only (Err e) alone = tt

  -- where it asks for something the words are no usage
  pub ok_right : {E : Type 0} (result : Result Task E) → IfOk result (IsTaskOf command) → IfOk result (λ task. ¬ (IsUsage words))
  ok_right (Ok task) makes = λ usage. elim usage [
    | inl none ↦ none command only.is
    | inr wrong ↦ not_wrong command task makes (subst IsWrong (only.alone wrong.0 wrong.1) wrong.2)
  ]
  ok_right (Err e) makes = tt

  pub wrong_usage : IsWrong command → IsUsage words
  wrong_usage wrong = inr (command, only.is, wrong)

  pub wrong_nothing : IsWrong command → (task : Task) → ¬ (Asks words task)
  wrong_nothing wrong task asks = not_wrong command task (task_there task asks) wrong

-- the numbers of a demo are within their limits
pub numbers_within : ((words : List (List ℕ)) (seed rows : ℕ) → IsCommand words (commands.Demo seed rows) → AreDemoNumbers seed rows) → (words : List (List ℕ)) (command : Command) → IsCommand words command
    → HasDemoNumbers command
numbers_within law words (commands.Init sizes declared) is = tt
numbers_within law words (commands.Run sizes declared) is = tt
numbers_within law words commands.RunStored is = tt
numbers_within law words (commands.Threads sizes declared) is = tt
numbers_within law words commands.ThreadsStored is = tt
numbers_within law words (commands.Demo seed rows) is = law words seed rows is

-- words that are no command ask for nothing
pub no_command : (words : List (List ℕ)) → ((command : Command) → ¬ (IsCommand words command)) → (task : Task) → ¬ (Asks words task)
no_command words none task asks = none asks.command asks.is

-- ---- faults that go up

-- what goes up as usage is usage
pub usage_is : {A : Type 0} (result : Result A WordsFault) (y z : WordsFault) → result ≡ Err y → y ≡ z → result ≡ Err Usage → z ≡ Usage
usage_is {A} result y z is same e = sym same ∙ ap fault_in (sym is ∙ e)
  where
    fault_in : Result A WordsFault → WordsFault
    fault_in (Ok x) = Usage
    fault_in (Err fault) = fault

pub usage_of_command : (fault : CommandFault) → of_command fault ≡ Usage → fault ≡ faults.Usage
usage_of_command faults.Usage e = refl
usage_of_command faults.Memory e = cc

pub none_denoted : (schema : Schema) (fault : DeclFault) → of_declarations fault ≡ Usage → Answers schema (Err fault) → ⊥
none_denoted schema (declarations.Form word at) e a = a
none_denoted schema declarations.Memory e a = let no : Memory ≡ Usage = e in cc
