-- What a plain line is told whose statement is taken: what its finish tells, or that memory is short.
use Rattle.std.proofs.Common.{◌≡◌, ◌⊎◌, inl, inr, ℕ, List, ◌++◌, Option, None, Some, refl, sym, ap, ◌∙◌}
use Rattle.std.specs.Prelude.{codes}
use Rattle.std.proofs.lemmas.Option.{none-some, same_Some}
use Rattle.block_model.specs.declared.reply.Refusal.{Refusal}
use Rattle.block_model.specs.declared.reply.Reply.TheVariants as replies
use Rattle.query_words.specs.declared.line.Order.TheVariants as orders
use Rattle.reply_texts.specs.Texts.{reply_text}
use Rattle.script_semantics.specs.LineTexts.{Does, Finishes, NotTaken, Plain, RefusesPlain, Submits, Taken, WantsMemory, dropped_at, outcome_text, submit_refusal, with_statement}
use Rattle.script_semantics.specs.Place.{Place}
use Rattle.script_semantics.specs.StatementSteps.{Outcome}
use Rattle.store_layout.specs.declared.statement.Statement.{Statement}
use Rattle.script_laws.proofs.Said.{said_memory}

module _ (p : Place) (n : ℕ) (name : List ℕ) (statement : Statement) (allowed : submit_refusal p n statement ≡ None) where
  submitted_so : (told : Option Refusal) (u : Place) → Submits p n statement told u → told ≡ None → u ≡ with_statement p n statement
  submitted_so _ _ (Taken none) is = refl
  submitted_so _ _ (NotTaken refusal refused) is = absurd (none-some _ (sym is))
  submitted_so _ _ (WantsMemory none may) is = absurd (none-some _ (sym is))

  refused_so : (refusal : Refusal) (told : Option Refusal) (u : Place) → Submits p n statement told u → told ≡ Some refusal
      → reply_text name (replies.Refused refusal) ≡ name ++ codes " error 13\n"
  refused_so refusal _ _ (Taken none) is = absurd (none-some _ is)
  refused_so refusal _ _ (NotTaken other refused) is = absurd (none-some _ (sym allowed ∙ refused))
  refused_so refusal _ _ (WantsMemory none may) is = ap (λ (x : Refusal). reply_text name (replies.Refused x)) (sym (same_Some _ _ is)) ∙ said_memory name

  pub plain_told : (said : List ℕ)
      → ((u : Place) (outcome : Outcome) (v : Place) → u ≡ with_statement p n statement → Finishes n u outcome v → outcome_text name (dropped_at v n) outcome ≡ said)
      → (text : List ℕ) (v : Place) → Does p n name (orders.Whole statement) text v → (text ≡ said) ⊎ (text ≡ name ++ codes " error 13\n")
  plain_told said tells _ _ (Plain _ outcome u v submits finishes) = inl (tells u outcome v (submitted_so None u submits refl) finishes)
  plain_told said tells _ _ (RefusesPlain _ refusal u submits) = inr (refused_so refusal (Some refusal) u submits refl)
