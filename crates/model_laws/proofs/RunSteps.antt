-- one more request of a journal
use Rattle.std.proofs.Common.{◌≡◌, ℕ, ◌+◌, ◌<◌, true, ◌&&◌, List, [], ◌∷◌, ◌++◌, take, length, get_or, map, sym, ap, ◌∙◌, Option}
use Rattle.std.specs.FinMap.{get}
use Rattle.std.proofs.lemmas.List.{take_more, map-append}
use Rattle.block_model.specs.declared.request.Entry.{Entry}
use Rattle.block_model.specs.DatabaseState.{DatabaseState, OpenTransaction}
use Rattle.block_model.specs.RequestEffect.{Answer, effect, effect_at, effect_is, after_request, reply_to, is_legal_request}
use Rattle.block_model.specs.SerialRun.{serial_run, replies_to, is_legal, serial_run-append, replies_to-append, is_legal-append}
use Rattle.model_laws.specs.declared.model.Answered.{Answered}
use Rattle.model_laws.specs.Answers.{answer_of}

-- the effect by the transaction that the session has
pub effect_from : (s : DatabaseState) (e : Entry) (o : Option OpenTransaction) (s' : DatabaseState) (a : Answer) → o ≡ get s.sessions e.session → ◌≡◌ {A = DatabaseState × Answer} (s', a) (effect_at o s e) → ◌≡◌ {A = DatabaseState × Answer} (s', a) (effect s e)
effect_from s e o s' a got is = is ∙ ap (λ x. effect_at x s e) got ∙ sym (effect_is s e)

module _ (s : DatabaseState) (journal : List Entry) (i : ℕ) (e : Entry) (h : i < length journal) (is : e ≡ get_or journal i e) where
  one_more : take (i + 1) journal ≡ take i journal ++ e ∷ []
  one_more = take_more journal i e h ∙ ap (λ y. take i journal ++ y ∷ []) (sym is)

  pub legal_more : (now : DatabaseState) → is_legal s (take i journal) ≡ true → now ≡ serial_run s (take i journal) → is_legal_request now e ≡ true → is_legal s (take (i + 1) journal) ≡ true
  legal_more now before at last = ap (is_legal s) one_more ∙ is_legal-append s (take i journal) (e ∷ [])
      ∙ (λ j. before j && (is_legal_request (sym at j) e && true)) ∙ ap (λ b. b && true) last

  pub state_more : (now after : DatabaseState) → now ≡ serial_run s (take i journal) → after ≡ after_request now e → after ≡ serial_run s (take (i + 1) journal)
  state_more now after at last = last ∙ ap (λ x. after_request x e) at ∙ sym (ap (serial_run s) one_more ∙ serial_run-append s (take i journal) (e ∷ []))

  pub replies_more : (now : DatabaseState) (answers answers' : List Answered) (answer : Answered) → now ≡ serial_run s (take i journal) → map answer_of answers ≡ replies_to s (take i journal)
      → answers' ≡ answers ++ answer ∷ [] → answer_of answer ≡ reply_to now e → map answer_of answers' ≡ replies_to s (take (i + 1) journal)
  replies_more now answers answers' answer at before pushed last = ap (map answer_of) pushed ∙ map-append answer_of answers (answer ∷ [])
      ∙ (λ j. before j ++ (last ∙ ap (λ x. reply_to x e) at) j ∷ []) ∙ sym (ap (replies_to s) one_more ∙ replies_to-append s (take i journal) (e ∷ []))
