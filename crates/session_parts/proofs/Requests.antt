-- requests that are legal, and what they leave
use Rattle.std.proofs.Common.{true, ◌&&◌, [], ◌∷◌, Option, ap, ◌∙◌}
use Rattle.std.specs.Prelude.{not}
use Rattle.block_model.specs.declared.request.Request.TheVariants as requests
use Rattle.block_model.specs.declared.request.Tag.TheVariants as tags
use Rattle.block_model.specs.DatabaseState.{OpenTransaction}
use Rattle.block_model.specs.RequestEffect.{is_legal_at}
use Rattle.block_model.specs.RequestLaws.{others_stay}
use Rattle.block_model.specs.SerialRun.{is_legal-append, serial_run-append}
use Rattle.session_parts.specs.RequestLaws.{BeginIsLegal, EndIsLegal, LookIsLegal, MarkIsLegal, OneMoreIsLegal, OneMoreIsRun, OthersCopiesStay, PutIsLegal}

pub one_more_is_legal : OneMoreIsLegal
one_more_is_legal s entries e legal more = is_legal-append s entries (e ∷ []) ∙ (λ i. legal i && (more i && true))

pub one_more_is_run : OneMoreIsRun
one_more_is_run s entries e = serial_run-append s entries (e ∷ [])

pub put_is_legal : PutIsLegal
put_is_legal s n table x values tag got whole = ap (λ (o : Option OpenTransaction). is_legal_at o (requests.Put values) tag) got ∙ (λ i. not (whole i))

pub look_is_legal : LookIsLegal
look_is_legal s n table x query tag got whole fine = ap (λ (o : Option OpenTransaction). is_legal_at o (requests.Look query) tag) got ∙ (λ i. not (whole i) && fine i)

pub mark_is_legal : MarkIsLegal
mark_is_legal s n table x id got whole inside = ap (λ (o : Option OpenTransaction). is_legal_at o (requests.Mark id) tags.Ok) got ∙ (λ i. not (whole i) && inside i && true)

pub end_is_legal : EndIsLegal
end_is_legal s n table x got = record {
  commit = ap (λ (o : Option OpenTransaction). is_legal_at o requests.Commit tags.Ok) got;
  rollback = ap (λ (o : Option OpenTransaction). is_legal_at o requests.Rollback tags.Ok) got;
}

pub begin_is_legal : BeginIsLegal
begin_is_legal s n table none = ap (λ (o : Option OpenTransaction). is_legal_at o requests.Begin tags.Ok) none

pub copies_stay : OthersCopiesStay
copies_stay s e m apart = others_stay s e m apart
