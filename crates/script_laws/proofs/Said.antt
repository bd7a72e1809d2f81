-- The texts of replies and refusals, as bytes.
use Rattle.std.proofs.Common.{◌≡◌, ℕ, List, [], ◌∷◌, ◌++◌, refl, ap, ◌∙◌, arith, append_assoc}
use Rattle.std.specs.Prelude.{codes, decimal}
use Rattle.std.proofs.lemmas.Fmt.{decimal_digit}
use Rattle.block_model.specs.declared.reply.Refusal.TheVariants as refusals
use Rattle.block_model.specs.declared.reply.Reply.TheVariants as replies
use Rattle.block_model.specs.declared.reply.What.TheVariants as whats
use Rattle.block_model.specs.declared.row.RowId.{RowId}
use Rattle.reply_texts.specs.Texts.{reply_text}

joined : (x a b c : List ℕ) → ((x ++ a) ++ b) ++ c ≡ x ++ (a ++ (b ++ c))
joined x a b c = simp append_assoc

one_is : decimal 1 ≡ 49 ∷ []
one_is = decimal_digit 1 (omega arith)

none_is : decimal 0 ≡ 48 ∷ []
none_is = decimal_digit 0 (omega arith)

pub said_summarized : (name : List ℕ) → reply_text name (replies.Summarized 1) ≡ name ++ codes " summarized 1\n"
unfolding reply_text
said_summarized name = ap (λ d. name ++ codes " summarized " ++ d ++ codes "\n") one_is ∙ joined name (codes " summarized ") (49 ∷ []) (codes "\n")

pub said_count : (name : List ℕ) (count : ℕ) → reply_text name (replies.Summarized count) ≡ name ++ codes " summarized " ++ decimal count ++ codes "\n"
unfolding reply_text
said_count name count = refl

pub said_three : (name : List ℕ) → name ++ codes " summarized " ++ decimal 3 ++ codes "\n" ≡ name ++ codes " summarized 3\n"
said_three name = ap (λ d. name ++ codes " summarized " ++ d ++ codes "\n") (decimal_digit 3 (omega arith)) ∙ joined name (codes " summarized ") (51 ∷ []) (codes "\n")

pub said_begun : (name : List ℕ) → reply_text name (replies.Begun 1) ≡ name ++ codes " begun 1\n"
unfolding reply_text
said_begun name = ap (λ d. name ++ codes " begun " ++ d ++ codes "\n") one_is ∙ joined name (codes " begun ") (49 ∷ []) (codes "\n")

pub said_left : (name : List ℕ) → reply_text name (replies.Summarized 0) ≡ name ++ codes " summarized 0\n"
unfolding reply_text
said_left name = ap (λ d. name ++ codes " summarized " ++ d ++ codes "\n") none_is ∙ joined name (codes " summarized ") (48 ∷ []) (codes "\n")

pub said_desummarized : (name : List ℕ) → reply_text name (replies.Desummarized 1) ≡ name ++ codes " desummarized 1\n"
unfolding reply_text
said_desummarized name = ap (λ d. name ++ codes " desummarized " ++ d ++ codes "\n") one_is ∙ joined name (codes " desummarized ") (49 ∷ []) (codes "\n")

pub said_not_there : (name : List ℕ) → reply_text name (replies.Desummarized 0) ≡ name ++ codes " desummarized 0\n"
unfolding reply_text
said_not_there name = ap (λ d. name ++ codes " desummarized " ++ d ++ codes "\n") none_is ∙ joined name (codes " desummarized ") (48 ∷ []) (codes "\n")

pub said_worked : (name index : List ℕ) (range : ℕ) → reply_text name (replies.Worked index range 1) ≡ name ++ codes " worked " ++ index ++ codes " " ++ decimal range ++ codes " 1\n"
unfolding reply_text
said_worked name index range =
    ap (λ d. name ++ codes " worked " ++ index ++ codes " " ++ decimal range ++ codes " " ++ d ++ codes "\n") one_is
    ∙ joined (name ++ codes " worked " ++ index ++ codes " " ++ decimal range) (codes " ") (49 ∷ []) (codes "\n")

pub said_none : (name : List ℕ) → reply_text name replies.Idle ≡ name ++ codes " worked none\n"
unfolding reply_text
said_none name = refl

pub said_memory : (name : List ℕ) → reply_text name (replies.Refused refusals.Memory) ≡ name ++ codes " error 13\n"
unfolding reply_text
said_memory name = refl

over_one : (x a b c d e : List ℕ) → ((x ++ a) ++ ((b ++ c) ++ d)) ++ e ≡ ((((x ++ a) ++ b) ++ c) ++ d) ++ e
over_one x a b c d e = simp append_assoc

over_two : (x a b c d e f : List ℕ) → ((((x ++ a) ++ (b ++ c)) ++ d) ++ e) ++ f ≡ ((((x ++ (a ++ b)) ++ c) ++ d) ++ e) ++ f
over_two x a b c d e f = simp append_assoc

over_four : (x a b c d e f g h : List ℕ) → ((((x ++ a) ++ (((b ++ c) ++ d) ++ e)) ++ f) ++ g) ++ h ≡ ((((((x ++ (a ++ b)) ++ c) ++ d) ++ e) ++ f) ++ g) ++ h
over_four x a b c d e f g h = simp append_assoc

pub said_work : (name table holder : List ℕ) → reply_text name (replies.Refused (refusals.Blocked (whats.Work table) holder))
    ≡ name ++ codes " error 11 work " ++ table ++ codes " " ++ holder ++ codes "\n"
unfolding reply_text
said_work name table holder = over_two name (codes " error 11 ") (codes "work ") table (codes " ") holder (codes "\n")

pub said_page : (name index : List ℕ) (page : ℕ) (holder : List ℕ) → reply_text name (replies.Refused (refusals.Blocked (whats.Page index page) holder))
    ≡ name ++ codes " error 11 page " ++ index ++ codes " " ++ decimal page ++ codes " " ++ holder ++ codes "\n"
unfolding reply_text
said_page name index page holder = over_four name (codes " error 11 ") (codes "page ") index (codes " ") (decimal page) (codes " ") holder (codes "\n")

pub said_inserted : (name : List ℕ) (id : RowId) → reply_text name (replies.Inserted id) ≡ name ++ codes " inserted " ++ decimal id.t ++ codes "." ++ decimal id.k ++ codes "\n"
unfolding reply_text
said_inserted name id = over_one name (codes " inserted ") (decimal id.t) (codes ".") (decimal id.k) (codes "\n")

pub said_vacuumed : (name : List ℕ) (rows unnamed ranges : ℕ) → reply_text name (replies.Vacuumed rows unnamed ranges)
    ≡ name ++ codes " vacuumed rows " ++ decimal rows ++ codes " orphans " ++ decimal unnamed ++ codes " ranges " ++ decimal ranges ++ codes "\n"
unfolding reply_text
said_vacuumed name rows unnamed ranges = refl
