use Rattle.std.proofs.Common.{◌≡◌, inl, ap, sym, subst, ◌∙◌}
use Rattle.std.specs.Prelude.{slice_index}
use Rattle.index_layout.specs.IndexPages.{IsIndexPage}
use Rattle.index_steps.proofs.Behind.{meta_left}
use Rattle.index_steps.proofs.next.state_of.Goals as goal

pub left_over-requires-clause-page : goal.left_over-requires-clause-page
left_over-requires-clause-page c = subst IsIndexPage (sym c.as_bytes-bytes.ensures.bytes) c.requires.page

pub returns-clause-none : goal.returns-clause-none
returns-clause-none c = λ is.
    let page = c.args.page.now in
    let kind : c.kind_of-kind.result ≡ slice_index page 0 = c.kind_of-kind.ensures ∙ ap (λ p. slice_index p 0) c.as_bytes-bytes.ensures.bytes in
    inl (meta_left page c.requires.page (λ e. absurd (c.if-kind-eq-UNSTARTED.false (kind ∙ e))) (λ e. absurd (c.if-kind-eq-REGULAR.false (kind ∙ e))) (λ e. absurd (c.if-kind-eq-EVACUATED.false (kind ∙ e))) (λ e. absurd (c.if-kind-eq-MAP.false (kind ∙ e))))
