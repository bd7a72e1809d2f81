use Rattle.page_map.proofs.HeapForms.{have_forms}
use Rattle.page_map.proofs.forms.tables_have_forms.Goals as goal

pub returns-clause-forms : goal.returns-clause-forms
returns-clause-forms c = have_forms c.args.layout.now.schema c.args.layout.now.sizes c.known.ensures.limits
