use Rattle.index_steps.proofs.Lawful.{its_classes, its_columns, its_pages, its_parts, its_size, its_table}
use Rattle.index_steps.proofs.indexes.declared_index.Goals as goal

pub returns-clause-table : goal.returns-clause-table
returns-clause-table c = its_table c.args.layout.now c.args.index c.requires c.known.ensures.limits

pub returns-clause-some : goal.returns-clause-some
returns-clause-some c = its_parts c.args.layout.now c.args.index c.requires c.known.ensures.limits

pub returns-clause-columns : goal.returns-clause-columns
returns-clause-columns c = its_columns c.args.layout.now c.args.index c.requires c.known.ensures.limits

pub returns-clause-classes : goal.returns-clause-classes
returns-clause-classes c = its_classes c.args.layout.now c.args.index c.requires c.known.ensures.limits

pub returns-clause-size : goal.returns-clause-size
returns-clause-size c = its_size c.args.layout.now c.args.index c.requires c.known.ensures.limits

pub returns-clause-pages : goal.returns-clause-pages
returns-clause-pages c = its_pages c.args.layout.now c.args.index c.requires c.known.ensures.limits
