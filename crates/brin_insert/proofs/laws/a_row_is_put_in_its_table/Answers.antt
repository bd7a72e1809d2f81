use Rattle.brin_insert.proofs.RowPut.{row_begins}
use Rattle.brin_insert.proofs.laws.a_row_is_put_in_its_table.Goals as goal

pub returns : goal.returns
returns c = λ layout pages paged locks s table id values spot blocks puts u rests.
    row_begins c.a_row_begins_its_insert.ensures layout pages paged locks s table id values spot blocks puts u rests
