use Rattle.wal_record.proofs.writing.write_change.Goals as goal

pub returns-in-FullPage-clause-change : goal.returns-in-FullPage-clause-change
returns-in-FullPage-clause-change c = rw c.in-FullPage.is (record { sizes = rw c.in-FullPage.is at c.requires.sizes; block = c.write_page.ensures.block; numbers = tt })

pub returns-in-PageStart-clause-change : goal.returns-in-PageStart-clause-change
returns-in-PageStart-clause-change c = rw c.in-PageStart.is (record { sizes = rw c.in-PageStart.is at c.requires.sizes; block = c.write_start.ensures.block; numbers = tt })

pub returns-in-RowPut-clause-change : goal.returns-in-RowPut-clause-change
returns-in-RowPut-clause-change c = rw c.in-RowPut.is (record { sizes = rw c.in-RowPut.is at c.requires.sizes; block = c.write_put.ensures.block; numbers = c.write_put.ensures.numbers })

pub returns-in-RowMark-clause-change : goal.returns-in-RowMark-clause-change
returns-in-RowMark-clause-change c = rw c.in-RowMark.is (record { sizes = rw c.in-RowMark.is at c.requires.sizes; block = c.write_mark.ensures.block; numbers = c.write_mark.ensures.numbers })

pub returns-in-RowsDrop-clause-change : goal.returns-in-RowsDrop-clause-change
returns-in-RowsDrop-clause-change c = rw c.in-RowsDrop.is (record { sizes = rw c.in-RowsDrop.is at c.requires.sizes; block = c.write_slots.ensures.block; numbers = tt })

pub returns-in-TuplePut-clause-change : goal.returns-in-TuplePut-clause-change
returns-in-TuplePut-clause-change c = rw c.in-TuplePut.is (record { sizes = rw c.in-TuplePut.is at c.requires.sizes; block = c.write_put-in-TuplePut.ensures.block; numbers = c.write_put-in-TuplePut.ensures.numbers })

pub returns-in-TupleReplace-clause-change : goal.returns-in-TupleReplace-clause-change
returns-in-TupleReplace-clause-change c = rw c.in-TupleReplace.is (record { sizes = rw c.in-TupleReplace.is at c.requires.sizes; block = c.write_put-in-TupleReplace.ensures.block; numbers = c.write_put-in-TupleReplace.ensures.numbers })

pub returns-in-TupleDrop-clause-change : goal.returns-in-TupleDrop-clause-change
returns-in-TupleDrop-clause-change c = rw c.in-TupleDrop.is (record { sizes = rw c.in-TupleDrop.is at c.requires.sizes; block = c.write_slots-in-TupleDrop.ensures.block; numbers = tt })

pub returns-in-Evacuate-clause-change : goal.returns-in-Evacuate-clause-change
returns-in-Evacuate-clause-change c = rw c.in-Evacuate.is (record { sizes = rw c.in-Evacuate.is at c.requires.sizes; block = c.write_head.ensures.block; numbers = tt })

pub returns-in-MapPage-clause-change : goal.returns-in-MapPage-clause-change
returns-in-MapPage-clause-change c = rw c.in-MapPage.is (record { sizes = rw c.in-MapPage.is at c.requires.sizes; block = c.write_head-in-MapPage.ensures.block; numbers = tt })

pub returns-in-MapSet-clause-change : goal.returns-in-MapSet-clause-change
returns-in-MapSet-clause-change c = rw c.in-MapSet.is (record { sizes = rw c.in-MapSet.is at c.requires.sizes; block = c.write_entry.ensures.block; numbers = c.write_entry.ensures.numbers })

pub returns-in-MetaSet-clause-change : goal.returns-in-MetaSet-clause-change
returns-in-MetaSet-clause-change c = rw c.in-MetaSet.is (record { sizes = rw c.in-MetaSet.is at c.requires.sizes; block = c.write_maps.ensures.block; numbers = c.write_maps.ensures.numbers })

pub returns-in-StatusSet-clause-change : goal.returns-in-StatusSet-clause-change
returns-in-StatusSet-clause-change c = rw c.in-StatusSet.is (record { sizes = rw c.in-StatusSet.is at c.requires.sizes; block = c.write_status.ensures.block; numbers = c.write_status.ensures.numbers })
