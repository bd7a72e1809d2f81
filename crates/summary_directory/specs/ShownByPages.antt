-- what the pages of a store show of its indexes
use Rattle.std.specs.Option.{option_and_then}
use Rattle.store_layout.specs.DiskLayout.{DiskLayout}
use Rattle.page_map.specs.PageMap.{PageMap}
use Rattle.page_map.specs.Started.{started_count}
use Rattle.heap_rows.specs.Heaps.{relation_of}
use Rattle.index_contents.specs.IndexContents.{contents}
use Rattle.summary_directory.specs.Shown.{Shown}

-- of each range the bytes at the spot that the map names for it; of each table as many blocks as are started
abbrev pub shown_by_pages : DiskLayout → PageMap → Shown
shown_by_pages layout pages = record {
  tuple = λ index range. option_and_then (contents layout pages index).bytes ((contents layout pages index).entry range);
  extent = λ table. started_count pages (relation_of table);
}
