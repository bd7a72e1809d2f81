-- what a disk tells behind a name
use Rattle.std.specs.Prelude.{Bool, ◌&&◌}
use Rattle.disk_trait.specs.Told.{Told}

-- its size and its count of faults over any name; that it tells its contents and its images, and which these are, over an honest one alone
abbrev pub told_to : Bool → Told → Told
told_to honest disk = record disk {
  tells_contents = honest && disk.tells_contents;
  tells_images = honest && disk.tells_images;
  now = λ c. honest && disk.now c;
  since = λ t c. honest && disk.since t c;
}
