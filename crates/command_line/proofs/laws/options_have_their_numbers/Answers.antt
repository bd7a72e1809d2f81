use Rattle.std.proofs.Common.{codes, refl}
use Rattle.command_line.specs.CommandWords.{init_form, run_form, threads_form, demo_form}
use Rattle.command_line.specs.Laws.{SizeHasItsNumber, seed_in, rows_in}
use Rattle.command_line.proofs.FormLemmas.{init_known, run_known, threads_known, demo_known, init_gives, run_gives, threads_gives, seed_gives, rows_gives}
use Rattle.command_line.proofs.SpeltLaws.{has_number}
use Rattle.command_line.proofs.LawLemmas.{five, is_heap_blocks, is_index_blocks, is_status_blocks, is_log_pages, is_frames, is_seed, is_rows}
use Rattle.command_line.proofs.laws.options_have_their_numbers.Goals as goal

pub returns : goal.returns
returns c = record {
  init = five (SizeHasItsNumber (codes "init")) _ _ _ _ _
      (has_number init_form init_known (codes "heap-blocks") is_heap_blocks _ (init_gives (codes "heap-blocks") (λ s. s.heap_blocks) 4096 (λ said. refl)))
      (has_number init_form init_known (codes "index-blocks") is_index_blocks _ (init_gives (codes "index-blocks") (λ s. s.index_blocks) 1024 (λ said. refl)))
      (has_number init_form init_known (codes "status-blocks") is_status_blocks _ (init_gives (codes "status-blocks") (λ s. s.status_blocks) 4 (λ said. refl)))
      (has_number init_form init_known (codes "log-pages") is_log_pages _ (init_gives (codes "log-pages") (λ s. s.log_pages) 128 (λ said. refl)))
      (has_number init_form init_known (codes "frames") is_frames _ (init_gives (codes "frames") (λ s. s.frames) 256 (λ said. refl)));
  run = five (SizeHasItsNumber (codes "run")) _ _ _ _ _
      (has_number run_form run_known (codes "heap-blocks") is_heap_blocks _ (run_gives (codes "heap-blocks") (λ s. s.heap_blocks) 4096 (λ said. refl) refl))
      (has_number run_form run_known (codes "index-blocks") is_index_blocks _ (run_gives (codes "index-blocks") (λ s. s.index_blocks) 1024 (λ said. refl) refl))
      (has_number run_form run_known (codes "status-blocks") is_status_blocks _ (run_gives (codes "status-blocks") (λ s. s.status_blocks) 4 (λ said. refl) refl))
      (has_number run_form run_known (codes "log-pages") is_log_pages _ (run_gives (codes "log-pages") (λ s. s.log_pages) 128 (λ said. refl) refl))
      (has_number run_form run_known (codes "frames") is_frames _ (run_gives (codes "frames") (λ s. s.frames) 256 (λ said. refl) refl));
  threads = five (SizeHasItsNumber (codes "threads")) _ _ _ _ _
      (has_number threads_form threads_known (codes "heap-blocks") is_heap_blocks _ (threads_gives (codes "heap-blocks") (λ s. s.heap_blocks) 4096 (λ said. refl) refl))
      (has_number threads_form threads_known (codes "index-blocks") is_index_blocks _ (threads_gives (codes "index-blocks") (λ s. s.index_blocks) 1024 (λ said. refl) refl))
      (has_number threads_form threads_known (codes "status-blocks") is_status_blocks _ (threads_gives (codes "status-blocks") (λ s. s.status_blocks) 4 (λ said. refl) refl))
      (has_number threads_form threads_known (codes "log-pages") is_log_pages _ (threads_gives (codes "log-pages") (λ s. s.log_pages) 128 (λ said. refl) refl))
      (has_number threads_form threads_known (codes "frames") is_frames _ (threads_gives (codes "frames") (λ s. s.frames) 256 (λ said. refl) refl));
  seed = has_number demo_form demo_known (codes "seed") is_seed seed_in seed_gives;
  rows = has_number demo_form demo_known (codes "rows") is_rows rows_in rows_gives;
}
