use Rattle.std.proofs.Common.{map, ap, ◌∙◌}
use Rattle.std.proofs.lemmas.Result.{on_ok_weaker}
use Rattle.dim_generate.proofs.Drawing.{all_put}
use Rattle.dim_asm.specs.Source.{LockLine}
use Rattle.std.proofs.Common.{◌≡◌, ◌++◌}
use Rattle.std.specs.String.{string_bytes}
use Rattle.std.specs.List.{flat_map}
use Rattle.dim_asm.specs.Printing.{thread_line}
use Rattle.dim_asm.specs.Spelling.{function_lines, text_of}
use Rattle.dim_schedule.specs.Drawn.{after}
use Rattle.dim_generate.specs.Generated.{from, lock_name}
use Rattle.dim_generate.specs.Drafted.{taker_of, caller_of, started, generated_source}
use Rattle.dim_generate.proofs.generating.put_all.Goals as goal

pub returns : goal.returns
unfolding generated_source
returns c =
    let g = c.args.words.now in
    let callers : string_bytes c.put_callers.new.text ≡ string_bytes c.put_takers.new.text ++ text_of (flat_map function_lines (map (caller_of (after 64 g)) (from 0 16))) =
    c.in_ok-put_callers.ensures ∙ ap (λ h. string_bytes c.put_takers.new.text ++ text_of (flat_map function_lines (map (caller_of h) (from 0 16)))) c.in_ok-put_takers.ensures.left in
    on_ok_weaker c.put_threads.result
    (all_put (map (λ name. LockLine name) (map lock_name (from 0 16))) (map (taker_of g) (from 0 32)) (map (caller_of (after 64 g)) (from 0 16)) (map thread_line (map started (from 0 16)))
    _ _ _ _ _ c.in_ok-put_locks.ensures c.in_ok-put_takers.ensures.lines callers)
    c.put_threads.ensures
