use Rattle.std.proofs.Common.{◌≡◌, ◌-◌, ◌∙◌, ◌++◌, ap, arith, List, ℕ, length}
use Rattle.dim_picture.specs.Lines.{line_of}
use Rattle.dim_picture.proofs.OneLine.{one_length, one_part, text_is}
use Rattle.dim_picture.proofs.line.put_line_of.Goals as goal

pub overflow_sub-end : goal.overflow_sub-end
overflow_sub-end c =
    let spelled = text_is c.args.program.now c.args.names.now c.args.entry.now _ _ _ _ _ c.as_slice-bytes.ensures c.in_ok-text.ensures.text c.in_ok-trace.ensures.fuel c.in_ok-trace.ensures.depth c.in_ok-trace.ensures.entries in
    let long = one_length c.args.program.now c.args.names.now c.args.entry.now _ spelled in
    omega (arith, long)

pub slice_bounds-extend_from_slice-count : goal.slice_bounds-extend_from_slice-count
slice_bounds-extend_from_slice-count c =
    let spelled = text_is c.args.program.now c.args.names.now c.args.entry.now _ _ _ _ _ c.as_slice-bytes.ensures c.in_ok-text.ensures.text c.in_ok-trace.ensures.fuel c.in_ok-trace.ensures.depth c.in_ok-trace.ensures.entries in
    let long = one_length c.args.program.now c.args.names.now c.args.entry.now _ spelled in
    omega (arith, long)

pub slice_bounds-extend_from_slice-start : goal.slice_bounds-extend_from_slice-start
slice_bounds-extend_from_slice-start c =
    let spelled = text_is c.args.program.now c.args.names.now c.args.entry.now _ _ _ _ _ c.as_slice-bytes.ensures c.in_ok-text.ensures.text c.in_ok-trace.ensures.fuel c.in_ok-trace.ensures.depth c.in_ok-trace.ensures.entries in
    let long = one_length c.args.program.now c.args.names.now c.args.entry.now _ spelled in
    omega (arith, long)

pub returns : goal.returns
returns c =
    let spelled = text_is c.args.program.now c.args.names.now c.args.entry.now _ _ _ _ _ c.as_slice-bytes.ensures c.in_ok-text.ensures.text c.in_ok-trace.ensures.fuel c.in_ok-trace.ensures.depth c.in_ok-trace.ensures.entries in
    let long = one_length c.args.program.now c.args.names.now c.args.entry.now _ spelled in
    let count : length c.as_slice-bytes.result.now - 7 - 25 ≡ length (line_of c.args.program.now c.args.names.now c.args.entry.now) = omega (arith, long) in
    c.in_ok-extend_from_slice.ensures.items
    ∙ ap (λ (t : List ℕ). c.args.out.now.items ++ t) (one_part c.args.program.now c.args.names.now c.args.entry.now _ _ spelled count)
