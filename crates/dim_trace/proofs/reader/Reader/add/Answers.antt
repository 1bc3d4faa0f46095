use Rattle.std.proofs.Common.{◌<◌, arith}
use Rattle.std.specs.Prelude.{nat_le}
use Rattle.std.proofs.lemmas.Bool.{leb-false}
use Rattle.dim_text.specs.Cuts.{words_of}
use Rattle.dim_rag.specs.Shown.{shown}
use Rattle.dim_trace.proofs.Moving.{entry_line_ok}
use Rattle.dim_trace.proofs.reader.Reader.add.Goals as goal

pub add-requires-clause-few : goal.add-requires-clause-few
add-requires-clause-few c =
    let n = c.len-full.result in
    let read = entry_line_ok c.args.program.now c.args.names.now (nat_le 1048576 n) (words_of c.args.line.now) (shown c.in_ok-entry.entry) c.in_ok-entry.ensures.value in
    let room : n < 1048576 = leb-false 1048576 n read.0 in
    omega (arith, room, c.len-full.ensures)
