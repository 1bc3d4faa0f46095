use Rattle.std.proofs.Common.{◌≡◌, Some, Ok, subst}
use Rattle.dim_text.specs.Reading.{Gives}
use Rattle.dim_text.proofs.Exports.{in_line_ok}
use Rattle.dim_asm.specs.Faults.{fault}
use Rattle.dim_asm.specs.Judging.{judged}
use Rattle.dim_asm.specs.Reader.{read}
use Rattle.dim_asm.specs.Seen.{seen_statement}
use Rattle.dim_asm.proofs.Judgements.{judged_placed}
use Rattle.dim_asm.proofs.Fitting.{room}
use Rattle.dim_asm.proofs.reader.Reader.step.Goals as goal

pub take-requires-clause-room : goal.take-requires-clause-room
take-requires-clause-room c =
    let at = c.args.self.now.stage in
    let s = read c.args.self.now in
    let x = seen_statement c.in_ok-statement.statement in
    let taken : c.judge.result ≡ Ok c.in_ok-statement.statement = in_line_ok fault c.args.number c.judge.result c.in_ok-statement.statement c.in_ok-statement.ensures in
    let is : judged at s c.args.line.now ≡ Ok x = subst (λ r. Gives (λ k. Some k) seen_statement r (judged at s c.args.line.now)) taken c.judge.ensures in
    let placed = judged_placed at s c.args.line.now x is in
    room at s x c.requires.fits.at c.requires.fits.front placed.follows placed.place
