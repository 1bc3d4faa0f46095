-- What a line that is read from the text says, by the bytes of its names.
use Rattle.dim_asm.specs.declared.draft.Draft as code
use Rattle.dim_asm.specs.declared.draft.Draft.TheVariants as draft
use Rattle.dim_asm.specs.declared.statement.Statement as line
use Rattle.dim_asm.specs.declared.statement.Statement.TheVariants as statement
use Rattle.dim_asm.specs.Source.{Draft, Ready, Refers, Statement, Head, LockLine, FuncLine, OpLine, EndLine, ThreadLine, Close}

abbrev pub seen_draft : code.Draft → Draft
seen_draft (draft.Ready op) = Ready op
seen_draft (draft.Refers naming name) = Refers naming name.now

abbrev pub seen_statement : line.Statement → Statement
seen_statement statement.Head = Head
seen_statement (statement.Lock name) = LockLine name.now
seen_statement (statement.Func name locals) = FuncLine name.now locals
seen_statement (statement.Op draft) = OpLine (seen_draft draft)
seen_statement statement.End = EndLine
seen_statement (statement.Thread func argument) = ThreadLine func.now argument
seen_statement statement.Close = Close
