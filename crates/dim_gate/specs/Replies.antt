-- Replies by which a thread has a lock, or has given it back.
use Rattle.std.specs.Prelude.{Bool, true, false}
use Rattle.dim_rag.specs.declared.command.Reply.{Reply}
use Rattle.dim_rag.specs.declared.command.Reply.TheVariants as reply

-- whether a reply is Got
abbrev pub is_got : Reply → Bool
is_got reply.Got = true
is_got _ = false

-- whether a reply is Freed
abbrev pub is_freed : Reply → Bool
is_freed reply.Freed = true
is_freed _ = false
