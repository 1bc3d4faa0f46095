-- The entries that commands make.
use Rattle.std.specs.Prelude.{Option, Some, None}
use Rattle.dim_base.specs.declared.Tid.{Tid}
use Rattle.dim_rag.specs.declared.command.Command.{Command}
use Rattle.dim_rag.specs.declared.command.Command.TheVariants.{Request, Acquire, Release, Try, End, Break, Learn}
use Rattle.dim_rag.specs.declared.command.Reply.{Reply}
use Rattle.dim_rag.specs.declared.command.Reply.TheVariants as reply
use Rattle.dim_rag.specs.declared.entry.Entry.{Entry}
use Rattle.dim_rag.specs.declared.entry.Entry.TheVariants as entry
use Rattle.dim_rag.specs.declared.entry.MissWhy.TheVariants.{Busy, Avoid}

-- the entry that t's or the tender's command makes, by the reply to it
abbrev pub entry_by : Tid → Command → Reply → Option Entry
entry_by t (Request l s) reply.Go = Some (entry.Go t l s)
entry_by t (Request l s) (reply.Yield n) = Some (entry.Yield t l s n.sig n.births)
entry_by t (Request l s) reply.Took = Some (entry.Took t l s)
entry_by t (Acquire l) reply.Got = Some (entry.Got t l)
entry_by t (Release l) reply.Freed = Some (entry.Free t l)
entry_by t (Try l s) reply.Took = Some (entry.Took t l s)
entry_by t (Try l s) (reply.MissBusy holder) = Some (entry.Miss t l s (Busy holder))
entry_by t (Try l s) (reply.MissAvoid n) = Some (entry.Miss t l s (Avoid n))
entry_by t (End why) reply.Ended = Some (entry.End t why)
entry_by t (Break set u) (reply.Broken v) = Some (entry.Break set u)
entry_by t (Learn births) (reply.Learnt i) = Some (entry.Learn births)
entry_by t _ _ = None
