use Rattle.std.proofs.lemmas.Result.{on_ok_weaker}
use Rattle.dim_generate.proofs.Drawing.{caller_put}
use Rattle.dim_generate.proofs.generating.put_caller.Goals as goal

pub returns : goal.returns
returns c = on_ok_weaker c.put_lines-2.result (caller_put c.args.number c.args.a c.args.b c.args.c c.args.d _ _ _ _ _ c.in_ok-put_head.ensures c.in_ok-put_lines.ensures c.in_ok-put_calls.ensures) c.put_lines-2.ensures
