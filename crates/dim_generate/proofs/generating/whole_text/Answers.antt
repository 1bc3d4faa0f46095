use Rattle.dim_generate.proofs.Drawing.{whole_put}
use Rattle.dim_generate.proofs.generating.whole_text.Goals as goal

pub returns : goal.returns
returns c = whole_put c.args.n c.words_of-words.result _ _ _ c.words_of-words.ensures c.in_ok-text.ensures.ok c.in_ok-put_all.ensures c.in_ok-push_str.ensures.bytes
