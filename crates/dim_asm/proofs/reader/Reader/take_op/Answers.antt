use Rattle.std.proofs.Common.{◌≡◌, ◌+◌, ◌-◌, ◌<◌, length, map, set, arith, sym, ap, ◌∙◌}
use Rattle.dim_asm.specs.Source.{with_draft, draft_count, Source}
use Rattle.dim_asm.specs.Seen.{seen_draft}
use Rattle.dim_asm.proofs.SourceLemmas.{with_draft-set, names-with_draft, draft_count-with_draft}
use Rattle.dim_asm.proofs.reader.Reader.take_op.Goals as goal

grown : (c : goal.After-self-2-1) → set c.args.self.now.funcs.items (c.len-last.result - 1) c.push.new.self ≡ with_draft (seen_draft c.args.draft) c.args.self.now.funcs.items
grown c =
    let last : c.len-last.result - 1 + 1 ≡ length c.args.self.now.funcs.items = omega (arith, c.args.self.now.funcs.ok.0) in
    ap (set c.args.self.now.funcs.items (c.len-last.result - 1)) c.in_ok-push.ensures
    ∙ with_draft-set (seen_draft c.args.draft) c.args.self.now.funcs.items (c.len-last.result - 1) c.index_mut-func.result.now last c.index_mut-func.ensures.value

pub returns-clause-taken : goal.returns-clause-taken
returns-clause-taken c = ap (λ fs. let s : Source = record { locks = c.args.self.now.locks; funcs = fs; threads = c.args.self.now.threads.items } in s) (grown c)

pub returns-clause-counted : goal.returns-clause-counted
returns-clause-counted c =
    let funcs = c.args.self.now.funcs.items in
    let some : 0 < length funcs = omega (arith, c.args.self.now.funcs.ok.0) in
    record {
      names = c.requires.counted.names ∙ sym (names-with_draft (seen_draft c.args.draft) funcs) ∙ ap (map (λ f. f.name)) (sym (grown c));
      ops = ap (λ n. n + 1) c.requires.counted.ops ∙ sym (draft_count-with_draft (seen_draft c.args.draft) funcs some) ∙ ap draft_count (sym (grown c));
    }
