use Rattle.std.proofs.Common.{◌≡◌, ◌++◌, ◌<◌, length, get_or, take, codes, sym, ap, ◌∙◌, arith}
use Rattle.std.specs.Fmt.{decimal}
use Rattle.std.proofs.lemmas.List.{take_all}
use Rattle.std.proofs.lemmas.Option.{slice_get-get_or}
use Rattle.dim_inquiry.specs.Report.{by_number}
use Rattle.dim_commands.specs.Depths.{depth_line}
use Rattle.dim_commands.proofs.TellingLemmas.{lines_more, pairs, pairs_count}
use Rattle.dim_commands.proofs.telling.depths_text.Goals as goal

pub loop-i-init : goal.loop-i-init
unfolding by_number
loop-i-init c = c.new-text.ensures.bytes

pub loop-i-preserved : goal.loop-i-preserved
loop-i-preserved c =
    let sigs = c.args.loaded.now.sigs in
    let least = c.args.least.now in
    let i = c.loop-i.i in
    let d = get_or least i 0 in
    let low : i < length least = omega (arith, c.loop-i-test.true, c.len-count.ensures.len, c.requires) in
    c.in_ok-put_depth.ensures
    ∙ ap (λ t. t ++ depth_line i (c.depth.result, d)) c.loop-i.invariant
    ∙ ap (λ n. by_number depth_line 0 (take i (pairs sigs least)) ++ depth_line i (n, d)) c.depth.ensures.depth
    ∙ sym (lines_more sigs least i c.get.result.now d c.get.ensures.value (slice_get-get_or least i 0 low))

pub returns : goal.returns
returns c =
    let sigs = c.args.loaded.now.sigs in
    let least = c.args.least.now in
    let all : take c.loop-i.i (pairs sigs least) ≡ pairs sigs least = take_all c.loop-i.i (pairs sigs least) (omega (arith, c.loop-i-test.false, c.len-count.ensures.len, pairs_count sigs least c.requires)) in
    c.in_ok-writeln.ensures.bytes
    ∙ ap (λ t. t ++ (codes "signatures " ++ (decimal c.len-count.result ++ codes "\n"))) (c.loop-i.invariant ∙ ap (by_number depth_line 0) all)
    ∙ ap (λ n. by_number depth_line 0 (pairs sigs least) ++ (codes "signatures " ++ (decimal n ++ codes "\n"))) c.len-count.ensures.len
