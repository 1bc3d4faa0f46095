use Rattle.std.proofs.Common.{rules, ◌≡◌, ◌≤◌, ◌<◌, ◌+◌, ◌-◌, ◌^◌, ◌++◌, [], List, min, length, take, ℕ, IfSome, subst}
use Rattle.std.specs.Option.{option_map}
use Rattle.dim_base.proofs.StreamLemmas.{whole}
use Rattle.dim_base.proofs.streams.read_all.Goals as goal

pub returns-in-Ok-2-clause-bytes : goal.returns-in-Ok-2-clause-bytes
returns-in-Ok-2-clause-bytes g c =
    let bytes = c.read_to_end.new.buf.items in
    let n = min (c.args.limit + 1) (2 ^ 64 - 1) in
    let low : length bytes ≤ c.args.limit = search rules in
    let few : length bytes < n = search rules in
    let all : IfSome (option_map (take n) (g.F.Read.remaining c.args.file)) (λ xs. bytes ≡ [] ++ xs) =
    rw (← c.saturating_add.ensures) (rw (← c.take.ensures.limit) (rw (← c.take.ensures.inner) (subst (λ (start : List ℕ). IfSome (option_map (take c.take.result.limit) (g.F.Read.remaining c.take.result.inner)) (λ xs. bytes ≡ start ++ xs)) c.new-bytes.ensures.items c.in-Ok-2.ensures.bytes))) in
    rw c.from_vec.ensures (whole (g.F.Read.remaining c.args.file) c.args.limit n bytes all low few)
