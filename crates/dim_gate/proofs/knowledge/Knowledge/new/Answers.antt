use Rattle.std.proofs.Common.{◌≡◌, ◌+◌, ◌≤◌, ◌∙◌, ap, sym, subst, take, length, max, List, [], arith}
use Rattle.std.proofs.Math.Seq.{take-length}
use Rattle.std.specs.Prelude.{None}
use Rattle.dim_cover.specs.Index.{Edges}
use Rattle.dim_signature.specs.Sig.{Sig}
use Rattle.dim_signature.specs.Catalogue.{Contents}
use Rattle.dim_gate.specs.Invariant.{IsGate}
use Rattle.dim_gate.proofs.Fresh.{fresh}
use Rattle.dim_gate.proofs.knowledge.Knowledge.new.Goals as goal

pub returns-clause-knows : goal.returns-clause-knows
returns-clause-knows c =
    let sigs : List Sig = c.args.loaded.sigs in
    let known = c.len-known.result in
    let catalogue : Contents = c.reserve.new.self in
    let same : catalogue.sigs ≡ sigs = c.reserve.ensures.sigs in
    let all : take known catalogue.sigs ≡ sigs = ap (λ (s : List Sig). take known s) same ∙ ap (λ k. take k sigs) c.len-known.ensures.len ∙ take-length sigs in
    let most : known + c.args.learns ≤ 4096 = omega (arith, c.len-known.ensures.len, c.requires.few_known) in
    let room : known + c.args.learns ≤ length catalogue.sigs + catalogue.spare = (let more : catalogue.spare ≡ max c.args.loaded.spare c.args.learns = c.in_ok-reserve.ensures.ok in let n : length catalogue.sigs ≡ length sigs = ap (λ (s : List Sig). length s) same in omega (arith, more, n, c.len-known.ensures.len)) in
    record {
      gate = subst (λ (l : List Sig). IsGate record { threads = c.args.threads; locks = c.args.locks; loaded = l; depth = c.args.depth; cap = known + c.args.learns; entries = []; spare = 0; feed = None } known catalogue) (sym all)
          (fresh c.args.threads c.args.locks c.args.depth (known + c.args.learns) 0 known sigs catalogue same c.len-known.ensures.len c.requires.low c.requires.high most room);
      edges = record { none = λ q. ap (λ (x : Edges). x.edges) c.in_ok-index.ensures; all = λ q. ap (λ (x : Edges). x.edges) c.in_ok-index.ensures };
      room = ap (λ (x : Edges). x.room) c.in_ok-index.ensures;
      shelved = c.in_ok-shelf.ensures.shelf;
      shelf_room = (let n : length catalogue.sigs ≡ length sigs = ap (λ (s : List Sig). length s) same in omega (arith, n, c.in_ok-shelf.ensures.spare, c.len-known.ensures.len));
    }

pub returns-clause-loaded : goal.returns-clause-loaded
returns-clause-loaded c = ap (λ (s : List Sig). take c.len-known.result s) c.reserve.ensures.sigs ∙ ap (λ k. take k c.args.loaded.sigs) c.len-known.ensures.len ∙ take-length c.args.loaded.sigs
