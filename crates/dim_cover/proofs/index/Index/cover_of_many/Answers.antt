use Rattle.std.proofs.Common.{◌≡◌, ◌++◌, ◌∷◌, [], ◌∙◌, List, ap, arith}
use Rattle.dim_cover.specs.declared.candidate.Candidate.{Candidate}
use Rattle.dim_cover.specs.Candidates.{candidates}
use Rattle.dim_cover.proofs.Near.{alone, found}
use Rattle.dim_cover.proofs.index.Index.cover_of_many.Goals as goal

pub search-requires-clause-only : goal.search-requires-clause-only
search-requires-clause-only c =
    let s = c.args.sig.now in
    let whole : c.deref.result.now ≡ candidates s.depth s.stacks c.args.self.now.edges ++ c.args.new ∷ [] = c.deref.ensures.0 ∙ c.push.ensures.items ∙ ap (λ (cs : List Candidate). cs ++ c.args.new ∷ []) (c.gather.ensures.items (c.gather.ensures.most (omega arith))) in
    alone c.args.self.now.edges c.args.new_edge.now s c.requires.sorted c.args.new c.requires.near c.deref.result.now whole

pub returns : goal.returns
returns c =
    let s = c.args.sig.now in
    let whole : c.deref.result.now ≡ candidates s.depth s.stacks c.args.self.now.edges ++ c.args.new ∷ [] = c.deref.ensures.0 ∙ c.push.ensures.items ∙ ap (λ (cs : List Candidate). cs ++ c.args.new ∷ []) (c.gather.ensures.items (c.gather.ensures.most (omega arith))) in
    found c.args.self.now.edges c.args.new_edge.now s c.requires.sorted c.args.new c.requires.near c.deref.result.now whole c.new.result c.deref-2.result.now c.search.result c.new.ensures (c.deref-2.ensures.0 ∙ c.groups.ensures) c.search.ensures.births
