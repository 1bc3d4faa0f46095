use Rattle.std.proofs.Common.{arith}
use Rattle.std.proofs.lemmas.Option.{slice_get_within}
use Rattle.dim_transcribe.proofs.performing.performs.Goals as goal

pub returns : goal.returns
returns c = λ e. record {
  places = c.has_single_places.ensures c.if-not-has_single_places.false;
  threads = c.are_threads.ensures c.if-not-are_threads.false;
  each = λ k chain there.
      let same = c.are_threads.ensures c.if-not-are_threads.false in
      let low = slice_get_within c.args.kept.now.chains.items k chain there in
      c.perform_parts.ensures e k (omega (arith, same, low)) chain there;
}
