use Rattle.std.proofs.Common.{◌≡◌, ◌++◌, length}
use Rattle.std.specs.Vec.Iter.{into_iter_items, into_iter_len}
use Rattle.dim_history_file.specs.Value.{named, AreNamed}
use Rattle.dim_history_file.proofs.renaming.renamed_catalogue.Given as goal

abbrev pub invariant-loop-sig : goal.invariant-loop-sig
invariant-loop-sig l = record {
  order : l.yielded ++ into_iter_items l.sig-iterator ≡ into_iter_items l.initial.sig-iterator;
  left : into_iter_len l.sig-iterator ≡ length (into_iter_items l.sig-iterator);
  same : named l.to l.catalogue.sigs ≡ named l.from l.yielded;
  named : AreNamed l.to l.catalogue.sigs;
}
