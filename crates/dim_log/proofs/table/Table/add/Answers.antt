use Rattle.std.proofs.Common.{ap, ◌∙◌, not}
use Rattle.std.specs.List.{list_any}
use Rattle.std.specs.Str.{bytes_eq}
use Rattle.dim_log.specs.Tables.{with_new}
use Rattle.dim_log.proofs.Once.{has_bytes, inserted, stands}
use Rattle.dim_log.proofs.table.Table.add.Goals as goal

pub returns-clause-words : goal.returns-clause-words
returns-clause-words c =
    inserted c.self.inside.places.keys c.insert_full.new.self.keys c.args.word c.in_ok-place.ensures.keys
    ∙ ap (λ ks. with_new bytes_eq ks c.args.word.now) c.self.view_is

pub returns-clause-word : goal.returns-clause-word
returns-clause-word c =
    let s = c.in_ok-place.ensures.stored in
    stands c.insert_full.new.self.keys c.args.word s.0 c.in_ok-place.place s.1 s.2

pub returns-clause-new : goal.returns-clause-new
returns-clause-new c =
    c.in_ok-place.ensures.added ∙ ap not (has_bytes c.args.word c.self.inside.places.keys)
    ∙ ap (λ ks. not (list_any (bytes_eq c.args.word.now) ks)) c.self.view_is
