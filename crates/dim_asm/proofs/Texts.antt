-- Programs and their texts.
use Rattle.std.proofs.Common.{◌≡◌, ℕ, List, Ok, [], sym, ap, ◌∙◌, subst}
use Rattle.dim_text.specs.Reading.{◌>>=◌}
use Rattle.dim_text.proofs.Exports.{bind_ok}
use Rattle.dim_asm.specs.Code.{Code}
use Rattle.dim_asm.specs.Source.{Source}
use Rattle.dim_asm.specs.Judging.{source_of}
use Rattle.dim_asm.specs.Linking.{link}
use Rattle.dim_asm.specs.Spelling.{source_text}
use Rattle.dim_asm.specs.Bound.{own_names, bound}
use Rattle.dim_asm.specs.Assembling.{program_of}
use Rattle.dim_asm.specs.Printing.{named, program_text, IsPrintable}
use Rattle.dim_asm.proofs.BoundLemmas.{last}
use Rattle.dim_asm.proofs.Sources.{read_again, spelled_back}
use Rattle.dim_asm.proofs.Naming.{linked_back, named-bound, own_names-bound, bound_printable}
use Rattle.dim_asm.proofs.Unlinked.{linked_again, named_source}

-- what is known of a text and the program that it spells
pub record IsText (bytes : List ℕ) (p : Code) : Type 0 where
  pub text : bytes ≡ program_text p
  pub printable : IsPrintable p
  pub own : bound (own_names p) p ≡ p

abbrev owned : Code → Code
owned p = bound (own_names p) p

own_again : (p : Code) → owned (owned p) ≡ owned p
own_again p = ap (λ names. bound names (owned p)) (own_names-bound (own_names p) p) ∙ last (own_names p) (own_names p) p

is_text : (bytes : List ℕ) (s : Source) (p : Code) → source_of bytes ≡ Ok s → link s ≡ Ok p → IsText bytes (owned p)
is_text bytes s p read linked =
    let back = spelled_back bytes s read in
    let source = linked_back s p back.0 linked in
    record {
      text = sym (ap source_text (named-bound (own_names p) p ∙ source.0) ∙ back.1);
      printable = bound_printable (own_names p) p source.1;
      own = own_again p;
    }

-- a text that spells a program is the text of that program
pub text_back : (bytes : List ℕ) (p : Code) → program_of bytes ≡ Ok p → IsText bytes p
text_back bytes p e =
    let first = bind_ok (source_of bytes) (λ s. link s >>= λ q. Ok (owned q)) p e in
    let second = bind_ok (link first.0) (λ q. Ok (owned q)) p first.2 in
    let same : owned second.0 ≡ p = cc (second.2) in
    subst (IsText bytes) same (is_text bytes first.0 second.0 first.1 second.1)

-- the text of a program spells that program
pub text_again : (p : Code) → IsPrintable p → program_of (program_text p) ≡ Ok (owned p)
text_again p h =
    let read = read_again (named p) (named_source p h) in
    ap (λ r. r >>= λ s. link s >>= λ q. Ok (owned q)) read
    ∙ ap (λ r. r >>= λ q. Ok (owned q)) (linked_again p h.program)
    ∙ ap (λ names. Ok (bound names (bound [] p))) (own_names-bound [] p)
    ∙ ap Ok (last (own_names p) [] p)
