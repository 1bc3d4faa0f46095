use Rattle.std.proofs.Common.{◌≡◌, ◌++◌, List, ℕ, sym, ap, ◌∙◌}
use Rattle.dim_stack.specs.Names.{table_of}
use Rattle.dim_asm.specs.Bound.{bound, own_names}
use Rattle.dim_signature.specs.Sig.{Sig}
use Rattle.dim_history_file.specs.Value.{named, numbered, names_used}
use Rattle.dim_inquiry.specs.Inputs.{Inputs, names_of, loaded_of}
use Rattle.dim_inquiry.specs.Inputs.{inputs_of}
use Rattle.dim_inquiry.proofs.binding.bound.Goals as goal

names_are : (x : Inputs) (used names : List (List ℕ)) → used ≡ table_of (names_used x.sigs) → names ≡ table_of (own_names x.program ++ used) → names ≡ names_of x
names_are x used names of_used of_names = of_names ∙ ap (λ u. table_of (own_names x.program ++ u)) of_used

loaded_are : (x : Inputs) (names now : List (List ℕ)) (sigs : List Sig) → names ≡ names_of x → now ≡ names → named now sigs ≡ x.sigs → numbered now (named now sigs) ≡ sigs → sigs ≡ loaded_of x
loaded_are x names now sigs is same value again = sym again ∙ ap (numbered now) value ∙ ap (λ n. numbered n x.sigs) (same ∙ is)

read_again : (x : Inputs) (names now : List (List ℕ)) (sigs : List Sig) → names ≡ names_of x → now ≡ names → named now sigs ≡ x.sigs → numbered now (named now sigs) ≡ sigs → named (names_of x) (loaded_of x) ≡ x.sigs
read_again x names now sigs is same value again =
    ap (λ n. named n (loaded_of x)) (sym (same ∙ is)) ∙ ap (named now) (sym (loaded_are x names now sigs is same value again)) ∙ value

pub returns-clause-program : goal.returns-clause-program
returns-clause-program c =
    let x = inputs_of c.args.inputs in
    c.bind.ensures.bound ∙ ap (λ n. bound n x.program) (names_are x c.args.inputs.history.names c.in_ok-names.names c.requires.names c.in_ok-names.ensures.names)

pub returns-clause-names : goal.returns-clause-names
returns-clause-names c =
    let x = inputs_of c.args.inputs in
    c.in_ok-history.ensures.names ∙ names_are x c.args.inputs.history.names c.in_ok-names.names c.requires.names c.in_ok-names.ensures.names

pub returns-clause-loaded : goal.returns-clause-loaded
returns-clause-loaded c =
    let x = inputs_of c.args.inputs in
    let h = c.in_ok-history.history in
    loaded_are x c.in_ok-names.names h.names h.catalogue.sigs (names_are x c.args.inputs.history.names c.in_ok-names.names c.requires.names c.in_ok-names.ensures.names) c.in_ok-history.ensures.names c.in_ok-history.ensures.value c.law.ensures.numbered

pub returns-clause-read : goal.returns-clause-read
returns-clause-read c =
    let x = inputs_of c.args.inputs in
    let h = c.in_ok-history.history in
    read_again x c.in_ok-names.names h.names h.catalogue.sigs (names_are x c.args.inputs.history.names c.in_ok-names.names c.requires.names c.in_ok-names.ensures.names) c.in_ok-history.ensures.names c.in_ok-history.ensures.value c.law.ensures.numbered
