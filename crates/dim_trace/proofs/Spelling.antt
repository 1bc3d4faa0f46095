-- A line whose words spell an entry is taken as that entry.
use Rattle.std.proofs.Common.{◌≡◌, ℕ, List, ◌∷◌, length, false, Option, Some, Result, Ok, Err, IfSome, IfOk, ap, ◌∙◌}
use Rattle.std.proofs.lemmas.Bool.{leb-false}
use Rattle.std.specs.Result.{result_ok}
use Rattle.dim_text.specs.Reading.{Gives}
use Rattle.dim_stack.specs.Names.{IsTable}
use Rattle.dim_asm.specs.Code.{Code, IsProgram}
use Rattle.dim_rag.specs.declared.entry.Entry.{Entry}
use Rattle.dim_rag.specs.declared.entry_ref.EntryRef.{EntryRef}
use Rattle.dim_rag.specs.Shown.{HasStack, shown}
use Rattle.dim_trace.specs.declared.fault.TraceKind.{TraceKind}
use Rattle.dim_trace.specs.declared.keyword.Keyword.{Keyword}
use Rattle.dim_trace.specs.Keywords.{spelling, keyword_of}
use Rattle.dim_trace.specs.Judging.{entry_in_words, is_full, with_entry, due_line}
use Rattle.dim_trace.specs.Value.{TraceValue}
use Rattle.dim_trace.proofs.Accepting.{Words}
use Rattle.dim_trace.proofs.Moving.{keyword_ok, entry_ok}
use Rattle.dim_trace.proofs.Again.{back, entry_words}

spelled : (p : Code) (names : Words) → IsProgram p → IsTable names → (trace : TraceValue) (word : List ℕ) (words : Words) (k : Keyword) (e : Entry)
    → keyword_of word ≡ Some k → entry_in_words p names k words ≡ Ok e → is_full trace ≡ false → due_line p names trace (word ∷ words) ≡ Ok (with_entry trace e)
spelled p names program table trace word words k e known read room =
    let s = entry_ok p names k words e read in
    let b = back names table p program.lock_names e s.is in
    let same : word ∷ words ≡ spelling b.keyword ∷ b.words = ap (λ w. w ∷ words) (keyword_ok word k known) ∙ s.text ∙ b.text in
    ap (due_line p names trace) same ∙ entry_words p names program.lock_names table trace e b (leb-false 1048576 (length trace.entries) room)

-- the entry that was read of the words behind a line's keyword
pub spelled_by : (p : Code) (names : Words) → IsProgram p → IsTable names → (word : List ℕ) (rest words : Words) (k : Keyword) (r : Result EntryRef TraceKind) (found : Option EntryRef) → words ≡ word ∷ rest
    → keyword_of word ≡ Some k → Gives Some shown r (entry_in_words p names k rest) → found ≡ result_ok r
    → IfSome found (λ e. (trace : TraceValue) → is_full trace ≡ false → due_line p names trace words ≡ Ok (with_entry trace (shown e)))
spelled_by p names program table word rest words k (Ok e) found line known read is =
    rw (is) (λ trace room. ap (due_line p names trace) line ∙ spelled p names program table trace word rest k (shown e) known read room)
spelled_by p names program table word rest words k (Err kind) found line known read is = rw (is) tt

-- it has a stack, if its kind has one
pub stack_kept : (r : Result EntryRef TraceKind) (found : Option EntryRef) → IfOk r HasStack → found ≡ result_ok r → IfSome found HasStack
stack_kept (Ok e) found has is = rw (is) has
stack_kept (Err kind) found has is = rw (is) tt
