-- The values of words, and the words that spell them.
use Rattle.std.proofs.Common.{◌≡◌, ◌∷◌, length, drop, Some, sym, ap, ◌∙◌}
use Rattle.dim_trace.specs.Keywords.{spelling, keyword_of}
use Rattle.dim_trace.specs.Judging.{first_of, births_of, stack_of, entry_in_words}
use Rattle.dim_trace.specs.Laws.{BirthsLaw, StackLaw, EntryLaw}
use Rattle.dim_trace.proofs.Accepting.{births_of_ok, stack_ok}
use Rattle.dim_trace.proofs.Moving.{entry_ok}
use Rattle.dim_trace.proofs.Again.{births_back, stack_back, back, keyword_back}

pub births_both : BirthsLaw
births_both n words births rest = (
  λ e. let h = births_of_ok n words (births, rest) e in (h.size, h.near, h.text),
  λ h. ap (λ k. births_of k words) (sym h.0) ∙ ap (births_of (length births)) h.2 ∙ births_back births rest h.1,
)

pub stack_both : StackLaw
stack_both names table words stack = (stack_ok names words stack, λ h. ap (stack_of names) h.1 ∙ stack_back names table stack h.0)

pub entry_both : EntryLaw
entry_both p names program table keyword words e = (
  λ h. let s = entry_ok p names keyword words e h in (s.is, s.text),
  λ h.
      let b = back names table p program.lock_names e h.0 in
      let same : spelling keyword ∷ words ≡ spelling b.keyword ∷ b.words = h.1 ∙ b.text in
      let found : Some keyword ≡ Some b.keyword = sym (keyword_back keyword) ∙ ap (λ ws. keyword_of (first_of ws)) same ∙ keyword_back b.keyword in
      let is : keyword ≡ b.keyword = cc (found) in
      ap (λ k. entry_in_words p names k words) is ∙ ap (entry_in_words p names b.keyword) (ap (drop 1) same) ∙ b.read,
)
