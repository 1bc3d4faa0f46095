-- Two commands that report on what was judged refuse alike.
use Rattle.std.proofs.Common.{◌≡◌, List, Result, Ok, Err, ap}
use Rattle.dim_base.specs.Files.{Named}
use Rattle.dim_inquiry.specs.declared.report.Report.{Report}
use Rattle.dim_words.specs.Words.{CheckWords}
use Rattle.dim_inquiry.specs.declared.stop.Refusal.{Refusal}
use Rattle.dim_inquiry.specs.Course.{Call, go_on, gives}
use Rattle.dim_inquiry.specs.Judging.{Given, judged_course, reports_on}

-- two commands that report on it refuse alike
refused : (calls : List Call) (ending : Result Given Refusal) (f g : Given → Report) (r : Refusal) → (go_on calls ending (λ x. gives (f x))).ending ≡ Err r → (go_on calls ending (λ x. gives (g x))).ending ≡ Err r
refused calls (Ok a) f g r e = absurd (let z : ◌≡◌ {A = Result Report Refusal} (Ok (f a)) (Err r) = e in cc)
refused calls (Err q) f g r e = (let same : q ≡ r = cc in ap Err same)

pub alike : (f g : Given → Report) (files : Named) (w : CheckWords) (r : Refusal) → (reports_on f files w).ending ≡ Err r → (reports_on g files w).ending ≡ Err r
unfolding reports_on
alike f g files w r e = refused (judged_course files w).calls (judged_course files w).ending f g r e
