-- What words ask for, by the command that they are.
use Rattle.std.proofs.Common.{◌≡◌, ℕ, List, Option, Some, None, Result, refl, ap, ◌∙◌, subst}
use Rattle.dim_base.specs.Files.{Named}
use Rattle.dim_inquiry.specs.declared.report.Report.{Report}
use Rattle.dim_inquiry.specs.declared.stop.Refusal.TheVariants as refusals
use Rattle.dim_inquiry.specs.declared.stop.Stop.{Stop}
use Rattle.dim_inquiry.specs.Course.{wants, ◌>>=◌}
use Rattle.dim_words.specs.Words.{Asked, Run, Live, Immunize, Check, Why, Depths, Predict, Show, Generate, Switch, command_of}
use Rattle.dim_cli.specs.Quiet.{quiet_command, unless_live}
use Rattle.dim_cli.specs.Courses.{course, course_of}
use Rattle.dim_cli.specs.Top.{IsOfWords}

of_asked : (files : Named) (a : Asked) → course_of files a ≡ (wants (unless_live (Some a)) refusals.Words >>= course_of files)
of_asked files (Run w) = refl
of_asked files (Live w) = refl
of_asked files (Immunize w) = refl
of_asked files (Check w) = refl
of_asked files (Why w) = refl
of_asked files (Depths w) = refl
of_asked files (Predict w) = refl
of_asked files (Show name) = refl
of_asked files (Generate n name) = refl
of_asked files (Switch w) = refl

pub course_is : (words : List (List ℕ)) (files : Named) (a : Asked) → Some a ≡ command_of words → course_of files a ≡ course words files
course_is words files a e = of_asked files a ∙ ap (λ o. wants (unless_live o) refusals.Words >>= course_of files) e

same_asked : (a b : Asked) → ◌≡◌ {A = Option Asked} (Some a) (Some b) → a ≡ b
same_asked a b e = cc

by_quiet : (a b : Asked) → unless_live (Some a) ≡ Some b → a ≡ b
by_quiet (Run w) b e = same_asked (Run w) b e
by_quiet (Live w) b e = absurd (let none : ◌≡◌ {A = Option Asked} None (Some b) = e in cc)
by_quiet (Immunize w) b e = same_asked (Immunize w) b e
by_quiet (Check w) b e = same_asked (Check w) b e
by_quiet (Why w) b e = same_asked (Why w) b e
by_quiet (Depths w) b e = same_asked (Depths w) b e
by_quiet (Predict w) b e = same_asked (Predict w) b e
by_quiet (Show name) b e = same_asked (Show name) b e
by_quiet (Generate n name) b e = same_asked (Generate n name) b e
by_quiet (Switch w) b e = same_asked (Switch w) b e

pub asked_is : (words : List (List ℕ)) (a b : Asked) → Some a ≡ command_of words → quiet_command words ≡ Some b → a ≡ b
asked_is words a b e is = by_quiet a b (ap unless_live e ∙ is)

pub of_words : (words : List (List ℕ)) (a : Asked) (result : Result Report Stop) → Some a ≡ command_of words → IsOfWords (unless_live (Some a)) result → IsOfWords (quiet_command words) result
of_words words a result e h = subst (λ o. IsOfWords (unless_live o) result) e h
