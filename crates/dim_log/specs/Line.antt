-- The parts of a line, and what they say.
use Rattle.std.specs.Prelude.{ℕ, List, length, Result, Ok}
use Rattle.dim_text.specs.Cuts.{words_of}
use Rattle.dim_text.specs.Reading.{◌>>=◌}
use Rattle.dim_log.specs.declared.log.LogFaultKind.{LogFaultKind}
use Rattle.dim_log.specs.declared.line.Site.{Site}
use Rattle.dim_log.specs.declared.line.Deed.{Deed}
use Rattle.dim_log.specs.declared.line.Deed.TheVariants as deed
use Rattle.dim_log.specs.declared.line.Line.{Line}
use Rattle.dim_log.specs.Value.{SaidFrame, Said, SaidLock, SaidTry, SaidUnlock, SaidStart, SaidJoin}
use Rattle.dim_log.specs.Saying.{frames_of}

-- the stack at a site
abbrev pub stack_at_site : Site → Result (List SaidFrame) LogFaultKind
stack_at_site s = frames_of (words_of s.frames.now)

-- what a deed of a thread says
abbrev pub said_deed : List ℕ → Deed → Result Said LogFaultKind
said_deed thread (deed.Lock s) = stack_at_site s >>= λ stack. Ok (SaidLock thread s.lock.now stack)
said_deed thread (deed.Try s took) = stack_at_site s >>= λ stack. Ok (SaidTry thread s.lock.now took stack)
said_deed thread (deed.Unlock s) = stack_at_site s >>= λ stack. Ok (SaidUnlock thread s.lock.now stack)
said_deed thread (deed.Start other) = Ok (SaidStart thread other.now)
said_deed thread (deed.Join other) = Ok (SaidJoin thread other.now)

abbrev pub said_line : Line → Result Said LogFaultKind
said_line l = said_deed l.thread.now l.deed

-- how many words the frames of a deed have
abbrev pub frame_words : Deed → ℕ
frame_words (deed.Lock s) = length (words_of s.frames.now)
frame_words (deed.Try s took) = length (words_of s.frames.now)
frame_words (deed.Unlock s) = length (words_of s.frames.now)
frame_words (deed.Start other) = 0
frame_words (deed.Join other) = 0

-- what parts say, where they were found
abbrev pub found_site : Result Site LogFaultKind → Result (List ℕ × List SaidFrame) LogFaultKind
found_site found = found >>= λ s. stack_at_site s >>= λ stack. Ok (s.lock.now, stack)

abbrev pub found_deed : List ℕ → Result Deed LogFaultKind → Result Said LogFaultKind
found_deed thread found = found >>= said_deed thread

abbrev pub found_line : Result Line LogFaultKind → Result Said LogFaultKind
found_line found = found >>= said_line
