-- The text of a picture is well-formed.
use Rattle.std.specs.Prelude.{ℕ, List}
use Rattle.dim_asm.specs.Code.{Code, start_of, func_name_of}
use Rattle.dim_base.specs.declared.Lid.{Lid}
use Rattle.dim_rag.specs.declared.entry.Entry.{Entry}
use Rattle.dim_run.specs.declared.playing.Outcome.{Outcome}
use Rattle.dim_trace.specs.Text.{lock_word, name_at}
use Rattle.dim_picture.specs.declared.shape.Shape.{Shape}
use Rattle.dim_picture.specs.Page.{picture_text}
use Rattle.dim_picture.specs.Xml.{IsPlain, IsDocument}

-- each name of a lock, of a thread's function and of the table is plain, as all letters, digits and
-- underscores are
pub record HavePlainNames (p : Code) (names : List (List ℕ)) : Type 0 where
  pub locks : (l : Lid) → IsPlain (lock_word p l)
  pub funcs : (t : ℕ) → IsPlain (func_name_of p (start_of p t).func)
  pub table : (n : ℕ) → IsPlain (name_at names n)

-- where names are plain, the text of a picture is one element, in which each element is closed
abbrev pub DocumentLaw : Type 0
DocumentLaw = (p : Code) (names : List (List ℕ)) (fuel depth : ℕ) (entries : List Entry) (outcome : Outcome) (shapes : List Shape) (from to : ℕ)
    → HavePlainNames p names → IsDocument (picture_text p names fuel depth entries outcome shapes from to)
