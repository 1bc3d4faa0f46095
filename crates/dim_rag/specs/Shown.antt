-- The entry that a reference shows.
use Rattle.std.specs.Prelude.{◌≤◌, ⊤, length}
use Rattle.dim_rag.specs.declared.entry.Entry.{Entry}
use Rattle.dim_rag.specs.declared.entry.Entry.TheVariants.{Go, Yield, Got, Free, Took, Miss, End, Break, Learn}
use Rattle.dim_rag.specs.declared.entry.MissWhy.TheVariants.{Busy, Avoid}
use Rattle.dim_rag.specs.declared.entry_ref.EntryRef.{EntryRef}
use Rattle.dim_rag.specs.declared.entry_ref.EntryRef.TheVariants as by

abbrev pub shown : EntryRef → Entry
shown (by.Go t l s) = Go t l s.now
shown (by.Yield t l s sig births) = Yield t l s.now sig births.now
shown (by.Got t l) = Got t l
shown (by.Free t l) = Free t l
shown (by.Took t l s) = Took t l s.now
shown (by.MissBusy t l s holder) = Miss t l s.now (Busy holder)
shown (by.MissAvoid t l s sig births) = Miss t l s.now (Avoid record { sig = sig; births = births.now })
shown (by.End t why) = End t why
shown (by.Break set t) = Break set t
shown (by.Learn births) = Learn births.now

-- the frames of an entry by reference are those of a stack, 1 to 32, if it has some
abbrev pub HasStack : EntryRef → Type 0
HasStack (by.Go t l s) = (1 ≤ length s.now) × (length s.now ≤ 32)
HasStack (by.Yield t l s sig births) = (1 ≤ length s.now) × (length s.now ≤ 32)
HasStack (by.Got t l) = ⊤
HasStack (by.Free t l) = ⊤
HasStack (by.Took t l s) = (1 ≤ length s.now) × (length s.now ≤ 32)
HasStack (by.MissBusy t l s holder) = (1 ≤ length s.now) × (length s.now ≤ 32)
HasStack (by.MissAvoid t l s sig births) = (1 ≤ length s.now) × (length s.now ≤ 32)
HasStack (by.End t why) = ⊤
HasStack (by.Break set t) = ⊤
HasStack (by.Learn births) = ⊤
