-- The tables of names.
use Rattle.dim_asm.specs.declared.linker.Tables as code
use Rattle.dim_asm.specs.Linking.{Tables}

abbrev pub seen : code.Tables → Tables
seen t = record { locks = t.locks.now; names = t.names.now }
