-- What the crates above may cite of this crate's proofs. All else is its own.

-- Programs that are bound to a table of names.
pub use Rattle.dim_asm.proofs.BoundLemmas.{length-table_of}
-- Lines of a program's text, one more at a time.
pub use Rattle.dim_asm.proofs.Printed.{text-append}
-- Programs and their texts.
pub use Rattle.dim_asm.proofs.Texts.{text_again}
