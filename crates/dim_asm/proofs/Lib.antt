mod SymbolLemmas
mod TableLemmas
mod SourceLemmas
mod LinkLemmas
mod Linked
mod Judgements
mod Fitting
mod Endings
mod BoundLemmas
mod Printed
mod Judged
mod Sources
mod Naming
mod Unlinked
mod Texts
mod FirstLine
pub mod Exports
