-- What the crates above may cite of this crate's proofs. All else is its own.

-- Bytes that were fetched stand under their names.
pub use Rattle.dim_inquiry.proofs.UnderLemmas.{there, under}
-- The parts of what is read for a run, and of what is judged.
pub use Rattle.dim_inquiry.proofs.InputLemmas.{inputs, behind_history as behind_read, behind_program as behind_assembled}
pub use Rattle.dim_inquiry.proofs.CheckLemmas.{texts, the_program, the_trace, behind_history, behind_program, given, behind_inputs, behind_given, behind_texts}
-- How a prediction goes on with what is judged, and where it ends.
pub use Rattle.dim_inquiry.proofs.PredictLemmas.{behind_judging, behind_foretelling, foretelling_by, few_so, ends_foretold}
-- One course after another, and how far it came.
pub use Rattle.dim_inquiry.proofs.CourseLemmas.{Stops-first, Runs-behind, unchanged, later}
-- Where a command that judges a trace ends.
pub use Rattle.dim_inquiry.proofs.ReportedLemmas.{at_judging, at_building, at_report}
-- The texts of values in a row, with one more.
pub use Rattle.dim_inquiry.proofs.ReportLemmas.{by_number_from, by_number_more}
