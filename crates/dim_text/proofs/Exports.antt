-- What the crates above may cite of this crate's proofs. All else is its own.

-- Cutting undoes spelling, and spelling undoes cutting.
pub use Rattle.dim_text.proofs.Cutting.{frame_word-sides_of, line_of-words_of, lines_of-ended, sides_of-frame_word, text_of-lines_of, words_of-line_of}
-- Numbers and their digits.
pub use Rattle.dim_text.proofs.Digits.{HasNo-decimal, is_number-decimal, number_of-Some, number_of-decimal, signed_of-Some, signed_of-signed_decimal}
-- Names as texts.
pub use Rattle.dim_text.proofs.NameLemmas.{HasNo-name}
-- The first fault of a text, by its place.
pub use Rattle.dim_text.proofs.Placing.{first_fault, first_is_read}
-- Reading line by line, over any steps.
pub use Rattle.dim_text.proofs.ReadingLemmas.{Fails-bind, Spells, bind_ok, in_line_ok, or_else_ok, read_from-last, read_from-line, read_from-none, read_from-spelled, read_from-step}
-- A list cut at its first separator.
pub use Rattle.dim_text.proofs.Splitting.{some_part}
-- What is so where words are taken.
pub use Rattle.dim_text.proofs.WordLemmas.{chosen, filled_ok, number_from_ok, one_word_ok, two_words_ok, unless_ok}
