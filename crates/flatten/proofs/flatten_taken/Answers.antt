-- `flatten_taken` answers as the definitions' flattening does, for a taken book, and leaves the output so.
-- Tests 12, 11, 13 and 14 in their order; a routine that passes them is written. Assumes nothing.
use borrow.Author.Rules.{rules}
use Rattle.book.specs.Told.{name_told}
use Rattle.flatten.proofs.Answers.{routine_refused, flat_length_is, routine_fits, line_bytes_fit, bytes_fit, flat_book_has_room, whole_copy_within, no_room, flat_book_there}
use Rattle.flatten.proofs.flatten_taken.Goals as goal

pub overflow_cast-asked : goal.overflow_cast-asked
overflow_cast-asked c = search (routine_fits, c.in_ok-n.was)

pub invariant_of-asked : goal.invariant_of-asked
invariant_of-asked c = search (whole_copy_within, flat_length_is, c.in_ok-n.was)

pub overflow_mul-n : goal.overflow_mul-n
overflow_mul-n c = search (line_bytes_fit, c.in_ok-n.was)

pub overflow_add-n : goal.overflow_add-n
overflow_add-n c = search (bytes_fit, c.in_ok-n.was)

pub returns-then-out-n : goal.returns-then-out-n
unfolding name_told
returns-then-out-n c = search (no_room, c.in_ok-n.was)

pub put_book-requires : goal.put_book-requires
put_book-requires c = search (flat_book_has_room, c.in_ok-n.was)

pub returns-in_err-n : goal.returns-in_err-n
returns-in_err-n c = search (rules, routine_refused)

pub returns : goal.returns
returns c = search (flat_book_there, c.in_ok-n.was)
