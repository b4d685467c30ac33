-- `flat::put_header` leaves the front of a flat book of n lines.
-- Two numbers at a time, each pair behind the last; the book's length fits two bytes, since n is at most 4,096. Assumes nothing.
use borrow.Author.Rules.{rules}
use Rattle.scope.specs.Flattening.{flat_book_bytes}
use Rattle.book.proofs.Written.{header_written}
use Rattle.book.proofs.flat.put_header.Goals as goal

pub put_two-requires : goal.put_two-requires
unfolding flat_book_bytes
put_two-requires c = search rules

pub put_two-requires-2 : goal.put_two-requires-2
unfolding flat_book_bytes
put_two-requires-2 c = search rules

pub put_two-requires-3 : goal.put_two-requires-3
unfolding flat_book_bytes
put_two-requires-3 c = search rules

pub put_two-requires-4 : goal.put_two-requires-4
unfolding flat_book_bytes
put_two-requires-4 c = search rules

pub returns : goal.returns
unfolding flat_book_bytes
returns c = search header_written
