-- `flat::put_line` leaves the bytes of an instruction at flat line i.
-- The four bytes that are put are its fields. Assumes nothing.
use borrow.Author.Rules.{rules}
use Rattle.scope.specs.Flattening.{flat_book_bytes}
use Rattle.book.proofs.Written.{fields_put}
use Rattle.book.proofs.flat.put_line.Goals as goal

pub overflow_mul-at : goal.overflow_mul-at
unfolding flat_book_bytes
overflow_mul-at c = search rules

pub overflow_add-at : goal.overflow_add-at
unfolding flat_book_bytes
overflow_add-at c = search rules

pub put_bytes-requires : goal.put_bytes-requires
unfolding flat_book_bytes
put_bytes-requires c = search rules

pub returns : goal.returns
unfolding flat_book_bytes
returns c = search fields_put
