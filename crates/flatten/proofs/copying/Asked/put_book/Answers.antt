-- `Asked::put_book` writes the flat book of a routine at the front of the output.
-- The header, and behind it the lines. Assumes nothing.
use Rattle.flatten.proofs.Putting.{few_lines, header_has_room, flat_book_written}
use Rattle.flatten.proofs.copying.Asked.put_book.Goals as goal

pub put_header-requires : goal.put_header-requires
put_header-requires c = search (few_lines, header_has_room)

pub returns : goal.returns
returns c = search flat_book_written
