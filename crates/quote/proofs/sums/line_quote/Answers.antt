-- `sums::line_quote` keeps the quote of a line.
-- By the kinds of line; CALL and REPEAT look the routine up in the row. Assumes nothing.
use Rattle.std.proofs.Common.{arith}
use Rattle.std.proofs.lemmas.Bool.Decides.{nat_tests}
use Rattle.scope.specs.Book.{book_of}
use Rattle.scope.specs.Quote.{line_quote, quote}
use Rattle.book.proofs.Fits.{CALL_below, REPEAT_below}
use Rattle.book.specs.Told.{line_told}
use Rattle.quote.proofs.Steadiness.{has_a_place_of_32, CALL_there, REPEAT_there}
use Rattle.quote.proofs.Looks.{its_quote}
use Rattle.quote.specs.Sums.{kept}
use Rattle.quote.proofs.sums.line_quote.Goals as goal

pub quote-requires : goal.quote-requires
quote-requires c = search (has_a_place_of_32, CALL_there)

pub quote-requires-in-Repeat : goal.quote-requires-in-Repeat
quote-requires-in-Repeat c = search (has_a_place_of_32, REPEAT_there)

pub returns-in-Inc : goal.returns-in-Inc
unfolding line_quote line_told kept
returns-in-Inc c = grind (arith, nat_tests)

pub returns-in-Call : goal.returns-in-Call
unfolding line_quote line_told
returns-in-Call c = grind (arith, its_quote _ _ c.in-Call.c _ c.requires.looked_below (search CALL_below))

pub returns-in-Repeat : goal.returns-in-Repeat
unfolding line_quote line_told
returns-in-Repeat c =
    let its = its_quote _ _ c.in-Repeat.c _ c.requires.looked_below (search REPEAT_below) in
    grind (arith, c.repeated.ensures (quote (book_of c.args.b.now.bytes.now) c.in-Repeat.c), its)
