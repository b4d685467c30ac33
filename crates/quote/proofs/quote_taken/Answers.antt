-- `quote_taken` answers as the definitions' quote does, for a taken book.
-- Tests 12, 11, 13, 18 and 19 in their order. Assumes nothing.
use Rattle.std.proofs.lemmas.Result.{err_from_is_err_and}
use Rattle.book.specs.Told.{name_told}
use Rattle.flatten.proofs.Answers.{routine_fits}
use Rattle.quote.proofs.Answers.{does_not_flatten, asked_is_there, asked_in_the_rows, not_steady, quote_or_none}
use Rattle.quote.proofs.quote_taken.Goals as goal

pub returns-in_err-flattens : goal.returns-in_err-flattens
returns-in_err-flattens c =
    let p = err_from_is_err_and c.from_residual.result c.from_residual.ensures.1 in
    rw (p.1, p.2) (search (does_not_flatten, c.in_err-flattens.was))

pub overflow_cast-routine : goal.overflow_cast-routine
overflow_cast-routine c = search (routine_fits, c.in_ok-flattens.was)

pub is_steady-requires-clause-routine_lt_routines : goal.is_steady-requires-clause-routine_lt_routines
is_steady-requires-clause-routine_lt_routines c = search (asked_is_there, c.in_ok-flattens.was)

pub returns-then-not-is_steady : goal.returns-then-not-is_steady
unfolding name_told
returns-then-not-is_steady c = search (not_steady, c.in_ok-flattens.was)

pub overflow_cast-routine-2 : goal.overflow_cast-routine-2
overflow_cast-routine-2 c = search (routine_fits, c.in_ok-flattens.was)

pub quote-requires : goal.quote-requires
quote-requires c = search (asked_in_the_rows, c.in_ok-flattens.was)

pub returns : goal.returns
unfolding name_told
returns c = search (quote_or_none, c.in_ok-flattens.was)
