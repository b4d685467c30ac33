-- `naming::line_mask` marks the registers that a line names, itself or by the routine that it uses.
-- By the kinds of line; CALL and REPEAT look the routine up in the row. Assumes nothing.
use Rattle.std.proofs.Common.{⊎_elim}
use Rattle.quote.proofs.Masks.{INC_marked, DEC_marked, GO_TO_marked, CALL_marked, REPEAT_marked}
use Rattle.book.proofs.Fits.{INC_register, DEC_register, REPEAT_register}
use Rattle.flatten.proofs.Rows.{CALL_in_the_row, REPEAT_in_the_row}
use Rattle.quote.proofs.naming.line_mask.Goals as goal

pub only-requires-in-Inc : goal.only-requires-in-Inc
only-requires-in-Inc c = ⊎_elim (λ d. search INC_register) (λ (u, d). search DEC_register) c.in-Inc.is

pub bounds-masks-c : goal.bounds-masks-c
bounds-masks-c c = search CALL_in_the_row

pub only-requires : goal.only-requires
only-requires c = search REPEAT_register

pub bounds-masks-c-in-Repeat : goal.bounds-masks-c-in-Repeat
bounds-masks-c-in-Repeat c = search REPEAT_in_the_row

pub returns-in-Inc : goal.returns-in-Inc
returns-in-Inc c = ⊎_elim (λ d. search INC_marked) (λ (u, d). search DEC_marked) c.in-Inc.is

pub returns-in-GoTo : goal.returns-in-GoTo
returns-in-GoTo c = search GO_TO_marked

pub returns-in-Call : goal.returns-in-Call
returns-in-Call c = search CALL_marked

pub returns-in-Repeat : goal.returns-in-Repeat
returns-in-Repeat c = search REPEAT_marked
