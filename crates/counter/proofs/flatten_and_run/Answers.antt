-- `flatten_and_run` prints what the program prints of an input of 74 to 16,598 bytes.
-- Refused as flattening is; else the flat book stands in front of the buffer and is run. Assumes nothing.
use Rattle.counter.proofs.Texts.{room_there, printed_there}
use Rattle.counter.proofs.Served.{shop_prints_its_refusal, lines_fit, flat_book_fits, flat_book_stands_in_front, flat_book_part, shop_prints_the_run_of_it}
use Rattle.counter.proofs.flatten_and_run.Goals as goal

pub put_refusal-requires : goal.put_refusal-requires
put_refusal-requires c = search (room_there, shop_prints_its_refusal)

pub overflow_mul-end : goal.overflow_mul-end
overflow_mul-end c = search lines_fit

pub overflow_add-end : goal.overflow_add-end
overflow_add-end c = search flat_book_fits

pub slice_bounds-flat-end : goal.slice_bounds-flat-end
slice_bounds-flat-end c = search flat_book_stands_in_front

pub slice_bounds-run_and_print-end : goal.slice_bounds-run_and_print-end
slice_bounds-run_and_print-end c = search flat_book_part

pub run_and_print-requires : goal.run_and_print-requires
run_and_print-requires c = search (room_there, shop_prints_the_run_of_it)

pub returns-in-Err : goal.returns-in-Err
returns-in-Err c = search (printed_there, shop_prints_its_refusal)

pub returns-in-Ok : goal.returns-in-Ok
returns-in-Ok c = search (printed_there, shop_prints_the_run_of_it)
