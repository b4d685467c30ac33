-- One name for every definition of specs/ that a worked-out case goes through.
-- A case that opens it is worked out on both sides, down to numbers. Assumes nothing.
use Rattle.scope.specs.Words.{if, listed}
use Rattle.scope.specs.Refusals.{number, ◌and_then◌, first, answer_of, left_of, call_of}
use Rattle.scope.specs.Book.{byte, two_byte, two_bytes, two_bytes_each, format, routines, lines, routine_table, line_table, stated_length, line_table_due, length_due, counts_wrong, offsets_wrong, header_test, header_verdict, first_line, count, first_line_due, entry_verdict, table_verdict, fields_of, line_of, kind_wrong, register_wrong, target_wrong, callee_wrong, line_test, line_offset, fields_at, line_number, fields_in, line_verdict, routine_verdict, lines_verdict, book_verdict, routine, routine_of, book_of, used, said_below, from_the_lowest_up, check_answer, read_verdict, read_answer}
use Rattle.scope.specs.Steps.{value, with_value, adds_one, takes_one_from, takes_one_off, run_on, run_from}
use Rattle.scope.specs.Nested.{come_to, enter_by, enter, leave, settle, nested_step, nested_next, nested_run}
use Rattle.scope.specs.Flattening.{line_length, sum_of, length_by, flat_length, start, copy_line, copy_lines, copy_by, copy, flat_program, bytes_of_fields, as_line, bytes_of_program, flat_header, flat_book, flat_book_bytes, deepest, depth_by, depth, flattens_verdict, flatten_verdict, at_the_front_of, flatten_call}
use Rattle.scope.specs.Running.{flat_step, flat_next, flat_run, instruction_of, program_of, run_verdict, ran, run_call, state, bench_verdict, bench_call}
use Rattle.scope.specs.Quote.{names, some_line, in_or_under_by, in_or_under, named, line_steady, lines_steady, steady_by, steady, line_quote, quote_by, quote, quote_verdict, quote_answer}
use Rattle.scope.specs.Page.{flatten_fields, page_flatten, registers_of, outcome_number, full_register, run_fields, page_run_call, page_run, quote_fields, page_quote}
use Rattle.scope.specs.Shop.{book_read, trailer_read, routine_read, registers_read, low_byte_first, budget_read, ascii, last_digit, decimal_digits, decimal, print_line, outcome_line, register_line, register_lines, print_run, print_refusal, shop_verdict, shop_run, shop_prints_by, shop_prints}
use Rattle.scope.specs.Cases.{low_bytes, standard_input, reading, worked_out, without_gaps, hex_digit, hex_pairs, hex, zeros, ◌but_R◌holds◌, case_of, cases_of, not_steady, quote_too_high}
use Rattle.scope.specs.Samples.{sample_A, sample_B_and_C, sample_D, sample_E, sample_F, sample_G, sample_G_also, book_I, sample_I_2, sample_I_3, sample_I_4, example_1_24, samples, book_H, book_H_one_more}

unfoldable pub computed : Unit {0}
unfolding if listed number ◌and_then◌ first answer_of left_of call_of byte two_byte two_bytes two_bytes_each format routines lines routine_table line_table stated_length line_table_due length_due counts_wrong offsets_wrong header_test header_verdict first_line count first_line_due entry_verdict table_verdict fields_of line_of kind_wrong register_wrong target_wrong callee_wrong line_test line_offset fields_at line_number fields_in line_verdict routine_verdict lines_verdict book_verdict routine routine_of book_of used said_below from_the_lowest_up check_answer read_verdict read_answer value with_value adds_one takes_one_from takes_one_off run_on run_from come_to enter_by enter leave settle nested_step nested_next nested_run line_length sum_of length_by flat_length start copy_line copy_lines copy_by copy flat_program bytes_of_fields as_line bytes_of_program flat_header flat_book flat_book_bytes deepest depth_by depth flattens_verdict flatten_verdict at_the_front_of flatten_call flat_step flat_next flat_run instruction_of program_of run_verdict ran run_call state bench_verdict bench_call names some_line in_or_under_by in_or_under named line_steady lines_steady steady_by steady line_quote quote_by quote quote_verdict quote_answer flatten_fields page_flatten registers_of outcome_number full_register run_fields page_run_call page_run quote_fields page_quote book_read trailer_read routine_read registers_read low_byte_first budget_read ascii last_digit decimal_digits decimal print_line outcome_line register_line register_lines print_run print_refusal shop_verdict shop_run shop_prints_by shop_prints low_bytes standard_input reading worked_out without_gaps hex_digit hex_pairs hex zeros ◌but_R◌holds◌ case_of cases_of not_steady quote_too_high sample_A sample_B_and_C sample_D sample_E sample_F sample_G sample_G_also book_I sample_I_2 sample_I_3 sample_I_4 example_1_24 samples book_H book_H_one_more
computed = tt
