-- Document 01 as definitions: a file for each of its sections, in the paper's order and words. Of what the paper says a reader has to believe only these.
-- "What the counter page does"
-- Built: checking a book (`check_answer`), reading one line of it (`read_answer`), flattening one routine (`flatten_call`), running a flat
-- program (`run_call`), a single bench step (`bench_call`), a quote for the longest run (`quote_answer`), and one program over these
-- (`shop_prints`). What the page in C gets of three of them: `page_flatten`, `page_run`, `page_quote`.
-- Left out: a text language, registers above 65,535, a routine that uses itself, talk with a real unit.

-- the words that the definitions are written in
pub mod Words
-- The machine and the idea of flattening are those of source document 000, chapter 1. REPEAT and the book are our own.
pub mod Ram
-- "The book"
pub mod Book
-- what "Nested reading" and "Running" share
pub mod Steps
-- "Nested reading"
pub mod Nested
-- "Flattening"
pub mod Flattening
-- "Running"
pub mod Running
-- "Steady routines and the quote"
pub mod Quote
-- "Numbers of refusal"
pub mod Refusals
-- "The shop's program and the page"
pub mod Page
pub mod Shop
-- "Samples (starred ones are proved)"
pub mod Cases
pub mod Samples
-- words that the laws of proofs/ need and the definitions of the calls do not
pub mod Moves
pub mod Addresses
pub mod Transitions
pub mod FlatBook
pub mod Depth
pub mod SteadyWords
pub mod Enough
pub mod Given
pub mod GivenByCalls
