-- The numbers that document 01 works out itself are what its rules give.
-- Each is a sum of the other numbers of the paper, and is worked out. Assumes nothing.
use Prim.Native.Nat.{ℕ, ◌+◌, ◌*◌}
use mathlib.Core.Path.{◌≡◌, refl}
use native.Mathlib.Omega.{arith}
use Rattle.scope.specs.Book.{most_routines, most_lines, line_table_due, length_due, last_register, most_bytes}
use Rattle.scope.specs.Steps.{register_count}
use Rattle.scope.specs.Flattening.{flat_book_bytes}
use Rattle.scope.specs.Quote.{most_quote}
use Rattle.scope.specs.Page.{registers_length}
use Rattle.scope.specs.Shop.{trailer_length, most_input}

-- The header is .. (12+4R), .. (12+4R+4L). So a book has at most 16,524 bytes.
pub longest_book : length_due most_routines most_lines ≡ most_bytes
unfolding length_due line_table_due
longest_book = refl

-- The result is a book with one routine, 16 bytes plus 4 a line.
pub flat_book_is_a_book_with_one_routine : (n : ℕ) → flat_book_bytes n ≡ length_due 1 n
unfolding flat_book_bytes length_due line_table_due
flat_book_is_a_book_with_one_routine n = omega arith

-- .. 32 registers, two bytes each ..: 64 bytes, numbers 0 to 31
pub registers_two_bytes_each : registers_length ≡ 2 * register_count
registers_two_bytes_each = refl

pub registers_from_0 : last_register + 1 ≡ register_count
registers_from_0 = refl

-- .. and then 74 bytes (routine, 32 registers, two bytes each; budget, eight bytes ..)
pub trailer_sum : trailer_length ≡ 2 + registers_length + 8
trailer_sum = refl

-- .. over 16,598 ..: no book is longer
pub longest_input : most_input ≡ most_bytes + trailer_length
longest_input = refl

-- .. 2^64-1
pub largest_quote : most_quote ≡ 18446744073709551615
largest_quote = refl
