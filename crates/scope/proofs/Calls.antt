-- The calls that the table of samples does not reach answer as document 01 says: checking, reading, the bench step, the page's three.
-- They are asked about samples A, B, C, F and I, and both sides are worked out. Assumes nothing.
use Prim.Native.Nat.{ℕ}
use mathlib.Core.Path.{◌≡◌, refl}
use mathlib.Core.List.{List, [], ◌∷◌, ◌++◌}
use Rattle.scope.specs.Words.{listed}
use Rattle.scope.specs.Refusals.{accepted, Call}
use Rattle.scope.specs.Book.{two_bytes_each, check_answer, read_answer}
use Rattle.scope.specs.Steps.{Registers, Outcome, FINISHED, OUT_OF_STEPS, FULL}
use Rattle.scope.specs.Running.{Ran, run_call, State, bench_call}
use Rattle.scope.specs.Page.{page_flatten, page_run, page_quote}
use Rattle.scope.specs.Shop.{ascii, shop_prints}
use Rattle.scope.specs.Cases.{standard_input, hex, zeros, ◌but_R◌holds◌}
use Rattle.scope.specs.Samples.{sample_A, sample_B_and_C, sample_F, book_I}
use Rattle.scope.proofs.Computed.{computed}

-- B has two routines and seven lines; line 0 of its routine 0 is DEC 2 to 2, line 2 of its routine 1 GO TO 4.
pub B_is_taken : check_answer sample_B_and_C.book ≡ accepted (record { routine_count = 2; line_count = 7 })
unfolding computed
B_is_taken = refl

pub B_lines :
    read_answer sample_B_and_C.book 0 0 ∷ read_answer sample_B_and_C.book 1 2 ∷ []
    ≡ accepted (record { kind = 2; register = 2; operand = 2 }) ∷ accepted (record { kind = 3; register = 0; operand = 4 }) ∷ []
unfolding computed
B_lines = refl

-- A run starts at the line that is asked for: from line 4 of B's flat book, INC 4 and INC 5.
pub B_from_line_4 :
    run_call sample_B_and_C.flat 4 zeros 9
    ≡ record { answer = accepted (record { outcome = FINISHED; steps = 2; line = 6 }); left = zeros but_R 4 holds 1 but_R 5 holds 1 }
unfolding computed
B_from_line_4 = refl

-- The bench step answers as a run with a budget of 1: a step that is done and does not end the run, one that ends it, the end, and FULL.
abbrev stepped : Outcome → (steps line : ℕ) → Registers → Call Ran State
stepped o s l rs = record { answer = accepted (record { outcome = o; steps = s; line = l }); left = record { line = l; registers = rs } }

pub bench_steps :
    bench_call sample_B_and_C.flat (record { line = 0; registers = zeros })
    ∷ bench_call sample_B_and_C.flat (record { line = 5; registers = zeros })
    ∷ bench_call sample_B_and_C.flat (record { line = 6; registers = zeros })
    ∷ bench_call sample_B_and_C.flat (record { line = 2; registers = zeros but_R 3 holds 65535 })
    ∷ []
    ≡ stepped OUT_OF_STEPS 1 1 (zeros but_R 2 holds 1)
    ∷ stepped FINISHED 1 6 (zeros but_R 5 holds 1)
    ∷ stepped FINISHED 0 6 zeros
    ∷ stepped (FULL 3) 0 2 (zeros but_R 3 holds 65535)
    ∷ []
unfolding computed
bench_steps = refl

-- The page flattens A's routine 1 into 30 lent bytes, of which the last two stay. 27 bytes are one too few, and none is written.
abbrev lent : ℕ → List ℕ
lent n = listed (λ i. 0xEE) 0 n

pub A_on_the_page :
    page_flatten sample_A.book 1 (lent 30) ∷ page_flatten sample_A.book 1 (lent 27) ∷ []
    ≡ record { fields = record { refusal = 0; place = 0; lines = 3 }; left = sample_A.flat ++ lent 2 }
    ∷ record { fields = record { refusal = 14; place = 0; lines = 0 }; left = lent 27 }
    ∷ []
unfolding computed
A_on_the_page = refl

-- The page runs C with a budget of 3 and of 2, B from line 4, and is turned away with 63 bytes of registers, of which it changes none.
pub C_on_the_page :
    page_run sample_B_and_C.flat 0 (two_bytes_each (zeros but_R 3 holds 65535)) 3
    ∷ page_run sample_B_and_C.flat 0 (two_bytes_each (zeros but_R 3 holds 65535)) 2
    ∷ page_run sample_B_and_C.flat 4 (two_bytes_each zeros) 9
    ∷ page_run sample_B_and_C.flat 0 (lent 63) 3
    ∷ []
    ≡ record {
      fields = record { refusal = 0; place = 0; outcome = 3; register = 3; steps = 2; line = 2 };
      left = two_bytes_each (zeros but_R 3 holds 65535);
    }
    ∷ record {
      fields = record { refusal = 0; place = 0; outcome = 2; register = 0; steps = 2; line = 2 };
      left = two_bytes_each (zeros but_R 3 holds 65535);
    }
    ∷ record {
      fields = record { refusal = 0; place = 0; outcome = 1; register = 0; steps = 2; line = 6 };
      left = two_bytes_each (zeros but_R 4 holds 1 but_R 5 holds 1);
    }
    ∷ record { fields = record { refusal = 16; place = 0; outcome = 0; register = 0; steps = 0; line = 0 }; left = lent 63 }
    ∷ []
unfolding computed
C_on_the_page = refl

pub I_on_the_page :
    page_quote book_I 3 ∷ page_quote book_I 4 ∷ page_quote book_I 5 ∷ []
    ≡ record { refusal = 0; place = 0; quote = 844399160721406 }
    ∷ record { refusal = 19; place = 0; quote = 0 }
    ∷ record { refusal = 12; place = 0; quote = 0 }
    ∷ []
unfolding computed
I_on_the_page = refl

-- The page is told the place of a refusal: sample A with a bad kind in line 1.
pub a_place_on_the_page :
    page_quote (hex "01 00 02 00 02 00 0C 00 14 00 1C 00, 00 00 01 00, 01 00 01 00, 01 01 00 00, 06 00 00 00") 1
    ≡ record { refusal = 7; place = 1; quote = 0 }
unfolding computed
a_place_on_the_page = refl

-- The program reads all of the budget's bytes: F with a budget of 300.
pub F_with_300 : shop_prints (standard_input sample_F.book 0 zeros 300) ≡ ascii "OUT OF STEPS 300 0\n"
unfolding computed
F_with_300 = refl
