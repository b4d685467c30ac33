-- Document 01, "Samples (starred ones are proved)": one table of cases. What the paper states is typed from it, hex as printed there.
-- What it leaves open of a case (bytes of a book told in words, registers and budget of a case without a run) is worked out by hand.
use Rattle.std.specs.Prelude.{ℕ, ◌-◌, List, [], ◌∷◌, ◌++◌, length, take}
use Rattle.scope.specs.Refusals.{accepted}
use Rattle.scope.specs.Steps.{FINISHED, OUT_OF_STEPS, FULL}
use Rattle.scope.specs.Cases.{Sample, Told, cases_of, hex, zeros, ◌but_R◌holds◌, not_steady, quote_too_high}

-- A. Routine 0: INC 1. Routine 1: REPEAT 0, 0. Book in hex: .. Flat book of routine 1: .. Quote 196,606.
-- With R0 = 3, R1 = 4, budget 10 the program prints, whole: FINISHED 10 3, R1 7.
unfoldable pub sample_A : Told
sample_A =
    record {
      book = hex "01 00 02 00 02 00 0C 00 14 00 1C 00, 00 00 01 00, 01 00 01 00, 01 01 00 00, 05 00 00 00";
      routine = 1;
      flat_length = 3;
      flat = hex "01 00 01 00 03 00 0C 00 10 00 1C 00, 00 00 03 00, 02 00 03 00, 01 01 00 00, 03 00 00 00";
      quote = accepted 196606;
      runs = record { registers = zeros but_R 0 holds 3 but_R 1 holds 4; budget = 10; outcome = FINISHED; steps = 10; line = 3; left = zeros but_R 1 holds 7; printed = "FINISHED 10 3\nR1 7\n" } ∷ [];
    }

-- B. Routine 0: DEC 2 to 2; INC 3. Routine 1: INC 2; CALL 0; GO TO 4; INC 4; INC 5. Flat: INC 2; DEC 2 to 3; INC 3; GO TO 5; INC 4; INC 5.
-- Quote 6. From zeros: budget 5 FINISHED, 5 steps; budget 4 OUT OF STEPS at line 5.
-- C. B with R3 = 65,535: budget 3 FULL, register 3, line 2, 2 steps; budget 2 OUT OF STEPS.
unfoldable pub sample_B_and_C : Told
sample_B_and_C =
    record {
      book = hex "01 00 02 00 07 00 0C 00 14 00 30 00, 00 00 02 00, 02 00 05 00, 02 02 02 00, 01 03 00 00, 01 02 00 00, 04 00 00 00, 03 00 04 00, 01 04 00 00, 01 05 00 00";
      routine = 1;
      flat_length = 6;
      flat = hex "01 00 01 00 06 00 0C 00 10 00 28 00, 00 00 06 00, 01 02 00 00, 02 02 03 00, 01 03 00 00, 03 00 05 00, 01 04 00 00, 01 05 00 00";
      quote = accepted 6;
      runs =
          record { registers = zeros; budget = 5; outcome = FINISHED; steps = 5; line = 6; left = zeros but_R 3 holds 1 but_R 5 holds 1; printed = "FINISHED 5 6\nR3 1\nR5 1\n" }
          ∷ record { registers = zeros; budget = 4; outcome = OUT_OF_STEPS; steps = 4; line = 5; left = zeros but_R 3 holds 1; printed = "OUT OF STEPS 4 5\nR3 1\n" }
          ∷ record { registers = zeros but_R 3 holds 65535; budget = 3; outcome = FULL 3; steps = 2; line = 2; left = zeros but_R 3 holds 65535; printed = "FULL 2 2 3\nR3 65535\n" }
          ∷ record { registers = zeros but_R 3 holds 65535; budget = 2; outcome = OUT_OF_STEPS; steps = 2; line = 2; left = zeros but_R 3 holds 65535; printed = "OUT OF STEPS 2 2\nR3 65535\n" }
          ∷ [];
    }

-- D. One routine without lines: flat length 0, quote 0, budget 0 FINISHED.
unfoldable pub sample_D : Told
sample_D =
    record {
      book = hex "01 00 01 00 00 00 0C 00 10 00 10 00, 00 00 00 00";
      routine = 0;
      flat_length = 0;
      flat = hex "01 00 01 00 00 00 0C 00 10 00 10 00, 00 00 00 00";
      quote = accepted 0;
      runs = record { registers = zeros; budget = 0; outcome = FINISHED; steps = 0; line = 0; left = zeros; printed = "FINISHED 0 0\n" } ∷ [];
    }

-- E. REPEAT 9 of an empty routine: DEC 9 to 2; GO TO 0. R9 = 2 takes 5 steps. Quote 131,071.
unfoldable pub sample_E : Told
sample_E =
    record {
      book = hex "01 00 02 00 01 00 0C 00 14 00 18 00, 00 00 00 00, 00 00 01 00, 05 09 00 00";
      routine = 1;
      flat_length = 2;
      flat = hex "01 00 01 00 02 00 0C 00 10 00 18 00, 00 00 02 00, 02 09 02 00, 03 00 00 00";
      quote = accepted 131071;
      runs = record { registers = zeros but_R 9 holds 2; budget = 5; outcome = FINISHED; steps = 5; line = 2; left = zeros; printed = "FINISHED 5 2\n" } ∷ [];
    }

-- F. GO TO 0 alone, budget 7: OUT OF STEPS, 7 steps, line 0; NOT STEADY.
unfoldable pub sample_F : Told
sample_F =
    record {
      book = hex "01 00 01 00 01 00 0C 00 10 00 14 00, 00 00 01 00, 03 00 00 00";
      routine = 0;
      flat_length = 1;
      flat = hex "01 00 01 00 01 00 0C 00 10 00 14 00, 00 00 01 00, 03 00 00 00";
      quote = not_steady;
      runs = record { registers = zeros; budget = 7; outcome = OUT_OF_STEPS; steps = 7; line = 0; left = zeros; printed = "OUT OF STEPS 7 0\n" } ∷ [];
    }

-- G. REPEAT 0 of a routine INC 0: NOT STEADY. (DEC 0 to 3; INC 0; GO TO 0. With R0 = 1 each pass puts back what it took.)
unfoldable pub sample_G : Told
sample_G =
    record {
      book = hex "01 00 02 00 02 00 0C 00 14 00 1C 00, 00 00 01 00, 01 00 01 00, 01 00 00 00, 05 00 00 00";
      routine = 1;
      flat_length = 3;
      flat = hex "01 00 01 00 03 00 0C 00 10 00 1C 00, 00 00 03 00, 02 00 03 00, 01 00 00 00, 03 00 00 00";
      quote = not_steady;
      runs = record { registers = zeros but_R 0 holds 1; budget = 5; outcome = OUT_OF_STEPS; steps = 5; line = 2; left = zeros but_R 0 holds 1; printed = "OUT OF STEPS 5 2\nR0 1\n" } ∷ [];
    }

-- Also REPEAT 0 of a routine DEC 0 to 1. (DEC 0 to 3; DEC 0 to 2; GO TO 0. With R0 = 3 the first pass takes two, the second one, and the
-- third look ends it.)
unfoldable pub sample_G_also : Told
sample_G_also =
    record {
      book = hex "01 00 02 00 02 00 0C 00 14 00 1C 00, 00 00 01 00, 01 00 01 00, 02 00 01 00, 05 00 00 00";
      routine = 1;
      flat_length = 3;
      flat = hex "01 00 01 00 03 00 0C 00 10 00 1C 00, 00 00 03 00, 02 00 03 00, 02 00 02 00, 03 00 00 00";
      quote = not_steady;
      runs = record { registers = zeros but_R 0 holds 3; budget = 7; outcome = FINISHED; steps = 7; line = 3; left = zeros; printed = "FINISHED 7 3\n" } ∷ [];
    }

-- I. Routine 0 INC 31; routine k is REPEAT k-1, k-1: ..
unfoldable pub book_I : List ℕ
book_I = hex "01 00 05 00 05 00 0C 00 20 00 34 00, 00 00 01 00, 01 00 01 00, 02 00 01 00, 03 00 01 00, 04 00 01 00, 01 1F 00 00, 05 00 00 00, 05 01 01 00, 05 02 02 00, 05 03 03 00"

-- .. routine 2 quotes 12,884,705,281, .. (DEC 1 to 5; DEC 0 to 4; INC 31; GO TO 1; GO TO 0. The budget is the largest.)
unfoldable pub sample_I_2 : Told
sample_I_2 =
    record {
      book = book_I;
      routine = 2;
      flat_length = 5;
      flat = hex "01 00 01 00 05 00 0C 00 10 00 24 00, 00 00 05 00, 02 01 05 00, 02 00 04 00, 01 1F 00 00, 03 00 01 00, 03 00 00 00";
      quote = accepted 12884705281;
      runs = record { registers = zeros but_R 0 holds 1 but_R 1 holds 1; budget = 18446744073709551615; outcome = FINISHED; steps = 7; line = 5; left = zeros but_R 31 holds 1; printed = "FINISHED 7 5\nR31 1\n" } ∷ [];
    }

-- .. routine 3 844,399,160,721,406, .. (DEC 2 to 7; DEC 1 to 6; DEC 0 to 5; INC 31; GO TO 2; GO TO 1; GO TO 0.)
unfoldable pub sample_I_3 : Told
sample_I_3 =
    record {
      book = book_I;
      routine = 3;
      flat_length = 7;
      flat = hex "01 00 01 00 07 00 0C 00 10 00 2C 00, 00 00 07 00, 02 02 07 00, 02 01 06 00, 02 00 05 00, 01 1F 00 00, 03 00 02 00, 03 00 01 00, 03 00 00 00";
      quote = accepted 844399160721406;
      runs = record { registers = zeros but_R 2 holds 1; budget = 4; outcome = FINISHED; steps = 4; line = 7; left = zeros; printed = "FINISHED 4 7\n" } ∷ [];
    }

-- .. routine 4 is refused with 19. (DEC 3 to 9; DEC 2 to 8; DEC 1 to 7; DEC 0 to 6; INC 31; GO TO 3; GO TO 2; GO TO 1; GO TO 0.)
unfoldable pub sample_I_4 : Told
sample_I_4 =
    record {
      book = book_I;
      routine = 4;
      flat_length = 9;
      flat = hex "01 00 01 00 09 00 0C 00 10 00 34 00, 00 00 09 00, 02 03 09 00, 02 02 08 00, 02 01 07 00, 02 00 06 00, 01 1F 00 00, 03 00 03 00, 03 00 02 00, 03 00 01 00, 03 00 00 00";
      quote = quote_too_high;
      runs = record { registers = zeros but_R 31 holds 9; budget = 0; outcome = OUT_OF_STEPS; steps = 0; line = 0; left = zeros but_R 31 holds 9; printed = "OUT OF STEPS 0 0\nR31 9\n" } ∷ [];
    }

-- Source document 000, Example 1.24: the program ZERO R1; []*; DEC R2, 1; add3*, flattened. From R1 = 2, R2 = 4 it comes to its end in 18
-- steps (Example 3.39) with R0 = 3. (DEC 1 to 2; GO TO 0; DEC 2 to 2; DEC 1 to 6; INC 0; GO TO 3; DEC 2 to 9; INC 0; GO TO 6; DEC 3 to 12;
-- INC 0; GO TO 9.)
unfoldable pub example_1_24 : Told
example_1_24 =
    record {
      book = hex "01 00 04 00 0F 00 0C 00 1C 00 58 00, 00 00 02 00, 02 00 00 00, 02 00 09 00, 0B 00 04 00, 02 01 02 00, 03 00 00 00, 02 01 03 00, 01 00 00 00, 03 00 00 00, 02 02 06 00, 01 00 00 00, 03 00 03 00, 02 03 09 00, 01 00 00 00, 03 00 06 00, 04 00 00 00, 04 00 01 00, 02 02 01 00, 04 00 02 00";
      routine = 3;
      flat_length = 12;
      flat = hex "01 00 01 00 0C 00 0C 00 10 00 40 00, 00 00 0C 00, 02 01 02 00, 03 00 00 00, 02 02 02 00, 02 01 06 00, 01 00 00 00, 03 00 03 00, 02 02 09 00, 01 00 00 00, 03 00 06 00, 02 03 0C 00, 01 00 00 00, 03 00 09 00";
      quote = not_steady;
      runs = record { registers = zeros but_R 1 holds 2 but_R 2 holds 4; budget = 18; outcome = FINISHED; steps = 18; line = 12; left = zeros but_R 0 holds 3; printed = "FINISHED 18 12\nR0 3\n" } ∷ [];
    }

-- The starred samples are a single table of cases.
unfoldable pub samples : List Sample
samples = cases_of (sample_A ∷ sample_B_and_C ∷ sample_D ∷ sample_E ∷ sample_F ∷ sample_G ∷ sample_G_also ∷ sample_I_2 ∷ sample_I_3 ∷ sample_I_4 ∷ example_1_24 ∷ [])

-- H. Routine 0 INC 0, each next calls the one before twice: routine 12 has 4,096 lines, routine 13 is TOO LONG.
unfoldable pub book_H : List ℕ
book_H =
    hex "01 00 0E 00 1B 00 0C 00 44 00 B0 00"
    ++ hex "00 00 01 00, 01 00 02 00, 03 00 02 00, 05 00 02 00, 07 00 02 00, 09 00 02 00, 0B 00 02 00"
    ++ hex "0D 00 02 00, 0F 00 02 00, 11 00 02 00, 13 00 02 00, 15 00 02 00, 17 00 02 00, 19 00 02 00"
    ++ hex "01 00 00 00, 04 00 00 00, 04 00 00 00, 04 00 01 00, 04 00 01 00, 04 00 02 00, 04 00 02 00, 04 00 03 00, 04 00 03 00"
    ++ hex "04 00 04 00, 04 00 04 00, 04 00 05 00, 04 00 05 00, 04 00 06 00, 04 00 06 00, 04 00 07 00, 04 00 07 00, 04 00 08 00"
    ++ hex "04 00 08 00, 04 00 09 00, 04 00 09 00, 04 00 0A 00, 04 00 0A 00, 04 00 0B 00, 04 00 0B 00, 04 00 0C 00, 04 00 0C 00"

-- So is a routine with CALL 12 and one INC (4,097). (Here it is routine 13.)
unfoldable pub book_H_one_more : List ℕ
book_H_one_more = take (length book_H - 4) book_H ++ hex "01 00 00 00"
