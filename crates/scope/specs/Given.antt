-- Document 01, "Numbers of refusal": the table's third column, "Given exactly when", in plain words, and what "Order" adds to it.
-- The tests of the other files are Bool; here are the same conditions as propositions, row by row. That each refusal is given exactly
-- then is proved in proofs/GivenExactlyWhen and proofs/GivenByCalls. Assumes nothing.
use Rattle.std.specs.Prelude.{ℕ, ◌-◌, ◌<◌, ◌≤◌, ◌≡◌, ◌≢◌, ◌⊎◌, List, length}
use Rattle.scope.specs.Refusals.{SHORT, FORMAT, COUNTS, OFFSETS, LENGTH, ROUTINE, KIND, REGISTER, TARGET, CALLEE, Refusal, refusal}
use Rattle.scope.specs.Book.{the_format, most_routines, most_lines, header_bytes, last_register, format, routines, lines, routine_table, line_table, stated_length, line_table_due, length_due, first_line, count, first_line_due, LineFields, INC_kind, DEC_kind, GO_TO_kind, CALL_kind, REPEAT_kind, line_number, fields_in}

-- | No. | Name | Given exactly when |
-- ---- the header

-- | 1 | SHORT | fewer than 12 bytes |
unfoldable pub Short : List ℕ → Type 0
Short b = length b < header_bytes

-- | 2 | FORMAT | format is not 1 |
unfoldable pub WrongFormat : List ℕ → Type 0
WrongFormat b = format b ≢ the_format

-- | 3 | COUNTS | R is 0 or above 32, or L above 4,096 |
unfoldable pub WrongCounts : List ℕ → Type 0
WrongCounts b = (routines b ≡ 0) ⊎ ((most_routines < routines b) ⊎ (most_lines < lines b))

-- | 4 | OFFSETS | an offset or the stated length is not as above |
unfoldable pub WrongOffsets : List ℕ → Type 0
WrongOffsets b =
    (routine_table b ≢ header_bytes)
    ⊎ ((line_table b ≢ line_table_due (routines b)) ⊎ (stated_length b ≢ length_due (routines b) (lines b)))

-- | 5 | LENGTH | the slice is not as long as stated |
unfoldable pub WrongLength : List ℕ → Type 0
WrongLength b = length b ≢ stated_length b

-- ---- the routine table

-- | 6 | ROUTINE | an entry breaks the table rule |: routine r does not start where it has to, ..
unfoldable pub WrongEntry : List ℕ → ℕ → Type 0
WrongEntry b r = first_line b r ≢ first_line_due b r

-- .. or the last doesn't end at L.
unfoldable pub WrongEnd : List ℕ → Type 0
WrongEnd b = first_line_due b (routines b) ≢ lines b

-- ---- a line, of routine r, which has n lines

-- | 7 | KIND | kind not 1 to 5 |
unfoldable pub WrongKind : LineFields → Type 0
WrongKind f = (f.kind < INC_kind) ⊎ (REPEAT_kind < f.kind)

-- 0 stands as the register of GO TO and CALL.
unfoldable pub ZeroStands : LineFields → Type 0
ZeroStands f = (f.kind ≡ GO_TO_kind) ⊎ (f.kind ≡ CALL_kind)

-- | 8 | REGISTER | above 31, or not 0 where 0 stands |
unfoldable pub WrongRegister : LineFields → Type 0
WrongRegister f = (last_register < f.register) ⊎ (ZeroStands f × (f.register ≢ 0))

-- The operand of DEC and GO TO is a target.
unfoldable pub HasTarget : LineFields → Type 0
HasTarget f = (f.kind ≡ DEC_kind) ⊎ (f.kind ≡ GO_TO_kind)

-- | 9 | TARGET | target past the end, or INC's operand not 0 |
unfoldable pub WrongTarget : LineFields → (n : ℕ) → Type 0
WrongTarget f n = (HasTarget f × (n < f.operand)) ⊎ ((f.kind ≡ INC_kind) × (f.operand ≢ 0))

-- The operand of CALL and REPEAT is a routine.
unfoldable pub HasCallee : LineFields → Type 0
HasCallee f = (f.kind ≡ CALL_kind) ⊎ (f.kind ≡ REPEAT_kind)

-- | 10 | CALLEE | routine not below its own |
unfoldable pub WrongCallee : LineFields → (r : ℕ) → Type 0
WrongCallee f r = HasCallee f × (r ≤ f.operand)

pub record GoodLine (f : LineFields) (r n : ℕ) : Type 0 where
  pub kind_right : ¬ WrongKind f
  pub register_right : ¬ WrongRegister f
  pub target_right : ¬ WrongTarget f n
  pub callee_right : ¬ WrongCallee f r

-- line j of routine r is good
unfoldable pub GoodIn : List ℕ → (r j : ℕ) → Type 0
GoodIn b r j = GoodLine (fields_in b r j) r (count b r)

-- A book is good if none of 1 to 10 is wrong with it.
pub record GoodBook (b : List ℕ) : Type 0 where
  pub not_short : ¬ Short b
  pub format_right : ¬ WrongFormat b
  pub counts_right : ¬ WrongCounts b
  pub offsets_right : ¬ WrongOffsets b
  pub length_right : ¬ WrongLength b
  pub entries_right : (r : ℕ) → r < routines b → ¬ WrongEntry b r
  pub end_right : ¬ WrongEnd b
  pub lines_good : (r j : ℕ) → r < routines b → j < count b r → GoodIn b r j

-- ---- Order: 1 to 6, then the lines from the first, each tested 7, 8, 9, 10; ..

unfoldable pub PastShort : List ℕ → Type 0
PastShort b = ¬ Short b

unfoldable pub PastFormat : List ℕ → Type 0
PastFormat b = PastShort b × (¬ WrongFormat b)

unfoldable pub PastCounts : List ℕ → Type 0
PastCounts b = PastFormat b × (¬ WrongCounts b)

unfoldable pub PastOffsets : List ℕ → Type 0
PastOffsets b = PastCounts b × (¬ WrongOffsets b)

unfoldable pub PastLength : List ℕ → Type 0
PastLength b = PastOffsets b × (¬ WrongLength b)

-- past the entries below routine r
unfoldable pub PastEntries : List ℕ → (r : ℕ) → Type 0
PastEntries b r = PastLength b × ((q : ℕ) → q < r → ¬ WrongEntry b q)

unfoldable pub PastRoutine : List ℕ → Type 0
PastRoutine b = PastEntries b (routines b) × (¬ WrongEnd b)

-- .. the lowest bad line is the one named, found routine by routine: line j of routine r is tested where every line of a lower number in
-- the whole book, in whichever routine it stands, is good.
pub record ComesTo (b : List ℕ) (r j : ℕ) : Type 0 where
  pub past_ROUTINE : PastRoutine b
  pub in_the_book : r < routines b
  pub in_the_routine : j < count b r
  pub lower_lines_good : (q i : ℕ) → q < routines b → i < count b q → line_number b q i < line_number b r j → GoodIn b q i

unfoldable pub PastKind : List ℕ → (r j : ℕ) → Type 0
PastKind b r j = ComesTo b r j × (¬ WrongKind (fields_in b r j))

unfoldable pub PastRegister : List ℕ → (r j : ℕ) → Type 0
PastRegister b r j = PastKind b r j × (¬ WrongRegister (fields_in b r j))

unfoldable pub PastTarget : List ℕ → (r j : ℕ) → Type 0
PastTarget b r j = PastRegister b r j × (¬ WrongTarget (fields_in b r j) (count b r))

-- What is given for a book: the first of 1 to 10 that is wrong. A refusal carries its place: the routine for 6 (the lowest whose entry is
-- wrong; the last also if it doesn't end at L), the line counted over the whole book for 7 to 10, else 0.
pub data Given (b : List ℕ) : Refusal → Type 0 where
  gives_SHORT : Short b → Given b (refusal SHORT 0)
  gives_FORMAT : PastShort b → WrongFormat b → Given b (refusal FORMAT 0)
  gives_COUNTS : PastFormat b → WrongCounts b → Given b (refusal COUNTS 0)
  gives_OFFSETS : PastCounts b → WrongOffsets b → Given b (refusal OFFSETS 0)
  gives_LENGTH : PastOffsets b → WrongLength b → Given b (refusal LENGTH 0)
  gives_ROUTINE : (r : ℕ) → PastEntries b r → r < routines b → WrongEntry b r → Given b (refusal ROUTINE r)
  gives_ROUTINE_last : PastEntries b (routines b) → WrongEnd b → Given b (refusal ROUTINE (routines b - 1))
  gives_KIND : (r j : ℕ) → ComesTo b r j → WrongKind (fields_in b r j) → Given b (refusal KIND (line_number b r j))
  gives_REGISTER : (r j : ℕ) → PastKind b r j → WrongRegister (fields_in b r j) → Given b (refusal REGISTER (line_number b r j))
  gives_TARGET : (r j : ℕ) → PastRegister b r j → WrongTarget (fields_in b r j) (count b r) → Given b (refusal TARGET (line_number b r j))
  gives_CALLEE : (r j : ℕ) → PastTarget b r j → WrongCallee (fields_in b r j) r → Given b (refusal CALLEE (line_number b r j))
