-- Any two answers that satisfy a public function's promise are equal, and so are the last contents of what it was lent to write in.
-- Said of what a caller learns from the contract (`Learnt`): both tell the same, and what tells the same is the same. Assumes nothing.
use Rattle.std.specs.Prelude.{List, Result, Ok, Err, IfOk}
use mathlib.Core.Path.{◌≡◌, refl, sym, ◌∙◌, ap}
use Prim.Native.Nat.{ℕ}
use Rattle.book.specs.declared.refusals.Refusal.{Refusal}
use Rattle.book.specs.declared.header.Counts.{Counts}
use Rattle.book.specs.declared.lines.Line.{Line}
use Rattle.book.specs.declared.flat.Instruction.{Instruction}
use Rattle.book.specs.declared.reader.Book.{Book}
use Rattle.book.proofs.check.Reads as check
use Rattle.book.proofs.read_line.Reads as read_line
use Rattle.book.proofs.refusals.Refusal.at.Reads as refusal_at
use Rattle.book.proofs.refusals.Refusal.of.Reads as refusal_of
use Rattle.book.proofs.refusals.number.Reads as number
use Rattle.book.proofs.numbers.two_byte.Reads as two_byte
use Rattle.book.proofs.numbers.low.Reads as low
use Rattle.book.proofs.numbers.high.Reads as high
use Rattle.book.proofs.numbers.put_bytes.Reads as put_bytes
use Rattle.book.proofs.reader.Book.open.Reads as open_book
use Rattle.book.proofs.reader.Book.first_line.Reads as book_first_line
use Rattle.book.proofs.reader.Book.count.Reads as book_count
use Rattle.book.proofs.reader.Book.line_at.Reads as book_line_at
use Rattle.book.proofs.header.counts_of.Reads as counts_of
use Rattle.book.proofs.table.first_line.Reads as first_line
use Rattle.book.proofs.table.count.Reads as count
use Rattle.book.proofs.lines.line_at.Reads as line_at
use Rattle.book.proofs.flat.put_header.Reads as put_header
use Rattle.book.proofs.flat.put_line.Reads as put_line
use Rattle.book.proofs.flat.instruction_at.Reads as instruction_at
use Rattle.book.specs.Told.{result_told, check_told}
use Rattle.book.specs.Opened.{opened_counts}
use Rattle.book.proofs.Told.{refusals_apart, checks_apart, lines_apart, reads_apart, instructions_apart}

pub check_once : {r r' : Result Counts Refusal} (κs : _) (a : _) (s s' : _) → check.Learnt κs a r s → check.Learnt κs a r' s' → r ≡ r'
check_once κs a s s' p q = checks_apart _ _ (p ∙ sym q)

pub read_line_once : {r r' : Result Line Refusal} (κs : _) (a : _) (s s' : _) → read_line.Learnt κs a r s → read_line.Learnt κs a r' s' → r ≡ r'
read_line_once κs a s s' p q = reads_apart _ _ (p ∙ sym q)

pub refusal_of_once : {r r' : Refusal} (κs : _) (a : _) (s s' : _) → refusal_of.Learnt κs a r s → refusal_of.Learnt κs a r' s' → r ≡ r'
refusal_of_once κs a s s' p q = refusals_apart _ _ (p ∙ sym q)

pub refusal_at_once : {r r' : Refusal} (κs : _) (a : _) (s s' : _) → refusal_at.Learnt κs a r s → refusal_at.Learnt κs a r' s' → r ≡ r'
refusal_at_once κs a s s' p q = refusals_apart _ _ (p ∙ sym q)

pub number_once : {r r' : ℕ} (κs : _) (a : _) (s s' : _) → number.Learnt κs a r s → number.Learnt κs a r' s' → r ≡ r'
number_once κs a s s' p q = p ∙ sym q

pub two_byte_once : {r r' : ℕ} (κs : _) (a : _) (s s' : _) → two_byte.Learnt κs a r s → two_byte.Learnt κs a r' s' → r ≡ r'
two_byte_once κs a s s' p q = p ∙ sym q

pub low_once : {r r' : ℕ} (κs : _) (a : _) (s s' : _) → low.Learnt κs a r s → low.Learnt κs a r' s' → r ≡ r'
low_once κs a s s' p q = p ∙ sym q

pub high_once : {r r' : ℕ} (κs : _) (a : _) (s s' : _) → high.Learnt κs a r s → high.Learnt κs a r' s' → r ≡ r'
high_once κs a s s' p q = p ∙ sym q

pub counts_of_once : {r r' : Counts} (κs : _) (a : _) (s s' : _) → counts_of.Learnt κs a r s → counts_of.Learnt κs a r' s' → r ≡ r'
counts_of_once κs a s s' p q =
    λ i. record { routines = (p.routines_are ∙ sym q.routines_are) i; lines = (p.lines_are ∙ sym q.lines_are) i }

pub first_line_once : {r r' : ℕ} (κs : _) (a : _) (s s' : _) → first_line.Learnt κs a r s → first_line.Learnt κs a r' s' → r ≡ r'
first_line_once κs a s s' p q = p ∙ sym q

pub count_once : {r r' : ℕ} (κs : _) (a : _) (s s' : _) → count.Learnt κs a r s → count.Learnt κs a r' s' → r ≡ r'
count_once κs a s s' p q = p ∙ sym q

pub line_at_once : {r r' : Line} (κs : _) (a : _) (s s' : _) → line_at.Learnt κs a r s → line_at.Learnt κs a r' s' → r ≡ r'
line_at_once κs a s s' p q = lines_apart _ _ (p ∙ sym q)

pub instruction_at_once : {r r' : Instruction} (κs : _) (a : _) (s s' : _)
    → instruction_at.Learnt κs a r s → instruction_at.Learnt κs a r' s' → r ≡ r'
instruction_at_once κs a s s' p q = instructions_apart _ _ (p ∙ sym q)

-- what is left in the output
pub put_header_once : (κs : _) (a : _) (r r' : _) (s s' : _) → put_header.Learnt κs a r s → put_header.Learnt κs a r' s'
    → (r ≡ r') × (s.0.now ≡ s'.0.now)
put_header_once κs a r r' s s' p q = (refl, p ∙ sym q)

pub put_line_once : (κs : _) (a : _) (r r' : _) (s s' : _) → put_line.Learnt κs a r s → put_line.Learnt κs a r' s'
    → (r ≡ r') × (s.0.now ≡ s'.0.now)
put_line_once κs a r r' s s' p q = (refl, p ∙ sym q)

pub put_bytes_once : (g : _) (h : _) (κs : _) (a : _) (r r' : _) (s s' : _) → put_bytes.Learnt g h κs a r s → put_bytes.Learnt g h κs a r' s'
    → (r ≡ r') × (s.0.now ≡ s'.0.now)
put_bytes_once g h κs a r r' s s' p q = (refl, p ∙ sym q)

-- ---- the reader

pub book_first_line_once : {r r' : ℕ} (κs : _) (a : _) (s s' : _) → book_first_line.Learnt κs a r s → book_first_line.Learnt κs a r' s' → r ≡ r'
book_first_line_once κs a s s' p q = p ∙ sym q

pub book_count_once : {r r' : ℕ} (κs : _) (a : _) (s s' : _) → book_count.Learnt κs a r s → book_count.Learnt κs a r' s' → r ≡ r'
book_count_once κs a s s' p q = p ∙ sym q

pub book_line_at_once : {r r' : Line} (κs : _) (a : _) (s s' : _) → book_line_at.Learnt κs a r s → book_line_at.Learnt κs a r' s' → r ≡ r'
book_line_at_once κs a s s' p q = lines_apart _ _ (p ∙ sym q)

-- What is seen of an answer: the counts, and the bytes behind the reference; or the refusal.
abbrev pub seen : Result Book Refusal → Result (Counts × List ℕ) Refusal
seen (Ok k) = Ok (k.counts, k.bytes.now)
seen (Err x) = Err x

abbrev counts_seen : Result Book Refusal → Result Counts Refusal
counts_seen (Ok k) = Ok k.counts
counts_seen (Err x) = Err x

abbrev beside : List ℕ → Result Counts Refusal → Result (Counts × List ℕ) Refusal
beside b (Ok c) = Ok (c, b)
beside b (Err x) = Err x

seen_beside : (b : List ℕ) (r : Result Book Refusal) → IfOk r (λ k. k.bytes.now ≡ b) → seen r ≡ beside b (counts_seen r)
seen_beside b (Ok k) e = ap (λ bytes. Ok (k.counts, bytes)) e
seen_beside b (Err x) e = refl

counts_told_seen : (r : Result Book Refusal) → result_told opened_counts r ≡ check_told (counts_seen r)
unfolding result_told opened_counts
counts_told_seen (Ok k) = refl
counts_told_seen (Err x) = refl

pub open_once : (r r' : Result Book Refusal) (κs : _) (a : _) (s s' : _) → open_book.Learnt κs a r s → open_book.Learnt κs a r' s' → seen r ≡ seen r'
open_once r r' κs a s s' p q =
    seen_beside _ r p.1
    ∙ ap (beside _) (checks_apart _ _ (sym (counts_told_seen r) ∙ p.0 ∙ sym q.0 ∙ counts_told_seen r'))
    ∙ sym (seen_beside _ r' q.1)
