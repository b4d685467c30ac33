-- The samples of document 01 hold: what the definitions say of each case is what the paper says of it.
-- Each side is a list of cases with every field in it, and both are worked out. Assumes nothing.
use mathlib.Core.Path.{◌≡◌, refl}
use mathlib.Core.List.{[], ◌∷◌, map}
use Rattle.scope.specs.Refusals.{TOO_LONG, Verdict, pass, refuse, refusal}
use Rattle.scope.specs.Book.{book_of}
use Rattle.scope.specs.Flattening.{flat_length, flattens_verdict}
use Rattle.scope.specs.Cases.{worked_out}
use Rattle.scope.specs.Samples.{samples, book_H, book_H_one_more}
use Rattle.scope.proofs.Computed.{computed}

abbrev too_long : Verdict
too_long = refuse (refusal TOO_LONG 0)

pub samples_hold : map worked_out samples ≡ samples
unfolding computed
samples_hold = refl

-- H. .. routine 12 has 4,096 lines, .. So is a routine with CALL 12 and one INC (4,097).
pub H_lengths : flat_length (book_of book_H) 12 ∷ flat_length (book_of book_H_one_more) 13 ∷ [] ≡ 4096 ∷ 4097 ∷ []
unfolding computed
H_lengths = refl

-- .. routine 13 is TOO LONG. So is ..
pub H_verdicts : flattens_verdict book_H 12 ∷ flattens_verdict book_H 13 ∷ flattens_verdict book_H_one_more 13 ∷ [] ≡ pass ∷ too_long ∷ too_long ∷ []
unfolding computed
H_verdicts = refl
