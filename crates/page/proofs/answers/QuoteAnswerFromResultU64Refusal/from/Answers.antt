-- `answers`: what C is told of a refusal is its number and its place, and 0 beside them.
-- The fields are put together. Assumes nothing.
use borrow.Author.Rules.{rules}
use Rattle.scope.specs.Page.{quote_fields}
use Rattle.book.specs.Told.{refusal_told, result_told}
use Rattle.page.specs.Told.{quote_told}
use Rattle.page.proofs.answers.QuoteAnswerFromResultU64Refusal.from.Goals as goal

pub returns-in-Err : goal.returns-in-Err
unfolding quote_told quote_fields result_told refusal_told
returns-in-Err c = search rules
