-- `zn_quote` answers C as the page's quote does.
-- It is the quote, its answer field by field. Assumes nothing.
use Rattle.page.proofs.Calls.{quotes_for_C}
use Rattle.page.proofs.zn_quote.Goals as goal

pub returns : goal.returns
returns c = search quotes_for_C
