-- Any two answers that satisfy an exported function's promise are equal, and so are the last contents of what it was lent to write in.
-- Said of what a caller learns from the contract (`Learnt`), which is what a caller of the function of that name in `page` learns. Assumes nothing.
use mathlib.Core.Path.{◌≡◌}
use Rattle.page.proofs.Unique as page
use Rattle.page_c.proofs.zn_flatten.Reads as zn_flatten
use Rattle.page_c.proofs.zn_run.Reads as zn_run
use Rattle.page_c.proofs.zn_quote.Reads as zn_quote

pub zn_flatten_once : (κs : _) (a : _) (r r' : _) (s s' : _) → zn_flatten.Learnt κs a r s → zn_flatten.Learnt κs a r' s'
    → (r ≡ r') × (s.1.1.0.now ≡ s'.1.1.0.now)
zn_flatten_once = page.zn_flatten_once

pub zn_run_once : (κs : _) (a : _) (r r' : _) (s s' : _) → zn_run.Learnt κs a r s → zn_run.Learnt κs a r' s'
    → (r ≡ r') × (s.1.1.0.now ≡ s'.1.1.0.now)
zn_run_once = page.zn_run_once

pub zn_quote_once : (κs : _) (a : _) (r r' : _) (s s' : _) → zn_quote.Learnt κs a r s → zn_quote.Learnt κs a r' s' → r ≡ r'
zn_quote_once = page.zn_quote_once
