-- What each answer to C tells: the fields that the definitions of the page's calls give (`Page` of `scope`), one for each of the struct's.
-- Assumes nothing.
use Rattle.scope.specs.Page.{FlattenFields, RunFields, QuoteFields}
use Rattle.page.specs.declared.answers.FlattenAnswer.{FlattenAnswer}
use Rattle.page.specs.declared.answers.RunAnswer.{RunAnswer}
use Rattle.page.specs.declared.answers.QuoteAnswer.{QuoteAnswer}

unfoldable pub flatten_told : FlattenAnswer → FlattenFields
flatten_told r = record { refusal = r.refusal; place = r.place; lines = r.lines }

unfoldable pub run_told : RunAnswer → RunFields
run_told r =
    record {
      refusal = r.refusal;
      place = r.place;
      outcome = r.outcome;
      register = r.register;
      steps = r.steps;
      line = r.line;
    }

unfoldable pub quote_told : QuoteAnswer → QuoteFields
quote_told r = record { refusal = r.refusal; place = r.place; quote = r.quote }
